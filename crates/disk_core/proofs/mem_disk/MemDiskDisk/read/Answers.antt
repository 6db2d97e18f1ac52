use Rattle.std.proofs.Common.{arith, rules}
use Rattle.disk_core.specs.MemDisk.{content_of}
use Rattle.disk_core.proofs.Calls.{read_some, read_none}
use Rattle.disk_core.proofs.mem_disk.MemDiskDisk.read.Goals as goal

pub returns-then-fails-clause-told : goal.returns-then-fails-clause-told
returns-then-fails-clause-told c = λ t. read_none _ c.args.at _ (content_of c.args.self.now)

pub returns-clause-told : goal.returns-clause-told
returns-clause-told c = λ t. read_some _ c.args.at _ (content_of c.args.self.now) (grind (arith, rules))
