use Rattle.part_log.proofs.Scanning.{only_same}
use Rattle.part_log.proofs.opening.load_tokens.Goals as goal

pub returns-clause-only : goal.returns-clause-only
returns-clause-only g c = λ t only. only_same (g.D.Disk.content c.args.disk.now) (g.D.Disk.content c.load.new.disk) (c.load.ensures.during t) (c.load.ensures.seen t) only
