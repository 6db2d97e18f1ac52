use Rattle.std.proofs.Common.{◌∙◌}
use Rattle.part_log.proofs.log.PartLog.open.Goals as goal

pub invariant_of-result : goal.invariant_of-result
invariant_of-result g c = (c.in-Ok.ensures.table, c.open_disk.ensures.disk_size ∙ c.requires.size, λ t up. let found = c.in-Ok.ensures.opened t in (found.0, found.1.log, found.1.marks))

pub returns-in-Ok-clause-records : goal.returns-in-Ok-clause-records
returns-in-Ok-clause-records g c = λ t. let found = c.in-Ok.ensures.opened t in (found.0, found.1.log, found.1.stands, found.2)

pub returns-in-Ok-clause-laid_out : goal.returns-in-Ok-clause-laid_out
returns-in-Ok-clause-laid_out g c = λ t. let found = c.in-Ok.ensures.opened t in found.1.laid_out
