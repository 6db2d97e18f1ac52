use Rattle.part_log.specs.Log.{LogTable}
use Rattle.part_log.proofs.Layouts.{log_layout}
use Rattle.part_log.proofs.Tables.{table_of}
use Rattle.part_log.proofs.log.PartLog.close.Goals as goal

pub returns-clause-laid_out : goal.returns-clause-laid_out
returns-clause-laid_out g c =
    let s = c.self.inside in
    let table : LogTable = table_of s.settings s.segments.items s.next_generation s.end s.slots s.tokens in
    rw (← c.self.view_is) (λ t up bytes image. let standing = c.self.invariant.2 t up in log_layout table (g.D.Disk.content s.disk) standing.0 c.self.invariant.0 standing.1 bytes image)
