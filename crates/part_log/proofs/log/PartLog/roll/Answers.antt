use Rattle.part_log.specs.Log.{LogTable, IsTable, least_free}
use Rattle.part_log.proofs.Room.{nothing_kept}
use Rattle.part_log.proofs.Tables.{table_of}
use Rattle.part_log.proofs.log.PartLog.roll.Goals as goal

pub returns-then-self-clause-during : goal.returns-then-self-clause-during
returns-then-self-clause-during g c =
    let s = c.self.inside in
    let table : LogTable = table_of s.settings s.segments.items s.next_generation s.end s.slots s.tokens in
    let good : IsTable table = c.self.invariant.0 in
    rw (← c.self.view_is) (λ t placed log. nothing_kept table (least_free table) (g.D.Disk.content s.disk) placed good log)

pub returns-then-takes_no_segment-clause-during : goal.returns-then-takes_no_segment-clause-during
returns-then-takes_no_segment-clause-during g c =
    let s = c.self.inside in
    let table : LogTable = table_of s.settings s.segments.items s.next_generation s.end s.slots s.tokens in
    let good : IsTable table = c.self.invariant.0 in
    rw (← c.self.view_is) (λ t placed log. nothing_kept table (least_free table) (g.D.Disk.content s.disk) placed good log)
