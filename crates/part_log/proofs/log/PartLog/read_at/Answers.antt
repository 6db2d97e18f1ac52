use Rattle.std.proofs.Common.{◌≡◌, false, refl, sym, ◌∙◌, subst}
use Rattle.outside.specs.Causes.{Rose}
use Rattle.part_log.specs.Log.{LogState, LogTable, IsTable, HasRecordAt}
use Rattle.part_log.proofs.Visible.{log_same, visible}
use Rattle.part_log.proofs.Tables.{table_of}
use Rattle.part_log.proofs.log.PartLog.read_at.Goals as goal

pub invariant_of-self : goal.invariant_of-self
invariant_of-self g c =
    let s = c.self.inside in
    let table : LogTable = table_of s.settings s.segments.items s.next_generation s.end s.slots s.tokens in
    let good : IsTable table = c.self.invariant.0 in
    let old = g.D.Disk.content s.disk in
    let new = g.D.Disk.content c.read_placed.new.disk in (
      good,
      c.read_placed.ensures.size ∙ c.self.invariant.1,
      λ t up. let standing = c.self.invariant.2 t up in (standing.0, log_same table old new standing.0 (c.read_placed.ensures.during t) (c.read_placed.ensures.seen t) standing.1, standing.2),
    )

pub invariant_of-self-in-Err-Memory : goal.invariant_of-self-in-Err-Memory
invariant_of-self-in-Err-Memory g c =
    let s = c.self.inside in
    let table : LogTable = table_of s.settings s.segments.items s.next_generation s.end s.slots s.tokens in
    let good : IsTable table = c.self.invariant.0 in
    let old = g.D.Disk.content s.disk in
    let new = g.D.Disk.content c.read_placed.new.disk in (
      good,
      c.read_placed.ensures.size ∙ c.self.invariant.1,
      λ t up. let standing = c.self.invariant.2 t up in (standing.0, log_same table old new standing.0 (c.read_placed.ensures.during t) (c.read_placed.ensures.seen t) standing.1, standing.2),
    )

pub returns-in-Ok-clause-read : goal.returns-in-Ok-clause-read
returns-in-Ok-clause-read g c =
    let s = c.self.inside in
    let table : LogTable = table_of s.settings s.segments.items s.next_generation s.end s.slots s.tokens in
    let good : IsTable table = c.self.invariant.0 in
    let old = g.D.Disk.content s.disk in
    let new = g.D.Disk.content c.read_placed.new.disk in
    rw (← c.self.view_is) (λ t placed log entry there. c.in-Ok.ensures.read t entry there.0 there.1 (visible table old placed (record { entry = entry; text = there.0; place = c.args.place }) good log there.2))

pub returns-in-Ok-clause-kept : goal.returns-in-Ok-clause-kept
returns-in-Ok-clause-kept g c =
    let s = c.self.inside in
    let table : LogTable = table_of s.settings s.segments.items s.next_generation s.end s.slots s.tokens in
    let good : IsTable table = c.self.invariant.0 in
    let old = g.D.Disk.content s.disk in
    let new = g.D.Disk.content c.read_placed.new.disk in
    rw (← c.self.view_is) (λ t placed log. log_same table old new placed (c.read_placed.ensures.during t) (c.read_placed.ensures.seen t) log)

pub returns-in-Err-Failed-clause-kept : goal.returns-in-Err-Failed-clause-kept
returns-in-Err-Failed-clause-kept g c =
    let s = c.self.inside in
    let table : LogTable = table_of s.settings s.segments.items s.next_generation s.end s.slots s.tokens in
    let good : IsTable table = c.self.invariant.0 in
    let old = g.D.Disk.content s.disk in
    let new = g.D.Disk.content c.read_placed.new.disk in
    rw (← c.self.view_is) (λ t placed log. log_same table old new placed (c.read_placed.ensures.during t) (c.read_placed.ensures.seen t) log)

pub returns-in-Err-Memory-clause-kept : goal.returns-in-Err-Memory-clause-kept
returns-in-Err-Memory-clause-kept g c =
    let s = c.self.inside in
    let table : LogTable = table_of s.settings s.segments.items s.next_generation s.end s.slots s.tokens in
    let good : IsTable table = c.self.invariant.0 in
    let old = g.D.Disk.content s.disk in
    let new = g.D.Disk.content c.read_placed.new.disk in
    rw (← c.self.view_is) (λ t placed log. log_same table old new placed (c.read_placed.ensures.during t) (c.read_placed.ensures.seen t) log)

pub returns-in-Err-Failed-clause-failed : goal.returns-in-Err-Failed-clause-failed
returns-in-Err-Failed-clause-failed g c =
    let s = c.self.inside in
    let table : LogTable = table_of s.settings s.segments.items s.next_generation s.end s.slots s.tokens in
    let good : IsTable table = c.self.invariant.0 in
    let old = g.D.Disk.content s.disk in
    let new = g.D.Disk.content c.read_placed.new.disk in
    let has = subst (λ (v : LogState g.row.D.Denot). g.D.Disk.tells → v.down ≡ false → HasRecordAt v.table (g.D.Disk.content v.disk) c.args.place c.args.len) (sym c.self.view_is) c.requires.visible in
    let rose : g.D.Disk.tells → Rose (g.D.Disk.faults s.disk) (g.D.Disk.faults c.read_placed.new.disk) = λ t.
    let here = has t c.if-self.false in
    let failed = rw c.in-Err-Failed.field-0-is at c.in-Err-Failed.ensures.failed in
    failed refl t here.entry here.there.0 here.there.1 (visible table old here.placed (record { entry = here.entry; text = here.there.0; place = c.args.place }) good here.log here.there.2) in
    rw (← c.self.view_is) (λ is. (refl, rose))
