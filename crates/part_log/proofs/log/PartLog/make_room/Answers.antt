use Rattle.std.proofs.Common.{◌≡◌, ℕ, Bool, if◌then◌else◌, sym, ◌∙◌, ap, subst}
use Rattle.disk_core.specs.Content.{ChangesBy}
use Rattle.part_log.specs.Records.{records_of}
use Rattle.part_log.specs.Images.{KeepsLog}
use Rattle.part_log.specs.Segments.{last_segment}
use Rattle.part_log.specs.Layout.{with_new_segment}
use Rattle.part_log.specs.Log.{layout_of, least_free, target_of}
use Rattle.part_log.proofs.Room.{nothing_kept}
use Rattle.part_log.proofs.Staying.{visible_there}
use Rattle.part_log.proofs.Tables.{table_of}
use Rattle.part_log.proofs.log.PartLog.make_room.Goals as goal

pub returns-in_err-reserve-clause-during : goal.returns-in_err-reserve-clause-during
returns-in_err-reserve-clause-during g c =
    let s = c.self.inside in
    let table = table_of s.settings s.segments.items s.next_generation s.end s.slots s.tokens in
    rw (← c.self.view_is) (λ t placed log. nothing_kept table (target_of table c.args.size) (g.D.Disk.content s.disk) placed c.self.invariant.0 log)

pub returns-in_err-reserve-clause-visible : goal.returns-in_err-reserve-clause-visible
returns-in_err-reserve-clause-visible g c =
    let s = c.self.inside in
    let table = table_of s.settings s.segments.items s.next_generation s.end s.slots s.tokens in
    rw (← c.self.view_is) (λ t placed log. visible_there table c.self.invariant.0 (g.D.Disk.content s.disk) placed log)

pub returns-then-fits-clause-during : goal.returns-then-fits-clause-during
returns-then-fits-clause-during g c =
    let s = c.self.inside in
    let table = table_of s.settings s.segments.items s.next_generation s.end s.slots s.tokens in
    rw (← c.self.view_is) (λ t placed log. nothing_kept table (target_of table c.args.size) (g.D.Disk.content s.disk) placed c.self.invariant.0 log)

pub returns-else-fits-clause-during : goal.returns-else-fits-clause-during
returns-else-fits-clause-during g c =
    let s = c.self.inside in
    let table = table_of s.settings s.segments.items s.next_generation s.end s.slots s.tokens in
    let is : target_of table c.args.size ≡ least_free table = ap (λ (b : Bool). if b then last_segment table.segments else least_free table) (sym c.fits.ensures.fits ∙ c.if-fits.false) in
    rw (← c.self.view_is) (λ t placed log.
    subst (λ (f : ℕ). ChangesBy (KeepsLog table.settings f (records_of placed) table.end) (g.D.Disk.content s.disk) (g.D.Disk.content c.add_segment.new.self.disk)) (sym is) (c.add_segment.ensures.during t placed log))

pub returns-then-fits-clause-visible : goal.returns-then-fits-clause-visible
returns-then-fits-clause-visible g c =
    let s = c.self.inside in
    let table = table_of s.settings s.segments.items s.next_generation s.end s.slots s.tokens in
    rw (← c.self.view_is) (λ t placed log. visible_there table c.self.invariant.0 (g.D.Disk.content s.disk) placed log)

pub returns-then-fits-clause-layout : goal.returns-then-fits-clause-layout
returns-then-fits-clause-layout g c =
    let s = c.self.inside in
    let table = table_of s.settings s.segments.items s.next_generation s.end s.slots s.tokens in
    rw (← c.self.view_is) (ap (λ (b : Bool). if b then layout_of table else with_new_segment (layout_of table)) (sym c.if-fits.true ∙ c.fits.ensures.fits))

pub returns-else-fits-clause-roomy : goal.returns-else-fits-clause-roomy
returns-else-fits-clause-roomy g c = rw (← c.self.view_is) c.add_segment.ensures.rolled

pub returns-else-fits-clause-visible : goal.returns-else-fits-clause-visible
returns-else-fits-clause-visible g c = rw (← c.self.view_is) c.add_segment.ensures.visible
