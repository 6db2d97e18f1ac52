use Rattle.std.proofs.Common.{◌≡◌, ℕ, List, false, sym, ◌∙◌, subst}
use Rattle.disk_core.specs.Content.{Content, ChangesBy}
use Rattle.gate_slots.specs.Gate.{IsShut, IsZeroed}
use Rattle.gate_slots.proofs.Gates.{now_zeroed, zeroed_shut}
use Rattle.part_log.specs.Records.{Placed, records_of}
use Rattle.part_log.specs.Images.{KeepsLog}
use Rattle.part_log.specs.Segments.{place_of, is_among}
use Rattle.part_log.specs.Log.{LogState, LogTable, IsLog}
use Rattle.part_log.proofs.Room.{nothing_kept}
use Rattle.part_log.proofs.Blanks.{blank_keeps, blank_stays}
use Rattle.part_log.proofs.Tables.{table_of}
use Rattle.part_log.proofs.log.PartLog.blank.Goals as goal
use Rattle.part_log.proofs.log.PartLog.blank.Goals.{After-write_synced}

-- A log with these records, before a segment's gate was closed and after that.
record Blanks (table : LogTable) (segment : ℕ) (old new : Content) (placed : List Placed) : Type 0 where
  keeps : ChangesBy (KeepsLog table.settings segment (records_of placed) table.end) old new
  stays : IsLog table new placed

blanks : (g : _) (c : After-write_synced g) → (t : g.D.Disk.tells)
    → (let s = c.self.inside in let table = table_of s.settings s.segments.items s.next_generation s.end s.slots s.tokens in
    (placed : List Placed) → IsLog table (g.D.Disk.content s.disk) placed → Blanks table c.args.segment (g.D.Disk.content s.disk) (g.D.Disk.content c.write_synced.new.disk) placed)
blanks g c = λ t placed log.
    let s = c.self.inside in
    let table = table_of s.settings s.segments.items s.next_generation s.end s.slots s.tokens in
    let free = subst (λ (v : LogState g.row.D.Denot). is_among c.args.segment v.table.segments ≡ false) (sym c.self.view_is) c.requires.free in
    let old = g.D.Disk.content s.disk in
    let new = g.D.Disk.content c.write_synced.new.disk in
    let place_is = c.place_of-place.ensures.place in
    record {
      keeps = blank_keeps table c.args.segment c.place_of-place.result c.self.invariant.0 free place_is old new placed log (c.write_synced.ensures.told t).during;
      stays = blank_stays table c.args.segment c.place_of-place.result c.self.invariant.0 free place_is old new placed log (c.write_synced.ensures.told t).during (c.write_synced.ensures.outside t);
    }

pub returns-then-self-clause-during : goal.returns-then-self-clause-during
returns-then-self-clause-during g c =
    let s = c.self.inside in
    let table = table_of s.settings s.segments.items s.next_generation s.end s.slots s.tokens in
    rw (← c.self.view_is) (λ t placed log. nothing_kept table c.args.segment (g.D.Disk.content s.disk) placed c.self.invariant.0 log)

pub invariant_of-self : goal.invariant_of-self
invariant_of-self g c = (
  c.self.invariant.0,
  c.write_synced.ensures.size ∙ c.self.invariant.1,
  λ t up. let standing = c.self.invariant.2 t up in (standing.0, (blanks g (goal.at.invariant_of-self g c).After-write_synced t standing.0 standing.1).stays, standing.2),
)

pub returns-in-Ok-clause-during : goal.returns-in-Ok-clause-during
returns-in-Ok-clause-during g c = rw (← c.self.view_is) (λ t placed log. (blanks g (goal.at.returns-in-Ok-clause-during g c).After-write_synced t placed log).keeps)

pub returns-in-Ok-clause-kept : goal.returns-in-Ok-clause-kept
returns-in-Ok-clause-kept g c = rw (← c.self.view_is) (λ t placed log. (blanks g (goal.at.returns-in-Ok-clause-kept g c).After-write_synced t placed log).stays)

pub returns-in-Err-clause-during : goal.returns-in-Err-clause-during
returns-in-Err-clause-during g c = rw (← c.self.view_is) (λ t placed log. (blanks g (goal.at.returns-in-Err-clause-during g c).After-write_synced t placed log).keeps)

pub returns-in-Err-clause-kept : goal.returns-in-Err-clause-kept
returns-in-Err-clause-kept g c = rw (← c.self.view_is) (λ t placed log. (blanks g (goal.at.returns-in-Err-clause-kept g c).After-write_synced t placed log).stays)

pub returns-in-Ok-clause-zero : goal.returns-in-Ok-clause-zero
returns-in-Ok-clause-zero g c =
    let s = c.self.inside in
    let old = g.D.Disk.content s.disk in
    let new = g.D.Disk.content c.write_synced.new.disk in
    let zero : (t : g.D.Disk.tells) → IsZeroed (place_of s.settings.segment c.args.segment) new = λ t.
    subst (λ (k : ℕ). IsZeroed k new) c.place_of-place.ensures.place (now_zeroed c.place_of-place.result old new (c.in-Ok.ensures.told t).written (c.in-Ok.ensures.told t).only) in
    rw (← c.self.view_is) zero

pub returns-in-Ok-clause-closed : goal.returns-in-Ok-clause-closed
returns-in-Ok-clause-closed g c =
    let s = c.self.inside in
    let old = g.D.Disk.content s.disk in
    let new = g.D.Disk.content c.write_synced.new.disk in
    let closed : (t : g.D.Disk.tells) → IsShut (place_of s.settings.segment c.args.segment) new = λ t.
    subst (λ (k : ℕ). IsShut k new) c.place_of-place.ensures.place (zeroed_shut c.place_of-place.result new (now_zeroed c.place_of-place.result old new (c.in-Ok.ensures.told t).written (c.in-Ok.ensures.told t).only)) in
    rw (← c.self.view_is) closed
