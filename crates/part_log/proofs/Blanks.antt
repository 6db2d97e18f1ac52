-- The first gate of a free segment is closed.
use Rattle.std.proofs.Common.{◌≡◌, ℕ, ◌+◌, ◌≤◌, List, false, sym, ◌∙◌, subst, arith, add-zero}
use Rattle.disk_core.specs.Content.{Content, ChangesBy, Torn}
use Rattle.part_log.specs.Records.{Placed, records_of}
use Rattle.part_log.specs.Segments.{place_of, is_among}
use Rattle.part_log.specs.Images.{KeepsLog}
use Rattle.part_log.specs.Log.{LogTable, IsTable, IsLog}
use Rattle.part_log.proofs.Free.{without_from}
use Rattle.part_log.proofs.NewSegment.{free_write, log_stays}

module _ (table : LogTable) (target place : ℕ) (good : IsTable table) (free : is_among target table.segments ≡ false) (is : place ≡ place_of table.settings.segment target)
    (old new : Content) (placed : List Placed) (log : IsLog table old placed) (write : ChangesBy (Torn place 1) old new) where
  one_byte : 0 + 1 ≤ table.settings.segment
  one_byte = omega (arith, good.settings.least)

  at_start : place ≡ place_of table.settings.segment target + 0
  at_start = is ∙ sym (add-zero (place_of table.settings.segment target))

  its_write : ChangesBy (Torn (place_of table.settings.segment target + 0) 1) old new
  its_write = subst (λ (k : ℕ). ChangesBy (Torn k 1) old new) at_start write

  pub blank_keeps : ChangesBy (KeepsLog table.settings target (records_of placed) table.end) old new
  blank_keeps = free_write table target 0 1 good (without_from target table.segments free) one_byte old new placed log its_write

  pub blank_stays : Torn place 1 old.seen new.seen → IsLog table new placed
  blank_stays torn = log_stays table target 0 1 good (without_from target table.segments free) one_byte old new placed log its_write (subst (λ (k : ℕ). Torn k 1 old.seen new.seen) at_start torn)
