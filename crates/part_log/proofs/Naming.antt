-- A roll: a free segment is named by the manifest.
use Rattle.std.proofs.Common.{◌≡◌, inl, inr, ℕ, ◌+◌, ◌-◌, ◌<◌, ◌≤◌, ◌^◌, List, [], ◌∷◌, get_or, Some, not, sym, ◌∙◌, ap, subst, arith}
use Rattle.disk_core.specs.Content.{Content, ChangesBy, Only, Holds, Torn}
use Rattle.disk_core.proofs.Ranges.{range-torn}
use Rattle.gate_slots.specs.Cell.{cell_at, ReplacesCell}
use Rattle.gate_slots.specs.Gate.{IsZeroed}
use Rattle.gate_slots.specs.Slots.{CurrentSlot, IsLoaded}
use Rattle.gate_slots.proofs.Gates.{byte_at}
use Rattle.part_log.specs.Records.{Placed, records_of}
use Rattle.part_log.specs.Segments.{place_of, ChangesIn}
use Rattle.part_log.specs.Images.{KeepsLog}
use Rattle.part_log.specs.Log.{LogTable, IsLog, IsRolling, rolled_table}
use Rattle.part_log.proofs.Fronts.{loaded_same}
use Rattle.part_log.proofs.Free.{without_from}
use Rattle.part_log.proofs.Segments.{write_first, write_cell, writes_twice}
use Rattle.part_log.proofs.NewSegment.{keeps_blank, keeps_roll, rolled_log}

module _ (table : LogTable) (slots : CurrentSlot) (target : ℕ) (text : List ℕ) (rolling : IsRolling table slots target text) (placed : List Placed) (old mid : Content) (place : ℕ) (is : place ≡ place_of table.settings.segment target)
    (log : IsLog table old placed) (write : ChangesBy (Torn place 1) old mid) where
  blanks : ChangesBy (Torn (place_of table.settings.segment target) 1) old mid
  blanks = subst (λ (k : ℕ). ChangesBy (Torn k 1) old mid) is write

  pub named_blank : ChangesBy (KeepsLog table.settings target (records_of placed) table.end) old mid
  named_blank = keeps_blank table target table.slots text rolling.text_is rolling.good rolling.small (without_from target table.segments rolling.apart) rolling.below rolling.room rolling.good.base rolling.good.sequence old mid mid placed log blanks

  module _ (new : Content) (holds : Holds place (0 ∷ []) old.seen mid.seen) (only : Only mid) (replaces : ChangesBy (ReplacesCell slots.base text) mid new) where
    holds_start : Holds (place_of table.settings.segment target) (0 ∷ []) old.seen mid.seen
    holds_start = subst (λ (k : ℕ). Holds k (0 ∷ []) old.seen mid.seen) is holds

    base_is : slots.base ≡ 0
    base_is = sym (ap (λ (s : CurrentSlot). s.base) rolling.slots_are) ∙ rolling.good.base

    replaces_first : ChangesBy (ReplacesCell 0 text) mid new
    replaces_first = subst (λ (b : ℕ). ChangesBy (ReplacesCell b text) mid new) base_is replaces

    pub named_roll : ChangesBy (KeepsLog table.settings target (records_of placed) table.end) old new
    named_roll = keeps_roll table target table.slots text rolling.text_is rolling.good rolling.small (without_from target table.segments rolling.apart) rolling.below rolling.room rolling.good.base rolling.good.sequence old mid new placed log blanks
        holds_start.torn holds_start only replaces_first

    pub named_log : (after : CurrentSlot) → after ≡ record { base = 0; sequence = slots.sequence + 1; second = not slots.second } → slots.sequence < 2 ^ 63 - 1 → (cell_at slots.base new.seen).value ≡ Some text → IsLoaded after new.seen → Only new
        → IsLog (rolled_table table target after) new placed
    named_log after after_is below value loaded only_new =
        rolled_log table target after text rolling.text_is rolling.good rolling.small (without_from target table.segments rolling.apart) rolling.below rolling.room
        (ap (λ (s : CurrentSlot). s.base) after_is) (omega (arith, below, ap (λ (s : CurrentSlot). s.sequence) after_is)) old mid new placed log blanks
        holds_start.torn holds_start only replaces_first (subst (λ (b : ℕ). (cell_at b new.seen).value ≡ Some text) base_is value) loaded only_new

pub named_outside : (segment target place base : ℕ) (old mid new : List ℕ) → base ≡ 0 → 1 ≤ segment → place ≡ place_of segment target → Torn place 1 old mid → Torn base 2048 mid new → ChangesIn segment target old new
named_outside segment target place base old mid new first some is torn replaced =
    writes_twice segment target old mid new (write_first segment target place old mid some is torn) (write_cell segment target mid new (subst (λ (b : ℕ). Torn b 2048 mid new) first replaced))

pub still_loaded : (slots : CurrentSlot) (place n : ℕ) (old new : List ℕ) → slots.base ≡ 0 → 4096 ≤ place → Torn place n old new → IsLoaded slots old → IsLoaded slots new
still_loaded slots place n old new base behind torn loaded = loaded_same 0 slots old new base (range-torn place n 0 2048 old new torn (inl (omega (arith, behind)))) loaded

-- the gate that was closed stays so while the manifest's cell is replaced
pub still_zeroed : (base place : ℕ) (old mid new : Content) → base ≡ 0 → 4096 ≤ place → Holds place (0 ∷ []) old.seen mid.seen → Torn base 2048 mid.seen new.seen → Only new → IsZeroed place new
still_zeroed base place old mid new first behind holds torn only c image =
    ap (λ (l : List ℕ). get_or l place 0) (only c image) ∙ torn.others place (inr (omega (arith, first, behind))) ∙ sym (byte_at place mid.seen) ∙ ap (λ (l : List ℕ). get_or l 0 0) holds.here

pub first_base : (slots after : CurrentSlot) → slots.base ≡ 0 → after ≡ record { base = slots.base; sequence = slots.sequence + 1; second = not slots.second } → after ≡ record { base = 0; sequence = slots.sequence + 1; second = not slots.second }
first_base slots after base is = is ∙ ap (λ (b : ℕ). record { base = b; sequence = slots.sequence + 1; second = not slots.second }) base
