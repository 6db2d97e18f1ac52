-- What is kept of a cell between two calls.
use Rattle.std.specs.Prelude.{◌≡◌, ℕ, List, Bool}
use Rattle.gate_slots.specs.Cell.{cell_at}

-- The place of a cell, the sequence of its current slot, and whether that is the second one.
pub record CurrentSlot : Type 0 where
  pub base : ℕ
  pub sequence : ℕ
  pub second : Bool

-- They are those of the cell in these bytes.
pub record IsLoaded (slots : CurrentSlot) (bytes : List ℕ) : Type 0 where
  pub sequence : (cell_at slots.base bytes).sequence ≡ slots.sequence
  pub second : (cell_at slots.base bytes).second ≡ slots.second
