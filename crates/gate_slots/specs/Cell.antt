-- What a cell of 2,048 bytes stands for. It has two slots of 1,024 bytes, each a gate (1), a sequence (8), a length (4)
-- and that many bytes.
use Rattle.std.specs.Prelude.{◌≡◌, ◌⊎◌, ℕ, ◌+◌, ◌^◌, min, List, ◌++◌, length, slice_index, Bool, true, false, ◌&&◌, not, ◌==◌, nat_lt, if◌then◌else◌, Option, Some, None}
use Rattle.std.specs.Int.{from_be_bytes, to_be_bytes, w32, w64}
use Rattle.std.specs.Borrow.{Bor}
use Rattle.disk_core.specs.Content.{Content, ChangesBy, IsSettled, Torn, range}
use Rattle.gate_slots.specs.Gate.{open_gate}

abbrev pub slot_sequence : List ℕ → ℕ
slot_sequence slot = from_be_bytes w64 (range 1 8 slot)

-- A greater length counts as 1,011.
abbrev pub slot_value : List ℕ → List ℕ
slot_value slot = range 13 (min (from_be_bytes w32 (range 9 4 slot)) 1011) slot

-- A sequence of 2^63 or more closes the slot too.
abbrev pub is_open : List ℕ → Bool
is_open slot = (slice_index slot 0 == open_gate) && nat_lt (slot_sequence slot) (2 ^ 63)

-- What a cell holds, the sequence of its current slot, and whether that is the second one.
-- Where no slot is open there is no value, the sequence is 0, and the second slot stands for the current one.
pub record Cell : Type 0 where
  pub value : Option (List ℕ)
  pub sequence : ℕ
  pub second : Bool

abbrev pub holding : List ℕ → Bool → Cell
holding slot second = record { value = Some (slot_value slot); sequence = slot_sequence slot; second = second }

abbrev pub empty_cell : Cell
empty_cell = record { value = None; sequence = 0; second = true }

-- The current slot is the open one with the greater sequence, the first at equal ones.
abbrev pub cell : List ℕ → List ℕ → Cell
cell first second =
    if is_open first && not (is_open second && nat_lt (slot_sequence first) (slot_sequence second)) then holding first false
    else (if is_open second then holding second true else empty_cell)

-- the cell from a place of these bytes on
abbrev pub cell_at : ℕ → List ℕ → Cell
cell_at base c = cell (range base 1024 c) (range (base + 1024) 1024 c)

-- Changed in the cell alone, which holds what it held, or these bytes under the next sequence.
pub record ReplacesCell (base : ℕ) (bytes : List ℕ) (old new : List ℕ) : Type 0 where
  pub torn : Torn base 2048 old new
  pub value : ((cell_at base new).value ≡ (cell_at base old).value) ⊎ (((cell_at base new).value ≡ Some bytes) × ((cell_at base new).sequence ≡ (cell_at base old).sequence + 1))

-- From a settled cell on, nothing was done but that these bytes were put into it, or part of that.
pub record IsReplacing (base : ℕ) (bytes : List ℕ) (old new : Content) : Type 0 where
  pub settled : IsSettled base 2048 old
  pub during : ChangesBy (ReplacesCell base bytes) old new

-- the value that the cell had, or these bytes
abbrev pub IsOldOrNew : ℕ → List ℕ → Content → Option (List ℕ) → Type 0
IsOldOrNew base bytes old value = (value ≡ (cell_at base old.seen).value) ⊎ (value ≡ Some bytes)

-- Whatever moment since then the machine stops at, the cell holds its old value or these bytes.
abbrev pub StaysOldOrNew : ℕ → List ℕ → Content → Content → Type 0
StaysOldOrNew base bytes old new = (c : List ℕ) → new.left_since old.moment c → IsOldOrNew base bytes old (cell_at base c).value

-- the place of the slot that a replacement works on, and of the other one
abbrev pub target_place : ℕ → Bool → ℕ
target_place base second = if second then base else base + 1024

abbrev pub current_place : ℕ → Bool → ℕ
current_place base second = if second then base + 1024 else base

-- a slot without its gate
abbrev pub slot_rest : ℕ → List ℕ → List ℕ
slot_rest sequence bytes = to_be_bytes w64 sequence ++ to_be_bytes w32 (length bytes) ++ bytes

-- Changed in the slot alone, and where its gate is open, the slot is as before or has these bytes behind the gate.
pub record WritesSlot (gate : ℕ) (rest : List ℕ) (old new : List ℕ) : Type 0 where
  pub torn : Torn gate 1024 old new
  pub opened : slice_index new gate ≡ open_gate → (range gate 1024 new ≡ range gate 1024 old) ⊎ (range (gate + 1) (length rest) new ≡ rest)

-- what a borrowed value is
abbrev pub now_of : Option (Bor (List ℕ)) → Option (List ℕ)
now_of (Some slice) = Some slice.now
now_of None = None
