-- A gate: one byte that says whether the bytes behind it count.
use Rattle.std.specs.Prelude.{◌≡◌, ◌≢◌, ℕ, ◌+◌, List, length, slice_index}
use Rattle.disk_core.specs.Content.{Content, Torn, range}

-- the byte of an open gate; every other byte is a closed one, and a gate is closed by a 0
abbrev pub open_gate : ℕ
open_gate = 0x4F

-- the gate is closed, whatever a crash leaves
abbrev pub IsShut : ℕ → Content → Type 0
IsShut gate content = (c : List ℕ) → content.images c → slice_index c gate ≢ open_gate

-- the gate is a 0, whatever a crash leaves
abbrev pub IsZeroed : ℕ → Content → Type 0
IsZeroed gate content = (c : List ℕ) → content.images c → slice_index c gate ≡ 0

-- Changed in the gate alone, and there only where it was open. Until the sync of such a write a crash may leave any byte.
pub record ShutsGate (gate : ℕ) (old new : List ℕ) : Type 0 where
  pub torn : Torn gate 1 old new
  pub kept : slice_index old gate ≢ open_gate → slice_index new gate ≡ slice_index old gate

-- Changed in the gate and behind it alone, and where the gate is open, these bytes stand behind it.
pub record OpensGate (gate : ℕ) (rest : List ℕ) (old new : List ℕ) : Type 0 where
  pub torn : Torn gate (length rest + 1) old new
  pub opened : slice_index new gate ≡ open_gate → range (gate + 1) (length rest) new ≡ rest
