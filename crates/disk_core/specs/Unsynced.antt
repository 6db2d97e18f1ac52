-- What a disk in memory holds, and what a crash may leave of it.
use Rattle.std.specs.Prelude.{◌≡◌, ◌⊎◌, ℕ, zero, suc, ◌+◌, ◌<◌, ◌≤◌, List, [], ◌∷◌, ◌++◌, length, map, slice_index, replicate, Bool, nat_le}
use Rattle.disk_core.specs.Content.{range}
use Rattle.disk_core.specs.declared.unsynced.Overwritten.{Overwritten}
use Rattle.disk_core.specs.declared.unsynced.Past.{Past, Begun, Then'}
use Rattle.disk_core.specs.declared.unsynced.Pick.{Pick}
use Rattle.disk_core.specs.declared.unsynced.Pick.TheVariants.{Keep, Drop, Fill}

-- these bytes in the place of those that were there; what has no place is dropped
abbrev pub put_at : List ℕ → ℕ → List ℕ → List ℕ
put_at [] at bytes = []
put_at (x ∷ xs) zero [] = x ∷ xs
put_at (x ∷ xs) zero (b ∷ bytes) = b ∷ put_at xs zero bytes
put_at (x ∷ xs) (suc at) bytes = x ∷ put_at xs at bytes

pub record State : Type 0 where
  -- what reads give
  pub seen : List ℕ
  -- what the last sync made sure of
  pub stable : List ℕ
  -- place and length of each write since, the oldest first
  pub loose : List (ℕ × ℕ)

-- what a stop leaves in the place of one write
abbrev pub left_of : Pick → List ℕ → Overwritten → List ℕ
left_of Keep bytes write = bytes
left_of Drop bytes write = put_at bytes write.at write.bytes.items
left_of (Fill byte) bytes write = put_at bytes write.at (replicate (length write.bytes.items) byte)

-- what a stop leaves in the place of these writes: it goes back from the newest one, which is the last
abbrev pub left_after : Pick → List ℕ → List Overwritten → List ℕ
left_after pick bytes [] = bytes
left_after pick bytes (write ∷ later) = left_of pick (left_after pick bytes later) write

abbrev pub ranges_of : List Overwritten → List (ℕ × ℕ)
ranges_of writes = map (λ write. (write.at, length write.bytes.items)) writes

-- these bytes, of which these writes are not synced
abbrev pub state_after : List ℕ → List Overwritten → State
state_after bytes writes = record { seen = bytes; stable = left_after Drop bytes writes; loose = ranges_of writes }

-- what it was before each of its calls, the newest first
abbrev pub states_of : Past → List State
states_of Begun = []
states_of (Then' marker before bytes writes) = state_after bytes.value.items writes.value.items ∷ states_of before

abbrev pub IsOutside : ℕ → List (ℕ × ℕ) → Type 0
IsOutside k [] = Unit {0}
IsOutside k (r ∷ loose) = ((k < r.0) ⊎ (r.0 + r.1 ≤ k)) × IsOutside k loose

-- A crash may leave any bytes in each range written since the last sync.
pub record IsImage (s : State) (c : List ℕ) : Type 0 where
  pub size : length c ≡ length s.stable
  pub others : (k : ℕ) → IsOutside k s.loose → slice_index c k ≡ slice_index s.stable k

-- One of these states, the newest first, has this image, and so many or more were before it.
abbrev pub LeftSince : List State → ℕ → List ℕ → Type 0
LeftSince [] t c = ⊥
LeftSince (s ∷ earlier) t c = ((t ≤ length earlier) × IsImage s c) ⊎ LeftSince earlier t c

-- the write lies within so many bytes
abbrev pub fits : ℕ → Overwritten → Bool
fits size write = nat_le (write.at + length write.bytes.items) size

-- this byte in each place that was written since the last sync, and in the others what that sync left
pub record IsFilled (byte : ℕ) (s : State) (c : List ℕ) : Type 0 where
  pub size : length c ≡ length s.stable
  pub filled : (k : ℕ) → k < length c → (IsOutside k s.loose → ⊥) → slice_index c k ≡ byte
  pub others : (k : ℕ) → IsOutside k s.loose → slice_index c k ≡ slice_index s.stable k

-- what a stop leaves, by the pick
abbrev pub IsLeft : Pick → State → List ℕ → Type 0
IsLeft Keep s c = c ≡ s.seen
IsLeft Drop s c = c ≡ s.stable
IsLeft (Fill byte) s c = IsFilled byte s c

-- A write was added: the bytes that stood in its range.
pub record AddsWrite (at n : ℕ) (bytes : List ℕ) (old new : List Overwritten) : Type 0 where
  pub write : Overwritten
  pub added : new ≡ old ++ write ∷ []
  pub place : write.at ≡ at
  pub kept : write.bytes.items ≡ range at n bytes
