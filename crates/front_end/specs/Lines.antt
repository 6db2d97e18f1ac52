-- The lines of a script.
use Rattle.std.specs.Prelude.{◌≡◌, ◌≢◌, ℕ, ◌+◌, ◌-◌, ◌<◌, ◌≤◌, List, [], ◌∷◌, ◌++◌, length, take, drop, slice_index, Option, None, Some, if◌then◌else◌, ◌==◌, map, flat_map}
use Rattle.std.specs.List.{AllByRecursion}
use Rattle.std.specs.Io.KnownBytes.{Consumes, IsAtEnd}
use Rattle.front_end.specs.declared.lines.Came.{Came}
use Rattle.front_end.specs.declared.lines.Came.TheVariants.{More, End, PastLimit}
use Rattle.front_end.specs.declared.lines.Next.{Next}
use Rattle.front_end.specs.declared.lines.Next.TheVariants.{Line, Last, Limit}

-- how far a script is read: the bytes that were read and not yet taken, and how many were read so far
pub record Reading : Type 0 where
  pub waiting : List ℕ
  pub total : ℕ

-- no byte of it ends a line
abbrev pub HasNoEnd : List ℕ → Type 0
HasNoEnd bytes = AllByRecursion (λ b. b ≢ 10) bytes

-- where the first line end stands
abbrev pub EndsAt : List ℕ → Option ℕ → Type 0
EndsAt bytes None = HasNoEnd bytes
EndsAt bytes (Some n) = (n < length bytes) × HasNoEnd (take n bytes) × (bytes ≡ take n bytes ++ 10 ∷ drop (n + 1) bytes)

-- a line without the carriage return that belongs to its line end
abbrev pub without_return : List ℕ → List ℕ
without_return line = if slice_index line (length line - 1) == 13 then take (length line - 1) line else line

-- a line with its line end
abbrev pub ended : List ℕ → List ℕ
ended line = line ++ 10 ∷ []

-- A text begins with these lines, each with its line end, and the rest follows.
pub record BeginsWith (text : List ℕ) (lines : List (List ℕ)) (rest : List ℕ) : Type 0 where
  pub raw : List (List ℕ)
  pub whole : text ≡ flat_map ended raw ++ rest
  pub each : AllByRecursion HasNoEnd raw
  pub same : lines ≡ map without_return raw

-- The bytes that waited and those of the source, where it tells them, are the part that was taken and what is left of both.
abbrev pub TakesPart : Option (List ℕ) → Option (List ℕ) → List ℕ → List ℕ → List ℕ → Type 0
TakesPart None new before part after = Unit {0}
TakesPart (Some old) None before part after = ⊥
TakesPart (Some old) (Some new) before part after = before ++ old ≡ part ++ (after ++ new)

-- the source is at its end and nothing waits, where it tells
abbrev pub IsAllTaken : Option (List ℕ) → List ℕ → Type 0
IsAllTaken None after = Unit {0}
IsAllTaken (Some new) after = (after ≡ []) × (new ≡ [])

-- so many bytes were read
abbrev pub ReadsBytes : Option (List ℕ) → Option (List ℕ) → ℕ → ℕ → Type 0
ReadsBytes old new before now = (gone : List ℕ) × Consumes old new gone × (now ≡ before + length gone)

-- What stands next in a script: a line that has its line end, the rest of an input that is at its end, or the limit. There a part without a line end
-- stands before the one byte past the limit, which was read, so that each whole line within the limit was handed out before.
abbrev pub TakesNext : Option (List ℕ) → Option (List ℕ) → List ℕ → List ℕ → Next → Type 0
TakesNext old new before after (Line line) = (raw : List ℕ) × HasNoEnd raw × (line ≡ without_return raw) × TakesPart old new before (raw ++ 10 ∷ []) after
TakesNext old new before after (Last line) = HasNoEnd line × TakesPart old new before line after × IsAllTaken new after
TakesNext old new before after Limit = (part : List ℕ) × (byte : ℕ) × HasNoEnd part × TakesPart old new before (part ++ byte ∷ []) after × (after ≡ [])

-- how many bytes may still be taken: no more lines than these are to come
abbrev pub budget : ℕ → List ℕ → ℕ
budget total waiting = (67108865 - total) + length waiting

-- a line takes some of them
abbrev pub UsesBudget : Next → ℕ → ℕ → Type 0
UsesBudget (Line line) before now = now < before
UsesBudget (Last line) before now = Unit {0}
UsesBudget Limit before now = Unit {0}

-- A line and the rest of the input come from within the limit, which is told only where one byte more was read.
abbrev pub KeepsLimit : Next → ℕ → Type 0
KeepsLimit (Line line) total = total ≤ 67108864
KeepsLimit (Last line) total = total ≤ 67108864
KeepsLimit Limit total = total ≡ 67108865

-- What one read brings. Up to the limit it is what waits from then on; past the limit it is one byte, which doesn't wait.
abbrev pub Brings : Option (List ℕ) → Option (List ℕ) → Reading → Reading → Came → Type 0
Brings old new before now More = Consumes old new now.waiting × (0 < length now.waiting) × (now.total ≡ before.total + length now.waiting) × (now.total ≤ 67108864)
Brings old new before now End = Consumes old new [] × IsAtEnd new × (now.waiting ≡ []) × (now.total ≡ before.total)
Brings old new before now PastLimit = (byte : ℕ) × Consumes old new (byte ∷ []) × (now.waiting ≡ []) × (before.total ≡ 67108864) × (now.total ≡ 67108865)
