-- A run between two script lines.
use Rattle.std.specs.Prelude.{◌≡◌, ℕ, Bool, true, false, List, [], ◌∷◌, ◌++◌, length, Option, None, Some, Result, Err}
use Rattle.std.specs.Io.KnownBytes.{Appends}
use Rattle.world_model.specs.declared.history.HistoryMark.{HistoryMark}
use Rattle.world_model.specs.declared.shape.Shape.{Shape}
use Rattle.world_model.specs.declared.step.Called.{Called}
use Rattle.world_model.specs.Advancing.{Advances}
use Rattle.world_model.specs.World.{Cells}
use Rattle.router_core.specs.Fits.{RouterView}
use Rattle.front_end.specs.declared.lines.Stop.{Stop}
use Rattle.front_end.specs.declared.run.Ending.{Ending}
use Rattle.front_end.specs.declared.session.Session.{Session}
use Rattle.front_end.specs.Lines.{BeginsWith}
use Rattle.front_end.specs.Run.{Wrote, Read, HasEnded}
use Rattle.front_end.specs.Script.{NoneEnds, OnlyLastEnds}
use Rattle.front_end.specs.Session.{State, Keeps, StandsAt, Finishes, transcript_so_far, ties_of}

-- What was read so far begins with the lines that were carried out, and the rest waits or is left.
abbrev pub ReadSoFar : Option (List ℕ) → Option (List ℕ) → List ℕ → ℕ → List (List ℕ) → Type 0
ReadSoFar None new waiting total lines = Unit {0}
ReadSoFar (Some old) None waiting total lines = ⊥
ReadSoFar (Some old) (Some new) waiting total lines = BeginsWith old lines (waiting ++ new) × ((gone : List ℕ) × (old ≡ gone ++ new) × (total ≡ length gone))

pub record IsRunning (shape : Shape) (left_old left_new taken_old taken_new : Option (List ℕ)) (waiting : List ℕ) (total : ℕ) (s : Session) (tie : List HistoryMark → Type 0) (first now : Option (ℕ → ℕ)) : Type 0 where
  pub lines : List (List ℕ)
  pub state : State
  pub keeps : Keeps s state
  pub stands : StandsAt shape lines state tie first now
  pub counted : state.lines ≡ length lines
  pub unended : NoneEnds [] lines
  pub read : ReadSoFar left_old left_new waiting total lines
  pub wrote : Wrote taken_old taken_new (λ wrote. wrote ≡ transcript_so_far state)

-- A line was carried out, and these bytes of what it adds to the transcript were written.
pub record RanLine (shape : Shape) (line : List ℕ) (lines : List (List ℕ)) (old : State) (new : Session) (tie : List HistoryMark → Type 0) (first now : Option (ℕ → ℕ)) (taken_old taken_new : Option (List ℕ)) (written : List ℕ → List ℕ → Type 0) : Type 0 where
  pub state : State
  pub keeps : Keeps new state
  pub stands : StandsAt shape (lines ++ line ∷ []) state tie first now
  pub added : List ℕ
  pub bytes : List ℕ
  pub part : written added bytes
  pub wrote : Appends taken_old taken_new bytes
  pub transcript : transcript_so_far state ≡ transcript_so_far old ++ added

abbrev pub RunsLine : Shape → List ℕ → Session → Session → (before now : List HistoryMark → Type 0) → Option (ℕ → ℕ) → Option (ℕ → ℕ) → Option (List ℕ) → Option (List ℕ) → (List ℕ → List ℕ → Type 0) → Type 0
RunsLine shape line old new before now words_before words_now taken_old taken_new written =
    (lines : List (List ℕ)) (state : State) (first : Option (ℕ → ℕ)) → Keeps old state → StandsAt shape lines state before first words_before → state.lines ≡ length lines
    → RanLine shape line lines state new now first words_now taken_old taken_new written

-- all the bytes, or a front of them
abbrev pub IsAll : List ℕ → List ℕ → Type 0
IsAll added bytes = bytes ≡ added

abbrev pub IsSome : List ℕ → List ℕ → Type 0
IsSome added bytes = (rest : List ℕ) × (added ≡ bytes ++ rest)

-- The lines of the script were carried out.
pub record RanLines (shape : Shape) (left_old left_new taken_old taken_new : Option (List ℕ)) (s : Session) (tie : List HistoryMark → Type 0) (first now : Option (ℕ → ℕ)) (ending : Ending) : Type 0 where
  pub lines : List (List ℕ)
  pub state : State
  pub keeps : Keeps s state
  pub stands : StandsAt shape lines state tie first now
  pub ended_last : OnlyLastEnds lines
  pub read : Read left_old left_new (HasEnded ending lines)
  pub wrote : Wrote taken_old taken_new (λ wrote. wrote ≡ transcript_so_far state)

-- The last operation has its end, and these bytes of the end's line were written.
pub record Closes (old new : Session) (before now : List HistoryMark → Type 0) (taken_old taken_new : Option (List ℕ)) (written : List ℕ → List ℕ → Type 0) : Type 0 where
  pub added : List ℕ
  pub finished : Finishes old new before now [] added
  pub bytes : List ℕ
  pub part : written added bytes
  pub wrote : Appends taken_old taken_new bytes

-- what a script came to, but where it found no memory
abbrev pub found_memory : {T : Type 0} → Result T Stop → Bool
found_memory (Err Stop.Memory) = false
found_memory _ = true

-- It holds of what ties a router of this shape to the calls that a network told.
pub record IsOn {F : Type 0} (told : F → Option (List Called)) (shape : Shape) (now : F) (holds : (List HistoryMark → Type 0) → Type 0) : Type 0 where
  pub router : RouterView
  pub shaped : router.shape ≡ shape
  pub so : holds (ties_of router (told now))

-- By whole calls a network came to where it holds, before a line or the end of the script was refused memory.
pub record WasOn {F : Type 0} (faults : F → ℕ) (opened : F → Option Shape) (runs : F → Shape → List ℕ → Cells → Type 0) (advances : F → F → Bool → Type 0) (told : F → Option (List Called)) (shape : Shape) (old new : F) (holds : (List HistoryMark → Type 0) → Type 0) : Type 0 where
  pub between : F
  pub went : Advances faults opened runs advances old between true
  pub was : IsOn told shape between holds
  pub fell : Advances faults opened runs advances between new false
