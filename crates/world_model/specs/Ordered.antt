-- In which order marks may stand. All lists have the newest first.
use Rattle.std.specs.Prelude.{◌≡◌, ℕ, ◌+◌, ◌-◌, ◌<◌, ◌≤◌, ◌==◌, Bool, true, false, ◌&&◌, ◌||◌, not, cond, ◌⊎◌, List, [], ◌∷◌, find, Option, Some, None}
use Rattle.quorum_op.specs.declared.outcome.Outcome.{Outcome}
use Rattle.world_model.specs.declared.history.Begun.{Begun}
use Rattle.world_model.specs.declared.history.HistoryMark.{HistoryMark}
use Rattle.world_model.specs.declared.history.HistoryMark.TheVariants.{Begin, Drew, End, Cancel, Wait}
use Rattle.world_model.specs.Lists.{Has, Each}
use Rattle.world_model.specs.Record.{Marked, Drawn, Record, is_line}

-- the marks of a record
abbrev pub marks_of : Record → List HistoryMark
marks_of [] = []
marks_of (Marked mark ∷ before) = mark ∷ marks_of before
marks_of (Drawn operation part attempt id blob ∷ before) = Drew operation id ∷ marks_of before
marks_of (_ ∷ before) = marks_of before

-- how many script lines there are
abbrev pub lines_in : List HistoryMark → ℕ
lines_in [] = 0
lines_in (mark ∷ before) = cond (is_line mark) (1 + lines_in before) (lines_in before)

-- begun, and not ended
abbrev pub is_open : ℕ → List HistoryMark → Bool
is_open operation [] = false
is_open operation (Begin other begun ∷ before) = (other == operation) || is_open operation before
is_open operation (End other outcome ∷ before) = not (other == operation) && is_open operation before
is_open operation (_ ∷ before) = is_open operation before

abbrev pub open_in : List HistoryMark → ℕ
open_in [] = 0
open_in (Begin other begun ∷ before) = 1 + open_in before
open_in (End other outcome ∷ before) = open_in before - 1
open_in (_ ∷ before) = open_in before

-- the waits since the last line that is no wait
abbrev pub waits_in : List HistoryMark → List (Option ℕ)
waits_in [] = []
waits_in (Wait operation ∷ before) = operation ∷ waits_in before
waits_in (Drew operation id ∷ before) = waits_in before
waits_in (End operation outcome ∷ before) = waits_in before
waits_in (_ ∷ before) = []

-- what was waited for is over
abbrev pub IsOver : List HistoryMark → Option ℕ → Type 0
IsOver before None = open_in before ≡ 0
IsOver before (Some operation) = is_open operation before ≡ false

abbrev pub AllOver : List HistoryMark → Type 0
AllOver before = (wait : Option ℕ) → Has (waits_in before) wait → IsOver before wait

abbrev pub is_wait : Option HistoryMark → Bool
is_wait (Some (Wait operation)) = true
is_wait _ = false

abbrev pub is_cancelled : Outcome → Bool
is_cancelled Outcome.Cancelled = true
is_cancelled _ = false

-- the marks as they stood before the ends behind the last line
abbrev pub at_line : List HistoryMark → List HistoryMark
at_line [] = []
at_line (Drew operation id ∷ before) = at_line before
at_line (End operation outcome ∷ before) = cond (is_cancelled outcome) (End operation outcome ∷ before) (at_line before)
at_line (mark ∷ before) = mark ∷ before

-- The last line is the script's last: the session read to the end, and no line came since.
abbrev pub IsLastLine : (ended : Bool) → (total : ℕ) → List HistoryMark → Type 0
IsLastLine ended total before = (ended ≡ true) × (lines_in before ≡ total)

-- an end that is no cancel stands where the session waits: behind a wait, behind the script's last line, or with a full window
abbrev pub WhereWaiting : (window : ℕ) → (ended : Bool) → (total : ℕ) → List HistoryMark → Type 0
WhereWaiting window ended total before =
    (is_wait (find is_line before) ≡ true) ⊎ IsLastLine ended total before ⊎ (window ≤ open_in (at_line before))

-- the operation was begun before
abbrev pub WasBegun : List HistoryMark → ℕ → Type 0
WasBegun before operation = (begun : Begun) × Has before (Begin operation begun)

-- the mark may come next, in a script of so many lines so far
abbrev pub MayStand : (window : ℕ) → (ended : Bool) → (total : ℕ) → HistoryMark → List HistoryMark → Type 0
MayStand window ended total (Begin operation begun) before = (WasBegun before operation → ⊥) × (open_in before < window) × AllOver before
MayStand window ended total (Drew operation id) before = is_open operation before ≡ true
MayStand window ended total (End operation Outcome.Cancelled) before =
    (is_open operation before ≡ true) × ((rest : List HistoryMark) × (before ≡ Cancel operation ∷ rest))
MayStand window ended total (End operation outcome) before = (is_open operation before ≡ true) × WhereWaiting window ended total before
MayStand window ended total (Wait operation) before = Unit {0}
MayStand window ended total _ before = AllOver before

-- The marks of a record stand in order. `ended` tells that the session read its script to the end.
abbrev pub IsOrdered : (window : ℕ) → (ended : Bool) → Record → Type 0
IsOrdered window ended record' = Each (MayStand window ended (lines_in (marks_of record'))) (marks_of record')
