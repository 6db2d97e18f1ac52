-- What a session keeps between two script lines.
use Rattle.std.specs.Prelude.{◌≡◌, ℕ, ◌<◌, ◌≤◌, List, [], ◌∷◌, ◌++◌, length, Bool, true, Option, not}
use Rattle.std.specs.List.{AllByRecursion}
use Rattle.front_end.specs.declared.tags.Tag.{Tag}
use Rattle.world_model.specs.declared.history.HistoryMark.{HistoryMark}
use Rattle.world_model.specs.declared.history.HistoryMark.TheVariants.{Begin, Drew, End}
use Rattle.front_end.specs.declared.history.Entry.{Entry}
use Rattle.front_end.specs.declared.history.Entry.TheVariants.{Mark}
use Rattle.front_end.specs.History.{DrawsInOrder, start, after_all, IsOrdered, newest_first}
use Rattle.front_end.specs.Script.{asked, tags_after}
use Rattle.front_end.specs.Past.{marks_of, is_later, Follows, WaitsStandFirst}

-- whether a wait may stand behind these entries
abbrev pub front_after : Bool → List Entry → Bool
front_after front [] = front
front_after front (entry ∷ entries) = front_after (not (is_later entry)) entries

-- the operation of an entry is one of the first `count`
abbrev pub IsWithin : ℕ → ℕ → Type 0
IsWithin count n = (0 < n) × (n ≤ count)

abbrev pub IsNumbered : ℕ → Entry → Type 0
IsNumbered count (Mark (Begin n request)) = IsWithin count n
IsNumbered count (Mark (Drew n id)) = IsWithin count n
IsNumbered count (Mark (End n outcome)) = IsWithin count n
IsNumbered count _ = Unit {0}

-- A past, up to the last entry of a script line and since then, is that of the script lines over so many nodes; these operations are open, and
-- these have still to draw an id.
pub record IsPast (nodes : ℕ) (lines : List (List ℕ)) (known : List Tag) (past since : List Entry) (unfinished to_draw : List ℕ) : Type 0 where
  pub tags : known ≡ tags_after [] lines
  pub follows : Follows nodes [] (past ++ since) (asked 1 [] lines)
  pub later : AllByRecursion (λ e. is_later e ≡ true) since
  pub front : front_after true past ≡ true
  pub waits : WaitsStandFirst true (past ++ since)
  pub ordered : IsOrdered 1 start (marks_of (past ++ since))
  pub open_operations : (after_all start (marks_of (past ++ since))).open_operations ≡ unfinished
  pub undrawn : (after_all start (marks_of (past ++ since))).undrawn ≡ to_draw
  pub count : (after_all start (marks_of (past ++ since))).begun_count ≡ length known
  pub numbered : AllByRecursion (IsNumbered (length known)) (past ++ since)

-- What holds of a history, and of the random words that were to come at first and are to come now: its ids were drawn with these words, in
-- order, and what it was made on is tied to its marks.
pub record IsKept (partitions : ℕ) (h : List HistoryMark) (tie : List HistoryMark → Type 0) (first now : Option (ℕ → ℕ)) : Type 0 where
  pub draws : DrawsInOrder partitions first h now
  pub tied : tie (newest_first h)
