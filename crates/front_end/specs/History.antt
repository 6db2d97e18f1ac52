-- The history of a session, and what it means that it is in order.
use Rattle.std.specs.Prelude.{◌≡◌, ◌≢◌, ◌⊎◌, ℕ, ◌+◌, ◌-◌, ◌%◌, ◌<◌, ◌≤◌, nat_le, List, [], ◌∷◌, ◌++◌, length, Bool, false, cond, Option, None, Some, ◌==◌, not, filter, Contains}
use Rattle.std.specs.List.{AllByRecursion}
use Rattle.outside.specs.Words.{Gives}
use Rattle.blob_id.specs.Id.{drawn_id}
use Rattle.blob_id.specs.declared.id.Kind.TheVariants.{Simple}
use Rattle.world_model.specs.declared.history.Begun.{Begun}
use Rattle.world_model.specs.declared.history.HistoryMark.{HistoryMark}
use Rattle.world_model.specs.declared.history.HistoryMark.TheVariants.{Begin, Drew, End, Ordered, Wait}

-- Two words that a random source gave, one after the other.
abbrev pub GivesTwo : Option (ℕ → ℕ) → ℕ → ℕ → Option (ℕ → ℕ) → Type 0
GivesTwo before high low after = (between : Option (ℕ → ℕ)) × Gives before between high × Gives between after low

-- The id of a draw is a simple one, of the partition that is the operation's turn, of so many, with the next two random words.
abbrev pub DrawsNext : ℕ → Option (ℕ → ℕ) → ℕ → List ℕ → Option (ℕ → ℕ) → Type 0
DrawsNext partitions before n id after = (high : ℕ) × (low : ℕ) × GivesTwo before high low after × (id ≡ drawn_id Simple ((n - 1) % partitions) high low)

-- The ids of a history are drawn with the words of a random source, in order: what was to come before it, and what is to come behind it.
abbrev pub DrawsInOrder : ℕ → Option (ℕ → ℕ) → List HistoryMark → Option (ℕ → ℕ) → Type 0
DrawsInOrder partitions before [] after = after ≡ before
DrawsInOrder partitions before (Drew n id ∷ h) after = (next : Option (ℕ → ℕ)) × DrawsNext partitions before n id next × DrawsInOrder partitions next h after
DrawsInOrder partitions before (_ ∷ h) after = DrawsInOrder partitions before h after

-- a put of at most 65,536 bytes draws an id
abbrev pub draws_one : Begun → Bool
draws_one (Begun.Put file body ttl ctype meta) = nat_le (length body) 65536
draws_one _ = false

-- Where a history stands: the operations that are open, those of them that have still to draw an id, how many have begun, what the script waits
-- for since the last other mark of it, and how many operations were open before the first end since the last mark of the script.
pub record Moment : Type 0 where
  pub open_operations : List ℕ
  pub undrawn : List ℕ
  pub begun_count : ℕ
  pub waits : List (Option ℕ)
  pub first_end : Option ℕ

abbrev pub start : Moment
start = record { open_operations = []; undrawn = []; begun_count = 0; waits = []; first_end = None }

abbrev pub with_first_end : Option ℕ → ℕ → Option ℕ
with_first_end None count = Some count
with_first_end (Some before) count = Some before

abbrev pub without : ℕ → List ℕ → List ℕ
without n numbers = filter (λ m. not (m == n)) numbers

abbrev pub after : Moment → HistoryMark → Moment
after now (Begin n request) = record {
  open_operations = now.open_operations ++ n ∷ [];
  undrawn = cond (draws_one request) (now.undrawn ++ n ∷ []) now.undrawn;
  begun_count = now.begun_count + 1;
  waits = [];
  first_end = None;
}
after now (Drew n id) = record now { undrawn = without n now.undrawn }
after now (End n outcome) = record {
  open_operations = without n now.open_operations;
  undrawn = without n now.undrawn;
  begun_count = now.begun_count;
  waits = now.waits;
  first_end = with_first_end now.first_end (length now.open_operations);
}
after now (Wait t) = record now { waits = now.waits ++ t ∷ []; first_end = None }
after now (Ordered order told) = record now { waits = []; first_end = None }
after now _ = now

abbrev pub after_all : Moment → List HistoryMark → Moment
after_all now [] = now
after_all now (mark ∷ h) = after_all (after now mark) h

-- what was waited for is over
abbrev pub IsOver : List ℕ → Option ℕ → Type 0
IsOver open_operations None = open_operations ≡ []
IsOver open_operations (Some n) = Contains open_operations n → ⊥

-- An operation ends only while the script waits, or where the window was full before the first end since its last mark.
abbrev pub EndsInTime : ℕ → Moment → Type 0
EndsInTime window now = (now.waits ≢ []) ⊎ ((count : ℕ) × (with_first_end now.first_end (length now.open_operations) ≡ Some count) × (window ≤ count))

-- Which mark may come next, where at most `window` operations are open. An operation draws an id only where it has one to draw, so once. No
-- other marks are made yet.
abbrev pub MayCome : ℕ → Moment → HistoryMark → Type 0
MayCome window now (Begin n request) = (n ≡ now.begun_count + 1) × (length now.open_operations < window) × AllByRecursion (IsOver now.open_operations) now.waits
MayCome window now (Drew n id) = Contains now.undrawn n
MayCome window now (End n outcome) = Contains now.open_operations n × EndsInTime window now
MayCome window now (Wait t) = Unit {0}
MayCome window now (Ordered order told) = AllByRecursion (IsOver now.open_operations) now.waits
MayCome window now _ = ⊥

abbrev pub IsOrdered : ℕ → Moment → List HistoryMark → Type 0
IsOrdered window now [] = Unit {0}
IsOrdered window now (mark ∷ h) = MayCome window now mark × IsOrdered window (after now mark) h

-- the marks of a history but its waits, the newest first
abbrev pub newest_first : List HistoryMark → List HistoryMark
newest_first [] = []
newest_first (Wait t ∷ h) = newest_first h
newest_first (mark ∷ h) = newest_first h ++ mark ∷ []
