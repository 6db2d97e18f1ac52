-- What a session does between two script lines.
use Rattle.std.specs.Prelude.{◌≡◌, ℕ, ◌+◌, ◌-◌, ◌<◌, ◌≤◌, List, [], ◌∷◌, ◌++◌, length, Bool, true, false, not, cond, Option, None, Some, slice_get, slice_set, map}
use Rattle.std.specs.Option.{option_flatten}
use Rattle.std.specs.List.{AllByRecursion}
use Rattle.quorum_op.specs.declared.outcome.Outcome.{Outcome}
use Rattle.world_model.specs.declared.history.Begun.{Begun}
use Rattle.world_model.specs.declared.history.HistoryMark.{HistoryMark}
use Rattle.world_model.specs.declared.history.HistoryMark.TheVariants.{Begin, Drew, End, Ordered, Wait}
use Rattle.world_model.specs.declared.order.Order.{Order}
use Rattle.world_model.specs.declared.order.Told.{Told}
use Rattle.world_model.specs.declared.shape.Shape.{Shape}
use Rattle.world_model.specs.declared.step.Called.{Called}
use Rattle.world_model.specs.Pieces.{is_composite, is_simple}
use Rattle.router_core.specs.Stands.{Stands, is_idle, live_in}
use Rattle.router_core.specs.Ties.{Ties}
use Rattle.router_core.specs.Fits.{RouterView}
use Rattle.front_end.specs.declared.tags.Tag.{Tag}
use Rattle.front_end.specs.declared.session.Session.{Session}
use Rattle.front_end.specs.declared.history.Entry.{Entry}
use Rattle.front_end.specs.declared.history.Entry.TheVariants.{Mark, Bad, Failed}
use Rattle.front_end.specs.History.{DrawsNext, IsOver, after_all, start}
use Rattle.front_end.specs.declared.script.Command.TheVariants as command
use Rattle.front_end.specs.declared.script.Target.{Target}
use Rattle.front_end.specs.Script.{command_of}
use Rattle.front_end.specs.Past.{marks_of, has_bad, answer_of, EndsWhileWaiting}
use Rattle.front_end.specs.Transcript.{entry_line, transcript_of}
use Rattle.front_end.specs.Outline.{outline_entry}
use Rattle.front_end.specs.Kept.{IsPast, IsKept}

-- What a session stands for: all that has happened, whole. It is past up to the last entry of a script line, and later since then. It is busy
-- while the last operation has no end.
pub record State : Type 0 where
  pub tags : List Tag
  pub busy : Bool
  pub lines : ℕ
  pub bad : Bool
  pub settled : List Entry
  pub later : List Entry

abbrev pub entries_of : State → List Entry
entries_of s = s.settled ++ s.later

-- the history so far
abbrev pub history_of : State → List HistoryMark
history_of s = marks_of (entries_of s)

-- the transcript so far
abbrev pub transcript_so_far : State → List ℕ
transcript_so_far s = transcript_of s.tags (entries_of s)

-- the answers with that of operation n, where it has one
abbrev pub answered : List (Option (List ℕ)) → ℕ → Option (List ℕ) → List (Option (List ℕ))
answered answers n None = answers
answered answers n (Some id) = slice_set answers (n - 1) (Some id)

-- the answer that a list has for operation n
abbrev pub answer_at : List (Option (List ℕ)) → ℕ → Option (List ℕ)
answer_at answers n = option_flatten (slice_get answers (n - 1))

-- the operation that has no end yet, if there is one
abbrev pub live_numbers : (busy : Bool) → List Tag → List ℕ
live_numbers busy tags = cond busy (length tags ∷ []) []

-- What a session keeps of it: the entries without the bytes of bodies, and the answer of each operation apart, so that it is found at once.
pub record Keeps (s : Session) (state : State) : Type 0 where
  pub tags : s.tags ≡ state.tags
  pub busy : is_idle (live_in s.router.stages) ≡ not state.busy
  pub some : state.busy ≡ true → 0 < length state.tags
  pub lines : s.lines ≡ state.lines
  pub bad : s.bad ≡ state.bad
  pub settled : s.settled ≡ map outline_entry state.settled
  pub later : s.later ≡ map outline_entry state.later
  pub count : length s.answers.items ≡ length state.tags
  pub answers : (n : ℕ) → 0 < n → answer_at s.answers.items n ≡ answer_of (entries_of state) n

-- an answer is a simple id
abbrev pub IsSimpleAnswer : Option (List ℕ) → Type 0
IsSimpleAnswer None = Unit {0}
IsSimpleAnswer (Some id) = is_simple id ≡ true

-- none is live but the last operation
abbrev pub IsAlone : List ℕ → (last : ℕ) → Type 0
IsAlone [] last = Unit {0}
IsAlone (n ∷ []) last = n ≡ last
IsAlone _ last = ⊥

-- What holds of a session between two script lines: its router began an operation for each tag, a put has 65,536 bytes at most, and each answer
-- is a simple id, and it has one operation at a time.
pub record IsReady (s : Session) : Type 0 where
  pub begun : s.router.begun ≡ length s.tags
  pub limit : s.router.shape.chunk ≡ 65536
  pub few : s.router.shape.partitions ≤ 64
  pub simple : AllByRecursion IsSimpleAnswer s.answers.items
  pub alone : IsAlone (live_in s.router.stages) (length s.tags)

-- what ties a router's calls on a network to the marks of a history
abbrev pub ties_of : RouterView → Option (List Called) → List HistoryMark → Type 0
ties_of router told marks = Ties (Stands router) told marks

-- The script lines were carried out, on a cluster of this shape, with these random words to come at first and now.
pub record HasCarriedOut (shape : Shape) (lines : List (List ℕ)) (s : State) (tie : List HistoryMark → Type 0) (first now : Option (ℕ → ℕ)) : Type 0 where
  pub past : IsPast shape.nodes lines s.tags s.settled s.later (live_numbers s.busy s.tags) []
  pub kept : IsKept shape.partitions (history_of s) tie first now
  pub bad : s.bad ≡ has_bad (entries_of s)

-- what is added to the transcript is what is added to the output
abbrev pub Adds : List ℕ → List ℕ → State → State → Type 0
Adds old_out new_out old new = (added : List ℕ) × (new_out ≡ old_out ++ added) × (transcript_so_far new ≡ transcript_so_far old ++ added)

-- the state after the end of an operation
abbrev pub ended_by : State → ℕ → Outcome → State
ended_by s n outcome = record s { later = s.later ++ Mark (End n outcome) ∷ [] }

-- the state after the last operation ended so, if it did
abbrev pub finished_by : State → Option Outcome → State
finished_by s None = s
finished_by s (Some outcome) = ended_by (record s { busy = false }) (length s.tags) outcome

abbrev pub ending_of : List Tag → Option Outcome → List ℕ
ending_of tags None = []
ending_of tags (Some outcome) = entry_line tags (Mark (End (length tags) outcome))

-- the marks of that end
abbrev pub end_of : ℕ → Option Outcome → List HistoryMark
end_of n None = []
end_of n (Some outcome) = End n outcome ∷ []

-- the end of the last operation, where that is busy
abbrev pub IsEnding : Bool → Option Outcome → Type 0
IsEnding true outcome = (o : Outcome) × (outcome ≡ Some o)
IsEnding false outcome = outcome ≡ None

-- What finishing makes of a session: the last operation has its end, whose line was added.
pub record Finishes (old new : Session) (before now : List HistoryMark → Type 0) (old_out new_out : List ℕ) : Type 0 where
  pub outcome : Option Outcome
  pub ends : IsEnding (not (is_idle (live_in old.router.stages))) outcome
  pub becomes : (state : State) → Keeps old state → Keeps new (finished_by state outcome)
  pub ties : (marks : List HistoryMark) → before marks → now (end_of (length old.tags) outcome ++ marks)
  pub told : new_out ≡ old_out ++ ending_of old.tags outcome

-- the state after the entry of a script line
abbrev pub settled_by : State → Entry → State
settled_by s entry = record s { settled = (s.settled ++ s.later) ++ entry ∷ []; later = [] }

-- the state after an operation with this tag has begun
abbrev pub begun_by : State → Tag → Begun → State
begun_by s tag request = settled_by (record s { tags = s.tags ++ tag ∷ [] }) (Mark (Begin (length s.tags + 1) request))

abbrev pub drawn_by : State → ℕ → List ℕ → State
drawn_by s n id = record s { later = s.later ++ Mark (Drew n id) ∷ [] }

abbrev pub waited_by : State → State
waited_by s = record s { settled = s.settled ++ Mark (Wait None) ∷ [] }

-- the state after an order that the network carried out, and after one at which it failed
abbrev pub ordered_by : State → Order → Told → State
ordered_by s order told = settled_by s (Mark (Ordered order told))

abbrev pub failed_by : State → Order → State
failed_by s order = settled_by s (Failed order)

abbrev pub refused_by : State → State
refused_by s = settled_by (record s { bad = true }) (Bad s.lines)

-- the state while the last operation has no end
abbrev pub busy_by : State → State
busy_by s = record s { busy = true }

-- what a session keeps of a state becomes what it keeps of the next one
abbrev pub Becomes : Session → Session → (State → State) → Type 0
Becomes old new next = (state : State) → Keeps old state → Keeps new (next state)

-- a put of bytes alone
abbrev pub put_of : List ℕ → Begun
put_of body = Begun.Put [] body 0 [] []

-- a get of a whole blob
abbrev pub get_of : Option (List ℕ) → Begun
get_of id = Begun.Get id None []

abbrev pub delete_of : Option (List ℕ) → Begun
delete_of id = Begun.Delete id

-- what a line names is not the id of a composite blob
abbrev pub IsNotComposite : Target → Type 0
IsNotComposite (Target.Tag tag) = Unit {0}
IsNotComposite (Target.Id id) = is_composite id ≡ false

-- An id is drawn for an operation that has begun, and its blob is put.
pub record Stores (partitions number : ℕ) (body : List ℕ) (old new : Session) (before now : List HistoryMark → Type 0) (words_before words_now : Option (ℕ → ℕ)) (old_out new_out : List ℕ) : Type 0 where
  pub id : List ℕ
  pub draws : DrawsNext partitions words_before number id words_now
  pub drew : Becomes old new (λ s. busy_by (drawn_by s number id))
  pub ties : (marks : List HistoryMark) → before marks → now (Drew number id ∷ Begin number (put_of body) ∷ marks)
  pub told : new_out ≡ old_out ++ entry_line old.tags (Mark (Drew number id))

-- An operation that has begun is over, or asks the replicas: nothing is drawn or written.
pub record Starts (number : ℕ) (request : Begun) (old new : Session) (before now : List HistoryMark → Type 0) (words_before words_now : Option (ℕ → ℕ)) (old_out new_out : List ℕ) : Type 0 where
  pub becomes : Becomes old new busy_by
  pub ties : (marks : List HistoryMark) → before marks → now (Begin number request ∷ marks)
  pub same_words : words_now ≡ words_before
  pub same_out : new_out ≡ old_out

abbrev pub AsksPut : List Tag → List ℕ → List ℕ → List ℕ → Type 0
AsksPut tags line name body = command_of tags line ≡ Some (command.Put name body)

abbrev pub AsksWait : List Tag → List ℕ → Type 0
AsksWait tags line = command_of tags line ≡ Some command.Wait

abbrev pub AsksOrder : List Tag → List ℕ → Order → Type 0
AsksOrder tags line order = command_of tags line ≡ Some (command.Order order)

-- the entry of the last line is that of an order at which the network failed
abbrev pub HasFailed : Session → Session → Order → Type 0
HasFailed old new order = new.settled ≡ (old.settled ++ old.later) ++ Failed order ∷ []

abbrev pub AsksGet : List Tag → List ℕ → List ℕ → Target → Type 0
AsksGet tags line name of = command_of tags line ≡ Some (command.Get name of)

abbrev pub AsksDelete : List Tag → List ℕ → List ℕ → Target → Type 0
AsksDelete tags line name of = command_of tags line ≡ Some (command.Delete name of)

-- The lines were carried out, what was waited for is over, and no end stands but while the script waited.
pub record StandsAt (shape : Shape) (lines : List (List ℕ)) (s : State) (tie : List HistoryMark → Type 0) (first now : Option (ℕ → ℕ)) : Type 0 where
  pub carried : HasCarriedOut shape lines s tie first now
  pub waited : AllByRecursion (IsOver (after_all start (history_of s)).open_operations) (after_all start (history_of s)).waits
  pub in_time : EndsWhileWaiting false false (entries_of s)

-- What a session is after a line: it keeps a state in which one line more was carried out, and what that adds to the transcript was added to the output.
pub record HasGoneOn (shape : Shape) (line : List ℕ) (lines : List (List ℕ)) (old : State) (new : Session) (tie : List HistoryMark → Type 0) (first now : Option (ℕ → ℕ)) (old_out new_out : List ℕ) : Type 0 where
  pub state : State
  pub keeps : Keeps new state
  pub stands : StandsAt shape (lines ++ line ∷ []) state tie first now
  pub adds : Adds old_out new_out old state

-- A line was carried out.
abbrev pub CarriesOut : Shape → List ℕ → Session → Session → (before now : List HistoryMark → Type 0) → Option (ℕ → ℕ) → Option (ℕ → ℕ) → List ℕ → List ℕ → Type 0
CarriesOut shape line old new before now words_before words_now old_out new_out =
    (lines : List (List ℕ)) (state : State) (first : Option (ℕ → ℕ)) → Keeps old state → StandsAt shape lines state before first words_before → state.lines ≡ 1 + length lines
    → HasGoneOn shape line lines state new now first words_now old_out new_out

-- a session that has carried out nothing
abbrev pub nothing_yet : State
nothing_yet = record { tags = []; busy = false; lines = 0; bad = false; settled = []; later = [] }
