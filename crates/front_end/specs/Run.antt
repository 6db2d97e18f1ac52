-- What a run leaves behind: the bytes that it read and wrote have a history.
use Rattle.std.specs.Prelude.{◌≡◌, ◌⊎◌, ℕ, ◌+◌, ◌<◌, ◌≤◌, List, [], ◌∷◌, ◌++◌, length, take, Bool, true, false, Option, None, Some, IsSome, codes, if◌then◌else◌}
use Rattle.front_end.specs.declared.history.Entry.{Entry}
use Rattle.front_end.specs.declared.run.Ending.{Ending}
use Rattle.front_end.specs.declared.run.Ending.TheVariants.{AtEnd, AtEndLine, PastLimit}
use Rattle.front_end.specs.declared.script.Command.TheVariants as command
use Rattle.mem_fabric.specs.Played.{IsPlayed}
use Rattle.router_core.specs.Removals.{DeletesWhatFailed}
use Rattle.router_core.specs.Stages.{simple_rules}
use Rattle.router_core.specs.Ties.{IsWoven}
use Rattle.world_model.specs.declared.history.HistoryMark.{HistoryMark}
use Rattle.world_model.specs.declared.offers.GivenMove.{GivenMove}
use Rattle.world_model.specs.declared.order.Refusal.{Refusal}
use Rattle.world_model.specs.declared.shape.Shape.{Shape}
use Rattle.world_model.specs.declared.step.Called.{Called}
use Rattle.world_model.specs.Lists.{Has}
use Rattle.world_model.specs.Notes
use Rattle.world_model.specs.Notes.{Asked, ends, events_in, is_open}
use Rattle.world_model.specs.Record.{Record}
use Rattle.world_model.specs.Router.{IsKept}
use Rattle.world_model.specs.Safe.{DrawsNew, IsSound, Safe}
use Rattle.world_model.specs.Shape.{replica_of}
use Rattle.world_model.specs.World.{Cells, Run}
use Rattle.front_end.specs.Disks.{Disks, LeavesLater}
use Rattle.front_end.specs.History.{start, after_all, IsOrdered, DrawsInOrder, newest_first}
use Rattle.front_end.specs.Script.{asked, tags_after, command_of, OnlyLastEnds}
use Rattle.front_end.specs.Past.{marks_of, has_bad, Follows, WaitsStandFirst, EndsWhileWaiting}
use Rattle.front_end.specs.Transcript.{refusal_line, transcript_of}
use Rattle.front_end.specs.Lines.{HasNoEnd, BeginsWith}

-- A past is that of these script lines over so many nodes, and it is in order. One operation is open at a time.
pub record IsPastOf (nodes : ℕ) (over : Bool) (lines : List (List ℕ)) (entries : List Entry) : Type 0 where
  -- the entries are those of the lines, in order, with what was drawn and ended between them
  pub follows : Follows nodes [] entries (asked 1 [] lines)
  -- a wait stands directly behind the entry of the script line before it
  pub waits : WaitsStandFirst true entries
  pub ordered : IsOrdered 1 start (marks_of entries)
  -- each end stands where the script waits, or at its end where it is over
  pub in_time : EndsWhileWaiting over false entries

-- what holds of the bytes that a source gave and of those that are left, where it tells them
abbrev pub Read : Option (List ℕ) → Option (List ℕ) → (List ℕ → List ℕ → Type 0) → Type 0
Read None new holds = Unit {0}
Read (Some old) None holds = ⊥
Read (Some old) (Some new) holds = (read : List ℕ) × (old ≡ read ++ new) × holds read new

-- what holds of the bytes that a sink took, where it tells them
abbrev pub Wrote : Option (List ℕ) → Option (List ℕ) → (List ℕ → Type 0) → Type 0
Wrote None new holds = Unit {0}
Wrote (Some old) None holds = ⊥
Wrote (Some old) (Some new) holds = (wrote : List ℕ) × (new ≡ old ++ wrote) × holds wrote

-- the bytes are a front of the text
abbrev pub IsFront : List ℕ → List ℕ → Type 0
IsFront text bytes = (unwritten : List ℕ) × (text ≡ bytes ++ unwritten)

-- the lines are the first ones of the text
abbrev pub AreFirst : List (List ℕ) → List ℕ → Type 0
AreFirst lines text = (rest : List ℕ) × BeginsWith text lines rest

-- the lines are all those of the text, the last of them without a line end
abbrev pub AreAll : List (List ℕ) → List ℕ → Type 0
AreAll lines text = (front : List (List ℕ)) × (rest : List ℕ) × BeginsWith text front rest × HasNoEnd rest × (lines ≡ front ++ rest ∷ [])

-- the lines are the whole ones of the text
abbrev pub AreWhole : List (List ℕ) → List ℕ → Type 0
AreWhole lines text = (rest : List ℕ) × BeginsWith text lines rest × HasNoEnd rest

-- the lines are the first ones of the text, up to an end of the script
abbrev pub AreEnded : List (List ℕ) → List ℕ → Type 0
AreEnded lines text = (front : List (List ℕ)) × (line : List ℕ) × (lines ≡ front ++ line ∷ []) × (command_of (tags_after [] front) line ≡ Some command.End) × AreFirst lines text

-- The lines are the first ones of the text, or all. Reading stops at the first byte past the limit.
abbrev pub AreRead : List (List ℕ) → List ℕ → Type 0
AreRead lines text = (length text ≤ 67108865) × (AreFirst lines text ⊎ AreAll lines text)

-- How a script came to its end: at the end of the input, at a line that ends the script, or at the first byte past the limit, where the
-- lines that end within the limit were carried out.
abbrev pub HasEnded : Ending → List (List ℕ) → List ℕ → List ℕ → Type 0
HasEnded AtEnd lines text left = AreAll lines text × (left ≡ []) × (length text ≤ 67108864)
HasEnded AtEndLine lines text left = AreEnded lines text × (length text ≤ 67108864)
HasEnded PastLimit lines text left = AreWhole lines (take 67108864 text) × (length text ≡ 67108865)

-- the status that follows
abbrev pub status_of : Ending → Bool → ℕ
status_of PastLimit bad = 8
status_of AtEnd bad = if bad then 2 else 0
status_of AtEndLine bad = if bad then 2 else 0

-- What a run was asked with and what it left: the source's bytes that were left, the sink's bytes that were taken, and the random words that were
-- to come, before and after, each where it is told.
pub record Outside : Type 0 where
  pub left_old : Option (List ℕ)
  pub left_new : Option (List ℕ)
  pub taken_old : Option (List ℕ)
  pub taken_new : Option (List ℕ)
  pub words_old : Option (ℕ → ℕ)
  pub words_new : Option (ℕ → ℕ)

abbrev pub outside_of : Option (List ℕ) → Option (List ℕ) → Option (List ℕ) → Option (List ℕ) → Option (ℕ → ℕ) → Option (ℕ → ℕ) → Outside
outside_of left_old left_new taken_old taken_new words_old words_new =
    record { left_old = left_old; left_new = left_new; taken_old = taken_old; taken_new = taken_new; words_old = words_old; words_new = words_new }

-- A run to the end of its script: each operation has ended, the whole transcript was written, and the ids were drawn with the words that were given.
pub record HasFinished (shape : Shape) (tie : List HistoryMark → Type 0) (status : ℕ) (o : Outside) : Type 0 where
  pub lines : List (List ℕ)
  pub entries : List Entry
  pub ending : Ending
  pub past : IsPastOf shape.nodes true lines entries
  pub ended_last : OnlyLastEnds lines
  pub all_ended : (after_all start (marks_of entries)).open_operations ≡ []
  pub status_is : status ≡ status_of ending (has_bad entries)
  pub read : Read o.left_old o.left_new (HasEnded ending lines)
  pub wrote : Wrote o.taken_old o.taken_new (λ wrote. wrote ≡ transcript_of (tags_after [] lines) entries)
  pub draws : DrawsInOrder shape.partitions o.words_old (marks_of entries) o.words_new
  pub tied : tie (newest_first (marks_of entries))

-- A run that stopped between two lines, at status 3 or 6: the transcript of the lines that were carried out was written, and no end line since.
-- At 6 the line that was refused memory may have taken random words.
pub record HasStopped (shape : Shape) (tie : List HistoryMark → Type 0) (o : Outside) (words_new : Option (ℕ → ℕ)) : Type 0 where
  pub lines : List (List ℕ)
  pub entries : List Entry
  pub past : IsPastOf shape.nodes false lines entries
  pub ended_last : OnlyLastEnds lines
  pub read : Read o.left_old o.left_new (λ text left. AreRead lines text)
  pub wrote : Wrote o.taken_old o.taken_new (λ wrote. wrote ≡ transcript_of (tags_after [] lines) entries)
  pub draws : DrawsInOrder shape.partitions o.words_old (marks_of entries) words_new
  pub tied : tie (newest_first (marks_of entries))

-- A run whose output failed: what was written is a front of the transcript.
pub record WasCutOff (shape : Shape) (tie : List HistoryMark → Type 0) (o : Outside) : Type 0 where
  pub lines : List (List ℕ)
  pub entries : List Entry
  pub past : IsPastOf shape.nodes true lines entries
  pub ended_last : OnlyLastEnds lines
  pub read : Read o.left_old o.left_new (λ text left. AreRead lines text)
  pub wrote : Wrote o.taken_old o.taken_new (IsFront (transcript_of (tags_after [] lines) entries))
  pub draws : DrawsInOrder shape.partitions o.words_old (marks_of entries) o.words_new
  pub tied : tie (newest_first (marks_of entries))

abbrev pub usage_line : List ℕ
usage_line = codes "usage" ++ 10 ∷ []

-- each request to a replica that is still open has seen fewer than 65,536 events
abbrev pub RequestsEndInTime : Shape → Record → Type 0
RequestsEndInTime shape record' = (a : Asked) → Has (Notes.asked record') a → IsSome (replica_of shape a.partition a.node) → is_open (ends shape record') a ≡ true → events_in record' < a.events + 65536

-- What is told of a run by its moves and marks: a record of the network's steps and events and of a session's items, woven. The steps are those of an
-- opening, of sends, of orders, of events that waited, and of just these moves, each picked from what was there, in order and by the rule of moves; a router kept its rules. Where the
-- disks stood for known cells, the steps are allowed from these, and where no drawn id is named there or was drawn before, the record is safe. No request
-- to a replica stays open for 65,536 events. Of each operation that ended, and not as a put that is ok, each replica was asked to delete what it drew.
pub record IsRecorded (shape : Shape) (opens : List Called → Cells → Type 0) (leaves : List Called → Type 0) (moves : List GivenMove) (marks : List HistoryMark) : Type 0 where
  pub calls : List Called
  pub played : IsPlayed shape moves calls
  pub record' : Record
  pub woven : IsWoven (λ r. r ≡ record') calls marks
  pub run : (opening : Cells) → opens calls opening → Run opening record'
  pub kept : IsKept (simple_rules shape) record'
  pub safe : (opening : Cells) → opens calls opening → IsSound opening → DrawsNew opening record' → Safe (simple_rules shape) opening record'
  pub in_time : RequestsEndInTime shape record'
  pub deletes : DeletesWhatFailed shape record'
  pub left : leaves calls

-- Nothing was read, drawn or written.
pub record IsUntouched (o : Outside) : Type 0 where
  pub source : o.left_new ≡ o.left_old
  pub sink : o.taken_new ≡ o.taken_old
  pub random : o.words_new ≡ o.words_old

-- The run came to the end of its script, or it stopped because the input failed, or the output did. Each move that was given was made.
pub record HasPlayed (shape : Shape) (disks : Disks) (given given' : List GivenMove) (status : ℕ) (o : Outside) : Type 0 where
  pub moves : List GivenMove
  pub gave : given' ≡ given ++ moves
  pub run : HasFinished shape (IsRecorded shape disks.opens disks.leaves moves) status o
      ⊎ ((status ≡ 3) × HasStopped shape (IsRecorded shape disks.opens disks.leaves moves) o o.words_new)
      ⊎ ((status ≡ 4) × WasCutOff shape (IsRecorded shape disks.opens disks.leaves moves) o)

-- The run stopped for want of memory: what stands is of the lines before, and moves may have been given since, and calls told. The line that was
-- refused memory may have taken random words.
pub record HasStarved (shape : Shape) (disks : Disks) (given given' : List GivenMove) (o : Outside) : Type 0 where
  pub moves : List GivenMove
  pub since : List GivenMove
  pub gave : given' ≡ given ++ (moves ++ since)
  pub words : Option (ℕ → ℕ)
  pub stopped : HasStopped shape (IsRecorded shape disks.opens (LeavesLater disks.leaves (moves ++ since)) moves) o words

-- No disks were opened, and what they hold stays: the outside failed, or there was no memory. Nothing was read, drawn, written or moved.
pub record WasUnopened (disks : Disks) (given given' : List GivenMove) (o : Outside) : Type 0 where
  pub untouched : IsUntouched o
  pub moves : given' ≡ given
  pub stay : disks.stay

-- A disk was refused, and what the disks hold stays: nothing was read, drawn or moved, and the line that says which one it is, and why, was
-- written, or a front of it where the output failed.
pub record WasTurnedAway (disks : Disks) (status : ℕ) (given given' : List GivenMove) (o : Outside) : Type 0 where
  pub source : o.left_new ≡ o.left_old
  pub random : o.words_new ≡ o.words_old
  pub moves : given' ≡ given
  pub stay : disks.stay
  pub refusal : Refusal
  pub cause : disks.refuses refusal
  pub answer : ((status ≡ 9) × Wrote o.taken_old o.taken_new (λ wrote. wrote ≡ refusal_line refusal)) ⊎ ((status ≡ 4) × Wrote o.taken_old o.taken_new (IsFront (refusal_line refusal)))

-- What a run may leave on a cluster of this shape: it came to its end or stopped, or was refused memory at a line, or before all lines its disks
-- weren't opened.
abbrev pub HasRun : Shape → Disks → List GivenMove → List GivenMove → ℕ → Outside → Type 0
HasRun shape disks given given' status o =
    HasPlayed shape disks given given' status o
    ⊎ ((status ≡ 6) × HasStarved shape disks given given' o)
    ⊎ (((status ≡ 5) ⊎ (status ≡ 6)) × WasUnopened disks given given' o)
    ⊎ WasTurnedAway disks status given given' o

-- Words outside the grammar: nothing was read, drawn or moved, and the line that says so was written, or a front of it where the output failed.
pub record WasRefused (status : ℕ) (given given' : List GivenMove) (o : Outside) : Type 0 where
  pub source : o.left_new ≡ o.left_old
  pub random : o.words_new ≡ o.words_old
  pub moves : given' ≡ given
  pub answer : ((status ≡ 1) × Wrote o.taken_old o.taken_new (λ wrote. wrote ≡ usage_line)) ⊎ ((status ≡ 4) × Wrote o.taken_old o.taken_new (IsFront usage_line))
