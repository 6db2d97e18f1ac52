-- What a router keeps to.
use Rattle.std.specs.Prelude.{◌≡◌, ◌≢◌, ℕ, zero, suc, ◌+◌, ◌-◌, ◌*◌, ◌/◌, ◌^◌, ◌<◌, ◌≤◌, nat_le, Bool, true, false, cond, ◌⊎◌, List, [], ◌∷◌, length, take, drop, Option, Some, None, IsSome}
use Rattle.blob_id.specs.declared.blob.Blob.{Blob}
use Rattle.blob_id.specs.declared.id.BlobId.{BlobId}
use Rattle.blob_id.specs.Id.{partition_of}
use Rattle.quorum_op.specs.declared.cause.Verdict.{Verdict}
use Rattle.quorum_op.specs.declared.outcome.Outcome.{Outcome}
use Rattle.req_frame.specs.declared.frame.Body.{Body}
use Rattle.req_frame.specs.declared.frame.Frame.{Frame}
use Rattle.world_model.specs.declared.history.Begun.{Begun}
use Rattle.world_model.specs.declared.history.HistoryMark.TheVariants.{Begin, Drew, End, Cancel, Ordered}
use Rattle.world_model.specs.declared.shape.Shape.{Shape}
use Rattle.world_model.specs.declared.step.Step.{Step}
use Rattle.world_model.specs.Frames.{frame_in}
use Rattle.world_model.specs.Lists.{Has, Earlier, Each}
use Rattle.world_model.specs.Notes.{is_drained, Aim, Asked, asked, aim_of, clock_of, operation_of, request_of, router_frame, verdict_of}
use Rattle.world_model.specs.Orders.{CameTo}
use Rattle.world_model.specs.Outcomes.{BeganAt, Began, put_piece, read_piece, delete_piece, named, IsChunkAt, IsWhole, Follows}
use Rattle.world_model.specs.Pieces.{is_simple, is_composite, is_chunk, Metadata, metadata_of, parts}
use Rattle.world_model.specs.Record.{Part, Top, Chunk, Item, Marked, Drawn, Took, Given, Withheld, Decided, Record, is_line, turns_in}
use Rattle.world_model.specs.Rules.{Rules}
use Rattle.world_model.specs.Shape.{replica_of}

-- ---- what a put draws ids for

-- a chunk's blob, of a put that was begun at such a moment
abbrev pub part_blob : Record → List ℕ → Blob
part_blob then part = record { created = clock_of then; ctype = []; meta = []; body = part }

-- an id was drawn for a chunk with these bytes, and it is stored
abbrev pub IsStoredAt : Shape → Record → ℕ → Record → ℕ → BlobId → List ℕ → Type 0
IsStoredAt shape before operation then k id part =
    (attempt : ℕ) × Has before (Drawn operation (Chunk k) attempt id (part_blob then part)) × (verdict_of shape (put_piece operation (Chunk k) attempt id) before ≡ Verdict.Ok)

-- these ids were drawn for these chunks, from place k on, and all are stored
abbrev pub IsStoredIn : Shape → Record → ℕ → Record → ℕ → List BlobId → List (List ℕ) → Type 0
IsStoredIn shape before operation then k [] [] = Unit {0}
IsStoredIn shape before operation then k (id ∷ ids) (part ∷ rest) = IsStoredAt shape before operation then k id part × IsStoredIn shape before operation then (suc k) ids rest
IsStoredIn shape before operation then k _ _ = ⊥

-- metadata that list the chunks of a body, all of them stored
pub record ListsStored (shape : Shape) (before : Record) (operation : ℕ) (then : Record) (body : List ℕ) (blob : Blob) : Type 0 where
  pub metadata : Metadata
  pub reads : metadata_of blob.body ≡ Some metadata
  pub total : metadata.total ≡ length body
  pub chunk : metadata.chunk ≡ shape.chunk
  pub stored : IsStoredIn shape before operation then 0 metadata.ids (parts (length metadata.ids) metadata.chunk body)

-- What a put that was begun at such a moment puts for a part: a body that fits one chunk whole, and of a longer one the chunks and then the
-- metadata.
abbrev pub PutsTop : Shape → Record → ℕ → Record → List ℕ → List ℕ → List ℕ → BlobId → Blob → Type 0
PutsTop shape before operation then body ctype meta id blob =
    (length body ≤ shape.chunk) × (is_simple id ≡ true) × (blob ≡ record { created = clock_of then; ctype = ctype; meta = meta; body = body })
    ⊎ (shape.chunk < length body) × (is_composite id ≡ true) × (blob ≡ record { created = clock_of then; ctype = ctype; meta = meta; body = blob.body }) × ListsStored shape before operation then body blob

abbrev pub PutsPart : Shape → Record → ℕ → Record → List ℕ → List ℕ → List ℕ → Part → BlobId → Blob → Type 0
PutsPart shape before operation then body ctype meta Top id blob = PutsTop shape before operation then body ctype meta id blob
PutsPart shape before operation then body ctype meta (Chunk k) id blob =
    (shape.chunk < length body) × (k * shape.chunk < length body) × (is_chunk id ≡ true) × (blob ≡ part_blob then (take shape.chunk (drop (k * shape.chunk) body)))

-- the number of a part: chunks come first
abbrev pub number_of : Shape → List ℕ → Part → ℕ
number_of shape body Top = cond (nat_le (length body) shape.chunk) 0 ((length body + (shape.chunk - 1)) / shape.chunk)
number_of shape body (Chunk k) = k

-- the attempt before, if there is one, is unavailable
abbrev pub IsNext : Shape → Record → ℕ → Part → ℕ → Type 0
IsNext shape before operation part zero = Unit {0}
IsNext shape before operation part (suc attempt) =
    (id : BlobId) × (blob : Blob) × Has before (Drawn operation part attempt id blob) × (verdict_of shape (put_piece operation part attempt id) before ≡ Verdict.Unavailable)

-- the operation became done
abbrev pub IsDone : Record → ℕ → Type 0
IsDone before operation = (outcome : Outcome) × Has before (Decided operation outcome)

-- the operation has its end
abbrev pub HasEnded : Record → ℕ → Type 0
HasEnded before operation = (outcome : Outcome) × Has before (Marked (End operation outcome))

-- a put draws an id: one for each attempt at a part, in the chosen partition
pub record DrawsPart (rules : Rules) (before : Record) (operation : ℕ) (part : Part) (attempt : ℕ) (id : BlobId) (blob : Blob) : Type 0 where
  pub file : List ℕ
  pub body : List ℕ
  pub ttl : ℕ
  pub ctype : List ℕ
  pub meta : List ℕ
  pub then : Record
  pub began : BeganAt before operation (Begun.Put file body ttl ctype meta) then
  pub live : IsDone before operation → ⊥
  pub small : length body ≤ rules.limit
  pub puts : PutsPart rules.shape before operation then body ctype meta part id blob
  pub tries : attempt < rules.attempts
  pub next : IsNext rules.shape before operation part attempt
  pub once : (other : BlobId) (b : Blob) → Has before (Drawn operation part attempt other b) → ⊥
  pub chosen : partition_of id ≡ rules.choose operation (number_of rules.shape body part) attempt
  pub within : partition_of id < rules.shape.partitions

-- ---- what may be sent

-- a put gave the id up: its attempt was unavailable and a further id was drawn since, or the put became done otherwise than ok
pub record GaveUp (shape : Shape) (record' : Record) (operation : ℕ) (id : BlobId) : Type 0 where
  pub part : Part
  pub attempt : ℕ
  pub blob : Blob
  pub drew : Has record' (Drawn operation part attempt id blob)
  pub why : (verdict_of shape (put_piece operation part attempt id) record' ≡ Verdict.Unavailable)
      × ((p : Part) × (a : ℕ) × (other : BlobId) × (b : Blob) × (then : Record) × Earlier (Drawn operation p a other b ∷ then) record' × Has then (Drawn operation part attempt id blob))
      ⊎ ((outcome : Outcome) × Has record' (Decided operation outcome) × ((id' : BlobId) → outcome ≢ Outcome.Put id'))

abbrev pub is_get : Begun → Bool
is_get (Begun.Get id range file) = true
is_get _ = false

abbrev pub is_delete : Begun → Bool
is_delete (Begun.Delete id) = true
is_delete _ = false

-- an operation that asks replicas for the id that it names, begun when the record was `then`
pub record AsksFor (shape : Shape) (before : Record) (operation : ℕ) (top : BlobId) : Type 0 where
  pub begun : Begun
  pub then : Record
  pub began : BeganAt before operation begun then
  pub names : named begun ≡ Some top
  pub whole : IsWhole top
  pub within : partition_of top < shape.partitions
  pub live : HasEnded before operation → ⊥

-- The named id is read by gets, infos and the deletes of composite ids, and then by a get the chunks that the read listed.
abbrev pub ReadsPart : Shape → Record → ℕ → Begun → BlobId → Part → BlobId → Type 0
ReadsPart shape before operation begun top Top id = (id ≡ top) × ((is_delete begun ≡ false) ⊎ (is_composite top ≡ true))
ReadsPart shape before operation begun top (Chunk k) id = (is_get begun ≡ true) × IsChunkAt shape before operation top k id

pub record MayRead (shape : Shape) (before : Record) (operation : ℕ) (part : Part) (id : BlobId) : Type 0 where
  pub top : BlobId
  pub asks : AsksFor shape before operation top
  pub reads : ReadsPart shape before operation asks.begun top part id

-- what an operation read of a composite id is settled, and the id can be deleted
abbrev pub IsSettled : Shape → Record → ℕ → BlobId → Type 0
IsSettled shape before operation top =
    (verdict_of shape (read_piece operation Top top) before ≡ Verdict.Ok)
    ⊎ (verdict_of shape (read_piece operation Top top) before ≡ Verdict.Gone)
    ⊎ (verdict_of shape (read_piece operation Top top) before ≡ Verdict.NotFound)

-- The id itself is deleted first, of a composite id once its read is settled, and then the chunks that the read listed.
abbrev pub DeletesPart : Shape → Record → ℕ → BlobId → Part → BlobId → Type 0
DeletesPart shape before operation top Top id = (id ≡ top) × ((is_simple top ≡ true) ⊎ IsSettled shape before operation top)
DeletesPart shape before operation top (Chunk k) id = IsChunkAt shape before operation top k id × (verdict_of shape (delete_piece operation Top top) before ≡ Verdict.Ok)

pub record MayDelete (shape : Shape) (before : Record) (operation : ℕ) (part : Part) (id : BlobId) (at : ℕ) : Type 0 where
  pub top : BlobId
  pub asks : AsksFor shape before operation top
  pub delete : is_delete asks.begun ≡ true
  pub when : at ≡ clock_of asks.then
  pub deletes : DeletesPart shape before operation top part id

-- a put sends what it drew the id for
pub record MayPut (before : Record) (operation : ℕ) (part : Part) (attempt : ℕ) (id : BlobId) (blob : Blob) : Type 0 where
  pub drew : Has before (Drawn operation part attempt id blob)
  pub live : HasEnded before operation → ⊥

-- the request may be sent, for a part or for none
abbrev pub MaySendFor : Shape → Record → ℕ → Aim → Body → Type 0
MaySendFor shape before operation aim (Body.Put id blob) = MayPut before operation aim.part aim.attempt id blob
MaySendFor shape before operation aim (Body.Get id) = (aim.attempt ≡ 0) × MayRead shape before operation aim.part id
MaySendFor shape before operation aim (Body.Peek id) = (aim.attempt ≡ 0) × MayRead shape before operation aim.part id
MaySendFor shape before operation aim (Body.Delete id at) = (aim.attempt ≡ 0) × MayDelete shape before operation aim.part id at
MaySendFor shape before operation aim _ = ⊥

abbrev pub MaySendForNone : Shape → Record → ℕ → Body → Type 0
MaySendForNone shape before operation (Body.Delete id at) = (at ≡ 0) × GaveUp shape before operation id
MaySendForNone shape before operation _ = ⊥

abbrev pub MaySend : Shape → Record → ℕ → Option Aim → Body → Type 0
MaySend shape before operation (Some aim) body = MaySendFor shape before operation aim body
MaySend shape before operation None body = MaySendForNone shape before operation body

-- A request to a replica of its partition. Those of an operation are numbered from 1, and their numbers rise.
pub record SendsFrame (shape : Shape) (before : Record) (node : ℕ) (f : Frame) : Type 0 where
  pub rises : (a : Asked) → Has (asked before) a → operation_of a.correlation ≡ operation_of f.correlation → a.correlation < f.correlation
  pub numbered : 0 < request_of f.correlation
  pub stands : IsSome (replica_of shape f.partition node)
  pub may : MaySend shape before (operation_of f.correlation) (aim_of f.correlation before) f.body

-- the request goes out, to a node that isn't drained
abbrev pub SendsNow : Shape → Record → ℕ → Frame → Type 0
SendsNow shape before node f = SendsFrame shape before node f × (is_drained node before ≡ false)

abbrev pub SendsSome : Shape → Record → ℕ → Option Frame → Type 0
SendsSome shape before node None = ⊥
SendsSome shape before node (Some f) = SendsNow shape before node f

-- what couldn't be sent is a frame of the router, or of a pull
abbrev pub RefusesSome : Shape → Record → ℕ → Option Frame → Option Frame → Type 0
RefusesSome shape before node None own = ⊥
RefusesSome shape before node (Some f) None = Unit {0}
RefusesSome shape before node (Some f) (Some own) = SendsNow shape before node own

-- ---- how operations begin and end

-- how many operations were begun
abbrev pub begun_in : Record → ℕ
begun_in [] = 0
begun_in (Marked (Begin operation begun) ∷ before) = 1 + begun_in before
begun_in (_ ∷ before) = begun_in before

-- operations are numbered from 1 in the order in which they begin
pub record BeginsNext (before : Record) (operation : ℕ) : Type 0 where
  pub next : operation ≡ 1 + begun_in before
  pub within : operation < 2 ^ 31

-- the last event or script line was the cancel of the operation
abbrev pub IsAtCancel : Record → ℕ → Type 0
IsAtCancel [] operation = ⊥
IsAtCancel (Given event ∷ before) operation = ⊥
IsAtCancel (Marked (Cancel other) ∷ before) operation = other ≡ operation
IsAtCancel (Marked mark ∷ before) operation = (is_line mark ≡ false) × IsAtCancel before operation
IsAtCancel (_ ∷ before) operation = IsAtCancel before operation

-- an operation becomes done once, and cancelled only at its cancel
pub record Decides (rules : Rules) (before : Record) (operation : ℕ) (outcome : Outcome) : Type 0 where
  pub begun : Begun
  pub began : Began before operation begun
  pub follows : Follows rules before operation begun outcome
  pub once : IsDone before operation → ⊥
  pub at_cancel : outcome ≡ Outcome.Cancelled → IsAtCancel before operation

-- of two that became done, the one of the earlier event or script line goes first, and of one and the same the lower number
abbrev pub GoesFirst : Record → ℕ → Record → ℕ → Type 0
GoesFirst then other at operation = (turns_in then < turns_in at) ⊎ (turns_in then ≡ turns_in at) × (other < operation)

-- An operation ends as it became done, once, and those that go first have ended; but a cancelled one ends at its cancel.
pub record Ends (before : Record) (operation : ℕ) (outcome : Outcome) : Type 0 where
  pub at : Record
  pub decided : Earlier (Decided operation outcome ∷ at) before
  pub order : outcome ≢ Outcome.Cancelled → (other : ℕ) (how : Outcome) (then : Record) → Earlier (Decided other how ∷ then) before → GoesFirst then other at operation → Has before (Marked (End other how))
  pub once : HasEnded before operation → ⊥

-- The router and its session do their part of an item, with the record before it.
abbrev pub Keeps : Rules → Item → Record → Type 0
Keeps rules (Marked (Begin operation begun)) before = BeginsNext before operation
Keeps rules (Marked (Drew operation id)) before = ⊥
Keeps rules (Marked (End operation outcome)) before = Ends before operation outcome
Keeps rules (Marked (Ordered order told)) before = CameTo order told before
Keeps rules (Drawn operation part attempt id blob) before = DrawsPart rules before operation part attempt id blob
Keeps rules (Decided operation outcome) before = Decides rules before operation outcome
Keeps rules (Took (Step.Send from node frame)) before = from ≡ 0 → SendsSome rules.shape before node (frame_in frame)
Keeps rules (Took (Step.Refused node frame)) before = RefusesSome rules.shape before node (frame_in frame) (router_frame (frame_in frame))
Keeps rules (Withheld node f) before = SendsFrame rules.shape before node f × (is_drained node before ≡ true)
Keeps rules _ before = Unit {0}

-- the record is one of such a router
abbrev pub IsKept : Rules → Record → Type 0
IsKept rules record' = Each (Keeps rules) record'
