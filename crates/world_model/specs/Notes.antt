-- What a record shows of the router's requests.
use Rattle.std.specs.Prelude.{ℕ, ◌+◌, ◌/◌, ◌%◌, ◌^◌, ◌==◌, nat_lt, nat_le, Bool, true, false, ◌&&◌, not, cond, List, [], ◌∷◌, ◌++◌, filter, filter_map, Option, Some, None, max}
use Rattle.std.specs.List.{list_any}
use Rattle.blob_id.specs.declared.blob.Blob.{Blob}
use Rattle.blob_id.specs.declared.id.BlobId.{BlobId}
use Rattle.cell_model.specs.declared.ask.Reply.{Reply}
use Rattle.quorum_op.specs.declared.cause.Cause.{Cause}
use Rattle.quorum_op.specs.declared.cause.Finding.{Finding}
use Rattle.quorum_op.specs.declared.cause.TallyKind.{TallyKind}
use Rattle.quorum_op.specs.declared.cause.Verdict.{Verdict}
use Rattle.quorum_op.specs.Tally.{Note, verdict, is_pending, is_state, standing}
use Rattle.world_model.specs.declared.asking.Asking.{Asking}
use Rattle.req_frame.specs.declared.frame.Body.{Body}
use Rattle.req_frame.specs.declared.frame.Frame.{Frame}
use Rattle.world_model.specs.declared.history.HistoryMark.{HistoryMark}
use Rattle.world_model.specs.declared.shape.Shape.{Shape}
use Rattle.world_model.specs.declared.step.Event.{Event}
use Rattle.world_model.specs.declared.step.Step.{Step}
use Rattle.req_frame.specs.Faults.{header_of}
use Rattle.req_frame.specs.Reading.{frame_of}
use Rattle.world_model.specs.Frames.{frame_in}
use Rattle.world_model.specs.Record.{Part, Top, Chunk, Item, Marked, Aimed, Took, Given, Withheld, Record}
use Rattle.world_model.specs.Shape.{replica_of}
use Rattle.world_model.specs.World.{same_id}

-- the router's clock: the greatest Now given
abbrev pub clock_of : Record → ℕ
clock_of [] = 0
clock_of (Given (Event.Now ms) ∷ before) = max ms (clock_of before)
clock_of (_ ∷ before) = clock_of before

-- how many events were given
abbrev pub events_in : Record → ℕ
events_in [] = 0
events_in (Given event ∷ before) = 1 + events_in before
events_in (_ ∷ before) = events_in before

-- which part of its operation a request is for, and in which attempt
pub record Aim : Type 0 where
  pub part : Part
  pub attempt : ℕ

-- what the request of a correlation is for; a delete of an id that a put gives up is for no part
abbrev pub aim_of : ℕ → Record → Option Aim
aim_of correlation [] = None
aim_of correlation (Aimed other part attempt ∷ before) = cond (other == correlation) (Some (record { part = part; attempt = attempt })) (aim_of correlation before)
aim_of correlation (_ ∷ before) = aim_of correlation before

-- a request of the router
pub record Asked : Type 0 where
  pub correlation : ℕ
  pub node : ℕ
  pub partition : ℕ
  pub aim : Option Aim
  pub body : Body
  pub clock : ℕ  -- the router's clock when it was sent
  pub events : ℕ  -- the events given before

abbrev pub ask_as : Frame → ℕ → Record → Asked
ask_as f node before = record {
  correlation = f.correlation;
  node = node;
  partition = f.partition;
  aim = aim_of f.correlation before;
  body = f.body;
  clock = clock_of before;
  events = events_in before;
}

abbrev pub asked_by : Option Frame → ℕ → Record → List Asked
asked_by None node before = []
asked_by (Some f) node before = ask_as f node before ∷ []

-- a node is drained
abbrev pub is_drained : ℕ → Record → Bool
is_drained node [] = false
is_drained node (Marked (HistoryMark.Drain other on) ∷ before) = cond (other == node) on (is_drained node before)
is_drained node (_ ∷ before) = is_drained node before

-- a frame of the router, told from a pull's by its correlation
abbrev pub router_frame : Option Frame → Option Frame
router_frame None = None
router_frame (Some f) = cond (nat_lt f.correlation (2 ^ 63)) (Some f) None

abbrev pub asked_now : Item → Record → List Asked
asked_now (Took (Step.Send from node frame)) before = cond (from == 0) (asked_by (frame_in frame) node before) []
asked_now (Took (Step.Refused node frame)) before = asked_by (router_frame (frame_in frame)) node before
asked_now (Withheld node f) before = ask_as f node before ∷ []
asked_now _ before = []

-- the router's requests, also those that were refused or withheld, the newest first
abbrev pub asked : Record → List Asked
asked [] = []
asked (item ∷ before) = asked_now item before ++ asked before

-- a correlation is the operation's number and then the request's
abbrev pub operation_of : ℕ → ℕ
operation_of correlation = correlation / 2 ^ 32

abbrev pub request_of : ℕ → ℕ
request_of correlation = correlation % 2 ^ 32

-- the kind of piece that a request is for
abbrev pub kind_of : Body → Option TallyKind
kind_of (Body.Put id blob) = Some TallyKind.Put
kind_of (Body.Get id) = Some TallyKind.Get
kind_of (Body.Peek id) = Some TallyKind.Get
kind_of (Body.Delete id at) = Some TallyKind.Delete
kind_of _ = None

abbrev pub id_of : Body → Option BlobId
id_of (Body.Put id blob) = Some id
id_of (Body.Get id) = Some id
id_of (Body.Peek id) = Some id
id_of (Body.Delete id at) = Some id
id_of _ = None

-- what a request's body asks for
abbrev pub asking_of : Body → Asking
asking_of (Body.Put id blob) = Asking.Put
asking_of (Body.Get id) = Asking.Get
asking_of (Body.Peek id) = Asking.Peek
asking_of (Body.Delete id at) = Asking.Delete
asking_of _ = Asking.Other

-- what is needed of a request to tell what an item says to it
pub record Entry : Type 0 where
  pub correlation : ℕ
  pub node : ℕ
  pub asking : Asking
  pub clock : ℕ
  pub events : ℕ

abbrev pub entry_of : Asked → Entry
entry_of a = record { correlation = a.correlation; node = a.node; asking = asking_of a.body; clock = a.clock; events = a.events }

-- what a request learnt, and the blob that came with it
pub record Learnt : Type 0 where
  pub finding : Finding
  pub blob : Option Blob

abbrev pub learnt : Finding → Option Learnt
learnt finding = Some (record { finding = finding; blob = None })

abbrev pub failed : Cause → Option Learnt
failed cause = learnt (Finding.Failed cause)

-- what a reply says to a request, where `stated` tells that the replica stands at State
abbrev pub reply_says : Bool → Asking → Reply → Option Learnt
reply_says stated Asking.Put Reply.Stored = learnt Finding.Yes
reply_says stated Asking.Put Reply.There = learnt Finding.Yes
reply_says stated Asking.Put Reply.Clash = failed Cause.Clash
reply_says stated Asking.Put Reply.Gone = failed Cause.Gone
reply_says stated Asking.Put Reply.Full = failed Cause.Full
reply_says stated Asking.Delete Reply.Done = learnt Finding.Yes
reply_says stated Asking.Delete Reply.Full = failed Cause.Full
reply_says stated Asking.Get (Reply.Blob blob) = Some (record { finding = Finding.Yes; blob = Some blob })
reply_says stated Asking.Get Reply.Gone = learnt Finding.Gone
reply_says stated Asking.Get Reply.Absent = cond stated (failed Cause.Stray) (learnt Finding.Absent)
reply_says stated Asking.Peek Reply.There = learnt Finding.State
reply_says stated Asking.Peek Reply.Gone = learnt Finding.Gone
reply_says stated Asking.Peek Reply.Absent = cond stated (failed Cause.Stray) (learnt Finding.Absent)
reply_says stated asking Reply.Fault = failed Cause.Fault
reply_says stated asking Reply.Down = failed Cause.Down
reply_says stated asking Reply.Memory = failed Cause.Memory
reply_says stated asking reply = failed Cause.Stray

abbrev pub body_says : Bool → Asking → Body → Option Learnt
body_says stated asking (Body.Answer reply) = reply_says stated asking reply
body_says stated asking other = failed Cause.Stray

-- a whole frame is read by its own correlation, and other bytes by their header
abbrev pub bytes_say : Bool → Entry → Option Frame → Option (ℕ × ℕ × ℕ) → Option Learnt
bytes_say stated a (Some f) header = cond (f.correlation == a.correlation) (body_says stated a.asking f.body) None
bytes_say stated a None (Some header) = cond (header.0 == a.correlation) (failed Cause.Stray) None
bytes_say stated a None None = None

-- an event that says nothing else ends a request that has waited for too many
abbrev pub or_patience : Entry → ℕ → Option Learnt → Option Learnt
or_patience a events (Some said) = Some said
or_patience a events None = cond (nat_le (a.events + 65536) (1 + events)) (failed Cause.Patience) None

-- what an item says to an outstanding request, behind so many events
abbrev pub says : Bool → Item → ℕ → Entry → Option Learnt
says stated (Given (Event.Reply node frame)) events a =
    or_patience a events (cond (node == a.node) (bytes_say stated a (frame_of frame) (header_of frame)) None)
says stated (Given (Event.Broken node)) events a = or_patience a events (cond (node == a.node) (failed Cause.Broken) None)
says stated (Given (Event.Now ms)) events a = or_patience a events (cond (nat_le (a.clock + 1000) ms) (failed Cause.Timeout) None)
says stated (Given Event.Quiet) events a = or_patience a events None
says stated (Took (Step.Refused node frame)) events a = elim (frame_in frame) [
  | Some f ↦ cond (f.correlation == a.correlation) (failed Cause.Broken) None
  | None ↦ None
]
says stated (Withheld node f) events a = cond (f.correlation == a.correlation) (failed Cause.Cancelled) None
says stated (Marked (HistoryMark.Drain node on)) events a = cond (on && (node == a.node)) (failed Cause.Cancelled) None
says stated _ events a = None

-- a request's end: what it was, whose replica it asked, and what it learnt
pub record Ended : Type 0 where
  pub asked : Asked
  pub replica : ℕ
  pub finding : Finding
  pub blob : Option Blob

abbrev pub same_kind : TallyKind → TallyKind → Bool
same_kind TallyKind.Put TallyKind.Put = true
same_kind TallyKind.Get TallyKind.Get = true
same_kind TallyKind.Delete TallyKind.Delete = true
same_kind _ _ = false

abbrev pub same_part : Part → Part → Bool
same_part Top Top = true
same_part (Chunk k) (Chunk n) = k == n
same_part _ _ = false

-- a piece: an attempt of an operation at a part, what it asks for, and the id of the part
pub record Piece : Type 0 where
  pub operation : ℕ
  pub kind : TallyKind
  pub part : Part
  pub attempt : ℕ
  pub id : BlobId

abbrev pub aims_at : Piece → Option Aim → Bool
aims_at piece (Some aim) = same_part aim.part piece.part && (aim.attempt == piece.attempt)
aims_at piece None = false

abbrev pub fits : Piece → Option TallyKind → Option BlobId → Bool
fits piece (Some kind) (Some id) = same_kind piece.kind kind && same_id id piece.id
fits piece _ _ = false

-- the request is for the piece
abbrev pub is_of : Piece → Asked → Bool
is_of piece a = (operation_of a.correlation == piece.operation) && (aims_at piece a.aim && fits piece (kind_of a.body) (id_of a.body))

abbrev pub to_note : Ended → Note
to_note ended = record { replica = ended.replica; finding = ended.finding }

abbrev pub map_notes : List Ended → List Note
map_notes [] = []
map_notes (ended ∷ before) = to_note ended ∷ map_notes before

abbrev pub need_of : Shape → TallyKind → ℕ
need_of shape TallyKind.Put = shape.put
need_of shape TallyKind.Get = shape.get
need_of shape TallyKind.Delete = shape.delete

-- the ends that count for a piece: each as long as the verdict of those before it is Pending
abbrev pub counted : TallyKind → ℕ → ℕ → List Ended → List Ended
counted kind replicas need [] = []
counted kind replicas need (ended ∷ before) =
    cond (is_pending (verdict kind replicas need (map_notes (counted kind replicas need before))))
    (ended ∷ counted kind replicas need before)
    (counted kind replicas need before)

-- the ends that count for a piece, of all ends
abbrev pub counted_for : Shape → Piece → List Ended → List Ended
counted_for shape piece all = counted piece.kind shape.replicas (need_of shape piece.kind) (filter (λ ended. is_of piece ended.asked) all)

abbrev pub piece_by : ℕ → Option Aim → Option TallyKind → Option BlobId → Option Piece
piece_by operation (Some aim) (Some kind) (Some id) = Some (record { operation = operation; kind = kind; part = aim.part; attempt = aim.attempt; id = id })
piece_by operation _ _ _ = None

-- the piece that a request is for
abbrev pub piece_of : Asked → Option Piece
piece_of a = piece_by (operation_of a.correlation) a.aim (kind_of a.body) (id_of a.body)

abbrev pub stated_for : Shape → List Ended → Option Piece → ℕ → Bool
stated_for shape so_far None replica = false
stated_for shape so_far (Some piece) replica = is_state (standing (map_notes (counted_for shape piece so_far)) replica)

-- whether the replica stands at State for the piece that a request is for
abbrev pub is_stated : Shape → List Ended → Asked → ℕ → Bool
is_stated shape so_far a replica = stated_for shape so_far (piece_of a) replica

abbrev pub end_with : Asked → ℕ → Option Learnt → Option Ended
end_with a replica None = None
end_with a replica (Some said) = Some (record { asked = a; replica = replica; finding = said.finding; blob = said.blob })

abbrev pub end_at : Shape → List Ended → Item → Record → Asked → Option ℕ → Option Ended
end_at shape so_far item before a None = None
end_at shape so_far item before a (Some replica) = end_with a replica (says (is_stated shape so_far a replica) item (events_in before) (entry_of a))

abbrev pub ends_now : Shape → List Ended → Item → Record → Asked → Option Ended
ends_now shape so_far item before a = end_at shape so_far item before a (replica_of shape a.partition a.node)

abbrev pub is_open : List Ended → Asked → Bool
is_open so_far a = not (list_any (λ ended. ended.asked.correlation == a.correlation) so_far)

-- The requests that ended, the newest first: each by the first item behind its sending that says something to it. They go on behind the end
-- of their operation.
abbrev pub ends : Shape → Record → List Ended
ends shape [] = []
ends shape (item ∷ before) =
    filter_map (ends_now shape (ends shape before) item before) (filter (is_open (ends shape before)) (asked (item ∷ before))) ++ ends shape before

abbrev pub ends_of : Shape → Piece → Record → List Ended
ends_of shape piece record' = counted_for shape piece (ends shape record')

abbrev pub notes_of : Shape → Piece → Record → List Note
notes_of shape piece record' = map_notes (ends_of shape piece record')

abbrev pub verdict_of : Shape → Piece → Record → Verdict
verdict_of shape piece record' = verdict piece.kind shape.replicas (need_of shape piece.kind) (notes_of shape piece record')
