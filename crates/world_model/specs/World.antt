-- The network and its replicas, and which steps are allowed.
use Rattle.std.specs.Prelude.{◌≡◌, ◌≢◌, ℕ, ◌≤◌, ◌==◌, Bool, true, false, ◌&&◌, ◌||◌, not, cond, ◌⊎◌, List, [], ◌∷◌, ◌++◌, Option, Some, None, IsSome, IsTrue, drop, slice_get, bytes_eq}
use Rattle.std.specs.List.{list_any}
use Rattle.blob_id.specs.declared.id.BlobId.{BlobId}
use Rattle.cell_model.specs.declared.ask.Ask.{Ask}
use Rattle.cell_model.specs.declared.ask.Reply.{Reply}
use Rattle.cell_model.specs.declared.cell.Cell.{Cell}
use Rattle.cell_model.specs.declared.cell.Cell.TheVariants.{Absent, Held, Gone}
use Rattle.cell_model.specs.Asks.{id_of, brought, landed, Answers, IsRefusal}
use Rattle.cell_model.specs.Cells.{join}
use Rattle.cell_model.specs.Pages.{PagesCells}
use Rattle.find_token.specs.declared.page.Entry.{Entry}
use Rattle.req_frame.specs.declared.frame.Body.{Body}
use Rattle.req_frame.specs.declared.frame.Frame.{Frame}
use Rattle.world_model.specs.declared.step.Event.{Event}
use Rattle.world_model.specs.declared.step.Step.TheVariants.{Send, Refused, Exec, Torn, Hand, Now, Cut, Stop, Restart, Merge}
use Rattle.world_model.specs.Frames.{frame_in, ask_of}
use Rattle.world_model.specs.Lists.{Has, numbered}
use Rattle.world_model.specs.Record.{Item, Took, Given, Record}

abbrev pub same_id : BlobId → BlobId → Bool
same_id a b = bytes_eq a b

-- what the replica of each node and partition holds for each id
abbrev pub Cells : Type 0
Cells = ℕ → ℕ → BlobId → Cell

-- No replica holds anything. What a network tells of requests, replies and events doesn't depend on what its replicas hold.
abbrev pub nothing_held : Cells
nothing_held = λ n p id. Absent

-- a request as it was sent; 0 is the router, every other number a node
pub record Request : Type 0 where
  pub from : ℕ
  pub node : ℕ
  pub frame : Option Frame

pub record Answered : Type 0 where
  pub request : Request
  pub reply : Reply

-- an event that a step made for the router
pub data Made : Type 0 where
  Reply_made : Answered → Made
  Broken_made : ℕ → Made
  Now_made : ℕ → Made

-- a cell that is joined to that of an id
pub record Change : Type 0 where
  pub id : BlobId
  pub cell : Cell

pub record World : Type 0 where
  pub cells : Cells
  pub doubts : ℕ → ℕ → Option Change  -- what may or may not have been joined at a replica
  pub stopped : ℕ → Bool
  pub sent : List Request
  pub replies : List Answered
  pub handed : List ℕ
  pub waiting : List Made  -- made and not yet given, the oldest first
  pub clock : ℕ

-- every node runs, and nothing is in doubt
abbrev pub start : Cells → World
start opening = record {
  cells = opening;
  doubts = λ n p. None;
  stopped = λ n. false;
  sent = [];
  replies = [];
  handed = [];
  waiting = [];
  clock = 0;
}

-- an ask, and where it goes
pub record Call : Type 0 where
  pub node : ℕ
  pub partition : ℕ
  pub ask : Ask

abbrev pub call_from : ℕ → ℕ → Option Ask → Option Call
call_from node partition None = None
call_from node partition (Some ask) = Some (record { node = node; partition = partition; ask = ask })

abbrev pub call_in : ℕ → Option Frame → Option Call
call_in node None = None
call_in node (Some f) = call_from node f.partition (ask_of f.body)

abbrev pub call_of : Option Request → Option Call
call_of None = None
call_of (Some request) = call_in request.node request.frame

-- the call of a request's number
abbrev pub call_at : World → ℕ → Option Call
call_at w send = call_of (numbered w.sent send)

-- a replica, and one id there
abbrev pub is_at : ℕ → ℕ → BlobId → ℕ → ℕ → BlobId → Bool
is_at node partition id n p other = (n == node) && (p == partition) && same_id other id

-- what a reply to a fetch carries
abbrev pub carried_cell : Reply → Option Cell
carried_cell (Reply.Blob b) = Some (Held b)
carried_cell Reply.Gone = Some Gone
carried_cell _ = None

abbrev pub change_of : BlobId → Option Cell → Option Change
change_of id None = None
change_of id (Some cell) = Some (record { id = id; cell = cell })

-- what an entry of a page carries: that its id is gone, where it says so
abbrev pub carried_entry : Option Entry → Option Change
carried_entry None = None
carried_entry (Some entry) = cond entry.gone (Some (record { id = entry.id; cell = Gone })) None

abbrev pub carried_page : Reply → ℕ → Option Change
carried_page (Reply.Page page) place = carried_entry (slice_get page.entries place)
carried_page _ place = None

abbrev pub carried_to : Option Frame → Reply → ℕ → Option Change
carried_to None reply place = None
carried_to (Some f) reply place = elim f.body [
  | Body.Find max token ↦ carried_page reply place
  | Body.Fetch id ↦ cond (place == 0) (change_of id (carried_cell reply)) None
  | _ ↦ None
]

-- What an answer carries at a place, for its asker to merge: an answer to a find carries at each place of its page the entry there, if that is
-- gone, and an answer to a fetch its blob, or that it is gone, at place 0.
abbrev pub carried : Option Answered → ℕ → Option Change
carried None place = None
carried (Some answer) place = carried_to answer.request.frame answer.reply place

-- what a step joins to the cell of an id at a replica
abbrev pub arriving_call : Option Call → Reply → ℕ → ℕ → BlobId → Cell
arriving_call None reply n p id = Absent
arriving_call (Some call) reply n p id = cond (is_at call.node call.partition (id_of call.ask) n p id) (landed call.ask reply) Absent

abbrev pub arriving_change : Option Change → BlobId → Cell
arriving_change None id = Absent
arriving_change (Some change) id = cond (same_id id change.id) change.cell Absent

abbrev pub arriving : World → Item → ℕ → ℕ → BlobId → Cell
arriving w (Took (Exec send reply)) n p id = arriving_call (call_at w send) reply n p id
arriving w (Took (Restart node done)) n p id = cond ((n == node) && list_any (λ q. q == p) done) (arriving_change (w.doubts n p) id) Absent
arriving w (Took (Merge node partition reply place torn)) n p id =
    cond (not torn && (n == node) && (p == partition)) (arriving_change (carried (numbered w.replies reply) place) id) Absent
arriving w _ n p id = Absent

-- what is in doubt after a step
abbrev pub doubt_call : Option Call → Option Change
doubt_call None = None
doubt_call (Some call) = Some (record { id = id_of call.ask; cell = brought call.ask })

abbrev pub is_call_at : Option Call → ℕ → ℕ → Bool
is_call_at None n p = false
is_call_at (Some call) n p = (n == call.node) && (p == call.partition)

abbrev pub doubts_after : World → Item → ℕ → ℕ → Option Change
doubts_after w (Took (Torn send)) n p = cond (is_call_at (call_at w send) n p) (doubt_call (call_at w send)) (w.doubts n p)
doubts_after w (Took (Restart node done)) n p = cond (n == node) None (w.doubts n p)
doubts_after w (Took (Merge node partition reply place torn)) n p =
    cond (torn && (n == node) && (p == partition)) (carried (numbered w.replies reply) place) (w.doubts n p)
doubts_after w _ n p = w.doubts n p

abbrev pub stopped_after : World → Item → ℕ → Bool
stopped_after w (Took (Stop node)) n = (n == node) || w.stopped n
stopped_after w (Took (Restart node done)) n = not (n == node) && w.stopped n
stopped_after w _ n = w.stopped n

abbrev pub sent_after : World → Item → List Request
sent_after w (Took (Send from node frame)) = record { from = from; node = node; frame = frame_in frame } ∷ w.sent
sent_after w _ = w.sent

abbrev pub answered : Option Request → Reply → List Answered → List Answered
answered None reply replies = replies
answered (Some request) reply replies = record { request = request; reply = reply } ∷ replies

abbrev pub replies_after : World → Item → List Answered
replies_after w (Took (Exec send reply)) = answered (numbered w.sent send) reply w.replies
replies_after w (Took (Torn send)) = answered (numbered w.sent send) Reply.Fault w.replies
replies_after w _ = w.replies

abbrev pub handed_after : World → Item → List ℕ
handed_after w (Took (Hand reply)) = reply ∷ w.handed
handed_after w _ = w.handed

-- the event that handing an answer makes: none where it goes to a node
abbrev pub made_by : Option Answered → List Made
made_by None = []
made_by (Some answer) = cond (answer.request.from == 0) (Reply_made answer ∷ []) []

abbrev pub waiting_after : World → Item → List Made
waiting_after w (Took (Hand reply)) = w.waiting ++ made_by (numbered w.replies reply)
waiting_after w (Took (Now ms)) = w.waiting ++ Now_made ms ∷ []
waiting_after w (Took (Cut node)) = w.waiting ++ Broken_made node ∷ []
waiting_after w (Took (Stop node)) = w.waiting ++ Broken_made node ∷ []
waiting_after w (Given Event.Quiet) = w.waiting
waiting_after w (Given _) = drop 1 w.waiting
waiting_after w _ = w.waiting

abbrev pub clock_after : World → Item → ℕ
clock_after w (Took (Now ms)) = ms
clock_after w _ = w.clock

-- The world after an item. Cells change here alone: each one is joined with what arrives there.
abbrev pub after : World → Item → World
after w item = record {
  cells = λ n p id. join (w.cells n p id) (arriving w item n p id);
  doubts = doubts_after w item;
  stopped = stopped_after w item;
  sent = sent_after w item;
  replies = replies_after w item;
  handed = handed_after w item;
  waiting = waiting_after w item;
  clock = clock_after w item;
}

-- the world that a record leads to
abbrev pub world : Cells → Record → World
world opening [] = start opening
world opening (item ∷ before) = after (world opening before) item

-- What a replica may reply: what the table says, or a refusal; a node that has no such replica says so. A device's fault has a step of
-- its own. A replica in doubt is down.
abbrev pub MayReply : Option Change → Cell → Ask → Reply → Type 0
MayReply None cell ask reply = Answers cell ask reply ⊎ (IsRefusal ask reply × (reply ≢ Reply.Fault)) ⊎ (reply ≡ Reply.NoPartition)
MayReply (Some doubt) cell ask reply = reply ≡ Reply.Down

-- a replica that runs an ask says what it may, and its pages are of its own cells
pub record MayRun (w : World) (send : ℕ) (call : Call) (reply : Reply) : Type 0 where
  pub sent : call_at w send ≡ Some call
  pub running : w.stopped call.node ≡ false
  pub says : MayReply (w.doubts call.node call.partition) (w.cells call.node call.partition (id_of call.ask)) call.ask reply
  pub pages : PagesCells (w.cells call.node call.partition) reply

pub record MayTear (w : World) (send : ℕ) (call : Call) : Type 0 where
  pub sent : call_at w send ≡ Some call
  pub running : w.stopped call.node ≡ false
  pub sure : w.doubts call.node call.partition ≡ None

-- a node merges what a reply carries that was handed to it, at the partition that it asked for
pub record MayMerge (w : World) (node partition reply place : ℕ) (torn : Bool) : Type 0 where
  pub running : w.stopped node ≡ false
  pub handed : Has w.handed reply
  pub answer : Answered
  pub is : numbered w.replies reply ≡ Some answer
  pub from : answer.request.from ≡ node
  pub asked : Frame
  pub frame : answer.request.frame ≡ Some asked
  pub here : asked.partition ≡ partition
  pub carries : IsSome (carried (Some answer) place)
  pub sure : torn ≡ true → w.doubts node partition ≡ None

-- a frame that one node asks another
abbrev pub is_pull : Option Frame → Bool
is_pull None = false
is_pull (Some f) = elim f.body [
  | Body.Find max token ↦ true
  | Body.Fetch id ↦ true
  | _ ↦ false
]

-- the event tells what was made
abbrev pub Shows : Made → Event → Type 0
Shows (Reply_made answer) (Event.Reply node frame) =
    (node ≡ answer.request.node) × ((asked : Frame) × (answer.request.frame ≡ Some asked) × (frame_in frame ≡ Some (record { correlation = asked.correlation; partition = asked.partition; body = Body.Answer answer.reply })))
Shows (Broken_made node) (Event.Broken other) = other ≡ node
Shows (Now_made ms) (Event.Now other) = other ≡ ms
Shows _ _ = ⊥

-- the event is the oldest that was made and not yet given
abbrev pub IsNext : List Made → Event → Type 0
IsNext [] event = ⊥
IsNext (made ∷ rest) event = Shows made event

-- the item may come next
abbrev pub Allowed : World → Item → Type 0
Allowed w (Took (Send from node frame)) = (from ≡ 0) ⊎ IsTrue (is_pull (frame_in frame))
Allowed w (Took (Refused node frame)) = w.stopped node ≡ true
Allowed w (Took (Exec send reply)) = (call : Call) × MayRun w send call reply
Allowed w (Took (Torn send)) = (call : Call) × MayTear w send call
Allowed w (Took (Hand reply)) = IsSome (numbered w.replies reply)
Allowed w (Took (Now ms)) = w.clock ≤ ms
Allowed w (Took (Restart node done)) = w.stopped node ≡ true
Allowed w (Took (Merge node partition reply place torn)) = MayMerge w node partition reply place torn
Allowed w (Given Event.Quiet) = Unit {0}
Allowed w (Given event) = IsNext w.waiting event
Allowed w _ = Unit {0}

-- each item was allowed in the world that it found
abbrev pub Run : Cells → Record → Type 0
Run opening [] = Unit {0}
Run opening (item ∷ before) = Run opening before × Allowed (world opening before) item
