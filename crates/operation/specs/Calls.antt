-- What an operation was told and what it sent: its calls, the newest first.
use Rattle.std.specs.Prelude.{ℕ, ◌==◌, Bool, true, false, ◌||◌, not, cond, List, [], ◌∷◌, filter, Option, Some, None, Result, Ok, Err}
use Rattle.blob_id.specs.declared.id.BlobId.{BlobId}
use Rattle.blob_id.specs.Id.{partition_of}
use Rattle.cell_model.specs.declared.ask.Reply.{Reply}
use Rattle.quorum_op.specs.declared.cause.Cause.{Cause}
use Rattle.quorum_op.specs.declared.outcome.Outcome.{Outcome}
use Rattle.quorum_op.specs.Counts.{or_else}
use Rattle.req_frame.specs.declared.frame.Body.{Body}
use Rattle.req_frame.specs.declared.frame.Frame.{Frame}
use Rattle.operation.specs.declared.sending.Errand.{Errand}
use Rattle.operation.specs.declared.sending.Sending.{Sending}
use Rattle.operation.specs.declared.sending.Poll.{Poll}

pub data Call : Type 0 where
  Sent : Sending → Call  -- a request was added for sending
  Replied : (request : ℕ) → Reply → Call
  Missed : (request : ℕ) → Cause → Call  -- a request failed
  Drew : BlobId → Option (List ℕ) → Call  -- the id of a part's next attempt, with its body at the first one
  Cancelled : Call
  Starved : Call  -- a call for which there was no memory
  Polled : Call  -- the outcome was given

-- what calls come to
pub record Plan : Type 0 where
  pub wants : List Call → List ℕ → List Sending  -- the requests that `sends` adds, by this order of asking
  pub body : List Call → Errand → Option Body  -- what is spelled of an errand
  pub outcome : List Call → Option Outcome

abbrev pub is_done : Option Outcome → Bool
is_done None = false
is_done (Some outcome) = true

-- an outcome was given
abbrev pub was_given : Plan → List Call → Bool
was_given plan [] = false
was_given plan (Polled ∷ calls) = was_given plan calls || is_done (plan.outcome calls)
was_given plan (_ ∷ calls) = was_given plan calls

abbrev pub poll_of : Option Outcome → Poll
poll_of None = Poll.Pending
poll_of (Some outcome) = Poll.Done outcome

-- what `poll` answers
abbrev pub answer : Plan → List Call → Poll
answer plan calls = cond (was_given plan calls) Poll.Pending (poll_of (plan.outcome calls))

-- each request that was added, the first one first
abbrev pub sent_all : List Sending → List Call → List Call
sent_all [] calls = calls
sent_all (sending ∷ rest) calls = sent_all rest (Sent sending ∷ calls)

-- the calls after one that may want memory
abbrev pub unless_starved : {E : Type 0} → Result Unit E → List Call → List Call → List Call
unless_starved (Ok done) then calls = then
unless_starved (Err e) then calls = Starved ∷ calls

-- what is added where there is memory
abbrev pub unless_nothing : {E : Type 0} → Result Unit E → List Sending → List Sending
unless_nothing (Ok done) added = added
unless_nothing (Err e) added = []

-- asking for the outcome is a call only where it is given
abbrev pub after_poll : Poll → List Call → List Call
after_poll Poll.Pending calls = calls
after_poll (Poll.Done outcome) calls = Polled ∷ calls

-- the requests that were sent
abbrev pub sent_in : List Call → List Sending
sent_in [] = []
sent_in (Sent sending ∷ calls) = sending ∷ sent_in calls
sent_in (_ ∷ calls) = sent_in calls

abbrev pub without : ℕ → List Sending → List Sending
without request sendings = filter (λ sending. not (sending.request == request)) sendings

-- the requests that are outstanding: neither answered nor failed since they were sent
abbrev pub open_in : List Call → List Sending
open_in [] = []
open_in (Sent sending ∷ calls) = sending ∷ open_in calls
open_in (Replied request reply ∷ calls) = without request (open_in calls)
open_in (Missed request cause ∷ calls) = without request (open_in calls)
open_in (_ ∷ calls) = open_in calls

-- what ends an operation from outside
abbrev pub stop_by : Call → Option Outcome
stop_by Cancelled = Some Outcome.Cancelled
stop_by Starved = Some Outcome.Memory
stop_by _ = None

-- The outcome is the first one that the calls come to. A cancel and want of memory end what is pending.
abbrev pub first_outcome : (List Call → Option Outcome) → List Call → Option Outcome
first_outcome decides [] = decides []
first_outcome decides (call ∷ calls) = or_else (first_outcome decides calls) (or_else (stop_by call) (decides (call ∷ calls)))

abbrev pub id_of : Errand → BlobId
id_of (Errand.Put id) = id
id_of (Errand.Get id) = id
id_of (Errand.Delete id at) = id

-- the frame of a request, under a correlation
abbrev pub asked_frame : ℕ → Sending → Body → Frame
asked_frame correlation sending body = record { correlation = correlation; partition = partition_of (id_of sending.errand); body = body }
