-- One piece of an operation, by the operation's calls.
use Rattle.std.specs.Prelude.{◌≡◌, ℕ, ◌+◌, ◌<◌, ◌==◌, Bool, true, false, ◌&&◌, cond, List, [], ◌∷◌, length, filter, map, find, Option, Some, None, slice_index_or}
use Rattle.std.specs.List.{list_any}
use Rattle.blob_id.specs.declared.blob.Blob.{Blob}
use Rattle.blob_id.specs.declared.id.BlobId.{BlobId}
use Rattle.cell_model.specs.declared.ask.Reply.{Reply}
use Rattle.quorum_op.specs.declared.cause.Cause.{Cause}
use Rattle.quorum_op.specs.declared.cause.TallyKind.{TallyKind}
use Rattle.quorum_op.specs.declared.cause.Verdict.{Verdict}
use Rattle.quorum_op.specs.Counts.{or_else}
use Rattle.quorum_op.specs.Slots.{TallyView, IsTallyOf}
use Rattle.quorum_op.specs.Tally.{Note, failed_replicas, is_found, is_pending, is_state, standing, standing_so, verdict}
use Rattle.world_model.specs.declared.asking.Asking.{Asking}
use Rattle.world_model.specs.Notes.{Learnt, reply_says, failed, same_kind}
use Rattle.world_model.specs.World.{same_id}
use Rattle.operation.specs.declared.piece.Open.{Open}
use Rattle.operation.specs.declared.sending.Errand.{Errand}
use Rattle.operation.specs.declared.sending.Purpose.{Purpose}
use Rattle.operation.specs.declared.sending.Sending.{Sending}
use Rattle.operation.specs.Calls.{Call, Replied, Missed, id_of, open_in, sent_in}
use Rattle.operation.specs.Notes.{count_note, learnt_blob, learnt_finding, note_by}

-- a piece: an attempt at a part, what its replicas are asked for, under which id, how many there are, and how many are needed
pub record Target : Type 0 where
  pub chunk : Option ℕ
  pub attempt : ℕ
  pub kind : TallyKind
  pub id : BlobId
  pub replicas : ℕ
  pub need : ℕ

abbrev pub kind_of : Errand → TallyKind
kind_of (Errand.Put id) = TallyKind.Put
kind_of (Errand.Get id) = TallyKind.Get
kind_of (Errand.Delete id at) = TallyKind.Delete

abbrev pub asking_of : Errand → Asking
asking_of (Errand.Put id) = Asking.Put
asking_of (Errand.Get id) = Asking.Get
asking_of (Errand.Delete id at) = Asking.Delete

abbrev pub same_chunk : Option ℕ → Option ℕ → Bool
same_chunk None None = true
same_chunk (Some k) (Some n) = k == n
same_chunk _ _ = false

abbrev pub is_part : Target → Purpose → Bool
is_part t (Purpose.Part chunk attempt) = same_chunk t.chunk chunk && (attempt == t.attempt)
is_part t Purpose.GivenUp = false

-- the request is for the piece
abbrev pub is_for : Target → Sending → Bool
is_for t sending = is_part t sending.purpose && (same_kind t.kind (kind_of sending.errand) && same_id (id_of sending.errand) t.id)

-- the piece's outstanding requests
abbrev pub open_for : Target → List Call → List Sending
open_for t calls = filter (is_for t) (open_in calls)

-- the replica was asked for the piece
abbrev pub was_asked : Target → List Call → ℕ → Bool
was_asked t calls replica = list_any (λ sending. is_for t sending && (sending.replica == replica)) (sent_in calls)

-- the piece's outstanding request of a number
abbrev pub outstanding : Target → List Call → ℕ → Option Sending
outstanding t calls request = find (λ sending. sending.request == request) (open_for t calls)

-- what a reply says to a request, by the notes so far
abbrev pub heard : List Note → Reply → Sending → Option Learnt
heard notes reply sending = reply_says (is_state (standing notes sending.replica)) (asking_of sending.errand) reply

-- one more note of an outstanding request, where the verdict so far is Pending
abbrev pub noted_reply : Target → List Note → Reply → Option Sending → List Note
noted_reply t notes reply None = notes
noted_reply t notes reply (Some sending) = count_note t.kind t.replicas t.need (note_by sending.replica (learnt_finding (heard notes reply sending))) notes

abbrev pub noted_failure : Target → List Note → Cause → Option Sending → List Note
noted_failure t notes cause None = notes
noted_failure t notes cause (Some sending) = count_note t.kind t.replicas t.need (note_by sending.replica (learnt_finding (failed cause))) notes

-- the notes on the piece: one for each request that was answered or failed while it was outstanding, as long as the verdict was Pending
abbrev pub notes_at : Target → List Call → List Note
notes_at t [] = []
notes_at t (Replied request reply ∷ calls) = noted_reply t (notes_at t calls) reply (outstanding t calls request)
notes_at t (Missed request cause ∷ calls) = noted_failure t (notes_at t calls) cause (outstanding t calls request)
notes_at t (_ ∷ calls) = notes_at t calls

abbrev pub verdict_at : Target → List Call → Verdict
verdict_at t calls = verdict t.kind t.replicas t.need (notes_at t calls)

abbrev pub failed_at : Target → List Call → List (ℕ × Cause)
failed_at t calls = failed_replicas t.replicas (notes_at t calls)

abbrev pub brought_by : List Note → Reply → Option Sending → Option Blob
brought_by notes reply None = None
brought_by notes reply (Some sending) = learnt_blob (heard notes reply sending)

-- the blob of the first reply that counted and brought one
abbrev pub blob_at : Target → List Call → Option Blob
blob_at t [] = None
blob_at t (Replied request reply ∷ calls) =
    or_else (blob_at t calls) (cond (is_pending (verdict_at t calls)) (brought_by (notes_at t calls) reply (outstanding t calls request)) None)
blob_at t (_ ∷ calls) = blob_at t calls

-- how many replicas of the piece are asked and haven't answered, or were found
abbrev pub busy_at : Target → List Call → ℕ
busy_at t calls = length (open_for t calls) + standing_so t.replicas (notes_at t calls) is_found

-- What is kept of a piece: the attempt and what it asks of its replicas, its outstanding requests, the newest first, which replicas were
-- asked, the tally of its notes, and the blob that came.
pub record PieceView : Type 0 where
  pub chunk : Option ℕ
  pub attempt : ℕ
  pub errand : Errand
  pub requests : List Open
  pub asked : List Bool
  pub tally : TallyView
  pub blob : Option Blob

abbrev pub open_of : Sending → Open
open_of sending = record { request = sending.request; replica = sending.replica }

abbrev pub asked_at : List Bool → ℕ → Bool
asked_at asked replica = slice_index_or asked replica false

abbrev pub replica_in : Option Open → Option ℕ
replica_in None = None
replica_in (Some o) = Some o.replica

-- the piece that this is kept of
abbrev pub target_of : PieceView → Target
target_of view = record {
  chunk = view.chunk;
  attempt = view.attempt;
  kind = view.tally.kind;
  id = id_of view.errand;
  replicas = view.tally.replicas;
  need = view.tally.need;
}

-- it is what these calls come to
pub record IsPieceOf (t : Target) (view : PieceView) (calls : List Call) : Type 0 where
  pub target : t ≡ target_of view
  pub kind : kind_of view.errand ≡ t.kind
  pub requests : view.requests ≡ map open_of (open_for t calls)
  pub asked : (replica : ℕ) → replica < t.replicas → asked_at view.asked replica ≡ was_asked t calls replica
  pub notes : IsTallyOf view.tally (notes_at t calls)
  pub blob : view.blob ≡ blob_at t calls
