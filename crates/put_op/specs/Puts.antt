-- What a put comes to. So far its blob is one piece, and each piece has one attempt.
use Rattle.std.specs.Prelude.{ℕ, ◌==◌, cond, List, [], ◌∷◌, length, Option, Some, None}
use Rattle.blob_id.specs.declared.blob.Blob.{Blob}
use Rattle.blob_id.specs.declared.id.BlobId.{BlobId}
use Rattle.blob_id.specs.declared.id.Kind.{Kind}
use Rattle.quorum_op.specs.declared.cause.Cause.{Cause}
use Rattle.quorum_op.specs.declared.cause.TallyKind.{TallyKind}
use Rattle.quorum_op.specs.declared.cause.Verdict.{Verdict}
use Rattle.quorum_op.specs.declared.outcome.Outcome.{Outcome}
use Rattle.quorum_op.specs.Counts.{or_else}
use Rattle.req_frame.specs.declared.frame.Body.{Body}
use Rattle.operation.specs.declared.sending.Errand.{Errand}
use Rattle.operation.specs.declared.sending.Purpose.{Purpose}
use Rattle.operation.specs.declared.sending.Sending.{Sending}
use Rattle.operation.specs.Calls.{Call, Drew, Plan, first_outcome}
use Rattle.operation.specs.Pieces.{Target, failed_at, verdict_at}
use Rattle.operation.specs.Wants.{asks_all, gives_up, part_of, sends_along, upto}
use Rattle.put_op.specs.declared.drawn.Want.{Want}

-- how many bytes are to be put, how many replicas there are and are needed, and the moment of the put in ms, the type and the metadata of
-- the blob
pub record PutTask : Type 0 where
  pub total : ℕ
  pub replicas : ℕ
  pub need : ℕ
  pub created : ℕ
  pub ctype : List ℕ
  pub meta : List ℕ

-- an id that was drawn, and the bytes to be put under it
pub record Draw : Type 0 where
  pub id : BlobId
  pub body : List ℕ

abbrev pub draw_of : PutTask → BlobId → Option (List ℕ) → Option Draw
draw_of task id None = None
draw_of task id (Some body) = cond (length body == task.total) (Some (record { id = id; body = body })) None

-- the first id that was drawn with as many bytes as are to be put
abbrev pub drawn_in : PutTask → List Call → Option Draw
drawn_in task [] = None
drawn_in task (Drew id body ∷ calls) = or_else (drawn_in task calls) (draw_of task id body)
drawn_in task (_ ∷ calls) = drawn_in task calls

abbrev pub put_target : PutTask → BlobId → Target
put_target task id = record { chunk = None; attempt = 0; kind = TallyKind.Put; id = id; replicas = task.replicas; need = task.need }

-- what a piece that was put comes to
abbrev pub storing : BlobId → Verdict → List (ℕ × Cause) → Option Outcome
storing id Verdict.Ok failed = Some (Outcome.Put id)
storing id Verdict.Unavailable failed = Some (Outcome.Unavailable id failed)
storing id _ failed = None

abbrev pub storing_of : PutTask → List Call → Option Draw → Option Outcome
storing_of task calls None = None
storing_of task calls (Some draw) = storing draw.id (verdict_at (put_target task draw.id) calls) (failed_at (put_target task draw.id) calls)

abbrev pub put_decides : PutTask → List Call → Option Outcome
put_decides task calls = storing_of task calls (drawn_in task calls)

abbrev pub put_outcome : PutTask → List Call → Option Outcome
put_outcome task calls = first_outcome (put_decides task) calls

-- the piece that is to be drawn for: the whole blob, as long as nothing was drawn and the put is pending
abbrev pub whole_piece : PutTask → Want
whole_piece task = record { piece = 0; attempt = 0; kind = Kind.Simple; from = 0; len = task.total }

abbrev pub unless_drawn : PutTask → Option Outcome → Option Draw → Option Want
unless_drawn task None None = Some (whole_piece task)
unless_drawn task _ _ = None

abbrev pub put_want : PutTask → List Call → Option Want
put_want task calls = unless_drawn task (put_outcome task calls) (drawn_in task calls)

-- Each replica is asked to store what was drawn. Once the put ended otherwise than ok, each is asked to delete the id that was drawn.
abbrev pub wants_by : PutTask → List Call → Option Outcome → Option Draw → List Sending
wants_by task calls outcome None = []
wants_by task calls None (Some draw) =
    sends_along (asks_all (put_target task draw.id)) (part_of (put_target task draw.id)) (Errand.Put draw.id) calls (upto task.replicas)
wants_by task calls (Some (Outcome.Put id)) (Some draw) = []
wants_by task calls (Some outcome) (Some draw) = sends_along (gives_up task.replicas draw.id) Purpose.GivenUp (Errand.Delete draw.id 0) calls (upto task.replicas)

abbrev pub put_wants : PutTask → List Call → List ℕ → List Sending
put_wants task calls order = wants_by task calls (put_outcome task calls) (drawn_in task calls)

abbrev pub blob_of : PutTask → Draw → Blob
blob_of task draw = record { created = task.created; ctype = task.ctype; meta = task.meta; body = draw.body }

abbrev pub stored_body : PutTask → Option Draw → BlobId → Option Body
stored_body task None id = None
stored_body task (Some draw) id = Some (Body.Put id (blob_of task draw))

abbrev pub put_body : PutTask → List Call → Errand → Option Body
put_body task calls (Errand.Put id) = stored_body task (drawn_in task calls) id
put_body task calls (Errand.Delete id at) = Some (Body.Delete id at)
put_body task calls (Errand.Get id) = None

abbrev pub put_plan : PutTask → Plan
put_plan task = record { wants = put_wants task; body = put_body task; outcome = put_outcome task }
