-- What a get comes to. So far its blob is one piece.
use Rattle.std.specs.Prelude.{ℕ, cond, List, [], Option, Some, None}
use Rattle.blob_id.specs.declared.blob.Blob.{Blob}
use Rattle.blob_id.specs.declared.id.BlobId.{BlobId}
use Rattle.quorum_op.specs.declared.cause.Cause.{Cause}
use Rattle.quorum_op.specs.declared.cause.TallyKind.{TallyKind}
use Rattle.quorum_op.specs.declared.cause.Verdict.{Verdict}
use Rattle.quorum_op.specs.declared.outcome.Outcome.{Outcome}
use Rattle.req_frame.specs.declared.frame.Body.{Body}
use Rattle.get_op.specs.declared.get.GetOp.{GetOp}
use Rattle.operation.specs.declared.sending.Errand.{Errand}
use Rattle.operation.specs.declared.sending.Sending.{Sending}
use Rattle.operation.specs.declared.stage.Stage.{Stage}
use Rattle.operation.specs.Calls.{Call, Plan, first_outcome, is_done}
use Rattle.operation.specs.Pieces.{PieceView, Target, blob_at, failed_at, verdict_at}
use Rattle.operation.specs.Stages.{StandsBy}
use Rattle.operation.specs.Wants.{asks_next, part_of, sends_along}

-- the id to be read, how many replicas there are, and how many are needed
pub record GetTask : Type 0 where
  pub id : BlobId
  pub replicas : ℕ
  pub need : ℕ

abbrev pub get_target : GetTask → Target
get_target task = record { chunk = None; attempt = 0; kind = TallyKind.Get; id = task.id; replicas = task.replicas; need = task.need }

-- the bytes of a blob that came
abbrev pub bytes_of : Option Blob → Option Outcome
bytes_of None = None
bytes_of (Some blob) = Some (Outcome.Bytes blob.body)

-- what a piece that was read comes to
abbrev pub read_outcome : BlobId → Verdict → Option Blob → List (ℕ × Cause) → Option Outcome
read_outcome id Verdict.Pending blob failed = None
read_outcome id Verdict.Ok blob failed = bytes_of blob
read_outcome id Verdict.Gone blob failed = Some Outcome.Deleted
read_outcome id Verdict.NotFound blob failed = Some Outcome.NotFound
read_outcome id Verdict.Unavailable blob failed = Some (Outcome.Unavailable id failed)

abbrev pub get_decides : GetTask → List Call → Option Outcome
get_decides task calls =
    read_outcome task.id (verdict_at (get_target task) calls) (blob_at (get_target task) calls) (failed_at (get_target task) calls)

abbrev pub get_outcome : GetTask → List Call → Option Outcome
get_outcome task calls = first_outcome (get_decides task) calls

abbrev pub get_wants : GetTask → List Call → List ℕ → List Sending
get_wants task calls order =
    cond (is_done (get_outcome task calls)) [] (sends_along (asks_next (get_target task)) (part_of (get_target task)) (Errand.Get task.id) calls order)

abbrev pub get_body : Errand → Option Body
get_body (Errand.Get id) = Some (Body.Get id)
get_body _ = None

abbrev pub get_plan : GetTask → Plan
get_plan task = record { wants = get_wants task; body = λ calls errand. get_body errand; outcome = get_outcome task }

-- a get stands where these calls bring it
abbrev pub GetStands : GetTask → PieceView → ℕ → Stage → List Call → Type 0
GetStands task piece next stage calls = StandsBy (get_plan task) (get_decides task) (get_target task) (Errand.Get task.id) piece next stage calls

-- the plan of a get, and where calls bring it
abbrev pub plan_of : GetOp → Plan
plan_of g = get_plan (record { id = g.id; replicas = g.replicas; need = g.need })

abbrev pub stands_at : GetOp → List Call → Type 0
stands_at g calls = GetStands (record { id = g.id; replicas = g.replicas; need = g.need }) g.piece g.next g.stage calls
