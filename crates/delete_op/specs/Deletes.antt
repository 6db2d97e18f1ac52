-- What a delete comes to. So far its blob is one piece.
use Rattle.std.specs.Prelude.{ℕ, cond, List, [], Option, Some, None}
use Rattle.blob_id.specs.declared.id.BlobId.{BlobId}
use Rattle.quorum_op.specs.declared.cause.Cause.{Cause}
use Rattle.quorum_op.specs.declared.cause.TallyKind.{TallyKind}
use Rattle.quorum_op.specs.declared.cause.Verdict.{Verdict}
use Rattle.quorum_op.specs.declared.outcome.Outcome.{Outcome}
use Rattle.req_frame.specs.declared.frame.Body.{Body}
use Rattle.operation.specs.declared.sending.Errand.{Errand}
use Rattle.operation.specs.declared.sending.Sending.{Sending}
use Rattle.operation.specs.Calls.{Call, Plan, first_outcome, is_done}
use Rattle.operation.specs.Pieces.{Target, failed_at, verdict_at}
use Rattle.operation.specs.Wants.{asks_all, part_of, sends_along, upto}

-- the id to be deleted, the moment of the delete in ms, how many replicas there are, and how many are needed
pub record DeleteTask : Type 0 where
  pub id : BlobId
  pub at : ℕ
  pub replicas : ℕ
  pub need : ℕ

abbrev pub delete_target : DeleteTask → Target
delete_target task = record { chunk = None; attempt = 0; kind = TallyKind.Delete; id = task.id; replicas = task.replicas; need = task.need }

-- what a piece that was deleted comes to
abbrev pub removal : BlobId → Verdict → List (ℕ × Cause) → Option Outcome
removal id Verdict.Ok failed = Some Outcome.Deleted2
removal id Verdict.Unavailable failed = Some (Outcome.Unavailable id failed)
removal id _ failed = None

abbrev pub delete_decides : DeleteTask → List Call → Option Outcome
delete_decides task calls = removal task.id (verdict_at (delete_target task) calls) (failed_at (delete_target task) calls)

abbrev pub delete_outcome : DeleteTask → List Call → Option Outcome
delete_outcome task calls = first_outcome (delete_decides task) calls

abbrev pub delete_wants : DeleteTask → List Call → List ℕ → List Sending
delete_wants task calls order =
    cond (is_done (delete_outcome task calls)) [] (sends_along (asks_all (delete_target task)) (part_of (delete_target task)) (Errand.Delete task.id task.at) calls (upto task.replicas))

abbrev pub delete_body : Errand → Option Body
delete_body (Errand.Delete id at) = Some (Body.Delete id at)
delete_body _ = None

abbrev pub delete_plan : DeleteTask → Plan
delete_plan task = record { wants = delete_wants task; body = λ calls errand. delete_body errand; outcome = delete_outcome task }
