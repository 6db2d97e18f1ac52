-- Where a put stands.
use Rattle.std.specs.Prelude.{◌≡◌, ℕ, ◌==◌, Bool, ◌&&◌, List, [], length, Option, Some, None}
use Rattle.blob_id.specs.declared.blob.Blob.{Blob}
use Rattle.blob_id.specs.declared.id.BlobId.{BlobId}
use Rattle.blob_id.specs.Id.{kind_of}
use Rattle.quorum_op.specs.declared.outcome.Outcome.{Outcome}
use Rattle.req_frame.specs.declared.frame.Body.{Body}
use Rattle.world_model.specs.World.{same_id}
use Rattle.operation.specs.declared.sending.Errand.{Errand}
use Rattle.operation.specs.declared.sending.Sending.{Sending}
use Rattle.operation.specs.Calls.{Call, id_of, sent_in}
use Rattle.operation.specs.Each.{HasReached}
use Rattle.operation.specs.Pieces.{IsPieceOf, Target, is_for}
use Rattle.operation.specs.Stages.{StandsAt}
use Rattle.operation.specs.Wants.{is_given_up, next_request}
use Rattle.operation.specs.declared.stage.Stage.{Stage}
use Rattle.put_op.specs.Puts.{Draw, PutTask, drawn_in, put_decides, put_outcome, put_plan, put_target}
use Rattle.put_op.specs.declared.drawn.Drawn.{Drawn}
use Rattle.put_op.specs.declared.drawn.Want.{Want}
use Rattle.put_op.specs.declared.drawn.Course.{Course}

-- how far a put with this outcome is
abbrev pub course_of : Option Outcome → Course
course_of None = Course.Pending
course_of (Some (Outcome.Put id)) = Course.Stored
course_of (Some outcome) = Course.Failed

-- an id of the kind that is wanted, and as many bytes
abbrev pub Fits : Option Want → BlobId → List ℕ → Type 0
Fits None id body = ⊥
Fits (Some want) id body = (kind_of id ≡ want.kind) × (length body ≡ want.len)

-- what was drawn, with the bytes that are kept
abbrev pub draw_in : Option Drawn → List ℕ → Option Draw
draw_in None body = None
draw_in (Some drawn) body = Some (record { id = drawn.id; body = body })

-- the request asks the replica to store the piece
abbrev pub stores : Target → Sending → ℕ → Bool
stores t sending replica = is_for t sending && (sending.replica == replica)

-- the request asks the replica to delete the id that is given up
abbrev pub removes : BlobId → Sending → ℕ → Bool
removes id sending replica = is_given_up sending.purpose && (same_id (id_of sending.errand) id && (sending.replica == replica))

-- the piece is what the calls come to, and each of its replicas was asked to store it, and to delete its id, or none
pub record IsDrawn (task : PutTask) (drawn : Drawn) (calls : List Call) : Type 0 where
  pub errand : drawn.piece.errand ≡ Errand.Put drawn.id
  pub piece : IsPieceOf (put_target task drawn.id) drawn.piece calls
  pub stored : HasReached (stores (put_target task drawn.id)) task.replicas drawn.asked calls
  pub removed : HasReached (removes drawn.id) task.replicas drawn.given_up calls

abbrev pub KnowsDrawn : PutTask → Option Drawn → List Call → Type 0
KnowsDrawn task None calls = sent_in calls ≡ []
KnowsDrawn task (Some drawn) calls = IsDrawn task drawn calls

-- where the outcome was given, how far the put was then
abbrev pub IsCourse : Stage → Course → Option Outcome → Type 0
IsCourse Stage.Given course outcome = course_of outcome ≡ course
IsCourse _ course outcome = Unit {0}

-- by these calls that was drawn, this is the number of the next request, and it is at this stage
pub record IsPut (task : PutTask) (drawn : Option Drawn) (body : List ℕ) (next : ℕ) (stage : Stage) (course : Course) (calls : List Call) : Type 0 where
  pub draws : drawn_in task calls ≡ draw_in drawn body
  pub knows : KnowsDrawn task drawn calls
  pub numbers : next ≡ next_request calls
  pub at : StandsAt (put_plan task) (put_decides task) stage calls
  pub ended : IsCourse stage course (put_outcome task calls)

-- the blob that is to be stored
abbrev pub blob_in : Body → Option Blob
blob_in (Body.Put id blob) = Some blob
blob_in _ = None
