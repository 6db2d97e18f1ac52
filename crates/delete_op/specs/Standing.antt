-- Where a delete stands.
use Rattle.std.specs.Prelude.{◌≡◌, ℕ, ◌==◌, Bool, ◌&&◌, List}
use Rattle.operation.specs.declared.sending.Errand.{Errand}
use Rattle.operation.specs.declared.sending.Sending.{Sending}
use Rattle.operation.specs.declared.stage.Stage.{Stage}
use Rattle.operation.specs.Calls.{Call}
use Rattle.operation.specs.Each.{HasReached}
use Rattle.operation.specs.Pieces.{IsPieceOf, PieceView, Target, is_for}
use Rattle.operation.specs.Stages.{StandsAt}
use Rattle.operation.specs.Wants.{next_request}
use Rattle.delete_op.specs.Deletes.{DeleteTask, delete_decides, delete_plan, delete_target}

-- the request asks the replica to delete the piece
abbrev pub deletes : Target → Sending → ℕ → Bool
deletes t sending replica = is_for t sending && (sending.replica == replica)

-- by these calls its piece is this, this is the number of its next request, its replicas were asked or not, and it is at this stage
pub record IsDelete (task : DeleteTask) (view : PieceView) (next : ℕ) (asked : Bool) (stage : Stage) (calls : List Call) : Type 0 where
  pub errand : view.errand ≡ Errand.Delete task.id task.at
  pub piece : IsPieceOf (delete_target task) view calls
  pub numbers : next ≡ next_request calls
  pub reached : HasReached (deletes (delete_target task)) task.replicas asked calls
  pub at : StandsAt (delete_plan task) (delete_decides task) stage calls
