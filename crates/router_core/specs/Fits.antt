-- What a router keeps to, whatever its network tells.
use Rattle.std.specs.Prelude.{◌≡◌, ℕ, ◌+◌, ◌^◌, ◌<◌, ◌≤◌, true, List, [], ◌∷◌, length}
use Rattle.blob_id.specs.Id.{partition_of}
use Rattle.operation.specs.Calls.{Call, Cancelled}
use Rattle.quorum_op.specs.declared.outcome.Outcome.{Outcome}
use Rattle.world_model.specs.declared.shape.Shape.{Shape}
use Rattle.world_model.specs.Pieces.{is_simple}
use Rattle.world_model.specs.Shape.{IsShape}
use Rattle.router_core.specs.declared.live.Live.{Live}
use Rattle.router_core.specs.declared.op.Op.{Op}
use Rattle.router_core.specs.declared.router.Stage.{Stage}
use Rattle.router_core.specs.Jobs.{Job, IsServed, WasGiven, id_of, plan_for}
use Rattle.router_core.specs.Ops.{op_plan, op_stands}

-- a router: its cluster, the greatest moment that was told in ms, how many events it took, how many operations began, how many events and
-- script lines there were, and where each operation stands that is live
pub record RouterView : Type 0 where
  pub shape : Shape
  pub clock : ℕ
  pub events : ℕ
  pub begun : ℕ
  pub turns : ℕ
  pub stages : List Stage

-- it wasn't cancelled
abbrev pub GoesUncancelled : List Call → Type 0
GoesUncancelled [] = Unit {0}
GoesUncancelled (Cancelled ∷ calls) = ⊥
GoesUncancelled (call ∷ calls) = GoesUncancelled calls

-- The operation does this job, begun at this moment, for a simple id of a partition, and these calls brought it where it is.
pub record DoesJob (shape : Shape) (moment : ℕ) (job : Job) (op : Op) (calls : List Call) : Type 0 where
  pub plan : op_plan op ≡ plan_for shape moment job
  pub stands : op_stands op calls
  pub given : WasGiven shape moment job calls
  pub served : IsServed shape (id_of job)
  pub uncancelled : GoesUncancelled calls

-- an operation under way does some job
pub record FitsLive (shape : Shape) (live : Live) : Type 0 where
  pub number : live.operation < 2 ^ 31
  pub moment : ℕ
  pub job : Job
  pub calls : List Call
  pub does : DoesJob shape moment job live.op calls

-- An operation ends neither for want of memory nor cancelled, and a put's answer is a simple id of a partition.
abbrev pub IsAnswer : Shape → Outcome → Type 0
IsAnswer shape (Outcome.Put id) = (is_simple id ≡ true) × (partition_of id < shape.partitions)
IsAnswer shape Outcome.Memory = ⊥
IsAnswer shape Outcome.Cancelled = ⊥
IsAnswer shape _ = Unit {0}

-- an operation that is live began, and is what an operation may be
abbrev pub FitsStage : Shape → ℕ → Stage → Type 0
FitsStage shape begun (Stage.UnderWay live) = (live.operation ≤ begun) × FitsLive shape live
FitsStage shape begun (Stage.Over operation outcome turn) = (operation ≤ begun) × IsAnswer shape outcome

abbrev pub number_of : Stage → ℕ
number_of (Stage.UnderWay live) = live.operation
number_of (Stage.Over operation outcome turn) = operation

-- each of them does, and their numbers rise from n on
abbrev pub FitStages : Shape → ℕ → ℕ → List Stage → Type 0
FitStages shape begun n [] = Unit {0}
FitStages shape begun n (stage ∷ stages) = FitsStage shape begun stage × (n ≤ number_of stage) × FitStages shape begun (number_of stage + 1) stages

-- what is true of every router
pub record Fits (router : RouterView) : Type 0 where
  pub shape : IsShape router.shape
  pub number : router.begun < 2 ^ 31
  pub few : length router.stages ≤ 16
  pub stages : FitStages router.shape router.begun 1 router.stages
