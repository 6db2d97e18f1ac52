-- How far an operation is.
use Rattle.std.specs.Prelude.{◌≡◌, ◌⊎◌, ℕ, Bool, true, false, List, ◌∷◌, Option, Some}
use Rattle.blob_id.specs.declared.blob.Blob.{Blob}
use Rattle.quorum_op.specs.declared.outcome.Outcome.{Outcome}
use Rattle.quorum_op.specs.Tally.{Note, is_pending, verdict}
use Rattle.operation.specs.declared.sending.Errand.{Errand}
use Rattle.operation.specs.declared.stage.Stage.{Stage}
use Rattle.operation.specs.Calls.{Call, Plan, is_done, was_given}
use Rattle.operation.specs.Pieces.{IsPieceOf, PieceView, Target, blob_at, notes_at}
use Rattle.operation.specs.Wants.{next_request}

abbrev pub is_given : Stage → Bool
is_given Stage.Given = true
is_given _ = false

-- whether there is an outcome, where the notes decide or not
abbrev pub is_over : Stage → Bool → Bool
is_over Stage.Running decided = decided
is_over _ decided = true

-- what a stage says of the outcome, beside what the notes come to
abbrev pub ComesTo : Stage → Option Outcome → Option Outcome → Type 0
ComesTo Stage.Running outcome decided = outcome ≡ decided
ComesTo Stage.Cancelled outcome decided = outcome ≡ Some Outcome.Cancelled
ComesTo Stage.Starved outcome decided = outcome ≡ Some Outcome.Memory
ComesTo Stage.Given outcome decided = is_done outcome ≡ true

-- these calls bring an operation to this stage
pub record StandsAt (plan : Plan) (decides : List Call → Option Outcome) (stage : Stage) (calls : List Call) : Type 0 where
  pub outcome : ComesTo stage (plan.outcome calls) (decides calls)
  pub given : was_given plan calls ≡ is_given stage

-- what was decided stays so behind one more call
abbrev pub Stays : (List Call → Option Outcome) → Call → List Call → Type 0
Stays decides call calls = (outcome : Outcome) → decides calls ≡ Some outcome → decides (call ∷ calls) ≡ Some outcome

-- what is decided is a function of the notes on one piece and of its blob, and nothing is decided while it is pending
pub record IsSingle (t : Target) (decides : List Call → Option Outcome) (by : List Note → Option Blob → Option Outcome) : Type 0 where
  pub reads : (calls : List Call) → decides calls ≡ by (notes_at t calls) (blob_at t calls)
  pub late : (notes : List Note) (blob : Option Blob) (outcome : Outcome) → by notes blob ≡ Some outcome → is_pending (verdict t.kind t.replicas t.need notes) ≡ false

-- an operation of one piece: its stage, the number of its next request, and until the outcome was given its piece, which asks this
pub record StandsBy (plan : Plan) (decides : List Call → Option Outcome) (t : Target) (errand : Errand) (view : PieceView) (next : ℕ) (stage : Stage) (calls : List Call) : Type 0 where
  pub at : StandsAt plan decides stage calls
  pub numbers : next ≡ next_request calls
  pub asks : view.errand ≡ errand
  pub piece : is_given stage ≡ false → IsPieceOf t view calls

-- what is decided, or want of memory for it
abbrev pub IsOrMemory : Option Outcome → Option Outcome → Type 0
IsOrMemory decided result = (result ≡ decided) ⊎ (result ≡ Some Outcome.Memory) × (is_done decided ≡ true)
