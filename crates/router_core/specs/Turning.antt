-- What an event and a script line are to a router.
use Rattle.std.specs.Prelude.{◌≡◌, ℕ, ◌+◌, max, List, [], ◌∷◌}
use Rattle.operation.specs.Calls.{Call}
use Rattle.op_table.specs.Addressed.{heard_by}
use Rattle.op_table.specs.Told.{left, told_all, told_calls}
use Rattle.router_core.specs.declared.live.Live.{Live}
use Rattle.router_core.specs.declared.router.Stage.{Stage}
use Rattle.router_core.specs.Fits.{DoesJob, RouterView}
use Rattle.router_core.specs.Jobs.{Job}
use Rattle.world_model.specs.declared.shape.Shape.{Shape}
use Rattle.op_table.specs.declared.heard.Heard.{Heard}

-- the greatest moment that was heard
abbrev pub clock_after : Heard → ℕ → ℕ
clock_after (Heard.Now ms) clock = max ms clock
clock_after _ clock = clock

-- what is kept of an operation that was told what was heard
pub record IsTold (heard : Heard) (events : ℕ) (old new : Live) : Type 0 where
  pub operation : new.operation ≡ old.operation
  pub requests : new.requests ≡ left heard events old.requests
  pub does : (shape : Shape) (moment : ℕ) (job : Job) (calls : List Call) → DoesJob shape moment job old.op calls → DoesJob shape moment job new.op (told_calls heard (told_all heard events old.requests) calls)

-- what became of an operation that was told what it hears of an event
abbrev pub IsToldStage : Heard → ℕ → Stage → Stage → Type 0
IsToldStage heard events (Stage.UnderWay old) (Stage.UnderWay new) = IsTold (heard_by old.operation heard) events old new
IsToldStage heard events (Stage.UnderWay old) (Stage.Over operation outcome turn) = ⊥
IsToldStage heard events (Stage.Over operation outcome turn) new = new ≡ Stage.Over operation outcome turn

abbrev pub AllTold : Heard → ℕ → List Stage → List Stage → Type 0
AllTold heard events [] [] = Unit {0}
AllTold heard events (old ∷ olds) (new ∷ news) = IsToldStage heard events old new × AllTold heard events olds news
AllTold heard events _ _ = ⊥

-- a router that counts one more event or script line
abbrev pub one_turn_on : RouterView → RouterView
one_turn_on router = record { shape = router.shape; clock = router.clock; events = router.events; begun = router.begun; turns = router.turns + 1; stages = router.stages }
