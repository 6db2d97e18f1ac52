-- What the calls on a network say of what it tells.
use Rattle.std.specs.Prelude.{◌≡◌, ◌≢◌, ℕ, ◌≤◌, List, [], ◌∷◌, length, Option, Some, None, Result, Ok, Err}
use Rattle.world_model.specs.declared.fabric.SendFault.{SendFault}
use Rattle.world_model.specs.declared.order.Order.{Order}
use Rattle.world_model.specs.declared.order.Told.{Told}
use Rattle.world_model.specs.declared.shape.Shape.{Shape}
use Rattle.world_model.specs.declared.step.Called.{Called}
use Rattle.world_model.specs.declared.step.Did.{Did}
use Rattle.world_model.specs.declared.step.Event.{Event}
use Rattle.world_model.specs.declared.step.Step.{Step}
use Rattle.world_model.specs.Orders.{ComesTo}
use Rattle.world_model.specs.Told.{told, AllNetwork}
use Rattle.world_model.specs.World.{Cells, Made, nothing_held, world, Run}

-- what was a run, from whatever cells, still is one
abbrev pub KeepsRun : (old new : Cells → Type 0) → Type 0
KeepsRun old new = (opening : Cells) → old opening → new opening

-- where calls are told, one more is, and it is of this kind; where they aren't told, they still aren't
abbrev pub Tells : (old new : Option (List Called)) → (Called → Type 0) → Type 0
Tells None new P = new ≡ None
Tells (Some calls) new P = (call : Called) × P call × (new ≡ Some (call ∷ calls))

-- the opening, which made no step
abbrev pub IsOpening : Called → Type 0
IsOpening call = (call.did ≡ Did.Opened) × (call.steps ≡ [])

-- just the router's request to a node
abbrev pub Sent : (node : ℕ) → (frame : List ℕ) → Called → Type 0
Sent node frame call = (call.did ≡ Did.Requested node frame) × (call.steps ≡ Step.Send 0 node frame ∷ [])

-- just that the request couldn't be sent
abbrev pub Refused : (node : ℕ) → (frame : List ℕ) → Called → Type 0
Refused node frame call = (call.did ≡ Did.Requested node frame) × (call.steps ≡ Step.Refused node frame ∷ [])

-- steps that are no doing of the router's, and behind them this event
abbrev pub Gave : Event → Called → Type 0
Gave event call = (call.did ≡ Did.Delivered event) × AllNetwork call.steps

-- what a send tells, by its answer: nothing where memory ran out
abbrev pub TellsSend : {T : Type 0} → Result T SendFault → (old new : Option (List Called)) → (node : ℕ) → (frame : List ℕ) → Type 0
TellsSend (Ok sent) old new node frame = Tells old new (Sent node frame)
TellsSend (Err SendFault.Failed) old new node frame = Tells old new (Refused node frame)
TellsSend (Err SendFault.Memory) old new node frame = new ≡ old

-- the events that calls made and that weren't given yet, the oldest first
abbrev pub undelivered : List Called → List Made
undelivered calls = (world nothing_held (told calls)).waiting

-- so many events were made and not given yet, where calls are told
abbrev pub Awaits : Option (List Called) → ℕ → Type 0
Awaits None n = Unit {0}
Awaits (Some calls) n = n ≡ length (undelivered calls)

-- where an event waited, one more call is told, and it made no step
abbrev pub NoStepWhereOneWaited : (old new : Option (List Called)) → Type 0
NoStepWhereOneWaited None new = Unit {0}
NoStepWhereOneWaited (Some calls) new = (undelivered calls ≢ []) → (call : Called) × (call.steps ≡ []) × (new ≡ Some (call ∷ calls))

-- a network that is open for a shape, of which this is a node
abbrev pub HasNode : Option Shape → ℕ → Type 0
HasNode None node = ⊥
HasNode (Some shape) node = (1 ≤ node) × (node ≤ shape.nodes)

-- one that is told where its calls are
abbrev pub IsToldRun : Cells → Option (List Called) → Type 0
IsToldRun opening None = Unit {0}
IsToldRun opening (Some calls) = Run opening (told calls)

-- what came of an order, as one more call: steps that are no doing of the router's, by which the order came to this
pub record Obeyed (order : Order) (answer : Told) (before : List Called) (call : Called) : Type 0 where
  pub did : call.did ≡ Did.Administered order answer
  pub network : AllNetwork call.steps
  pub comes : ComesTo order answer call.steps (told before)

abbrev pub TellsOrder : Result Told SendFault → (old new : Option (List Called)) → Order → Type 0
TellsOrder (Ok answer) None new order = new ≡ None
TellsOrder (Ok answer) (Some calls) new order = (call : Called) × Obeyed order answer calls call × (new ≡ Some (call ∷ calls))
TellsOrder (Err fault) old new order = new ≡ old

-- An order that a network takes: that a node of its shape is to stop, or to run again.
abbrev pub TakesOrder : Option Shape → Order → Type 0
TakesOrder shape (Order.Stop node) = HasNode shape node
TakesOrder shape (Order.Restart node) = HasNode shape node
TakesOrder shape order = ⊥
