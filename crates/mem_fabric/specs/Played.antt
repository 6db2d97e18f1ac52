-- What is done to the network of the nodes, act by act, and which moves that takes.
use Rattle.std.specs.Prelude.{◌≡◌, ℕ, Bool, true, List, [], ◌∷◌, ◌++◌, Option, Some, None, IsSome, option_map}
use Rattle.cell_model.specs.declared.ask.Reply.{Reply}
use Rattle.world_model.specs.declared.moves.Move.{Move}
use Rattle.world_model.specs.declared.order.Order.{Order}
use Rattle.world_model.specs.declared.order.Told.{Told}
use Rattle.world_model.specs.declared.shape.Shape.{Shape}
use Rattle.world_model.specs.declared.step.Called.{Called}
use Rattle.world_model.specs.declared.step.Event.{Event}
use Rattle.world_model.specs.Fabric.{HasNode, TakesOrder}
use Rattle.world_model.specs.Told.{OrderAnswer, orders_told}
use Rattle.world_model.specs.declared.offers.GivenMove.{GivenMove}
use Rattle.mem_fabric.specs.Offers.{picked_in}
use Rattle.mem_fabric.specs.Network.{Network, nothing, moved, runs, MayGive, after_open, after_send, after_move, MayBeTold, after_order, IsOldest, after_given}

-- One call on a network. A move that runs a request has its reply with it, and one that restarts a node whether its disks were opened. A call that found no memory did nothing, though it may have
-- been given a move.
pub data Act : Type 0 where
  Opens : Shape → Act
  Sends : (node : ℕ) → (frame : List ℕ) → Act
  Orders : Order → (answer : Told) → Act
  Gives : Event → Act
  Moves : Move → Reply → (opened : Bool) → Act
  Fails : Option Move → Act

abbrev pub acted : Network → Act → Network
acted n (Opens shape) = after_open n shape
acted n (Sends node frame) = after_send n node frame
acted n (Orders order answer) = after_order n order answer
acted n (Gives event) = after_given n event
acted n (Moves chosen reply opened) = after_move n (moved n reply opened chosen)
acted n (Fails chosen) = n

-- The act may come next: opening comes once, and before all others that do something, and a move where no event waits to be given.
abbrev pub MayAct : Network → Act → Type 0
MayAct n (Opens shape) = n ≡ nothing
MayAct n (Sends node frame) = HasNode n.shape node
MayAct n (Orders order answer) = TakesOrder n.shape order × MayBeTold n order answer
MayAct n (Gives event) = IsOldest n.queue event
MayAct n (Moves chosen reply opened) = IsSome n.shape × (n.queue ≡ []) × MayGive n (runs n chosen) reply
MayAct n (Fails chosen) = Unit {0}

-- the network after acts, the newest first
abbrev pub all_acted : Network → List Act → Network
all_acted n [] = n
all_acted n (act ∷ before) = acted (all_acted n before) act

abbrev pub AllMay : Network → List Act → Type 0
AllMay n [] = Unit {0}
AllMay n (act ∷ before) = AllMay n before × MayAct (all_acted n before) act

abbrev pub list_of : {A : Type 0} → Option A → List A
list_of None = []
list_of (Some x) = x ∷ []

-- one more move was given at most
abbrev pub AtMostOne : List GivenMove → List GivenMove → Type 0
AtMostOne given given' = (chosen : Option GivenMove) × (given' ≡ given ++ list_of chosen)

-- the move that an act takes, picked from what is there
abbrev pub move_in : Network → Act → List GivenMove
move_in n (Moves chosen reply opened) = picked_in n chosen ∷ []
move_in n (Fails chosen) = list_of (option_map (picked_in n) chosen)
move_in n _ = []

-- the moves that acts take, in order, each picked from what is there behind the acts before it
abbrev pub moves_of : Network → List Act → List GivenMove
moves_of n [] = []
moves_of n (act ∷ before) = moves_of n before ++ move_in (all_acted n before) act

abbrev pub DidAll : List Act → Type 0
DidAll [] = Unit {0}
DidAll (Fails chosen ∷ before) = ⊥
DidAll (act ∷ before) = DidAll before

-- by these acts, which took the moves that were given meanwhile, one network became the other
pub record PlaysBy (acts : List Act) (given : List GivenMove) (n : Network) (given' : List GivenMove) (n' : Network) : Type 0 where
  pub moves : given' ≡ given ++ moves_of n acts
  pub may : AllMay n acts
  pub network : n' ≡ all_acted n acts

-- Each move that was given was picked from what was there, and made, once and in order. Where the calls weren't whole, some may have found no memory and done nothing.
abbrev pub Plays : List GivenMove → Network → List GivenMove → Network → (whole : Bool) → Type 0
Plays given n given' n' whole = (acts : List Act) × (whole ≡ true → DidAll acts) × PlaysBy acts given n given' n'

-- the order that an act carries out
abbrev pub order_in : Act → List OrderAnswer
order_in (Orders order answer) = record { order = order; answer = answer } ∷ []
order_in _ = []

-- the orders that acts carry out
abbrev pub orders_of : List Act → List OrderAnswer
orders_of [] = []
orders_of (act ∷ before) = order_in act ++ orders_of before

-- The calls told are those of one opening for the shape, of sends, of orders, of events that waited, and of just these moves, each picked from
-- what was there, in order and by the rule of moves. The orders are those that the calls tell, each once and in order.
pub record IsPlayed (shape : Shape) (moves : List GivenMove) (calls : List Called) : Type 0 where
  pub acts : List Act
  pub did : DidAll acts
  pub may : AllMay nothing acts
  pub took : moves ≡ moves_of nothing acts
  pub opened : (all_acted nothing acts).shape ≡ Some shape
  pub told : calls ≡ (all_acted nothing acts).calls
  pub ordered : orders_told calls ≡ orders_of acts
