-- What a network tells, and the record that is woven of it and of what a session keeps. All lists have the newest first.
use Rattle.std.specs.Prelude.{◌≡◌, ℕ, ◌≤◌, ◌==◌, Bool, true, false, ◌&&◌, not, cond, List, [], ◌∷◌, ◌++◌, length, map, Option, Some, None}
use Rattle.world_model.specs.declared.order.Order.{Order}
use Rattle.world_model.specs.declared.order.Told.{Told}
use Rattle.world_model.specs.declared.step.Called.{Called}
use Rattle.world_model.specs.declared.step.Did.{Did}
use Rattle.world_model.specs.declared.step.Step.{Step}
use Rattle.req_frame.specs.declared.frame.Frame.{Frame}
use Rattle.world_model.specs.Frames.{frame_in}
use Rattle.world_model.specs.Notes.{router_frame}
use Rattle.world_model.specs.Record.{Item, Took, Given, Record}

-- an item of the session's, with the number of calls that were made on the network before it
pub record Placed : Type 0 where
  pub item : Item
  pub calls : ℕ

-- the event that a call gave
abbrev pub given_by : Did → Record
given_by (Did.Delivered event) = Given event ∷ []
given_by _ = []

-- what one call on the network told: its steps, and behind them the event that it gave
abbrev pub items_of : Called → Record
items_of call = given_by call.did ++ map Took call.steps

-- an order, and how it was answered
pub record OrderAnswer : Type 0 where
  pub order : Order
  pub answer : Told

-- the order that a call carried out
abbrev pub order_by : Did → List OrderAnswer
order_by (Did.Administered order answer) = record { order = order; answer = answer } ∷ []
order_by _ = []

-- the orders that calls carried out
abbrev pub orders_told : List Called → List OrderAnswer
orders_told [] = []
orders_told (call ∷ before) = order_by call.did ++ orders_told before

-- the items that stand behind so many calls
abbrev pub placed_at : ℕ → List Placed → Record
placed_at n [] = []
placed_at n (p ∷ placed) = cond (p.calls == n) (p.item ∷ placed_at n placed) (placed_at n placed)

abbrev pub weave : List Placed → List Called → Record
weave placed [] = placed_at 0 placed
weave placed (call ∷ before) = placed_at (length (call ∷ before)) placed ++ (items_of call ++ weave placed before)

-- none stands behind more calls than were made
abbrev pub AllWithin : List Placed → ℕ → Type 0
AllWithin [] n = Unit {0}
AllWithin (p ∷ placed) n = (p.calls ≤ n) × AllWithin placed n

-- what the calls told, without the session's items
abbrev pub told : List Called → Record
told [] = []
told (call ∷ before) = items_of call ++ told before

-- the session's items: what the network neither did nor gave
abbrev pub is_session : Item → Bool
is_session (Took step) = false
is_session (Given event) = false
is_session _ = true

abbrev pub AllSession : Record → Type 0
AllSession [] = Unit {0}
AllSession (item ∷ items) = (is_session item ≡ true) × AllSession items

abbrev pub OnlySession : List Placed → Type 0
OnlySession [] = Unit {0}
OnlySession (p ∷ placed) = (is_session p.item ≡ true) × OnlySession placed

-- the counts never fall
abbrev pub IsRising : List Placed → Type 0
IsRising [] = Unit {0}
IsRising (p ∷ placed) = AllWithin placed p.calls × IsRising placed

abbrev pub is_frame : Option Frame → Bool
is_frame None = false
is_frame (Some f) = true

-- Steps that are no doing of the router's. What couldn't be sent has to be a frame: bytes that are none may be the router's fault.
abbrev pub is_network : Step → Bool
is_network (Step.Send from node frame) = not (from == 0)
is_network (Step.Refused node frame) = is_frame (frame_in frame) && not (is_frame (router_frame (frame_in frame)))
is_network _ = true

abbrev pub AllNetwork : List Step → Type 0
AllNetwork [] = Unit {0}
AllNetwork (step ∷ steps) = (is_network step ≡ true) × AllNetwork steps

-- items that the session places now
abbrev pub place : ℕ → Record → List Placed
place calls [] = []
place calls (item ∷ items) = record { item = item; calls = calls } ∷ place calls items

-- the items that were placed, without their counts
abbrev pub unplaced : List Placed → Record
unplaced [] = []
unplaced (p ∷ placed) = p.item ∷ unplaced placed
