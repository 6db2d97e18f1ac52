-- Where the operations of a router stand, each by itself. All lists have the newest item first.
use Rattle.std.specs.Prelude.{◌≡◌, ℕ, ◌+◌, ◌*◌, ◌^◌, ◌<◌, ◌≤◌, false, ◌∷◌}
use Rattle.quorum_op.specs.declared.outcome.Outcome.{Outcome}
use Rattle.world_model.specs.declared.history.Begun.{Begun}
use Rattle.world_model.specs.declared.shape.Shape.{Shape}
use Rattle.world_model.specs.Lists.{Earlier, Has}
use Rattle.world_model.specs.Notes.{Asked, asked, is_drained, operation_of}
use Rattle.world_model.specs.Outcomes.{BeganAt}
use Rattle.world_model.specs.Record.{Part, Aimed, Decided, Record, turns_in}
use Rattle.world_model.specs.Router.{IsKept, IsDone, HasEnded, begun_in}
use Rattle.world_model.specs.Rules.{Rules, in_turn}
use Rattle.router_core.specs.Removals.{DeletesWhatFailed}

-- sixteen operations at a time, each of a blob that is one piece, tried once, with the partitions in turn
abbrev pub simple_rules : Shape → Rules
simple_rules shape = record { shape = shape; window = 16; limit = shape.chunk; attempts = 1; choose = in_turn shape }

-- what holds of the record at any time
pub record IsGoing (rules : Rules) (record' : Record) : Type 0 where
  pub kept : IsKept rules record'
  pub undrained : (node : ℕ) → is_drained node record' ≡ false
  pub within : (a : Asked) → Has (asked record') a → operation_of a.correlation ≤ begun_in record'
  pub deletes : DeletesWhatFailed rules.shape record'

-- An operation, begun so when the record was `then`, isn't done. Its requests so far have numbers below `next`.
pub record IsUnderWay (rules : Rules) (record' : Record) (operation : ℕ) (begun : Begun) (then : Record) (next : ℕ) : Type 0 where
  pub going : IsGoing rules record'
  pub known : operation ≤ begun_in record'
  pub began : BeganAt record' operation begun then
  pub undone : IsDone record' operation → ⊥
  pub below : (a : Asked) → Has (asked record') a → operation_of a.correlation ≡ operation → a.correlation < operation * 2 ^ 32 + next

-- an operation is done so, and its end doesn't stand yet
pub record IsOver (rules : Rules) (record' : Record) (operation : ℕ) (outcome : Outcome) : Type 0 where
  pub going : IsGoing rules record'
  pub known : operation ≤ begun_in record'
  pub decided : Has record' (Decided operation outcome)
  pub unended : HasEnded record' operation → ⊥

-- the operation became done so, in this turn: behind so many events and script lines
pub record IsDecidedIn (record' : Record) (operation : ℕ) (outcome : Outcome) (turn : ℕ) : Type 0 where
  pub at : Record
  pub decided : Earlier (Decided operation outcome ∷ at) record'
  pub turn_is : turns_in at ≡ turn

-- It was said what requests are for, of operations that began.
abbrev pub AimsWithin : Record → Type 0
AimsWithin record' = (correlation : ℕ) (part : Part) (attempt : ℕ) → Has record' (Aimed correlation part attempt) → operation_of correlation ≤ begun_in record'

-- and of an operation for requests with numbers below next
abbrev pub AimsBelow : Record → ℕ → ℕ → Type 0
AimsBelow record' operation next =
    (correlation : ℕ) (part : Part) (attempt : ℕ) → Has record' (Aimed correlation part attempt) → operation_of correlation ≡ operation → correlation < operation * 2 ^ 32 + next

-- its requests so far have numbers below next
abbrev pub AsksBelow : Record → ℕ → ℕ → Type 0
AsksBelow record' operation next = (a : Asked) → Has (asked record') a → operation_of a.correlation ≡ operation → a.correlation < operation * 2 ^ 32 + next
