-- What a router keeps, against the record of its session.
use Rattle.std.specs.Prelude.{◌≡◌, ℕ, ◌+◌, ◌^◌, ◌<◌, ◌≤◌, ◌⊎◌, Bool, true, false, List, [], ◌∷◌, length, map, Option, Some, None}
use Rattle.operation.specs.Calls.{Call}
use Rattle.operation.specs.declared.sending.Sending.{Sending}
use Rattle.operation.specs.Wants.{next_request}
use Rattle.op_table.specs.Tied.{OwnsCalls}
use Rattle.quorum_op.specs.declared.outcome.Outcome.{Outcome}
use Rattle.world_model.specs.declared.history.HistoryMark.{HistoryMark}
use Rattle.world_model.specs.declared.history.HistoryMark.TheVariants.{End}
use Rattle.world_model.specs.declared.shape.Shape.{Shape}
use Rattle.world_model.specs.Lists.{Has}
use Rattle.world_model.specs.Notes.{clock_of, events_in}
use Rattle.world_model.specs.Record.{Decided, Marked, Record, turns_in}
use Rattle.world_model.specs.Router.{begun_in}
use Rattle.router_core.specs.declared.ending.Ended.{Ended}
use Rattle.router_core.specs.declared.live.Live.{Live}
use Rattle.router_core.specs.declared.router.Stage.{Stage}
use Rattle.router_core.specs.Fits.{DoesJob, RouterView, number_of}
use Rattle.router_core.specs.Jobs.{Job, DrewOnly, EachIs, GaveUpNothing, GivesUp, GoOnFrom, GoesOn, HasDrawnId, IsForPiece, begun_as, piece_for, plan_for, target_for}
use Rattle.router_core.specs.Removals.{DeletesDrawn, DeletesSoon}
use Rattle.router_core.specs.Stages.{simple_rules, AimsBelow, AimsWithin, AsksBelow, IsDecidedIn, IsGoing, IsUnderWay, IsOver}

-- how many requests it wants at most of each replica, in the order of asking: every replica that there may be
abbrev pub order : List ℕ
order = 0 ∷ 1 ∷ 2 ∷ 3 ∷ 4 ∷ 5 ∷ 6 ∷ 7 ∷ 8 ∷ []

-- The operation that is under way in the record does its job by these calls, and they are what the record shows. `rest` are requests that
-- it added and that have not gone out yet.
pub record OwnsLive (shape : Shape) (record' : Record) (live : Live) (rest : List Sending) : Type 0 where
  pub job : Job
  pub then : Record
  pub calls : List Call
  pub next : ℕ
  pub from : ℕ
  pub under_way : IsUnderWay (simple_rules shape) record' live.operation (begun_as job) then next
  pub aims : AimsBelow record' live.operation next
  pub drawn : HasDrawnId record' live.operation (clock_of then) job
  pub does : DoesJob shape (clock_of then) job live.op calls
  pub goes_on : GoesOn calls
  pub owns : OwnsCalls shape (piece_for live.operation job) (target_for shape (clock_of then) job) record' live.requests calls rest
  pub some : 0 < next
  pub ahead : next ≤ from
  pub numbered : GoOnFrom from rest
  pub counted : from + length rest ≡ next_request calls
  pub for_piece : EachIs (IsForPiece shape (clock_of then) job) rest
  pub kept_all : GaveUpNothing calls

-- what it has come to by its calls, and what it wants then
abbrev pub outcome_now : {shape : Shape} {record' : Record} {live : Live} {rest : List Sending} → OwnsLive shape record' live rest → Option Outcome
outcome_now {shape} owns = (plan_for shape (clock_of owns.then) owns.job).outcome owns.calls

abbrev pub wants_now : {shape : Shape} {record' : Record} {live : Live} {rest : List Sending} → OwnsLive shape record' live rest → List Sending
wants_now {shape} owns = (plan_for shape (clock_of owns.then) owns.job).wants owns.calls order

-- the operation is pending
abbrev pub IsPending : Shape → Record → Live → Type 0
IsPending shape record' live = (owns : OwnsLive shape record' live []) × (outcome_now owns ≡ None)

-- it is pending, and each request that it wants was sent
abbrev pub Waits : Shape → Record → Live → Type 0
Waits shape record' live = (owns : OwnsLive shape record' live []) × (outcome_now owns ≡ None) × (wants_now owns ≡ [])

-- It is done so. `rest` are requests to delete what it has drawn which have not gone out yet.
pub record Leaves (shape : Shape) (record' : Record) (live : Live) (outcome : Outcome) (rest : List Sending) : Type 0 where
  pub job : Job
  pub moment : ℕ
  pub calls : List Call
  pub next : ℕ
  pub from : ℕ
  pub over : IsOver (simple_rules shape) record' live.operation outcome
  pub now : IsDecidedIn record' live.operation outcome (turns_in record')
  pub asks : AsksBelow record' live.operation next
  pub aims : AimsBelow record' live.operation next
  pub drawn : HasDrawnId record' live.operation moment job
  pub drew_only : DrewOnly record' live.operation job
  pub does : DoesJob shape moment job live.op calls
  pub how : Outcome
  pub came : (plan_for shape moment job).outcome calls ≡ Some how
  pub same : (id : List ℕ) → outcome ≡ Outcome.Put id → how ≡ Outcome.Put id
  pub stored : (id : List ℕ) → how ≡ Outcome.Put id → outcome ≡ Outcome.Put id
  pub some : 0 < next
  pub ahead : next ≤ from
  pub numbered : GoOnFrom from rest
  pub counted : from + length rest ≡ next_request calls
  pub giving : EachIs (GivesUp shape job how) rest

-- It is done so, and has asked for no delete yet.
abbrev pub IsSettled : Shape → Record → Live → Outcome → Type 0
IsSettled shape record' live outcome = (leaves : Leaves shape record' live outcome []) × GaveUpNothing leaves.calls

-- It is done so. Where that isn't the ok of a put, each replica was asked to delete what it drew, or is still to be asked by `rest`.
abbrev pub GivesAllUp : Shape → Record → Live → Outcome → List Sending → Type 0
GivesAllUp shape record' live outcome rest = Leaves shape record' live outcome rest × DeletesSoon shape record' live.operation outcome rest

-- the operation is over since this turn, and no replica is left to be asked to delete what it drew
pub record HasLeft (shape : Shape) (record' : Record) (operation : ℕ) (outcome : Outcome) (turn : ℕ) : Type 0 where
  pub over : IsOver (simple_rules shape) record' operation outcome
  pub since : IsDecidedIn record' operation outcome turn
  pub deletes : DeletesDrawn shape record' operation outcome

abbrev pub OwnsStage : Shape → Record → Stage → Type 0
OwnsStage shape record' (Stage.UnderWay live) = OwnsLive shape record' live []
OwnsStage shape record' (Stage.Over operation outcome turn) = HasLeft shape record' operation outcome turn

abbrev pub StageWaits : Shape → Record → Stage → Type 0
StageWaits shape record' (Stage.UnderWay live) = Waits shape record' live
StageWaits shape record' _ = Unit {0}

-- what the router keeps of an operation at rest
abbrev pub RestsStage : Shape → Record → Stage → Type 0
RestsStage shape record' stage = OwnsStage shape record' stage × StageWaits shape record' stage

-- P holds of each
abbrev pub EachStage : (Stage → Type 0) → List Stage → Type 0
EachStage P [] = Unit {0}
EachStage P (stage ∷ stages) = P stage × EachStage P stages

-- the operations that are live, by their numbers
abbrev pub live_in : List Stage → List ℕ
live_in stages = map number_of stages

-- one of them is over so
abbrev pub HasOver : List Stage → ℕ → Outcome → Type 0
HasOver [] operation outcome = ⊥
HasOver (stage ∷ stages) operation outcome = ((turn : ℕ) × (stage ≡ Stage.Over operation outcome turn)) ⊎ HasOver stages operation outcome

-- none is live
abbrev pub is_idle : List ℕ → Bool
is_idle [] = true
is_idle _ = false

-- What a router keeps beside the operation that it works at: how many began, how many events and script lines there were, which one it works
-- at, and the others, those at rest and those that may want more.
pub record Beside : Type 0 where
  pub begun : ℕ
  pub turns : ℕ
  pub at : Option ℕ
  pub rest : List Stage
  pub more : List Stage

-- the router works at none of them, or at this one
abbrev pub among : (begun turns : ℕ) → (rest more : List Stage) → Beside
among begun turns rest more = record { begun = begun; turns = turns; at = None; rest = rest; more = more }

abbrev pub around : (begun turns : ℕ) → ℕ → (rest more : List Stage) → Beside
around begun turns operation rest more = record { begun = begun; turns = turns; at = Some operation; rest = rest; more = more }

abbrev pub IsOther : ℕ → Stage → Type 0
IsOther operation stage = (number_of stage ≡ operation → ⊥) × (number_of stage < 2 ^ 31)

-- none of the others is this operation
pub record AreOthers (operation : ℕ) (beside : Beside) : Type 0 where
  pub at : beside.at ≡ Some operation
  pub rest : EachStage (IsOther operation) beside.rest
  pub more : EachStage (IsOther operation) beside.more

-- each operation that became done has its end, or is kept as over, or is the one that the router works at
abbrev pub EachEnds : Beside → Record → Type 0
EachEnds beside record' = (operation : ℕ) (outcome : Outcome) → Has record' (Decided operation outcome)
    → HasOver beside.rest operation outcome ⊎ HasOver beside.more operation outcome ⊎ Has record' (Marked (End operation outcome)) ⊎ (beside.at ≡ Some operation)

-- the clock, the number of events, how many operations began, and the other operations, as a router keeps them
pub record Counts (shape : Shape) (clock events : ℕ) (beside : Beside) (record' : Record) : Type 0 where
  pub clock_is : clock ≡ clock_of record'
  pub events_are : events ≡ events_in record'
  pub begun_are : beside.begun ≡ begun_in record'
  pub turns_are : beside.turns ≡ turns_in record'
  pub aims : AimsWithin record'
  pub going : IsGoing (simple_rules shape) record'
  pub rest : EachStage (RestsStage shape record') beside.rest
  pub more : EachStage (OwnsStage shape record') beside.more
  pub ended : EachEnds beside record'

-- what is so, where the router keeps this beside it
abbrev pub At : Shape → (Record → Type 0) → (clock events : ℕ) → Beside → Record → Type 0
At shape holds clock events beside record' = Counts shape clock events beside record' × holds record'

-- what the router keeps is what the record shows
abbrev pub Owns : RouterView → Record → Type 0
Owns router record' = Counts router.shape router.clock router.events (among router.begun router.turns [] router.stages) record'

-- A router at rest, between two calls: each operation under way is pending, with each wanted request sent.
abbrev pub Stands : RouterView → Record → Type 0
Stands router record' = Counts router.shape router.clock router.events (among router.begun router.turns router.stages []) record'

abbrev pub is_under_way : Stage → Bool
is_under_way (Stage.UnderWay live) = true
is_under_way _ = false

-- the mark of an end, where there is one
abbrev pub end_marks : Option Ended → List HistoryMark
end_marks None = []
end_marks (Some ended) = End ended.operation ended.outcome ∷ []

-- after requests were sent, or none was wanted
abbrev pub after_asking : Shape → Record → Live → (more : Bool) → Type 0
after_asking shape record' live true = OwnsLive shape record' live []
after_asking shape record' live false = Waits shape record' live

-- after what was wanted was sent: it waits, or it is done so
abbrev pub after_settling : Shape → Record → Live → Option Outcome → Type 0
after_settling shape record' live None = Waits shape record' live
after_settling shape record' live (Some outcome) = IsSettled shape record' live outcome

-- after that, where it is done, each replica was asked to delete what it gives up
abbrev pub after_leaving : Shape → Record → Live → Option Outcome → Type 0
after_leaving shape record' live None = Waits shape record' live
after_leaving shape record' live (Some outcome) = GivesAllUp shape record' live outcome []
