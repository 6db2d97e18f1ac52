-- What a router keeps goes on by an order that came to what was told.
use Rattle.std.proofs.Common.{ℕ, List, [], ◌∷◌, ◌++◌, map, Option, Ok, refl, sym, ◌∙◌, inl, inr, arith}
use Rattle.quorum_op.specs.declared.outcome.Outcome.{Outcome}
use Rattle.world_model.specs.declared.history.HistoryMark.{HistoryMark}
use Rattle.world_model.specs.declared.history.HistoryMark.TheVariants.{Ordered}
use Rattle.world_model.specs.declared.order.Order.{Order}
use Rattle.world_model.specs.declared.order.Told.{Told}
use Rattle.world_model.specs.declared.shape.Shape.{Shape}
use Rattle.world_model.specs.declared.step.Called.{Called}
use Rattle.world_model.specs.declared.step.Step.{Step}
use Rattle.world_model.specs.Fabric.{TellsOrder}
use Rattle.world_model.specs.Orders.{CameTo}
use Rattle.world_model.specs.Record.{Marked, Took, Record}
use Rattle.world_model.specs.Told.{AllNetwork}
use Rattle.router_core.specs.declared.live.Live.{Live}
use Rattle.router_core.specs.declared.router.Stage.{Stage}
use Rattle.router_core.specs.Fits.{RouterView}
use Rattle.router_core.specs.Stages.{simple_rules}
use Rattle.router_core.specs.Stands.{EachStage, HasLeft, RestsStage, Stands, Waits}
use Rattle.router_core.specs.Ties.{Ties}
use Rattle.router_core.specs.Turning.{one_turn_on}
use Rattle.router_core.proofs.AimLaws.{within_stays, within_took}
use Rattle.router_core.proofs.LiveLaws.{waits_still, waits_took}
use Rattle.router_core.proofs.StageLaws.{begun_took, clock_took, decided_later, deletes_on, events_took, network_going, network_over, ordered, ordered_going, ordered_over, turns_took}
use Rattle.router_core.proofs.TieLaws.{tie_order}
use Rattle.router_core.proofs.TurnLaws.{decided_took, deletes_took, has_took, took_decided}

-- an operation under way still waits
waits_ordered : (shape : Shape) (order : Order) (answer : Told) (steps : List Step) (r : Record) (live : Live) → AllNetwork steps → CameTo order answer (map Took steps ++ r) → Waits shape r live → Waits shape (Marked (Ordered order answer) ∷ (map Took steps ++ r)) live
waits_ordered shape order answer steps r live all came w =
    waits_still shape (Marked (Ordered order answer)) (map Took steps ++ r) live (λ c p a e. absurd cc) refl refl
    (λ begun then next u. ordered (simple_rules shape) order answer (map Took steps ++ r) live.operation begun then next came u) (waits_took shape steps r live all w)

-- one that is over stays over
left_ordered : (shape : Shape) (order : Order) (answer : Told) (steps : List Step) (r : Record) (operation : ℕ) (outcome : Outcome) (turn : ℕ) → AllNetwork steps → CameTo order answer (map Took steps ++ r) → HasLeft shape r operation outcome turn
    → HasLeft shape (Marked (Ordered order answer) ∷ (map Took steps ++ r)) operation outcome turn
left_ordered shape order answer steps r operation outcome turn all came h = record {
  since = decided_later (Marked (Ordered order answer)) (map Took steps ++ r) operation outcome turn (decided_took steps r operation outcome turn h.since);
  over = ordered_over (simple_rules shape) order answer (map Took steps ++ r) operation outcome came (network_over (simple_rules shape) steps r operation outcome all h.over);
  deletes = deletes_on shape (Marked (Ordered order answer)) (map Took steps ++ r) operation outcome (λ id blob e. cc e) (deletes_took shape steps r operation outcome h.deletes);
}

rests_ordered : (shape : Shape) (order : Order) (answer : Told) (steps : List Step) (r : Record) (stage : Stage) → AllNetwork steps → CameTo order answer (map Took steps ++ r) → RestsStage shape r stage → RestsStage shape (Marked (Ordered order answer) ∷ (map Took steps ++ r)) stage
rests_ordered shape order answer steps r (Stage.UnderWay live) all came s = let w = waits_ordered shape order answer steps r live all came s.1 in (w.0, w)
rests_ordered shape order answer steps r (Stage.Over operation outcome turn) all came s = (left_ordered shape order answer steps r operation outcome turn all came s.0, tt)

all_ordered : (shape : Shape) (order : Order) (answer : Told) (steps : List Step) (r : Record) (stages : List Stage) → AllNetwork steps → CameTo order answer (map Took steps ++ r) → EachStage (RestsStage shape r) stages
    → EachStage (RestsStage shape (Marked (Ordered order answer) ∷ (map Took steps ++ r))) stages
all_ordered shape order answer steps r [] all came s = tt
all_ordered shape order answer steps r (stage ∷ stages) all came s = (rests_ordered shape order answer steps r stage all came s.0, all_ordered shape order answer steps r stages all came s.1)

-- so the router stands as it stood
stands_ordered : (router : RouterView) (order : Order) (answer : Told) (steps : List Step) (r : Record) → AllNetwork steps → CameTo order answer (map Took steps ++ r) → Stands router r
    → Stands (one_turn_on router) (Marked (Ordered order answer) ∷ (map Took steps ++ r))
stands_ordered router order answer steps r all came s = record {
  clock_is = s.clock_is ∙ sym (clock_took steps r);
  events_are = s.events_are ∙ sym (events_took steps r);
  begun_are = s.begun_are ∙ sym (begun_took steps r);
  turns_are = let was = s.turns_are in let same = turns_took steps r in omega (arith, was, same);
  aims = within_stays (Marked (Ordered order answer)) (map Took steps ++ r) (λ c p a e. absurd cc) (omega arith) (within_took steps r s.aims);
  going = ordered_going (simple_rules router.shape) order answer (map Took steps ++ r) came (network_going (simple_rules router.shape) steps r all s.going);
  rest = all_ordered router.shape order answer steps r router.stages all came s.rest;
  more = tt;
  ended = λ operation outcome h. elim h [
    | inl e ↦ absurd (cc e)
    | inr m ↦ elim (s.ended operation outcome (took_decided steps r operation outcome m)) [
      | inl over ↦ inl over
      | inr rest ↦ elim rest [
        | inl none ↦ absurd none
        | inr last ↦ elim last [ inl end ↦ inr (inr (inl (inr (has_took steps r _ end)))) | inr at ↦ inr (inr (inr at)) ]
      ]
    ]
  ];
}

-- and what ties it to the calls goes on by the call that carries the order out
pub ties_ordered : (router : RouterView) (order : Order) (answer : Told) (told told' : Option (List Called)) (marks : List HistoryMark) → TellsOrder (Ok answer) told told' order → Ties (Stands router) told marks
    → Ties (Stands (one_turn_on router)) told' (Ordered order answer ∷ marks)
ties_ordered router order answer told told' marks tells ties =
    tie_order (Stands router) (Stands (one_turn_on router)) order answer told told' marks tells (λ steps r all came s. stands_ordered router order answer steps r all came s) ties
