-- What a router keeps goes on by an event, and by what the network did before it.
use Rattle.std.proofs.Common.{◌≡◌, ℕ, ◌+◌, List, [], ◌∷◌, ◌++◌, map, Option, Some, None, refl, sym, ap, ◌∙◌, subst, inl, inr, arith}
use Rattle.req_frame.specs.declared.frame.Body.{Body}
use Rattle.req_frame.specs.declared.frame.Frame.{Frame}
use Rattle.req_frame.specs.Faults.{header_of}
use Rattle.req_frame.specs.Reading.{frame_of}
use Rattle.quorum_op.specs.declared.outcome.Outcome.{Outcome}
use Rattle.world_model.specs.declared.history.HistoryMark.{HistoryMark}
use Rattle.world_model.specs.declared.shape.Shape.{Shape}
use Rattle.world_model.specs.declared.step.Called.{Called}
use Rattle.world_model.specs.declared.step.Event.{Event}
use Rattle.world_model.specs.declared.step.Step.{Step}
use Rattle.world_model.specs.Fabric.{Gave, Tells}
use Rattle.world_model.specs.Lists.{Has}
use Rattle.world_model.specs.Notes.{clock_of, events_in}
use Rattle.world_model.specs.Record.{Item, Decided, Given, Took, Record}
use Rattle.world_model.specs.Told.{AllNetwork}
use Rattle.op_table.specs.declared.heard.Heard.{Heard}
use Rattle.op_table.specs.Addressed.{heard_by}
use Rattle.op_table.specs.Heard.{heard_bytes, heard_frame, heard_of}
use Rattle.router_core.specs.declared.live.Live.{Live}
use Rattle.router_core.specs.declared.router.Stage.{Stage}
use Rattle.router_core.specs.Fits.{RouterView}
use Rattle.router_core.specs.Stages.{simple_rules, IsDecidedIn}
use Rattle.router_core.specs.Removals.{DeletesDrawn}
use Rattle.router_core.specs.Stands.{Counts, EachStage, HasLeft, HasOver, Owns, OwnsLive, OwnsStage, RestsStage, Stands, among}
use Rattle.router_core.specs.Ties.{Ties}
use Rattle.router_core.specs.Turning.{AllTold, IsTold, IsToldStage, clock_after}
use Rattle.router_core.proofs.AimLaws.{within_stays, within_took}
use Rattle.router_core.proofs.LiveLaws.{live_given, live_took}
use Rattle.router_core.proofs.StageLaws.{decided_later, deletes_on, network_going, network_over, given_going, given_over, begun_given, clock_given, events_given, turns_took}
use Rattle.router_core.proofs.TieLaws.{items_gave, tie_call}

-- only a moment changes the clock
frame_clock : (node correlation : ℕ) (body : Body) (clock : ℕ) → clock ≡ clock_after (heard_frame node correlation body) clock
frame_clock node correlation (Body.Put id blob) clock = refl
frame_clock node correlation (Body.Get id) clock = refl
frame_clock node correlation (Body.Peek id) clock = refl
frame_clock node correlation (Body.Delete id at) clock = refl
frame_clock node correlation (Body.Find max token) clock = refl
frame_clock node correlation (Body.Fetch id) clock = refl
frame_clock node correlation (Body.Answer reply) clock = refl

bytes_clock : (node : ℕ) (frame : Option Frame) (header : Option (ℕ × ℕ × ℕ)) (clock : ℕ) → clock ≡ clock_after (heard_bytes node frame header) clock
bytes_clock node (Some f) header clock = frame_clock node f.correlation f.body clock
bytes_clock node None (Some header) clock = refl
bytes_clock node None None clock = refl

pub clock_heard : (event : Event) (r : Record) → clock_of (Given event ∷ r) ≡ clock_after (heard_of event) (clock_of r)
clock_heard (Event.Reply node frame) r = bytes_clock node (frame_of frame) (header_of frame) (clock_of r)
clock_heard (Event.Broken node) r = refl
clock_heard (Event.Now ms) r = refl
clock_heard Event.Quiet r = refl

events_same : (event : Event) (steps : List Step) (r : Record) → events_in (map Took steps ++ r) ≡ events_in r
events_same event steps r = let e : 1 + events_in (map Took steps ++ r) ≡ 1 + events_in r = events_given event steps r in omega arith

-- the operation that is under way goes on, where it is told what was heard
pub stage_given : (shape : Shape) (event : Event) (steps : List Step) (r : Record) (old new : Live) (heard : Heard) (events : ℕ) → IsTold (heard_by old.operation heard) events old new → heard ≡ heard_of event → AllNetwork steps → events_in r ≡ events → OwnsLive shape r old []
    → OwnsLive shape (Given event ∷ (map Took steps ++ r)) new []
stage_given shape event steps r old new heard events told e all n owns =
    live_given shape event (map Took steps ++ r) heard events old new (events_same event steps r ∙ n) e told (live_took shape steps r old all owns)

pub deletes_took : (shape : Shape) (steps : List Step) (r : Record) (operation : ℕ) (outcome : Outcome) → DeletesDrawn shape r operation outcome → DeletesDrawn shape (map Took steps ++ r) operation outcome
deletes_took shape [] r operation outcome d = d
deletes_took shape (step ∷ steps) r operation outcome d = deletes_on shape (Took step) (map Took steps ++ r) operation outcome (λ id blob e. cc e) (deletes_took shape steps r operation outcome d)

pub decided_took : (steps : List Step) (r : Record) (operation : ℕ) (outcome : Outcome) (turn : ℕ) → IsDecidedIn r operation outcome turn → IsDecidedIn (map Took steps ++ r) operation outcome turn
decided_took [] r operation outcome turn d = d
decided_took (step ∷ steps) r operation outcome turn d = decided_later (Took step) (map Took steps ++ r) operation outcome turn (decided_took steps r operation outcome turn d)

left_stays : (shape : Shape) (event : Event) (steps : List Step) (r : Record) (operation : ℕ) (outcome : Outcome) (turn : ℕ) → AllNetwork steps → HasLeft shape r operation outcome turn → HasLeft shape (Given event ∷ (map Took steps ++ r)) operation outcome turn
left_stays shape event steps r operation outcome turn all o = record {
  since = decided_later (Given event) (map Took steps ++ r) operation outcome turn (decided_took steps r operation outcome turn o.since);
  over = given_over (simple_rules shape) event (map Took steps ++ r) operation outcome (network_over (simple_rules shape) steps r operation outcome all o.over);
  deletes = deletes_on shape (Given event) (map Took steps ++ r) operation outcome (λ id blob e. cc e) (deletes_took shape steps r operation outcome o.deletes);
}

pub over_stays : (shape : Shape) (event : Event) (steps : List Step) (r : Record) (stage : Stage) (operation : ℕ) (outcome : Outcome) (turn : ℕ) → stage ≡ Stage.Over operation outcome turn → AllNetwork steps → OwnsStage shape r stage → OwnsStage shape (Given event ∷ (map Took steps ++ r)) stage
over_stays shape event steps r stage operation outcome turn is all owns =
    subst (λ (s : Stage). OwnsStage shape (Given event ∷ (map Took steps ++ r)) s) (sym is)
    (left_stays shape event steps r operation outcome turn all (subst (λ (s : Stage). OwnsStage shape r s) is owns))

pub stage_told : (shape : Shape) (event : Event) (steps : List Step) (r : Record) (heard : Heard) (events : ℕ) (old new : Stage) → heard ≡ heard_of event → AllNetwork steps → events_in r ≡ events → IsToldStage heard events old new → OwnsStage shape r old
    → OwnsStage shape (Given event ∷ (map Took steps ++ r)) new
stage_told shape event steps r heard events (Stage.UnderWay old) (Stage.UnderWay new) e all n told o = stage_given shape event steps r old new heard events told e all n o
stage_told shape event steps r heard events (Stage.UnderWay old) (Stage.Over operation outcome turn) e all n told o = absurd told
stage_told shape event steps r heard events (Stage.Over operation outcome turn) new e all n told o = over_stays shape event steps r new operation outcome turn told all (subst (λ (s : Stage). OwnsStage shape r s) (sym told) o)

-- each live operation goes on by an event, where each is told what it hears of it
pub stages_told : (shape : Shape) (event : Event) (steps : List Step) (r : Record) (heard : Heard) (events : ℕ) (olds news : List Stage) → heard ≡ heard_of event → AllNetwork steps → events_in r ≡ events → AllTold heard events olds news → EachStage (OwnsStage shape r) olds
    → EachStage (OwnsStage shape (Given event ∷ (map Took steps ++ r))) news
stages_told shape event steps r heard events [] [] e all n told o = tt
stages_told shape event steps r heard events [] (new ∷ news) e all n told o = absurd told
stages_told shape event steps r heard events (old ∷ olds) [] e all n told o = absurd told
stages_told shape event steps r heard events (old ∷ olds) (new ∷ news) e all n told o =
    (stage_told shape event steps r heard events old new e all n told.0 o.0, stages_told shape event steps r heard events olds news e all n told.1 o.1)

-- the same numbers and the same ends
told_over : (heard : Heard) (events : ℕ) (olds news : List Stage) (operation : ℕ) (outcome : Outcome) → AllTold heard events olds news → HasOver olds operation outcome → HasOver news operation outcome
told_over heard events [] [] operation outcome told h = absurd h
told_over heard events [] (new ∷ news) operation outcome told h = absurd told
told_over heard events (old ∷ olds) [] operation outcome told h = absurd told
told_over heard events (old ∷ olds) (new ∷ news) operation outcome told h = elim h [
  | inl e ↦ inl (e.0, subst (λ (s : Stage). IsToldStage heard events s new) e.1 told.0)
  | inr m ↦ inr (told_over heard events olds news operation outcome told.1 m)
]

pub took_decided : (steps : List Step) (r : Record) (operation : ℕ) (outcome : Outcome) → Has (map Took steps ++ r) (Decided operation outcome) → Has r (Decided operation outcome)
took_decided [] r operation outcome h = h
took_decided (step ∷ steps) r operation outcome h = elim h [ inl e ↦ absurd (cc e) | inr m ↦ took_decided steps r operation outcome m ]

pub has_took : (steps : List Step) (r : Record) (item : Item) → Has r item → Has (map Took steps ++ r) item
has_took [] r item h = h
has_took (step ∷ steps) r item h = inr (has_took steps r item h)

-- so what a router keeps goes on where it takes what was heard
pub owns_given : (old new : RouterView) (heard : Heard) (event : Event) (steps : List Step) (r : Record) → heard ≡ heard_of event → new.shape ≡ old.shape → new.clock ≡ clock_after heard old.clock → new.events ≡ old.events + 1 → new.begun ≡ old.begun → new.turns ≡ old.turns + 1
    → AllNetwork steps → AllTold heard old.events old.stages new.stages → Stands old r → Owns new (Given event ∷ (map Took steps ++ r))
owns_given old new heard event steps r e shape clock events begun turns all told stands =
    let c = stands in
    let rules = simple_rules old.shape in
    let now : Record = Given event ∷ (map Took steps ++ r) in
    let there : Counts old.shape new.clock new.events (among new.begun new.turns [] new.stages) now = record {
      clock_is = clock ∙ (ap (λ (h : Heard). clock_after h old.clock) e ∙ (ap (λ (n : ℕ). clock_after (heard_of event) n) c.clock_is ∙ (sym (clock_heard event r) ∙ sym (clock_given event steps r))));
      events_are = let was = c.events_are in let now : events_in (Given event ∷ (map Took steps ++ r)) ≡ 1 + events_in r = events_given event steps r in omega (arith, was, now, events);
      begun_are = begun ∙ (c.begun_are ∙ sym (begun_given event steps r));
      turns_are = let was = c.turns_are in let same = turns_took steps r in omega (arith, was, same, turns);
      aims = within_stays (Given event) (map Took steps ++ r) (λ x p a z. absurd cc) (omega arith) (within_took steps r c.aims);
      going = given_going rules event (map Took steps ++ r) (network_going rules steps r all c.going);
      rest = tt;
      more = stages_told old.shape event steps r heard old.events old.stages new.stages e all (sym c.events_are) told (owned old.stages c.rest);
      ended = λ operation outcome h. elim h [
        | inl x ↦ absurd (cc x)
        | inr m ↦ elim (c.ended operation outcome (took_decided steps r operation outcome m)) [
          | inl over ↦ inr (inl (told_over heard old.events old.stages new.stages operation outcome told over))
          | inr rest ↦ elim rest [
            | inl none ↦ absurd none
            | inr last ↦ elim last [
              | inl end ↦ inr (inr (inl (inr (has_took steps r _ end))))
              | inr at ↦ inr (inr (inr at))
            ]
          ]
        ]
      ];
    } in
    subst (λ (s : Shape). Counts s new.clock new.events (among new.begun new.turns [] new.stages) now) (sym shape) there
  where
    owned : (stages : List Stage) → EachStage (RestsStage old.shape r) stages → EachStage (OwnsStage old.shape r) stages
    owned [] each = tt
    owned (stage ∷ stages) each = (each.0.0, owned stages each.1)

-- and what ties it to the calls goes on by a call that gives the event
pub turned : (old new : RouterView) (heard : Heard) (event : Event) (told told' : Option (List Called)) (marks : List HistoryMark) → Tells told told' (Gave event)
    → ((event : Event) (steps : List Step) (r : Record) → heard ≡ heard_of event → AllNetwork steps → Stands old r → Owns new (Given event ∷ (map Took steps ++ r)))
    → heard ≡ heard_of event → Ties (Stands old) told marks → Ties (Owns new) told' marks
turned old new heard event told told' marks tells takes e ties =
    tie_call (Stands old) (Owns new) (Gave event) told told' marks tells
    (λ call gave r stands. subst (λ (l : Record). Owns new (l ++ r)) (sym (items_gave event call gave)) (takes event call.steps r e gave.1 stands)) ties
