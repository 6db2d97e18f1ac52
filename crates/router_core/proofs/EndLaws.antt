-- How operations end.
use Rattle.std.proofs.Common.{◌≡◌, ℕ, false, List, [], ◌∷◌, Option, refl, sym, ap, ◌∙◌, subst, inl, inr, arith}
use Rattle.quorum_op.specs.declared.outcome.Outcome.{Outcome}
use Rattle.world_model.specs.declared.history.HistoryMark.{HistoryMark}
use Rattle.world_model.specs.declared.shape.Shape.{Shape}
use Rattle.world_model.specs.declared.step.Called.{Called}
use Rattle.world_model.specs.Record.{Decided, Record, turns_in}
use Rattle.router_core.specs.declared.live.Live.{Live}
use Rattle.router_core.specs.declared.router.Stage.{Stage}
use Rattle.router_core.specs.Stages.{simple_rules, IsDecidedIn, IsGoing}
use Rattle.router_core.specs.Stands.{AreOthers, At, Beside, Counts, GivesAllUp, HasLeft, IsSettled, OwnsLive, OwnsStage, RestsStage, Waits, is_under_way}
use Rattle.router_core.specs.Ties.{Ties}
use Rattle.router_core.proofs.AimLaws.{within_stays}
use Rattle.router_core.proofs.OthersLaws.{beside_stays, own_decided}
use Rattle.router_core.proofs.TieLaws.{tie_items, tie_same}

pub counts_decided : (shape : Shape) (clock events : ℕ) (beside : Beside) (operation : ℕ) (outcome : Outcome) (r : Record) → AreOthers operation beside → IsGoing (simple_rules shape) (Decided operation outcome ∷ r) → Counts shape clock events beside r
    → Counts shape clock events beside (Decided operation outcome ∷ r)
counts_decided shape clock events beside operation outcome r others going c =
    beside_stays shape clock events operation beside (Decided operation outcome) r others (own_decided operation outcome r) (record { clock = refl; events = refl; begun = refl; turns = refl; decides = λ other how e. same other how e })
    (within_stays (Decided operation outcome) r (λ x p a e. absurd cc) (omega arith) c.aims) going c
  where
    same : (other : ℕ) (how : Outcome) → Decided other how ≡ Decided operation outcome → other ≡ operation
    same other how e = cc

-- an operation is over
pub ties_over : (shape : Shape) (clock events : ℕ) (beside : Beside) (old new : Live) (outcome : Outcome) (told : Option (List Called)) (marks : List HistoryMark) → AreOthers old.operation beside
    → ((r : Record) → OwnsLive shape r old [] → IsSettled shape (Decided old.operation outcome ∷ r) new outcome) → Ties (At shape (λ r. OwnsLive shape r old []) clock events beside) told marks → Ties (At shape (λ r. IsSettled shape r new outcome) clock events beside) told marks
ties_over shape clock events beside old new outcome told marks others over t =
    tie_items (At shape (λ r. OwnsLive shape r old []) clock events beside) (At shape (λ r. IsSettled shape r new outcome) clock events beside) (Decided old.operation outcome ∷ []) told marks (refl, tt)
    (λ r h. let settled = over r h.1 in (counts_decided shape clock events beside old.operation outcome r others settled.0.over.going h.0, settled)) t

-- a stage with an operation under way, as it was and as it rests
pub ties_staged : (shape : Shape) (clock events : ℕ) (beside : Beside) (stage : Stage) (live : Live) (told : Option (List Called)) (marks : List HistoryMark) → stage ≡ Stage.UnderWay live → Ties (At shape (λ r. OwnsStage shape r stage) clock events beside) told marks
    → Ties (At shape (λ r. OwnsLive shape r live []) clock events beside) told marks
ties_staged shape clock events beside stage live told marks is t = subst (λ (s : Stage). Ties (At shape (λ r. OwnsStage shape r s) clock events beside) told marks) is t

pub ties_waits : (shape : Shape) (clock events : ℕ) (beside : Beside) (live : Live) (stage : Stage) (told : Option (List Called)) (marks : List HistoryMark) → stage ≡ Stage.UnderWay live → Ties (At shape (λ r. Waits shape r live) clock events beside) told marks
    → Ties (At shape (λ r. RestsStage shape r stage) clock events beside) told marks
ties_waits shape clock events beside live stage told marks is t =
    subst (λ (s : Stage). Ties (At shape (λ r. RestsStage shape r s) clock events beside) told marks) (sym is)
    (tie_same (At shape (λ r. Waits shape r live) clock events beside) (At shape (λ r. RestsStage shape r (Stage.UnderWay live)) clock events beside) told marks t (λ r h. (h.0, (h.1.0, h.1))))

-- none is left to be asked
has_left : (shape : Shape) (r : Record) (live : Live) (outcome : Outcome) (turn : ℕ) → turns_in r ≡ turn → GivesAllUp shape r live outcome [] → HasLeft shape r live.operation outcome turn
has_left shape r live outcome turn now g = record { over = g.0.over; since = subst (λ (n : ℕ). IsDecidedIn r live.operation outcome n) now g.0.now; deletes = λ none id blob h replica l. elim (g.1 none id blob h replica l) [ inl a ↦ a | inr w ↦ absurd w.there ] }

pub ties_left : (shape : Shape) (clock events turn : ℕ) (beside : Beside) (live : Live) (outcome : Outcome) (told : Option (List Called)) (marks : List HistoryMark) → beside.turns ≡ turn → Ties (At shape (λ r. GivesAllUp shape r live outcome []) clock events beside) told marks
    → Ties (At shape (λ r. RestsStage shape r (Stage.Over live.operation outcome turn)) clock events beside) told marks
ties_left shape clock events turn beside live outcome told marks now t =
    tie_same (At shape (λ r. GivesAllUp shape r live outcome []) clock events beside) (At shape (λ r. RestsStage shape r (Stage.Over live.operation outcome turn)) clock events beside) told marks t (λ r h. (h.0, (has_left shape r live outcome turn (sym h.0.turns_are ∙ now) h.1, tt)))

rests_over : (shape : Shape) (r : Record) (stage : Stage) → is_under_way stage ≡ false → OwnsStage shape r stage → RestsStage shape r stage
rests_over shape r (Stage.UnderWay live) h o = absurd cc
rests_over shape r (Stage.Over operation outcome turn) h o = (o, tt)

pub ties_rest : (shape : Shape) (clock events : ℕ) (beside : Beside) (stage : Stage) (told : Option (List Called)) (marks : List HistoryMark) → is_under_way stage ≡ false → Ties (At shape (λ r. OwnsStage shape r stage) clock events beside) told marks
    → Ties (At shape (λ r. RestsStage shape r stage) clock events beside) told marks
ties_rest shape clock events beside stage told marks h t = tie_same (At shape (λ r. OwnsStage shape r stage) clock events beside) (At shape (λ r. RestsStage shape r stage) clock events beside) told marks t (λ r o. (o.0, rests_over shape r stage h o.1))

pub not_under_way : (stage : Stage) → ((operation : ℕ) × (outcome : Outcome) × (turn : ℕ) × (stage ≡ Stage.Over operation outcome turn)) → is_under_way stage ≡ false
not_under_way stage h = ap (λ (s : Stage). is_under_way s) h.3
