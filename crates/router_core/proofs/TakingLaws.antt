-- Which operation ends first, and that the record goes on by its end.
use Rattle.std.proofs.Common.{◌≡◌, ◌≢◌, ◌⊎◌, ℕ, ◌+◌, ◌<◌, ◌^◌, ◌≤◌, ◌==◌, nat_lt, Bool, true, false, ◌&&◌, ◌||◌, List, [], ◌∷◌, ◌++◌, length, Option, Some, None, IfSome, IsNone, refl, sym, ap, ◌∙◌, subst, inl, inr, arith}
use Rattle.std.specs.List.{list_all}
use Rattle.std.proofs.lemmas.Bool.Decides.{nat_tests}
use Rattle.std.proofs.lemmas.Grind.{common_steps}
use Rattle.quorum_op.specs.declared.outcome.Outcome.{Outcome}
use Rattle.quorum_op.proofs.CountLaws.{and_left, and_right}
use Rattle.world_model.specs.declared.history.HistoryMark.{HistoryMark}
use Rattle.world_model.specs.declared.history.HistoryMark.TheVariants.{End}
use Rattle.world_model.specs.declared.shape.Shape.{Shape}
use Rattle.world_model.specs.declared.step.Called.{Called}
use Rattle.world_model.specs.Lists.{Earlier, Has}
use Rattle.world_model.specs.Record.{Decided, Marked, Record, turns_in}
use Rattle.world_model.specs.Router.{GoesFirst, IsKept}
use Rattle.world_model.proofs.CellLaws.{number_true}
use Rattle.world_model.proofs.ListLaws.{head_has}
use Rattle.router_core.specs.declared.ending.Ended.{Ended}
use Rattle.router_core.specs.declared.live.Live.{Live}
use Rattle.router_core.specs.declared.router.Stage.{Stage}
use Rattle.router_core.specs.declared.taking.Done.{Done}
use Rattle.router_core.specs.Ending.{IsFirst, IsNotBefore, IsTakenFirst, IsTakenOut, StandsIn, goes_first}
use Rattle.router_core.specs.Fits.{FitStages, Fits, IsAnswer, RouterView, number_of}
use Rattle.router_core.specs.Stages.{simple_rules, IsDecidedIn, IsGoing}
use Rattle.router_core.specs.Stands.{Counts, EachStage, HasLeft, HasOver, IsOther, RestsStage, Stands, among, end_marks, is_under_way, live_in}
use Rattle.router_core.specs.Ties.{Ties}
use Rattle.router_core.proofs.AimLaws.{within_stays}
use Rattle.router_core.proofs.OthersLaws.{own_ended, rest_apart}
use Rattle.router_core.proofs.StageLaws.{decided_once, ends}
use Rattle.router_core.proofs.TableLaws.{each_more, fits_after, fits_before, fits_one}
use Rattle.router_core.proofs.TieLaws.{tie_items}

-- ---- which one goes first

all_more : (stages : List Stage) (stage : Stage) → list_all is_under_way stages ≡ true → is_under_way stage ≡ true → list_all is_under_way (stages ++ stage ∷ []) ≡ true
all_more [] stage all one = ap (λ (b : Bool). b && true) one
all_more (Stage.UnderWay live ∷ stages) stage all one = all_more stages stage all one
all_more (Stage.Over operation outcome turn ∷ stages) stage all one = absurd (cc all)

none_before : (turn operation : ℕ) (stages : List Stage) → list_all is_under_way stages ≡ true → EachStage (IsNotBefore turn operation) stages
none_before turn operation [] all = tt
none_before turn operation (Stage.UnderWay live ∷ stages) all = (tt, none_before turn operation stages all)
none_before turn operation (Stage.Over other outcome then ∷ stages) all = absurd (cc all)

one_itself : (operation turn : ℕ) (outcome : Outcome) → IsNotBefore turn operation (Stage.Over operation outcome turn)
one_itself operation turn outcome = (λ l. omega (arith, l), λ e l. omega (arith, l))

-- the first one that is over
pub first_found : (stages : List Stage) (done : Done) (outcome : Outcome) → length stages ≡ done.place → list_all is_under_way stages ≡ true → IsFirst (Some done) (stages ++ Stage.Over done.operation outcome done.turn ∷ [])
first_found stages done outcome place all = (
  record { before = stages; behind = []; outcome = outcome; whole = refl; place_is = place },
  each_more (IsNotBefore done.turn done.operation) stages (Stage.Over done.operation outcome done.turn ∷ []) (none_before done.turn done.operation stages all) (one_itself done.operation done.turn outcome, tt),
)

-- one that doesn't wait for it to be over stays the first
stays_in : (stages : List Stage) (done : Done) (stage : Stage) → StandsIn stages done → StandsIn (stages ++ stage ∷ []) done
stays_in stages done stage s = record {
  before = s.before;
  behind = s.behind ++ stage ∷ [];
  outcome = s.outcome;
  whole = ap (λ (l : List Stage). l ++ stage ∷ []) s.whole ∙ grind (arith, common_steps);
  place_is = s.place_is;
}

pub first_stays : (stages : List Stage) (done : Done) (stage : Stage) → IsNotBefore done.turn done.operation stage → IsFirst (Some done) stages → IsFirst (Some done) (stages ++ stage ∷ [])
first_stays stages done stage not f = (stays_in stages done stage f.0, each_more (IsNotBefore done.turn done.operation) stages (stage ∷ []) f.1 (not, tt))

-- one that is under way changes nothing
pub under_way_sooner : (first : Option Done) (stages : List Stage) (stage : Stage) (live : Live) → stage ≡ Stage.UnderWay live → IsFirst first stages → IsFirst first (stages ++ stage ∷ [])
under_way_sooner None stages stage live is f = all_more stages stage f (ap (λ (s : Stage). is_under_way s) is)
under_way_sooner (Some done) stages stage live is f = first_stays stages done stage (subst (λ (s : Stage). IsNotBefore done.turn done.operation s) (sym is) tt) f

-- of two that don't stand in this order the other one goes first, or they are one
not_first : (old new : Done) → goes_first old new ≡ false → (new.turn < old.turn) ⊎ (new.turn ≡ old.turn) × (new.operation ≤ old.operation)
not_first old new h = by_turn (nat_lt old.turn new.turn) refl
  where
    less_not : (a b : ℕ) → nat_lt a b ≡ false → b ≤ a
    less_not a b e = grind (arith, nat_tests)

    other_less : (a b : ℕ) → b ≤ a → (a == b) ≡ false → b < a
    other_less a b l e = grind (arith, nat_tests)

    by_number : (b : Bool) → (old.turn == new.turn) ≡ b → nat_lt old.turn new.turn ≡ false → new.turn ≤ old.turn → (new.turn < old.turn) ⊎ (new.turn ≡ old.turn) × (new.operation ≤ old.operation)
    by_number true e f l =
        let last : nat_lt old.operation new.operation ≡ false = sym (ap (λ (b : Bool). b || ((old.turn == new.turn) && nat_lt old.operation new.operation)) f ∙ ap (λ (b : Bool). b && nat_lt old.operation new.operation) e) ∙ h in
        inr (sym (number_true old.turn new.turn e), less_not old.operation new.operation last)
    by_number false e f l = inl (other_less old.turn new.turn l e)

    by_turn : (b : Bool) → nat_lt old.turn new.turn ≡ b → (new.turn < old.turn) ⊎ (new.turn ≡ old.turn) × (new.operation ≤ old.operation)
    by_turn true e = absurd (let z = sym (ap (λ (b : Bool). b || ((old.turn == new.turn) && nat_lt old.operation new.operation)) e) ∙ h in cc z)
    by_turn false e = by_number (old.turn == new.turn) refl e (less_not old.turn new.turn e)

-- one that goes before it is the first then
before_both : (old new : Done) (stages : List Stage) → goes_first old new ≡ false → EachStage (IsNotBefore old.turn old.operation) stages → EachStage (IsNotBefore new.turn new.operation) stages
before_both old new [] not each = tt
before_both old new (Stage.UnderWay live ∷ stages) not each = (tt, before_both old new stages not each.1)
before_both old new (Stage.Over other outcome then ∷ stages) not each = (one, before_both old new stages not each.1)
  where
    later : (new.turn < old.turn) ⊎ (new.turn ≡ old.turn) × (new.operation ≤ old.operation)
    later = not_first old new not

    one : IsNotBefore new.turn new.operation (Stage.Over other outcome then)
    one = elim later [
      | inl l ↦ (λ k. each.0.0 (omega (arith, k, l)), λ e k. each.0.0 (omega (arith, e, l)))
      | inr q ↦ (λ k. let e = q.0 in each.0.0 (omega (arith, k, e)), λ e k. let s = q.0 in let m = q.1 in each.0.1 (e ∙ q.0) (omega (arith, k, m)))
    ]

pub first_passed : (stages : List Stage) (old new : Done) (outcome : Outcome) → length stages ≡ new.place → goes_first old new ≡ false → IsFirst (Some old) stages → IsFirst (Some new) (stages ++ Stage.Over new.operation outcome new.turn ∷ [])
first_passed stages old new outcome place not f = (
  record { before = stages; behind = []; outcome = outcome; whole = refl; place_is = place },
  each_more (IsNotBefore new.turn new.operation) stages (Stage.Over new.operation outcome new.turn ∷ []) (before_both old new stages not f.1) (one_itself new.operation new.turn outcome, tt),
)

-- and one that it goes before leaves it the first
pub first_kept : (stages : List Stage) (old new : Done) (outcome : Outcome) → goes_first old new ≡ true → IsFirst (Some old) stages → IsFirst (Some old) (stages ++ Stage.Over new.operation outcome new.turn ∷ [])
first_kept stages old new outcome goes f = first_stays stages old (Stage.Over new.operation outcome new.turn) not_before f
  where
    less_is : (a b : ℕ) → nat_lt a b ≡ true → a < b
    less_is a b e = grind (arith, nat_tests)

    by_turn : (b : Bool) → nat_lt old.turn new.turn ≡ b → (old.turn < new.turn) ⊎ (old.turn ≡ new.turn) × (old.operation < new.operation)
    by_turn true e = inl (less_is old.turn new.turn e)
    by_turn false e =
        let rest : ((old.turn == new.turn) && nat_lt old.operation new.operation) ≡ true = sym (ap (λ (b : Bool). b || ((old.turn == new.turn) && nat_lt old.operation new.operation)) e) ∙ goes in
        inr (number_true old.turn new.turn (and_left (old.turn == new.turn) _ rest), less_is old.operation new.operation (and_right (old.turn == new.turn) _ rest))

    not_before : IsNotBefore old.turn old.operation (Stage.Over new.operation outcome new.turn)
    not_before = elim (by_turn (nat_lt old.turn new.turn) refl) [
      | inl l ↦ (λ k. omega (arith, k, l), λ e k. omega (arith, e, l))
      | inr q ↦ (λ k. let e = q.0 in omega (arith, k, e), λ e k. let m = q.1 in omega (arith, k, m))
    ]

-- ---- it is taken out

-- those before it and behind it stay
each_without : (P : Stage → Type 0) (before : List Stage) (stage : Stage) (behind : List Stage) → EachStage P (before ++ stage ∷ behind) → EachStage P (before ++ behind)
each_without P [] stage behind e = e.1
each_without P (x ∷ before) stage behind e = (e.0, each_without P before stage behind e.1)

each_at : (P : Stage → Type 0) (before : List Stage) (stage : Stage) (behind : List Stage) → EachStage P (before ++ stage ∷ behind) → P stage
each_at P [] stage behind e = e.0
each_at P (x ∷ before) stage behind e = each_at P before stage behind e.1

-- one that is over is the one that is taken out, or stays
over_without : (before : List Stage) (stage : Stage) (behind : List Stage) (operation : ℕ) (outcome : Outcome) → HasOver (before ++ stage ∷ behind) operation outcome → ((turn : ℕ) × (stage ≡ Stage.Over operation outcome turn)) ⊎ HasOver (before ++ behind) operation outcome
over_without [] stage behind operation outcome h = h
over_without (x ∷ before) stage behind operation outcome h = elim h [
  | inl e ↦ inr (inl e)
  | inr m ↦ elim (over_without before stage behind operation outcome m) [ inl e ↦ inl e | inr n ↦ inr (inr n) ]
]

-- the turn in which one became done that is kept as over
over_since : (shape : Shape) (r : Record) (stages : List Stage) (operation : ℕ) (outcome : Outcome) (done : Done) → EachStage (RestsStage shape r) stages → EachStage (IsNotBefore done.turn done.operation) stages → HasOver stages operation outcome
    → (turn : ℕ) × IsDecidedIn r operation outcome turn × IsNotBefore done.turn done.operation (Stage.Over operation outcome turn)
over_since shape r [] operation outcome done rest not h = absurd h
over_since shape r (stage ∷ stages) operation outcome done rest not h = elim h [
  | inl e ↦ (
      let own : RestsStage shape r (Stage.Over operation outcome e.0) = subst (λ (s : Stage). RestsStage shape r s) e.1 rest.0 in
      (e.0, own.0.since, subst (λ (s : Stage). IsNotBefore done.turn done.operation s) e.1 not.0)
      )
  | inr m ↦ over_since shape r stages operation outcome done rest.1 not.1 m
]

-- its end may stand: each that goes first has its end
goes_on : (shape : Shape) (clock events begun turns : ℕ) (stages : List Stage) (done : Done) (outcome : Outcome) (r : Record) → Counts shape clock events (among begun turns stages []) r → EachStage (IsNotBefore done.turn done.operation) stages
    → HasLeft shape r done.operation outcome done.turn → IsGoing (simple_rules shape) (Marked (End done.operation outcome) ∷ r)
goes_on shape clock events begun turns stages done outcome r c not left = ends (simple_rules shape) r done.operation outcome left.over left.deletes first
  where
    kept : IsKept (simple_rules shape) r
    kept = c.going.kept

    none : {operation : ℕ} → ◌≡◌ {A = Option ℕ} None (Some operation) → ⊥
    none e = cc

    not_kept : (at : Record) → Earlier (Decided done.operation outcome ∷ at) r → (other : ℕ) (how : Outcome) (then : Record) → Earlier (Decided other how ∷ then) r → GoesFirst then other at done.operation → HasOver stages other how → ⊥
    not_kept at own other how then e before h =
        let o = over_since shape r stages other how done c.rest not h in
        let one = decided_once (simple_rules shape) r done.operation outcome outcome at left.since.at kept own left.since.decided in
        let two = decided_once (simple_rules shape) r other how how then o.1.at kept e o.1.decided in
        let t : turns_in at ≡ done.turn = ap turns_in one.1 ∙ left.since.turn_is in
        let s : turns_in then ≡ o.0 = ap turns_in two.1 ∙ o.1.turn_is in
        elim before [
          | inl l ↦ o.2.0 (omega (arith, t, s, l))
          | inr q ↦ (let e = q.0 in o.2.1 (omega (arith, t, s, e)) q.1)
        ]

    first : (at : Record) → Earlier (Decided done.operation outcome ∷ at) r → outcome ≢ Outcome.Cancelled → (other : ℕ) (how : Outcome) (then : Record) → Earlier (Decided other how ∷ then) r → GoesFirst then other at done.operation → Has r (Marked (End other how))
    first at own uncancelled other how then e before = elim (c.ended other how (head_has _ then r e)) [
      | inl h ↦ absurd (not_kept at own other how then e before h)
      | inr b ↦ elim b [
        | inl h ↦ absurd h
        | inr d ↦ elim d [ inl end ↦ end | inr at ↦ absurd (none at) ]
      ]
    ]

-- behind its end the others rest
ended_rests : (shape : Shape) (clock events begun turns : ℕ) (before behind : List Stage) (done : Done) (outcome : Outcome) (r : Record) → EachStage (IsOther done.operation) (before ++ behind)
    → EachStage (IsNotBefore done.turn done.operation) (before ++ Stage.Over done.operation outcome done.turn ∷ behind)
    → Counts shape clock events (among begun turns (before ++ Stage.Over done.operation outcome done.turn ∷ behind) []) r → Counts shape clock events (among begun turns (before ++ behind) []) (Marked (End done.operation outcome) ∷ r)
ended_rests shape clock events begun turns before behind done outcome r others not c =
    let stage : Stage = Stage.Over done.operation outcome done.turn in
    let item = Marked (End done.operation outcome) in
    let left : RestsStage shape r stage = each_at (RestsStage shape r) before stage behind c.rest in
    let going = goes_on shape clock events begun turns (before ++ stage ∷ behind) done outcome r c not left.0 in
    record {
      clock_is = c.clock_is;
      events_are = c.events_are;
      begun_are = c.begun_are;
      turns_are = c.turns_are;
      aims = within_stays item r (λ x p a e. absurd cc) (omega arith) c.aims;
      going = going;
      rest = rest_apart shape item r done.operation (before ++ behind) going (own_ended done.operation outcome r) others (each_without (RestsStage shape r) before stage behind c.rest);
      more = tt;
      ended = λ operation how h. elim h [
        | inl e ↦ absurd (cc e)
        | inr m ↦ elim (c.ended operation how m) [
          | inl over ↦ elim (over_without before stage behind operation how over) [
            | inl is ↦ inr (inr (inl (inl (same operation how is.0 is.1))))
            | inr stays ↦ inl stays
          ]
          | inr b ↦ elim b [
            | inl x ↦ absurd x
            | inr d ↦ elim d [ inl end ↦ inr (inr (inl (inr end))) | inr at ↦ absurd (none at) ]
          ]
        ]
      ];
    }
  where
    none : {operation : ℕ} → ◌≡◌ {A = Option ℕ} None (Some operation) → ⊥
    none e = cc

    same : (operation : ℕ) (how : Outcome) (turn : ℕ) → Stage.Over done.operation outcome done.turn ≡ Stage.Over operation how turn → Marked (End operation how) ≡ Marked (End done.operation outcome)
    same operation how turn e = cc

-- the others, by their numbers
others_left : (shape : Shape) (begun n : ℕ) (before : List Stage) (stage : Stage) (behind : List Stage) → begun < 2 ^ 31 → FitStages shape begun n (before ++ stage ∷ behind) → EachStage (IsOther (number_of stage)) (before ++ behind)
others_left shape begun n before stage behind small f = each_more (IsOther (number_of stage)) before behind (fits_before shape begun before n stage behind small f) (fits_after shape begun before n stage behind small f)

-- against the calls, the record goes on by the end
pub ties_taken : (old : RouterView) (before behind : List Stage) (done : Done) (outcome : Outcome) (told : Option (List Called)) (marks : List HistoryMark) → old.begun < 2 ^ 31 → old.stages ≡ before ++ Stage.Over done.operation outcome done.turn ∷ behind
    → FitStages old.shape old.begun 1 old.stages → EachStage (IsNotBefore done.turn done.operation) old.stages → Ties (Stands old) told marks
    → Ties (Stands (record { shape = old.shape; clock = old.clock; events = old.events; begun = old.begun; turns = old.turns; stages = before ++ behind })) told (End done.operation outcome ∷ marks)
ties_taken old before behind done outcome told marks small whole fits not t =
    let stage : Stage = Stage.Over done.operation outcome done.turn in
    let others = others_left old.shape old.begun 1 before stage behind small (subst (λ (l : List Stage). FitStages old.shape old.begun 1 l) whole fits) in
    let first = subst (λ (l : List Stage). EachStage (IsNotBefore done.turn done.operation) l) whole not in
    let next : RouterView = record { shape = old.shape; clock = old.clock; events = old.events; begun = old.begun; turns = old.turns; stages = before ++ behind } in
    tie_items (Stands old) (Stands next) (Marked (End done.operation outcome) ∷ []) told marks (refl, tt)
    (λ r c. ended_rests old.shape old.clock old.events old.begun old.turns before behind done outcome r others first (subst (λ (l : List Stage). Counts old.shape old.clock old.events (among old.begun old.turns l []) r) whole c)) t

-- ---- what is left of the table

fits_later : (shape : Shape) (begun n m : ℕ) (stages : List Stage) → n ≤ m → FitStages shape begun m stages → FitStages shape begun n stages
fits_later shape begun n m [] l f = tt
fits_later shape begun n m (x ∷ stages) l f = (f.0, let k = f.1 in omega (arith, l, k), f.2)

pub fits_without : (shape : Shape) (begun n : ℕ) (before : List Stage) (stage : Stage) (behind : List Stage) → FitStages shape begun n (before ++ stage ∷ behind) → FitStages shape begun n (before ++ behind)
fits_without shape begun n [] stage behind f = fits_later shape begun n (number_of stage + 1) behind (let k = f.1 in omega (arith, k)) f.2
fits_without shape begun n (x ∷ before) stage behind f = (f.0, f.1, fits_without shape begun (number_of x + 1) before stage behind f.2)

pub live_without : (before : List Stage) (stage : Stage) (behind : List Stage) → IsTakenOut (number_of stage) (live_in (before ++ stage ∷ behind)) (live_in (before ++ behind))
live_without before stage behind = (live_in before, live_in behind, apart before (stage ∷ behind), apart before behind)
  where
    apart : (xs ys : List Stage) → live_in (xs ++ ys) ≡ live_in xs ++ live_in ys
    apart [] ys = refl
    apart (x ∷ xs) ys = ap (λ (l : List ℕ). number_of x ∷ l) (apart xs ys)

pub length_without : (before : List Stage) (stage : Stage) (behind : List Stage) → length (before ++ behind) ≤ length (before ++ stage ∷ behind)
length_without [] stage behind = omega arith
length_without (x ∷ before) stage behind = let e = length_without before stage behind in omega (arith, e)

-- ---- a router from whose table one is taken

abbrev pub keeping : RouterView → List Stage → RouterView
keeping router stages = record { shape = router.shape; clock = router.clock; events = router.events; begun = router.begun; turns = router.turns; stages = stages }

-- what is said of the first that is over, if there is one
abbrev pub TakesFirst : Option Ended → (old new : List Stage) → Type 0
TakesFirst result old new = IfSome result (λ e. IsTakenFirst e old new) × (IsNone result → new ≡ old)

pub first_ties : (old : RouterView) (new : List Stage) (result : Option Ended) (told : Option (List Called)) (marks : List HistoryMark) → Fits old → TakesFirst result old.stages new → Ties (Stands old) told marks → Ties (Stands (keeping old new)) told (end_marks result ++ marks)
first_ties old new None told marks fits takes t = subst (λ (l : List Stage). Ties (Stands (keeping old l)) told marks) (sym (takes.1 refl)) t
first_ties old new (Some e) told marks fits takes t =
    let f = takes.0 in
    subst (λ (l : List Stage). Ties (Stands (keeping old l)) told (End e.operation e.outcome ∷ marks)) (sym f.stays)
    (ties_taken old f.before f.behind (record { place = 0; operation = e.operation; turn = f.turn }) e.outcome told marks fits.number f.was fits.stages f.first t)

pub first_fits : (old : RouterView) (new : List Stage) (result : Option Ended) → Fits old → TakesFirst result old.stages new → Fits (keeping old new)
first_fits old new None fits takes = subst (λ (l : List Stage). Fits (keeping old l)) (sym (takes.1 refl)) fits
first_fits old new (Some e) fits takes =
    let f = takes.0 in
    let stage : Stage = Stage.Over e.operation e.outcome f.turn in
    record {
      shape = fits.shape;
      number = fits.number;
      few = subst (λ (l : List Stage). length l ≤ 16) (sym f.stays) (let less = length_without f.before stage f.behind in let few = fits.few in let same = ap length f.was in omega (arith, less, few, same));
      stages = subst (λ (l : List Stage). FitStages old.shape old.begun 1 l) (sym f.stays) (fits_without old.shape old.begun 1 f.before stage f.behind (subst (λ (l : List Stage). FitStages old.shape old.begun 1 l) f.was fits.stages));
    }

pub first_left : (old new : List Stage) (result : Option Ended) → TakesFirst result old new → IfSome result (λ e. IsTakenOut e.operation (live_in old) (live_in new))
first_left old new None takes = tt
first_left old new (Some e) takes =
    let f = takes.0 in
    subst (λ (l : List Stage). IsTakenOut e.operation (live_in l) (live_in new)) (sym f.was)
    (subst (λ (l : List Stage). IsTakenOut e.operation (live_in (f.before ++ Stage.Over e.operation e.outcome f.turn ∷ f.behind)) (live_in l)) (sym f.stays) (live_without f.before (Stage.Over e.operation e.outcome f.turn) f.behind))

pub first_answer : (old : RouterView) (new : List Stage) (result : Option Ended) → Fits old → TakesFirst result old.stages new → IfSome result (λ e. IsAnswer old.shape e.outcome)
first_answer old new None fits takes = tt
first_answer old new (Some e) fits takes =
    let f = takes.0 in
    (fits_one old.shape old.begun f.before 1 (Stage.Over e.operation e.outcome f.turn) f.behind (subst (λ (l : List Stage). FitStages old.shape old.begun 1 l) f.was fits.stages)).1
