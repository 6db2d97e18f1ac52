-- The table of the live operations: one of them is taken out, works and is put back, and a further one begins.
use Rattle.std.proofs.Common.{◌≡◌, ℕ, ◌+◌, ◌^◌, ◌<◌, ◌≤◌, List, [], ◌∷◌, ◌++◌, length, take, drop, set, suc, zero, slice_index_or, Option, Some, None, refl, sym, ap, ◌∙◌, subst, inl, inr, arith}
use Rattle.std.proofs.lemmas.List.{drop-set-lt, drop_more, set_split, take-append-drop, take_more_set}
use Rattle.blob_id.specs.declared.id.BlobId.{BlobId}
use Rattle.quorum_op.specs.declared.outcome.Outcome.{Outcome}
use Rattle.world_model.specs.declared.history.Begun.{Begun}
use Rattle.world_model.specs.declared.history.HistoryMark.{HistoryMark}
use Rattle.world_model.specs.declared.history.HistoryMark.TheVariants.{Begin}
use Rattle.world_model.specs.declared.shape.Shape.{Shape}
use Rattle.world_model.specs.declared.step.Called.{Called}
use Rattle.world_model.specs.Lists.{Has}
use Rattle.world_model.specs.Ordered.{marks_of}
use Rattle.world_model.specs.Record.{Item, Top, Decided, Drawn, Marked, Record}
use Rattle.world_model.specs.Told.{AllSession}
use Rattle.world_model.proofs.ListLaws.{has_at}
use Rattle.op_table.specs.declared.heard.Heard.{Heard}
use Rattle.op_table.specs.Addressed.{heard_by}
use Rattle.router_core.specs.declared.router.Stage.{Stage}
use Rattle.router_core.specs.declared.live.Live.{Live}
use Rattle.router_core.specs.Beginning.{BeginsAs, BeginsBeside, begin_items, put_items, with_stage}
use Rattle.router_core.specs.Fits.{FitStages, Fits, FitsStage, RouterView, number_of}
use Rattle.router_core.specs.Jobs.{blob_for}
use Rattle.router_core.specs.Stages.{simple_rules, IsGoing, IsOver}
use Rattle.router_core.specs.Stands.{AreOthers, At, Beside, Counts, EachStage, HasOver, IsOther, OwnsStage, RestsStage, Stands, among, around, live_in}
use Rattle.router_core.specs.Ties.{Ties}
use Rattle.router_core.specs.Turning.{AllTold, IsTold, IsToldStage}
use Rattle.router_core.proofs.AimLaws.{within_stays}
use Rattle.router_core.proofs.BeginLaws.{begins_next}
use Rattle.router_core.proofs.EndLaws.{counts_decided}
use Rattle.router_core.proofs.OthersLaws.{beside_stays, own_begun, own_drawn, rest_apart}
use Rattle.router_core.proofs.StageLaws.{decided_once}
use Rattle.router_core.proofs.TieLaws.{tie_items, tie_same}

-- ---- lists of stages

pub each_more : (P : Stage → Type 0) (xs ys : List Stage) → EachStage P xs → EachStage P ys → EachStage P (xs ++ ys)
each_more P [] ys p q = q
each_more P (x ∷ xs) ys p q = (p.0, each_more P xs ys p.1 q)

over_left : (xs ys : List Stage) (operation : ℕ) (outcome : Outcome) → HasOver xs operation outcome → HasOver (xs ++ ys) operation outcome
over_left [] ys operation outcome h = absurd h
over_left (x ∷ xs) ys operation outcome h = elim h [ inl e ↦ inl e | inr m ↦ inr (over_left xs ys operation outcome m) ]

over_right : (xs ys : List Stage) (operation : ℕ) (outcome : Outcome) → HasOver ys operation outcome → HasOver (xs ++ ys) operation outcome
over_right [] ys operation outcome h = h
over_right (x ∷ xs) ys operation outcome h = inr (over_right xs ys operation outcome h)

-- ---- one of them is taken out

-- it works, and is another one than those beside it
pub focus : (shape : Shape) (clock events begun turns : ℕ) (rest more : List Stage) (stage : Stage) (r : Record) → Counts shape clock events (among begun turns rest (stage ∷ more)) r
    → At shape (λ r. OwnsStage shape r stage) clock events (around begun turns (number_of stage) rest more) r
focus shape clock events begun turns rest more stage r c = (
  record {
    clock_is = c.clock_is;
    events_are = c.events_are;
    begun_are = c.begun_are;
    turns_are = c.turns_are;
    aims = c.aims;
    going = c.going;
    rest = c.rest;
    more = c.more.1;
    ended = λ operation outcome h. elim (c.ended operation outcome h) [
      | inl a ↦ inl a
      | inr b ↦ elim b [
        | inl m ↦ elim m [
          | inl e ↦ inr (inr (inr (ap (λ (s : Stage). Some (number_of s)) e.1)))
          | inr x ↦ inr (inl x)
        ]
        | inr d ↦ elim d [ inl x ↦ inr (inr (inl x)) | inr y ↦ absurd (none y) ]
      ]
    ];
  },
  c.more.0,
)
  where
    none : {operation : ℕ} → ◌≡◌ {A = Option ℕ} None (Some operation) → ⊥
    none e = cc

-- what became done so is over so
settled_over : (shape : Shape) (stage : Stage) (r : Record) (operation : ℕ) (outcome : Outcome) → RestsStage shape r stage → number_of stage ≡ operation → Has r (Decided operation outcome) → (turn : ℕ) × (stage ≡ Stage.Over operation outcome turn)
settled_over shape (Stage.UnderWay live) r operation outcome o same h = absurd (o.0.under_way.undone (outcome, subst (λ (n : ℕ). Has r (Decided n outcome)) (sym same) h))
settled_over shape (Stage.Over number how turn) r operation outcome o same h =
    let over : IsOver (simple_rules shape) r operation how = subst (λ (n : ℕ). IsOver (simple_rules shape) r n how) same o.0.over in
    let a = has_at r (Decided operation how) over.decided in
    let b = has_at r (Decided operation outcome) h in
    let q = decided_once (simple_rules shape) r operation how outcome a.0 b.0 over.going.kept a.1 b.1 in
    (turn, ap (λ (n : ℕ). Stage.Over n how turn) same ∙ ap (λ (x : Outcome). Stage.Over operation x turn) q.0)

-- and is put back at rest
pub unfocus : (shape : Shape) (clock events begun turns n : ℕ) (rest more : List Stage) (stage : Stage) (r : Record) → number_of stage ≡ n → At shape (λ r. RestsStage shape r stage) clock events (around begun turns n rest more) r
    → Counts shape clock events (among begun turns (rest ++ stage ∷ []) more) r
unfocus shape clock events begun turns n rest more stage r same a =
    let c = a.0 in
    record {
      clock_is = c.clock_is;
      events_are = c.events_are;
      begun_are = c.begun_are;
      turns_are = c.turns_are;
      aims = c.aims;
      going = c.going;
      rest = each_more (RestsStage shape r) rest (stage ∷ []) c.rest (a.1, tt);
      more = c.more;
      ended = λ operation outcome h. elim (c.ended operation outcome h) [
        | inl x ↦ inl (over_left rest (stage ∷ []) operation outcome x)
        | inr b ↦ elim b [
          | inl m ↦ inr (inl m)
          | inr d ↦ elim d [
            | inl x ↦ inr (inr (inl x))
            | inr y ↦ inl (over_right rest (stage ∷ []) operation outcome (inl (settled_over shape stage r operation outcome a.1 (same ∙ number y) h)))
          ]
        ]
      ];
    }
  where
    number : {operation : ℕ} → Some n ≡ Some operation → n ≡ operation
    number e = cc

-- ---- a further one begins

below_other : (shape : Shape) (begun : ℕ) (n : ℕ) (stages : List Stage) → begun + 1 < 2 ^ 31 → FitStages shape begun n stages → EachStage (IsOther (begun + 1)) stages
below_other shape begun n [] l f = tt
below_other shape begun n (stage ∷ stages) l f = (one stage f.0, below_other shape begun (number_of stage + 1) stages l f.2)
  where
    one : (stage : Stage) → FitsStage shape begun stage → IsOther (begun + 1) stage
    one (Stage.UnderWay live) g = let k = g.0 in (λ e. omega (arith, k, e), omega (arith, k, l))
    one (Stage.Over operation outcome turn) g = let k = g.0 in (λ e. omega (arith, k, e), omega (arith, k, l))

-- those that rest do so behind its begin
begun_beside : (shape : Shape) (clock events begun turns : ℕ) (how : Begun) (stages : List Stage) (r : Record) → begun + 1 < 2 ^ 31 → EachStage (IsOther (begun + 1)) stages → Counts shape clock events (among begun turns stages []) r
    → Counts shape clock events (around (begun + 1) (turns + 1) (begun + 1) stages []) (Marked (Begin (begun + 1) how) ∷ r)
begun_beside shape clock events begun turns how stages r low others c =
    let going : IsGoing (simple_rules shape) (Marked (Begin (begun + 1) how) ∷ r) = (begins_next shape r (begun + 1) how c.going (let b = c.begun_are in omega (arith, b)) low).going in
    record {
      clock_is = c.clock_is;
      events_are = c.events_are;
      begun_are = let b = c.begun_are in omega (arith, b);
      turns_are = let t = c.turns_are in omega (arith, t);
      aims = within_stays (Marked (Begin (begun + 1) how)) r (λ x p a e. absurd cc) (omega arith) c.aims;
      going = going;
      rest = rest_apart shape (Marked (Begin (begun + 1) how)) r (begun + 1) stages going (own_begun (begun + 1) how r) others c.rest;
      more = tt;
      ended = λ operation outcome h. elim h [
        | inl e ↦ absurd (cc e)
        | inr m ↦ elim (c.ended operation outcome m) [
          | inl a ↦ inl a
          | inr b ↦ elim b [
            | inl x ↦ absurd x
            | inr d ↦ elim d [ inl x ↦ inr (inr (inl (inr x))) | inr y ↦ absurd (none y) ]
          ]
        ]
      ];
    }
  where
    none : {operation : ℕ} → ◌≡◌ {A = Option ℕ} None (Some operation) → ⊥
    none e = cc

alone_other : (begun turns : ℕ) (stages : List Stage) → EachStage (IsOther (begun + 1)) stages → AreOthers (begun + 1) (around (begun + 1) (turns + 1) (begun + 1) stages [])
alone_other begun turns stages others = record { at = refl; rest = others; more = tt }

-- while others are live, the next one begins beside them
pub begins_beside : (old : RouterView) (how : Begun) (stage : Stage) → old.begun + 1 < 2 ^ 31 → FitStages old.shape old.begun 1 old.stages → BeginsAs old.shape old.clock (old.turns + 1) (old.begun + 1) (begin_items (old.begun + 1) how stage) stage
    → BeginsBeside old (begin_items (old.begun + 1) how stage) stage
begins_beside old how (Stage.UnderWay live) low fits begins = λ r c.
    let own = begins r c.going c.aims c.clock_is (let t = c.turns_are in omega (arith, t)) (let b = c.begun_are in omega (arith, b)) in
    (begun_beside old.shape old.clock old.events old.begun old.turns how old.stages r low (below_other old.shape old.begun 1 old.stages low fits) c, own)
begins_beside old how (Stage.Over number outcome turn) low fits begins = λ r c.
    let own = begins r c.going c.aims c.clock_is (let t = c.turns_are in omega (arith, t)) (let b = c.begun_are in omega (arith, b)) in
    let others = below_other old.shape old.begun 1 old.stages low fits in
    let mid = begun_beside old.shape old.clock old.events old.begun old.turns how old.stages r low others c in
    (counts_decided old.shape old.clock old.events (around (old.begun + 1) (old.turns + 1) (old.begun + 1) old.stages []) (old.begun + 1) outcome (Marked (Begin (old.begun + 1) how) ∷ r) (alone_other old.begun old.turns old.stages others) own.over.going mid, own)

-- and a put with its draw
pub put_begins_beside : (old : RouterView) (id : BlobId) (body : List ℕ) (live : Live) → old.begun + 1 < 2 ^ 31 → FitStages old.shape old.begun 1 old.stages → BeginsAs old.shape old.clock (old.turns + 1) (old.begun + 1) (put_items (old.begun + 1) old.clock id body) (Stage.UnderWay live)
    → BeginsBeside old (put_items (old.begun + 1) old.clock id body) (Stage.UnderWay live)
put_begins_beside old id body live low fits begins = λ r c.
    let n : ℕ = old.begun + 1 in
    let how : Begun = Begun.Put [] body 0 [] [] in
    let drawn : Item = Drawn n Top 0 id (blob_for old.clock body) in
    let own = begins r c.going c.aims c.clock_is (let t = c.turns_are in omega (arith, t)) (let b = c.begun_are in omega (arith, b)) in
    let others = below_other old.shape old.begun 1 old.stages low fits in
    let mid = begun_beside old.shape old.clock old.events old.begun old.turns how old.stages r low others c in (
      beside_stays old.shape old.clock old.events n (around n (old.turns + 1) n old.stages []) drawn (Marked (Begin n how) ∷ r) (alone_other old.begun old.turns old.stages others) (own_drawn n Top 0 id (blob_for old.clock body) (Marked (Begin n how) ∷ r))
          (record { clock = refl; events = refl; begun = refl; turns = refl; decides = λ other outcome e. absurd (cc e) }) (within_stays drawn (Marked (Begin n how) ∷ r) (λ x p a e. absurd cc) (omega arith) mid.aims) own.under_way.going mid,
      own,
    )

-- ---- the table, at a place

number_most : (shape : Shape) (begun : ℕ) (stage : Stage) → FitsStage shape begun stage → number_of stage ≤ begun
number_most shape begun (Stage.UnderWay live) f = f.0
number_most shape begun (Stage.Over operation outcome turn) f = f.0

pub fits_one : (shape : Shape) (begun : ℕ) (xs : List Stage) (n : ℕ) (stage : Stage) (ys : List Stage) → FitStages shape begun n (xs ++ stage ∷ ys) → FitsStage shape begun stage
fits_one shape begun [] n stage ys f = f.0
fits_one shape begun (x ∷ xs) n stage ys f = fits_one shape begun xs (number_of x + 1) stage ys f.2

fits_least : (shape : Shape) (begun : ℕ) (xs : List Stage) (n : ℕ) (stage : Stage) (ys : List Stage) → FitStages shape begun n (xs ++ stage ∷ ys) → n ≤ number_of stage
fits_least shape begun [] n stage ys f = f.1
fits_least shape begun (x ∷ xs) n stage ys f = let l : number_of x + 1 ≤ number_of stage = fits_least shape begun xs (number_of x + 1) stage ys f.2 in let k = f.1 in omega (arith, l, k)

-- those before it have lesser numbers, and those behind it greater ones
pub fits_before : (shape : Shape) (begun : ℕ) (xs : List Stage) (n : ℕ) (stage : Stage) (ys : List Stage) → begun < 2 ^ 31 → FitStages shape begun n (xs ++ stage ∷ ys) → EachStage (IsOther (number_of stage)) xs
fits_before shape begun [] n stage ys small f = tt
fits_before shape begun (x ∷ xs) n stage ys small f =
    let l : number_of x + 1 ≤ number_of stage = fits_least shape begun xs (number_of x + 1) stage ys f.2 in
    let m = number_most shape begun x f.0 in
    ((λ q. omega (arith, l, q), omega (arith, m, small)), fits_before shape begun xs (number_of x + 1) stage ys small f.2)

fits_behind : (shape : Shape) (begun : ℕ) (ys : List Stage) (number n : ℕ) → begun < 2 ^ 31 → number < n → FitStages shape begun n ys → EachStage (IsOther number) ys
fits_behind shape begun [] number n small less f = tt
fits_behind shape begun (y ∷ ys) number n small less f =
    let m = number_most shape begun y f.0 in
    let k = f.1 in
    ((λ q. omega (arith, less, k, q), omega (arith, m, small)), fits_behind shape begun ys number (number_of y + 1) small (omega (arith, less, k)) f.2)

pub fits_after : (shape : Shape) (begun : ℕ) (xs : List Stage) (n : ℕ) (stage : Stage) (ys : List Stage) → begun < 2 ^ 31 → FitStages shape begun n (xs ++ stage ∷ ys) → EachStage (IsOther (number_of stage)) ys
fits_after shape begun [] n stage ys small f = fits_behind shape begun ys (number_of stage) (number_of stage + 1) small (omega arith) f.2
fits_after shape begun (x ∷ xs) n stage ys small f = fits_after shape begun xs (number_of x + 1) stage ys small f.2

pub fits_set : (shape : Shape) (begun : ℕ) (xs : List Stage) (n : ℕ) (old new : Stage) (ys : List Stage) → number_of new ≡ number_of old → FitsStage shape begun new → FitStages shape begun n (xs ++ old ∷ ys) → FitStages shape begun n (xs ++ new ∷ ys)
fits_set shape begun [] n old new ys same fits f =
    (fits, subst (λ (k : ℕ). n ≤ k) (sym same) f.1, subst (λ (k : ℕ). FitStages shape begun (k + 1) ys) (sym same) f.2)
fits_set shape begun (x ∷ xs) n old new ys same fits f = (f.0, f.1, fits_set shape begun xs (number_of x + 1) old new ys same fits f.2)

-- a list of stages with one of them at a place
pub record IsSplit (items : List Stage) (place : ℕ) (stage : Stage) : Type 0 where
  pub whole : items ≡ take place items ++ stage ∷ drop (place + 1) items
  pub left : drop place items ≡ stage ∷ drop (place + 1) items

pub split_at : (items : List Stage) (place : ℕ) (stage : Stage) → place < length items → stage ≡ slice_index_or items place stage → IsSplit items place stage
split_at items place stage small is =
    let left : drop place items ≡ stage ∷ drop (place + 1) items = drop_more items place stage small ∙ ap (λ (s : Stage). s ∷ drop (place + 1) items) (sym is) in
    record { whole = sym (take-append-drop place items) ∙ ap (λ (l : List Stage). take place items ++ l) left; left = left }

-- one of many settles, and the others go along
pub one_settled : (shape : Shape) (clock events begun turns known : ℕ) (items : List Stage) (place : ℕ) (old new : Stage) (told told' : Option (List Called)) (marks : List HistoryMark) → place < length items → IsSplit items place old → known < 2 ^ 31 → FitStages shape known 1 items
    → number_of new ≡ number_of old
    → ((beside : Beside) → beside.turns ≡ turns → AreOthers (number_of old) beside → Ties (At shape (λ r. OwnsStage shape r old) clock events beside) told marks → Ties (At shape (λ r. RestsStage shape r new) clock events beside) told' marks)
    → Ties (Counts shape clock events (among begun turns (take place items) (drop place items))) told marks
    → Ties (Counts shape clock events (among begun turns (take (place + 1) (set items place new)) (drop (place + 1) (set items place new)))) told' marks
one_settled shape clock events begun turns known items place old new told told' marks small split low fits same settles t =
    let xs : List Stage = take place items in
    let ys : List Stage = drop (place + 1) items in
    let f : FitStages shape known 1 (xs ++ old ∷ ys) = subst (λ (l : List Stage). FitStages shape known 1 l) split.whole fits in
    let beside : Beside = around begun turns (number_of old) xs ys in
    let out = tie_same (Counts shape clock events (among begun turns xs (old ∷ ys))) (At shape (λ r. OwnsStage shape r old) clock events beside) told marks
    (subst (λ (l : List Stage). Ties (Counts shape clock events (among begun turns xs l)) told marks) split.left t) (λ r c. focus shape clock events begun turns xs ys old r c) in
    let done = settles beside refl (record { at = refl; rest = fits_before shape known xs 1 old ys low f; more = fits_after shape known xs 1 old ys low f }) out in
    let back = tie_same (At shape (λ r. RestsStage shape r new) clock events beside) (Counts shape clock events (among begun turns (xs ++ new ∷ []) ys)) told' marks done (λ r a. unfocus shape clock events begun turns (number_of old) xs ys new r same a) in
    subst (λ (l : List Stage). Ties (Counts shape clock events (among begun turns l (drop (place + 1) (set items place new)))) told' marks) (sym (take_more_set items place new small))
    (subst (λ (l : List Stage). Ties (Counts shape clock events (among begun turns (xs ++ new ∷ []) l)) told' marks) (sym (drop-set-lt (place + 1) items place new (omega arith))) back)

pub fits_settled : (shape : Shape) (begun : ℕ) (items : List Stage) (place : ℕ) (old new : Stage) → place < length items → IsSplit items place old → number_of new ≡ number_of old → (FitsStage shape begun old → FitsStage shape begun new) → FitStages shape begun 1 items
    → FitStages shape begun 1 (set items place new)
fits_settled shape begun items place old new small split same fits f =
    let g = subst (λ (l : List Stage). FitStages shape begun 1 l) split.whole f in
    let next : place + 1 ≡ suc place = omega arith in
    subst (λ (l : List Stage). FitStages shape begun 1 l) (sym (set_split items place new small))
    (subst (λ (k : ℕ). FitStages shape begun 1 (take place items ++ new ∷ drop k items)) next (fits_set shape begun (take place items) 1 old new (drop (place + 1) items) same (fits (fits_one shape begun (take place items) 1 old (drop (place + 1) items) g)) g))

-- ---- telling them, one after the other

pub told_append : (heard : Heard) (events : ℕ) (xs ys cs bs : List Stage) → AllTold heard events xs ys → AllTold heard events cs bs → AllTold heard events (xs ++ cs) (ys ++ bs)
told_append heard events [] [] cs bs p q = q
told_append heard events [] (y ∷ ys) cs bs p q = absurd p
told_append heard events (x ∷ xs) [] cs bs p q = absurd p
told_append heard events (x ∷ xs) (y ∷ ys) cs bs p q = (p.0, told_append heard events xs ys cs bs p.1 q)

pub told_as : (h g : Heard) (events : ℕ) (old new : Stage) → heard_by (number_of old) h ≡ heard_by (number_of old) g → IsToldStage h events old new → IsToldStage g events old new
told_as h g events (Stage.UnderWay old) (Stage.UnderWay new) e t = subst (λ (x : Heard). IsTold x events old new) e t
told_as h g events (Stage.UnderWay old) (Stage.Over operation outcome turn) e t = absurd t
told_as h g events (Stage.Over operation outcome turn) new e t = t

each_split : (P : Stage → Type 0) (xs : List Stage) (y : Stage) → EachStage P (xs ++ y ∷ []) → EachStage P xs × P y
each_split P [] y e = (tt, e.0)
each_split P (x ∷ xs) y e = let r = each_split P xs y e.1 in ((e.0, r.0), r.1)

each_apart : (operation : ℕ) (xs : List Stage) → EachStage (IsOther operation) xs → EachStage (λ stage. number_of stage ≡ operation → ⊥) xs
each_apart operation [] e = tt
each_apart operation (x ∷ xs) e = (e.0.0, each_apart operation xs e.1)

take_next : (xs : List Stage) (i : ℕ) (y : Stage) (ys : List Stage) → drop i xs ≡ y ∷ ys → take (suc i) xs ≡ take i xs ++ y ∷ []
take_next [] zero y ys e = absurd cc
take_next [] (suc i) y ys e = absurd cc
take_next (x ∷ xs) zero y ys e = let z : x ≡ y = cc in ap (λ (s : Stage). s ∷ []) z
take_next (x ∷ xs) (suc i) y ys e = ap (λ (l : List Stage). x ∷ l) (take_next xs i y ys e)

-- one more was told
pub one_told : (first left : Heard) (events place known : ℕ) (shape : Shape) (items begin : List Stage) (old new : Stage) → place < length items → IsSplit items place old → known < 2 ^ 31 → FitStages shape known 1 items → drop place items ≡ drop place begin
    → ((other : ℕ) → EachStage (λ stage. number_of stage ≡ other → ⊥) (take place items) → heard_by other left ≡ heard_by other first) → IsToldStage left events old new → AllTold first events (take place begin) (take place items)
    → AllTold first events (take (place + 1) begin) (take (place + 1) (set items place new))
one_told first left events place known shape items begin old new small split low fits same others told so_far =
    let xs : List Stage = take place items in
    let ys : List Stage = drop (place + 1) items in
    let f : FitStages shape known 1 (xs ++ old ∷ ys) = subst (λ (l : List Stage). FitStages shape known 1 l) split.whole fits in
    let apart = each_apart (number_of old) xs (fits_before shape known xs 1 old ys low f) in
    let there : IsToldStage first events old new = told_as left first events old new (others (number_of old) apart) told in
    let next : suc place ≡ place + 1 = omega arith in
    let before : take (place + 1) begin ≡ take place begin ++ old ∷ [] = subst (λ (k : ℕ). take k begin ≡ take place begin ++ old ∷ []) next (take_next begin place old ys (sym same ∙ split.left)) in
    subst (λ (l : List Stage). AllTold first events l (take (place + 1) (set items place new))) (sym before)
    (subst (λ (l : List Stage). AllTold first events (take place begin ++ old ∷ []) l) (sym (take_more_set items place new small)) (told_append first events (take place begin) xs (old ∷ []) (new ∷ []) so_far (there, tt)))

pub others_hear : (first left after : Heard) (place : ℕ) (items : List Stage) (old new : Stage) → place < length items → number_of new ≡ number_of old → ((other : ℕ) → EachStage (λ stage. number_of stage ≡ other → ⊥) (take place items) → heard_by other left ≡ heard_by other first)
    → ((other : ℕ) → (number_of old ≡ other → ⊥) → heard_by other after ≡ heard_by other left)
    → (other : ℕ) → EachStage (λ stage. number_of stage ≡ other → ⊥) (take (place + 1) (set items place new)) → heard_by other after ≡ heard_by other first
others_hear first left after place items old new small same before now other each =
    let r = each_split (λ stage. number_of stage ≡ other → ⊥) (take place items) new (subst (λ (l : List Stage). EachStage (λ stage. number_of stage ≡ other → ⊥) l) (take_more_set items place new small) each) in
    now other (λ e. r.1 (same ∙ e)) ∙ before other r.0

-- ---- a router with one operation more

-- as many as there are numbers
pub live_length : (stages : List Stage) → length (live_in stages) ≡ length stages
live_length [] = refl
live_length (x ∷ stages) = let e = live_length stages in omega (arith, e)

pub length_more : (xs : List Stage) (y : Stage) → length (xs ++ y ∷ []) ≡ length xs + 1
length_more [] y = omega arith
length_more (x ∷ xs) y = let e = length_more xs y in omega (arith, e)

fits_later : (shape : Shape) (begun : ℕ) (stage : Stage) → FitsStage shape begun stage → FitsStage shape (begun + 1) stage
fits_later shape begun (Stage.UnderWay live) f = (let k = f.0 in omega (arith, k), f.1)
fits_later shape begun (Stage.Over operation outcome turn) f = (let k = f.0 in omega (arith, k), f.1)

pub fits_pushed : (shape : Shape) (begun : ℕ) (n : ℕ) (stages : List Stage) (stage : Stage) → n ≤ begun + 1 → number_of stage ≡ begun + 1 → FitsStage shape (begun + 1) stage → FitStages shape begun n stages → FitStages shape (begun + 1) n (stages ++ stage ∷ [])
fits_pushed shape begun n [] stage least same fits f = (fits, omega (arith, least, same), tt)
fits_pushed shape begun n (x ∷ stages) stage least same fits f =
    let m = number_most shape begun x f.0 in
    (fits_later shape begun x f.0, f.1, fits_pushed shape begun (number_of x + 1) stages stage (omega (arith, m)) same fits f.2)

pub pushed_fits : (old : RouterView) (turns : ℕ) (stage : Stage) (stages : List Stage) → Fits old → stages ≡ old.stages ++ stage ∷ [] → length (live_in old.stages) < 16 → old.begun + 1 < 2 ^ 31 → FitsStage old.shape (old.begun + 1) stage → number_of stage ≡ old.begun + 1
    → Fits (record { shape = old.shape; clock = old.clock; events = old.events; begun = old.begun + 1; turns = turns; stages = stages })
pushed_fits old turns stage stages fits is room low one same = record {
  shape = fits.shape;
  number = low;
  few = subst (λ (l : List Stage). length l ≤ 16) (sym is) (let more = length_more old.stages stage in let many = live_length old.stages in let few : length (old.stages ++ stage ∷ []) ≤ 16 = omega (arith, more, many, room) in few);
  stages = subst (λ (l : List Stage). FitStages old.shape (old.begun + 1) 1 l) (sym is) (fits_pushed old.shape old.begun 1 old.stages stage (omega arith) same one fits.stages);
}

-- against the calls: the others rest, the new one settles, and all of them rest
pub ties_begun : (old : RouterView) (items : Record) (stage new : Stage) (told told' : Option (List Called)) (marks : List HistoryMark) → old.begun + 1 < 2 ^ 31 → FitStages old.shape old.begun 1 old.stages → AllSession items → BeginsBeside old items stage
    → number_of stage ≡ old.begun + 1 → number_of new ≡ number_of stage
    → ((beside : Beside) (marks : List HistoryMark) → beside.turns ≡ old.turns + 1 → AreOthers (number_of stage) beside → Ties (At old.shape (λ r. OwnsStage old.shape r stage) old.clock old.events beside) told marks → Ties (At old.shape (λ r. RestsStage old.shape r new) old.clock old.events beside) told' marks)
    → Ties (Stands old) told marks → Ties (Stands (record { shape = old.shape; clock = old.clock; events = old.events; begun = old.begun + 1; turns = old.turns + 1; stages = old.stages ++ new ∷ [] })) told' (marks_of items ++ marks)
ties_begun old items stage new told told' marks low fits session begins same still settles t =
    let n : ℕ = old.begun + 1 in
    let others = below_other old.shape old.begun 1 old.stages low fits in
    let beside : Beside = around n (old.turns + 1) n old.stages [] in
    let next : RouterView = record { shape = old.shape; clock = old.clock; events = old.events; begun = n; turns = old.turns + 1; stages = old.stages ++ new ∷ [] } in
    let begun : Ties (At old.shape (λ r. OwnsStage old.shape r stage) old.clock old.events beside) told (marks_of items ++ marks) =
    tie_items (Stands old) (At old.shape (λ r. OwnsStage old.shape r stage) old.clock old.events beside) items told marks session begins t in
    let apart : AreOthers (number_of stage) beside = subst (λ (k : ℕ). AreOthers k beside) (sym same) (alone_other old.begun old.turns old.stages others) in
    tie_same (At old.shape (λ r. RestsStage old.shape r new) old.clock old.events beside) (Stands next) told' (marks_of items ++ marks) (settles beside (marks_of items ++ marks) refl apart begun)
    (λ r a. unfocus old.shape old.clock old.events n (old.turns + 1) n old.stages [] new r (still ∙ same) a)

-- ---- the numbers of the live operations

pub live_set : (items : List Stage) (place : ℕ) (old new : Stage) → place < length items → IsSplit items place old → number_of new ≡ number_of old → live_in (set items place new) ≡ live_in items
live_set items place old new small split same =
    let next : place + 1 ≡ suc place = omega arith in
    ap live_in (set_split items place new small)
    ∙ (subst (λ (k : ℕ). live_in (take place items ++ new ∷ drop k items) ≡ live_in (take place items ++ old ∷ drop (place + 1) items)) next (replaced (take place items) (drop (place + 1) items)) ∙ sym (ap live_in split.whole))
  where
    replaced : (xs ys : List Stage) → live_in (xs ++ new ∷ ys) ≡ live_in (xs ++ old ∷ ys)
    replaced [] ys = ap (λ (n : ℕ). n ∷ live_in ys) same
    replaced (x ∷ xs) ys = ap (λ (l : List ℕ). number_of x ∷ l) (replaced xs ys)

pub live_added : (stages : List Stage) (stage : Stage) → live_in (stages ++ stage ∷ []) ≡ live_in stages ++ number_of stage ∷ []
live_added [] stage = refl
live_added (x ∷ stages) stage = ap (λ (l : List ℕ). number_of x ∷ l) (live_added stages stage)

pub live_same : (stages others : List Stage) → live_in stages ≡ live_in others → length stages ≡ length others
live_same stages others e = sym (live_length stages) ∙ (ap length e ∙ live_length others)

-- one that is over at once rests
pub ties_over_at_once : (old : RouterView) (items : Record) (operation : ℕ) (outcome : Outcome) (turn : ℕ) (told : Option (List Called)) (marks : List HistoryMark) → operation ≡ old.begun + 1 → AllSession items → BeginsBeside old items (Stage.Over operation outcome turn) → Ties (Stands old) told marks
    → Ties (Stands (with_stage old (Stage.Over operation outcome turn))) told (marks_of items ++ marks)
ties_over_at_once old items operation outcome turn told marks same session begins t =
    tie_items (Stands old) (Stands (with_stage old (Stage.Over operation outcome turn))) items told marks session
    (λ r c. let a = begins r c in unfocus old.shape old.clock old.events (old.begun + 1) (old.turns + 1) (old.begun + 1) old.stages [] (Stage.Over operation outcome turn) (items ++ r) same (a.0, (a.1, tt))) t
