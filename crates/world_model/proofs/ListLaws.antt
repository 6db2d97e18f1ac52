-- Lists that grow at their head.
use Rattle.std.proofs.Common.{◌≡◌, ℕ, zero, suc, ◌+◌, ◌<◌, ◌≤◌, ◌==◌, ◌⊎◌, Bool, true, false, cond, ◌||◌, List, [], ◌∷◌, ◌++◌, length, Option, Some, None, refl, sym, ap, ◌∙◌, subst, inl, inr, arith, filter, filter_map}
use Rattle.std.specs.List.{cons_option}
use Rattle.quorum_op.specs.Counts.{count_below, oldest, or_else}
use Rattle.world_model.specs.Lists.{Has, Earlier, numbered, Each, At, first_below}

-- what a numbered place holds is in the list
pub numbered_has : {A : Type 0} (xs : List A) (k : ℕ) (x : A) → numbered xs k ≡ Some x → Has xs x
numbered_has [] k x h = absurd cc
numbered_has {A} (y ∷ xs) k x h = go (k == length xs) (numbered_has xs k x) h
  where
    go : (b : Bool) → (numbered xs k ≡ Some x → Has xs x) → cond b (Some y) (numbered xs k) ≡ Some x → Has (y ∷ xs) x
    go true ih e = inl cc
    go false ih e = inr (ih e)

pub earlier_self : {A : Type 0} (xs : List A) → Earlier xs xs
earlier_self [] = refl
earlier_self (x ∷ xs) = inl refl

pub earlier_more : {A : Type 0} (x : A) (older xs : List A) → Earlier older xs → Earlier older (x ∷ xs)
earlier_more x older xs h = inr h

pub earlier_tail : {A : Type 0} (x : A) (older xs : List A) → Earlier (x ∷ older) xs → Earlier older xs
earlier_tail x older [] h = absurd cc
earlier_tail x older (y ∷ xs) h = elim h [
  | inl e ↦ inr (let e' : older ≡ xs = cc in subst (λ o. Earlier o xs) (sym e') (earlier_self xs))
  | inr t ↦ inr (earlier_tail x older xs t)
]

pub earlier_trans : {A : Type 0} (xs ys zs : List A) → Earlier xs ys → Earlier ys zs → Earlier xs zs
earlier_trans xs ys [] h k = subst (λ w. Earlier xs w) k h
earlier_trans xs ys (z ∷ zs) h k = elim k [
  | inl e ↦ subst (λ w. Earlier xs w) e h
  | inr t ↦ inr (earlier_trans xs ys zs h t)
]

-- two earlier states of one list stand in one order
pub earlier_either : {A : Type 0} (xs ys zs : List A) → Earlier xs zs → Earlier ys zs → Earlier xs ys ⊎ Earlier ys xs
earlier_either xs ys [] h k = inl (subst (λ w. Earlier xs w) (sym k) (subst (λ w. Earlier w []) (sym h) refl))
earlier_either xs ys (z ∷ zs) h k = elim h [
  | inl e ↦ inr (subst (λ w. Earlier ys w) (sym e) k)
  | inr t ↦ elim k [
    | inl e ↦ inl (subst (λ w. Earlier xs w) (sym e) (inr t))
    | inr u ↦ earlier_either xs ys zs t u
  ]
]

-- what was in the list is in it
pub has_later : {A : Type 0} (xs ys : List A) (x : A) → Earlier xs ys → Has xs x → Has ys x
has_later xs [] x h k = subst (λ w. Has w x) h k
has_later xs (y ∷ ys) x h k = elim h [
  | inl e ↦ subst (λ w. Has w x) e k
  | inr t ↦ inr (has_later xs ys x t k)
]

-- what stands at the head of an earlier state is in the list
pub head_has : {A : Type 0} (x : A) (older xs : List A) → Earlier (x ∷ older) xs → Has xs x
head_has x older xs h = has_later (x ∷ older) xs x h (inl refl)

-- an element came at some state
pub has_at : {A : Type 0} (xs : List A) (x : A) → Has xs x → (older : List A) × Earlier (x ∷ older) xs
has_at [] x h = absurd h
has_at (y ∷ xs) x h = elim h [
  | inl e ↦ (xs, inl (ap (λ w. w ∷ xs) e))
  | inr t ↦ (let r = has_at xs x t in r.0, inr (has_at xs x t).1)
]

pub each_at : {A : Type 0} (P : A → List A → Type 0) (xs : List A) (x : A) (older : List A) → Each P xs → Earlier (x ∷ older) xs → P x older
each_at P [] x older e h = absurd cc
each_at P (y ∷ xs) x older e h = elim h [
  | inl q ↦ (let a : x ≡ y = cc in let b : older ≡ xs = cc in subst (λ w. P w older) (sym a) (subst (λ w. P y w) (sym b) e.1))
  | inr t ↦ each_at P xs x older e.0 t
]

pub each_earlier : {A : Type 0} (P : A → List A → Type 0) (xs older : List A) → Each P xs → Earlier older xs → Each P older
each_earlier P [] older e h = subst (λ w. Each P w) (sym h) e
each_earlier P (y ∷ xs) older e h = elim h [
  | inl q ↦ subst (λ w. Each P w) (sym q) e
  | inr t ↦ each_earlier P xs older e.0 t
]

-- from a fact at each state, for each element of the list
pub each_from : {A : Type 0} (P : A → List A → Type 0) (xs : List A) → ((x : A) (older : List A) → Earlier (x ∷ older) xs → P x older) → Each P xs
each_from P [] f = tt
each_from P (y ∷ xs) f = (each_from P xs (λ x older h. f x older (inr h)), f y xs (inl refl))

pub has_append : {A : Type 0} (xs ys : List A) (x : A) → Has (xs ++ ys) x → Has xs x ⊎ Has ys x
has_append [] ys x h = inr h
has_append (y ∷ xs) ys x h = elim h [
  | inl e ↦ inl (inl e)
  | inr t ↦ elim (has_append xs ys x t) [ inl a ↦ inl (inr a) | inr b ↦ inr b ]
]

pub has_left : {A : Type 0} (xs ys : List A) (x : A) → Has xs x → Has (xs ++ ys) x
has_left [] ys x h = absurd h
has_left (y ∷ xs) ys x h = elim h [ inl e ↦ inl e | inr t ↦ inr (has_left xs ys x t) ]

pub has_right : {A : Type 0} (xs ys : List A) (x : A) → Has ys x → Has (xs ++ ys) x
has_right [] ys x h = h
has_right (y ∷ xs) ys x h = inr (has_right xs ys x h)

pub has_filter : {A : Type 0} (p : A → Bool) (xs : List A) (x : A) → Has (filter p xs) x → Has xs x × (p x ≡ true)
has_filter p [] x h = absurd h
has_filter p (y ∷ xs) x h = go (p y) refl (has_filter p xs x) h
  where
    go : (b : Bool) → p y ≡ b → (Has (filter p xs) x → Has xs x × (p x ≡ true)) → Has (cond b (y ∷ filter p xs) (filter p xs)) x → Has (y ∷ xs) x × (p x ≡ true)
    go true e ih k = elim k [
      | inl q ↦ (inl q, ap p q ∙ e)
      | inr t ↦ (let r = ih t in (inr r.0, r.1))
    ]
    go false e ih k = let r = ih k in (inr r.0, r.1)

pub has_filter_map : {A B : Type 0} (f : A → Option B) (xs : List A) (y : B) → Has (filter_map f xs) y → (x : A) × Has xs x × (f x ≡ Some y)
has_filter_map f [] y h = absurd h
has_filter_map {A} {B} f (z ∷ xs) y h = go (f z) refl (has_filter_map f xs y) h
  where
    go : (o : Option B) → f z ≡ o → (Has (filter_map f xs) y → (x : A) × Has xs x × (f x ≡ Some y)) → Has (cons_option o (filter_map f xs)) y → (x : A) × Has (z ∷ xs) x × (f x ≡ Some y)
    go None e ih k = let r = ih k in (r.0, inr r.1, r.2)
    go (Some w) e ih k = elim k [
      | inl q ↦ (z, inl refl, e ∙ ap Some (sym q))
      | inr t ↦ (let r = ih t in (r.0, inr r.1, r.2))
    ]

-- two sets of numbers below n that are together more than n share one
pub count_overlap : (n : ℕ) (p q : ℕ → Bool) → n < count_below n p + count_below n q → (k : ℕ) × (k < n) × (p k ≡ true) × (q k ≡ true)
count_overlap zero p q h = absurd (omega arith)
count_overlap (suc n) p q h = go (λ l. let r = count_overlap n p q l in (r.0, omega (arith, r.1), r.2, r.3)) (p n) (q n) refl refl h
  where
    go : (n < count_below n p + count_below n q → (k : ℕ) × (k < suc n) × (p k ≡ true) × (q k ≡ true)) → (a b : Bool) → p n ≡ a → q n ≡ b → suc n < cond a (1 + count_below n p) (count_below n p) + cond b (1 + count_below n q) (count_below n q)
        → (k : ℕ) × (k < suc n) × (p k ≡ true) × (q k ≡ true)
    go down true true e f l = (n, omega arith, e, f)
    go down true false e f l = down (omega arith)
    go down false true e f l = down (omega arith)
    go down false false e f l = down (omega arith)

-- more pass a weaker test
pub count_more : (n : ℕ) (p q : ℕ → Bool) → ((k : ℕ) → p k ≡ true → q k ≡ true) → count_below n p ≤ count_below n q
count_more zero p q h = omega arith
count_more (suc n) p q h = go (count_more n p q h) (p n) (q n) refl refl
  where
    go : count_below n p ≤ count_below n q → (a b : Bool) → p n ≡ a → q n ≡ b → cond a (1 + count_below n p) (count_below n p) ≤ cond b (1 + count_below n q) (count_below n q)
    go rest true true e f = omega arith
    go rest true false e f = absurd (cc (h n e))
    go rest false true e f = omega arith
    go rest false false e f = rest

-- where some pass, one does
pub count_some : (n : ℕ) (p : ℕ → Bool) → 0 < count_below n p → (k : ℕ) × (k < n) × (p k ≡ true)
count_some zero p h = absurd (omega arith)
count_some (suc n) p h = go (count_some n p) (p n) refl h
  where
    go : (0 < count_below n p → (k : ℕ) × (k < n) × (p k ≡ true)) → (a : Bool) → p n ≡ a → 0 < cond a (1 + count_below n p) (count_below n p) → (k : ℕ) × (k < suc n) × (p k ≡ true)
    go ih true e l = (n, omega arith, e)
    go ih false e l = let r = ih l in (r.0, omega (arith, r.1), r.2)

-- a union counts at most the sum
pub count_union : (n : ℕ) (p q : ℕ → Bool) → count_below n (λ k. p k || q k) ≤ count_below n p + count_below n q
count_union zero p q = omega arith
count_union (suc n) p q = go (count_union n p q) (p n) (q n)
  where
    go : count_below n (λ k. p k || q k) ≤ count_below n p + count_below n q → (a b : Bool) → cond (a || b) (1 + count_below n (λ k. p k || q k)) (count_below n (λ k. p k || q k)) ≤ cond a (1 + count_below n p) (count_below n p) + cond b (1 + count_below n q) (count_below n q)
    go rest true true = omega arith
    go rest true false = omega arith
    go rest false true = omega arith
    go rest false false = rest

pub first_below_passes : (n : ℕ) (p : ℕ → Bool) (k : ℕ) → first_below n p ≡ Some k → p k ≡ true
first_below_passes zero p k h = absurd cc
first_below_passes (suc n) p k h = go (first_below_passes n p k) (first_below n p) refl h
  where
    last : (b : Bool) → p n ≡ b → cond b (Some n) None ≡ Some k → p k ≡ true
    last true e q = let same : n ≡ k = cc in ap p (sym same) ∙ e
    last false e q = absurd cc

    go : (first_below n p ≡ Some k → p k ≡ true) → (o : Option ℕ) → first_below n p ≡ o → or_else o (cond (p n) (Some n) None) ≡ Some k → p k ≡ true
    go ih (Some j) e q = ih (e ∙ q)
    go ih None e q = last (p n) refl q

pub oldest_has : {A : Type 0} (p : A → Bool) (xs : List A) (x : A) → oldest p xs ≡ Some x → Has xs x × (p x ≡ true)
oldest_has p [] x h = absurd cc
oldest_has {A} p (y ∷ xs) x h = go (oldest_has p xs x) (oldest p xs) refl h
  where
    last : (b : Bool) → p y ≡ b → cond b (Some y) None ≡ Some x → Has (y ∷ xs) x × (p x ≡ true)
    last true e q = let same : x ≡ y = cc in (inl same, ap p same ∙ e)
    last false e q = absurd cc

    go : (oldest p xs ≡ Some x → Has xs x × (p x ≡ true)) → (o : Option A) → oldest p xs ≡ o → or_else o (cond (p y) (Some y) None) ≡ Some x → Has (y ∷ xs) x × (p x ≡ true)
    go ih (Some z) e q = let r = ih (e ∙ q) in (inr r.0, r.1)
    go ih None e q = last (p y) refl q

-- what stands at a place is in the list
pub at_has : {A : Type 0} (xs : List A) (k : ℕ) (x : A) → At xs k x → Has xs x
at_has [] k x h = absurd h
at_has (y ∷ ys) zero x h = inl h
at_has (y ∷ ys) (suc k) x h = inr (at_has ys k x h)

-- what is in the list stands at some place
pub has_place : {A : Type 0} (xs : List A) (x : A) → Has xs x → (k : ℕ) × At xs k x
has_place [] x h = absurd h
has_place (y ∷ ys) x h = elim h [
  | inl e ↦ (0, e)
  | inr t ↦ (let r = has_place ys x t in (suc r.0, r.1))
]
