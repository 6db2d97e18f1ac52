-- Counts of numbers, and the oldest item of a list.
use Rattle.std.proofs.Common.{◌≡◌, ℕ, zero, suc, ◌+◌, ◌<◌, Bool, true, false, ◌&&◌, cond, List, [], ◌∷◌, Option, Some, None, refl, ap, ◌∙◌, arith}
use Rattle.quorum_op.specs.Counts.{count_below, oldest, or_else}

pub and_left : (a b : Bool) → (a && b) ≡ true → a ≡ true
and_left true b h = refl
and_left false b h = h

pub and_right : (a b : Bool) → (a && b) ≡ true → b ≡ true
and_right true b h = h
and_right false b h = absurd cc

-- the same test gives the same count
pub count_same : (n : ℕ) (p q : ℕ → Bool) → ((k : ℕ) → k < n → p k ≡ q k) → count_below n p ≡ count_below n q
count_same zero p q h = refl
count_same (suc n) p q h =
    let here : p n ≡ q n = h n (omega arith) in
    let rest : count_below n p ≡ count_below n q = count_same n p q (λ k l. h k (omega arith)) in
    ap (λ (b : Bool). cond b (1 + count_below n p) (count_below n p)) here ∙ ap (λ (m : ℕ). cond (q n) (1 + m) m) rest

-- what is the oldest that passes passes
pub oldest_passes : {A : Type 0} (p : A → Bool) (xs : List A) (x : A) → oldest p xs ≡ Some x → p x ≡ true
oldest_passes p [] x h = absurd cc
oldest_passes {A} p (y ∷ xs) x h = go (oldest_passes p xs x) (oldest p xs) refl h
  where
    last : (b : Bool) → p y ≡ b → cond b (Some y) None ≡ Some x → p x ≡ true
    last true e q = let same : x ≡ y = cc in ap p same ∙ e
    last false e q = absurd cc

    go : (oldest p xs ≡ Some x → p x ≡ true) → (o : Option A) → oldest p xs ≡ o → or_else o (cond (p y) (Some y) None) ≡ Some x → p x ≡ true
    go ih (Some z) e q = ih (e ∙ q)
    go ih None e q = last (p y) refl q
