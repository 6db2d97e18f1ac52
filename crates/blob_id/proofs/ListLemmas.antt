-- What filters keep.
use Rattle.std.proofs.Common.{◌≡◌, ℕ, ◌≤◌, Bool, true, false, cond, List, [], ◌∷◌, length, refl, sym, ap, ◌∙◌, arith}
use Rattle.std.proofs.lemmas.Bool.{cond-true, cond-false}
use Rattle.std.proofs.lemmas.List.Sums.{length-filter, count_by-le-length}
use Rattle.std.specs.List.{filter}

-- of two filters either may come first
pub filter_swap : {A : Type 0} (p q : A → Bool) (xs : List A) → filter p (filter q xs) ≡ filter q (filter p xs)
filter_swap p q [] = refl
filter_swap {A} p q (x ∷ xs) = go (p x) (q x) refl refl (filter_swap p q xs)
  where
    go : (b c : Bool) → p x ≡ b → q x ≡ c → filter p (filter q xs) ≡ filter q (filter p xs) → filter p (cond c (x ∷ filter q xs) (filter q xs)) ≡ filter q (cond b (x ∷ filter p xs) (filter p xs))
    go true true p-is q-is rest = cond-true (p x) _ _ p-is ∙ ap (λ (l : List A). x ∷ l) rest ∙ sym (cond-true (q x) _ _ q-is)
    go true false p-is q-is rest = rest ∙ sym (cond-false (q x) _ _ q-is)
    go false true p-is q-is rest = cond-false (p x) _ _ p-is ∙ rest
    go false false p-is q-is rest = rest

pub length-filtered : {A : Type 0} (test : A → Bool) (xs : List A) → length (filter test xs) ≤ length xs
length-filtered test xs = omega (arith, length-filter test xs, count_by-le-length test xs)
