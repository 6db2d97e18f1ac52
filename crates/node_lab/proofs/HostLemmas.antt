-- Whether a replica of a partition stands on a node.
use Rattle.std.proofs.Common.{◌≡◌, ℕ, zero, suc, ◌<◌, arith, Bool, true, false, Option, Some, None, inl, inr, refl, ap, subst}
use Rattle.std.specs.Option.{is_some}
use Rattle.std.proofs.lemmas.Bool.{cases_lt}
use Rattle.world_model.specs.Lists.{first_below}

-- what one number below n passes, some number below n does first
pub found_below : (p : ℕ → Bool) (n k : ℕ) → k < n → p k ≡ true → true ≡ is_some (first_below n p)
found_below p zero k l e = absurd (omega arith)
found_below p (suc n) k l e = go (λ less. found_below p n k less e) (first_below n p) refl (p n) refl
  where
    go : (k < n → true ≡ is_some (first_below n p)) → (o : Option ℕ) → first_below n p ≡ o → (b : Bool) → p n ≡ b → true ≡ is_some (first_below (suc n) p)
    go ih (Some x) is b last = rw is refl
    go ih None is true last = rw (is, last) refl
    go ih None is false last = elim (cases_lt k n) [
      | inl less ↦ absurd (let found : true ≡ is_some (first_below n p) = ih less in let none : is_some (first_below n p) ≡ false = ap is_some is in cc)
      | inr more ↦ absurd (let same : k ≡ n = omega arith in let passes : p n ≡ true = subst (λ i. p i ≡ true) same e in cc)
    ]
