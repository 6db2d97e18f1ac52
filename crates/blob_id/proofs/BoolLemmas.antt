-- Choices by a test. Each other fact of tests and orders is std's: and_parts, or_parts, lt-ltb, eq-eqb, ne_eqb, leb-false.
use Rattle.std.proofs.Common.{◌≡◌, ◌⊎◌, inl, inr, Bool, true, false, cond, refl}

-- which of the two was chosen
pub cond_cases : {A : Type 0} (test : Bool) (x y z : A) → cond test x y ≡ z → ((test ≡ true) × (x ≡ z)) ⊎ ((test ≡ false) × (y ≡ z))
cond_cases true x y z chosen = inl (refl, chosen)
cond_cases false x y z chosen = inr (refl, chosen)

-- a choice between a value and itself
pub cond_alike : {A : Type 0} (test : Bool) (x : A) → cond test x x ≡ x
cond_alike true x = refl
cond_alike false x = refl
