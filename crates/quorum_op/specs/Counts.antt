-- Numbers below a bound, and lists that have the newest item first.
use Rattle.std.specs.Prelude.{ℕ, zero, suc, ◌+◌, Bool, cond, List, [], ◌∷◌, Option, Some, None}

-- how many of the numbers below n pass
abbrev pub count_below : ℕ → (ℕ → Bool) → ℕ
count_below zero p = 0
count_below (suc n) p = cond (p n) (1 + count_below n p) (count_below n p)

abbrev pub or_else : {A : Type 0} → Option A → Option A → Option A
or_else (Some x) other = Some x
or_else None other = other

-- the oldest that passes
abbrev pub oldest : {A : Type 0} → (A → Bool) → List A → Option A
oldest p [] = None
oldest p (x ∷ before) = or_else (oldest p before) (cond (p x) (Some x) None)
