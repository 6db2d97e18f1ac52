-- Lists that have the newest item first, and places in lists that are read from the front.
use Rattle.std.specs.Prelude.{◌≡◌, ℕ, zero, suc, ◌==◌, Bool, cond, ◌⊎◌, List, [], ◌∷◌, length, Option, Some, None}
use Rattle.quorum_op.specs.Counts.{or_else}

-- x is in the list
abbrev pub Has : {A : Type 0} → List A → A → Type 0
Has [] x = ⊥
Has (y ∷ before) x = (x ≡ y) ⊎ Has before x

-- the list was once `older`
abbrev pub Earlier : {A : Type 0} → List A → List A → Type 0
Earlier older [] = older ≡ []
Earlier older (y ∷ before) = (older ≡ y ∷ before) ⊎ Earlier older before

-- the item that came as number k, from 0
abbrev pub numbered : {A : Type 0} → List A → ℕ → Option A
numbered [] k = None
numbered (x ∷ before) k = cond (k == length before) (Some x) (numbered before k)

-- P holds of each item and what was before it
abbrev pub Each : {A : Type 0} → (A → List A → Type 0) → List A → Type 0
Each P [] = Unit {0}
Each P (x ∷ before) = Each P before × P x before

-- x stands at place k, from the front
abbrev pub At : {A : Type 0} → List A → ℕ → A → Type 0
At [] k x = ⊥
At (y ∷ ys) zero x = x ≡ y
At (y ∷ ys) (suc k) x = At ys k x

-- the least of the numbers below n that passes
abbrev pub first_below : ℕ → (ℕ → Bool) → Option ℕ
first_below zero p = None
first_below (suc n) p = or_else (first_below n p) (cond (p n) (Some n) None)
