-- Texts that begin with others, and lines of pieces.
use Rattle.std.proofs.Common.{◌≡◌, ℕ, List, [], ◌∷◌, ◌++◌, length, take, refl, ap}

pub begins_with_itself : (a : List ℕ) → take (length a) a ≡ a
begins_with_itself [] = refl
begins_with_itself (x ∷ a) = ap (λ (l : List ℕ). x ∷ l) (begins_with_itself a)

pub begins_with_front : (a b : List ℕ) → take (length a) (a ++ b) ≡ a
begins_with_front [] b = refl
begins_with_front (x ∷ a) b = ap (λ (l : List ℕ). x ∷ l) (begins_with_front a b)
