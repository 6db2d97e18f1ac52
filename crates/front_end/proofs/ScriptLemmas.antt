-- How the words of a line are told apart.
use Rattle.std.proofs.Common.{◌≡◌, ℕ, ◌≤◌, None, List, [], ◌∷◌, length, map, refl, arith}
use Rattle.front_end.specs.declared.tags.Tag.{Tag}
use Rattle.front_end.specs.Script.{operation_of}

-- five words or more are no line
pub five_words : {A : Type 0} (f : A → List ℕ) (tags : List Tag) (word : List ℕ) (rest : List A) → 4 ≤ length rest → None ≡ operation_of tags word (map f rest)
five_words f tags word [] many = absurd (omega arith)
five_words f tags word (a ∷ []) many = absurd (omega arith)
five_words f tags word (a ∷ b ∷ []) many = absurd (omega arith)
five_words f tags word (a ∷ b ∷ c ∷ []) many = absurd (omega arith)
five_words f tags word (a ∷ b ∷ c ∷ d ∷ rest) many = refl
