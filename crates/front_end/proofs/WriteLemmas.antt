-- What is written, piece after piece.
use Rattle.std.proofs.Common.{ℕ, List, [], ◌++◌, Option, None, Some, sym, ap, ◌∙◌, append_assoc}
use Rattle.std.proofs.lemmas.List.{append-nil}
use Rattle.std.specs.Io.KnownBytes.{Appends}

pub appends_both : (o n m : Option (List ℕ)) (a b : List ℕ) → Appends o n a → Appends n m b → Appends o m (a ++ b)
appends_both None n m a b p q = tt
appends_both (Some x) None m a b p q = absurd p
appends_both (Some x) (Some y) None a b p q = absurd q
appends_both (Some x) (Some y) (Some z) a b p q = q ∙ ap (λ (t : List ℕ). t ++ b) p ∙ append_assoc x a b

pub appends_nothing : (o : Option (List ℕ)) → Appends o o []
appends_nothing None = tt
appends_nothing (Some x) = sym (append-nil x)
