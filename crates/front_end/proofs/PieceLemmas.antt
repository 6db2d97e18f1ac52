-- Texts that begin with others, and lines of pieces.
use Rattle.std.proofs.Common.{◌≡◌, ◌∙◌, ℕ, List, [], ◌∷◌, ◌++◌, length, take, refl, sym, ap, append_assoc}

pub begins_with_itself : (a : List ℕ) → take (length a) a ≡ a
begins_with_itself [] = refl
begins_with_itself (x ∷ a) = ap (λ (l : List ℕ). x ∷ l) (begins_with_itself a)

pub begins_with_front : (a b : List ℕ) → take (length a) (a ++ b) ≡ a
begins_with_front [] b = refl
begins_with_front (x ∷ a) b = ap (λ (l : List ℕ). x ∷ l) (begins_with_front a b)

flat : (r a s b w e : List ℕ) → r ++ a ++ s ++ b ++ s ++ w ++ e ≡ r ++ (a ++ (s ++ (b ++ (s ++ (w ++ e)))))
flat r a s b w e =
    append_assoc (r ++ a ++ s ++ b ++ s) w e
    ∙ append_assoc (r ++ a ++ s ++ b) s (w ++ e)
    ∙ append_assoc (r ++ a ++ s) b (s ++ (w ++ e))
    ∙ append_assoc (r ++ a) s (b ++ (s ++ (w ++ e)))
    ∙ append_assoc r a (s ++ (b ++ (s ++ (w ++ e))))

-- a line of pieces, of which the last two are said otherwise
pub pieces_flat : (r a s b what last w e : List ℕ) → what ++ last ≡ s ++ w → r ++ (a ++ (s ++ (b ++ (what ++ (last ++ e))))) ≡ r ++ a ++ s ++ b ++ s ++ w ++ e
pieces_flat r a s b what last w e same =
    ap (λ (t : List ℕ). r ++ (a ++ (s ++ (b ++ t)))) (sym (append_assoc what last e) ∙ ap (λ (t : List ℕ). t ++ e) same ∙ append_assoc s w e)
    ∙ sym (flat r a s b w e)
