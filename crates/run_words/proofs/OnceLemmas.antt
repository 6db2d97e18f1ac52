-- Options that are given once.
use Rattle.std.proofs.Common.{◌≡◌, ◌∙◌, Bool, true, false, cond, Option, Some, None, List, [], ◌∷◌, ◌++◌, refl, sym, ap, true≢false, option_map, find}
use Rattle.std.specs.Option.{option_or}
use Rattle.std.proofs.lemmas.List.Folds.{find-append}
use Rattle.std.proofs.lemmas.Slice.Eq.{bytes_eq-Decides}
use Rattle.run_words.specs.declared.options.Name.{Name}
use Rattle.run_words.specs.declared.options.Given.{Given}
use Rattle.run_words.specs.Options.{text_of, is_same, value_for, AreOnce}

same_back : (a b : Name) → is_same a b ≡ true → is_same b a ≡ true
same_back a b e = (bytes_eq-Decides (text_of b) (text_of a)).1 (sym ((bytes_eq-Decides (text_of a) (text_of b)).0 e))

-- the option that is found for a name
abbrev found_for : List Given → Name → Option Given
found_for options name = find (λ given. is_same given.name name) options

unmapped : (found : Option Given) → option_map (λ given. given.value) found ≡ None → found ≡ None
unmapped None e = refl
unmapped (Some given) e = absurd cc

unchosen : (test : Bool) (given : Given) (more : Option Given) → cond test (Some given) more ≡ None → (test ≡ false) × (more ≡ None)
unchosen true given more e = absurd cc
unchosen false given more e = (refl, e)

-- no option of the name behind others, where there is none in all
no_back : (first more : Option Given) → option_or first more ≡ None → more ≡ None
no_back None more e = e
no_back (Some given) more e = absurd cc

-- where options with this one among them give nothing for a name, the name is another
other_name : (before rest : List Given) (given : Given) (name : Name) → value_for (before ++ given ∷ rest) name ≡ None → is_same given.name name ≡ false
other_name before rest given name e =
    let none = sym (find-append (λ g. is_same g.name name) before (given ∷ rest)) ∙ unmapped (found_for (before ++ given ∷ rest) name) e in
    (unchosen (is_same given.name name) given (found_for rest name) (no_back (found_for before name) (found_for (given ∷ rest) name) none)).0

not_same : (a b : Name) → is_same a b ≡ false → is_same b a ≡ false
not_same a b e = go (is_same b a) refl
  where
    go : (test : Bool) → is_same b a ≡ test → is_same b a ≡ false
    go true same = absurd (true≢false (sym (same_back b a same) ∙ e))
    go false same = same

-- among options that are given once, those in front give nothing for the name of a later one
pub once_before : (before rest : List Given) (given : Given) → AreOnce (before ++ given ∷ rest) → value_for before given.name ≡ None
once_before [] rest given once = refl
once_before (first ∷ before) rest given once =
    let other = not_same given.name first.name (other_name before rest given first.name once.0) in
    rw other (once_before before rest given once.1)

-- one more option, for whose name nothing is given
pub once_more : (before : List Given) (given : Given) → AreOnce before → value_for before given.name ≡ None → AreOnce (before ++ given ∷ [])
once_more [] given once none = (refl, tt)
once_more (first ∷ before) given once none =
    let parts = unchosen (is_same first.name given.name) first (found_for before given.name) (unmapped (found_for (first ∷ before) given.name) none) in
    let other : is_same given.name first.name ≡ false = not_same first.name given.name parts.0 in
    let front : found_for before first.name ≡ None = unmapped (found_for before first.name) once.0 in
    let both : found_for (before ++ given ∷ []) first.name ≡ None = find-append (λ g. is_same g.name first.name) before (given ∷ []) ∙ rw (front, other) refl in
    (ap (option_map (λ (g : Given). g.value)) both, once_more before given once.1 (ap (option_map (λ (g : Given). g.value)) parts.1))
