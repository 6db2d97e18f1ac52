-- The first word of an option: what is read is what the word spells, and the other way round.
use Rattle.std.proofs.Common.{◌≡◌, ◌∙◌, ◌⊎◌, inl, inr, ℕ, suc, ◌+◌, ◌-◌, ◌≤◌, ◌&&◌, nat_eq, Bool, true, false, cond, Option, Some, None, List, [], ◌∷◌, ◌++◌, take, drop, refl, sym, ap, ap₂, subst, arith}
use Rattle.std.specs.List.{position_from}
use Rattle.std.specs.Str.{bytes_eq}
use Rattle.std.proofs.lemmas.Slice.Eq.{bytes_eq-Decides}
use Rattle.std.proofs.lemmas.Bool.Decides.{nat_tests}
use Rattle.run_words.specs.declared.options.Name.{Name}
use Rattle.run_words.specs.declared.options.Name.TheVariants.{Nodes, Replicas, Partitions, Put, Get, Delete, Segment, Segments, Index, Ids, Folder, Seed}
use Rattle.run_words.specs.Options.{text_of, option_word, joined_word}
use Rattle.run_words.specs.Pathnames.{Text}
use Rattle.run_words.specs.Reading.{and_then, name_at, body_of, is_equals, name_part, value_part, word_at}
use Rattle.run_words.proofs.NumberLemmas.{both}

pub chosen : {A : Type 0} (test : Bool) (x y z : A) → cond test x y ≡ z → ((test ≡ true) × (x ≡ z)) ⊎ ((test ≡ false) × (y ≡ z))
chosen true x y z e = inl (refl, e)
chosen false x y z e = inr (refl, e)

pub then_some : {A B : Type 0} (first : Option A) (next : A → Option B) (y : B) → and_then first next ≡ Some y → (x : A) × (first ≡ Some x) × (next x ≡ Some y)
then_some (Some x) next y e = (x, refl, e)
then_some None next y e = absurd cc

pub some_is : {A : Type 0} (x y : A) → Some x ≡ Some y → x ≡ y
some_is x y e = cc

pub pair_is : {A B : Type 0} (x y : A × B) → Some x ≡ Some y → (x.0 ≡ y.0) × (x.1 ≡ y.1)
pair_is x y e = (ap (λ p. p.0) (some_is x y e), ap (λ p. p.1) (some_is x y e))

same_text : (xs ys : List ℕ) → bytes_eq xs ys ≡ true → xs ≡ ys
same_text xs ys = (bytes_eq-Decides xs ys).0

-- a chain of names, one link: the text is that name's, or the rest of the chain reads it
link : (text : Text) (name other : Name) (rest : Option Name) → (rest ≡ Some name → text ≡ text_of name)
    → cond (bytes_eq text (text_of other)) (Some other) rest ≡ Some name → text ≡ text_of name
link text name other rest more e = elim (chosen (bytes_eq text (text_of other)) (Some other) rest (Some name) e) [
  | inl p ↦
      let is : other ≡ name = cc in
      same_text text (text_of other) p.0 ∙ ap text_of is
  | inr p ↦ more p.1
]

name_takes : (text : Text) (name : Name) → name_at text ≡ Some name → text ≡ text_of name
name_takes text name =
    link text name Nodes _ (link text name Replicas _ (link text name Partitions _ (link text name Put _ (link text name Get _
    (link text name Delete _ (link text name Segment _ (link text name Segments _ (link text name Index _ (link text name Ids _
    (link text name Folder _ (link text name Seed _ (λ e. absurd cc))))))))))))

body_takes : (word body : Text) → body_of word ≡ Some body → word ≡ 45 ∷ 45 ∷ body
body_takes [] body e = absurd cc
body_takes (a ∷ []) body e = absurd cc
body_takes (a ∷ b ∷ rest) body e = elim (chosen (nat_eq a 45 && nat_eq b 45) (Some rest) None (Some body) e) [
  | inl p ↦
      let q = both (nat_eq a 45) (nat_eq b 45) p.0 in
      let first : a ≡ 45 = grind (arith, nat_tests) in
      let second : b ≡ 45 = grind (arith, nat_tests) in
      let is : rest ≡ body = cc in
      rw (first, second, is) refl
  | inr p ↦ absurd cc
]

no_value : (body : Text) → value_part body ≡ None → name_part body ≡ body
no_value [] e = refl
no_value (byte ∷ body) e = elim (chosen (is_equals byte) (Some body) (value_part body) None e) [
  | inl p ↦ absurd cc
  | inr p ↦ rw p.0 (ap (λ (more : Text). byte ∷ more) (no_value body p.1))
]

has_value : (body value : Text) → value_part body ≡ Some value → body ≡ name_part body ++ 61 ∷ value
has_value [] value e = absurd cc
has_value (byte ∷ body) value e = elim (chosen (is_equals byte) (Some body) (value_part body) (Some value) e) [
  | inl p ↦
      let equals : byte ≡ 61 = grind (arith, nat_tests) in
      let is : body ≡ value = cc in
      rw p.0 (ap₂ (λ (b : ℕ) (more : Text). b ∷ more) equals is)
  | inr p ↦ rw p.0 (ap (λ (more : Text). byte ∷ more) (has_value body value p.1))
]

-- the word of an option, with its value or without
abbrev pub spelled_word : Name → Option Text → Text
spelled_word name None = option_word name
spelled_word name (Some value) = joined_word name value

spelled : (body : Text) (name : Name) (value : Option Text) → name_part body ≡ text_of name → value_part body ≡ value
    → 45 ∷ 45 ∷ body ≡ spelled_word name value
spelled body name None is none = ap (λ (text : Text). 45 ∷ 45 ∷ text) (sym (no_value body none) ∙ is)
spelled body name (Some value) is some = ap (λ (text : Text). 45 ∷ 45 ∷ text) (has_value body value some ∙ ap (λ (text : Text). text ++ 61 ∷ value) is)

pub word_takes : (word : Text) (name : Name) (value : Option Text) → word_at word ≡ Some (name, value) → word ≡ spelled_word name value
word_takes word name value e =
    let body = then_some (body_of word) (λ body. and_then (name_at (name_part body)) (λ name. Some (name, value_part body))) (name, value) e in
    let named = then_some (name_at (name_part body.0)) (λ name. Some (name, value_part body.0)) (name, value) body.2 in
    let same = pair_is (named.0, value_part body.0) (name, value) named.2 in
    body_takes word body.0 body.1 ∙ spelled body.0 name value (name_takes (name_part body.0) named.0 named.1 ∙ ap text_of same.0) same.1

pub plain_again : (name : Name) → word_at (option_word name) ≡ Some (name, None)
plain_again Nodes = refl
plain_again Replicas = refl
plain_again Partitions = refl
plain_again Put = refl
plain_again Get = refl
plain_again Delete = refl
plain_again Segment = refl
plain_again Segments = refl
plain_again Index = refl
plain_again Ids = refl
plain_again Folder = refl
plain_again Seed = refl

pub joined_again : (name : Name) (value : Text) → word_at (joined_word name value) ≡ Some (name, Some value)
joined_again Nodes value = refl
joined_again Replicas value = refl
joined_again Partitions value = refl
joined_again Put value = refl
joined_again Get value = refl
joined_again Delete value = refl
joined_again Segment value = refl
joined_again Segments value = refl
joined_again Index value = refl
joined_again Ids value = refl
joined_again Folder value = refl
joined_again Seed value = refl

-- the place of the first `=`, counted from i, divides the body
cut_at : (body : Text) (i place : ℕ) → position_from is_equals i body ≡ Some place
    → (i ≤ place) × (take (place - i) body ≡ name_part body) × (Some (drop (place - i + 1) body) ≡ value_part body)
cut_at [] i place e = absurd cc
cut_at (byte ∷ body) i place e = elim (chosen (is_equals byte) (Some i) (position_from is_equals (i + 1) body) (Some place) e) [
  | inl p ↦
      let is : i ≡ place = cc in
      let none : place - i ≡ 0 = omega (arith, is) in
      rw (p.0, none) (omega (arith, is), refl, refl)
  | inr p ↦
      let more = cut_at body (i + 1) place p.1 in
      let some : place - i ≡ suc (place - (i + 1)) = omega (arith, more.0) in
      let behind : place - i + 1 ≡ suc (place - (i + 1) + 1) = omega (arith, more.0) in
      rw (p.0, behind, some) (omega (arith, more.0), ap (λ (text : Text). byte ∷ text) more.1, more.2)
]

pub cut_first : (body : Text) (place : ℕ) → position_from is_equals 0 body ≡ Some place
    → (take place body ≡ name_part body) × (Some (drop (place + 1) body) ≡ value_part body)
cut_first body place e =
    let same : place - 0 ≡ place = omega arith in
    let cut = cut_at body 0 place e in
    subst (λ (n : ℕ). (take n body ≡ name_part body) × (Some (drop (n + 1) body) ≡ value_part body)) same (cut.1, cut.2)

-- where there is no `=`, the body is the name
pub uncut : (body : Text) (i : ℕ) → position_from is_equals i body ≡ None → (body ≡ name_part body) × (None ≡ value_part body)
uncut [] i e = (refl, refl)
uncut (byte ∷ body) i e = elim (chosen (is_equals byte) (Some i) (position_from is_equals (i + 1) body) None e) [
  | inl p ↦ absurd cc
  | inr p ↦
      let more = uncut body (i + 1) p.1 in
      rw p.0 (ap (λ (text : Text). byte ∷ text) more.0, more.1)
]
