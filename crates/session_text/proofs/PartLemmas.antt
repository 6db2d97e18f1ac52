-- What the parts of a line are read as is what their words spell, and the other way round.
use Rattle.std.proofs.Common.{◌≡◌, ◌∙◌, inl, inr, ℕ, ◌+◌, ◌≤◌, ◌||◌, nat_le, Bool, true, false, cond, codes, Option, Some, None, Result, Ok, Err, List, [], ◌∷◌, ◌++◌, length, drop, refl, sym, ap, ap₂, subst, arith, true≢false}
use Rattle.std.specs.Str.{bytes_eq}
use Rattle.std.proofs.lemmas.Bool.Decides.{nat_tests}
use Rattle.run_words.proofs.NumberLemmas.{number_takes, number_again}
use Rattle.session_text.specs.declared.fault.LineFault.{LineFault}
use Rattle.session_text.specs.declared.fault.LineFault.TheVariants as fault
use Rattle.session_text.specs.declared.fault.Wanted.TheVariants as wanted
use Rattle.session_text.specs.declared.command.BlobSource.{BlobSource}
use Rattle.session_text.specs.declared.command.BlobSource.TheVariants as source
use Rattle.session_text.specs.Texts.{is_numeral, IsNumeral, number_at, is_type, bytes_of_digits}
use Rattle.session_text.specs.Spelling.{SpellsSource, SpellsType, SpellsMetadata, SpellsRange, SpellsFile}
use Rattle.session_text.specs.Reading.{◌>>=◌, read_at, has_word, behind_option, metadata_of, file_name_of, type_of, source_in, type_option, metadata_option, file_option, range_in, behind_range}
use Rattle.session_text.proofs.ChoiceLemmas.{chosen, same_text}
use Rattle.session_text.proofs.PlaceLemmas.{done, done_is, bind_ok, none_behind, two_behind, rest_behind, rest_behind_two, few_words, read_at_again, read_at_first, has_word_takes, has_word_is, has_no_word, option_takes, option_again}
use Rattle.session_text.proofs.WordLemmas.{hex_takes, hex_again, metadata_takes, metadata_again, file_name_takes, file_name_again, type_takes, type_again}

-- ---- the source of a put

pub source_takes : (words : List (List ℕ)) (place : ℕ) (s : BlobSource) → source_in words place ≡ Ok s → (from : List (List ℕ)) × (drop place words ≡ from ++ drop (place + 2) words) × SpellsSource s from
unfolding source_in
source_takes words place s e = elim (chosen (has_word words place (codes "hex")) lined other (Ok s) e) [
  | inl p ↦
      let b = read_at_first bytes_of_digits wanted.Digits words (place + 1) (λ bytes. Ok (source.Line bytes)) s p.1 in
      let is : source.Line b.0 ≡ s = done_is (source.Line b.0) s b.4 in (
        codes "hex" ∷ b.1 ∷ [],
        two_behind words place (codes "hex") b.1 (has_word_takes words place (codes "hex") p.0) b.2,
        subst (λ (x : BlobSource). SpellsSource x (codes "hex" ∷ b.1 ∷ [])) is (b.1, refl, hex_takes b.1 b.0 b.3),
      )
  | inr p ↦ elim (chosen (has_word words place (codes "file")) named none (Ok s) p.1) [
    | inl q ↦
        let b = read_at_first file_name_of wanted.FileName words (place + 1) (λ file. Ok (source.File file)) s q.1 in
        let is : source.File b.0 ≡ s = done_is (source.File b.0) s b.4 in
        let f = file_name_takes b.1 b.0 b.3 in (
          codes "file" ∷ b.1 ∷ [],
          two_behind words place (codes "file") b.1 (has_word_takes words place (codes "file") q.0) b.2,
          subst (λ (x : BlobSource). SpellsSource x (codes "file" ∷ b.1 ∷ [])) is (ap (λ (w : List ℕ). codes "file" ∷ w ∷ []) f.0, f.1),
        )
    | inr q ↦ absurd cc
  ]
]
  where
    lined : Result BlobSource LineFault
    lined = read_at bytes_of_digits wanted.Digits words (place + 1) >>= λ bytes. Ok (source.Line bytes)

    named : Result BlobSource LineFault
    named = read_at file_name_of wanted.FileName words (place + 1) >>= λ file. Ok (source.File file)

    none : Result BlobSource LineFault
    none = Err (fault.Word place wanted.SourceForm)

    other : Result BlobSource LineFault
    other = cond (has_word words place (codes "file")) named none

pub source_again : (words : List (List ℕ)) (place : ℕ) (s : BlobSource) (from rest : List (List ℕ)) → drop place words ≡ from ++ rest → SpellsSource s from
    → (source_in words place ≡ Ok s) × (drop (place + 2) words ≡ rest)
unfolding source_in
source_again words place (source.Line bytes) from rest stands spells =
    let here : drop place words ≡ codes "hex" ∷ spells.0 ∷ rest = stands ∙ ap (λ (f : List (List ℕ)). f ++ rest) spells.1 in
    let o = option_again bytes_of_digits wanted.Digits words place (codes "hex") spells.0 rest bytes here (hex_again spells.0 bytes spells.2) in
    (rw (o.0, o.1) refl, rest_behind_two words place (codes "hex") spells.0 rest here)
source_again words place (source.File file) from rest stands spells =
    let here : drop place words ≡ codes "file" ∷ file ∷ rest = stands ∙ ap (λ (f : List (List ℕ)). f ++ rest) spells.0 in
    let o = option_again file_name_of wanted.FileName words place (codes "file") file rest file here (file_name_again file spells.1) in
    let no : has_word words place (codes "hex") ≡ false = has_word_is words place (codes "file") (file ∷ rest) (codes "hex") here in
    (rw (no, o.0, o.1) refl, rest_behind_two words place (codes "file") file rest here)

-- ---- an optional type

-- a type isn't empty
typed : (ctype : List ℕ) (words : List (List ℕ)) → words ≡ codes "type" ∷ ctype ∷ [] → is_type ctype ≡ true → SpellsType ctype words
typed [] words same e = absurd (true≢false (sym e))
typed (b ∷ bytes) words same e = (same, e)

pub type_option_takes : (words : List (List ℕ)) (place : ℕ) (ctype : List ℕ) → type_option words place ≡ Ok ctype
    → (types : List (List ℕ)) × (drop place words ≡ types ++ drop (behind_option words place (codes "type")) words) × SpellsType ctype types
unfolding type_option
type_option_takes words place ctype e = elim (chosen (has_word words place (codes "type")) (read_at type_of wanted.BlobType words (place + 1)) (Ok []) (Ok ctype) e) [
  | inl p ↦
      let o = option_takes type_of wanted.BlobType words place (codes "type") ctype p.0 p.1 in
      let t = type_takes o.0 ctype o.2 in
      (codes "type" ∷ o.0 ∷ [], o.1, typed ctype (codes "type" ∷ o.0 ∷ []) (ap (λ (w : List ℕ). codes "type" ∷ w ∷ []) t.0) t.1)
  | inr p ↦
      let is : [] ≡ ctype = done_is [] ctype p.1 in
      ([], rw p.0 refl, subst (λ (t : List ℕ). SpellsType t []) is refl)
]

pub type_option_again : (words : List (List ℕ)) (place : ℕ) (ctype : List ℕ) (types rest : List (List ℕ)) → drop place words ≡ types ++ rest → SpellsType ctype types
    → (drop place words ≡ rest → has_word words place (codes "type") ≡ false)
    → (type_option words place ≡ Ok ctype) × (drop (behind_option words place (codes "type")) words ≡ rest)
unfolding type_option
type_option_again words place [] types rest stands spells other =
    let here : drop place words ≡ rest = stands ∙ ap (λ (t : List (List ℕ)). t ++ rest) spells in
    let no = other here in
    (rw no refl, rw no here)
type_option_again words place (b ∷ bytes) types rest stands spells other =
    let here : drop place words ≡ codes "type" ∷ (b ∷ bytes) ∷ rest = stands ∙ ap (λ (t : List (List ℕ)). t ++ rest) spells.0 in
    let o = option_again type_of wanted.BlobType words place (codes "type") (b ∷ bytes) rest (b ∷ bytes) here (type_again (b ∷ bytes) spells.1) in
    (rw (o.0, o.1) refl, o.2)

-- ---- optional metadata, at the end of a line

pub metadata_option_takes : (words : List (List ℕ)) (place : ℕ) (meta : List ℕ) → metadata_option words place ≡ Ok meta → drop (behind_option words place (codes "meta")) words ≡ []
    → SpellsMetadata meta (drop place words)
unfolding metadata_option
metadata_option_takes words place meta e end = elim (chosen (has_word words place (codes "meta")) (read_at metadata_of wanted.Metadata words (place + 1)) (Ok []) (Ok meta) e) [
  | inl p ↦
      let o = option_takes metadata_of wanted.Metadata words place (codes "meta") meta p.0 p.1 in
      let m = metadata_takes o.0 meta o.2 in
      inr (o.0, o.1 ∙ ap (λ (r : List (List ℕ)). codes "meta" ∷ o.0 ∷ r) end, m.0, m.1)
  | inr p ↦ inl (subst (λ (n : ℕ). drop n words ≡ []) (ap (λ (b : Bool). cond b (place + 2) place) p.0) end, sym (done_is [] meta p.1))
]

pub metadata_option_again : (words : List (List ℕ)) (place : ℕ) (meta : List ℕ) → SpellsMetadata meta (drop place words)
    → (metadata_option words place ≡ Ok meta) × (drop (behind_option words place (codes "meta")) words ≡ [])
unfolding metadata_option
metadata_option_again words place meta spells = elim spells [
  | inl p ↦
      let no = has_no_word words place (codes "meta") p.0 in
      (rw no (ap done (sym p.1)), rw no p.0)
  | inr p ↦
      let o = option_again metadata_of wanted.Metadata words place (codes "meta") p.0 [] meta p.1 (metadata_again p.0 meta p.2 p.3) in
      (rw (o.0, o.1) refl, o.2)
]

-- metadata don't begin with the word `type`
pub no_type_before : (words : List (List ℕ)) (place : ℕ) (meta : List ℕ) (metas : List (List ℕ)) → SpellsMetadata meta metas → drop place words ≡ metas → has_word words place (codes "type") ≡ false
no_type_before words place meta metas spells here = elim spells [
  | inl p ↦ has_no_word words place (codes "type") (here ∙ p.0)
  | inr p ↦ has_word_is words place (codes "meta") (p.0 ∷ []) (codes "type") (here ∙ p.1)
]

-- ---- an optional file, at the end of a line

pub file_option_takes : (words : List (List ℕ)) (place : ℕ) (file : Option (List ℕ)) → file_option words place ≡ Ok file → drop (behind_option words place (codes "file")) words ≡ []
    → SpellsFile file (drop place words)
unfolding file_option
file_option_takes words place file e end = elim (chosen (has_word words place (codes "file")) named (Ok None) (Ok file) e) [
  | inl p ↦
      let b = bind_ok (read_at file_name_of wanted.FileName words (place + 1)) (λ name. Ok (Some name)) file p.1 in
      let o = option_takes file_name_of wanted.FileName words place (codes "file") b.0 p.0 b.1 in
      let f = file_name_takes o.0 b.0 o.2 in
      let is : Some b.0 ≡ file = done_is (Some b.0) file b.2 in
      subst (λ (x : Option (List ℕ)). SpellsFile x (drop place words)) is
      (o.1 ∙ ap₂ (λ (w : List ℕ) (r : List (List ℕ)). codes "file" ∷ w ∷ r) f.0 end, f.1)
  | inr p ↦
      let is : None ≡ file = done_is None file p.1 in
      subst (λ (x : Option (List ℕ)). SpellsFile x (drop place words)) is (subst (λ (n : ℕ). drop n words ≡ []) (ap (λ (b : Bool). cond b (place + 2) place) p.0) end)
]
  where
    named : Result (Option (List ℕ)) LineFault
    named = read_at file_name_of wanted.FileName words (place + 1) >>= λ name. Ok (Some name)

pub file_option_again : (words : List (List ℕ)) (place : ℕ) (file : Option (List ℕ)) → SpellsFile file (drop place words)
    → (file_option words place ≡ Ok file) × (drop (behind_option words place (codes "file")) words ≡ [])
unfolding file_option
file_option_again words place None spells =
    let no = has_no_word words place (codes "file") spells in
    (rw no refl, rw no spells)
file_option_again words place (Some name) spells =
    let o = option_again file_name_of wanted.FileName words place (codes "file") name [] name spells.0 (file_name_again name spells.1) in
    (rw (o.0, o.1) refl, o.2)

-- ---- an optional range

pub range_takes : (words : List (List ℕ)) (place : ℕ) (range : Option (ℕ × ℕ)) → range_in words place ≡ Ok range
    → (ranged : List (List ℕ)) × (drop place words ≡ ranged ++ drop (behind_range range place) words) × SpellsRange range ranged
unfolding range_in
range_takes words place range e = elim (chosen (nat_le (length words) place || has_word words place (codes "file")) (Ok None) numbers (Ok range) e) [
  | inl p ↦
      let is : None ≡ range = done_is None range p.1 in
      subst (λ (x : Option (ℕ × ℕ)). (ranged : List (List ℕ)) × (drop place words ≡ ranged ++ drop (behind_range x place) words) × SpellsRange x ranged) is ([], refl, refl)
  | inr p ↦
      let a = read_at_first number_at wanted.Number words place (λ from. read_at number_at wanted.Number words (place + 1) >>= λ len. Ok (Some (from, len))) range p.1 in
      let b = read_at_first number_at wanted.Number words (place + 1) (λ len. Ok (Some (a.0, len))) range a.4 in
      let is : Some (a.0, b.0) ≡ range = done_is (Some (a.0, b.0)) range b.4 in
      subst (λ (x : Option (ℕ × ℕ)). (ranged : List (List ℕ)) × (drop place words ≡ ranged ++ drop (behind_range x place) words) × SpellsRange x ranged) is
      (a.1 ∷ b.1 ∷ [], two_behind words place a.1 b.1 a.2 b.2, (a.1, b.1, refl, number_takes a.1 a.0 a.3, number_takes b.1 b.0 b.3))
]
  where
    numbers : Result (Option (ℕ × ℕ)) LineFault
    numbers = read_at number_at wanted.Number words place >>= λ from. read_at number_at wanted.Number words (place + 1) >>= λ len. Ok (Some (from, len))

-- a number is no word
not_file : (text : List ℕ) (n : ℕ) → IsNumeral text n → bytes_eq text (codes "file") ≡ false
not_file text n is = by (bytes_eq text (codes "file")) refl
  where
    by : (t : Bool) → bytes_eq text (codes "file") ≡ t → bytes_eq text (codes "file") ≡ false
    by true e =
        let bad : is_numeral (codes "file") ≡ true = subst (λ (x : List ℕ). is_numeral x ≡ true) (same_text text (codes "file") e) is.0 in
        absurd (true≢false (sym bad))
    by false e = e

or_right : (a b : Bool) → b ≡ true → (a || b) ≡ true
or_right true b e = refl
or_right false b e = e

or_left : (a b : Bool) → a ≡ true → (a || b) ≡ true
or_left a b e = rw e refl

or_none : (a b : Bool) → a ≡ false → b ≡ false → (a || b) ≡ false
or_none a b p q = rw (p, q) refl

no_range : (words : List (List ℕ)) (place : ℕ) (file : Option (List ℕ)) (named : List (List ℕ)) → drop place words ≡ named → SpellsFile file named → (nat_le (length words) place || has_word words place (codes "file")) ≡ true
no_range words place None named here spells =
    let few = few_words words place (here ∙ spells) in
    let test : nat_le (length words) place ≡ true = grind (arith, nat_tests) in
    or_left (nat_le (length words) place) (has_word words place (codes "file")) test
no_range words place (Some name) named here spells =
    or_right (nat_le (length words) place) (has_word words place (codes "file")) (has_word_is words place (codes "file") (name ∷ []) (codes "file") (here ∙ spells.0))

more_words : (words : List (List ℕ)) (place : ℕ) (word : List ℕ) (rest : List (List ℕ)) → drop place words ≡ word ∷ rest → nat_le (length words) place ≡ false
more_words words place word rest here = by (nat_le (length words) place) refl
  where
    by : (t : Bool) → nat_le (length words) place ≡ t → t ≡ false
    by true e =
        let few : length words ≤ place = grind (arith, nat_tests) in
        let none : drop place words ≡ [] = none_behind words place few in
        absurd cc
    by false e = refl

pub range_again : (words : List (List ℕ)) (place : ℕ) (range : Option (ℕ × ℕ)) (file : Option (List ℕ)) (ranged named : List (List ℕ)) → drop place words ≡ ranged ++ named → SpellsRange range ranged → SpellsFile file named
    → (range_in words place ≡ Ok range) × (drop (behind_range range place) words ≡ named)
unfolding range_in
range_again words place None file ranged named stands spells end =
    let here : drop place words ≡ named = stands ∙ ap (λ (r : List (List ℕ)). r ++ named) spells in
    (rw (no_range words place file named here end) refl, here)
range_again words place (Some range) file ranged named stands spells end =
    let here : drop place words ≡ spells.0 ∷ spells.1 ∷ named = stands ∙ ap (λ (r : List (List ℕ)). r ++ named) spells.2 in
    let some = more_words words place spells.0 (spells.1 ∷ named) here in
    let no : has_word words place (codes "file") ≡ false = has_word_is words place spells.0 (spells.1 ∷ named) (codes "file") here ∙ not_file spells.0 range.0 spells.3 in
    let from = read_at_again number_at wanted.Number words place spells.0 (spells.1 ∷ named) range.0 here (number_again spells.0 range.0 spells.3) in
    let len = read_at_again number_at wanted.Number words (place + 1) spells.1 named range.1 (rest_behind words place spells.0 (spells.1 ∷ named) here) (number_again spells.1 range.1 spells.4) in
    (rw (or_none (nat_le (length words) place) (has_word words place (codes "file")) some no, from, len) refl, rest_behind_two words place spells.0 spells.1 named here)
