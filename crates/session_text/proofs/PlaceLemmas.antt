-- What stands at a place of a line, and what behind it.
use Rattle.std.proofs.Common.{◌≡◌, ◌∙◌, ℕ, zero, suc, ◌+◌, ◌≤◌, Bool, true, false, nat_le, Option, Some, None, option_and_then, Result, Ok, Err, List, [], ◌∷◌, length, drop, slice_get, refl, sym, ap, arith}
use Rattle.std.specs.Str.{bytes_eq}
use Rattle.std.proofs.lemmas.Bool.Decides.{nat_tests}
use Rattle.std.proofs.lemmas.Slice.Eq.{bytes_eq-Decides}
use Rattle.session_text.specs.declared.fault.LineFault.{LineFault}
use Rattle.session_text.specs.declared.fault.LineFault.TheVariants as fault
use Rattle.session_text.specs.declared.fault.Wanted.{Wanted}
use Rattle.session_text.specs.declared.fault.Wanted.TheVariants as wanted
use Rattle.session_text.specs.declared.command.Command.{Command}
use Rattle.session_text.specs.Reading.{◌>>=◌, where_true, found_or, read_at, is_text, has_word, ended, behind_option}
use Rattle.session_text.proofs.ChoiceLemmas.{some_is, same_text}

-- ---- steps

abbrev pub done : {A : Type 0} → A → Result A LineFault
done x = Ok x

pub done_is : {A : Type 0} (x y : A) → done x ≡ done y → x ≡ y
done_is x y e = cc

pub bind_ok : {A B : Type 0} (read : Result A LineFault) (next : A → Result B LineFault) (y : B) → (read >>= next) ≡ Ok y → (x : A) × (read ≡ Ok x) × (next x ≡ Ok y)
bind_ok (Ok x) next y e = (x, refl, e)
bind_ok (Err d) next y e = absurd cc

pub bind_is : {A B : Type 0} (read : Result A LineFault) (next : A → Result B LineFault) (x : A) → read ≡ Ok x → (read >>= next) ≡ next x
bind_is read next x e = ap (λ (r : Result _ LineFault). r >>= next) e

pub where_ok : {A : Type 0} (test : Bool) (refusal : LineFault) (read : Result A LineFault) (y : A) → where_true test refusal read ≡ Ok y → (test ≡ true) × (read ≡ Ok y)
where_ok true refusal read y e = (refl, e)
where_ok false refusal read y e = absurd cc

found_is : {A : Type 0} (found : Option A) (refusal : LineFault) (x : A) → found_or found refusal ≡ Ok x → found ≡ Some x
found_is (Some y) refusal x e = ap Some (done_is y x e)
found_is None refusal x e = absurd cc

-- ---- the words from a place on

pub first_behind : (words : List (List ℕ)) (place : ℕ) (word : List ℕ) → slice_get words place ≡ Some word → drop place words ≡ word ∷ drop (place + 1) words
first_behind [] place word e = absurd cc
first_behind (w ∷ words) zero word e = ap (λ (x : List ℕ). x ∷ words) (some_is w word e)
first_behind (w ∷ words) (suc place) word e =
    let same : suc place + 1 ≡ suc (place + 1) = omega arith in
    rw same (first_behind words place word e)

pub word_behind : (words : List (List ℕ)) (place : ℕ) (word : List ℕ) (rest : List (List ℕ)) → drop place words ≡ word ∷ rest → slice_get words place ≡ Some word
word_behind [] zero word rest e = absurd cc
word_behind [] (suc place) word rest e = absurd cc
word_behind (w ∷ words) zero word rest e = cc
word_behind (w ∷ words) (suc place) word rest e = word_behind words place word rest e

pub rest_behind : (words : List (List ℕ)) (place : ℕ) (word : List ℕ) (rest : List (List ℕ)) → drop place words ≡ word ∷ rest → drop (place + 1) words ≡ rest
rest_behind [] zero word rest e = absurd cc
rest_behind [] (suc place) word rest e = absurd cc
rest_behind (w ∷ words) zero word rest e = cc
rest_behind (w ∷ words) (suc place) word rest e =
    let same : suc place + 1 ≡ suc (place + 1) = omega arith in
    rw same (rest_behind words place word rest e)

pub none_behind : (words : List (List ℕ)) (place : ℕ) → length words ≤ place → drop place words ≡ []
none_behind [] zero few = refl
none_behind [] (suc place) few = refl
none_behind (w ∷ words) zero few = absurd (omega arith)
none_behind (w ∷ words) (suc place) few = none_behind words place (omega arith)

pub few_words : (words : List (List ℕ)) (place : ℕ) → drop place words ≡ [] → length words ≤ place
few_words [] place e = omega arith
few_words (w ∷ words) zero e = absurd cc
few_words (w ∷ words) (suc place) e = omega (arith, few_words words place e)

-- two steps are one of two
pub two_behind : (words : List (List ℕ)) (place : ℕ) (a b : List ℕ) → drop place words ≡ a ∷ drop (place + 1) words → drop (place + 1) words ≡ b ∷ drop (place + 1 + 1) words
    → drop place words ≡ a ∷ b ∷ drop (place + 2) words
two_behind words place a b first second =
    let same : place + 1 + 1 ≡ place + 2 = omega arith in
    first ∙ ap (λ (r : List (List ℕ)). a ∷ r) (second ∙ ap (λ (n : ℕ). b ∷ drop n words) same)

pub rest_behind_two : (words : List (List ℕ)) (place : ℕ) (a b : List ℕ) (rest : List (List ℕ)) → drop place words ≡ a ∷ b ∷ rest → drop (place + 2) words ≡ rest
rest_behind_two words place a b rest e =
    let same : place + 1 + 1 ≡ place + 2 = omega arith in
    ap (λ (n : ℕ). drop n words) (sym same) ∙ rest_behind words (place + 1) b rest (rest_behind words place a (b ∷ rest) e)

-- ---- the word at a place

pub read_at_takes : {A : Type 0} (of : List ℕ → Option A) (wants : Wanted) (words : List (List ℕ)) (place : ℕ) (x : A) → read_at of wants words place ≡ Ok x
    → (word : List ℕ) × (drop place words ≡ word ∷ drop (place + 1) words) × (of word ≡ Some x)
read_at_takes {A} of wants words place x e = by (slice_get words place) refl e
  where
    by : (at : Option (List ℕ)) → slice_get words place ≡ at → found_or (option_and_then of at) (fault.Word place wants) ≡ Ok x
        → (word : List ℕ) × (drop place words ≡ word ∷ drop (place + 1) words) × (of word ≡ Some x)
    by None same e = absurd cc
    by (Some word) same e = (word, first_behind words place word same, found_is (of word) (fault.Word place wants) x e)

pub read_at_again : {A : Type 0} (of : List ℕ → Option A) (wants : Wanted) (words : List (List ℕ)) (place : ℕ) (word : List ℕ) (rest : List (List ℕ)) (x : A)
    → drop place words ≡ word ∷ rest → of word ≡ Some x → read_at of wants words place ≡ Ok x
read_at_again of wants words place word rest x stands is =
    ap (λ (at : Option (List ℕ)). found_or (option_and_then of at) (fault.Word place wants)) (word_behind words place word rest stands)
    ∙ ap (λ (found : Option _). found_or found (fault.Word place wants)) is

-- a read_at and what is read behind it
pub read_at_first : {A B : Type 0} (of : List ℕ → Option A) (wants : Wanted) (words : List (List ℕ)) (place : ℕ) (next : A → Result B LineFault) (y : B)
    → (read_at of wants words place >>= next) ≡ Ok y
    → (x : A) × (word : List ℕ) × (drop place words ≡ word ∷ drop (place + 1) words) × (of word ≡ Some x) × (next x ≡ Ok y)
read_at_first of wants words place next y e =
    let b = bind_ok (read_at of wants words place) next y e in
    let t = read_at_takes of wants words place b.0 b.1 in
    (b.0, t.0, t.1, t.2, b.2)

pub ended_takes : (words : List (List ℕ)) (place : ℕ) (made c : Command) → ended words place made ≡ Ok c → (drop place words ≡ []) × (made ≡ c)
ended_takes words place made c e =
    let w = where_ok (nat_le (length words) place) (fault.Word place wanted.End) (Ok made) c e in
    let few : length words ≤ place = grind (arith, nat_tests) in
    (none_behind words place few, done_is made c w.1)

pub ended_again : (words : List (List ℕ)) (place : ℕ) (made : Command) → drop place words ≡ [] → ended words place made ≡ Ok made
ended_again words place made e =
    let few = few_words words place e in
    let test : nat_le (length words) place ≡ true = grind (arith, nat_tests) in
    ap (λ (b : Bool). where_true b (fault.Word place wanted.End) (done made)) test

-- ---- words that are fixed

pub has_word_takes : (words : List (List ℕ)) (place : ℕ) (text : List ℕ) → has_word words place text ≡ true → drop place words ≡ text ∷ drop (place + 1) words
has_word_takes words place text e = by (slice_get words place) refl e
  where
    by : (at : Option (List ℕ)) → slice_get words place ≡ at → is_text at text ≡ true → drop place words ≡ text ∷ drop (place + 1) words
    by None same e = absurd cc
    by (Some word) same e = first_behind words place word same ∙ ap (λ (w : List ℕ). w ∷ drop (place + 1) words) (same_text word text e)

pub has_word_is : (words : List (List ℕ)) (place : ℕ) (word : List ℕ) (rest : List (List ℕ)) (text : List ℕ) → drop place words ≡ word ∷ rest → has_word words place text ≡ bytes_eq word text
has_word_is words place word rest text stands = ap (λ (at : Option (List ℕ)). is_text at text) (word_behind words place word rest stands)

pub has_word_again : (words : List (List ℕ)) (place : ℕ) (text : List ℕ) (rest : List (List ℕ)) → drop place words ≡ text ∷ rest → has_word words place text ≡ true
has_word_again words place text rest stands = has_word_is words place text rest text stands ∙ (bytes_eq-Decides text text).1 refl

no_word_at : (words : List (List ℕ)) (place : ℕ) → drop place words ≡ [] → slice_get words place ≡ None
no_word_at [] place e = refl
no_word_at (w ∷ words) zero e = absurd cc
no_word_at (w ∷ words) (suc place) e = no_word_at words place e

pub has_no_word : (words : List (List ℕ)) (place : ℕ) (text : List ℕ) → drop place words ≡ [] → has_word words place text ≡ false
has_no_word words place text none = ap (λ (at : Option (List ℕ)). is_text at text) (no_word_at words place none)

-- ---- optional words

-- an optional word, and the one that belongs to it
pub option_takes : {A : Type 0} (of : List ℕ → Option A) (wants : Wanted) (words : List (List ℕ)) (place : ℕ) (text : List ℕ) (x : A)
    → has_word words place text ≡ true → read_at of wants words (place + 1) ≡ Ok x
    → (word : List ℕ) × (drop place words ≡ text ∷ word ∷ drop (behind_option words place text) words) × (of word ≡ Some x)
option_takes of wants words place text x there e =
    let t = read_at_takes of wants words (place + 1) x e in
    (t.0, rw there (two_behind words place text t.0 (has_word_takes words place text there) t.1), t.2)

pub option_again : {A : Type 0} (of : List ℕ → Option A) (wants : Wanted) (words : List (List ℕ)) (place : ℕ) (text word : List ℕ) (rest : List (List ℕ)) (x : A)
    → drop place words ≡ text ∷ word ∷ rest → of word ≡ Some x
    → (has_word words place text ≡ true) × (read_at of wants words (place + 1) ≡ Ok x) × (drop (behind_option words place text) words ≡ rest)
option_again of wants words place text word rest x stands is =
    let there = has_word_again words place text (word ∷ rest) stands in
    (there, read_at_again of wants words (place + 1) word rest x (rest_behind words place text (word ∷ rest) stands) is, rw there (rest_behind_two words place text word rest stands))
