-- Words with spaces between them, and what blanks divide such a text into.
use Rattle.std.proofs.Common.{◌≡◌, ◌∙◌, ℕ, zero, suc, ◌+◌, ◌/◌, ◌%◌, ◌<◌, ◌^◌, ◌&&◌, nat_eq, nat_lt, not, Bool, true, false, List, [], ◌∷◌, ◌++◌, length, slice_index, slice_index_or, refl, ap, arith}
use Rattle.std.specs.Fmt.{decimal}
use Rattle.std.specs.List.{All, AllByRecursion, list_all, slice_split, filter}
use Rattle.std.proofs.lemmas.Bool.Decides.{nat_tests}
use Rattle.std.proofs.lemmas.Fmt.{decimal_by_steps}
use Rattle.std.proofs.lemmas.List.Folds.{list_all-append}
use Rattle.std.proofs.lemmas.List.Splits.{slice_split_none, slice_split_at}
use Rattle.std.proofs.lemmas.List.Sums.{AllPass-from_list_all}
use Rattle.hex.specs.Hex.{IsBytes, encode_lower, encode_with, lower_digits}
use Rattle.session_text.specs.Texts.{is_blank, is_word, words_of, joined}
use Rattle.session_text.proofs.ChoiceLemmas.{both}

-- a byte that divides no words and ends no line
abbrev pub is_mark : ℕ → Bool
is_mark b = nat_lt 32 b

-- a word of such bytes, not empty
abbrev pub IsPlain : List ℕ → Type 0
IsPlain word = (0 < length word) × (list_all is_mark word ≡ true)

pub every_byte : (p q : ℕ → Bool) → ((b : ℕ) → p b ≡ true → q b ≡ true) → (bytes : List ℕ) → list_all p bytes ≡ true → list_all q bytes ≡ true
every_byte p q each [] e = refl
every_byte p q each (b ∷ bytes) e =
    let s = both (p b) (list_all p bytes) e in
    rw (each b s.0, every_byte p q each bytes s.1) refl

no_blank : (word : List ℕ) → list_all is_mark word ≡ true → All (λ b. is_blank b ≡ false) word
no_blank word e = λ k d within. small (slice_index_or word k d) (AllPass-from_list_all is_mark word e k d within)
  where
    small : (b : ℕ) → is_mark b ≡ true → is_blank b ≡ false
    small b e = grind (arith, nat_tests)

pub split_joined : (word : List ℕ) (more : List (List ℕ)) → AllByRecursion IsPlain (word ∷ more) → slice_split is_blank (joined (word ∷ more)) ≡ word ∷ more
split_joined word [] plain = slice_split_none is_blank word (no_blank word plain.0.1)
split_joined word (next ∷ more) plain =
    slice_split_at is_blank word 32 (joined (next ∷ more)) (no_blank word plain.0.1) refl ∙ ap (λ (r : List (List ℕ)). word ∷ r) (split_joined next more plain.1)

some_byte : (word : List ℕ) → 0 < length word → is_word word ≡ true
some_byte [] e = absurd (omega arith)
some_byte (b ∷ word) e =
    let not_none : nat_eq (length (b ∷ word)) 0 ≡ false = grind (arith, nat_tests) in
    ap not not_none

all_words : (words : List (List ℕ)) → AllByRecursion IsPlain words → filter is_word words ≡ words
all_words [] plain = refl
all_words (word ∷ more) plain = rw (some_byte word plain.0.0) (ap (λ (r : List (List ℕ)). word ∷ r) (all_words more plain.1))

-- the words of joined words are these
pub words_joined : (words : List (List ℕ)) → AllByRecursion IsPlain words → words_of (joined words) ≡ words
words_joined [] plain = refl
words_joined (word ∷ more) plain = ap (filter is_word) (split_joined word more plain) ∙ all_words (word ∷ more) plain

-- ---- plain words

-- the digits of a number pass what the ten digits pass
pub decimal_all : (test : ℕ → Bool) → ((d : ℕ) → d < 10 → test (48 + d) ≡ true) → (n : ℕ) → n < 2 ^ 64 → list_all test (decimal n) ≡ true
decimal_all test each n small =
    decimal_by_steps (λ m ds. list_all test ds ≡ true) (λ m few. rw (each m few) refl)
    (λ m ds many before. list_all-append test ds ((48 + m % 10) ∷ []) ∙ rw (before, each (m % 10) (omega arith)) refl) n small

digit_mark : (d : ℕ) → d < 10 → is_mark (48 + d) ≡ true
digit_mark d few = grind (arith, nat_tests)

digit_colon : (d : ℕ) → d < 10 → not (nat_eq (48 + d) 58) ≡ true
digit_colon d few = grind (arith, nat_tests)

some_digit : (n : ℕ) → n < 2 ^ 64 → 0 < length (decimal n)
some_digit n small = decimal_by_steps (λ m ds. 0 < length ds) (λ m few. omega arith) (λ m ds many before. more ds (48 + m % 10)) n small
  where
    more : (ds : List ℕ) (d : ℕ) → 0 < length (ds ++ d ∷ [])
    more [] d = omega arith
    more (x ∷ ds) d = omega arith

pub decimal_plain : (n : ℕ) → n < 2 ^ 64 → IsPlain (decimal n)
decimal_plain n small = (some_digit n small, decimal_all is_mark digit_mark n small)

pub decimal_no_colon : (n : ℕ) → n < 2 ^ 64 → list_all (λ b. not (nat_eq b 58)) (decimal n) ≡ true
decimal_no_colon n small = decimal_all (λ b. not (nat_eq b 58)) digit_colon n small

all_below : (ℕ → Bool) → ℕ → Bool
all_below test zero = true
all_below test (suc n) = test n && all_below test n

below_all : (test : ℕ → Bool) (n : ℕ) → all_below test n ≡ true → (k : ℕ) → k < n → test k ≡ true
unfolding all_below
below_all test zero h k lt = absurd (omega arith)
below_all test (suc n) h k lt = grind (arith, below_all test n)

hex_mark : (d : ℕ) → d < 16 → is_mark (slice_index lower_digits d) ≡ true
unfolding all_below
hex_mark d few = below_all (λ n. is_mark (slice_index lower_digits n)) 16 refl d few

hex_marks : (bytes : List ℕ) → IsBytes bytes → list_all is_mark (encode_with lower_digits bytes) ≡ true
unfolding encode_with
hex_marks [] each = refl
hex_marks (b ∷ bytes) each =
    let small : b < 256 = each 0 in
    let high = hex_mark (b / 16) (omega arith) in
    let low = hex_mark (b % 16) (omega arith) in
    rw (high, low) (hex_marks bytes (λ i. each (suc i)))

some_hex : (b : ℕ) (bytes : List ℕ) → 0 < length (encode_lower (b ∷ bytes))
unfolding encode_with
some_hex b bytes = omega arith

pub hex_plain : (bytes : List ℕ) → 0 < length bytes → IsBytes bytes → IsPlain (encode_lower bytes)
hex_plain [] some each = absurd (omega arith)
hex_plain (b ∷ bytes) some each = (some_hex b bytes, hex_marks (b ∷ bytes) each)
