-- The words of an outcome are its own.
use Rattle.std.proofs.Common.{◌≡◌, ◌≢◌, ◌∙◌, ℕ, ◌<◌, ◌^◌, nat_eq, not, Bool, true, false, cond, codes, Result, Ok, Err, List, [], ◌∷◌, ◌++◌, length, map, refl, sym, ap, ap₂, subst, arith}
use Rattle.std.specs.Fmt.{decimal}
use Rattle.std.specs.List.{AllByRecursion, list_all, slice_split}
use Rattle.std.specs.Str.{bytes_eq}
use Rattle.std.specs.Str.Parse.{digits_value}
use Rattle.std.proofs.lemmas.Bool.Decides.{nat_tests}
use Rattle.std.proofs.lemmas.Fmt.{decimal_is_IsNumeral}
use Rattle.std.proofs.lemmas.List.{append-nil}
use Rattle.std.proofs.lemmas.Slice.Eq.{bytes_eq-Decides}
use Rattle.hex.specs.Hex.{IsBytes, decode_of, encode_lower}
use Rattle.hex.specs.declared.error.FromHexError.{FromHexError}
use Rattle.hex.proofs.HexLemmas.{decode_of-encode_lower}
use Rattle.quorum_op.specs.declared.cause.Cause.{Cause}
use Rattle.quorum_op.specs.declared.outcome.Outcome.{Outcome}
use Rattle.session_text.specs.Texts.{is_blank, joined}
use Rattle.session_text.specs.Outcomes.{spelled_bytes, cause_word, type_words, outcome_words, IsFailure, IsOutcome}
use Rattle.session_text.proofs.ChoiceLemmas.{both}
use Rattle.session_text.proofs.JoinLemmas.{is_mark, IsPlain, split_joined, decimal_no_colon}
use Rattle.session_text.proofs.OutcomePartLemmas.{failure_word, parts, words_are_parts, parts_plain}

-- ---- what a word says

bytes_or_none : Result (List ℕ) FromHexError → List ℕ
bytes_or_none (Ok bytes) = bytes
bytes_or_none (Err e) = []

bytes_of : List ℕ → List ℕ
bytes_of word = cond (bytes_eq word (codes "-")) [] (bytes_or_none (decode_of word))

type_of : List ℕ → List ℕ
type_of word = cond (bytes_eq word (codes "-")) [] word

cause_of : List ℕ → Cause
cause_of word =
    cond (bytes_eq word (codes "timeout")) Cause.Timeout
    (cond (bytes_eq word (codes "patience")) Cause.Patience
    (cond (bytes_eq word (codes "broken")) Cause.Broken
    (cond (bytes_eq word (codes "full")) Cause.Full
    (cond (bytes_eq word (codes "clash")) Cause.Clash
    (cond (bytes_eq word (codes "gone")) Cause.Gone
    (cond (bytes_eq word (codes "fault")) Cause.Fault
    (cond (bytes_eq word (codes "down")) Cause.Down
    (cond (bytes_eq word (codes "memory")) Cause.Memory
    (cond (bytes_eq word (codes "stray")) Cause.Stray Cause.Cancelled)))))))))

before_colon : List ℕ → List ℕ
before_colon [] = []
before_colon (b ∷ word) = cond (nat_eq b 58) [] (b ∷ before_colon word)

behind_colon : List ℕ → List ℕ
behind_colon [] = []
behind_colon (b ∷ word) = cond (nat_eq b 58) word (behind_colon word)

failure_of : List ℕ → ℕ × Cause
failure_of word = (digits_value 10 (before_colon word), cause_of (behind_colon word))

ok_of : List (List ℕ) → Outcome
ok_of [] = Outcome.Deleted2
ok_of (id ∷ []) = Outcome.Put (bytes_of id)
ok_of (len ∷ bytes ∷ []) = Outcome.Bytes (bytes_of bytes)
ok_of (size ∷ created ∷ ctype ∷ []) = Outcome.Memory
ok_of (size ∷ created ∷ ctype ∷ meta ∷ more) = Outcome.Info (digits_value 10 size) (digits_value 10 created) (type_of ctype) (bytes_of meta)

first_of : List (List ℕ) → List ℕ
first_of [] = []
first_of (word ∷ more) = word

rest_of : List (List ℕ) → List (List ℕ)
rest_of [] = []
rest_of (word ∷ more) = more

plain_of : List ℕ → Outcome
plain_of word =
    cond (bytes_eq word (codes "deleted")) Outcome.Deleted
    (cond (bytes_eq word (codes "notfound")) Outcome.NotFound
    (cond (bytes_eq word (codes "cancelled")) Outcome.Cancelled
    (cond (bytes_eq word (codes "notwhole")) Outcome.NotWhole
    (cond (bytes_eq word (codes "nofile")) Outcome.NoFile
    (cond (bytes_eq word (codes "noid")) Outcome.NoId
    (cond (bytes_eq word (codes "nopartition")) Outcome.NoPartition Outcome.Memory))))))

outcome_of : List (List ℕ) → Outcome
outcome_of [] = Outcome.Memory
outcome_of (word ∷ more) =
    cond (bytes_eq word (codes "ok")) (ok_of more)
    (cond (bytes_eq word (codes "unavailable")) (Outcome.Unavailable (bytes_of (first_of more)) (map failure_of (rest_of more)))
    (cond (bytes_eq word (codes "toolarge")) (Outcome.TooLarge (digits_value 10 (first_of more)))
    (cond (bytes_eq word (codes "badrange")) (Outcome.BadRange (digits_value 10 (first_of more)))
    (cond (bytes_eq word (codes "missing")) (Outcome.Missing (bytes_of (first_of more)))
    (cond (bytes_eq word (codes "corrupt")) (Outcome.Corrupt (bytes_of (first_of more))) (plain_of word))))))

number_again : (n : ℕ) → n < 2 ^ 64 → digits_value 10 (decimal n) ≡ n
number_again n small = (decimal_is_IsNumeral n small).1

no_dash : (text bytes : List ℕ) → decode_of text ≡ Ok bytes → bytes_eq text (codes "-") ≡ false
no_dash text bytes read = by (bytes_eq text (codes "-")) refl
  where
    by : (t : Bool) → bytes_eq text (codes "-") ≡ t → t ≡ false
    by true e =
        let bad : decode_of (codes "-") ≡ Ok bytes = ap decode_of (sym ((bytes_eq-Decides text (codes "-")).0 e)) ∙ read in
        absurd cc
    by false e = refl

hex_again : (bytes : List ℕ) → IsBytes bytes → bytes_of (encode_lower bytes) ≡ bytes
unfolding bytes_of bytes_or_none
hex_again bytes each =
    let read = decode_of-encode_lower bytes each in
    rw (no_dash (encode_lower bytes) bytes read, read) refl

bytes_again : (bytes : List ℕ) → IsBytes bytes → bytes_of (spelled_bytes bytes) ≡ bytes
unfolding bytes_of
bytes_again [] each = refl
bytes_again (b ∷ bytes) each = hex_again (b ∷ bytes) each

type_again : (ctype : List ℕ) → ctype ≢ codes "-" → type_of (type_words ctype) ≡ ctype
unfolding type_of
type_again [] other = refl
type_again (b ∷ ctype) other = by (bytes_eq (b ∷ ctype) (codes "-")) refl
  where
    by : (t : Bool) → bytes_eq (b ∷ ctype) (codes "-") ≡ t → cond t [] (b ∷ ctype) ≡ b ∷ ctype
    by true e = absurd (other ((bytes_eq-Decides (b ∷ ctype) (codes "-")).0 e))
    by false e = refl

cause_again : (cause : Cause) → cause_of (cause_word cause) ≡ cause
unfolding cause_of cause_word
cause_again Cause.Timeout = refl
cause_again Cause.Patience = refl
cause_again Cause.Broken = refl
cause_again Cause.Full = refl
cause_again Cause.Clash = refl
cause_again Cause.Gone = refl
cause_again Cause.Fault = refl
cause_again Cause.Down = refl
cause_again Cause.Memory = refl
cause_again Cause.Stray = refl
cause_again Cause.Cancelled = refl

colon_again : (number word : List ℕ) → list_all (λ b. not (nat_eq b 58)) number ≡ true → (before_colon ((number ++ codes ":") ++ word) ≡ number) × (behind_colon ((number ++ codes ":") ++ word) ≡ word)
unfolding before_colon behind_colon
colon_again [] word e = (refl, refl)
colon_again (b ∷ number) word e =
    let s = both (not (nat_eq b 58)) (list_all (λ b. not (nat_eq b 58)) number) e in
    let other : nat_eq b 58 ≡ false = grind (arith, nat_tests) in
    let more = colon_again number word s.1 in
    rw other (ap (λ (t : List ℕ). b ∷ t) more.0, more.1)

failure_again : (failure : ℕ × Cause) → IsFailure failure → failure_of (failure_word failure) ≡ failure
unfolding failure_of
failure_again (node, cause) small =
    let fits : node < 2 ^ 64 = omega arith in
    let c = colon_again (decimal node) (cause_word cause) (decimal_no_colon node fits) in
    ap₂ (λ (n : ℕ) (w : Cause). (n, w)) (ap (digits_value 10) c.0 ∙ number_again node fits) (ap cause_of c.1 ∙ cause_again cause)

failures_again : (failed : List (ℕ × Cause)) → AllByRecursion IsFailure failed → map failure_of (map failure_word failed) ≡ failed
failures_again [] each = refl
failures_again (failure ∷ failed) each = ap₂ (λ (f : ℕ × Cause) (fs : List (ℕ × Cause)). f ∷ fs) (failure_again failure each.0) (failures_again failed each.1)

outcome_again : (outcome : Outcome) → IsOutcome outcome → outcome_of (parts outcome) ≡ outcome
unfolding IsOutcome outcome_of ok_of plain_of first_of rest_of
outcome_again (Outcome.Put id) is = ap Outcome.Put (hex_again id is.each)
outcome_again Outcome.Deleted2 is = refl
outcome_again (Outcome.Bytes bytes) is = ap Outcome.Bytes (bytes_again bytes is.0)
outcome_again (Outcome.Info size created ctype meta) is = rw (number_again size is.0, number_again created is.1, type_again ctype is.3, bytes_again meta is.4) refl
outcome_again Outcome.Deleted is = refl
outcome_again Outcome.NotFound is = refl
outcome_again (Outcome.Unavailable id failed) is = ap₂ (λ (i : List ℕ) (f : List (ℕ × Cause)). Outcome.Unavailable i f) (hex_again id is.0.each) (failures_again failed is.1)
outcome_again Outcome.Cancelled is = refl
outcome_again (Outcome.TooLarge size) is = ap Outcome.TooLarge (number_again size is)
outcome_again (Outcome.BadRange size) is = ap Outcome.BadRange (number_again size is)
outcome_again Outcome.NotWhole is = refl
outcome_again Outcome.NoFile is = refl
outcome_again Outcome.NoId is = refl
outcome_again Outcome.NoPartition is = refl
outcome_again (Outcome.Missing id) is = ap Outcome.Missing (hex_again id is.each)
outcome_again (Outcome.Corrupt id) is = ap Outcome.Corrupt (hex_again id is.each)
outcome_again Outcome.Memory is = refl

-- ---- the laws

cut : (outcome : Outcome) → IsOutcome outcome → slice_split is_blank (outcome_words outcome) ≡ parts outcome
cut outcome is = ap (slice_split is_blank) (words_are_parts outcome) ∙ joined_again (parts outcome) (parts_plain outcome is) (some outcome)
  where
    joined_again : (words : List (List ℕ)) → AllByRecursion IsPlain words → 0 < length words → slice_split is_blank (joined words) ≡ words
    joined_again [] plain some = absurd (omega arith)
    joined_again (word ∷ more) plain some = split_joined word more plain

    some : (outcome : Outcome) → 0 < length (parts outcome)
    some (Outcome.Put id) = omega arith
    some Outcome.Deleted2 = omega arith
    some (Outcome.Bytes bytes) = omega arith
    some (Outcome.Info size created ctype meta) = omega arith
    some Outcome.Deleted = omega arith
    some Outcome.NotFound = omega arith
    some (Outcome.Unavailable id failed) = omega arith
    some Outcome.Cancelled = omega arith
    some (Outcome.TooLarge size) = omega arith
    some (Outcome.BadRange size) = omega arith
    some Outcome.NotWhole = omega arith
    some Outcome.NoFile = omega arith
    some Outcome.NoId = omega arith
    some Outcome.NoPartition = omega arith
    some (Outcome.Missing id) = omega arith
    some (Outcome.Corrupt id) = omega arith
    some Outcome.Memory = omega arith

pub apart : (a b : Outcome) → IsOutcome a → IsOutcome b → outcome_words a ≡ outcome_words b → a ≡ b
apart a b is_a is_b same =
    let parts_same : parts a ≡ parts b = sym (cut a is_a) ∙ ap (slice_split is_blank) same ∙ cut b is_b in
    sym (outcome_again a is_a) ∙ ap outcome_of parts_same ∙ outcome_again b is_b

no_end : (b : ℕ) → is_mark b ≡ true → b ≢ 10
no_end b e = λ same. grind (arith, nat_tests)

word_within : (word rest : List ℕ) → list_all is_mark word ≡ true → AllByRecursion (λ b. b ≢ 10) rest → AllByRecursion (λ b. b ≢ 10) (word ++ rest)
word_within [] rest e more = more
word_within (b ∷ word) rest e more =
    let s = both (is_mark b) (list_all is_mark word) e in
    (no_end b s.0, word_within word rest s.1 more)

joined_within : (words : List (List ℕ)) → AllByRecursion IsPlain words → AllByRecursion (λ b. b ≢ 10) (joined words)
joined_within [] plain = tt
joined_within (word ∷ []) plain = subst (AllByRecursion (λ b. b ≢ 10)) (append-nil word) (word_within word [] plain.0.1 tt)
joined_within (word ∷ next ∷ more) plain = word_within word (32 ∷ joined (next ∷ more)) plain.0.1 ((λ same. absurd cc), joined_within (next ∷ more) plain.1)

pub within : (outcome : Outcome) → IsOutcome outcome → AllByRecursion (λ b. b ≢ 10) (outcome_words outcome)
within outcome is = subst (AllByRecursion (λ b. b ≢ 10)) (sym (words_are_parts outcome)) (joined_within (parts outcome) (parts_plain outcome is))
