-- The words of an outcome, one by one.
use Rattle.std.proofs.Common.{◌≡◌, ◌∙◌, ℕ, ◌<◌, true, codes, List, [], ◌∷◌, ◌++◌, length, map, refl, sym, ap, arith, append_assoc}
use Rattle.std.specs.Fmt.{decimal}
use Rattle.std.specs.List.{AllByRecursion, list_all}
use Rattle.std.proofs.lemmas.Bool.Decides.{nat_tests}
use Rattle.std.proofs.lemmas.List.{append-nil}
use Rattle.std.proofs.lemmas.List.Folds.{list_all-append}
use Rattle.hex.specs.Hex.{IsBytes, encode_lower}
use Rattle.blob_id.specs.Blob.{is_type_byte}
use Rattle.blob_id.specs.Id.{IsId}
use Rattle.quorum_op.specs.declared.cause.Cause.{Cause}
use Rattle.quorum_op.specs.declared.outcome.Outcome.{Outcome}
use Rattle.session_text.specs.Texts.{joined}
use Rattle.session_text.specs.Outcomes.{spelled_bytes, cause_word, failures_words, type_words, outcome_words, IsFailure, IsOutcome}
use Rattle.session_text.proofs.JoinLemmas.{is_mark, IsPlain, every_byte, decimal_plain, hex_plain}

-- ---- the words, one by one

abbrev pub failure_word : ℕ × Cause → List ℕ
failure_word failure = (decimal failure.0 ++ codes ":") ++ cause_word failure.1

abbrev pub parts : Outcome → List (List ℕ)
parts (Outcome.Put id) = codes "ok" ∷ encode_lower id ∷ []
parts Outcome.Deleted2 = codes "ok" ∷ []
parts (Outcome.Bytes bytes) = codes "ok" ∷ decimal (length bytes) ∷ spelled_bytes bytes ∷ []
parts (Outcome.Info size created ctype meta) = codes "ok" ∷ decimal size ∷ decimal created ∷ type_words ctype ∷ spelled_bytes meta ∷ []
parts Outcome.Deleted = codes "deleted" ∷ []
parts Outcome.NotFound = codes "notfound" ∷ []
parts (Outcome.Unavailable id failed) = codes "unavailable" ∷ encode_lower id ∷ map failure_word failed
parts Outcome.Cancelled = codes "cancelled" ∷ []
parts (Outcome.TooLarge size) = codes "toolarge" ∷ decimal size ∷ []
parts (Outcome.BadRange size) = codes "badrange" ∷ decimal size ∷ []
parts Outcome.NotWhole = codes "notwhole" ∷ []
parts Outcome.NoFile = codes "nofile" ∷ []
parts Outcome.NoId = codes "noid" ∷ []
parts Outcome.NoPartition = codes "nopartition" ∷ []
parts (Outcome.Missing id) = codes "missing" ∷ encode_lower id ∷ []
parts (Outcome.Corrupt id) = codes "corrupt" ∷ encode_lower id ∷ []
parts Outcome.Memory = codes "memory" ∷ []

failures_joined : (word : List ℕ) (failed : List (ℕ × Cause)) → joined (word ∷ map failure_word failed) ≡ word ++ failures_words failed
failures_joined word [] = sym (append-nil word)
failures_joined word (failure ∷ failed) = ap (λ (t : List ℕ). word ++ 32 ∷ t) (failures_joined (failure_word failure) failed)

properties_joined : (created ctype meta : List ℕ) → codes " " ++ created ++ codes " " ++ ctype ++ codes " " ++ meta ≡ 32 ∷ (created ++ 32 ∷ (ctype ++ 32 ∷ meta))
properties_joined created ctype meta =
    append_assoc (codes " " ++ created ++ codes " " ++ ctype) (codes " ") meta
    ∙ append_assoc (codes " " ++ created ++ codes " ") ctype (codes " " ++ meta)
    ∙ append_assoc (codes " " ++ created) (codes " ") (ctype ++ (codes " " ++ meta))

pub words_are_parts : (outcome : Outcome) → outcome_words outcome ≡ joined (parts outcome)
unfolding outcome_words
words_are_parts (Outcome.Put id) = refl
words_are_parts Outcome.Deleted2 = refl
words_are_parts (Outcome.Bytes bytes) = refl
words_are_parts (Outcome.Info size created ctype meta) = ap (λ (t : List ℕ). codes "ok " ++ (decimal size ++ t)) (properties_joined (decimal created) (type_words ctype) (spelled_bytes meta))
words_are_parts Outcome.Deleted = refl
words_are_parts Outcome.NotFound = refl
words_are_parts (Outcome.Unavailable id failed) = ap (λ (t : List ℕ). codes "unavailable " ++ t) (sym (failures_joined (encode_lower id) failed))
words_are_parts Outcome.Cancelled = refl
words_are_parts (Outcome.TooLarge size) = refl
words_are_parts (Outcome.BadRange size) = refl
words_are_parts Outcome.NotWhole = refl
words_are_parts Outcome.NoFile = refl
words_are_parts Outcome.NoId = refl
words_are_parts Outcome.NoPartition = refl
words_are_parts (Outcome.Missing id) = refl
words_are_parts (Outcome.Corrupt id) = refl
words_are_parts Outcome.Memory = refl

-- ---- each word is plain

pub id_plain : (id : List ℕ) → IsId id → IsPlain (encode_lower id)
id_plain id is = hex_plain id (omega (arith, is.size)) is.each

pub spelled_plain : (bytes : List ℕ) → IsBytes bytes → IsPlain (spelled_bytes bytes)
spelled_plain [] each = (omega arith, refl)
spelled_plain (b ∷ bytes) each = hex_plain (b ∷ bytes) (omega arith) each

pub type_mark : (b : ℕ) → is_type_byte b ≡ true → is_mark b ≡ true
type_mark b e = grind (arith, nat_tests)

type_plain : (ctype : List ℕ) → list_all is_type_byte ctype ≡ true → IsPlain (type_words ctype)
type_plain [] e = (omega arith, refl)
type_plain (b ∷ ctype) e = (omega arith, every_byte is_type_byte is_mark type_mark (b ∷ ctype) e)

cause_plain : (cause : Cause) → list_all is_mark (cause_word cause) ≡ true
unfolding cause_word
cause_plain Cause.Timeout = refl
cause_plain Cause.Patience = refl
cause_plain Cause.Broken = refl
cause_plain Cause.Full = refl
cause_plain Cause.Clash = refl
cause_plain Cause.Gone = refl
cause_plain Cause.Fault = refl
cause_plain Cause.Down = refl
cause_plain Cause.Memory = refl
cause_plain Cause.Stray = refl
cause_plain Cause.Cancelled = refl

longer : (a b : List ℕ) → 0 < length a → 0 < length (a ++ b)
longer [] b some = absurd (omega arith)
longer (x ∷ a) b some = omega arith

failure_plain : (failure : ℕ × Cause) → IsFailure failure → IsPlain (failure_word failure)
failure_plain failure small =
    let number = decimal_plain failure.0 (omega arith) in (
      longer (decimal failure.0 ++ codes ":") (cause_word failure.1) (longer (decimal failure.0) (codes ":") number.0),
      list_all-append is_mark (decimal failure.0 ++ codes ":") (cause_word failure.1) ∙ rw (list_all-append is_mark (decimal failure.0) (codes ":"), number.1, cause_plain failure.1) refl,
    )

failures_plain : (failed : List (ℕ × Cause)) → AllByRecursion IsFailure failed → AllByRecursion IsPlain (map failure_word failed)
failures_plain [] each = tt
failures_plain (failure ∷ failed) each = (failure_plain failure each.0, failures_plain failed each.1)

fixed : (word : List ℕ) → 0 < length word → list_all is_mark word ≡ true → AllByRecursion IsPlain (word ∷ [])
fixed word some marks = ((some, marks), tt)

pub parts_plain : (outcome : Outcome) → IsOutcome outcome → AllByRecursion IsPlain (parts outcome)
unfolding IsOutcome
parts_plain (Outcome.Put id) is = ((omega arith, refl), (id_plain id is, tt))
parts_plain Outcome.Deleted2 is = fixed (codes "ok") (omega arith) refl
parts_plain (Outcome.Bytes bytes) is = ((omega arith, refl), (decimal_plain (length bytes) is.1, (spelled_plain bytes is.0, tt)))
parts_plain (Outcome.Info size created ctype meta) is = ((omega arith, refl), (decimal_plain size is.0, (decimal_plain created is.1, (type_plain ctype is.2, (spelled_plain meta is.4, tt)))))
parts_plain Outcome.Deleted is = fixed (codes "deleted") (omega arith) refl
parts_plain Outcome.NotFound is = fixed (codes "notfound") (omega arith) refl
parts_plain (Outcome.Unavailable id failed) is = ((omega arith, refl), (id_plain id is.0, failures_plain failed is.1))
parts_plain Outcome.Cancelled is = fixed (codes "cancelled") (omega arith) refl
parts_plain (Outcome.TooLarge size) is = ((omega arith, refl), (decimal_plain size is, tt))
parts_plain (Outcome.BadRange size) is = ((omega arith, refl), (decimal_plain size is, tt))
parts_plain Outcome.NotWhole is = fixed (codes "notwhole") (omega arith) refl
parts_plain Outcome.NoFile is = fixed (codes "nofile") (omega arith) refl
parts_plain Outcome.NoId is = fixed (codes "noid") (omega arith) refl
parts_plain Outcome.NoPartition is = fixed (codes "nopartition") (omega arith) refl
parts_plain (Outcome.Missing id) is = ((omega arith, refl), (id_plain id is, tt))
parts_plain (Outcome.Corrupt id) is = ((omega arith, refl), (id_plain id is, tt))
parts_plain Outcome.Memory is = fixed (codes "memory") (omega arith) refl
