-- Which texts spell an id, and which id.
use Rattle.std.proofs.Common.{◌≡◌, ◌∙◌, ℕ, ◌<◌, ◌/◌, ◌%◌, ◌&&◌, nat_eq, nat_lt, not, Bool, true, false, cond, is_none, option_and_then, Option, Some, None, Result, Ok, Err, IfOk, List, [], ◌∷◌, length, slice_index, zero, suc, refl, sym, ap, subst, arith, lit<}
use Rattle.std.specs.List.{list_all}
use Rattle.std.specs.Result.{result_ok}
use Rattle.std.specs.Str.{bytes_eq, IsUtf8}
use Rattle.std.proofs.lemmas.Bool.Decides.{nat_tests}
use Rattle.std.proofs.lemmas.Slice.Eq.{bytes_eq-Decides}
use Rattle.std.proofs.lemmas.Str.{IsUtf8-from_ascii}
use Rattle.hex.specs.Hex.{IsBytes, decode_of, encode_lower, encode_with, lower_digits}
use Rattle.hex.specs.declared.error.FromHexError.{FromHexError}
use Rattle.hex.proofs.HexLemmas.{decode_of-encode_lower, decode_of-ok}
use Rattle.blob_id.specs.Id.{IsId, id_fault, field_fault}
use Rattle.blob_id.specs.declared.id.IdFault.{IdFault}
use Rattle.blob_id.specs.declared.id.IdFault.TheVariants.{BadLength, BadVersion, BadKind, BadUuid}
use Rattle.session_text.specs.Texts.{ok_value, id_in_lower, id_of_digits}
use Rattle.session_text.proofs.ChoiceLemmas.{some_is, kept, both, nothing, same_text}

-- ---- bytes without a fault are an id

faultless : (test : Bool) (fault : IdFault) (later : Option IdFault) → cond test (Some fault) later ≡ None → (test ≡ false) × (later ≡ None)
faultless true fault later e = absurd cc
faultless false fault later e = (refl, e)

same_number : (a b : ℕ) → not (nat_eq a b) ≡ false → a ≡ b
same_number a b e = grind (arith, nat_tests)

at_most_two : (a : ℕ) → nat_lt 2 a ≡ false → a < 3
at_most_two a e = grind (arith, nat_tests)

fields_take : (bytes : List ℕ) → IsBytes bytes → id_fault bytes ≡ None → IsId bytes
fields_take bytes each e =
    let size = faultless (not (nat_eq (length bytes) 20)) BadLength (field_fault bytes) e in
    let version = faultless (not (nat_eq (slice_index bytes 0) 1)) BadVersion _ size.1 in
    let kind = faultless (nat_lt 2 (slice_index bytes 1)) BadKind _ version.1 in
    let uuid = faultless (not (nat_eq (slice_index bytes 10 / 16) 4)) BadUuid _ kind.1 in
    let variant = faultless (not (nat_eq (slice_index bytes 12 / 64) 2)) BadUuid None uuid.1 in
    record {
      size = same_number (length bytes) 20 size.0;
      each = each;
      version = same_number (slice_index bytes 0) 1 version.0;
      kind = at_most_two (slice_index bytes 1) kind.0;
      uuid_version = same_number (slice_index bytes 10 / 16) 4 uuid.0;
      uuid_variant = same_number (slice_index bytes 12 / 64) 2 variant.0;
    }

is_same : (a b : ℕ) → a ≡ b → nat_eq a b ≡ true
is_same a b e = grind (arith, nat_tests)

below_three : (a : ℕ) → a < 3 → nat_lt 2 a ≡ false
below_three a lt = grind (arith, nat_tests)

fields_again : (bytes : List ℕ) → IsId bytes → id_fault bytes ≡ None
fields_again bytes is =
    let size : nat_eq (length bytes) 20 ≡ true = is_same (length bytes) 20 is.size in
    let version : nat_eq (slice_index bytes 0) 1 ≡ true = is_same (slice_index bytes 0) 1 is.version in
    let kind : nat_lt 2 (slice_index bytes 1) ≡ false = below_three (slice_index bytes 1) is.kind in
    let uuid : nat_eq (slice_index bytes 10 / 16) 4 ≡ true = is_same (slice_index bytes 10 / 16) 4 is.uuid_version in
    let variant : nat_eq (slice_index bytes 12 / 64) 2 ≡ true = is_same (slice_index bytes 12 / 64) 2 is.uuid_variant in
    rw (size, version, kind, uuid, variant) refl

-- ---- the digits of an id

pub id_from_digits : (text id : List ℕ) → id_of_digits text ≡ Some id → (text ≡ encode_lower id) × IsId id
id_from_digits text id e = by (decode_of text) refl e
  where
    by : (r : Result (List ℕ) FromHexError) → decode_of text ≡ r → option_and_then (id_in_lower text) (ok_value r) ≡ Some id → (text ≡ encode_lower id) × IsId id
    by (Err x) read e = absurd cc
    by (Ok bytes) read e =
        let k = kept (is_none (id_fault bytes) && bytes_eq (encode_lower bytes) text) (Some bytes) id e in
        let p = both (is_none (id_fault bytes)) (bytes_eq (encode_lower bytes) text) k.0 in
        let equal : bytes ≡ id = some_is bytes id k.1 in
        let is : IsId bytes = fields_take bytes (decode_of-ok text bytes read).3 (nothing (id_fault bytes) p.0) in
        (subst (λ (b : List ℕ). text ≡ encode_lower b) equal (sym (same_text (encode_lower bytes) text p.1)), subst IsId equal is)

spelled_again : (id : List ℕ) → IsId id → id_of_digits (encode_lower id) ≡ Some id
spelled_again id is =
    let read : decode_of (encode_lower id) ≡ Ok id = decode_of-encode_lower id is.each in
    let fault : id_fault id ≡ None = fields_again id is in
    let same : bytes_eq (encode_lower id) (encode_lower id) ≡ true = (bytes_eq-Decides (encode_lower id) (encode_lower id)).1 refl in
    rw (read, fault, same) refl

pub digits_of_id : (text id : List ℕ) → text ≡ encode_lower id → IsId id → id_of_digits text ≡ Some id
digits_of_id text id spelled is = ap id_of_digits spelled ∙ spelled_again id is

-- no digit is `$`
not_at : (xs : List ℕ) → list_all (λ c. not (nat_eq c 36)) xs ≡ true → (i : ℕ) → slice_index xs i ≡ 36 → ⊥
not_at [] e i same = absurd cc
not_at (x ∷ xs) e zero same =
    let p = both (not (nat_eq x 36)) (list_all (λ c. not (nat_eq c 36)) xs) e in
    grind (arith, nat_tests)
not_at (x ∷ xs) e (suc i) same = not_at xs (both (not (nat_eq x 36)) (list_all (λ c. not (nat_eq c 36)) xs) e).1 i same

first_is : (a b : ℕ) (xs ys : List ℕ) → a ∷ xs ≡ b ∷ ys → a ≡ b
first_is a b xs ys e = cc

pub no_dollar : (b : ℕ) (more id : List ℕ) → b ∷ more ≡ encode_lower id → b ≡ 36 → ⊥
unfolding encode_with
no_dollar b more [] spelled same = absurd cc
no_dollar b more (x ∷ id) spelled same = not_at lower_digits refl (x / 16) (sym (first_is b _ more _ spelled) ∙ same)

-- ---- digits are characters

below_at : (xs : List ℕ) → list_all (λ c. nat_lt c 128) xs ≡ true → (i : ℕ) → slice_index xs i < 128
below_at [] e i = lit< tt
below_at (x ∷ xs) e zero =
    let p = both (nat_lt x 128) (list_all (λ c. nat_lt c 128) xs) e in
    grind (arith, nat_tests)
below_at (x ∷ xs) e (suc i) = below_at xs (both (nat_lt x 128) (list_all (λ c. nat_lt c 128) xs) e).1 i

spelled_ascii : (xs : List ℕ) (i : ℕ) → slice_index (encode_with lower_digits xs) i < 128
unfolding encode_with
spelled_ascii [] i = lit< tt
spelled_ascii (b ∷ xs) zero = below_at lower_digits refl (b / 16)
spelled_ascii (b ∷ xs) (suc zero) = below_at lower_digits refl (b % 16)
spelled_ascii (b ∷ xs) (suc (suc i)) = spelled_ascii xs i

pub digits_are_text : (text id : List ℕ) → text ≡ encode_lower id → IsUtf8 text
digits_are_text text id spelled = subst IsUtf8 (sym spelled) (IsUtf8-from_ascii (encode_lower id) (spelled_ascii id))

-- ---- a reader of ids

-- digits that spell no id
pub unspelled : (text : List ℕ) → ((id : List ℕ) → text ≡ encode_lower id → IsId id → ⊥) → None ≡ id_of_digits text
unspelled text none = by (id_of_digits text) refl
  where
    by : (read : Option (List ℕ)) → id_of_digits text ≡ read → None ≡ read
    by None same = refl
    by (Some id) same = let d = id_from_digits text id same in absurd (none id d.0 d.1)

-- what answers each text that spells an id by that id, and no other, reads what the digits spell
pub reads_digits : {E : Type 0} (read : Result (List ℕ) E) (text : List ℕ) → IfOk read (λ id. IsId id × (text ≡ encode_lower id))
    → ((id : List ℕ) → IsId id → text ≡ encode_lower id → read ≡ Ok id) → result_ok read ≡ id_of_digits text
reads_digits (Ok id) text ok found = sym (digits_of_id text id ok.1 ok.0)
reads_digits (Err e) text ok found = unspelled text (λ id spelled is. let bad = found id is spelled in cc)
