-- A record is read exactly where it is spelled.
use Rattle.std.proofs.Common.{◌≡◌, ◌∙◌, ℕ, ◌+◌, ◌-◌, ◌<◌, ◌≤◌, ◌^◌, inl, inr, ◌⊎◌, Bool, true, false, cond, List, ◌∷◌, ◌++◌, length, get_or, Option, Some, None, refl, sym, ap, subst, append_assoc, arith}
use Rattle.std.proofs.lemmas.List.{length-append, append_cancel_right}
use Rattle.byteorder.specs.Endian.{big_bytes}
use Rattle.byteorder.specs.Numbers.{length-bytes_high_first}
use Rattle.field_codec.specs.Spelling.{IsBytes, blob_text}
use Rattle.field_codec.specs.Reading.{◌>>=◌, number_at, blob_at}
use Rattle.std.proofs.lemmas.Option.{same_Some}
use Rattle.field_codec.proofs.Tools.{found}
use Rattle.field_codec.proofs.Fronts.{blob_spelled, length-blob_text}
use Rattle.field_codec.proofs.Spells.{Spells as HasFormat, number, field, restated, branch, made_of}
use Rattle.blob_id.specs.declared.blob.Blob.{Blob}
use Rattle.blob_id.specs.Blob.{IsBlob}
use Rattle.msg_format.specs.declared.record.Record.{Record}
use Rattle.msg_format.specs.declared.record.Record.TheVariants.{Put, Delete}
use Rattle.msg_format.specs.declared.record.Start.{Start}
use Rattle.msg_format.specs.Records.{lsn_of, id_of, is_gone, kind_of, content_text, spelling_of, record_size, IsContent, IsRecord, Spells, BeginsWith}
use Rattle.msg_format.specs.Reading.{start_at, put_at, delete_at, content_at, record_at}
use Rattle.msg_format.proofs.Starts.{start, start_text, IsStart, kind_byte, start_spelled, length-start_text}

-- ---- a record as its start and its content

abbrev pub start_of : Record → Start
start_of entry = record { gone = is_gone entry; lsn = lsn_of entry; id = id_of entry }

pub start_fits : (entry : Record) → IsRecord entry → IsStart (start_of entry)
start_fits entry is = record { lsn = is.lsn; id = is.id }

pub record_fits : (entry : Record) → IsStart (start_of entry) → IsContent entry → IsRecord entry
record_fits entry is content = record { lsn = is.lsn; id = is.id; content = content }

kind_same : (entry : Record) → kind_of entry ≡ kind_byte (is_gone entry)
kind_same (Put lsn id blob) = refl
kind_same (Delete lsn id created) = refl

pub spelling_of-parts : (entry : Record) → spelling_of entry ≡ start_text (start_of entry) ++ content_text entry
spelling_of-parts entry = parts (kind_of entry) (kind_byte (is_gone entry)) (big_bytes 8 (lsn_of entry)) (id_of entry) (content_text entry) (kind_same entry)
  where
    parts : (j k : ℕ) (a b c : List ℕ) → j ≡ k → 79 ∷ j ∷ (a ++ (b ++ c)) ≡ (79 ∷ k ∷ (a ++ b)) ++ c
    parts j k a b c e = ap (λ (n : ℕ). 79 ∷ n ∷ (a ++ (b ++ c))) e ∙ ap (λ (x : List ℕ). 79 ∷ k ∷ x) (sym (append_assoc a b c))

-- ---- contents

content_spelled : (s : Start) → HasFormat content_text (content_at s) (λ e. IsContent e × (start_of e ≡ s))
unfolding put_at delete_at
content_spelled s = restated (λ e. refl) there back (branch s.gone (made_of content_text (Delete s.lsn s.id) (λ a. refl) (number 8)) (made_of content_text (Put s.lsn s.id) (λ a. refl) blob_spelled))
  where
    there : (e : Record) → ((s.gone ≡ true) × ((a : ℕ) × (a < 256 ^ 8) × (Delete s.lsn s.id a ≡ e))) ⊎ ((s.gone ≡ false) × ((a : Blob) × IsBlob a × (Put s.lsn s.id a ≡ e))) → IsContent e × (start_of e ≡ s)
    there e = elim [
      | inl h ↦ (subst IsContent h.1.2 h.1.1, ap start_of (sym h.1.2) ∙ ap (λ (g : Bool). start g s.lsn s.id) (sym h.0))
      | inr h ↦ (subst IsContent h.1.2 h.1.1, ap start_of (sym h.1.2) ∙ ap (λ (g : Bool). start g s.lsn s.id) (sym h.0))
    ]

    back : (e : Record) → IsContent e × (start_of e ≡ s) → ((s.gone ≡ true) × ((a : ℕ) × (a < 256 ^ 8) × (Delete s.lsn s.id a ≡ e))) ⊎ ((s.gone ≡ false) × ((a : Blob) × IsBlob a × (Put s.lsn s.id a ≡ e)))
    back (Put lsn id blob) h = inr (ap (λ (s : Start). s.gone) (sym h.1), (blob, h.0, ap (λ (s : Start). Put s.lsn s.id blob) (sym h.1)))
    back (Delete lsn id created) h = inl (ap (λ (s : Start). s.gone) (sym h.1), (created, h.0, ap (λ (s : Start). Delete s.lsn s.id created) (sym h.1)))

-- ---- records

pub record_spelled : HasFormat spelling_of record_at IsRecord
unfolding record_at
record_spelled = restated (λ e. sym (spelling_of-parts e)) (λ e is. record_fits e is.0 is.1.0) (λ e is. (start_fits e is, (is.content, refl)))
    (field start_of start_spelled content_spelled (λ s e is. is.1))

pub record_takes : (bytes : List ℕ) (entry : Record) (rest : List ℕ) → IsBytes bytes → record_at bytes ≡ Some (entry, rest) → (bytes ≡ spelling_of entry ++ rest) × IsRecord entry
record_takes bytes entry rest fits e = let t = record_spelled.takes bytes entry rest fits e in (t.0.parts, t.1)

pub record_again : (entry : Record) (rest : List ℕ) → IsRecord entry → record_at (spelling_of entry ++ rest) ≡ Some (entry, rest)
record_again = record_spelled.again

content_size : (entry : Record) → 30 + length (content_text entry) ≡ record_size entry
content_size (Put lsn id blob) = ap (λ (n : ℕ). 30 + n) (length-blob_text blob)
content_size (Delete lsn id created) = ap (λ (n : ℕ). 30 + n) (length-bytes_high_first 8 created)

pub length-spelling_of : (entry : Record) → IsRecord entry → length (spelling_of entry) ≡ record_size entry
length-spelling_of entry is =
    let a : length (spelling_of entry) ≡ length (start_text (start_of entry)) + length (content_text entry) = ap length (spelling_of-parts entry) ∙ length-append (start_text (start_of entry)) (content_text entry) in
    let b : length (start_text (start_of entry)) ≡ 30 = length-start_text (start_of entry) (start_fits entry is) in
    a ∙ ap (λ (n : ℕ). n + length (content_text entry)) b ∙ content_size entry

-- ---- texts and what they spell

pub fields_of : (text : List ℕ) (entry : Record) → Spells text entry → IsRecord entry
fields_of text entry (Spells.plain fields is) = fields

-- a text is read from the front of bytes
pub text_read : (text : List ℕ) (entry : Record) (rest : List ℕ) → Spells text entry → record_at (text ++ rest) ≡ Some (entry, rest)
text_read text entry rest (Spells.plain fields is) = ap (λ (l : List ℕ). record_at (l ++ rest)) is ∙ record_again entry rest fields

-- no spelling begins another one
pub spellings_apart : (s t : List ℕ) (a b : Record) (x y : List ℕ) → Spells s a → Spells t b → s ++ x ≡ t ++ y → (a ≡ b) × (s ≡ t) × (x ≡ y)
spellings_apart s t a b x y one two e =
    let same : found (a, x) ≡ found (b, y) = sym (text_read s a x one) ∙ ap record_at e ∙ text_read t b y two in
    let pair = same_Some (a, x) (b, y) same in
    let rest : x ≡ y = ap (λ (p : Record × List ℕ). p.1) pair in
    (ap (λ (p : Record × List ℕ). p.0) pair, append_cancel_right s t y (ap (λ (l : List ℕ). s ++ l) (sym rest) ∙ e), rest)

pub text_long : (text : List ℕ) (entry : Record) → Spells text entry → 38 ≤ length text
text_long text (Put lsn id blob) (Spells.plain fields is) = omega (arith, ap length is, length-spelling_of (Put lsn id blob) fields)
text_long text (Delete lsn id created) (Spells.plain fields is) = omega (arith, ap length is, length-spelling_of (Delete lsn id created) fields)

pub text_opens : (text : List ℕ) (entry : Record) (more : List ℕ) → Spells text entry → get_or (text ++ more) 0 0 ≡ 79
text_opens text entry more (Spells.plain fields is) = ap (λ (l : List ℕ). get_or (l ++ more) 0 0) is

-- ---- what a reading of records answers

-- what was read stands in front, and took as many bytes as its text has
pub read_is : (bytes : List ℕ) (entry : Record) (rest : List ℕ) → IsBytes bytes → record_at bytes ≡ Some (entry, rest) → (begins : BeginsWith bytes entry) × (length rest + length begins.text ≡ length bytes)
read_is bytes entry rest fits e =
    let t = record_takes bytes entry rest fits e in
    let a : length bytes ≡ length (spelling_of entry) + length rest = ap length t.0 ∙ length-append (spelling_of entry) rest in
    (record { text = spelling_of entry; spelled = Spells.plain t.1 refl; rest = rest; parts = t.0 }, omega arith)

-- what stands in front is read
pub only_read : (bytes : List ℕ) (entry : Record) (b : BeginsWith bytes entry) → record_at bytes ≡ Some (entry, b.rest)
only_read bytes entry b = ap record_at b.parts ∙ text_read b.text entry b.rest b.spelled

pub read_size : (rest size whole : ℕ) → rest + size ≡ whole → whole - rest ≡ size
read_size rest size whole e = omega arith

abbrev pub answer : Record → ℕ → Option (Record × ℕ)
answer entry size = Some (entry, size)

-- the record that was read is the one that stands in front
pub same_read : (bytes : List ℕ) (read entry : Record) (rest : List ℕ) (n : ℕ) → (begins : BeginsWith bytes entry) → record_at bytes ≡ Some (read, rest) → length rest + n ≡ length bytes → answer read n ≡ answer entry (length begins.text)
same_read bytes read entry rest n begins e size =
    let same : found (read, rest) ≡ found (entry, begins.rest) = sym e ∙ only_read bytes entry begins in
    let pair = same_Some (read, rest) (entry, begins.rest) same in
    let left : length rest ≡ length begins.rest = ap (λ (p : Record × List ℕ). length p.1) pair in
    let whole : length bytes ≡ length begins.text + length begins.rest = ap length begins.parts ∙ length-append begins.text begins.rest in
    let taken : n ≡ length begins.text = omega (arith, size, left, whole) in
    ap (answer read) taken ∙ ap (λ (p : Record × List ℕ). answer p.0 (length begins.text)) pair

-- where nothing was read no record stands in front
pub none_read : (bytes : List ℕ) (entry : Record) → BeginsWith bytes entry → record_at bytes ≡ None → ⊥
none_read bytes entry begins e = let same = sym e ∙ only_read bytes entry begins in absurd cc
