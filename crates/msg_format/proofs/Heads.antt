-- The head of a record, read from the first of the bytes alone.
use Rattle.std.proofs.Common.{◌≡◌, ◌∙◌, inl, inr, ℕ, ◌+◌, ◌≤◌, min, nat_le, Bool, true, false, List, [], ◌++◌, length, take, drop, Option, Some, None, refl, sym, ap, subst, append_assoc, arith}
use Rattle.std.proofs.lemmas.Bool.{cases_lt, leb-true, le-leb}
use Rattle.std.proofs.lemmas.List.{length-append, append-nil, nil_from_length, take-append-drop, length-take}
use Rattle.std.specs.Option.{IfSome}
use Rattle.byteorder.specs.Endian.{big_bytes}
use Rattle.blob_id.specs.declared.blob.Blob.{Blob}
use Rattle.field_codec.specs.Spelling.{IsBytes, blob_text}
use Rattle.field_codec.specs.Reading.{◌>>=◌, where_true, number_at, Front, front_at}
use Rattle.std.proofs.lemmas.Option.{same_Some}
use Rattle.field_codec.proofs.Tools.{bind_some, bind_is, where_some, found}
use Rattle.field_codec.proofs.Fields.{number_takes, number_again}
use Rattle.field_codec.proofs.Fronts.{front_text, front_of, blob_of, front_spelled, front_is_blob, blob_is_front, blob_text-parts, length-front_text}
use Rattle.field_codec.proofs.Firsts.{grown, number_first, front_first}
use Rattle.msg_format.specs.declared.record.Record.{Record}
use Rattle.msg_format.specs.declared.record.Record.TheVariants.{Put, Delete}
use Rattle.msg_format.specs.declared.record.Head.{Head}
use Rattle.msg_format.specs.declared.record.Start.{Start}
use Rattle.msg_format.specs.Records.{content_text, lsn_of, id_of, is_gone, spelling_of, record_size, head_of, IsContent, IsRecord, Spells, BeginsWith}
use Rattle.msg_format.specs.Reading.{start_at, put_size, put_head, content_head, head_at}
use Rattle.msg_format.proofs.Starts.{start_text, IsStart, start_takes, start_again, start_first, length-start_text}
use Rattle.msg_format.proofs.Spelled.{start_of, start_fits, record_fits, spelling_of-parts, length-spelling_of}

head_is : (len : ℕ) (bytes : List ℕ) → head_at len bytes ≡ (start_at bytes >>= λ start. content_head len start.0 start.1)
unfolding head_at
head_is len bytes = refl

-- ---- more bytes change nothing

only_first : {A B : Type 0} (o : Option (A × List ℕ)) (more : List ℕ) (view : A → Option B) → (grown more o >>= λ p. view p.0) ≡ (o >>= λ p. view p.0)
only_first (Some p) more view = refl
only_first None more view = refl

content_stays : (len : ℕ) (gone : Bool) (lsn : ℕ) (id front more : List ℕ) → 1103 ≤ length front
    → content_head len (record { gone = gone; lsn = lsn; id = id }) (front ++ more) ≡ content_head len (record { gone = gone; lsn = lsn; id = id }) front
unfolding content_head
content_stays len true lsn id front more long =
    let head : Head = record { lsn = lsn; id = id; gone = true; len = 38 } in
    ap (λ (o : Option (ℕ × List ℕ)). o >>= λ _. found head) ((number_first 8).same front more (omega arith)) ∙ only_first (number_at 8 front) more (λ _. found head)
content_stays len false lsn id front more long =
    let start : Start = record { gone = false; lsn = lsn; id = id } in
    ap (λ (o : Option (Front × List ℕ)). o >>= λ f. put_head len start f.0) (front_first.same front more long) ∙ only_first (front_at front) more (put_head len start)

start_stays : (len : ℕ) (o : Option (Start × List ℕ)) (more : List ℕ) → ((start : Start) (rest : List ℕ) → o ≡ Some (start, rest) → 1103 ≤ length rest)
    → (grown more o >>= λ s. content_head len s.0 s.1) ≡ (o >>= λ s. content_head len s.0 s.1)
start_stays len (Some s) more long = content_stays len (s.0).gone (s.0).lsn (s.0).id s.1 more (long s.0 s.1 refl)
start_stays len None more long = refl

head_stays : (len : ℕ) (front more : List ℕ) → 1133 ≤ length front → head_at len (front ++ more) ≡ head_at len front
head_stays len front more long =
    let first = start_first in
    head_is len (front ++ more)
    ∙ ap (λ (o : Option (Start × List ℕ)). o >>= λ s. content_head len s.0 s.1) (first.same front more (omega arith))
    ∙ start_stays len (start_at front) more (λ start rest e. let l = first.left front start rest e in omega arith)
    ∙ sym (head_is len front)

-- with all of the bytes at hand, or enough of them
head_enough : (len : ℕ) (front more : List ℕ) → min 1133 len ≤ length front → length front + length more ≡ len → head_at len (front ++ more) ≡ head_at len front
head_enough len front more enough all = elim (cases_lt (length front) 1133) [
  | inl short ↦ let nothing : more ≡ [] = nil_from_length more (omega arith) in ap (λ (x : List ℕ). head_at len (front ++ x)) nothing ∙ ap (head_at len) (append-nil front)
  | inr long ↦ head_stays len front more long
]

-- ---- a record in front has its head

put_size_of : (blob : Blob) → put_size (front_of blob) ≡ 30 + (15 + length blob.ctype + length blob.meta + length blob.body)
put_size_of blob = omega arith

-- the head of a record which so many bytes spell
abbrev head_with : Record → ℕ → Head
head_with entry size = record { lsn = lsn_of entry; id = id_of entry; gone = is_gone entry; len = size }

content_head_again : (len : ℕ) (entry : Record) (rest : List ℕ) → IsContent entry → record_size entry ≤ len → content_head len (start_of entry) (content_text entry ++ rest) ≡ Some (head_with entry (record_size entry))
unfolding content_head
content_head_again len (Put lsn id blob) rest is le =
    let front = front_of blob in
    let start : Start = record { gone = false; lsn = lsn; id = id } in
    let split : blob_text blob ++ rest ≡ front_text front ++ (blob.body ++ rest) = ap (λ (x : List ℕ). x ++ rest) (blob_text-parts blob) ∙ append_assoc (front_text front) blob.body rest in
    let small : nat_le (put_size front) len ≡ true = le-leb (put_size front) len (omega (arith, put_size_of blob)) in
    let head = λ (n : ℕ). let h : Head = record { lsn = lsn; id = id; gone = false; len = n } in found h in
    ap (λ (x : List ℕ). front_at x >>= λ f. put_head len start f.0) split
    ∙ bind_is (front_at (front_text front ++ (blob.body ++ rest))) (λ f. put_head len start f.0) (front, blob.body ++ rest) (front_spelled.again front (blob.body ++ rest) (blob_is_front blob is))
    ∙ ap (λ (b : Bool). where_true b (head (put_size front))) small ∙ ap head (put_size_of blob)
content_head_again len (Delete lsn id created) rest is le =
    let head : Head = record { lsn = lsn; id = id; gone = true; len = 38 } in
    bind_is (number_at 8 (big_bytes 8 created ++ rest)) (λ _. found head) (created, rest) (number_again 8 created rest is)

head_again : (len : ℕ) (entry : Record) (rest : List ℕ) → IsRecord entry → record_size entry ≤ len → head_at len (spelling_of entry ++ rest) ≡ Some (head_with entry (record_size entry))
head_again len entry rest is le =
    let start = start_of entry in
    let text = content_text entry in
    let split : spelling_of entry ++ rest ≡ start_text start ++ (text ++ rest) = ap (λ (x : List ℕ). x ++ rest) (spelling_of-parts entry) ∙ append_assoc (start_text start) text rest in
    ap (head_at len) split ∙ head_is len (start_text start ++ (text ++ rest))
    ∙ bind_is (start_at (start_text start ++ (text ++ rest))) (λ s. content_head len s.0 s.1) (start, text ++ rest) (start_again start (text ++ rest) (start_fits entry is))
    ∙ content_head_again len entry rest is.content le

text_head : (len : ℕ) (text : List ℕ) (entry : Record) (rest : List ℕ) → Spells text entry → length text ≤ len → head_at len (text ++ rest) ≡ Some (head_of entry text)
text_head len text entry rest (Spells.plain fields is) le =
    let size : length text ≡ record_size entry = ap length is ∙ length-spelling_of entry fields in
    ap (λ (l : List ℕ). head_at len (l ++ rest)) is ∙ head_again len entry rest fields (omega arith) ∙ ap (λ (n : ℕ). found (head_with entry n)) (sym size)

pub head_only : (front more : List ℕ) (len : ℕ) (entry : Record) → min 1133 len ≤ length front → length front + length more ≡ len → (begins : BeginsWith (front ++ more) entry) → head_at len front ≡ Some (head_of entry begins.text)
head_only front more len entry enough all b =
    let whole : length front + length more ≡ length b.text + length b.rest = sym (length-append front more) ∙ ap length b.parts ∙ length-append b.text b.rest in
    sym (head_enough len front more enough all) ∙ ap (head_at len) b.parts ∙ text_head len b.text entry b.rest b.spelled (omega arith)

-- ---- a head is that of a record in front

-- a record of this start stands in front of the bytes behind the start
record HasContent (start : Start) (bytes : List ℕ) (head : Head) : Type 0 where
  entry : Record
  start_is : start_of entry ≡ start
  content : IsContent entry
  rest : List ℕ
  parts : bytes ≡ content_text entry ++ rest
  head_is : head ≡ head_with entry (record_size entry)

delete_head : (len lsn : ℕ) (id front more : List ℕ) (head : Head) → IsBytes front → content_head len (record { gone = true; lsn = lsn; id = id }) front ≡ Some head
    → HasContent (record { gone = true; lsn = lsn; id = id }) (front ++ more) head
unfolding content_head
delete_head len lsn id front more head fits e =
    let made : Head = record { lsn = lsn; id = id; gone = true; len = 38 } in
    let b = bind_some (number_at 8 front) (λ _. found made) head e in
    let t = number_takes 8 front b.0.0 b.0.1 fits b.1 in
    record {
      entry = Delete lsn id b.0.0;
      start_is = refl;
      content = t.1;
      rest = b.0.1 ++ more;
      parts = ap (λ (x : List ℕ). x ++ more) t.0.parts ∙ append_assoc (big_bytes 8 b.0.0) b.0.1 more;
      head_is = sym (same_Some made head b.2);
    }

put_head_is : (len lsn : ℕ) (id front more : List ℕ) (head : Head) → IsBytes front → length front + length more + 30 ≡ len → content_head len (record { gone = false; lsn = lsn; id = id }) front ≡ Some head
    → HasContent (record { gone = false; lsn = lsn; id = id }) (front ++ more) head
unfolding content_head
put_head_is len lsn id front more head fits all e =
    let start : Start = record { gone = false; lsn = lsn; id = id } in
    let b = bind_some (front_at front) (λ f. put_head len start f.0) head e in
    let f = b.0.0 in
    let made : Head = record { lsn = lsn; id = id; gone = false; len = put_size f } in
    let w = where_some (nat_le (put_size f) len) (found made) head b.2 in
    let le : put_size f ≤ len = leb-true _ _ w.0 in
    let t = front_spelled.takes front f b.0.1 fits b.1 in
    let behind = b.0.1 ++ more in
    let size : length front ≡ length (front_text f) + length b.0.1 = ap length t.0.parts ∙ length-append (front_text f) b.0.1 in
    let texts : length (front_text f) ≡ 15 + length f.ctype + length f.meta = length-front_text f in
    let there : length behind ≡ length b.0.1 + length more = length-append b.0.1 more in
    let body = take f.body_len behind in
    let body_is : length body ≡ f.body_len = omega (arith, length-take f.body_len behind) in
    let blob = blob_of f body in
    let same : front_of blob ≡ f = ap (λ (n : ℕ). record { created = f.created; ctype = f.ctype; meta = f.meta; body_len = n }) body_is in
    let rest = drop f.body_len behind in
    let joined : front ++ more ≡ front_text f ++ behind = ap (λ (x : List ℕ). x ++ more) t.0.parts ∙ append_assoc (front_text f) b.0.1 more in
    let cut : behind ≡ body ++ rest = sym (take-append-drop f.body_len behind) in
    let text : front_text f ++ (body ++ rest) ≡ blob_text blob ++ rest =
    sym (append_assoc (front_text f) body rest) ∙ ap (λ (x : Front). (front_text x ++ body) ++ rest) (sym same) ∙ ap (λ (x : List ℕ). x ++ rest) (sym (blob_text-parts blob)) in
    let head_size : put_size f ≡ record_size (Put lsn id blob) = omega arith in
    record {
      entry = Put lsn id blob;
      start_is = refl;
      content = front_is_blob f body t.1 body_is;
      rest = rest;
      parts = joined ∙ ap (λ (x : List ℕ). front_text f ++ x) cut ∙ text;
      head_is = sym (same_Some made head w.1) ∙ ap (λ (n : ℕ). record { lsn = lsn; id = id; gone = false; len = n }) head_size;
    }

has_content : (len : ℕ) (gone : Bool) (lsn : ℕ) (id front more : List ℕ) (head : Head) → IsBytes front → length front + length more + 30 ≡ len → content_head len (record { gone = gone; lsn = lsn; id = id }) front ≡ Some head
    → HasContent (record { gone = gone; lsn = lsn; id = id }) (front ++ more) head
has_content len true lsn id front more head fits all e = delete_head len lsn id front more head fits e
has_content len false lsn id front more head fits all e = put_head_is len lsn id front more head fits all e

pub head_found : (front more : List ℕ) (len : ℕ) (head : Head) → IsBytes front → length front + length more ≡ len → head_at len front ≡ Some head → (entry : Record) × (begins : BeginsWith (front ++ more) entry) × (head ≡ head_of entry begins.text)
head_found front more len head fits all e =
    let a = bind_some (start_at front) (λ s. content_head len s.0 s.1) head (sym (head_is len front) ∙ e) in
    let s = a.0.0 in
    let t = start_takes front s a.0.1 fits a.1 in
    let size : length front ≡ length (start_text s) + length a.0.1 = ap length t.0.parts ∙ length-append (start_text s) a.0.1 in
    let thirty : length (start_text s) ≡ 30 = length-start_text s t.1 in
    let c = has_content len s.gone s.lsn s.id a.0.1 more head t.0.rest_fits (omega arith) a.2 in
    let start : IsStart (start_of c.entry) = subst IsStart (sym c.start_is) t.1 in
    let text : start_text s ++ (content_text c.entry ++ c.rest) ≡ spelling_of c.entry ++ c.rest =
    sym (append_assoc (start_text s) (content_text c.entry) c.rest)
    ∙ ap (λ (x : Start). (start_text x ++ content_text c.entry) ++ c.rest) (sym c.start_is)
    ∙ ap (λ (x : List ℕ). x ++ c.rest) (sym (spelling_of-parts c.entry)) in
    let joined : front ++ more ≡ start_text s ++ (a.0.1 ++ more) = ap (λ (x : List ℕ). x ++ more) t.0.parts ∙ append_assoc (start_text s) a.0.1 more in
    let fields : IsRecord c.entry = record_fits c.entry start c.content in (
      c.entry,
      record { text = spelling_of c.entry; spelled = Spells.plain fields refl; rest = c.rest; parts = joined ∙ ap (λ (x : List ℕ). start_text s ++ x) c.parts ∙ text },
      c.head_is ∙ ap (head_with c.entry) (sym (length-spelling_of c.entry fields)),
    )

pub head_if : (front more : List ℕ) (len : ℕ) (told : Option Head) → IsBytes front → length front + length more ≡ len → told ≡ head_at len front → IfSome told (λ head. (entry : Record) × (begins : BeginsWith (front ++ more) entry) × (head ≡ head_of entry begins.text))
head_if front more len (Some head) fits all e = head_found front more len head fits all (sym e)
head_if front more len None fits all e = tt
