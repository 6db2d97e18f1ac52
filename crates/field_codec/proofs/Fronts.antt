-- The parts of a blob in front of its body, and whole blobs.
use Rattle.std.proofs.Common.{◌≡◌, ◌∙◌, ◌≢◌, ℕ, ◌+◌, ◌^◌, ◌<◌, ◌≤◌, not, nat_le, Bool, true, false, List, [], ◌∷◌, ◌++◌, length, Option, Some, refl, sym, ap, subst, append_assoc, arith, true≢false}
use Rattle.std.proofs.lemmas.Bool.{leb-true, le-leb, and_parts}
use Rattle.std.proofs.lemmas.List.{length-append}
use Rattle.std.proofs.lemmas.Slice.Eq.{bytes_eq-Decides}
use Rattle.std.specs.List.{list_all}
use Rattle.std.specs.Str.{bytes_eq}
use Rattle.byteorder.specs.Endian.{big_bytes}
use Rattle.byteorder.specs.Numbers.{length-bytes_high_first}
use Rattle.blob_id.specs.declared.blob.Blob.{Blob}
use Rattle.blob_id.specs.Blob.{IsBlob, is_type_byte}
use Rattle.field_codec.specs.Spelling.{IsBytes, sized, blob_text, blob_size}
use Rattle.field_codec.specs.Reading.{◌>>=◌, where_true, number_at, piece_at, sized_at, is_type, Front, front_at, blob_at}
use Rattle.field_codec.proofs.Spells.{Spells, number, field, last, last_where, guard, restated, piece, sized_of}

-- ---- types

no_dash : (text : List ℕ) → not (bytes_eq text (45 ∷ [])) ≡ true → text ≢ 45 ∷ []
no_dash text e same = let is : bytes_eq text (45 ∷ []) ≡ true = rw same refl in absurd (true≢false (sym e ∙ ap not is))

dashed : (b : Bool) (text : List ℕ) → (b ≡ true → text ≡ 45 ∷ []) → text ≢ 45 ∷ [] → not b ≡ true
dashed true text same other = absurd (other (same refl))
dashed false text same other = refl

-- ---- fronts

abbrev pub front_text : Front → List ℕ
front_text front = big_bytes 8 front.created ++ (sized 1 front.ctype ++ (sized 2 front.meta ++ big_bytes 4 front.body_len))

pub record IsFront (front : Front) : Type 0 where
  pub created : front.created < 256 ^ 8
  pub type_length : length front.ctype ≤ 64
  pub ctype : is_type front.ctype ≡ true
  pub meta_length : length front.meta ≤ 1024
  pub body_length : front.body_len ≤ 4194304

abbrev front : ℕ → List ℕ → List ℕ → ℕ → Front
front created ctype meta len = record { created = created; ctype = ctype; meta = meta; body_len = len }

pub front_spelled : Spells front_text front_at IsFront
unfolding front_at
front_spelled = restated (λ f. refl)
    (λ f is. record { created = is.0; type_length = is.1.0; ctype = is.1.1.0.0; meta_length = is.1.1.0.1; body_length = leb-true _ _ is.1.1.1.1 })
    (λ f is. (is.created, (is.type_length, ((is.ctype, is.meta_length), (omega (arith, is.body_length), le-leb _ _ is.body_length, refl)))))
    (field (λ f. f.created) (number 8) (λ a. field (λ f. f.ctype) (sized_of 1 64 (omega arith)) (λ t. field (λ f. f.meta) (guard (is_type t) (sized_of 2 1024 (omega arith)))
    (λ m. last_where (λ len. nat_le len 4194304) (λ f. f.body_len) (front a t m) (number 4) (λ c. refl))
    (λ m f is. ap (λ f. f.meta) (sym is.2))) (λ t f is. ap (λ f. f.ctype) (sym is.1.2))) (λ a f is. ap (λ f. f.created) (sym is.1.1.2)))

-- ---- blobs

abbrev pub front_of : Blob → Front
front_of blob = record { created = blob.created; ctype = blob.ctype; meta = blob.meta; body_len = length blob.body }

abbrev pub blob_of : Front → List ℕ → Blob
blob_of front body = record { created = front.created; ctype = front.ctype; meta = front.meta; body = body }

pub blob_text-parts : (blob : Blob) → blob_text blob ≡ front_text (front_of blob) ++ blob.body
blob_text-parts blob = parts (big_bytes 8 blob.created) (sized 1 blob.ctype) (sized 2 blob.meta) (big_bytes 4 (length blob.body)) blob.body
  where
    parts : (a b c d e : List ℕ) → a ++ (b ++ (c ++ (d ++ e))) ≡ (a ++ (b ++ (c ++ d))) ++ e
    parts a b c d e = simp append_assoc

pub front_is_blob : (front : Front) (body : List ℕ) → IsFront front → length body ≡ front.body_len → IsBlob (blob_of front body)
front_is_blob front body is len =
    let t = and_parts (list_all is_type_byte front.ctype) (not (bytes_eq front.ctype (45 ∷ []))) is.ctype in
    record {
      created = is.created;
      type_length = is.type_length;
      type_bytes = t.0;
      no_dash = no_dash front.ctype t.1;
      meta_length = is.meta_length;
      body_length = omega (arith, is.body_length);
    }

pub blob_is_front : (blob : Blob) → IsBlob blob → IsFront (front_of blob)
blob_is_front blob is =
    let dash : not (bytes_eq blob.ctype (45 ∷ [])) ≡ true = dashed (bytes_eq blob.ctype (45 ∷ [])) blob.ctype (bytes_eq-Decides blob.ctype (45 ∷ [])).0 is.no_dash in
    record {
      created = is.created;
      type_length = is.type_length;
      ctype = rw (is.type_bytes, dash) refl;
      meta_length = is.meta_length;
      body_length = is.body_length;
    }

pub blob_spelled : Spells blob_text blob_at IsBlob
unfolding blob_at
blob_spelled = restated (λ b. sym (blob_text-parts b)) (λ b is. subst IsBlob is.1.1 (front_is_blob (front_of b) b.body is.0 is.1.0)) (λ b is. (blob_is_front b is, (refl, refl)))
    (field front_of front_spelled (λ f. last (λ b. b.body) (blob_of f) (piece f.body_len) (λ c. refl))
    (λ f b is. ap front_of (sym is.1) ∙ ap (λ (n : ℕ). front f.created f.ctype f.meta n) is.0))

length_sized : (n : ℕ) (text : List ℕ) → length (sized n text) ≡ n + length text
length_sized n text = length-append (big_bytes n (length text)) text ∙ ap (λ (k : ℕ). k + length text) (length-bytes_high_first n (length text))

pub length-front_text : (front : Front) → length (front_text front) ≡ 15 + length front.ctype + length front.meta
length-front_text front = sizes (big_bytes 8 front.created) (sized 1 front.ctype) (sized 2 front.meta) (big_bytes 4 front.body_len) (length front.ctype) (length front.meta)
    (length-bytes_high_first 8 front.created) (length_sized 1 front.ctype) (length_sized 2 front.meta) (length-bytes_high_first 4 front.body_len)
  where
    sizes : (a b c d : List ℕ) (m n : ℕ) → length a ≡ 8 → length b ≡ 1 + m → length c ≡ 2 + n → length d ≡ 4 → length (a ++ (b ++ (c ++ d))) ≡ 15 + m + n
    sizes a b c d m n la lb lc ld = omega (arith, length-append a (b ++ (c ++ d)), length-append b (c ++ d), length-append c d)

pub length-blob_text : (blob : Blob) → length (blob_text blob) ≡ blob_size blob
length-blob_text blob =
    let e : length (blob_text blob) ≡ length (front_text (front_of blob)) + length blob.body = ap length (blob_text-parts blob) ∙ length-append (front_text (front_of blob)) blob.body in
    let f : length (front_text (front_of blob)) ≡ 15 + length blob.ctype + length blob.meta = length-front_text (front_of blob) in
    omega arith
