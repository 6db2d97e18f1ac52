-- The laws of a format: what is read is spelled so, and what is spelled so is read. The lemmas follow the lines of a reading, one each.
use Rattle.std.proofs.Common.{◌≡◌, ◌∙◌, ℕ, ◌^◌, ◌<◌, ◌≤◌, Bool, true, false, inl, inr, ◌⊎◌, cond, List, [], ◌++◌, length, Option, Some, None, refl, sym, ap, subst, append_assoc, arith, nat_eq, eqb-true}
use Rattle.std.proofs.lemmas.Bool.{true≢false}
use Rattle.std.proofs.lemmas.List.{append-nil, nil_from_length}
use Rattle.std.proofs.lemmas.Option.{same_Some}
use Rattle.std.specs.Option.{IfSome, option_map}
use Rattle.byteorder.specs.Endian.{big_bytes}
use Rattle.blob_id.specs.Id.{IsId}
use Rattle.field_codec.specs.Spelling.{IsBytes, sized}
use Rattle.field_codec.specs.Reading.{◌>>=◌, where_true, number_at, piece_at, sized_at, id_at}
use Rattle.field_codec.proofs.Tools.{bind_some, bind_is, where_some, found, Takes, Takes-then}
use Rattle.field_codec.proofs.Fields.{number_takes, number_again, piece_takes, piece_again, sized_takes, sized_again, id_takes, id_again}

-- Each value of V that is one by `Is` has its text, and is read from the front of bytes exactly where that text stands there.
pub record Spells {V : Type 0} (text : V → List ℕ) (read : List ℕ → Option (V × List ℕ)) (Is : V → Type 0) : Type 0 where
  pub takes : (bytes : List ℕ) (v : V) (rest : List ℕ) → IsBytes bytes → read bytes ≡ Some (v, rest) → Takes bytes (text v) rest × Is v
  pub again : (v : V) (rest : List ℕ) → Is v → read (text v ++ rest) ≡ Some (v, rest)

-- ---- fields

pub number : (n : ℕ) → Spells (big_bytes n) (number_at n) (λ m. m < 256 ^ n)
number n = record { takes = number_takes n; again = number_again n }

pub piece : (n : ℕ) → Spells (λ (text : List ℕ). text) (piece_at n) (λ text. length text ≡ n)
piece n = record { takes = λ bytes v rest fits e. let t = piece_takes n bytes v rest fits e in (t.0, t.1); again = piece_again n }

pub sized_of : (n limit : ℕ) → limit < 256 ^ n → Spells (sized n) (sized_at n limit) (λ text. length text ≤ limit)
sized_of n limit lt = record { takes = sized_takes n limit; again = λ v rest is. sized_again n limit v rest (omega (arith, lt)) is }

pub id : Spells (λ (bytes : List ℕ). bytes) id_at IsId
id = record { takes = id_takes; again = id_again }

-- a value of no bytes
pub done : {V : Type 0} (value : V) → Spells (λ v. []) (λ bytes. Some (value, bytes)) (λ v. value ≡ v)
done value = record {
  takes = λ bytes v rest fits e.
      let pair : _ × List ℕ = (value, bytes) in
      subst (λ q. Takes bytes [] q.1 × (value ≡ q.0)) (same_Some pair (v, rest) e) (record { parts = refl; rest_fits = fits }, refl);
  again = λ v rest is. ap (λ x. found (x, rest)) is;
}

-- ---- the lines of a reading

-- the same in other words
pub restated : {V : Type 0} {t u : V → List ℕ} {r : List ℕ → Option (V × List ℕ)} {P Q : V → Type 0} → ((v : V) → t v ≡ u v) → ((v : V) → P v → Q v) → ((v : V) → Q v → P v) → Spells t r P → Spells u r Q
restated {r = r} same there back f = record {
  takes = λ bytes v rest fits e. let w = f.takes bytes v rest fits e in (subst (λ x. Takes bytes x rest) (same v) w.0, there v w.1);
  again = λ v rest is. ap (λ x. r (x ++ rest)) (sym (same v)) ∙ f.again v rest (back v is);
}

-- the same read in another way
pub reread : {V : Type 0} {t : V → List ℕ} {r s : List ℕ → Option (V × List ℕ)} {P : V → Type 0} → ((bytes : List ℕ) → s bytes ≡ r bytes) → Spells t r P → Spells t s P
reread {t = t} same f = record { takes = λ bytes v rest fits e. f.takes bytes v rest fits (sym (same bytes) ∙ e); again = λ v rest is. same (t v ++ rest) ∙ f.again v rest is }

-- a field, and the rest of the value behind it
pub field : {A V : Type 0} {tA : A → List ℕ} {rA : List ℕ → Option (A × List ℕ)} {PA : A → Type 0} {t : V → List ℕ} {r : A → List ℕ → Option (V × List ℕ)} {P : A → V → Type 0} (get : V → A)
    → Spells tA rA PA → ((a : A) → Spells t (r a) (P a)) → ((a : A) (v : V) → P a v → get v ≡ a)
    → Spells (λ v. tA (get v) ++ t v) (λ bytes. rA bytes >>= λ a. r a.0 a.1) (λ v. PA (get v) × P (get v) v)
field {tA = tA} {rA = rA} {PA = PA} {t = t} {r = r} {P = P} get f g same = record {
  takes = λ bytes v rest fits e.
      let a = bind_some (rA bytes) (λ a. r a.0 a.1) (v, rest) e in
      let u = f.takes bytes a.0.0 a.0.1 fits a.1 in
      let w = (g a.0.0).takes a.0.1 v rest u.0.rest_fits a.2 in
      let is = sym (same a.0.0 v w.1) in
      (Takes-then bytes (tA (get v)) a.0.1 (t v) rest (subst (λ x. Takes bytes (tA x) a.0.1) is u.0) w.0, (subst PA is u.1, subst (λ x. P x v) is w.1));
  again = λ v rest is.
      ap (λ bytes. rA bytes >>= λ a. r a.0 a.1) (append_assoc (tA (get v)) (t v) rest)
      ∙ bind_is (rA (tA (get v) ++ (t v ++ rest))) (λ a. r a.0 a.1) (get v, t v ++ rest) (f.again (get v) (t v ++ rest) is.0)
      ∙ (g (get v)).again v rest is.1;
}

-- the values that are made of others which meet a test, among all of their type
pub made_where : {A V : Type 0} {tA : A → List ℕ} {rA : List ℕ → Option (A × List ℕ)} {PA : A → Type 0} (test : A → Bool) (t : V → List ℕ) (make : A → V) → ((a : A) → t (make a) ≡ tA a) → Spells tA rA PA
    → Spells t (λ bytes. rA bytes >>= λ a. where_true (test a.0) (Some (make a.0, a.1))) (λ v. (a : A) × PA a × (test a ≡ true) × (make a ≡ v))
made_where {tA = tA} {rA = rA} {PA = PA} test t make same f = record {
  takes = λ bytes v rest fits e.
      let a = bind_some (rA bytes) (λ a. where_true (test a.0) (Some (make a.0, a.1))) (v, rest) e in
      let pair : _ × List ℕ = (make a.0.0, a.0.1) in
      let w = where_some (test a.0.0) (found pair) (v, rest) a.2 in
      let u = f.takes bytes a.0.0 a.0.1 fits a.1 in
      let is = same_Some pair (v, rest) w.1 in
      (subst (λ q. Takes bytes (t q.0) q.1) is (subst (λ x. Takes bytes x a.0.1) (sym (same a.0.0)) u.0), (a.0.0, u.1, w.0, ap (λ q. q.0) is));
  again = λ v rest is.
      ap (λ x. rA (x ++ rest) >>= λ a. where_true (test a.0) (Some (make a.0, a.1))) (ap t (sym is.3) ∙ same is.0)
      ∙ bind_is (rA (tA is.0 ++ rest)) (λ a. where_true (test a.0) (Some (make a.0, a.1))) (is.0, rest) (f.again is.0 rest is.1)
      ∙ ap (λ (b : Bool). where_true b (found (make is.0, rest))) is.2 ∙ ap (λ x. found (x, rest)) is.3;
}

-- those of one variant, say
pub made_of : {A V : Type 0} {tA : A → List ℕ} {rA : List ℕ → Option (A × List ℕ)} {PA : A → Type 0} (t : V → List ℕ) (make : A → V) → ((a : A) → t (make a) ≡ tA a) → Spells tA rA PA
    → Spells t (λ bytes. rA bytes >>= λ a. Some (make a.0, a.1)) (λ v. (a : A) × PA a × (make a ≡ v))
made_of t make same f = restated (λ v. refl) (λ v is. (is.0, is.1, is.3)) (λ v is. (is.0, is.1, refl, is.2)) (made_where (λ a. true) t make same f)

-- a value of two parts, of which the first may say how the second is read
pub made_of_two : {A B V : Type 0} {tA : A → List ℕ} {rA : List ℕ → Option (A × List ℕ)} {PA : A → Type 0} {tB : B → List ℕ} {rB : A → List ℕ → Option (B × List ℕ)} {PB : A → B → Type 0} (t : V → List ℕ) (make : A → B → V)
    → ((a : A) (b : B) → t (make a b) ≡ tA a ++ tB b) → Spells tA rA PA → ((a : A) → Spells tB (rB a) (PB a))
    → Spells t (λ bytes. rA bytes >>= λ a. rB a.0 a.1 >>= λ b. Some (make a.0 b.0, b.1)) (λ v. (a : A) × (b : B) × PA a × PB a b × (make a b ≡ v))
made_of_two {V = V} {tA = tA} {rA = rA} {tB = tB} {rB = rB} t make same f g = record {
  takes = λ bytes v rest fits e.
      let a = bind_some (rA bytes) (λ a. rB a.0 a.1 >>= λ b. Some (make a.0 b.0, b.1)) (v, rest) e in
      let b = bind_some (rB a.0.0 a.0.1) (λ b. Some (make a.0.0 b.0, b.1)) (v, rest) a.2 in
      let u = f.takes bytes a.0.0 a.0.1 fits a.1 in
      let w = (g a.0.0).takes a.0.1 b.0.0 b.0.1 u.0.rest_fits b.1 in
      let pair : V × List ℕ = (make a.0.0 b.0.0, b.0.1) in
      let is = same_Some pair (v, rest) b.2 in
      let both = Takes-then bytes (tA a.0.0) a.0.1 (tB b.0.0) b.0.1 u.0 w.0 in
      (subst (λ q. Takes bytes (t q.0) q.1) {x = pair} {y = (v, rest)} is (subst (λ x. Takes bytes x b.0.1) {x = tA a.0.0 ++ tB b.0.0} {y = t (make a.0.0 b.0.0)} (sym (same a.0.0 b.0.0)) both), (a.0.0, b.0.0, u.1, w.1, ap (λ q. q.0) {x = pair} {y = (v, rest)} is));
  again = λ v rest is.
      let text : t v ++ rest ≡ tA is.0 ++ (tB is.1 ++ rest) = ap (λ x. x ++ rest) (ap t (sym is.4) ∙ same is.0 is.1) ∙ append_assoc (tA is.0) (tB is.1) rest in
      ap (λ x. rA x >>= λ a. rB a.0 a.1 >>= λ b. Some (make a.0 b.0, b.1)) text
      ∙ bind_is (rA (tA is.0 ++ (tB is.1 ++ rest))) (λ a. rB a.0 a.1 >>= λ b. Some (make a.0 b.0, b.1)) (is.0, tB is.1 ++ rest) (f.again is.0 (tB is.1 ++ rest) is.2)
      ∙ bind_is (rB is.0 (tB is.1 ++ rest)) (λ b. Some (make is.0 b.0, b.1)) (is.1, rest) ((g is.0).again is.1 rest is.3)
      ∙ ap (λ x. found (x, rest)) is.4;
}

-- the same as made_of, written by option_map
pub mapped : {A V : Type 0} {tA : A → List ℕ} {rA : List ℕ → Option (A × List ℕ)} {PA : A → Type 0} (t : V → List ℕ) (make : A → V) → ((a : A) → t (make a) ≡ tA a) → Spells tA rA PA
    → Spells t (λ bytes. option_map {U = V × List ℕ} (λ (a : A × List ℕ). (make a.0, a.1)) (rA bytes)) (λ v. (a : A) × PA a × (make a ≡ v))
mapped {A = A} {V = V} {rA = rA} t make same f = reread (λ bytes. map_is (rA bytes)) (made_of t make same f)
  where
    map_is : (o : Option (A × List ℕ)) → option_map {U = V × List ℕ} (λ (a : A × List ℕ). (make a.0, a.1)) o ≡ (o >>= λ a. Some (make a.0, a.1))
    map_is (Some a) = refl
    map_is None = refl

-- the last field, where it meets a test
pub last_where : {A V : Type 0} {tA : A → List ℕ} {rA : List ℕ → Option (A × List ℕ)} {PA : A → Type 0} (test : A → Bool) (get : V → A) (make : A → V) → Spells tA rA PA → ((a : A) → get (make a) ≡ a)
    → Spells (λ v. tA (get v)) (λ bytes. rA bytes >>= λ a. where_true (test a.0) (Some (make a.0, a.1))) (λ v. PA (get v) × (test (get v) ≡ true) × (make (get v) ≡ v))
last_where {V = V} {tA = tA} {PA = PA} test get make f forth =
    restated (λ v. refl) there (λ v is. (get v, is.0, is.1, is.2)) (made_where test (λ v. tA (get v)) make (λ a. ap tA (forth a)) f)
  where
    there : (v : V) → (a : _) × PA a × (test a ≡ true) × (make a ≡ v) → PA (get v) × (test (get v) ≡ true) × (make (get v) ≡ v)
    there v is = let same = sym (ap get (sym is.3) ∙ forth is.0) in (subst PA same is.1, subst (λ a. test a ≡ true) same is.2, subst (λ a. make a ≡ v) same is.3)

-- the last field
pub last : {A V : Type 0} {tA : A → List ℕ} {rA : List ℕ → Option (A × List ℕ)} {PA : A → Type 0} (get : V → A) (make : A → V) → Spells tA rA PA → ((a : A) → get (make a) ≡ a)
    → Spells (λ v. tA (get v)) (λ bytes. rA bytes >>= λ a. Some (make a.0, a.1)) (λ v. PA (get v) × (make (get v) ≡ v))
last get make f forth = restated (λ v. refl) (λ v is. (is.0, is.2)) (λ v is. (is.0, refl, is.1)) (last_where (λ a. true) get make f forth)

-- a line that is read where a test holds
pub guard : {V : Type 0} {t : V → List ℕ} {r : List ℕ → Option (V × List ℕ)} {P : V → Type 0} (test : Bool) → Spells t r P → Spells t (λ bytes. where_true test (r bytes)) (λ v. (test ≡ true) × P v)
guard {t = t} {r = r} test f = record {
  takes = λ bytes v rest fits e. let w = where_some test (r bytes) (v, rest) e in let u = f.takes bytes v rest fits w.1 in (u.0, (w.0, u.1));
  again = λ v rest is. ap (λ (b : Bool). where_true b (r (t v ++ rest))) is.0 ∙ f.again v rest is.1;
}

-- a line that finds something without taking bytes
pub step : {B V : Type 0} {t : V → List ℕ} {r : B → List ℕ → Option (V × List ℕ)} {P : B → V → Type 0} (o : Option B) → ((b : B) → Spells t (r b) (P b)) → Spells t (λ bytes. o >>= λ b. r b bytes) (λ v. (b : B) × (o ≡ Some b) × P b v)
step {r = r} o each = record {
  takes = λ bytes v rest fits e.
      let a = bind_some o (λ b. r b bytes) (v, rest) e in
      let u = (each a.0).takes bytes v rest fits a.2 in
      (u.0, (a.0, a.1, u.1));
  again = λ v rest is. bind_is o (λ b. r b _) is.0 is.1 ∙ (each is.0).again v rest is.2;
}

-- one of two
pub branch : {V : Type 0} {t : V → List ℕ} {r s : List ℕ → Option (V × List ℕ)} {P Q : V → Type 0} (test : Bool) → Spells t r P → Spells t s Q
    → Spells t (λ bytes. cond test (r bytes) (s bytes)) (λ v. ((test ≡ true) × P v) ⊎ ((test ≡ false) × Q v))
branch true f g = record {
  takes = λ bytes v rest fits e. let u = f.takes bytes v rest fits e in (u.0, inl (refl, u.1));
  again = λ v rest. elim [ inl h ↦ f.again v rest h.1 | inr h ↦ absurd (true≢false h.0) ];
}
branch false f g = record {
  takes = λ bytes v rest fits e. let u = g.takes bytes v rest fits e in (u.0, inr (refl, u.1));
  again = λ v rest. elim [ inl h ↦ absurd (true≢false (sym h.0)) | inr h ↦ g.again v rest h.1 ];
}

-- ---- what follows

-- no spelling begins another one
pub apart : {V : Type 0} {t : V → List ℕ} {r : List ℕ → Option (V × List ℕ)} {P : V → Type 0} → Spells t r P → (v w : V) (x y : List ℕ) → P v → P w → t v ++ x ≡ t w ++ y → (v ≡ w) × (x ≡ y)
apart {r = r} f v w x y hv hw e =
    let pair = same_Some (v, x) (w, y) (sym (f.again v x hv) ∙ ap r e ∙ f.again w y hw) in
    (ap (λ p. p.0) pair, ap (λ p. p.1) pair)

-- the value that all of the bytes spell, where it meets a test
abbrev pub whole : {V : Type 0} → (List ℕ → Option (V × List ℕ)) → (V → Bool) → List ℕ → Option V
whole read test bytes = read bytes >>= λ v. where_true (nat_eq (length v.1) 0) (where_true (test v.0) (Some v.0))

pub whole_is_spelled : {V : Type 0} {t : V → List ℕ} {r : List ℕ → Option (V × List ℕ)} {P : V → Type 0} (Q : V → Type 0) (test : V → Bool) → ((v : V) → P v → test v ≡ true → Q v) → Spells t r P
    → (bytes : List ℕ) (told : Option V) → IsBytes bytes → told ≡ whole r test bytes → IfSome told (λ v. Q v × (bytes ≡ t v))
whole_is_spelled {t = t} {r = r} Q test sound f bytes (Some v) fits e =
    let a = bind_some (r bytes) (λ v. where_true (nat_eq (length v.1) 0) (where_true (test v.0) (Some v.0))) v (sym e) in
    let w = where_some (nat_eq (length a.0.1) 0) (where_true (test a.0.0) (found a.0.0)) v a.2 in
    let x = where_some (test a.0.0) (found a.0.0) v w.1 in
    let u = f.takes bytes a.0.0 a.0.1 fits a.1 in
    let nothing : a.0.1 ≡ [] = nil_from_length a.0.1 (eqb-true _ _ w.0) in
    let all : bytes ≡ t a.0.0 = u.0.parts ∙ ap (λ (x : List ℕ). t a.0.0 ++ x) nothing ∙ append-nil (t a.0.0) in
    subst (λ v. Q v × (bytes ≡ t v)) (same_Some a.0.0 v x.1) (sound a.0.0 u.1 x.0, all)
whole_is_spelled Q test sound f bytes None fits e = tt

pub whole_is_read : {V : Type 0} {t : V → List ℕ} {r : List ℕ → Option (V × List ℕ)} {P : V → Type 0} (test : V → Bool) → Spells t r P
    → (bytes : List ℕ) (told : Option V) (v : V) → P v → test v ≡ true → bytes ≡ t v → told ≡ whole r test bytes → told ≡ Some v
whole_is_read {t = t} {r = r} test f bytes told v is passed same e =
    e ∙ ap (whole r test) (same ∙ sym (append-nil (t v)))
    ∙ bind_is (r (t v ++ [])) (λ v. where_true (nat_eq (length v.1) 0) (where_true (test v.0) (Some v.0))) (v, []) (f.again v [] is)
    ∙ ap (λ (b : Bool). where_true b (found v)) passed
