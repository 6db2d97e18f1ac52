-- Lists of as many values as a number in front of them says: their laws, their length, and the loop that reads one.
use Rattle.std.proofs.Common.{◌≡◌, ◌∙◌, ℕ, zero, suc, ◌*◌, ◌<◌, List, [], ◌∷◌, ◌++◌, length, Option, Some, None, refl, sym, ap, subst, append_assoc, arith}
use Rattle.std.proofs.Math.Nat.{mul-suc, mul-zero}
use Rattle.std.proofs.lemmas.List.{append-nil, length-append}
use Rattle.std.proofs.lemmas.List.Elements.{All-nil, All-cons, All-head, All-tail}
use Rattle.std.proofs.lemmas.Option.{same_Some}
use Rattle.std.specs.List.{flat_map, All}
use Rattle.field_codec.specs.Spelling.{IsBytes}
use Rattle.field_codec.specs.Reading.{◌>>=◌, times_at}
use Rattle.field_codec.proofs.Tools.{bind_some, bind_is, Takes, Takes-then}
use Rattle.field_codec.proofs.Spells.{Spells}

-- ---- the laws

times_take : {A : Type 0} {text : A → List ℕ} {read : List ℕ → Option (A × List ℕ)} {Is : A → Type 0} → Spells text read Is → (n : ℕ) (bytes : List ℕ) (vs : List A) (rest : List ℕ) → IsBytes bytes → times_at read n bytes ≡ Some (vs, rest)
    → Takes bytes (flat_map text vs) rest × ((length vs ≡ n) × All Is vs)
unfolding times_at
times_take {text = text} {read = read} {Is = Is} lf zero bytes vs rest fits e =
    let pair : List _ × List ℕ = ([], bytes) in
    subst (λ q. Takes bytes (flat_map text q.0) q.1 × ((length q.0 ≡ 0) × All Is q.0)) (same_Some pair (vs, rest) e) (record { parts = refl; rest_fits = fits }, (refl, All-nil Is))
times_take {text = text} {read = read} {Is = Is} lf (suc n) bytes vs rest fits e =
    let a = bind_some (read bytes) (λ first. times_at read n first.1 >>= λ others. Some (first.0 ∷ others.0, others.1)) (vs, rest) e in
    let b = bind_some (times_at read n a.0.1) (λ others. Some (a.0.0 ∷ others.0, others.1)) (vs, rest) a.2 in
    let t = lf.takes bytes a.0.0 a.0.1 fits a.1 in
    let r = times_take lf n a.0.1 b.0.0 b.0.1 t.0.rest_fits b.1 in
    let pair : List _ × List ℕ = (a.0.0 ∷ b.0.0, b.0.1) in
    let taken = Takes-then bytes (text a.0.0) a.0.1 (flat_map text b.0.0) b.0.1 t.0 r.0 in
    let count : length (a.0.0 ∷ b.0.0) ≡ suc n = omega (arith, r.1.0) in
    subst (λ q. Takes bytes (flat_map text q.0) q.1 × ((length q.0 ≡ suc n) × All Is q.0)) (same_Some pair (vs, rest) b.2) (taken, (count, All-cons Is a.0.0 b.0.0 t.1 r.1.1))

times_again : {A : Type 0} {text : A → List ℕ} {read : List ℕ → Option (A × List ℕ)} {Is : A → Type 0} → Spells text read Is → (vs : List A) (rest : List ℕ) → All Is vs → times_at read (length vs) (flat_map text vs ++ rest) ≡ Some (vs, rest)
unfolding times_at
times_again {text = text} {read = read} {Is = Is} lf [] rest is = refl
times_again {text = text} {read = read} {Is = Is} lf (v ∷ vs) rest is =
    let others = flat_map text vs in
    ap (times_at read (suc (length vs))) (append_assoc (text v) others rest)
    ∙ bind_is (read (text v ++ (others ++ rest))) (λ first. times_at read (length vs) first.1 >>= λ others. Some (first.0 ∷ others.0, others.1)) (v, others ++ rest) (lf.again v (others ++ rest) (All-head Is v vs is))
    ∙ bind_is (times_at read (length vs) (others ++ rest)) (λ others. Some (v ∷ others.0, others.1)) (vs, rest) (times_again lf vs rest (All-tail Is v vs is))

pub times : {A : Type 0} {text : A → List ℕ} {read : List ℕ → Option (A × List ℕ)} {Is : A → Type 0} (n : ℕ) → Spells text read Is → Spells (flat_map text) (times_at read n) (λ vs. (length vs ≡ n) × All Is vs)
times {text = text} {read = read} n f = record {
  takes = times_take f n;
  again = λ vs rest is. ap (λ (k : ℕ). times_at read k (flat_map text vs ++ rest)) (sym is.0) ∙ times_again f vs rest is.1;
}

-- ---- the length of spellings of one length

pub length-times_where : {A : Type 0} (P : A → Type 0) (text : A → List ℕ) (k : ℕ) → ((v : A) → P v → length (text v) ≡ k) → (vs : List A) → All P vs → length (flat_map text vs) ≡ k * length vs
length-times_where P text k each [] all = sym (mul-zero k)
length-times_where P text k each (v ∷ vs) all =
    length-append (text v) (flat_map text vs)
    ∙ omega (arith, each v (All-head P v vs all), length-times_where P text k each vs (All-tail P v vs all), mul-suc k (length vs))

pub length-times : {A : Type 0} (text : A → List ℕ) (k : ℕ) → ((v : A) → length (text v) ≡ k) → (vs : List A) → length (flat_map text vs) ≡ k * length vs
length-times text k each vs = length-times_where (λ _. Unit {0}) text k (λ v h. each v) vs (λ i d lt. tt)

-- ---- the loop

-- what is read, with these in front of it
abbrev pub behind : {A : Type 0} → List A → Option (List A × List ℕ) → Option (List A × List ℕ)
behind front (Some read) = Some (front ++ read.0, read.1)
behind front None = None

abbrev taken : {A : Type 0} → A → List A × List ℕ → Option (List A × List ℕ)
taken first others = Some (first ∷ others.0, others.1)

times_more : {A : Type 0} (read : List ℕ → Option (A × List ℕ)) (n : ℕ) (bytes : List ℕ) → times_at read (suc n) bytes ≡ (read bytes >>= λ first. times_at read n first.1 >>= taken first.0)
unfolding times_at
times_more read n bytes = refl

behind_more : {A : Type 0} (front : List A) (v : A) (o : Option (List A × List ℕ)) → behind front (o >>= taken v) ≡ behind (front ++ v ∷ []) o
behind_more front v (Some read) = ap (λ (x : List _). let p : List _ × List ℕ = (x, read.1) in Some p) (sym (append_assoc front (v ∷ []) read.0))
behind_more front v None = refl

-- one more is read
pub one_more : {A : Type 0} (read : List ℕ → Option (A × List ℕ)) (n m : ℕ) (front made : List A) (rest : List ℕ) (v : A) (more : List ℕ) (all : Option (List A × List ℕ)) → n ≡ suc m → made ≡ front ++ v ∷ [] → read rest ≡ Some (v, more)
    → behind front (times_at read n rest) ≡ all → behind made (times_at read m more) ≡ all
one_more read n m front made rest v more all left pushed e told =
    ap (λ (x : List _). behind x (times_at read m more)) pushed
    ∙ sym (behind_more front v (times_at read m more))
    ∙ sym (ap (behind front) (ap (λ (k : ℕ). times_at read k rest) left ∙ times_more read m rest ∙ ap (λ (o : Option (_ × List ℕ)). o >>= λ f. times_at read m f.1 >>= taken f.0) e))
    ∙ told

-- one is missing
pub one_missing : {A : Type 0} (read : List ℕ → Option (A × List ℕ)) (n : ℕ) (front : List A) (rest : List ℕ) (all : Option (List A × List ℕ)) → 0 < n → read rest ≡ None → behind front (times_at read n rest) ≡ all → all ≡ None
one_missing read zero front rest all pos e told = absurd (omega arith)
one_missing read (suc n) front rest all pos e told = sym told ∙ ap (behind front) (times_more read n rest ∙ ap (λ (o : Option (_ × List ℕ)). o >>= λ f. times_at read n f.1 >>= taken f.0) e)

-- none is left to read
pub all_read : {A : Type 0} (read : List ℕ → Option (A × List ℕ)) (n : ℕ) (front made : List A) (rest : List ℕ) (all : Option (List A × List ℕ)) → n ≡ 0 → made ≡ front → behind front (times_at read n rest) ≡ all → all ≡ Some (made, rest)
unfolding times_at
all_read read zero front made rest all e same told = sym told ∙ ap (λ (x : List _). let p : List _ × List ℕ = (x, rest) in Some p) (append-nil front ∙ sym same)
all_read read (suc n) front made rest all e same told = absurd (omega arith)
