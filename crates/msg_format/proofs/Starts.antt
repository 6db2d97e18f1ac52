-- What every record begins with: read exactly where it is spelled.
use Rattle.std.proofs.Common.{◌≡◌, ◌∙◌, inl, inr, ℕ, ◌^◌, ◌<◌, nat_lt, nat_eq, Bool, true, false, cond, List, [], ◌∷◌, ◌++◌, length, Option, Some, None, refl, sym, ap, subst, append_assoc, arith, eqb-true}
use Rattle.std.proofs.lemmas.Bool.{ltb-true, lt-ltb}
use Rattle.std.proofs.lemmas.List.{length-append}
use Rattle.byteorder.specs.Endian.{big_bytes}
use Rattle.byteorder.specs.Numbers.{length-bytes_high_first}
use Rattle.blob_id.specs.Id.{IsId}
use Rattle.field_codec.specs.Spelling.{IsBytes}
use Rattle.field_codec.specs.Reading.{◌>>=◌, where_true, number_at, id_at}
use Rattle.std.proofs.lemmas.Option.{same_Some}
use Rattle.blob_id.proofs.BoolLemmas.{cond_cases}
use Rattle.field_codec.proofs.Tools.{found, Takes}
use Rattle.field_codec.proofs.Spells.{Spells, number, id, field, last, guard, restated, step}
use Rattle.field_codec.proofs.Firsts.{ReadsFirst, first_then, first_where, first_made, number_first, id_first}
use Rattle.msg_format.specs.declared.record.Start.{Start}
use Rattle.msg_format.specs.Reading.{gone_of, start_at}

-- ---- kinds

abbrev pub kind_byte : Bool → ℕ
kind_byte true = 2
kind_byte false = 1

kind_is : (kind : ℕ) (gone : Bool) → gone_of kind ≡ Some gone → kind ≡ kind_byte gone
kind_is kind gone e = elim (cond_cases (nat_eq kind 1) (found false) (cond (nat_eq kind 2) (found true) None) (Some gone) e) [
  | inl p ↦ let g : false ≡ gone = same_Some false gone p.1 in eqb-true kind 1 p.0 ∙ ap kind_byte g
  | inr p ↦ elim (cond_cases (nat_eq kind 2) (found true) None (Some gone) p.1) [
    | inl q ↦ let g : true ≡ gone = same_Some true gone q.1 in eqb-true kind 2 q.0 ∙ ap kind_byte g
    | inr q ↦ absurd cc
  ]
]

gone_again : (gone : Bool) → gone_of (kind_byte gone) ≡ Some gone
gone_again true = refl
gone_again false = refl

kind_small : (gone : Bool) → kind_byte gone < 256 ^ 1
kind_small true = omega arith
kind_small false = omega arith

one_byte : (gone : Bool) → big_bytes 1 (kind_byte gone) ≡ kind_byte gone ∷ []
one_byte true = refl
one_byte false = refl

-- ---- starts

abbrev pub start_text : Start → List ℕ
start_text start = 79 ∷ kind_byte start.gone ∷ (big_bytes 8 start.lsn ++ start.id)

pub record IsStart (start : Start) : Type 0 where
  pub lsn : start.lsn < 2 ^ 63
  pub id : IsId start.id

abbrev start_made : Bool → ℕ → List ℕ → List ℕ → Option (Start × List ℕ)
start_made gone lsn id bytes = Some (record { gone = gone; lsn = lsn; id = id }, bytes)

abbrev behind_lsn : Bool → ℕ → List ℕ → Option (Start × List ℕ)
behind_lsn gone lsn bytes = where_true (nat_lt lsn (2 ^ 63)) (id_at bytes) >>= λ id. start_made gone lsn id.0 id.1

abbrev behind_gone : List ℕ → Bool → Option (Start × List ℕ)
behind_gone bytes gone = number_at 8 bytes >>= λ lsn. behind_lsn gone lsn.0 lsn.1

abbrev behind_kind : ℕ → List ℕ → Option (Start × List ℕ)
behind_kind kind bytes = gone_of kind >>= behind_gone bytes

abbrev behind_gate : ℕ → List ℕ → Option (Start × List ℕ)
behind_gate gate bytes = where_true (nat_eq gate 79) (number_at 1 bytes) >>= λ kind. behind_kind kind.0 kind.1

abbrev pub start : Bool → ℕ → List ℕ → Start
start gone lsn id = record { gone = gone; lsn = lsn; id = id }

start_text-parts : (s : Start) → big_bytes 1 79 ++ (big_bytes 1 (kind_byte s.gone) ++ (big_bytes 8 s.lsn ++ s.id)) ≡ start_text s
start_text-parts s = ap (λ (x : List ℕ). 79 ∷ (x ++ (big_bytes 8 s.lsn ++ s.id))) (one_byte s.gone)

pub start_spelled : Spells start_text start_at IsStart
unfolding start_at
start_spelled = restated start_text-parts
    (λ s is. let h = is.1.1.2 in record { lsn = ltb-true _ _ h.1.0.0; id = h.1.0.1 })
    (λ s is. (omega arith, ((refl, kind_small s.gone), (s.gone, gone_again s.gone, (omega (arith, is.lsn), ((lt-ltb _ _ is.lsn, is.id), refl))))))
    (field (λ s. 79) (number 1) (λ g. field (λ s. kind_byte s.gone) (guard (nat_eq g 79) (number 1))
    (λ k. step (gone_of k) (λ gone. field (λ s. s.lsn) (number 8) (λ l. last (λ s. s.id) (start gone l) (guard (nat_lt l (2 ^ 63)) id) (λ c. refl))
    (λ l s is. ap (λ s. s.lsn) (sym is.1))))
    (λ k s is. ap (λ s. kind_byte s.gone) (sym is.2.1.1) ∙ sym (kind_is k is.0 is.1)))
    (λ g s is. sym (eqb-true _ _ is.0.0)))

pub start_takes : (bytes : List ℕ) (start : Start) (rest : List ℕ) → IsBytes bytes → start_at bytes ≡ Some (start, rest) → Takes bytes (start_text start) rest × IsStart start
start_takes = start_spelled.takes

pub start_again : (start : Start) (rest : List ℕ) → IsStart start → start_at (start_text start ++ rest) ≡ Some (start, rest)
start_again = start_spelled.again

pub length-start_text : (start : Start) → IsStart start → length (start_text start) ≡ 30
length-start_text start is = omega (arith, length-append (big_bytes 8 start.lsn) start.id, length-bytes_high_first 8 start.lsn, is.id.size)

-- ---- how much of the bytes a start looks at

lsn_first : (gone : Bool) (lsn : ℕ) → ReadsFirst 20 (behind_lsn gone lsn)
lsn_first gone lsn = first_then 20 0 (λ bytes. where_true (nat_lt lsn (2 ^ 63)) (id_at bytes)) (start_made gone lsn) (first_where 20 (nat_lt lsn (2 ^ 63)) id_at (λ e. id_first))
    (λ id. let start : Start = record { gone = gone; lsn = lsn; id = id } in first_made start)

gone_first : (gone : Option Bool) → ReadsFirst 28 (λ bytes. gone >>= behind_gone bytes)
gone_first (Some gone) = first_then 8 20 (number_at 8) (behind_lsn gone) (number_first 8) (lsn_first gone)
gone_first None = record { same = λ front more long. refl; left = λ front x rest e. absurd cc }

gate_first : (gate : ℕ) → ReadsFirst 29 (behind_gate gate)
gate_first gate = first_then 1 28 (λ bytes. where_true (nat_eq gate 79) (number_at 1 bytes)) behind_kind (first_where 1 (nat_eq gate 79) (number_at 1) (λ e. number_first 1)) (λ kind. gone_first (gone_of kind))

pub start_first : ReadsFirst 30 start_at
unfolding start_at
start_first = first_then 1 29 (number_at 1) behind_gate (number_first 1) gate_first
