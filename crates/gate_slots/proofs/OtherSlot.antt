-- A cell whose other slot is written.
use Rattle.std.proofs.Common.{◌≡◌, ◌≢◌, ◌⊎◌, inl, inr, ⊎_elim, ℕ, ◌+◌, ◌<◌, ◌≤◌, ◌^◌, List, length, get_or, Bool, true, false, not, ◌&&◌, ◌==◌, nat_lt, Some, Result, Ok, Err, OnOk, refl, sym, ◌∙◌, ap, arith, add-zero}
use Rattle.std.proofs.lemmas.Bool.{cases_eq}
use Rattle.std.proofs.lemmas.Bool.Decides.{nat_tests}
use Rattle.disk_core.specs.Content.{Content, ChangesBy, Torn, IsSettled, range}
use Rattle.disk_core.proofs.Changes.{widen, image_from}
use Rattle.disk_core.proofs.Ranges.{range-torn, range_in, get_or-range, torn_within}
use Rattle.gate_slots.specs.Cell.{Cell, slot_sequence, slot_rest, is_open, cell, cell_at, target_place, current_place, ReplacesCell, WritesSlot}
use Rattle.gate_slots.proofs.Cells.{cell_of, cell_at-of, shut_target, open_target}
use Rattle.gate_slots.proofs.Rest.{its_sequence, its_value}

gate_of : (gate : ℕ) (c : List ℕ) → get_or (range gate 1024 c) 0 0 ≡ get_or c gate 0
gate_of gate c = get_or-range gate 1024 c 0 (omega arith) ∙ ap (λ (k : ℕ). get_or c k 0) (add-zero gate)

and_true : (a b : Bool) → a ≡ true → b ≡ true → (a && b) ≡ true
and_true true true is also = refl
and_true true false is also = also
and_true false b is also = is

and_false : (a b : Bool) → a ≡ false → (a && b) ≡ false
and_false true b is = cc
and_false false b is = refl

eq_true : (m n : ℕ) → m ≡ n → (m == n) ≡ true
eq_true m n same = grind (arith, nat_tests)

eq_false : (m n : ℕ) → m ≢ n → (m == n) ≡ false
eq_false m n other = grind (arith, nat_tests)

lt_true : (m n : ℕ) → m < n → nat_lt m n ≡ true
lt_true m n lt = grind (arith, nat_tests)

is_open-true : (slot : List ℕ) → get_or slot 0 0 ≡ 79 → slot_sequence slot < 2 ^ 63 → is_open slot ≡ true
is_open-true slot is below = and_true (get_or slot 0 0 == 79) (nat_lt (slot_sequence slot) (2 ^ 63)) (eq_true (get_or slot 0 0) 79 is) (lt_true (slot_sequence slot) (2 ^ 63) below)

is_open-false : (slot : List ℕ) → get_or slot 0 0 ≢ 79 → is_open slot ≡ false
is_open-false slot shut = and_false (get_or slot 0 0 == 79) (nat_lt (slot_sequence slot) (2 ^ 63)) (eq_false (get_or slot 0 0) 79 shut)

apart : (second : Bool) (base : ℕ) → (current_place base second + 1024 ≤ target_place base second) ⊎ (target_place base second + 1024 ≤ current_place base second)
apart true base = inr (omega arith)
apart false base = inl (omega arith)

pub target_from : (second : Bool) (base : ℕ) → base ≤ target_place base second
target_from true base = omega arith
target_from false base = omega arith

pub target_end : (second : Bool) (base : ℕ) → target_place base second + 1024 ≤ base + 2048
target_end true base = omega arith
target_end false base = omega arith

module _ (base : ℕ) (second : Bool) (sequence : ℕ) (bytes : List ℕ) (fits : length bytes ≤ 1011) (below : sequence + 1 < 2 ^ 63) (d c : List ℕ)
    (its_place : (cell_at base d).second ≡ second) (last : (cell_at base d).sequence ≡ sequence) (torn : Torn (target_place base second) 1024 d c) where
  abbrev gate : ℕ
  gate = target_place base second

  abbrev current : List ℕ
  current = range (current_place base second) 1024 d

  abbrev target : List ℕ
  target = range (target_place base second) 1024 d

  abbrev target_new : List ℕ
  target_new = range (target_place base second) 1024 c

  was : cell_at base d ≡ cell_of second current target
  was = cell_at-of second base d

  becomes : cell_at base c ≡ cell_of second current target_new
  becomes = cell_at-of second base c ∙ ap (λ (l : List ℕ). cell_of second l target_new) (range-torn gate 1024 (current_place base second) 1024 d c torn (apart second base))

  pub shut_cell : get_or c (target_place base second) 0 ≢ 79 → cell_at base c ≡ cell_at base d
  shut_cell shut =
      becomes
      ∙ shut_target second current target target_new (ap (λ (x : Cell). x.second) (sym was) ∙ its_place) (is_open-false target_new (λ is. shut (sym (gate_of gate c) ∙ is)))
      ∙ sym was

  pub same_cell : range (target_place base second) 1024 c ≡ range (target_place base second) 1024 d → cell_at base c ≡ cell_at base d
  same_cell same = becomes ∙ ap (cell_of second current) same ∙ sym was

  pub new_cell : get_or c (target_place base second) 0 ≡ 79 → range (target_place base second + 1) (length (slot_rest (sequence + 1) bytes)) c ≡ slot_rest (sequence + 1) bytes → cell_at base c ≡ record { value = Some bytes; sequence = sequence + 1; second = not second }
  new_cell is holds =
      let number : slot_sequence target_new ≡ sequence + 1 = its_sequence (sequence + 1) bytes fits below gate c holds in
      becomes
      ∙ open_target second current target target_new (ap (λ (x : Cell). x.second) (sym was) ∙ its_place)
      (omega (arith, number, ap (λ (x : Cell). x.sequence) was, last))
      (is_open-true target_new (gate_of gate c ∙ is) (omega (arith, number, below)))
      ∙ (λ i. record { value = Some (its_value (sequence + 1) bytes fits below gate c holds i); sequence = number i; second = not second })

-- a write of the other slot replaces the cell
pub replaces : (base : ℕ) (second : Bool) (sequence : ℕ) (bytes d c : List ℕ) → length bytes ≤ 1011 → sequence + 1 < 2 ^ 63 → (cell_at base d).second ≡ second → (cell_at base d).sequence ≡ sequence
    → WritesSlot (target_place base second) (slot_rest (sequence + 1) bytes) d c → ReplacesCell base bytes d c
replaces base second sequence bytes d c fits below place last writes = record {
  torn = torn_within base 2048 (target_place base second) 1024 d c writes.torn (target_from second base) (target_end second base);
  value = ⊎_elim
      (λ (is : get_or c (target_place base second) 0 ≡ 79). ⊎_elim
      (λ same. inl (ap (λ (x : Cell). x.value) (same_cell base second sequence bytes fits below d c place last writes.torn same)))
      (λ holds. let becomes = new_cell base second sequence bytes fits below d c place last writes.torn is holds in inr (ap (λ (x : Cell). x.value) becomes, ap (λ (x : Cell). x.sequence) becomes ∙ ap (λ (n : ℕ). n + 1) (sym last)))
      (writes.opened is))
      (λ shut. inl (ap (λ (x : Cell). x.value) (shut_cell base second sequence bytes fits below d c place last writes.torn shut)))
      (cases_eq (get_or c (target_place base second) 0) 79);
}

-- the cell lies in its range
pub cell_same : (base : ℕ) (c d : List ℕ) → range base 2048 c ≡ range base 2048 d → cell_at base c ≡ cell_at base d
cell_same base c d same =
    let one : range base 1024 c ≡ range base 1024 d = ap (λ (k : ℕ). range k 1024 c) (sym (add-zero base)) ∙ range_in base 2048 0 1024 c d same (omega arith) ∙ ap (λ (k : ℕ). range k 1024 d) (add-zero base) in
    let two : range (base + 1024) 1024 c ≡ range (base + 1024) 1024 d = range_in base 2048 1024 1024 c d same (omega arith) in
    ap (λ (l : List ℕ). cell l (range (base + 1024) 1024 c)) one ∙ ap (λ (l : List ℕ). cell (range base 1024 d) l) two

-- and so does its gate
pub gate_same : (second : Bool) (base : ℕ) (c d : List ℕ) → range base 2048 c ≡ range base 2048 d → range (target_place base second) 1 c ≡ range (target_place base second) 1 d
gate_same true base c d same = ap (λ (k : ℕ). range k 1 c) (sym (add-zero base)) ∙ range_in base 2048 0 1 c d same (omega arith) ∙ ap (λ (k : ℕ). range k 1 d) (add-zero base)
gate_same false base c d same = range_in base 2048 1024 1 c d same (omega arith)

module _ (base : ℕ) (second : Bool) (sequence : ℕ) (bytes : List ℕ) (fits : length bytes ≤ 1011) (below : sequence + 1 < 2 ^ 63) (old new : Content)
    (settled : IsSettled base 2048 old) (its_place : (cell_at base old.seen).second ≡ second) (last : (cell_at base old.seen).sequence ≡ sequence)
    (writes : ChangesBy (WritesSlot (target_place base second) (slot_rest (sequence + 1) bytes)) old new) where
  place_of : (d : List ℕ) → old.images d → (cell_at base d).second ≡ second
  place_of d image = ap (λ (x : Cell). x.second) (cell_same base d old.seen (settled d image)) ∙ its_place

  last_of : (d : List ℕ) → old.images d → (cell_at base d).sequence ≡ sequence
  last_of d image = ap (λ (x : Cell). x.sequence) (cell_same base d old.seen (settled d image)) ∙ last

  pub replacing : ChangesBy (ReplacesCell base bytes) old new
  replacing = widen (WritesSlot (target_place base second) (slot_rest (sequence + 1) bytes)) (ReplacesCell base bytes) old new writes
      (λ d c image by. replaces base second sequence bytes d c fits below (place_of d image) (last_of d image) by)

  pub replaced : get_or new.seen (target_place base second) 0 ≡ 79 → range (target_place base second + 1) (length (slot_rest (sequence + 1) bytes)) new.seen ≡ slot_rest (sequence + 1) bytes
      → cell_at base new.seen ≡ record { value = Some bytes; sequence = sequence + 1; second = not second }
  replaced is holds =
      let from = image_from (WritesSlot (target_place base second) (slot_rest (sequence + 1) bytes)) old new writes new.seen new.sees in
      new_cell base second sequence bytes fits below from.0 new.seen (place_of from.0 from.1) (last_of from.0 from.1) from.2.torn is holds

-- two facts of an answer give a third one
pub on_ok_both : {T E G P Q R : Type 0} (result : Result T E) → OnOk result (G → P) → OnOk result (G → Q) → (G → P → Q → R) → OnOk result (G → R)
on_ok_both (Ok value) first second both = λ g. both g (first g) (second g)
on_ok_both (Err error) first second both = tt
