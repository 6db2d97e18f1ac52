-- The bytes of a slot behind its gate, as they are written and as they are read.
use Rattle.std.proofs.Common.{◌≡◌, ℕ, ◌+◌, ◌<◌, ◌≤◌, ◌^◌, min, List, ◌++◌, length, take, drop, refl, sym, ◌∙◌, ap, arith, append_assoc, length-append}
use Rattle.std.specs.Int.{from_be_bytes, to_be_bytes, w32, w64}
use Rattle.std.proofs.lemmas.Nat.{from_be_bytes-to_be_bytes_4, from_be_bytes-to_be_bytes_8}
use Rattle.std.proofs.lemmas.List.{take_at, drop_at, take_all}
use Rattle.disk_core.specs.Content.{range}
use Rattle.disk_core.proofs.Ranges.{range-range}
use Rattle.gate_slots.specs.Cell.{slot_sequence, slot_value, slot_rest}

head_first : (xs ys zs : List ℕ) (n : ℕ) → length xs ≡ n → range 0 n (xs ++ ys ++ zs) ≡ xs
head_first xs ys zs n long = ap (λ (l : List ℕ). take n l) (append_assoc xs ys zs) ∙ take_at xs (ys ++ zs) n long

head_next : (xs ys zs : List ℕ) (m n : ℕ) → length xs ≡ m → length ys ≡ n → range m n (xs ++ ys ++ zs) ≡ ys
head_next xs ys zs m n first long = ap (λ (l : List ℕ). take n (drop m l)) (append_assoc xs ys zs) ∙ ap (λ (l : List ℕ). take n l) (drop_at xs (ys ++ zs) m first) ∙ take_at ys zs n long

tail_last : (xs ys zs : List ℕ) (m : ℕ) → length (xs ++ ys) ≡ m → range m (length zs) (xs ++ ys ++ zs) ≡ zs
tail_last xs ys zs m long = ap (λ (l : List ℕ). take (length zs) l) (drop_at (xs ++ ys) zs m long) ∙ take_all (length zs) zs (omega arith)

-- what stands in a slot behind its gate
slot_from : (gate : ℕ) (rest c : List ℕ) (from m : ℕ) → range (gate + 1) (length rest) c ≡ rest → from + m ≤ length rest → 1 + from + m ≤ 1024 → range (1 + from) m (range gate 1024 c) ≡ range from m rest
slot_from gate rest c from m holds inside fits =
    let place : gate + (1 + from) ≡ gate + 1 + from = omega arith in
    range-range gate 1024 (1 + from) m c fits ∙ ap (λ (k : ℕ). range k m c) place ∙ sym (range-range (gate + 1) (length rest) from m c inside) ∙ ap (range from m) holds

-- a slot that was written with this sequence and these bytes
module _ (sequence : ℕ) (bytes : List ℕ) (fits : length bytes ≤ 1011) (below : sequence < 2 ^ 63) where
  abbrev rest : List ℕ
  rest = slot_rest sequence bytes

  long8 : length (to_be_bytes w64 sequence) ≡ 8
  long8 = refl

  long4 : length (to_be_bytes w32 (length bytes)) ≡ 4
  long4 = refl

  pub length-rest : length (slot_rest sequence bytes) ≡ 12 + length bytes
  length-rest = omega (arith, length-append (to_be_bytes w64 sequence ++ to_be_bytes w32 (length bytes)) bytes, length-append (to_be_bytes w64 sequence) (to_be_bytes w32 (length bytes)), long8, long4)

  module _ (gate : ℕ) (c : List ℕ) (holds : range (gate + 1) (length (slot_rest sequence bytes)) c ≡ slot_rest sequence bytes) where
    pub its_sequence : slot_sequence (range gate 1024 c) ≡ sequence
    its_sequence =
        ap (from_be_bytes w64) (slot_from gate rest c 0 8 holds (omega (arith, length-rest)) (omega arith) ∙ head_first (to_be_bytes w64 sequence) (to_be_bytes w32 (length bytes)) bytes 8 long8)
        ∙ from_be_bytes-to_be_bytes_8 sequence (omega arith)

    its_length : from_be_bytes w32 (range 9 4 (range gate 1024 c)) ≡ length bytes
    its_length =
        ap (from_be_bytes w32) (slot_from gate rest c 8 4 holds (omega (arith, length-rest)) (omega arith) ∙ head_next (to_be_bytes w64 sequence) (to_be_bytes w32 (length bytes)) bytes 8 4 long8 long4)
        ∙ from_be_bytes-to_be_bytes_4 (length bytes) (omega arith)

    pub its_value : slot_value (range gate 1024 c) ≡ bytes
    its_value =
        let n : min (from_be_bytes w32 (range 9 4 (range gate 1024 c))) 1011 ≡ length bytes = omega (arith, its_length) in
        ap (λ (k : ℕ). range 13 k (range gate 1024 c)) n
        ∙ slot_from gate rest c 12 (length bytes) holds (omega (arith, length-rest)) (omega arith)
        ∙ tail_last (to_be_bytes w64 sequence) (to_be_bytes w32 (length bytes)) bytes 12 (omega (arith, length-append (to_be_bytes w64 sequence) (to_be_bytes w32 (length bytes)), long8, long4))
