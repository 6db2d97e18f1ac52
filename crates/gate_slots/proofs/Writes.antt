-- A slot that is closed, written and opened.
use Rattle.std.proofs.Common.{◌≡◌, inl, inr, ⊎_elim, ℕ, ◌+◌, ◌<◌, ◌≤◌, List, [], ◌∷◌, length, get_or, sym, ◌∙◌, ap, arith}
use Rattle.std.proofs.lemmas.Bool.{cases_lt}
use Rattle.disk_core.specs.Content.{Content, ChangesBy, Torn, Holds, Only, range}
use Rattle.disk_core.proofs.Ranges.{range_same, range-torn, torn_within, torn_twice}
use Rattle.disk_core.proofs.Changes.{chain, widen, image_from}
use Rattle.gate_slots.specs.Gate.{ShutsGate, IsShut, OpensGate}
use Rattle.gate_slots.specs.Cell.{WritesSlot}
use Rattle.gate_slots.proofs.Gates.{byte_at, opened_before}

shut_slot : (gate : ℕ) (rest d c : List ℕ) → ShutsGate gate d c → WritesSlot gate rest d c
shut_slot gate rest d c shuts = record {
  torn = torn_within gate 1024 gate 1 d c shuts.torn (omega arith) (omega arith);
  opened = λ is. inl (range_same gate 1024 d c shuts.torn.size (λ k le lt. ⊎_elim
      (λ (here : k < gate + 1). let at : k ≡ gate = omega arith in ap (λ (k : ℕ). get_or c k 0) at ∙ is ∙ sym (opened_before gate d c shuts is) ∙ ap (λ (k : ℕ). get_or d k 0) (sym at))
      (λ (past : gate + 1 ≤ k). shuts.torn.others k (inr past))
      (cases_lt k (gate + 1))));
}

module _ (gate : ℕ) (rest : List ℕ) (old mid : Content) (closed : IsShut gate old) (write : ChangesBy (Torn (gate + 1) (length rest)) old mid) where
  -- behind a closed gate, any bytes stand for nothing
  pub behind_gate : ChangesBy (OpensGate gate rest) old mid
  behind_gate = widen (Torn (gate + 1) (length rest)) (OpensGate gate rest) old mid write (λ d c image torn. record {
    torn = torn_within gate (length rest + 1) (gate + 1) (length rest) d c torn (omega arith) (omega arith);
    opened = λ is. absurd (closed d image (sym (torn.others gate (inl (omega arith))) ∙ is));
  })

  -- and then the gate may be opened
  pub opens_gate : (new : Content) → Only mid → range (gate + 1) (length rest) mid.seen ≡ rest → ChangesBy (Torn gate 1) mid new → ChangesBy (OpensGate gate rest) old new
  opens_gate new only holds opening = chain (OpensGate gate rest) (Torn gate 1) (OpensGate gate rest) old mid new behind_gate opening
      (λ d c image by. by)
      (λ e c image torn.
      let from = image_from (OpensGate gate rest) old mid behind_gate e image in (
        from.0,
        from.1,
        record {
          torn = torn_twice gate (length rest + 1) from.0 e c from.2.torn (torn_within gate (length rest + 1) gate 1 e c torn (omega arith) (omega arith));
          opened = λ is. range-torn gate 1 (gate + 1) (length rest) e c torn (inr (omega arith)) ∙ ap (range (gate + 1) (length rest)) (only e image) ∙ holds;
        },
      ))

module _ (gate : ℕ) (rest : List ℕ) (fits : length rest ≤ 1023) (old mid : Content) (shuts : ChangesBy (ShutsGate gate) old mid) where
  pub slot_shut : ChangesBy (WritesSlot gate rest) old mid
  slot_shut = widen (ShutsGate gate) (WritesSlot gate rest) old mid shuts (λ d c image by. shut_slot gate rest d c by)

  pub slot_written : (new : Content) → ChangesBy (OpensGate gate rest) mid new → ChangesBy (WritesSlot gate rest) old new
  slot_written new opens = chain (WritesSlot gate rest) (OpensGate gate rest) (WritesSlot gate rest) old mid new slot_shut opens
      (λ d c image by. by)
      (λ e c image by.
      let from = image_from (WritesSlot gate rest) old mid slot_shut e image in (
        from.0,
        from.1,
        record {
          torn = torn_twice gate 1024 from.0 e c from.2.torn (torn_within gate 1024 gate (length rest + 1) e c by.torn (omega arith) (omega arith));
          opened = λ is. inr (by.opened is);
        },
      ))

pub behind_kept : (gate : ℕ) (rest old new : List ℕ) → Holds gate (79 ∷ []) old new → range (gate + 1) (length rest) old ≡ rest → range (gate + 1) (length rest) new ≡ rest
behind_kept gate rest old new holds was = range-torn gate 1 (gate + 1) (length rest) old new holds.torn (inr (omega arith)) ∙ was

pub gate_opened : (gate : ℕ) (old new : List ℕ) → Holds gate (79 ∷ []) old new → get_or new gate 0 ≡ 79
gate_opened gate old new holds = sym (byte_at gate new) ∙ ap (λ (l : List ℕ). get_or l 0 0) holds.here
