-- A gate byte, closed and opened.
use Rattle.std.proofs.Common.{◌≡◌, ◌≢◌, ⊎_elim, ℕ, List, [], ◌∷◌, length, get_or, refl, sym, ◌∙◌, ap, subst, arith, add-zero}
use Rattle.std.proofs.lemmas.Bool.{cases_eq}
use Rattle.disk_core.specs.Content.{Content, ChangesBy, Torn, Holds, Same, Only, IsSettled, range}
use Rattle.disk_core.proofs.Ranges.{get_or-range, torn_none}
use Rattle.disk_core.proofs.Changes.{chain, widen, same_image}
use Rattle.gate_slots.specs.Gate.{open_gate}
use Rattle.gate_slots.specs.Gate.{ShutsGate, IsShut, IsZeroed}

-- the byte of a range of one
pub byte_at : (at : ℕ) (c : List ℕ) → get_or (range at 1 c) 0 0 ≡ get_or c at 0
byte_at at c = get_or-range at 1 c 0 (omega arith) ∙ ap (λ (k : ℕ). get_or c k 0) (add-zero at)

pub same_byte : (at : ℕ) (c d : List ℕ) → range at 1 c ≡ range at 1 d → get_or c at 0 ≡ get_or d at 0
same_byte at c d same = sym (byte_at at c) ∙ ap (λ (l : List ℕ). get_or l 0 0) same ∙ byte_at at d

shuts_none : (gate : ℕ) (c : List ℕ) → ShutsGate gate c c
shuts_none gate c = record { torn = torn_none gate 1 c; kept = λ shut. refl }

module _ (gate : ℕ) (old mid new : Content) (settled : IsSettled gate 1 old) (read : ChangesBy Same old mid) where
  -- a gate that was open is closed
  pub shuts : get_or old.seen gate 0 ≡ open_gate → ChangesBy (Torn gate 1) mid new → ChangesBy (ShutsGate gate) old new
  shuts was_open write = chain Same (Torn gate 1) (ShutsGate gate) old mid new read write
      (λ d c image same. subst (λ (l : List ℕ). ShutsGate gate d l) (sym same) (shuts_none gate d))
      (λ e c image torn. let before = same_image old mid read e image in
      (e, before, record { torn = torn; kept = λ shut. absurd (shut (same_byte gate e old.seen (settled e before) ∙ was_open)) }))

  -- or it was closed
  pub was_shut : ChangesBy (ShutsGate gate) old mid
  was_shut = widen Same (ShutsGate gate) old mid read (λ d c image same. subst (λ (l : List ℕ). ShutsGate gate d l) (sym same) (shuts_none gate d))

  pub stays_shut : get_or old.seen gate 0 ≢ open_gate → IsShut gate mid
  stays_shut shut c image is = shut (sym (same_byte gate c old.seen (settled c (same_image old mid read c image))) ∙ is)

-- a 0 that stands there alone
pub now_zeroed : (gate : ℕ) (old new : Content) → Holds gate (0 ∷ []) old.seen new.seen → Only new → IsZeroed gate new
now_zeroed gate old new holds only c image = ap (λ (l : List ℕ). get_or l gate 0) (only c image) ∙ sym (byte_at gate new.seen) ∙ ap (λ (l : List ℕ). get_or l 0 0) holds.here

pub zeroed_shut : (gate : ℕ) (content : Content) → IsZeroed gate content → IsShut gate content
zeroed_shut gate content zero c image is = let zero_byte = zero c image in absurd (cc (zero_byte, is))

-- a gate that is open was open before
pub opened_before : (gate : ℕ) (d c : List ℕ) → ShutsGate gate d c → get_or c gate 0 ≡ open_gate → get_or d gate 0 ≡ open_gate
opened_before gate d c shuts is = ⊎_elim
    (λ (was : get_or d gate 0 ≡ 79). was)
    (λ (shut : get_or d gate 0 ≢ 79). sym (shuts.kept shut) ∙ is)
    (cases_eq (get_or d gate 0) 79)

-- a read of one byte
pub read_byte : (at : ℕ) (bytes seen : List ℕ) → bytes ≡ range at (length bytes) seen → length bytes ≡ 1 → get_or seen at 0 ≡ get_or bytes 0 0
read_byte at bytes seen given long =
    sym (byte_at at seen) ∙ ap (λ (n : ℕ). get_or (range at n seen) 0 0) (sym long) ∙ sym (ap (λ (l : List ℕ). get_or l 0 0) given)
