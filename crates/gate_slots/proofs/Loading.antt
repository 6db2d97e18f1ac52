-- A cell that was read, and what is kept of it.
use Rattle.std.proofs.Common.{◌≡◌, inl, inr, ⊎_elim, ℕ, ◌+◌, List, length, take, Result, Ok, Err, IfOk, refl, sym, ◌∙◌, ap, arith, add-zero}
use Rattle.disk_core.specs.Content.{Content, ChangesBy, IsSettled, Only, Same, range}
use Rattle.disk_core.proofs.Changes.{image_from, same_image}
use Rattle.disk_core.proofs.Ranges.{range-range, torn_none}
use Rattle.gate_slots.specs.Cell.{Cell, cell, cell_at, IsOldOrNew, StaysOldOrNew, ReplacesCell}
use Rattle.gate_slots.specs.Slots.{CurrentSlot, IsLoaded}
use Rattle.gate_slots.proofs.OtherSlot.{cell_same}

pub read_cell : (base : ℕ) (bytes seen : List ℕ) → bytes ≡ range base (length bytes) seen → length bytes ≡ 2048 → cell (take 1024 bytes) (range 1024 1024 bytes) ≡ cell_at base seen
read_cell base bytes seen given long =
    let is : bytes ≡ range base 2048 seen = given ∙ ap (λ (n : ℕ). range base n seen) long in
    let one : take 1024 bytes ≡ range base 1024 seen = ap (λ (l : List ℕ). take 1024 l) is ∙ range-range base 2048 0 1024 seen (omega arith) ∙ ap (λ (k : ℕ). range k 1024 seen) (add-zero base) in
    let two : range 1024 1024 bytes ≡ range (base + 1024) 1024 seen =
    ap (λ (l : List ℕ). range 1024 1024 l) is ∙ range-range base 2048 1024 1024 seen (omega arith) in
    (λ i. cell (one i) (two i))

pub loaded_from : (slots : CurrentSlot) (base : ℕ) (read : Cell) (seen : List ℕ) → slots.base ≡ base → slots.sequence ≡ read.sequence → slots.second ≡ read.second → read ≡ cell_at base seen → IsLoaded slots seen
loaded_from slots base read seen place sequence second is =
    let there : read ≡ cell_at slots.base seen = is ∙ ap (λ (b : ℕ). cell_at b seen) (sym place) in
    record {
      sequence = ap (λ (x : Cell). x.sequence) (sym there) ∙ sym sequence;
      second = ap (λ (x : Cell). x.second) (sym there) ∙ sym second;
    }

-- a read leaves settled what was settled
pub stays_settled : (old new : Content) → ChangesBy Same old new → new.seen ≡ old.seen → (at n : ℕ) → IsSettled at n old → IsSettled at n new
stays_settled old new during seen at n settled c image = settled c (same_image old new during c image) ∙ ap (range at n) (sym seen)

-- a sync settles all places
pub settled_by_sync : (at n : ℕ) (content : Content) → Only content → IsSettled at n content
settled_by_sync at n content only c image = ap (range at n) (only c image)

pub untouched_cell : (base : ℕ) (bytes c : List ℕ) → ReplacesCell base bytes c c
untouched_cell base bytes c = record { torn = torn_none base 2048 c; value = inl refl }

-- what holds of an answer holds of it with what follows
pub if_ok_map : {T E : Type 0} (result : Result T E) (P Q : T → Type 0) → IfOk result P → ((x : T) → P x → Q x) → IfOk result Q
if_ok_map (Ok x) P Q holds follows = follows x holds
if_ok_map (Err e) P Q holds follows = tt

module _ (base : ℕ) (bytes : List ℕ) (old new : Content) (settled : IsSettled base 2048 old) where
  -- what a replacement did to an image of a settled cell
  from_settled : (d c : List ℕ) → old.images d → ReplacesCell base bytes d c → IsOldOrNew base bytes old (cell_at base c).value
  from_settled d c image by =
      let was : (cell_at base d).value ≡ (cell_at base old.seen).value = ap (λ (x : Cell). x.value) (cell_same base d old.seen (settled d image)) in
      ⊎_elim (λ same. inl (same ∙ was)) (λ put. inr put.0) by.value

  pub stays_old_or_new : ChangesBy (ReplacesCell base bytes) old new → StaysOldOrNew base bytes old new
  stays_old_or_new during c left = let from = during.each c left in from_settled from.0 c from.1 from.2

  pub left_old_or_new : ChangesBy (ReplacesCell base bytes) old new → (c : List ℕ) → new.images c → IsOldOrNew base bytes old (cell_at base c).value
  left_old_or_new during c image =
      let from = image_from (ReplacesCell base bytes) old new during c image in from_settled from.0 c from.1 from.2
