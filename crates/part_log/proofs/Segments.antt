-- Segments of a disk, and writes in one of them.
use Rattle.std.proofs.Common.{◌≡◌, ◌≢◌, ◌⊎◌, inl, inr, ⊎_elim, ℕ, ◌+◌, ◌*◌, ◌<◌, ◌≤◌, List, refl, sym, ◌∙◌, subst, arith, add-zero, mul-le-mul_right}
use Rattle.std.proofs.lemmas.Bool.{cases_lt}
use Rattle.disk_core.specs.Content.{Torn}
use Rattle.disk_core.proofs.Ranges.{range-torn}
use Rattle.part_log.specs.Segments.{place_of, ChangesIn}

pub segments_apart : (segment i f : ℕ) → i ≢ f → (place_of segment i + segment ≤ place_of segment f) ⊎ (place_of segment f + segment ≤ place_of segment i)
segments_apart segment i f other = ⊎_elim
    (λ (lt : i < f). inl (let more : (i + 1) * segment ≤ f * segment = mul-le-mul_right segment (omega arith) in omega (arith, more)))
    (λ (le : f ≤ i). inr (let lt : f < i = ⊎_elim (λ (lt : f < i). lt) (λ (ge : i ≤ f). absurd (other (omega arith))) (cases_lt f i) in
    let more : (f + 1) * segment ≤ i * segment = mul-le-mul_right segment (omega arith) in omega (arith, more)))
    (cases_lt i f)

-- a write in a segment changes no other segment
pub write_in : (segment target at n : ℕ) (old new : List ℕ) → at + n ≤ segment → Torn (place_of segment target + at) n old new → ChangesIn segment target old new
write_in segment target at n old new fits torn = record {
  size = torn.size;
  token_cell = range-torn (place_of segment target + at) n 2048 2048 old new torn (inl (omega arith));
  others = λ i other. range-torn (place_of segment target + at) n (place_of segment i) segment old new torn (⊎_elim
      (λ (below : place_of segment i + segment ≤ place_of segment target). inl (omega arith))
      (λ (above : place_of segment target + segment ≤ place_of segment i). inr (omega arith))
      (segments_apart segment i target other));
}

-- a write in the manifest's cell changes no segment
pub write_cell : (segment target : ℕ) (old new : List ℕ) → Torn 0 2048 old new → ChangesIn segment target old new
write_cell segment target old new torn = record {
  size = torn.size;
  token_cell = range-torn 0 2048 2048 2048 old new torn (inr (omega arith));
  others = λ i other. range-torn 0 2048 (place_of segment i) segment old new torn (inr (omega arith));
}

pub no_write : (segment target : ℕ) (c : List ℕ) → ChangesIn segment target c c
no_write segment target c = record { size = refl; token_cell = refl; others = λ i other. refl }

pub writes_twice : (segment target : ℕ) (old mid new : List ℕ) → ChangesIn segment target old mid → ChangesIn segment target mid new → ChangesIn segment target old new
writes_twice segment target old mid new first second = record {
  size = second.size ∙ first.size;
  token_cell = second.token_cell ∙ first.token_cell;
  others = λ i other. second.others i other ∙ first.others i other;
}

-- a write of the first byte of a segment
pub write_first : (segment target place : ℕ) (old new : List ℕ) → 1 ≤ segment → place ≡ place_of segment target → Torn place 1 old new → ChangesIn segment target old new
write_first segment target place old new some is torn =
    write_in segment target 0 1 old new (omega (arith, some)) (subst (λ (k : ℕ). Torn k 1 old new) (is ∙ sym (add-zero (place_of segment target))) torn)
