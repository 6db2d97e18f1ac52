-- What begins at a place of a segment.
use Rattle.std.proofs.Common.{◌≡◌, inl, inr, ℕ, ◌+◌, ◌-◌, ◌≤◌, List, ◌++◌, length, get_or, replicate, sym, ◌∙◌, ap, subst, arith, length-append}
use Rattle.std.proofs.Math.ListN.{get_or-append}
use Rattle.std.proofs.lemmas.List.{length-replicate}
use Rattle.disk_core.specs.Content.{range}
use Rattle.disk_core.proofs.Ranges.{length-range, range-range, range-split}
use Rattle.part_log.specs.declared.piece.Beginning.{Beginning}
use Rattle.part_log.specs.Records.{EndsHere}
use Rattle.part_log.specs.Scan.{IsHeld, BeginsAs}

-- an open gate in front
pub gate_open : (front more : List ℕ) → 2 ≤ length front → get_or front 0 0 ≡ 79 → EndsHere (front ++ more) → ⊥
gate_open front more two is (inl few) = omega (arith, few, length-append front more, two)
gate_open front more two is (inr shut) = shut (get_or-append front more 0 0 (omega (arith, two)) ∙ is)

-- what is at hand of a place
pub at_hand : (from place need : ℕ) (bytes seen part : List ℕ) → IsHeld from bytes seen → from ≤ place → place + need ≤ from + length bytes → part ≡ range (place - from) need bytes → part ≡ range place need seen
at_hand from place need bytes seen part held behind there is =
    let within : (place - from) + need ≤ length bytes = omega (arith, behind, there) in
    let place_is : from + (place - from) ≡ place = omega (arith, behind) in
    is ∙ ap (range (place - from) need) held ∙ range-range from (length bytes) (place - from) need seen within ∙ ap (λ (k : ℕ). range k need seen) place_is

-- what begins with the part at hand begins in all
pub begins_all : (place need left : ℕ) (seen part : List ℕ) (beginning : Beginning) → need ≤ left → place + left ≤ length seen → part ≡ range place need seen
    → ((more : List ℕ) → length part + length more ≡ left → BeginsAs (part ++ more) beginning) → BeginsAs (range place left seen) beginning
begins_all place need left seen part beginning within inside is begins =
    let more : List ℕ = range (place + need) (left - need) seen in
    let whole : part ++ more ≡ range place left seen = ap (λ (l : List ℕ). l ++ more) is ∙ sym (range-split place need (left - need) seen) ∙ ap (λ (n : ℕ). range place n seen) (let e : need + (left - need) ≡ left = omega (arith, within) in e) in
    let long : length part + length more ≡ left = omega (arith, ap (λ (l : List ℕ). length l) is, length-range place need seen (omega (arith, within, inside)), length-range (place + need) (left - need) seen (omega (arith, within, inside)), within) in
    subst (λ (l : List ℕ). BeginsAs l beginning) whole (begins more long)

pub begins_some : (need left : ℕ) (part : List ℕ) (beginning : Beginning) → length part ≡ need → need ≤ left
    → ((more : List ℕ) → length part + length more ≡ left → BeginsAs (part ++ more) beginning) → (bytes : List ℕ) × (length bytes ≡ left) × BeginsAs bytes beginning
begins_some need left part beginning long within begins =
    let more : List ℕ = replicate (left - need) 0 in
    let rest : length more ≡ left - need = length-replicate (left - need) 0 in
    let whole : length part + length more ≡ left = omega (arith, long, rest, within) in
    (part ++ more, length-append part more ∙ whole, begins more whole)
