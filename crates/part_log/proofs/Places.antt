-- How many bytes a segment has from a place on.
use Rattle.std.proofs.Common.{◌≡◌, ⊎_elim, ℕ, ◌+◌, ◌*◌, ◌-◌, ◌<◌, ◌≤◌, ◌%◌, ◌/◌, ◌∙◌, ap, arith, mul-le-mul_right}
use Rattle.std.proofs.Math.Nat.{mod-add-div', mod-lt}
use Rattle.std.proofs.lemmas.Nat.{mod-mul-add}
use Rattle.std.proofs.lemmas.Bool.{cases_lt}

pub inside_left : (x count segment : ℕ) → x < count * segment → x - x % segment + segment ≤ count * segment
inside_left x count segment lt =
    let q : ℕ = x / segment in
    let is : x % segment + q * segment ≡ x = mod-add-div' x segment in
    ⊎_elim
    (λ (small : q < count). let more : (q + 1) * segment ≤ count * segment = mul-le-mul_right segment (omega (arith, small)) in omega (arith, is, more))
    (λ (le : count ≤ q). let more : count * segment ≤ q * segment = mul-le-mul_right segment le in absurd (omega (arith, is, more, lt)))
    (cases_lt q count)

pub left_is : (place number segment offset : ℕ) → offset < segment → place ≡ 4096 + number * segment + offset → (place - 4096) % segment ≡ offset
left_is place number segment offset lt is = ap (λ (k : ℕ). k % segment) (let e : place - 4096 ≡ number * segment + offset = omega (arith, is) in e) ∙ mod-mul-add number segment offset lt

pub left_inside : (place count segment : ℕ) → 1 ≤ segment → 4096 ≤ place → place - 4096 < count * segment → place + (segment - (place - 4096) % segment) ≤ 4096 + count * segment
left_inside place count segment some behind lt =
    let inside : place - 4096 - (place - 4096) % segment + segment ≤ count * segment = inside_left (place - 4096) count segment lt in
    let is : (place - 4096) % segment + ((place - 4096) / segment) * segment ≡ place - 4096 = mod-add-div' (place - 4096) segment in
    let small : (place - 4096) % segment < segment = mod-lt (place - 4096) (omega (arith, some)) in
    omega (arith, behind, inside, is, small)

pub place_inside : (place number count segment offset : ℕ) → number < count → offset < segment → place ≡ 4096 + number * segment + offset → (4096 ≤ place) × (place - 4096 < count * segment)
place_inside place number count segment offset small lt is =
    let more : (number + 1) * segment ≤ count * segment = mul-le-mul_right segment (omega (arith, small)) in
    (omega (arith, is), omega (arith, is, more, lt))
