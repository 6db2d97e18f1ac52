-- Which segments are free.
use Rattle.std.proofs.Common.{◌≡◌, ◌≢◌, ⊎_elim, ℕ, zero, suc, ◌+◌, ◌-◌, ◌<◌, ◌≤◌, List, [], ◌∷◌, length, get_or, Bool, true, false, ◌==◌, ◌||◌, if◌then◌else◌, refl, sym, ◌∙◌, ap, arith}
use Rattle.std.proofs.lemmas.Bool.{cases_lt, cases_eq}
use Rattle.std.proofs.lemmas.Bool.Decides.{nat_tests}
use Rattle.part_log.specs.declared.segment.SegmentInfo.{SegmentInfo}
use Rattle.part_log.specs.Segments.{is_among, free_from, last_segment, last_used}
use Rattle.part_log.proofs.Manifests.{Without}

eq_true : (m n : ℕ) → m ≡ n → (m == n) ≡ true
eq_true m n same = grind (arith, nat_tests)

eq_false : (m n : ℕ) → m ≢ n → (m == n) ≡ false
eq_false m n other = grind (arith, nat_tests)

among_here : (i : ℕ) (x : SegmentInfo) (xs : List SegmentInfo) → i ≡ x.segment → is_among i (x ∷ xs) ≡ true
among_here i x xs is = ap (λ (b : Bool). b || is_among i xs) (eq_true i x.segment is)

among_there : (i : ℕ) (x : SegmentInfo) (xs : List SegmentInfo) → i ≢ x.segment → is_among i (x ∷ xs) ≡ is_among i xs
among_there i x xs other = ap (λ (b : Bool). b || is_among i xs) (eq_false i x.segment other)

-- a segment that isn't among them is none of them
pub without_from : (i : ℕ) (xs : List SegmentInfo) → is_among i xs ≡ false → Without i xs
without_from i [] none = tt
without_from i (x ∷ xs) none = ⊎_elim
    (λ (is : i ≡ x.segment). let both : true ≡ false = sym (among_here i x xs is) ∙ none in absurd (cc both))
    (λ (other : i ≢ x.segment). (other, without_from i xs (sym (among_there i x xs other) ∙ none)))
    (cases_eq i x.segment)

-- these without one
leaving : ℕ → List SegmentInfo → List SegmentInfo
leaving i [] = []
leaving i (x ∷ xs) = if i == x.segment then xs else x ∷ leaving i xs

leaving_here : (i : ℕ) (x : SegmentInfo) (xs : List SegmentInfo) → i ≡ x.segment → leaving i (x ∷ xs) ≡ xs
unfolding leaving
leaving_here i x xs is = ap (λ (b : Bool). if b then xs else x ∷ leaving i xs) (eq_true i x.segment is)

leaving_there : (i : ℕ) (x : SegmentInfo) (xs : List SegmentInfo) → i ≢ x.segment → leaving i (x ∷ xs) ≡ x ∷ leaving i xs
unfolding leaving
leaving_there i x xs other = ap (λ (b : Bool). if b then xs else x ∷ leaving i xs) (eq_false i x.segment other)

shorter : (i : ℕ) (xs : List SegmentInfo) → is_among i xs ≡ true → length (leaving i xs) + 1 ≤ length xs
shorter i [] among = absurd (cc among)
shorter i (x ∷ xs) among = ⊎_elim
    (λ (is : i ≡ x.segment). omega (arith, ap (λ (l : List SegmentInfo). length l) (leaving_here i x xs is)))
    (λ (other : i ≢ x.segment). let rest = shorter i xs (sym (among_there i x xs other) ∙ among) in omega (arith, rest, ap (λ (l : List SegmentInfo). length l) (leaving_there i x xs other)))
    (cases_eq i x.segment)

still_among : (i j : ℕ) (xs : List SegmentInfo) → j ≢ i → is_among j xs ≡ true → is_among j (leaving i xs) ≡ true
still_among i j [] apart among = absurd (cc among)
still_among i j (x ∷ xs) apart among = ⊎_elim
    (λ (is : i ≡ x.segment). ap (is_among j) (leaving_here i x xs is) ∙ sym (among_there j x xs (λ same. apart (same ∙ sym is))) ∙ among)
    (λ (other : i ≢ x.segment). ap (is_among j) (leaving_there i x xs other) ∙ ⊎_elim
    (λ (same : j ≡ x.segment). among_here j x (leaving i xs) same)
    (λ (differs : j ≢ x.segment). among_there j x (leaving i xs) differs ∙ still_among i j xs apart (sym (among_there j x xs differs) ∙ among))
    (cases_eq j x.segment))
    (cases_eq i x.segment)

-- where the first n segments are among them, they are at least n
pub all_taken : (n : ℕ) (xs : List SegmentInfo) → ((j : ℕ) → j < n → is_among j xs ≡ true) → n ≤ length xs
all_taken zero xs taken = omega arith
all_taken (suc n) xs taken =
    let less = all_taken n (leaving n xs) (λ j lt. still_among n j xs (λ same. omega (arith, lt, same)) (taken j (omega (arith, lt)))) in
    omega (arith, less, shorter n xs (taken n (omega arith)))

pub taken_more : (n : ℕ) (xs : List SegmentInfo) → ((j : ℕ) → j < n → is_among j xs ≡ true) → is_among n xs ≡ true → (j : ℕ) → j < n + 1 → is_among j xs ≡ true
taken_more n xs taken here j lt = ⊎_elim
    (λ (below : j < n). taken j below)
    (λ (le : n ≤ j). let same : j ≡ n = omega (arith, lt, le) in ap (λ (k : ℕ). is_among k xs) same ∙ here)
    (cases_lt j n)

-- one taken segment is passed over
pub free_step : (count n : ℕ) (xs : List SegmentInfo) → n < count → is_among n xs ≡ true → free_from (count - n) n xs ≡ free_from (count - (n + 1)) (n + 1) xs
free_step count n xs lt here =
    let more : count - n ≡ suc (count - (n + 1)) = omega (arith, lt) in
    ap (λ (k : ℕ). free_from k n xs) more
    ∙ ap (λ (b : Bool). if b then free_from (count - (n + 1)) (suc n) xs else n) here
    ∙ ap (λ (k : ℕ). free_from (count - (n + 1)) k xs) (let e : suc n ≡ n + 1 = omega arith in e)

-- a free one is found
pub free_here : (count n : ℕ) (xs : List SegmentInfo) → n < count → is_among n xs ≡ false → n ≡ free_from (count - n) n xs
free_here count n xs lt none =
    let more : count - n ≡ suc (count - (n + 1)) = omega (arith, lt) in
    sym (ap (λ (k : ℕ). free_from k n xs) more ∙ ap (λ (b : Bool). if b then free_from (count - (n + 1)) (suc n) xs else n) none)

-- the last one, by its place in the list
pub last_segment-at : (xs : List SegmentInfo) (d : SegmentInfo) → 1 ≤ length xs → (get_or xs (length xs - 1) d).segment ≡ last_segment xs
last_segment-at [] d some = absurd (omega (arith, some))
last_segment-at (x ∷ []) d some = refl
last_segment-at (x ∷ y ∷ ys) d some =
    let place : length (x ∷ y ∷ ys) - 1 ≡ suc (length (y ∷ ys) - 1) = omega arith in
    ap (λ (k : ℕ). (get_or (x ∷ y ∷ ys) k d).segment) place ∙ last_segment-at (y ∷ ys) d (omega arith)

pub last_used-at : (xs : List SegmentInfo) (d : SegmentInfo) → 1 ≤ length xs → (get_or xs (length xs - 1) d).used ≡ last_used xs
last_used-at [] d some = absurd (omega (arith, some))
last_used-at (x ∷ []) d some = refl
last_used-at (x ∷ y ∷ ys) d some =
    let place : length (x ∷ y ∷ ys) - 1 ≡ suc (length (y ∷ ys) - 1) = omega arith in
    ap (λ (k : ℕ). (get_or (x ∷ y ∷ ys) k d).used) place ∙ last_used-at (y ∷ ys) d (omega arith)
