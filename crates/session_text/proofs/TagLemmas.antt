-- The numbers of tags, and what an index by name has after one more tag.
use Rattle.std.proofs.Common.{◌≡◌, ◌∙◌, ℕ, ◌+◌, List, [], ◌∷◌, ◌++◌, length, Bool, true, false, cond, Option, None, Some, option_map, refl, sym, ap, subst, true≢false, arith}
use Rattle.std.specs.Str.{bytes_eq}
use Rattle.std.specs.Ordering.{is_eq, nat_cmp}
use Rattle.std.specs.Cmp.{eq_by_cmp_equiv}
use Rattle.std.specs.Cmp.Lexicographic.{slice_cmp}
use Rattle.std.specs.BTreeMap.{BTreeMap, UpdatesBy, get_by}
use Rattle.std.specs.Map.{lookup, IsKeyTest, AreApart, KeepsOthers}
use Rattle.std.proofs.lemmas.Cmp.{nat_list_cmp_total, nat_list_eq_equiv}
use Rattle.std.proofs.lemmas.Map.Text.{is_eq-slice_cmp}
use Rattle.std.proofs.lemmas.Slice.Eq.{bytes_eq-Decides}
use Rattle.session_text.specs.declared.tags.Tag.{Tag}
use Rattle.session_text.specs.Tags.{tag_number}

other_entries : {K X : Type 0} (eq : K → K → Bool) (test : K → Bool) (old new : List (K × X)) → KeepsOthers eq test old new
    → (other : K → Bool) → IsKeyTest eq other → AreApart test other → lookup other new ≡ lookup other old
unfolding KeepsOthers
other_entries eq test old new h = h

apart : (bs cs ks : List ℕ) → bytes_eq bs cs ≡ false → is_eq (slice_cmp nat_cmp bs ks) ≡ true → is_eq (slice_cmp nat_cmp cs ks) ≡ false
apart bs cs ks differ same =
    let here : bytes_eq bs ks ≡ true = sym (is_eq-slice_cmp bs ks) ∙ same in
    is_eq-slice_cmp cs ks ∙ nat_list_eq_equiv.symm cs ks ∙ sym (nat_list_eq_equiv.congr bs ks cs here) ∙ differ

-- keys that are ordered by their bytes: after a change at the bytes bs, what any bytes find
pub found_after : {K X : Type 0} (bytes : K → List ℕ) (bs : List ℕ) (m n : BTreeMap K X) (w : Option X)
    → UpdatesBy (λ (x y : K). slice_cmp nat_cmp (bytes x) (bytes y)) (λ (k : K). slice_cmp nat_cmp bs (bytes k)) m n w
    → (cs : List ℕ) → get_by (λ (k : K). slice_cmp nat_cmp cs (bytes k)) n ≡ cond (bytes_eq bs cs) w (get_by (λ (k : K). slice_cmp nat_cmp cs (bytes k)) m)
found_after {K} {X} bytes bs m n w h cs = by (bytes_eq bs cs) refl
  where
    find : List ℕ → BTreeMap K X → Option X
    find ds map = get_by (λ (k : K). slice_cmp nat_cmp ds (bytes k)) map

    by : (t : Bool) → bytes_eq bs cs ≡ t → get_by (λ (k : K). slice_cmp nat_cmp cs (bytes k)) n ≡ cond t w (get_by (λ (k : K). slice_cmp nat_cmp cs (bytes k)) m)
    by true e = subst (λ (ds : List ℕ). get_by (λ (k : K). slice_cmp nat_cmp ds (bytes k)) n ≡ w) ((bytes_eq-Decides bs cs).0 e) h.1
    by false e = other_entries _ _ _ _ h.3 _ (λ x y. (eq_by_cmp_equiv nat_list_cmp_total).congr cs (bytes x) (bytes y)) (λ k. apart bs cs (bytes k) e)

first_apart : (tag : Tag) (tags : List Tag) (name : List ℕ) → tag_number (tag ∷ tags) name ≡ None → (bytes_eq tag.name name ≡ false) × (tag_number tags name ≡ None)
first_apart tag tags name e = by (bytes_eq tag.name name) (tag_number tags name) refl refl e
  where
    by : (t : Bool) (n : Option ℕ) → bytes_eq tag.name name ≡ t → tag_number tags name ≡ n → cond t (Some 1) (option_map (λ k. k + 1) n) ≡ None → (bytes_eq tag.name name ≡ false) × (tag_number tags name ≡ None)
    by true n p q r = absurd cc
    by false None p q r = (p, q)
    by false (Some k) p q r = absurd cc

-- a step of the proof below: one list found before the tag, and one found with it
step : (first tag name : List ℕ) (before after : Option ℕ) (count : ℕ) → bytes_eq first tag ≡ false → after ≡ cond (bytes_eq tag name) (Some count) before
    → cond (bytes_eq first name) (Some 1) (option_map (λ n. n + 1) after) ≡ cond (bytes_eq tag name) (Some (count + 1)) (cond (bytes_eq first name) (Some 1) (option_map (λ n. n + 1) before))
step first tag name before after count differ is = by (bytes_eq first name) (bytes_eq tag name) refl refl
  where
    by : (s t : Bool) → bytes_eq first name ≡ s → bytes_eq tag name ≡ t
        → cond s (Some 1) (option_map (λ n. n + 1) after) ≡ cond t (Some (count + 1)) (cond s (Some 1) (option_map (λ n. n + 1) before))
    by true true p q =
        let same : first ≡ tag = (bytes_eq-Decides first name).0 p ∙ sym ((bytes_eq-Decides tag name).0 q) in
        absurd (true≢false (sym ((bytes_eq-Decides first tag).1 same) ∙ differ))
    by true false p q = refl
    by false true p q = ap (option_map (λ n. n + 1)) (is ∙ ap (λ (t : Bool). cond t (Some count) before) q)
    by false false p q = ap (option_map (λ n. n + 1)) (is ∙ ap (λ (t : Bool). cond t (Some count) before) q)

-- one more tag, with a new name
pub tag_number-append : (tags : List Tag) (tag : Tag) → tag_number tags tag.name ≡ None
    → (name : List ℕ) → tag_number (tags ++ tag ∷ []) name ≡ cond (bytes_eq tag.name name) (Some (length tags + 1)) (tag_number tags name)
tag_number-append [] tag new name = refl
tag_number-append (first ∷ tags) tag new name =
    let rest = first_apart first tags tag.name new in
    let made = step first.name tag.name name (tag_number tags name) (tag_number (tags ++ tag ∷ []) name) (length tags + 1) rest.0 (tag_number-append tags tag rest.1 name) in
    let size : length tags + 1 + 1 ≡ length (first ∷ tags) + 1 = omega arith in
    made ∙ ap (λ (n : ℕ). cond (bytes_eq tag.name name) (Some n) (tag_number (first ∷ tags) name)) size

-- an index by name, after one more tag
pub index_after : {K : Type 0} (bytes : K → List ℕ) (m n : BTreeMap K ℕ) (tags after : List Tag) (tag : Tag) (key : List ℕ) (number : ℕ)
    → UpdatesBy (λ (x y : K). slice_cmp nat_cmp (bytes x) (bytes y)) (λ (k : K). slice_cmp nat_cmp key (bytes k)) m n (Some number)
    → ((name : List ℕ) → get_by (λ (k : K). slice_cmp nat_cmp name (bytes k)) m ≡ tag_number tags name)
    → tag_number tags tag.name ≡ None → after ≡ tags ++ tag ∷ [] → key ≡ tag.name → number ≡ length tags + 1
    → (name : List ℕ) → get_by (λ (k : K). slice_cmp nat_cmp name (bytes k)) n ≡ tag_number after name
index_after bytes m n tags after tag key number updates each new is named numbered name =
    found_after bytes key m n (Some number) updates name
    ∙ ap (cond (bytes_eq key name) (Some number)) (each name)
    ∙ ap (λ (k : List ℕ). cond (bytes_eq k name) (Some number) (tag_number tags name)) named
    ∙ ap (λ (k : ℕ). cond (bytes_eq tag.name name) (Some k) (tag_number tags name)) numbered
    ∙ sym (tag_number-append tags tag new name)
    ∙ ap (λ (ts : List Tag). tag_number ts name) (sym is)
