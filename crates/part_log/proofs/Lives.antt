-- The records of live segments, read one segment after the other.
use Rattle.std.proofs.Common.{◌≡◌, ◌≢◌, inl, inr, ℕ, ◌+◌, ◌-◌, ◌<◌, ◌≤◌, List, [], ◌∷◌, ◌++◌, length, take, drop, get_or, set, Bool, true, false, ◌==◌, if◌then◌else◌, refl, sym, ◌∙◌, ap, subst, arith, append_assoc, length-append, add-zero}
use Rattle.std.proofs.lemmas.List.{append-nil, drop_more, drop-set, take-set, take-take, get_or-take}
use Rattle.disk_core.specs.Content.{range}
use Rattle.disk_core.proofs.Ranges.{get_or-range, length-range}
use Rattle.log_manifest.specs.declared.manifest.Live.{Live}
use Rattle.msg_format.proofs.Spelled.{text_long}
use Rattle.part_log.specs.declared.marks.Mark.{Mark}
use Rattle.part_log.specs.declared.segment.Found.{Found}
use Rattle.part_log.specs.declared.segment.SegmentInfo.{SegmentInfo}
use Rattle.part_log.specs.Records.{Written, laid, AreWritten, EndsHere, RisesFrom, next_after, first_lsn, Placed, placed_from}
use Rattle.part_log.specs.Segments.{place_of, live_of, lives_of, next_first, with_firsts}
use Rattle.part_log.specs.Images.{joined, AllHold, EndsBadly, EndBadly}
use Rattle.part_log.specs.Log.{AllFit, AllSized, AllFront, AllFirst, IsFront, placed_in}
use Rattle.part_log.specs.Marks.{MarksOn}
use Rattle.part_log.specs.Scan.{found_of, AllKnown, AreRead, IsRead, TakesAll}
use Rattle.part_log.proofs.Records.{RisesFrom-append, next_after-append}
use Rattle.part_log.proofs.Scanning.{eq_true, eq_false, found_of-append, takes_more}
use Rattle.part_log.proofs.Fronts.{all_hold}
use Rattle.part_log.proofs.Marking.{marks_more}

sized-more : (infos : List SegmentInfo) (parts : List (List Written)) (info : SegmentInfo) (part : List Written) → info.used ≡ length (laid part) → AreWritten part → AllSized infos parts → AllSized (infos ++ info ∷ []) (parts ++ part ∷ [])
sized-more [] [] info part size good sized = (size, good, tt)
sized-more [] (p ∷ parts) info part size good sized = absurd sized
sized-more (x ∷ xs) [] info part size good sized = absurd sized
sized-more (x ∷ xs) (p ∷ parts) info part size good sized = (sized.0, sized.1, sized-more xs parts info part size good sized.2)

known-more : (infos : List SegmentInfo) (parts : List (List Written)) (info : SegmentInfo) (part : List Written) → (1 ≤ info.used → info.first ≡ first_lsn part 0) → AllSized infos parts → AllKnown infos parts → AllKnown (infos ++ info ∷ []) (parts ++ part ∷ [])
known-more [] [] info part first sized known = (first, tt)
known-more [] (p ∷ parts) info part first sized known = absurd sized
known-more (x ∷ xs) [] info part first sized known = absurd sized
known-more (x ∷ xs) (p ∷ parts) info part first sized known = (known.0, known-more xs parts info part first sized.2 known.1)

front-more : (segment : ℕ) (infos : List SegmentInfo) (parts : List (List Written)) (info : SegmentInfo) (part : List Written) (c : List ℕ) → IsFront segment info part c → AllFront segment infos parts c → AllFront segment (infos ++ info ∷ []) (parts ++ part ∷ []) c
front-more segment [] [] info part c front fronts = (front, tt)
front-more segment [] (p ∷ parts) info part c front fronts = absurd fronts
front-more segment (x ∷ xs) [] info part c front fronts = absurd fronts
front-more segment (x ∷ xs) (p ∷ parts) info part c front fronts = (fronts.0, front-more segment xs parts info part c front fronts.1)

joined-last : (parts : List (List Written)) (part : List Written) → joined (parts ++ part ∷ []) ≡ joined parts ++ part
joined-last [] part = append-nil part
joined-last (p ∷ parts) part = ap (λ (l : List Written). p ++ l) (joined-last parts part) ∙ sym (append_assoc p (joined parts) part)

placed-more : (segment : ℕ) (infos : List SegmentInfo) (parts : List (List Written)) (info : SegmentInfo) (part : List Written) → AllSized infos parts
    → placed_in segment (infos ++ info ∷ []) (parts ++ part ∷ []) ≡ placed_in segment infos parts ++ placed_from (place_of segment info.segment) part
placed-more segment [] [] info part sized = append-nil (placed_from (place_of segment info.segment) part)
placed-more segment [] (p ∷ parts) info part sized = absurd sized
placed-more segment (x ∷ xs) [] info part sized = absurd sized
placed-more segment (x ∷ xs) (p ∷ parts) info part sized =
    ap (λ (l : List Placed). placed_from (place_of segment x.segment) p ++ l) (placed-more segment xs parts info part sized.2)
    ∙ sym (append_assoc (placed_from (place_of segment x.segment) p) (placed_in segment xs parts) (placed_from (place_of segment info.segment) part))

pub fit-more : (segment : ℕ) (infos : List SegmentInfo) (info : SegmentInfo) → info.used ≤ segment → AllFit segment infos → AllFit segment (infos ++ info ∷ [])
fit-more segment [] info small fit = (small, tt)
fit-more segment (x ∷ xs) info small fit = (fit.0, fit-more segment xs info small fit.1)

-- no record begins behind the last one of a segment
shut_from : (start used segment : ℕ) (seen : List ℕ) → EndsHere (range (start + used) (segment - used) seen) → start + segment ≤ length seen → used + 2 ≤ segment → get_or seen (start + used) 0 ≢ 79
shut_from start used segment seen (inl few) inside room is = omega (arith, few, length-range (start + used) (segment - used) seen (omega (arith, inside, room)), room)
shut_from start used segment seen (inr shut) inside room is = shut (get_or-range (start + used) (segment - used) seen 0 (omega (arith, room)) ∙ ap (λ (k : ℕ). get_or seen k 0) (add-zero (start + used)) ∙ is)

module _ (segment : ℕ) (seen : List ℕ) (infos : List SegmentInfo) (low : ℕ) (parts : List (List Written)) (read : AreRead segment seen infos low parts) (info : SegmentInfo) (next : ℕ) (written : List Written) where
  pub live_more : IsRead (place_of segment info.segment) low seen (record { used = info.used; first = info.first }) next written → EndsHere (range (place_of segment info.segment + info.used) (segment - info.used) seen) → place_of segment info.segment + segment ≤ length seen
      → AreRead segment seen (infos ++ info ∷ []) next (parts ++ written ∷ [])
  live_more one ends inside = record {
    sized = sized-more infos parts info written (sym one.size) one.good read.sized;
    known = known-more infos parts info written (λ some. one.first_is) read.sized read.known;
    fronts = front-more segment infos parts info written seen (record { front = one.front; shut = shut_from (place_of segment info.segment) info.used segment seen ends inside }) read.fronts;
    rises = subst (λ (l : List Written). RisesFrom 0 l) (sym (joined-last parts written)) (RisesFrom-append 0 (joined parts) written read.rises (subst (λ (k : ℕ). RisesFrom k written) read.next_is one.rises));
    next_is = one.next_is ∙ ap (λ (k : ℕ). next_after k written) read.next_is ∙ sym (next_after-append 0 (joined parts) written) ∙ ap (λ (l : List Written). next_after 0 l) (sym (joined-last parts written));
  }

  pub taken_more : {C : Type 0} (takes : C → Found → C → Type 0) (old mid new : C) (start : ℕ) → start ≡ place_of segment info.segment → TakesAll takes old (found_of (placed_in segment infos parts)) mid → TakesAll takes mid (found_of (placed_from start written)) new
      → TakesAll takes old (found_of (placed_in segment (infos ++ info ∷ []) (parts ++ written ∷ []))) new
  taken_more takes old mid new start is first second =
      let all : found_of (placed_in segment (infos ++ info ∷ []) (parts ++ written ∷ [])) ≡ found_of (placed_in segment infos parts) ++ found_of (placed_from start written) =
      ap found_of (placed-more segment infos parts info written read.sized)
      ∙ found_of-append (placed_in segment infos parts) (placed_from (place_of segment info.segment) written)
      ∙ ap (λ (k : ℕ). found_of (placed_in segment infos parts) ++ found_of (placed_from k written)) (sym is) in
      subst (λ (l : List Found). TakesAll takes old l new) (sym all) (takes_more takes old (found_of (placed_in segment infos parts)) (found_of (placed_from start written)) mid new first second)

  pub marked_more : (old mid new : List Mark) (start : ℕ) → start ≡ place_of segment info.segment → MarksOn old (placed_in segment infos parts) mid → MarksOn mid (placed_from start written) new → MarksOn old (placed_in segment (infos ++ info ∷ []) (parts ++ written ∷ [])) new
  marked_more old mid new start is first second =
      let all : placed_in segment (infos ++ info ∷ []) (parts ++ written ∷ []) ≡ placed_in segment infos parts ++ placed_from start written =
      placed-more segment infos parts info written read.sized ∙ ap (λ (k : ℕ). placed_in segment infos parts ++ placed_from k written) (sym is) in
      subst (λ (l : List Placed). MarksOn old l new) (sym all) (marks_more old mid new (placed_in segment infos parts) (placed_from start written) first second)

pub lives-more : (infos : List SegmentInfo) (info : SegmentInfo) → lives_of (infos ++ info ∷ []) ≡ lives_of infos ++ live_of info ∷ []
lives-more [] info = refl
lives-more (x ∷ infos) info = ap (λ (l : List Live). live_of x ∷ l) (lives-more infos info)

-- what stands in front of a segment that ends badly
pub badly_among : (segment : ℕ) (seen : List ℕ) (lives : List Live) (before : List Live) (live : Live) (after : List Live) (infos : List SegmentInfo) (next : ℕ) (parts : List (List Written)) (at offset : ℕ)
    → lives ≡ before ++ live ∷ after → lives_of infos ≡ before → AllFit segment infos → AreRead segment seen infos next parts → EndsBadly next (range (place_of segment live.segment) segment seen) offset
    → at ≡ place_of segment live.segment + offset → EndBadly segment seen lives at
badly_among segment seen lives before live after infos next parts at offset split same fit read bad is = record {
  before = before;
  live = live;
  after = after;
  split = split;
  parts = parts;
  hold = subst (λ (l : List Live). AllHold segment seen l parts) same (all_hold segment infos parts seen fit read.sized read.fronts);
  rises = read.rises;
  offset = offset;
  bad = subst (λ (k : ℕ). EndsBadly k (range (place_of segment live.segment) segment seen) offset) read.next_is bad;
  at = is;
}

-- first lsns that are filled in
first_is : (infos : List SegmentInfo) (parts : List (List Written)) (end : ℕ) → AllSized infos parts → AllKnown infos parts → next_first infos end ≡ first_lsn (joined parts) end
first_is [] [] end sized known = refl
first_is [] (part ∷ parts) end sized known = absurd sized
first_is (info ∷ infos) [] end sized known = absurd sized
first_is (info ∷ infos) ([] ∷ parts) end sized known = ap (λ (b : Bool). if b then next_first infos end else info.first) (eq_true info.used 0 sized.0) ∙ first_is infos parts end sized.2 known.1
first_is (info ∷ infos) ((w ∷ written) ∷ parts) end sized known =
    let some : 38 ≤ info.used = omega (arith, sized.0, length-append w.text (laid written), text_long w.text w.entry sized.1.0) in
    ap (λ (b : Bool). if b then next_first infos end else info.first) (eq_false info.used 0 (λ none. omega (arith, some, none))) ∙ known.0 (omega (arith, some))

pub firsts_filled : (infos : List SegmentInfo) (parts : List (List Written)) (end : ℕ) → AllSized infos parts → AllKnown infos parts → AllFirst (with_firsts infos end) parts end
firsts_filled [] parts end sized known = tt
firsts_filled (info ∷ infos) [] end sized known = absurd sized
firsts_filled (info ∷ infos) (part ∷ parts) end sized known = (first_is (info ∷ infos) (part ∷ parts) end sized known, firsts_filled infos parts end sized.2 known.1)

pub lives_filled : (infos : List SegmentInfo) (end : ℕ) → lives_of (with_firsts infos end) ≡ lives_of infos
lives_filled [] end = refl
lives_filled (info ∷ infos) end = ap (λ (l : List Live). record { segment = info.segment; generation = info.generation } ∷ l) (lives_filled infos end)

pub sized_filled : (infos : List SegmentInfo) (parts : List (List Written)) (end : ℕ) → AllSized infos parts → AllSized (with_firsts infos end) parts
sized_filled [] [] end sized = tt
sized_filled [] (part ∷ parts) end sized = absurd sized
sized_filled (info ∷ infos) [] end sized = absurd sized
sized_filled (info ∷ infos) (part ∷ parts) end sized = (sized.0, sized.1, sized_filled infos parts end sized.2)

pub fit_filled : (segment : ℕ) (infos : List SegmentInfo) (end : ℕ) → AllFit segment infos → AllFit segment (with_firsts infos end)
fit_filled segment [] end fit = tt
fit_filled segment (info ∷ infos) end fit = (fit.0, fit_filled segment infos end fit.1)

pub fronts_filled : (segment : ℕ) (infos : List SegmentInfo) (parts : List (List Written)) (end : ℕ) (c : List ℕ) → AllFront segment infos parts c → AllFront segment (with_firsts infos end) parts c
fronts_filled segment [] [] end c fronts = tt
fronts_filled segment [] (part ∷ parts) end c fronts = absurd fronts
fronts_filled segment (info ∷ infos) [] end c fronts = absurd fronts
fronts_filled segment (info ∷ infos) (part ∷ parts) end c fronts = (record { front = fronts.0.front; shut = fronts.0.shut }, fronts_filled segment infos parts end c fronts.1)

pub placed_filled : (segment : ℕ) (infos : List SegmentInfo) (parts : List (List Written)) (end : ℕ) → placed_in segment (with_firsts infos end) parts ≡ placed_in segment infos parts
placed_filled segment [] parts end = refl
placed_filled segment (info ∷ infos) [] end = refl
placed_filled segment (info ∷ infos) (part ∷ parts) end = ap (λ (l : List Placed). placed_from (place_of segment info.segment) part ++ l) (placed_filled segment infos parts end)

same_item : (xs : List SegmentInfo) (j : ℕ) (d e : SegmentInfo) → j < length xs → get_or xs j d ≡ get_or xs j e
same_item xs j d e lt = let both : get_or xs j d ∷ drop (j + 1) xs ≡ get_or xs j e ∷ drop (j + 1) xs = sym (drop_more xs j d lt) ∙ drop_more xs j e lt in cc both

-- one step of the filling, from the back
module _ (xs ys : List SegmentInfo) (j end next : ℕ) (lt : j < length xs) (long : length xs ≡ length ys) (front : take (j + 1) xs ≡ take (j + 1) ys) (done : drop (j + 1) xs ≡ with_firsts (drop (j + 1) ys) end) (next_is : next ≡ next_first (drop (j + 1) ys) end) where
  pub item : SegmentInfo
  item = get_or xs j (record { segment = 0; generation = 0; used = 0; first = 0 })

  abbrev settled : ℕ
  settled = if item.used == 0 then next else item.first

  pub item_is : item ≡ get_or xs j item
  unfolding item
  item_is = same_item xs j (record { segment = 0; generation = 0; used = 0; first = 0 }) item lt

  item_there : get_or ys j item ≡ item
  item_there = sym (get_or-take (j + 1) ys j item (omega arith)) ∙ ap (λ (l : List SegmentInfo). get_or l j item) (sym front) ∙ get_or-take (j + 1) xs j item (omega arith) ∙ sym item_is

  rest_is : drop j ys ≡ item ∷ drop (j + 1) ys
  rest_is = drop_more ys j item (omega (arith, lt, long)) ∙ ap (λ (i : SegmentInfo). i ∷ drop (j + 1) ys) item_there

  first_there : (if item.used == 0 then next else item.first) ≡ next_first (item ∷ drop (j + 1) ys) end
  first_there = ap (λ (n : ℕ). if item.used == 0 then n else item.first) next_is

  pub step_first : (if item.used == 0 then next else item.first) ≡ next_first (drop j ys) end
  step_first = first_there ∙ sym (ap (λ (l : List SegmentInfo). next_first l end) rest_is)

  pub step_front : take j (set xs j (record item { first = (if item.used == 0 then next else item.first) })) ≡ take j ys
  step_front = take-set xs j (record item { first = (if item.used == 0 then next else item.first) }) ∙ sym (take-take j (j + 1) xs (omega arith)) ∙ ap (λ (l : List SegmentInfo). take j l) front ∙ take-take j (j + 1) ys (omega arith)

  pub step_done : drop j (set xs j (record item { first = (if item.used == 0 then next else item.first) })) ≡ with_firsts (drop j ys) end
  step_done =
      drop-set xs j (record item { first = (if item.used == 0 then next else item.first) }) lt
      ∙ ap (λ (l : List SegmentInfo). record item { first = (if item.used == 0 then next else item.first) } ∷ l) done
      ∙ ap (λ (n : ℕ). record item { first = n } ∷ with_firsts (drop (j + 1) ys) end) first_there
      ∙ sym (ap (λ (l : List SegmentInfo). with_firsts l end) rest_is)
