-- Pages of a log.
use Rattle.std.proofs.Common.{◌≡◌, inl, ⊎_elim, ℕ, zero, suc, ◌+◌, ◌-◌, ◌*◌, ◌<◌, ◌≤◌, get_or, All, mul-le-mul_right, List, [], ◌∷◌, ◌++◌, length, take, drop, nat_le, Bool, true, false, if◌then◌else◌, refl, sym, ◌∙◌, ap, subst, arith, append_assoc, length-append}
use Rattle.std.proofs.lemmas.Bool.{cases_Bool}
use Rattle.std.proofs.lemmas.List.{append-nil, drop_at, length-drop, length-take, take_at}
use Rattle.disk_core.specs.Content.{Content, range}
use Rattle.disk_core.proofs.Ranges.{range-split, length-range}
use Rattle.log_manifest.specs.declared.manifest.Manifest.{Manifest}
use Rattle.log_manifest.specs.Manifests.{IsLive}
use Rattle.msg_format.specs.declared.record.Record.{Record}
use Rattle.msg_format.specs.Records.{BeginsWith, head_of, lsn_of}
use Rattle.msg_format.proofs.Spelled.{spellings_apart, text_long}
use Rattle.part_log.specs.declared.paging.Page.{Page}
use Rattle.part_log.specs.declared.segment.Found.{Found}
use Rattle.part_log.specs.declared.segment.SegmentInfo.{SegmentInfo}
use Rattle.part_log.specs.Images.{joined}
use Rattle.part_log.specs.Log.{AllFit, AllFront, AllSized, IsLog, IsTable, LogTable, disk_size, manifest_of, placed_in}
use Rattle.part_log.specs.Segments.{lives_of, place_of}
use Rattle.part_log.specs.Records.{Written, laid, AreWritten, EndsHere, RisesFrom, next_after, Placed, placed_from}
use Rattle.part_log.specs.Pages.{IsPage, StandIn, StandsAt, filled, from_lsn, page_of}
use Rattle.part_log.specs.Scan.{found_of, IsBroken, ReadsOn}
use Rattle.part_log.proofs.Records.{goes_on, laid-append, length-laid-one, next_after-append, next_after-one, placed_from-one}
use Rattle.part_log.proofs.Scanning.{found_of-append}

take-take-append : {X : Type 0} (n : ℕ) (xs ys : List X) → take n (take n xs ++ ys) ≡ take n (xs ++ ys)
take-take-append zero xs ys = refl
take-take-append (suc n) [] ys = refl
take-take-append {X} (suc n) (x ∷ xs) ys = ap (λ (l : List X). x ∷ l) (take-take-append n xs ys)

take-whole : {X : Type 0} (n : ℕ) (xs : List X) → length xs ≤ n → take n xs ≡ xs
take-whole zero [] le = refl
take-whole zero (x ∷ xs) le = absurd (omega (arith, le))
take-whole (suc n) [] le = refl
take-whole {X} (suc n) (x ∷ xs) le = ap (λ (l : List X). x ∷ l) (take-whole n xs (omega (arith, le)))

pub rest_whole : {X : Type 0} (n : ℕ) (xs : List X) → take (length xs - n) (drop n xs) ≡ drop n xs
rest_whole n xs = take-whole (length xs - n) (drop n xs) (omega (arith, length-drop n xs))

pub from_lsn-append : (lsn : ℕ) (xs ys : List Found) → from_lsn lsn (xs ++ ys) ≡ from_lsn lsn xs ++ from_lsn lsn ys
from_lsn-append lsn [] ys = refl
from_lsn-append lsn (x ∷ xs) ys = ⊎_elim
    (λ (is : nat_le lsn x.head.lsn ≡ true).
    ap (λ (b : Bool). if b then x ∷ from_lsn lsn (xs ++ ys) else from_lsn lsn (xs ++ ys)) is
    ∙ ap (λ (l : List Found). x ∷ l) (from_lsn-append lsn xs ys)
    ∙ ap (λ (b : Bool). (if b then x ∷ from_lsn lsn xs else from_lsn lsn xs) ++ from_lsn lsn ys) (sym is))
    (λ (is : nat_le lsn x.head.lsn ≡ false).
    ap (λ (b : Bool). if b then x ∷ from_lsn lsn (xs ++ ys) else from_lsn lsn (xs ++ ys)) is
    ∙ from_lsn-append lsn xs ys
    ∙ ap (λ (b : Bool). (if b then x ∷ from_lsn lsn xs else from_lsn lsn xs) ++ from_lsn lsn ys) (sym is))
    (cases_Bool (nat_le lsn x.head.lsn))

module _ (most lsn : ℕ) (kept : List Found) where
  pub filled_more : (xs ys : List Found) → take most (take most (kept ++ from_lsn lsn xs) ++ from_lsn lsn ys) ≡ take most (kept ++ from_lsn lsn (xs ++ ys))
  filled_more xs ys =
      take-take-append most (kept ++ from_lsn lsn xs) (from_lsn lsn ys)
      ∙ ap (λ (l : List Found). take most l) (append_assoc kept (from_lsn lsn xs) (from_lsn lsn ys) ∙ ap (λ (l : List Found). kept ++ l) (sym (from_lsn-append lsn xs ys)))

  -- a page that is full
  pub filled_full : (xs ys : List Found) → most ≤ length (take most (kept ++ from_lsn lsn xs)) → take most (kept ++ from_lsn lsn xs) ≡ take most (kept ++ from_lsn lsn (xs ++ ys))
  filled_full xs ys full =
      let mid : List Found = take most (kept ++ from_lsn lsn xs) in
      let short : length mid ≡ most = omega (arith, full, length-take most (kept ++ from_lsn lsn xs)) in
      sym (take_at mid (from_lsn lsn ys) most short) ∙ filled_more xs ys

pub filled_none : (most lsn : ℕ) (kept : List Found) → length kept ≤ most → kept ≡ take most (kept ++ from_lsn lsn [])
filled_none most lsn kept short = sym (ap (λ (l : List Found). take most l) (append-nil kept) ∙ take-whole most kept short)

-- a page with one record more, for which there was room
pub filled_one : (most lsn : ℕ) (kept : List Found) (xs : List Found) (mid : List Found) (one : Found) (new : List Found) → mid ≡ take most (kept ++ from_lsn lsn xs) → new ≡ mid ++ from_lsn lsn (one ∷ []) → length new ≤ most
    → new ≡ take most (kept ++ from_lsn lsn (xs ++ one ∷ []))
filled_one most lsn kept xs mid one new mid_is new_is short =
    sym (take-whole most new short) ∙ ap (λ (l : List Found). take most l) (new_is ∙ ap (λ (l : List Found). l ++ from_lsn lsn (one ∷ [])) mid_is) ∙ filled_more most lsn kept xs (one ∷ [])

pub next_after-least : (low : ℕ) (xs : List Written) → RisesFrom low xs → low ≤ next_after low xs
next_after-least low [] rises = omega arith
next_after-least low (x ∷ xs) rises = omega (arith, rises.0, next_after-least (lsn_of x.entry + 1) xs rises.1)

next_after-rises : (low high : ℕ) (xs : List Written) → low ≤ high → next_after low xs ≤ next_after high xs
next_after-rises low high [] le = le
next_after-rises low high (x ∷ xs) le = omega arith

pub RisesFrom-behind : (low : ℕ) (xs ys : List Written) → RisesFrom low (xs ++ ys) → RisesFrom (next_after low xs) ys
RisesFrom-behind low [] ys rises = rises
RisesFrom-behind low (x ∷ xs) ys rises = RisesFrom-behind (lsn_of x.entry + 1) xs ys rises.1

pub RisesFrom-front : (low : ℕ) (xs ys : List Written) → RisesFrom low (xs ++ ys) → RisesFrom low xs
RisesFrom-front low [] ys rises = tt
RisesFrom-front low (x ∷ xs) ys rises = (rises.0, RisesFrom-front (lsn_of x.entry + 1) xs ys rises.1)

pub RisesFrom-lower : (low less : ℕ) (xs : List Written) → less ≤ low → RisesFrom low xs → RisesFrom less xs
RisesFrom-lower low less [] le rises = tt
RisesFrom-lower low less (x ∷ xs) le rises = (omega (arith, le, rises.0), rises.1)

written_behind : (xs ys : List Written) → AreWritten (xs ++ ys) → AreWritten ys
written_behind [] ys good = good
written_behind (x ∷ xs) ys good = written_behind xs ys good.1

-- Records that were read one after the other at a place, and those that are left.
pub record IsAlong (place low used next : ℕ) (written done left : List Written) : Type 0 where
  pub split : written ≡ done ++ left
  pub size : length (laid done) ≡ used
  pub next_is : next ≡ next_after low done

pub along_first : (place low : ℕ) (written : List Written) → IsAlong place low 0 low written [] written
along_first place low written = record { split = refl; size = refl; next_is = refl }

module _ (place size low : ℕ) (seen : List ℕ) (written : List Written) (stands : StandsAt place size low seen written) (inside : place + size ≤ length seen) (used next : ℕ) (within : used ≤ size) where
  module _ (done left : List Written) (along : IsAlong place low used next written done left) where
    -- what stands there is what is left
    left_here : range (place + used) (size - used) seen ≡ laid left
    left_here =
        let whole : range place used seen ++ range (place + used) (size - used) seen ≡ laid done ++ laid left =
        sym (range-split place used (size - used) seen)
        ∙ ap (λ (n : ℕ). range place n seen) (let e : used + (size - used) ≡ size = omega (arith, within) in e)
        ∙ stands.here
        ∙ ap laid along.split
        ∙ laid-append done left in
        sym (drop_at (range place used seen) (range (place + used) (size - used) seen) used (length-range place used seen (omega (arith, inside, within))))
        ∙ ap (λ (l : List ℕ). drop used l) whole
        ∙ drop_at (laid done) (laid left) used along.size

    left_rises : RisesFrom next left
    left_rises = subst (λ (k : ℕ). RisesFrom k left) (sym along.next_is) (RisesFrom-behind low done left (subst (λ (l : List Written). RisesFrom low l) along.split stands.rises))

    left_good : AreWritten left
    left_good = written_behind done left (subst AreWritten along.split stands.good)

  -- where the records end none is left
  pub none_left : (done left : List Written) → IsAlong place low used next written done left → EndsHere (range (place + used) (size - used) seen) → written ≡ done
  none_left done [] along ends = along.split ∙ append-nil done
  none_left done (w ∷ left) along ends = absurd (goes_on w.text w.entry (range (place + used) (size - used) seen) (laid left) (left_good done (w ∷ left) along).0 (left_here done (w ∷ left) along) ends)

  -- no record is broken
  pub none_broken : (done left : List Written) → IsAlong place low used next written done left → IsBroken next (range (place + used) (size - used) seen) → ⊥
  none_broken done [] along broken = broken.goes_on (inl (omega (arith, ap (λ (l : List ℕ). length l) (left_here done [] along))))
  none_broken done (w ∷ left) along broken = broken.none w.entry (record { text = w.text; spelled = (left_good done (w ∷ left) along).0; rest = laid left; parts = left_here done (w ∷ left) along }) (left_rises done (w ∷ left) along).0

  module _ (one : Found) (more_next : ℕ) (on : ReadsOn (range (place + used) (size - used) seen) (place + used) next one more_next) where
    -- the record that is read is the next one
    pub along_one : (done left : List Written) → IsAlong place low used next written done left
        → (w : Written) × (behind : List Written) × IsAlong place low (used + one.head.len) more_next written (done ++ w ∷ []) behind × (found_of (placed_from place (done ++ w ∷ [])) ≡ found_of (placed_from place done) ++ one ∷ [])
    along_one done [] along = absurd (omega (arith, ap (λ (l : List ℕ). length l) (sym on.begins.parts ∙ left_here done [] along), length-append on.begins.text on.begins.rest, text_long on.begins.text on.entry on.begins.spelled))
    along_one done (w ∷ left) along =
        let apart = spellings_apart on.begins.text w.text on.entry w.entry on.begins.rest (laid left) on.begins.spelled (left_good done (w ∷ left) along).0 (sym on.begins.parts ∙ left_here done (w ∷ left) along) in
        let one_is : one ≡ record { place = place + length (laid done); head = head_of w.entry w.text } =
        on.one_is ∙ (λ i. record { place = place + used; head = head_of (apart.0 i) (apart.1 i) }) ∙ ap (λ (k : ℕ). record { place = place + k; head = head_of w.entry w.text }) (sym along.size) in (
          w,
          left,
          record {
            split = along.split ∙ sym (append_assoc done (w ∷ []) left);
            size = omega (arith, length-laid-one done w, along.size, ap (λ (f : Found). f.head.len) one_is);
            next_is = on.next_is ∙ ap (λ (r : Record). lsn_of r + 1) apart.0 ∙ sym (next_after-one low done w);
          },
          ap found_of (placed_from-one place done w)
              ∙ found_of-append (placed_from place done) (record { entry = w.entry; text = w.text; place = place + length (laid done) } ∷ [])
              ∙ ap (λ (f : Found). found_of (placed_from place done) ++ f ∷ []) (sym one_is),
        )

  pub passed_at_most : (done left : List Written) → IsAlong place low used next written done left → next ≤ next_after low written
  passed_at_most done left along = omega (
    arith,
    ap (λ (l : List Written). next_after low l) along.split,
    next_after-append low done left,
    next_after-least (next_after low done) left (subst (λ (k : ℕ). RisesFrom k left) along.next_is (left_rises done left along)),
    along.next_is,
  )

pub placed_from-append : (place : ℕ) (xs ys : List Written) → placed_from place (xs ++ ys) ≡ placed_from place xs ++ placed_from (place + length (laid xs)) ys
placed_from-append place [] ys = ap (λ (k : ℕ). placed_from k ys) (let e : place ≡ place + 0 = omega arith in e)
placed_from-append place (x ∷ xs) ys = ap (λ (l : List Placed). record { entry = x.entry; text = x.text; place = place } ∷ l) (placed_from-append (place + length x.text) xs ys
    ∙ ap (λ (k : ℕ). placed_from (place + length x.text) xs ++ placed_from k ys) (let e : place + length x.text + length (laid xs) ≡ place + length (x.text ++ laid xs) = omega (arith, length-append x.text (laid xs)) in e))

-- what a full page has behind some of these records it has behind all
pub full_all : (page : Page) (place : ℕ) (done left : List Written) (found : List Found) → found ≡ filled page (found_of (placed_from place done)) → page.most ≤ length found → found ≡ filled page (found_of (placed_from place (done ++ left)))
full_all page place done left found is full =
    let behind : List Placed = placed_from (place + length (laid done)) left in
    is ∙ filled_full page.most page.least page.found.items (found_of (placed_from place done)) (found_of behind) (subst (λ (l : List Found). page.most ≤ length l) is full)
    ∙ ap (λ (l : List Found). filled page l) (sym (ap found_of (placed_from-append place done left) ∙ found_of-append (placed_from place done) behind))

-- A segment of a list, and its records.
pub record IsNext (segment : ℕ) (infos : List SegmentInfo) (parts : List (List Written)) (low : ℕ) (seen : List ℕ) (k : ℕ) (info : SegmentInfo) : Type 0 where
  pub part : List Written
  pub stands : StandsAt (place_of segment info.segment) info.used (next_after low (joined (take k parts))) seen part
  pub placed : placed_in segment (take (suc k) infos) (take (suc k) parts) ≡ placed_in segment (take k infos) (take k parts) ++ placed_from (place_of segment info.segment) part
  pub all : joined (take (suc k) parts) ≡ joined (take k parts) ++ part

next_in : (segment : ℕ) (infos : List SegmentInfo) (parts : List (List Written)) (low : ℕ) (seen : List ℕ) (k : ℕ) (d : SegmentInfo) → k < length infos → AllSized infos parts → AllFront segment infos parts seen → RisesFrom low (joined parts)
    → IsNext segment infos parts low seen k (get_or infos k d)
next_in segment [] parts low seen k d lt sized fronts rises = absurd (omega (arith, lt))
next_in segment (info ∷ infos) [] low seen k d lt sized fronts rises = absurd sized
next_in segment (info ∷ infos) (part ∷ parts) low seen zero d lt sized fronts rises = record {
  part = part;
  stands = record { good = sized.1; rises = RisesFrom-front low part (joined parts) rises; here = fronts.0.front };
  placed = append-nil (placed_from (place_of segment info.segment) part);
  all = append-nil part;
}
next_in segment (info ∷ infos) (part ∷ parts) low seen (suc k) d lt sized fronts rises =
    let rest = next_in segment infos parts (next_after low part) seen k d (omega (arith, lt)) sized.2 fronts.1 (RisesFrom-behind low part (joined parts) rises) in
    let one = get_or infos k d in
    record {
      part = rest.part;
      stands = subst (λ (n : ℕ). StandsAt (place_of segment one.segment) one.used n seen rest.part) (sym (next_after-append low part (joined (take k parts)))) rest.stands;
      placed = ap (λ (l : List Placed). placed_from (place_of segment info.segment) part ++ l) rest.placed
          ∙ sym (append_assoc (placed_from (place_of segment info.segment) part) (placed_in segment (take k infos) (take k parts)) (placed_from (place_of segment one.segment) rest.part));
      all = ap (λ (l : List Written). part ++ l) rest.all ∙ sym (append_assoc part (joined (take k parts)) rest.part);
    }

-- a page with these records, and then with those
pub filled_then : (page mid : Page) (found : List Found) (xs ys : List Placed) → mid.least ≡ page.least → mid.most ≡ page.most → mid.found.items ≡ filled page (found_of xs) → found ≡ filled mid (found_of ys) → found ≡ filled page (found_of (xs ++ ys))
filled_then page mid found xs ys least most mid_is found_is =
    found_is
    ∙ ap (λ (n : ℕ). take n (mid.found.items ++ from_lsn mid.least (found_of ys))) most
    ∙ ap (λ (n : ℕ). take page.most (mid.found.items ++ from_lsn n (found_of ys))) least
    ∙ ap (λ (l : List Found). take page.most (l ++ from_lsn page.least (found_of ys))) mid_is
    ∙ filled_more page.most page.least page.found.items (found_of xs) (found_of ys)
    ∙ ap (λ (l : List Found). filled page l) (sym (found_of-append xs ys))

pub stand_lower : (segment : ℕ) (infos : List SegmentInfo) (low less : ℕ) (seen : List ℕ) (parts : List (List Written)) → less ≤ low → StandIn segment infos low seen parts → StandIn segment infos less seen parts
stand_lower segment infos low less seen parts le stand = record { sized = stand.sized; fronts = stand.fronts; rises = RisesFrom-lower low less (joined parts) le stand.rises }

pub next_one : (segment : ℕ) (infos : List SegmentInfo) (parts : List (List Written)) (low : ℕ) (seen : List ℕ) (k : ℕ) (d : SegmentInfo) → k < length infos → StandIn segment infos low seen parts → IsNext segment infos parts low seen k (get_or infos k d)
next_one segment infos parts low seen k d lt stand = next_in segment infos parts low seen k d lt stand.sized stand.fronts stand.rises

module _ (segment : ℕ) (infos : List SegmentInfo) (parts : List (List Written)) (low : ℕ) (seen : List ℕ) (k : ℕ) (info : SegmentInfo) (one : IsNext segment infos parts low seen k info) where
  pub next_stands : (next : ℕ) → next ≤ next_after low (joined (take k parts)) → StandsAt (place_of segment info.segment) info.used next seen one.part
  next_stands next le = record { good = one.stands.good; rises = RisesFrom-lower (next_after low (joined (take k parts))) next one.part le one.stands.rises; here = one.stands.here }

  pub next_passed : (next more : ℕ) → next ≤ next_after low (joined (take k parts)) → more ≤ next_after next one.part → more ≤ next_after low (joined (take (k + 1) parts))
  next_passed next more le passed = omega (
    arith,
    passed,
    next_after-rises next (next_after low (joined (take k parts))) one.part le,
    next_after-append low (joined (take k parts)) one.part,
    ap (λ (l : List Written). next_after low l) one.all,
    ap (λ (n : ℕ). next_after low (joined (take n parts))) (let e : suc k ≡ k + 1 = omega arith in e),
  )

  pub next_filled : (page mid : Page) (found : List Found) → mid.least ≡ page.least → mid.most ≡ page.most → mid.found.items ≡ filled page (found_of (placed_in segment (take k infos) (take k parts)))
      → found ≡ filled mid (found_of (placed_from (place_of segment info.segment) one.part)) → found ≡ filled page (found_of (placed_in segment (take (k + 1) infos) (take (k + 1) parts)))
  next_filled page mid found least most mid_is found_is =
      filled_then page mid found (placed_in segment (take k infos) (take k parts)) (placed_from (place_of segment info.segment) one.part) least most mid_is found_is
      ∙ ap (λ (l : List Placed). filled page (found_of l)) (sym one.placed)
      ∙ ap (λ (n : ℕ). filled page (found_of (placed_in segment (take n infos) (take n parts)))) (let e : suc k ≡ k + 1 = omega arith in e)

pub filled_first : (segment : ℕ) (page : Page) (infos : List SegmentInfo) (parts : List (List Written)) → IsPage page → page.found.items ≡ filled page (found_of (placed_in segment (take 0 infos) (take 0 parts)))
filled_first segment page infos parts good = filled_none page.most page.least page.found.items good.short

sized_long : (infos : List SegmentInfo) (parts : List (List Written)) → AllSized infos parts → length parts ≡ length infos
sized_long [] [] sized = refl
sized_long [] (part ∷ parts) sized = absurd sized
sized_long (info ∷ infos) [] sized = absurd sized
sized_long (info ∷ infos) (part ∷ parts) sized = ap (λ (n : ℕ). suc n) (sized_long infos parts sized.2)

pub filled_last : (segment : ℕ) (page : Page) (infos : List SegmentInfo) (parts : List (List Written)) (found : List Found) (k : ℕ) → length infos ≤ k → AllSized infos parts → found ≡ filled page (found_of (placed_in segment (take k infos) (take k parts)))
    → found ≡ filled page (found_of (placed_in segment infos parts))
filled_last segment page infos parts found k le sized is =
    is
    ∙ ap (λ (l : List SegmentInfo). filled page (found_of (placed_in segment l (take k parts)))) (take-whole k infos le)
    ∙ ap (λ (l : List (List Written)). filled page (found_of (placed_in segment infos l))) (take-whole k parts (omega (arith, le, sized_long infos parts sized)))

infos_inside : (manifest : Manifest) (infos : List SegmentInfo) (size : ℕ) → All (IsLive manifest) (lives_of infos) → AllFit manifest.settings.segment infos → size ≡ disk_size manifest.settings
    → (k : ℕ) (d : SegmentInfo) → k < length infos → place_of manifest.settings.segment (get_or infos k d).segment + (get_or infos k d).used ≤ size
infos_inside manifest [] size each fit is k d lt = absurd (omega (arith, lt))
infos_inside manifest (info ∷ infos) size each fit is zero d lt =
    let small = (each 0 (record { segment = 0; generation = 0 }) (omega arith)).segment in
    let more : (info.segment + 1) * manifest.settings.segment ≤ manifest.settings.segments * manifest.settings.segment = mul-le-mul_right manifest.settings.segment (omega (arith, small)) in
    omega (arith, more, is, fit.0)
infos_inside manifest (info ∷ infos) size each fit is (suc k) d lt = infos_inside manifest infos size (λ j e less. each (suc j) e (omega (arith, less))) fit.1 is k d (omega (arith, lt))

-- the records of each segment lie on the disk
pub table_inside : (table : LogTable) (size : ℕ) → IsTable table → size ≡ disk_size table.settings → All (λ (info : SegmentInfo). place_of table.settings.segment info.segment + info.used ≤ size) table.segments
table_inside table size good is = λ k d lt. infos_inside (manifest_of table table.end) table.segments size good.manifest.each good.fit is k d lt

pub page_filled : (page : Page) (lsn most : ℕ) (found : List Found) → page.least ≡ lsn → page.most ≡ most → page.found.items ≡ [] → filled page found ≡ page_of lsn most found
page_filled page lsn most found least_is most_is none =
    ap (λ (l : List Found). take page.most (l ++ from_lsn page.least found)) none
    ∙ ap (λ (n : ℕ). take n (from_lsn page.least found)) most_is
    ∙ ap (λ (n : ℕ). take most (from_lsn n found)) least_is
