-- Where the reading of a page begins.
use Rattle.std.proofs.Common.{◌≡◌, ◌≢◌, ⊎_elim, inl, inr, ℕ, suc, ◌+◌, ◌-◌, ◌*◌, ◌<◌, ◌≤◌, List, [], ◌∷◌, ◌++◌, length, take, drop, nat_le, nat_lt, Bool, true, false, ◌&&◌, if◌then◌else◌, refl, sym, ◌∙◌, ap, subst, arith, append_assoc, length-append, mul-le-mul_right, ◌⊎◌, All}
use Rattle.std.proofs.lemmas.Bool.{cases_Bool, cases_lt}
use Rattle.std.proofs.lemmas.Bool.Decides.{nat_tests}
use Rattle.std.proofs.lemmas.List.{append-nil, drop_at, take-take, take_at}
use Rattle.disk_core.specs.Content.{Content, range}
use Rattle.disk_core.proofs.Ranges.{range-split}
use Rattle.log_manifest.specs.declared.manifest.Live.{Live}
use Rattle.msg_format.specs.declared.record.Record.{Record}
use Rattle.msg_format.specs.Records.{head_of, lsn_of}
use Rattle.msg_format.proofs.Spelled.{text_long}
use Rattle.part_log.specs.declared.marks.Mark.{Mark}
use Rattle.part_log.specs.declared.paging.Start.{Start}
use Rattle.part_log.specs.declared.segment.Found.{Found}
use Rattle.part_log.specs.declared.segment.SegmentInfo.{SegmentInfo}
use Rattle.part_log.specs.Images.{AllHold, joined}
use Rattle.part_log.specs.Log.{AllFit, AllFront, AllSized, IsLog, IsTable, LogTable, placed_in}
use Rattle.part_log.specs.Marks.{AreMarks, IsMark, IsOneOf}
use Rattle.part_log.specs.Pages.{IsStart, first_start, found_from, from_lsn, is_within, start_from}
use Rattle.part_log.specs.Records.{Written, laid, entries_of, AreWritten, RisesFrom, next_after, Placed, placed_from, records_of, IsPlaced}
use Rattle.part_log.specs.Scan.{found_of}
use Rattle.part_log.specs.Segments.{lives_of, place_of}
use Rattle.part_log.proofs.Fronts.{all_hold}
use Rattle.part_log.proofs.Manifests.{AllApart, Without, named_apart}
use Rattle.part_log.proofs.Marking.{one_marked}
use Rattle.part_log.proofs.Meaning.{one_parts}
use Rattle.part_log.proofs.Pages.{RisesFrom-behind, RisesFrom-front, RisesFrom-lower, from_lsn-append, placed_from-append}
use Rattle.part_log.proofs.Records.{laid-append, records_of-append, records_of-placed, entries_of-append}
use Rattle.part_log.proofs.Scanning.{found_of-append}
use Rattle.part_log.proofs.Visible.{in_part, placed_either}

-- each of these records comes before an lsn
abbrev AllEarlier : ℕ → List Record → Type 0
AllEarlier bound [] = Unit {0}
AllEarlier bound (r ∷ records) = (lsn_of r < bound) × AllEarlier bound records

rises_least : (low : ℕ) (front : List Written) (w : Written) (rest : List Written) → RisesFrom low (front ++ w ∷ rest) → low ≤ lsn_of w.entry
rises_least low [] w rest rises = rises.0
rises_least low (x ∷ front) w rest rises = omega (arith, rises.0, rises_least (lsn_of x.entry + 1) front w rest rises.1)

earlier_front : (low : ℕ) (front : List Written) (w : Written) (rest : List Written) → RisesFrom low (front ++ w ∷ rest) → AllEarlier (lsn_of w.entry) (entries_of front)
earlier_front low [] w rest rises = tt
earlier_front low (x ∷ front) w rest rises = (omega (arith, rises_least (lsn_of x.entry + 1) front w rest rises.1), earlier_front (lsn_of x.entry + 1) front w rest rises.1)

not_le : (m n : ℕ) → n < m → nat_le m n ≡ false
not_le m n lt = grind (arith, nat_tests)

none_from : (lsn bound : ℕ) (before : List Placed) → bound ≤ lsn → AllEarlier bound (records_of before) → from_lsn lsn (found_of before) ≡ []
none_from lsn bound [] le earlier = refl
none_from lsn bound (p ∷ before) le earlier =
    let one : Found = record { place = p.place; head = head_of p.entry p.text } in
    ap (λ (b : Bool). if b then one ∷ from_lsn lsn (found_of before) else from_lsn lsn (found_of before)) (not_le lsn (lsn_of p.entry) (omega (arith, le, earlier.0)))
    ∙ none_from lsn bound before le earlier.1

-- A record among those of one segment: what stands in front of it and behind it.
record IsSplit (place : ℕ) (part : List Written) (p : Placed) : Type 0 where
  done : List Written
  w : Written
  more : List Written
  part_is : part ≡ done ++ w ∷ more
  place_is : p.place ≡ place + length (laid done)
  entry_is : w.entry ≡ p.entry

split_at : (place : ℕ) (part : List Written) (p : Placed) → IsPlaced p (placed_from place part) → IsSplit place part p
split_at place [] p there = absurd there
split_at place (x ∷ part) p (inl same) = record { done = []; w = x; more = part; part_is = refl; place_is = omega (arith, ap (λ (q : Placed). q.place) same); entry_is = sym (ap (λ (q : Placed). q.entry) same) }
split_at place (x ∷ part) p (inr there) =
    let rest = split_at (place + length x.text) part p there in
    record {
      done = x ∷ rest.done;
      w = rest.w;
      more = rest.more;
      part_is = ap (λ (l : List Written). x ∷ l) rest.part_is;
      place_is = omega (arith, rest.place_is, length-append x.text (laid rest.done));
      entry_is = rest.entry_is;
    }

-- a record of a segment stands within it
here_within : (segment : ℕ) (info : SegmentInfo) (part : List Written) (p : Placed) → info.used ≡ length (laid part) → AreWritten part → IsPlaced p (placed_from (place_of segment info.segment) part)
    → (place_of segment info.segment ≤ p.place) × (p.place < place_of segment info.segment + info.used)
here_within segment info part p size good there =
    let stands = in_part (place_of segment info.segment) part p good there in
    let long = text_long p.text p.entry stands.spelled in
    (omega (arith, stands.at), omega (arith, stands.at, stands.fits, size, long))

apart_lower : (segment i j place used : ℕ) → i < j → used ≤ segment → place_of segment j ≤ place → place < place_of segment i + used → ⊥
apart_lower segment i j place used lt fit from below =
    let more : (i + 1) * segment ≤ j * segment = mul-le-mul_right segment (omega (arith, lt)) in
    omega (arith, more, fit, from, below)

-- and not within another one
apart_within : (segment i j place used other : ℕ) → i ≢ j → used ≤ segment → other ≤ segment → place_of segment i ≤ place → place < place_of segment i + used → place_of segment j ≤ place → place < place_of segment j + other → ⊥
apart_within segment i j place used other apart fit fit_other from below also also_below = ⊎_elim
    (λ (lt : i < j). apart_lower segment i j place used lt fit also below)
    (λ (le : j ≤ i). ⊎_elim
    (λ (lt : j < i). apart_lower segment j i place other lt fit_other from also_below)
    (λ (ge : i ≤ j). apart (omega (arith, le, ge)))
    (cases_lt j i))
    (cases_lt i j)

elsewhere : (segment : ℕ) (info : SegmentInfo) (infos : List SegmentInfo) (parts : List (List Written)) (p : Placed) → Without info.segment infos → info.used ≤ segment → AllFit segment infos → AllSized infos parts → IsPlaced p (placed_in segment infos parts)
    → place_of segment info.segment ≤ p.place → p.place < place_of segment info.segment + info.used → ⊥
elsewhere segment info [] parts p apart small fit sized there from below = absurd there
elsewhere segment info (x ∷ infos) [] p apart small fit sized there from below = absurd there
elsewhere segment info (x ∷ infos) (part ∷ parts) p apart small fit sized there from below = ⊎_elim
    (λ (here : IsPlaced p (placed_from (place_of segment x.segment) part)).
    let within = here_within segment x part p sized.0 sized.1 here in
    apart_within segment info.segment x.segment p.place info.used x.used apart.0 small fit.0 from below within.0 within.1)
    (λ (later : IsPlaced p (placed_in segment infos parts)). elsewhere segment info infos parts p apart.1 small fit.1 sized.2 later from below)
    (placed_either p (placed_from (place_of segment x.segment) part) (placed_in segment infos parts) there)

within_true : (segment place : ℕ) (info : SegmentInfo) → place_of segment info.segment ≤ place → place < place_of segment info.segment + info.used → is_within segment place info ≡ true
within_true segment place info from below = grind (arith, nat_tests)

within_is : (segment place : ℕ) (info : SegmentInfo) → is_within segment place info ≡ true → (place_of segment info.segment ≤ place) × (place < place_of segment info.segment + info.used)
within_is segment place info is = (grind (arith, nat_tests), grind (arith, nat_tests))

abbrev here_start : ℕ → ℕ → ℕ → SegmentInfo → Start
here_start segment place k info = record { place = place; left = place_of segment info.segment + info.used - place; next = k + 1 }

-- Reading begins with this record; these ones come before it.
record BeginsAt (segment : ℕ) (infos : List SegmentInfo) (parts : List (List Written)) (seen : List ℕ) (start : Start) (k : ℕ) (p : Placed) : Type 0 where
  n : ℕ
  next_is : start.next ≡ k + n
  w : Written
  more : List Written
  entry_is : w.entry ≡ p.entry
  front : List Written
  joined_is : joined parts ≡ front ++ ((w ∷ more) ++ joined (drop n parts))
  before : List Placed
  same : records_of before ≡ entries_of front
  placed_is : placed_in segment infos parts ≡ before ++ (placed_from start.place (w ∷ more) ++ placed_in segment (drop n infos) (drop n parts))
  here : range start.place start.left seen ≡ laid (w ∷ more)
  good : AreWritten (w ∷ more)
  sized : AllSized (drop n infos) (drop n parts)
  fronts : AllFront segment (drop n infos) (drop n parts) seen

written_behind : (xs ys : List Written) → AreWritten (xs ++ ys) → AreWritten ys
written_behind [] ys good = good
written_behind (x ∷ xs) ys good = written_behind xs ys good.1

-- what stands in a segment behind its first records
here_behind : (place used : ℕ) (seen : List ℕ) (done left : List Written) → length (laid (done ++ left)) ≡ used → range place used seen ≡ laid (done ++ left) → range (place + length (laid done)) (used - length (laid done)) seen ≡ laid left
here_behind place used seen done left size here =
    let n : ℕ = length (laid done) in
    let both : range place used seen ≡ laid done ++ laid left = here ∙ laid-append done left in
    let fits : n ≤ used = omega (arith, size, ap (λ (l : List ℕ). length l) (laid-append done left), length-append (laid done) (laid left)) in
    let first : range place n seen ≡ laid done = sym (take-take n used (drop place seen) fits) ∙ ap (λ (l : List ℕ). take n l) both ∙ take_at (laid done) (laid left) n refl in
    let split : range place used seen ≡ range place n seen ++ range (place + n) (used - n) seen = ap (λ (m : ℕ). range place m seen) (let e : used ≡ n + (used - n) = omega (arith, fits) in e) ∙ range-split place n (used - n) seen in
    sym (drop_at (range place n seen) (range (place + n) (used - n) seen) n (ap (λ (l : List ℕ). length l) first))
    ∙ ap (λ (l : List ℕ). drop n l) (sym split ∙ both)
    ∙ drop_at (laid done) (laid left) n refl

-- in the first segment
begins_here : (segment : ℕ) (info : SegmentInfo) (infos : List SegmentInfo) (part : List Written) (parts : List (List Written)) (seen : List ℕ) (k place : ℕ) (p : Placed) → AllSized (info ∷ infos) (part ∷ parts) → AllFront segment (info ∷ infos) (part ∷ parts) seen
    → p.place ≡ place → IsSplit (place_of segment info.segment) part p → BeginsAt segment (info ∷ infos) (part ∷ parts) seen (record { place = place; left = place_of segment info.segment + info.used - place; next = k + 1 }) k p
begins_here segment info infos part parts seen k place p sized fronts place_is split =
    let from : ℕ = place_of segment info.segment in
    let n : ℕ = length (laid split.done) in
    let left : List Written = split.w ∷ split.more in
    let at : place ≡ from + n = omega (arith, place_is, split.place_is) in
    let left_is : from + info.used - place ≡ info.used - n = omega (arith, at) in
    let whole : range from info.used seen ≡ laid (split.done ++ left) = fronts.0.front ∙ ap laid split.part_is in
    let size : length (laid (split.done ++ left)) ≡ info.used = ap (λ (l : List Written). length (laid l)) (sym split.part_is) ∙ sym sized.0 in
    record {
      n = 1;
      next_is = refl;
      w = split.w;
      more = split.more;
      entry_is = split.entry_is;
      front = split.done;
      joined_is = ap (λ (l : List Written). l ++ joined parts) split.part_is ∙ append_assoc split.done left (joined parts);
      before = placed_from from split.done;
      same = records_of-placed from split.done;
      placed_is = ap (λ (l : List Written). placed_from from l ++ placed_in segment infos parts) split.part_is
          ∙ ap (λ (l : List Placed). l ++ placed_in segment infos parts) (placed_from-append from split.done left ∙ ap (λ (m : ℕ). placed_from from split.done ++ placed_from m left) (sym at))
          ∙ append_assoc (placed_from from split.done) (placed_from place left) (placed_in segment infos parts);
      here = ap (λ (m : ℕ). range m (from + info.used - place) seen) at ∙ ap (λ (m : ℕ). range (from + n) m seen) left_is ∙ here_behind from info.used seen split.done left size whole;
      good = written_behind split.done left (subst AreWritten split.part_is sized.1);
      sized = sized.2;
      fronts = fronts.1;
    }

-- in a later one
begins_later : (segment : ℕ) (info : SegmentInfo) (infos : List SegmentInfo) (part : List Written) (parts : List (List Written)) (seen : List ℕ) (start : Start) (k : ℕ) (p : Placed)
    → BeginsAt segment infos parts seen start (k + 1) p → BeginsAt segment (info ∷ infos) (part ∷ parts) seen start k p
begins_later segment info infos part parts seen start k p rest =
    let from : ℕ = place_of segment info.segment in
    record {
      n = suc rest.n;
      next_is = omega (arith, rest.next_is);
      w = rest.w;
      more = rest.more;
      entry_is = rest.entry_is;
      front = part ++ rest.front;
      joined_is = ap (λ (l : List Written). part ++ l) rest.joined_is ∙ sym (append_assoc part rest.front ((rest.w ∷ rest.more) ++ joined (drop rest.n parts)));
      before = placed_from from part ++ rest.before;
      same = records_of-append (placed_from from part) rest.before
          ∙ ap (λ (l : List Record). l ++ records_of rest.before) (records_of-placed from part)
          ∙ ap (λ (l : List Record). entries_of part ++ l) rest.same
          ∙ sym (entries_of-append part rest.front);
      placed_is = ap (λ (l : List Placed). placed_from from part ++ l) rest.placed_is
          ∙ sym (append_assoc (placed_from from part) rest.before (placed_from start.place (rest.w ∷ rest.more) ++ placed_in segment (drop rest.n infos) (drop rest.n parts)));
      here = rest.here;
      good = rest.good;
      sized = rest.sized;
      fronts = rest.fronts;
    }

begins_at : (segment : ℕ) (infos : List SegmentInfo) (parts : List (List Written)) (seen : List ℕ) (k place : ℕ) (p : Placed) → AllApart infos → AllFit segment infos → AllSized infos parts → AllFront segment infos parts seen
    → IsPlaced p (placed_in segment infos parts) → p.place ≡ place → BeginsAt segment infos parts seen (start_from segment place k infos) k p
begins_at segment [] parts seen k place p apart fit sized fronts there place_is = absurd there
begins_at segment (info ∷ infos) [] seen k place p apart fit sized fronts there place_is = absurd there
begins_at segment (info ∷ infos) (part ∷ parts) seen k place p apart fit sized fronts there place_is =
    let here : Start = record { place = place; left = place_of segment info.segment + info.used - place; next = k + 1 } in
    let later : Start = start_from segment place (k + 1) infos in
    ⊎_elim
    (λ (is : is_within segment place info ≡ true).
    let within = within_is segment place info is in
    subst (λ (b : Bool). BeginsAt segment (info ∷ infos) (part ∷ parts) seen (if b then here else later) k p) (sym is) (⊎_elim
    (λ (front : IsPlaced p (placed_from (place_of segment info.segment) part)). begins_here segment info infos part parts seen k place p sized fronts place_is (split_at (place_of segment info.segment) part p front))
    (λ (behind : IsPlaced p (placed_in segment infos parts)). absurd (elsewhere segment info infos parts p apart.0 fit.0 fit.1 sized.2 behind (omega (arith, within.0, place_is)) (omega (arith, within.1, place_is))))
    (placed_either p (placed_from (place_of segment info.segment) part) (placed_in segment infos parts) there)))
    (λ (is : is_within segment place info ≡ false).
    subst (λ (b : Bool). BeginsAt segment (info ∷ infos) (part ∷ parts) seen (if b then here else later) k p) (sym is) (⊎_elim
    (λ (front : IsPlaced p (placed_from (place_of segment info.segment) part)).
    let within = here_within segment info part p sized.0 sized.1 front in
    let yes : is_within segment place info ≡ true = within_true segment place info (omega (arith, within.0, place_is)) (omega (arith, within.1, place_is)) in
    absurd (cc (is, yes)))
    (λ (behind : IsPlaced p (placed_in segment infos parts)). begins_later segment info infos part parts seen later k p (begins_at segment infos parts seen (k + 1) place p apart.1 fit.1 sized.2 fronts.1 behind place_is))
    (placed_either p (placed_from (place_of segment info.segment) part) (placed_in segment infos parts) there)))
    (cases_Bool (is_within segment place info))

-- From a start on the log has the records at or above an lsn.
pub record Serves (segment : ℕ) (infos : List SegmentInfo) (start : Start) (seen : List ℕ) (placed : List Placed) (lsn : ℕ) : Type 0 where
  pub written : List Written
  pub parts : List (List Written)
  pub start_is : IsStart segment infos start seen written parts
  pub found_is : from_lsn lsn (found_from segment infos start written parts) ≡ from_lsn lsn (found_of placed)

module _ (table : LogTable) (good : IsTable table) (content : Content) (placed : List Placed) (log : IsLog table content placed) (lsn : ℕ) where
  pub first_serves : Serves table.settings.segment table.segments first_start content.seen placed lsn
  first_serves = record {
    written = [];
    parts = log.parts;
    start_is = record {
      stands = record { good = tt; rises = tt; here = refl };
      stand = record { sized = log.sized; fronts = (log.shown content.seen content.sees).fronts; rises = log.rises };
    };
    found_is = ap (λ (l : List Placed). from_lsn lsn (found_of l)) (sym log.all);
  }

  pub mark_serves : (mark : Mark) → IsMark mark placed → mark.lsn ≤ lsn → Serves table.settings.segment table.segments (start_from table.settings.segment mark.place 0 table.segments) content.seen placed lsn
  mark_serves mark is le =
      let segment : ℕ = table.settings.segment in
      let infos : List SegmentInfo = table.segments in
      let p : Placed = record { entry = is.0; text = is.2.0; place = mark.place } in
      let start : Start = start_from segment mark.place 0 infos in
      let one = begins_at segment infos log.parts content.seen 0 mark.place p (named_apart table table.end good.manifest) good.fit log.sized (log.shown content.seen content.sees).fronts (subst (λ (l : List Placed). IsPlaced p l) log.all is.2.1) refl in
      let left : List Written = one.w ∷ one.more in
      let rest : List Written = joined (drop one.n log.parts) in
      let rises : RisesFrom 0 (one.front ++ (left ++ rest)) = subst (λ (l : List Written). RisesFrom 0 l) one.joined_is log.rises in
      let behind : RisesFrom (next_after 0 one.front) (left ++ rest) = RisesFrom-behind 0 one.front (left ++ rest) rises in
      let n_is : one.n ≡ start.next = omega (arith, one.next_is) in
      let earlier : AllEarlier (lsn_of one.w.entry) (records_of one.before) = subst (λ (l : List Record). AllEarlier (lsn_of one.w.entry) l) (sym one.same) (earlier_front 0 one.front one.w (one.more ++ rest) rises) in
      let least : lsn_of one.w.entry ≤ lsn = omega (arith, ap (λ (r : Record). lsn_of r) one.entry_is, is.1, le) in
      let these : List Placed = placed_from start.place left ++ placed_in segment (drop one.n infos) (drop one.n log.parts) in
      record {
        written = left;
        parts = drop one.n log.parts;
        start_is = record {
          stands = record { good = one.good; rises = RisesFrom-lower (next_after 0 one.front) 0 left (omega arith) (RisesFrom-front (next_after 0 one.front) left rest behind); here = one.here };
          stand = record {
            sized = subst (λ (n : ℕ). AllSized (drop n infos) (drop one.n log.parts)) n_is one.sized;
            fronts = subst (λ (n : ℕ). AllFront segment (drop n infos) (drop one.n log.parts) content.seen) n_is one.fronts;
            rises = RisesFrom-behind (next_after 0 one.front) left rest behind;
          };
        };
        found_is = ap (λ (n : ℕ). from_lsn lsn (found_of (placed_from start.place left ++ placed_in segment (drop n infos) (drop one.n log.parts)))) (sym n_is)
            ∙ ap (λ (l : List Found). l ++ from_lsn lsn (found_of these)) (sym (none_from lsn (lsn_of one.w.entry) one.before least earlier))
            ∙ sym (from_lsn-append lsn (found_of one.before) (found_of these))
            ∙ ap (from_lsn lsn) (sym (found_of-append one.before these) ∙ ap found_of (sym (log.all ∙ one.placed_is)));
      }

-- one table and one content have one list of records
pub one_placed : (table : LogTable) (content : Content) (xs ys : List Placed) → IsTable table → IsLog table content xs → IsLog table content ys → xs ≡ ys
one_placed table content xs ys good one two =
    let segment : ℕ = table.settings.segment in
    let seen : List ℕ = content.seen in
    let parts : one.parts ≡ two.parts = one_parts segment seen (lives_of table.segments) one.parts two.parts
    (all_hold segment table.segments one.parts seen good.fit one.sized (one.shown seen content.sees).fronts)
    (all_hold segment table.segments two.parts seen good.fit two.sized (two.shown seen content.sees).fronts) in
    one.all ∙ ap (λ (l : List (List Written)). placed_in segment table.segments l) parts ∙ sym two.all

start_inside_from : (segment place size k : ℕ) (infos : List SegmentInfo) → 4096 ≤ size → All (λ (info : SegmentInfo). place_of segment info.segment + info.used ≤ size) infos → (start_from segment place k infos).place + (start_from segment place k infos).left ≤ size
start_inside_from segment place size k [] some inside = omega (arith, some)
start_inside_from segment place size k (info ∷ infos) some inside = ⊎_elim
    (λ (is : is_within segment place info ≡ true).
    let within = within_is segment place info is in
    let one = inside 0 info (omega arith) in
    subst (λ (b : Bool). (if b then here_start segment place k info else start_from segment place (k + 1) infos).place + (if b then here_start segment place k info else start_from segment place (k + 1) infos).left ≤ size) (sym is)
    (let e : place + (place_of segment info.segment + info.used - place) ≤ size = omega (arith, within.0, within.1, one) in e))
    (λ (is : is_within segment place info ≡ false).
    subst (λ (b : Bool). (if b then here_start segment place k info else start_from segment place (k + 1) infos).place + (if b then here_start segment place k info else start_from segment place (k + 1) infos).left ≤ size) (sym is)
    (start_inside_from segment place size (k + 1) infos some (λ j d lt. inside (suc j) d (omega (arith, lt)))))
    (cases_Bool (is_within segment place info))

start_next_from : (segment place k : ℕ) (infos : List SegmentInfo) → (start_from segment place k infos).next ≤ k + length infos
start_next_from segment place k [] = omega arith
start_next_from segment place k (info ∷ infos) = ⊎_elim
    (λ (is : is_within segment place info ≡ true). subst (λ (b : Bool). (if b then here_start segment place k info else start_from segment place (k + 1) infos).next ≤ k + length (info ∷ infos)) (sym is) (let e : k + 1 ≤ k + length (info ∷ infos) = omega arith in e))
    (λ (is : is_within segment place info ≡ false). subst (λ (b : Bool). (if b then here_start segment place k info else start_from segment place (k + 1) infos).next ≤ k + length (info ∷ infos)) (sym is) (omega (arith, start_next_from segment place (k + 1) infos)))
    (cases_Bool (is_within segment place info))

-- what is known of a start that marks gave
abbrev pub GivenStart : ℕ → List SegmentInfo → List Mark → ℕ → Start → Type 0
GivenStart segment infos marks lsn start = (start ≡ first_start) ⊎ ((mark : Mark) × IsOneOf mark marks × (mark.lsn ≤ lsn) × (start ≡ start_from segment mark.place 0 infos))

pub start_inside : (segment : ℕ) (infos : List SegmentInfo) (marks : List Mark) (lsn : ℕ) (start : Start) (size : ℕ) → GivenStart segment infos marks lsn start → 4096 ≤ size → All (λ (info : SegmentInfo). place_of segment info.segment + info.used ≤ size) infos → start.place + start.left ≤ size
start_inside segment infos marks lsn start size (inl first) some inside = subst (λ (s : Start). s.place + s.left ≤ size) (sym first) (omega (arith, some))
start_inside segment infos marks lsn start size (inr given) some inside = subst (λ (s : Start). s.place + s.left ≤ size) (sym given.3) (start_inside_from segment given.0.place size 0 infos some inside)

pub start_next : (segment : ℕ) (infos : List SegmentInfo) (marks : List Mark) (lsn : ℕ) (start : Start) → GivenStart segment infos marks lsn start → start.next ≤ length infos
start_next segment infos marks lsn start (inl first) = subst (λ (s : Start). s.next ≤ length infos) (sym first) (omega arith)
start_next segment infos marks lsn start (inr given) = subst (λ (s : Start). s.next ≤ length infos) (sym given.3) (omega (arith, start_next_from segment given.0.place 0 infos))

pub start_serves : (table : LogTable) (content : Content) (placed : List Placed) (marks : List Mark) (lsn : ℕ) (start : Start) → IsTable table → IsLog table content placed → AreMarks marks placed → GivenStart table.settings.segment table.segments marks lsn start
    → Serves table.settings.segment table.segments start content.seen placed lsn
start_serves table content placed marks lsn start good log are (inl first) = subst (λ (s : Start). Serves table.settings.segment table.segments s content.seen placed lsn) (sym first) (first_serves table good content placed log lsn)
start_serves table content placed marks lsn start good log are (inr given) = subst (λ (s : Start). Serves table.settings.segment table.segments s content.seen placed lsn) (sym given.3)
    (mark_serves table good content placed log lsn given.0 (one_marked given.0 marks placed given.1 are) given.2)
