-- Records that were read one after the other.
use Rattle.std.proofs.Common.{◌≡◌, ◌≢◌, ℕ, ◌+◌, ◌-◌, ◌≤◌, ◌==◌, List, [], ◌∷◌, ◌++◌, length, take, drop, Bool, true, false, if◌then◌else◌, refl, sym, ◌∙◌, ap, subst, arith, length-append, Err, IsErrOf}
use Rattle.std.proofs.lemmas.Bool.Decides.{nat_tests}
use Rattle.std.proofs.lemmas.List.{take_at, take-take}
use Rattle.disk_core.specs.Content.{Content, ChangesBy, Only, Same, range}
use Rattle.disk_core.proofs.Ranges.{range-split}
use Rattle.disk_core.proofs.Changes.{chain, same_image, no_change}
use Rattle.msg_format.specs.Records.{head_of, lsn_of}
use Rattle.msg_format.proofs.Spelled.{text_long}
use Rattle.part_log.specs.declared.fault.OpenFault.TheVariants.{Damaged}
use Rattle.part_log.specs.declared.scan.Extent.{Extent}
use Rattle.part_log.specs.declared.segment.Found.{Found}
use Rattle.part_log.specs.Records.{Written, laid, AreWritten, first_lsn, Placed, placed_from}
use Rattle.part_log.specs.Images.{EndsBadly}
use Rattle.part_log.specs.Scan.{found_of, IsBroken, IsRead, ReadsOn, TakesAll}
use Rattle.part_log.proofs.Records.{AreWritten-one, RisesFrom-one, laid-one, length-laid-one, next_after-one, placed_from-one}

pub found_of-append : (xs ys : List Placed) → found_of (xs ++ ys) ≡ found_of xs ++ found_of ys
found_of-append [] ys = refl
found_of-append (x ∷ xs) ys = ap (λ (l : List Found). record { place = x.place; head = head_of x.entry x.text } ∷ l) (found_of-append xs ys)

pub eq_true : (m n : ℕ) → m ≡ n → (m == n) ≡ true
eq_true m n same = grind (arith, nat_tests)

pub eq_false : (m n : ℕ) → m ≢ n → (m == n) ≡ false
eq_false m n other = grind (arith, nat_tests)

-- takings, one after the other
module _ {C : Type 0} (takes : C → Found → C → Type 0) where
  pub takes_one : (old : C) (found : List Found) (mid : C) (one : Found) (new : C) → TakesAll takes old found mid → takes mid one new → TakesAll takes old (found ++ one ∷ []) new
  takes_one old [] mid one new all taken = (new, subst (λ (x : C). takes x one new) all taken, refl)
  takes_one old (x ∷ found) mid one new all taken = (all.0, all.1, takes_one all.0 found mid one new all.2 taken)

  pub takes_more : (old : C) (xs ys : List Found) (mid new : C) → TakesAll takes old xs mid → TakesAll takes mid ys new → TakesAll takes old (xs ++ ys) new
  takes_more old [] ys mid new first second = subst (λ (x : C). TakesAll takes x ys new) first second
  takes_more old (x ∷ xs) ys mid new first second = (first.0, first.1, takes_more first.0 xs ys mid new first.2 second)

pub none_read : (start low : ℕ) (seen : List ℕ) → IsRead start low seen (record { used = 0; first = 0 }) low []
none_read start low seen = record { good = tt; rises = tt; size = refl; front = refl; first_is = refl; next_is = refl }

first_more : (extent : Extent) (one : Found) (written : List Written) (w : Written) → AreWritten written → length (laid written) ≡ extent.used → extent.first ≡ first_lsn written 0 → one.head.lsn ≡ lsn_of w.entry
    → (if extent.used == 0 then one.head.lsn else extent.first) ≡ first_lsn (written ++ w ∷ []) 0
first_more extent one [] w good size first is = ap (λ (b : Bool). if b then one.head.lsn else extent.first) (eq_true extent.used 0 (sym size)) ∙ is
first_more extent one (x ∷ written) w good size first is =
    let some : 38 ≤ extent.used = omega (arith, size, length-append x.text (laid written), text_long x.text x.entry good.0) in
    ap (λ (b : Bool). if b then one.head.lsn else extent.first) (eq_false extent.used 0 (λ none. omega (arith, some, none))) ∙ first

module _ (start segment low : ℕ) (seen : List ℕ) (extent : Extent) (next : ℕ) (written : List Written) (within : extent.used ≤ segment) (so_far : IsRead start low seen extent next written) where
  module _ (one : Found) (more_next : ℕ) (on : ReadsOn (range (start + extent.used) (segment - extent.used) seen) (start + extent.used) next one more_next) where
    its_place : start + extent.used ≡ start + length (laid written)
    its_place = omega (arith, so_far.size)

    pub read_more : one.head.len ≤ segment - extent.used → IsRead start low seen (record { used = extent.used + one.head.len; first = if extent.used == 0 then one.head.lsn else extent.first }) more_next (written ++ record { entry = on.entry; text = on.begins.text } ∷ [])
    read_more fits =
        let n : ℕ = one.head.len in
        let text : List ℕ = on.begins.text in
        let one_more : Written = record { entry = on.entry; text = on.begins.text } in
        let long : length text ≡ n = sym (ap (λ (f : Found). f.head.len) on.one_is) in
        let its_text : range (start + extent.used) n seen ≡ text = sym (take-take n (segment - extent.used) (drop (start + extent.used) seen) fits) ∙ ap (λ (l : List ℕ). take n l) on.begins.parts ∙ take_at text on.begins.rest n long in
        record {
          good = AreWritten-one written one_more so_far.good on.begins.spelled;
          rises = RisesFrom-one low written one_more so_far.rises (omega (arith, so_far.next_is, on.rises));
          size = omega (arith, length-laid-one written one_more, so_far.size, long);
          front = range-split start extent.used n seen ∙ ap (λ (l : List ℕ). l ++ range (start + extent.used) n seen) so_far.front ∙ ap (λ (l : List ℕ). laid written ++ l) its_text ∙ sym (laid-one written one_more);
          first_is = first_more extent one written one_more so_far.good so_far.size so_far.first_is (ap (λ (f : Found). f.head.lsn) on.one_is);
          next_is = on.next_is ∙ sym (next_after-one low written one_more);
        }

    pub placed_more : placed_from start (written ++ record { entry = on.entry; text = on.begins.text } ∷ []) ≡ placed_from start written ++ record { entry = on.entry; text = on.begins.text; place = one.place } ∷ []
    placed_more =
        placed_from-one start written (record { entry = on.entry; text = on.begins.text })
        ∙ ap (λ (k : ℕ). placed_from start written ++ record { entry = on.entry; text = on.begins.text; place = k } ∷ []) (sym its_place ∙ sym (ap (λ (f : Found). f.place) on.one_is))

    pub found_more : found_of (placed_from start (written ++ record { entry = on.entry; text = on.begins.text } ∷ [])) ≡ found_of (placed_from start written) ++ one ∷ []
    found_more =
        let one_more : Written = record { entry = on.entry; text = on.begins.text } in
        ap found_of (placed_from-one start written one_more)
        ∙ found_of-append (placed_from start written) (record { entry = on.entry; text = on.begins.text; place = start + length (laid written) } ∷ [])
        ∙ ap (λ (k : ℕ). found_of (placed_from start written) ++ record { place = k; head = head_of on.entry on.begins.text } ∷ []) (sym its_place)
        ∙ ap (λ (f : Found). found_of (placed_from start written) ++ f ∷ []) (sym on.one_is)

  pub ends_badly : IsBroken next (range (start + extent.used) (segment - extent.used) seen) → EndsBadly low (range start segment seen) extent.used
  ends_badly broken = record {
    written = written;
    rest = range (start + extent.used) (segment - extent.used) seen;
    split = ap (λ (n : ℕ). range start n seen) (let e : segment ≡ extent.used + (segment - extent.used) = omega (arith, within) in e) ∙ range-split start extent.used (segment - extent.used) seen ∙ ap (λ (l : List ℕ). l ++ range (start + extent.used) (segment - extent.used) seen) so_far.front;
    good = so_far.good;
    rises = so_far.rises;
    size = so_far.size;
    goes_on = broken.goes_on;
    none = λ entry begins rises. broken.none entry begins (omega (arith, so_far.next_is, rises));
  }

pub same_twice : (old mid new : Content) → ChangesBy Same old mid → ChangesBy Same mid new → ChangesBy Same old new
same_twice old mid new first second = chain Same Same Same old mid new first second (λ d c image same. same) (λ e c image same. (e, same_image old mid first e image, same))

pub same_none : (content : Content) → ChangesBy Same content content
same_none content = no_change Same content (λ c image. refl)

pub damaged_there : {T : Type 0} (place at : ℕ) → IsErrOf {T = T} (Err (Damaged place)) (Damaged at) → at ≡ place
damaged_there place at is = cc is

-- a call that changes nothing leaves one image where there was one
pub only_same : (old new : Content) → ChangesBy Same old new → new.seen ≡ old.seen → Only old → Only new
only_same old new changes seen only c image = only c (same_image old new changes c image) ∙ sym seen

-- an error is the same over another result
pub err_over : {T U E : Type 0} (x y : E) → IsErrOf {T = T} (Err x) y → IsErrOf {T = U} (Err x) y
err_over x y is = cc is
