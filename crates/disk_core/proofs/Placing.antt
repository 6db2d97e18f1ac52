-- What places show, before and after a disk is taken out or put home.
use Rattle.std.proofs.Common.{◌≡◌, ◌≢◌, ◌⊎◌, ⊎_elim, ℕ, zero, suc, ◌+◌, ◌<◌, ◌≤◌, Bool, true, false, cond, ◌&&◌, nat_eq, nat_lt, is_none, List, [], ◌∷◌, ◌++◌, length, get_or, set, Option, Some, None, Result, Ok, Err, refl, sym, ◌∙◌, ap, subst, arith}
use Rattle.std.specs.List.{find, sum_by, position, position_or_len, slice_get}
use Rattle.std.specs.Option.{option_or, unwrap_or, is_some, IsSome}
use Rattle.std.specs.Result.{IfOk, IfErr}
use Rattle.std.specs.Str.{bytes_eq}
use Rattle.std.specs.String.{string_bytes}
use Rattle.std.proofs.lemmas.Bool.{and_parts, and_from, and_right, cases_Bool, cond-true, cond-false, false≢true, eqb-true, eq-eqb, ltb-true, ltb-false, false_from_ne_true}
use Rattle.std.proofs.lemmas.Slice.Eq.{bytes_eq-Decides}
use Rattle.std.proofs.lemmas.Option.{none-some, slice_get-get_or, slice_get_past, slice_get_cases}
use Rattle.std.proofs.lemmas.List.{length-set, get_or-set_same, set-get_or}
use Rattle.std.proofs.lemmas.List.Sums.{sum_by-cons, sum_by-set, sum_by_push, get_or-le-sum_by, position_or_len_is}
use Rattle.std.proofs.lemmas.List.Folds.{find_at, find_past, find-append}
use Rattle.std.proofs.lemmas.List.Quantifiers.{position-Some}
use Rattle.disk_core.specs.declared.places.Place.{Place}
use Rattle.disk_core.specs.declared.mem_disk.MemDisk.{MemDisk}
use Rattle.disk_core.specs.Content.{Content, IsNewContent}
use Rattle.disk_core.specs.MemDisk.{content_of, size_of}
use Rattle.disk_core.specs.Homes.{SameContent, SameDisk, TakesOut, PutsHome}
use Rattle.disk_core.specs.Places.{is_at, is_out, disk_at, folder_at, home_of, out_of, count_of, AreApart, OneIsOut, TakenFrom, KeepsOther}

abbrev one_if : Bool → ℕ
one_if b = cond b 1 0

one_true : (b : Bool) → b ≡ true → one_if b ≡ 1
one_true b is = ap one_if is

one_false : (b : Bool) → b ≡ false → one_if b ≡ 0
one_false b is = ap one_if is

module _ (p : Place → Bool) where
  -- a write of a place changes the count by what the old one and the new one count
  set_count : (xs : List Place) (i : ℕ) (old y : Place) → i < length xs → get_or xs i old ≡ old → count_of p (set xs i y) + one_if (p old) ≡ count_of p xs + one_if (p y)
  set_count xs i old y lt at =
      let f : Place → ℕ = λ place. one_if (p place) in
      let e : sum_by f (set xs i y) + f (get_or xs i old) ≡ sum_by f xs + f y = sum_by-set f xs i y old lt in
      let is : f (get_or xs i old) ≡ f old = ap f at in
      omega (arith, e, is)

  same_count : (xs : List Place) (i : ℕ) (old y : Place) → i < length xs → get_or xs i old ≡ old → p y ≡ p old → count_of p (set xs i y) ≡ count_of p xs
  same_count xs i old y lt at same =
      let is : one_if (p y) ≡ one_if (p old) = ap (λ (b : Bool). one_if b) same in
      omega (arith, set_count xs i old y lt at, is)

  counted : (xs : List Place) (i : ℕ) (y : Place) → i < length xs → p y ≡ true → 1 ≤ count_of p (set xs i y)
  counted xs i y lt passes =
      let f : Place → ℕ = λ place. one_if (p place) in
      let one : f (get_or (set xs i y) i y) ≡ 1 = ap f (get_or-set_same xs i y y lt) ∙ one_true (p y) passes in
      let within : i < length (set xs i y) = omega (arith, lt, length-set xs i y) in
      omega (arith, one, get_or-le-sum_by f (set xs i y) i y within)

  -- a place that passes is found where no other one passes
  only_found : (xs : List Place) (i : ℕ) (y : Place) → i < length xs → p y ≡ true → count_of p (set xs i y) ≤ 1 → find p (set xs i y) ≡ Some y
  only_found [] i y lt passes one = absurd (omega (arith, lt))
  only_found (x ∷ xs) zero y lt passes one = cond-true (p y) (Some y) (find p xs) passes
  only_found (x ∷ xs) (suc i) y lt passes one =
      let before : i < length xs = omega (arith, lt) in
      let whole : count_of p (x ∷ set xs i y) ≡ one_if (p x) + count_of p (set xs i y) = sum_by-cons (λ place. one_if (p place)) x (set xs i y) in
      let some : 1 ≤ count_of p (set xs i y) = counted xs i y before passes in
      ⊎_elim
      (λ (here : p x ≡ true). let is : one_if (p x) ≡ 1 = one_true (p x) here in absurd (omega (arith, one, whole, some, is)))
      (λ (isnt : p x ≡ false).
      let least : count_of p (set xs i y) ≤ 1 = omega (arith, one, whole) in
      cond-false (p x) (Some x) (find p (set xs i y)) isnt ∙ only_found xs i y before passes least)
      (cases_Bool (p x))

  none_counted : (xs : List Place) → find p xs ≡ None → count_of p xs ≡ 0
  none_counted [] none = refl
  none_counted (x ∷ xs) none =
      let whole : count_of p (x ∷ xs) ≡ one_if (p x) + count_of p xs = sum_by-cons (λ place. one_if (p place)) x xs in
      ⊎_elim
      (λ (here : p x ≡ true). absurd (none-some x (sym none ∙ cond-true (p x) (Some x) (find p xs) here)))
      (λ (isnt : p x ≡ false).
      let rest : count_of p xs ≡ 0 = none_counted xs (sym (cond-false (p x) (Some x) (find p xs) isnt) ∙ none) in
      let is : one_if (p x) ≡ 0 = one_false (p x) isnt in
      omega (arith, whole, rest, is))
      (cases_Bool (p x))

  zero_found : (xs : List Place) → count_of p xs ≡ 0 → find p xs ≡ None
  zero_found [] none = refl
  zero_found (x ∷ xs) none =
      let whole : count_of p (x ∷ xs) ≡ one_if (p x) + count_of p xs = sum_by-cons (λ place. one_if (p place)) x xs in
      ⊎_elim
      (λ (here : p x ≡ true). let is : one_if (p x) ≡ 1 = one_true (p x) here in absurd (omega (arith, none, whole, is)))
      (λ (isnt : p x ≡ false). let rest : count_of p xs ≡ 0 = omega (arith, none, whole) in cond-false (p x) (Some x) (find p xs) isnt ∙ zero_found xs rest)
      (cases_Bool (p x))

  -- where its index is the first that passes
  pub found_here : (xs : List Place) (i : ℕ) (x : Place) → position p xs ≡ Some i → get_or xs i x ≡ x → find p xs ≡ Some x
  found_here xs i x first at =
      let is = position-Some p xs i x first in
      let lt : i < length xs = is.0 in
      let n : position_or_len p xs ≡ i = position_or_len_is p xs i x (omega (arith, lt)) is.2 (λ h. is.1) in
      find_at p xs ∙ (ap (λ (k : ℕ). slice_get xs k) n ∙ (slice_get-get_or xs i x lt ∙ ap (λ (y : Place). Some y) at))

  pub passes_here : (xs : List Place) (i : ℕ) (x : Place) → position p xs ≡ Some i → get_or xs i x ≡ x → p x ≡ true
  passes_here xs i x first at = sym (ap p at) ∙ (position-Some p xs i x first).1

  pub found_none : (xs : List Place) → position p xs ≡ None → find p xs ≡ None
  found_none xs none =
      let n : ℕ = position_or_len p xs in
      ⊎_elim
      (λ (here : nat_lt n (length xs) ≡ true). absurd (none-some n (sym none ∙ cond-true (nat_lt n (length xs)) (Some n) None here)))
      (λ (isnt : nat_lt n (length xs) ≡ false). find_at p xs ∙ slice_get_past xs n (ltb-false n (length xs) isnt))
      (cases_Bool (nat_lt n (length xs)))

  or_none : (o : Option Place) → option_or o None ≡ o
  or_none None = refl
  or_none (Some x) = refl

  -- one more place at the end
  pushed : (xs : List Place) (y : Place) → find p xs ≡ None → p y ≡ true → find p (xs ++ y ∷ []) ≡ Some y
  pushed xs y none passes =
      find-append p xs (y ∷ []) ∙ (ap (λ (o : Option Place). option_or o (find p (y ∷ []))) none ∙ cond-true (p y) (Some y) None passes)

  passed_by : (xs : List Place) (y : Place) → p y ≡ false → find p (xs ++ y ∷ []) ≡ find p xs
  passed_by xs y isnt =
      find-append p xs (y ∷ []) ∙ (ap (λ (o : Option Place). option_or (find p xs) o) (cond-false (p y) (Some y) None isnt) ∙ or_none (find p xs))

  one_more : (xs : List Place) (y : Place) → (p y ≡ true → find p xs ≡ None) → count_of p xs ≤ 1 → count_of p (xs ++ y ∷ []) ≤ 1
  one_more xs y none one =
      let whole : count_of p (xs ++ y ∷ []) ≡ count_of p xs + one_if (p y) = sum_by_push (λ place. one_if (p place)) xs y in
      ⊎_elim
      (λ (here : p y ≡ true).
      let rest : count_of p xs ≡ 0 = none_counted xs (none here) in
      let is : one_if (p y) ≡ 1 = one_true (p y) here in
      omega (arith, whole, rest, is))
      (λ (isnt : p y ≡ false). let is : one_if (p y) ≡ 0 = one_false (p y) isnt in omega (arith, whole, one, is))
      (cases_Bool (p y))

-- The parts of the two tests.

none_is : (o : Option MemDisk) → is_none o ≡ true → o ≡ None
none_is None is = refl
none_is (Some disk) is = cc

some_else : (o : Option MemDisk) → (o ≡ None → ⊥) → IsSome o
some_else None never = absurd (never refl)
some_else (Some disk) never = refl

none_else : (o : Option ℕ) → (IsSome o → ⊥) → o ≡ None
none_else None never = refl
none_else (Some n) never = absurd (never refl)

some_if : (b : Bool) (n : ℕ) → IsSome (cond b (Some n) None) → b ≡ true
some_if true n is = refl
some_if false n is = absurd (false≢true is)

-- Whether a disk of a node and a partition is out.
pub some_out : (ps : List Place) (n p : ℕ) → IsSome (position (is_out n p) ps) → IsSome (out_of ps n p)
some_out ps n p is =
    let test : Place → Bool = is_out n p in
    let k : ℕ = position_or_len test ps in
    let lt : k < length ps = ltb-true k (length ps) (some_if (nat_lt k (length ps)) k is) in
    ⊎_elim
    (λ (here : (x : Place) × (k < length ps) × (slice_get ps k ≡ Some x) × (get_or ps k x ≡ x)). ap (λ (o : Option Place). is_some (folder_at o)) (find_at test ps ∙ here.2))
    (λ (past : (length ps ≤ k) × (slice_get ps k ≡ None)). absurd (omega (arith, lt, past.0)))
    (slice_get_cases ps k).1

pub none_out_there : (ps : List Place) (n p : ℕ) → (IsSome (position (is_out n p) ps) → ⊥) → find (is_out n p) ps ≡ None
none_out_there ps n p never = found_none (is_out n p) ps (none_else (position (is_out n p) ps) never)

pub not_some_out : (ps : List Place) (n p : ℕ) → find (is_out n p) ps ≡ None → IsSome (out_of ps n p) → ⊥
not_some_out ps n p none some = false≢true (sym (ap (λ (o : Option Place). is_some (folder_at o)) none) ∙ some)

pub position_out : (ps : List Place) (n p : ℕ) → IsSome (out_of ps n p) → IsSome (position (is_out n p) ps)
position_out ps n p some =
    let test : Place → Bool = is_out n p in
    let k : ℕ = position_or_len test ps in
    ⊎_elim
    (λ (here : nat_lt k (length ps) ≡ true). ap (λ (b : Bool). is_some (cond b (Some k) None)) here)
    (λ (isnt : nat_lt k (length ps) ≡ false). absurd (not_some_out ps n p (found_none test ps (ap (λ (b : Bool). cond b (Some k) None) isnt)) some))
    (cases_Bool (nat_lt k (length ps)))

pub at_parts : (f : List ℕ) (n p : ℕ) (x : Place) → is_at f n p x ≡ true → (x.node ≡ n) × (x.partition ≡ p) × (string_bytes x.folder ≡ f)
at_parts f n p x is =
    let outer = and_parts (nat_eq x.node n && nat_eq x.partition p) (bytes_eq (string_bytes x.folder) f) is in
    let inner = and_parts (nat_eq x.node n) (nat_eq x.partition p) outer.0 in
    (eqb-true x.node n inner.0, eqb-true x.partition p inner.1, (bytes_eq-Decides (string_bytes x.folder) f).0 outer.1)

at_made : (f : List ℕ) (n p : ℕ) (x : Place) → x.node ≡ n → x.partition ≡ p → string_bytes x.folder ≡ f → is_at f n p x ≡ true
at_made f n p x node partition folder =
    let bytes : bytes_eq (string_bytes x.folder) f ≡ true = (bytes_eq-Decides (string_bytes x.folder) f).1 folder in
    and_from _ _ (and_from _ _ (eq-eqb x.node n node) (eq-eqb x.partition p partition)) bytes

at_other : (f : List ℕ) (n p : ℕ) (x : Place) (g : List ℕ) (m q : ℕ) → is_at g m q x ≡ true → (f ≢ g) ⊎ (n ≢ m) ⊎ (p ≢ q) → is_at f n p x ≡ false
at_other f n p x g m q is other =
    false_from_ne_true _ (λ too.
    let a = at_parts f n p x too in
    let b = at_parts g m q x is in
    ⊎_elim (λ (h : f ≢ g). h (sym a.2 ∙ b.2)) (⊎_elim (λ (h : n ≢ m). h (sym a.0 ∙ b.0)) (λ (h : p ≢ q). h (sym a.1 ∙ b.1))) other)

out_parts : (n p : ℕ) (x : Place) → is_out n p x ≡ true → (x.node ≡ n) × (x.partition ≡ p) × (x.disk ≡ None)
out_parts n p x is =
    let outer = and_parts (nat_eq x.node n && nat_eq x.partition p) (is_none x.disk) is in
    let inner = and_parts (nat_eq x.node n) (nat_eq x.partition p) outer.0 in
    (eqb-true x.node n inner.0, eqb-true x.partition p inner.1, none_is x.disk outer.1)

out_made : (n p : ℕ) (x : Place) → x.node ≡ n → x.partition ≡ p → x.disk ≡ None → is_out n p x ≡ true
out_made n p x node partition disk =
    and_from _ _ (and_from _ _ (eq-eqb x.node n node) (eq-eqb x.partition p partition)) (ap (λ (o : Option MemDisk). is_none o) disk)

out_home : (n p : ℕ) (x : Place) (d : MemDisk) → x.disk ≡ Some d → is_out n p x ≡ false
out_home n p x d disk = and_right (nat_eq x.node n && nat_eq x.partition p) (is_none x.disk) (ap (λ (o : Option MemDisk). is_none o) disk)

out_other : (n p : ℕ) (x : Place) (m q : ℕ) → x.node ≡ m → x.partition ≡ q → (n ≢ m) ⊎ (p ≢ q) → is_out n p x ≡ false
out_other n p x m q node partition other =
    false_from_ne_true _ (λ too.
    let a = out_parts n p x too in
    ⊎_elim (λ (h : n ≢ m). h (sym a.0 ∙ node)) (λ (h : p ≢ q). h (sym a.1 ∙ partition)) other)

pub same_content : (content : Content) → SameContent content content
same_content content = record { seen = refl; images = λ c. (λ h. h, λ h. h); moment = refl; left_since = λ t c. (λ h. h, λ h. h) }

-- A disk is taken out of its place.
module _ (ps : List Place) (i : ℕ) (f : List ℕ) (n p size : ℕ) (disk : MemDisk) (old new : Place) (first : position (is_at f n p) ps ≡ Some i) (at : get_or ps i old ≡ old) (t : TakenFrom size disk old new) where
  within : i < length ps
  within = (position-Some (is_at f n p) ps i old first).0

  is_here : is_at f n p old ≡ true
  is_here = passes_here (is_at f n p) ps i old first at

  pub holds : home_of ps f n p ≡ Some disk
  holds = ap disk_at (found_here (is_at f n p) ps i old first at) ∙ t.held

  stays_at : (g : List ℕ) (m q : ℕ) → is_at g m q new ≡ is_at g m q old
  stays_at g m q = ap (λ (x : Place). is_at g m q x) t.left

  new_parts : (new.node ≡ n) × (new.partition ≡ p) × (string_bytes new.folder ≡ f)
  new_parts = at_parts f n p new (stays_at f n p ∙ is_here)

  is_out_now : is_out n p new ≡ true
  is_out_now = out_made n p new new_parts.0 new_parts.1 (ap (λ (x : Place). x.disk) t.left)

  pub taken_apart : AreApart ps → AreApart (set ps i new)
  taken_apart apart g m q =
      let same : count_of (is_at g m q) (set ps i new) ≡ count_of (is_at g m q) ps = same_count (is_at g m q) ps i old new within at (stays_at g m q) in
      let one : count_of (is_at g m q) ps ≤ 1 = apart g m q in
      omega (arith, same, one)

  pub taken_one : OneIsOut ps → find (is_out n p) ps ≡ None → OneIsOut (set ps i new)
  taken_one outs none m q =
      let count : count_of (is_out m q) (set ps i new) + one_if (is_out m q old) ≡ count_of (is_out m q) ps + one_if (is_out m q new) = set_count (is_out m q) ps i old new within at in
      let one : count_of (is_out m q) ps ≤ 1 = outs m q in
      ⊎_elim
      (λ (here : is_out m q new ≡ true).
      let a = out_parts m q new here in
      let nodes : n ≡ m = sym new_parts.0 ∙ a.0 in
      let partitions : p ≡ q = sym new_parts.1 ∙ a.1 in
      let gone : find (is_out m q) ps ≡ None = subst (λ (k : ℕ). find (is_out k q) ps ≡ None) nodes (subst (λ (k : ℕ). find (is_out n k) ps ≡ None) partitions none) in
      let rest : count_of (is_out m q) ps ≡ 0 = none_counted (is_out m q) ps gone in
      let is : one_if (is_out m q new) ≡ 1 = one_true (is_out m q new) here in
      omega (arith, count, rest, is))
      (λ (isnt : is_out m q new ≡ false). let is : one_if (is_out m q new) ≡ 0 = one_false (is_out m q new) isnt in omega (arith, count, one, is))
      (cases_Bool (is_out m q new))

  pub took : AreApart ps → OneIsOut ps → find (is_out n p) ps ≡ None → TakesOut (Unit {0}) content_of size_of f n p size disk (home_of ps) (out_of ps) (home_of (set ps i new)) (out_of (set ps i new))
  took apart outs none = record {
    same = λ kept is. subst (λ (d : MemDisk). SameDisk (Unit {0}) content_of size_of kept d) (ap (λ (o : Option MemDisk). unwrap_or o kept) (sym is ∙ holds)) (record { bytes = refl; told = λ u. same_content (content_of kept) });
    fresh = λ empty u. absurd (none-some disk (sym empty ∙ holds));
    was_in = ap folder_at none;
    is_out = ap folder_at (only_found (is_out n p) ps i new within is_out_now (taken_one outs none n p)) ∙ ap (λ (bytes : List ℕ). Some bytes) new_parts.2;
    left = ap disk_at (only_found (is_at f n p) ps i new within (stays_at f n p ∙ is_here) (taken_apart apart f n p)) ∙ ap (λ (x : Place). x.disk) t.left;
    others = record {
      homes = λ g m q other.
          let isnt : is_at g m q old ≡ false = at_other g m q old f n p is_here other in
          ap disk_at (find_past (is_at g m q) ps i new old (ap (λ (x : Place). is_at g m q x) at ∙ isnt) (stays_at g m q ∙ isnt));
      outs = λ m q other.
          let b = at_parts f n p old is_here in
          ap folder_at (find_past (is_out m q) ps i new old (ap (λ (x : Place). is_out m q x) at ∙ out_other m q old n p b.0 b.1 other) (out_other m q new n p new_parts.0 new_parts.1 other));
    };
  }

-- A place that stays, written back.
pub same_places : (ps : List Place) (i : ℕ) (old new : Place) → get_or ps i old ≡ old → new ≡ old → set ps i new ≡ ps
same_places ps i old new at stays = ap (λ (x : Place). set ps i x) (stays ∙ sym at) ∙ set-get_or ps i old

-- A disk is asked for at its place, and may have another size.
module _ (ps : List Place) (i : ℕ) (f : List ℕ) (n p size : ℕ) (old new : Place) (first : position (is_at f n p) ps ≡ Some i) (at : get_or ps i old ≡ old) where
  pub asked_apart : (r : Result MemDisk ℕ) → IfOk r (λ disk. TakenFrom size disk old new) → IfErr r (λ bytes. KeepsOther size bytes old new) → AreApart ps → AreApart (set ps i new)
  asked_apart (Ok disk) taken other apart = taken_apart ps i f n p size disk old new first at taken apart
  asked_apart (Err bytes) taken other apart = subst AreApart (sym (same_places ps i old new at other.stays)) apart

  pub asked_one : (r : Result MemDisk ℕ) → IfOk r (λ disk. TakenFrom size disk old new) → IfErr r (λ bytes. KeepsOther size bytes old new) → OneIsOut ps → find (is_out n p) ps ≡ None → OneIsOut (set ps i new)
  asked_one (Ok disk) taken other outs none = taken_one ps i f n p size disk old new first at taken outs none
  asked_one (Err bytes) taken other outs none = subst OneIsOut (sym (same_places ps i old new at other.stays)) outs

  -- a place has its disk where none of its node and partition is out
  pub has_disk : find (is_out n p) ps ≡ None → IsSome old.disk
  has_disk none =
      let test : Place → Bool = is_out n p in
      let lt : i < length ps = (position-Some (is_at f n p) ps i old first).0 in
      let a = at_parts f n p old (passes_here (is_at f n p) ps i old first at) in
      some_else old.disk
      (λ gone.
      let one : one_if (test (get_or ps i old)) ≡ 1 = ap (λ (x : Place). one_if (test x)) at ∙ one_true (test old) (out_made n p old a.0 a.1 gone) in
      let zero : count_of test ps ≡ 0 = none_counted test ps none in
      let le : one_if (test (get_or ps i old)) ≤ count_of test ps = get_or-le-sum_by (λ place. one_if (test place)) ps i old lt in
      omega (arith, one, zero, le))

-- A new place, whose disk is out.
module _ (ps : List Place) (f : List ℕ) (n p size : ℕ) (disk : MemDisk) (new : Place) (node : new.node ≡ n) (partition : new.partition ≡ p) (folder : string_bytes new.folder ≡ f) (gone : new.disk ≡ None) (no_place : find (is_at f n p) ps ≡ None) (none : find (is_out n p) ps ≡ None) where
  at_new : is_at f n p new ≡ true
  at_new = at_made f n p new node partition folder

  out_new : is_out n p new ≡ true
  out_new = out_made n p new node partition gone

  pub made_apart : AreApart ps → AreApart (ps ++ new ∷ [])
  made_apart apart g m q =
      one_more (is_at g m q) ps new
      (λ here.
      let a = at_parts g m q new here in
      subst (λ (k : ℕ). find (is_at g k q) ps ≡ None) (sym node ∙ a.0)
      (subst (λ (k : ℕ). find (is_at g n k) ps ≡ None) (sym partition ∙ a.1)
      (subst (λ (h : List ℕ). find (is_at h n p) ps ≡ None) (sym folder ∙ a.2) no_place)))
      (apart g m q)

  pub made_one : OneIsOut ps → OneIsOut (ps ++ new ∷ [])
  made_one outs m q =
      one_more (is_out m q) ps new
      (λ here.
      let a = out_parts m q new here in
      subst (λ (k : ℕ). find (is_out k q) ps ≡ None) (sym node ∙ a.0) (subst (λ (k : ℕ). find (is_out n k) ps ≡ None) (sym partition ∙ a.1) none))
      (outs m q)

  -- the same where there may have been no memory for it
  pub made_or_not : (b : Bool) → AreApart ps → AreApart (cond b (ps ++ new ∷ []) ps)
  made_or_not true apart = made_apart apart
  made_or_not false apart = apart

  pub one_or_not : (b : Bool) → OneIsOut ps → OneIsOut (cond b (ps ++ new ∷ []) ps)
  one_or_not true outs = made_one outs
  one_or_not false outs = outs

  pub made : IsNewContent size (content_of disk) → TakesOut (Unit {0}) content_of size_of f n p size disk (home_of ps) (out_of ps) (home_of (ps ++ new ∷ [])) (out_of (ps ++ new ∷ []))
  made zeros = record {
    same = λ kept is. absurd (none-some kept (sym (ap disk_at no_place) ∙ is));
    fresh = λ empty u. zeros;
    was_in = ap folder_at none;
    is_out = ap folder_at (pushed (is_out n p) ps new none out_new) ∙ ap (λ (bytes : List ℕ). Some bytes) folder;
    left = ap disk_at (pushed (is_at f n p) ps new no_place at_new) ∙ gone;
    others = record {
      homes = λ g m q other. ap disk_at (passed_by (is_at g m q) ps new (at_other g m q new f n p at_new other));
      outs = λ m q other. ap folder_at (passed_by (is_out m q) ps new (out_other m q new n p node partition other));
    };
  }

-- A disk goes home to the place that it left.
module _ (ps : List Place) (i n p : ℕ) (disk : MemDisk) (old new : Place) (first : position (is_out n p) ps ≡ Some i) (at : get_or ps i old ≡ old) (filled : new ≡ record old { disk = Some disk }) where
  inside : i < length ps
  inside = (position-Some (is_out n p) ps i old first).0

  was_out : is_out n p old ≡ true
  was_out = passes_here (is_out n p) ps i old first at

  keeps_at : (g : List ℕ) (m q : ℕ) → is_at g m q new ≡ is_at g m q old
  keeps_at g m q = ap (λ (x : Place). is_at g m q x) filled

  not_out : (m q : ℕ) → is_out m q new ≡ false
  not_out m q = out_home m q new disk (ap (λ (x : Place). x.disk) filled)

  pub filled_apart : AreApart ps → AreApart (set ps i new)
  filled_apart apart g m q =
      let same : count_of (is_at g m q) (set ps i new) ≡ count_of (is_at g m q) ps = same_count (is_at g m q) ps i old new inside at (keeps_at g m q) in
      let one : count_of (is_at g m q) ps ≤ 1 = apart g m q in
      omega (arith, same, one)

  pub filled_one : OneIsOut ps → OneIsOut (set ps i new)
  filled_one outs m q =
      let count : count_of (is_out m q) (set ps i new) + one_if (is_out m q old) ≡ count_of (is_out m q) ps + one_if (is_out m q new) = set_count (is_out m q) ps i old new inside at in
      let one : count_of (is_out m q) ps ≤ 1 = outs m q in
      let is : one_if (is_out m q new) ≡ 0 = one_false (is_out m q new) (not_out m q) in
      omega (arith, count, one, is)

  none_out : OneIsOut ps → find (is_out n p) (set ps i new) ≡ None
  none_out outs =
      let count : count_of (is_out n p) (set ps i new) + one_if (is_out n p old) ≡ count_of (is_out n p) ps + one_if (is_out n p new) = set_count (is_out n p) ps i old new inside at in
      let one : count_of (is_out n p) ps ≤ 1 = outs n p in
      let was : one_if (is_out n p old) ≡ 1 = one_true (is_out n p old) was_out in
      let is : one_if (is_out n p new) ≡ 0 = one_false (is_out n p new) (not_out n p) in
      zero_found (is_out n p) (set ps i new) (omega (arith, count, one, was, is))

  is_here_still : (f : List ℕ) → out_of ps n p ≡ Some f → is_at f n p old ≡ true
  is_here_still f is_f =
      let a = out_parts n p old was_out in
      let folder : string_bytes old.folder ≡ f = ap (λ (o : Option (List ℕ)). unwrap_or o f) (sym (ap folder_at (found_here (is_out n p) ps i old first at)) ∙ is_f) in
      at_made f n p old a.0 a.1 folder

  pub at_home : AreApart ps → (f : List ℕ) → out_of ps n p ≡ Some f → home_of (set ps i new) f n p ≡ Some disk
  at_home apart f is_f = ap disk_at (only_found (is_at f n p) ps i new inside (keeps_at f n p ∙ is_here_still f is_f) (filled_apart apart f n p)) ∙ ap (λ (x : Place). x.disk) filled

  pub put : AreApart ps → OneIsOut ps → (f : List ℕ) → out_of ps n p ≡ Some f → PutsHome (Unit {0}) content_of size_of f n p disk (home_of ps) (out_of ps) (home_of (set ps i new)) (out_of (set ps i new))
  put apart outs f is_f = record {
    kept = disk;
    at_home = at_home apart f is_f;
    same = record { bytes = refl; told = λ u. same_content (content_of disk) };
    is_in = ap folder_at (none_out outs);
    others = record {
      homes = λ g m q other.
          let isnt : is_at g m q old ≡ false = at_other g m q old f n p (is_here_still f is_f) other in
          ap disk_at (find_past (is_at g m q) ps i new old (ap (λ (x : Place). is_at g m q x) at ∙ isnt) (keeps_at g m q ∙ isnt));
      outs = λ m q other.
          let a = out_parts n p old was_out in
          ap folder_at (find_past (is_out m q) ps i new old (ap (λ (x : Place). is_out m q x) at ∙ out_other m q old n p a.0 a.1 other) (not_out m q));
    };
  }
