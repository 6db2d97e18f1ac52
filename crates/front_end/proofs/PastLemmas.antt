-- How a past grows: at its end, and by a wait behind its last entry of a script line.
use Rattle.std.proofs.Common.{◌≡◌, ◌≢◌, inl, ℕ, List, [], ◌∷◌, ◌++◌, Bool, true, false, Option, not, refl, sym, ap, subst, append_assoc, MatchBool}
use Rattle.std.proofs.lemmas.List.{append-nil}
use Rattle.std.specs.List.{AllByRecursion, Contains}
use Rattle.quorum_op.specs.declared.outcome.Outcome.{Outcome}
use Rattle.world_model.specs.declared.history.HistoryMark.{HistoryMark}
use Rattle.world_model.specs.declared.history.HistoryMark.TheVariants.{Begin, Cancel, Drain, Drew, End, Level, Ordered, Wait}
use Rattle.front_end.specs.declared.history.Entry.{Entry}
use Rattle.front_end.specs.declared.history.Entry.TheVariants.{Mark, Bad, Failed}
use Rattle.front_end.specs.History.{Moment, after, after_all, without, IsOrdered}
use Rattle.front_end.specs.Script.{Asked}
use Rattle.front_end.specs.Past.{marks_of, is_later, is_wait, IsOwn, Follows, WaitsStandFirst}
use Rattle.front_end.specs.Kept.{front_after}

-- lists of facts
pub all_append : {X : Type 0} (P : X → Type 0) (xs ys : List X) → AllByRecursion P xs → AllByRecursion P ys → AllByRecursion P (xs ++ ys)
all_append P [] ys h k = k
all_append P (x ∷ xs) ys h k = (h.0, all_append P xs ys h.1 k)

pub all_front : {X : Type 0} (P : X → Type 0) (xs ys : List X) → AllByRecursion P (xs ++ ys) → AllByRecursion P xs
all_front P [] ys h = tt
all_front P (x ∷ xs) ys h = (h.0, all_front P xs ys h.1)

pub all_back : {X : Type 0} (P : X → Type 0) (xs ys : List X) → AllByRecursion P (xs ++ ys) → AllByRecursion P ys
all_back P [] ys h = h
all_back P (x ∷ xs) ys h = all_back P xs ys h.1

pub all_map : {X : Type 0} (P Q : X → Type 0) → ((x : X) → P x → Q x) → (xs : List X) → AllByRecursion P xs → AllByRecursion Q xs
all_map P Q f [] h = tt
all_map P Q f (x ∷ xs) h = (f x h.0, all_map P Q f xs h.1)

pub match_map : (b : Bool) {P Q R S : Type 0} → (P → R) → (Q → S) → MatchBool b P Q → MatchBool b R S
match_map true f g h = f h
match_map false f g h = g h

-- marks
pub marks_of-append : (a b : List Entry) → marks_of (a ++ b) ≡ marks_of a ++ marks_of b
marks_of-append [] b = refl
marks_of-append (Mark m ∷ a) b = ap (λ (t : List HistoryMark). m ∷ t) (marks_of-append a b)
marks_of-append (Bad n ∷ a) b = marks_of-append a b
marks_of-append (Failed o ∷ a) b = marks_of-append a b

-- moments
pub after_all-append : (now : Moment) (h k : List HistoryMark) → after_all now (h ++ k) ≡ after_all (after_all now h) k
after_all-append now [] k = refl
after_all-append now (m ∷ h) k = after_all-append (after now m) h k

pub ordered_append : (w : ℕ) (now : Moment) (h k : List HistoryMark) → IsOrdered w now h → IsOrdered w (after_all now h) k → IsOrdered w now (h ++ k)
ordered_append w now [] k p q = q
ordered_append w now (m ∷ h) k p q = (p.0, ordered_append w (after now m) h k p.1 q)

pub ordered_front : (w : ℕ) (now : Moment) (h k : List HistoryMark) → IsOrdered w now (h ++ k) → IsOrdered w now h
ordered_front w now [] k p = tt
ordered_front w now (m ∷ h) k p = (p.0, ordered_front w (after now m) h k p.1)

pub ordered_back : (w : ℕ) (now : Moment) (h k : List HistoryMark) → IsOrdered w now (h ++ k) → IsOrdered w (after_all now h) k
ordered_back w now [] k p = p
ordered_back w now (m ∷ h) k p = ordered_back w (after now m) h k p.1

-- A moment at which the script waits stands like another one, but for that.
pub record IsWaiting (now waiting : Moment) : Type 0 where
  pub same_open : waiting.open_operations ≡ now.open_operations
  pub same_undrawn : waiting.undrawn ≡ now.undrawn
  pub same_count : waiting.begun_count ≡ now.begun_count
  pub waits : waiting.waits ≢ []

waiting_drew : (now waiting : Moment) (n : ℕ) (id : List ℕ) → IsWaiting now waiting → IsWaiting (after now (Drew n id)) (after waiting (Drew n id))
waiting_drew now waiting n id w = record {
  same_open = w.same_open;
  same_undrawn = ap (without n) w.same_undrawn;
  same_count = w.same_count;
  waits = w.waits;
}

waiting_end : (now waiting : Moment) (n : ℕ) (o : Outcome) → IsWaiting now waiting → IsWaiting (after now (End n o)) (after waiting (End n o))
waiting_end now waiting n o w = record {
  same_open = ap (without n) w.same_open;
  same_undrawn = ap (without n) w.same_undrawn;
  same_count = w.same_count;
  waits = w.waits;
}

-- what was drawn and ended may also be while the script waits
pub ordered_waiting : (w : ℕ) (now waiting : Moment) (later : List Entry) → AllByRecursion (λ e. is_later e ≡ true) later → IsWaiting now waiting
    → IsOrdered w now (marks_of later) → IsOrdered w waiting (marks_of later) × IsWaiting (after_all now (marks_of later)) (after_all waiting (marks_of later))
ordered_waiting w now waiting [] all is p = (tt, is)
ordered_waiting w now waiting (Mark (Begin n r) ∷ es) all is p = absurd cc
ordered_waiting w now waiting (Mark (Cancel c0) ∷ es) all is p = absurd cc
ordered_waiting w now waiting (Mark (Level l0 l1 l2 l3) ∷ es) all is p = absurd cc
ordered_waiting w now waiting (Mark (Drain d0 d1) ∷ es) all is p = absurd cc
ordered_waiting w now waiting (Mark (Ordered d0 d1) ∷ es) all is p = absurd cc
ordered_waiting w now waiting (Mark (Drew n id) ∷ es) all is p =
    let rest = ordered_waiting w (after now (Drew n id)) (after waiting (Drew n id)) es all.1 (waiting_drew now waiting n id is) p.1 in
    ((subst (λ (xs : List ℕ). Contains xs n) (sym is.same_undrawn) p.0, rest.0), rest.1)
ordered_waiting w now waiting (Mark (End n o) ∷ es) all is p =
    let rest = ordered_waiting w (after now (End n o)) (after waiting (End n o)) es all.1 (waiting_end now waiting n o is) p.1 in
    (((subst (λ (xs : List ℕ). Contains xs n) (sym is.same_open) p.0.0, inl is.waits), rest.0), rest.1)
ordered_waiting w now waiting (Mark (Wait t) ∷ es) all is p = absurd cc
ordered_waiting w now waiting (Bad k ∷ es) all is p = absurd cc
ordered_waiting w now waiting (Failed o ∷ es) all is p = absurd cc

-- following the script
pub follows_later : (nodes : ℕ) (before es : List Entry) (ls : List Asked) (e : Entry) → Follows nodes before es ls → is_later e ≡ true → Follows nodes before (es ++ e ∷ []) ls
follows_later nodes before [] ls e f later = rw later f
follows_later nodes before (x ∷ es) ls e f later =
    match_map (is_later x) (λ g. follows_later nodes (before ++ x ∷ []) es ls e g later)
    (λ g. (g.0, g.1, g.2, g.3, follows_later nodes (before ++ x ∷ []) es g.1 e g.4 later)) f

pub follows_own : (nodes : ℕ) (before es : List Entry) (ls : List Asked) (e : Entry) (line : Asked) → Follows nodes before es ls → is_later e ≡ false → IsOwn nodes (before ++ es) line e → Follows nodes before (es ++ e ∷ []) (ls ++ line ∷ [])
follows_own nodes before [] ls e line f own is =
    rw own (line, [], ap (λ (t : List Asked). t ++ line ∷ []) f, subst (λ (b : List Entry). IsOwn nodes b line e) (append-nil before) is, refl)
follows_own nodes before (x ∷ es) ls e line f own is =
    let is' : IsOwn nodes ((before ++ x ∷ []) ++ es) line e = subst (λ (b : List Entry). IsOwn nodes b line e) (sym (append_assoc before (x ∷ []) es)) is in
    match_map (is_later x) (λ g. follows_own nodes (before ++ x ∷ []) es ls e line g own is')
    (λ g. (g.0, g.1 ++ line ∷ [], ap (λ (t : List Asked). t ++ line ∷ []) g.2, g.3, follows_own nodes (before ++ x ∷ []) es g.1 e line g.4 own is')) f

later_asks_nothing : (nodes : ℕ) (before later : List Entry) (ls : List Asked) → AllByRecursion (λ e. is_later e ≡ true) later → Follows nodes before later ls → ls ≡ []
later_asks_nothing nodes before [] ls all f = f
later_asks_nothing nodes before (x ∷ es) ls all f = let here = all.0 in later_asks_nothing nodes (before ++ x ∷ []) es ls all.1 (rw here at f)

later_follows : (nodes : ℕ) (before later : List Entry) → AllByRecursion (λ e. is_later e ≡ true) later → Follows nodes before later []
later_follows nodes before [] all = refl
later_follows nodes before (x ∷ es) all = let here = all.0 in rw here (later_follows nodes (before ++ x ∷ []) es all.1)

pub follows_wait : (nodes : ℕ) (before settled later : List Entry) (ls : List Asked) (line : Asked) (t : Option ℕ) → AllByRecursion (λ e. is_later e ≡ true) later
    → Follows nodes before (settled ++ later) ls → ((b : List Entry) → IsOwn nodes b line (Mark (Wait t))) → Follows nodes before ((settled ++ Mark (Wait t) ∷ []) ++ later) (ls ++ line ∷ [])
follows_wait nodes before [] later ls line t all f own =
    (line, [], ap (λ (t : List Asked). t ++ line ∷ []) (later_asks_nothing nodes before later ls all f), own before, later_follows nodes (before ++ Mark (Wait t) ∷ []) later all)
follows_wait nodes before (x ∷ es) later ls line t all f own =
    match_map (is_later x) (λ g. follows_wait nodes (before ++ x ∷ []) es later ls line t all g own)
    (λ g. (g.0, g.1 ++ line ∷ [], ap (λ (t : List Asked). t ++ line ∷ []) g.2, g.3, follows_wait nodes (before ++ x ∷ []) es later g.1 line t all g.4 own)) f

-- where waits stand
pub waits_append : (front : Bool) (a b : List Entry) → WaitsStandFirst front a → WaitsStandFirst (front_after front a) b → WaitsStandFirst front (a ++ b)
waits_append front [] b p q = q
waits_append front (x ∷ a) b p q = (p.0, waits_append (not (is_later x)) a b p.1 q)

pub waits_front : (front : Bool) (a b : List Entry) → WaitsStandFirst front (a ++ b) → WaitsStandFirst front a
waits_front front [] b p = tt
waits_front front (x ∷ a) b p = (p.0, waits_front (not (is_later x)) a b p.1)

pub front_after-append : (front : Bool) (a : List Entry) (e : Entry) → front_after front (a ++ e ∷ []) ≡ not (is_later e)
front_after-append front [] e = refl
front_after-append front (x ∷ a) e = front_after-append (not (is_later x)) a e

later_is_no_wait : (e : Entry) → is_later e ≡ true → is_wait e ≡ true → ⊥
later_is_no_wait (Mark (Begin n r)) h k = cc
later_is_no_wait (Mark (Cancel c0)) h k = cc
later_is_no_wait (Mark (Level l0 l1 l2 l3)) h k = cc
later_is_no_wait (Mark (Drain d0 d1)) h k = cc
later_is_no_wait (Mark (Ordered d0 d1)) h k = cc
later_is_no_wait (Mark (Drew n id)) h k = cc
later_is_no_wait (Mark (End n o)) h k = cc
later_is_no_wait (Mark (Wait t)) h k = cc
later_is_no_wait (Bad n) h k = cc
later_is_no_wait (Failed o) h k = cc

pub later_waits : (front : Bool) (later : List Entry) → AllByRecursion (λ e. is_later e ≡ true) later → WaitsStandFirst front later
later_waits front [] all = tt
later_waits front (x ∷ es) all = (λ w. absurd (later_is_no_wait x all.0 w), later_waits (not (is_later x)) es all.1)
