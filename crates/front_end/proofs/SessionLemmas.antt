-- What each part of a session keeps.
use Rattle.std.proofs.Common.{◌≡◌, inr, ℕ, ◌-◌, ◌<◌, ◌≤◌, suc, zero, List, [], ◌∷◌, ◌++◌, length, Bool, true, false, Option, None, Some, not, refl, sym, ap, subst, ◌∙◌, arith, cond, ◌==◌, filter, slice_get, lit<, lit≤}
use Rattle.std.proofs.lemmas.List.{append-nil}
use Rattle.std.proofs.lemmas.Grind.{flat_map-append}
use Rattle.std.proofs.lemmas.Bool.Decides.{nat_tests}
use Rattle.std.specs.List.{AllByRecursion, Contains}
use Rattle.front_end.specs.declared.tags.Tag.{Tag}
use Rattle.quorum_op.specs.declared.outcome.Outcome.{Outcome}
use Rattle.world_model.specs.declared.history.HistoryMark.{HistoryMark}
use Rattle.world_model.specs.declared.history.HistoryMark.TheVariants.{Begin, Cancel, Drain, Drew, End, Level, Ordered, Wait}
use Rattle.world_model.specs.declared.order.Order.{Order}
use Rattle.front_end.specs.declared.history.Entry.{Entry}
use Rattle.front_end.specs.declared.history.Entry.TheVariants.{Mark, Bad, Failed}
use Rattle.front_end.specs.History.{Moment, start, after, after_all, MayCome, IsOrdered, with_first_end}
use Rattle.front_end.specs.Past.{has_bad, answer_after, answer_along}
use Rattle.front_end.specs.Script.{name_of, name_or_none}
use Rattle.front_end.specs.Transcript.{entry_line, transcript_of}
use Rattle.front_end.specs.Kept.{IsNumbered, IsWithin}

-- an answer behind one more entry
pub answer_with_last : (before : Option (List ℕ)) (es : List Entry) (e : Entry) (n : ℕ) → answer_along before (es ++ e ∷ []) n ≡ answer_after (answer_along before es n) e n
answer_with_last before [] e n = refl
answer_with_last before (x ∷ es) e n = answer_with_last (answer_after before x n) es e n

pub answer_wait : (before : Option (List ℕ)) (a b : List Entry) (t : Option ℕ) (n : ℕ) → answer_along before ((a ++ Mark (Wait t) ∷ []) ++ b) n ≡ answer_along before (a ++ b) n
answer_wait before [] b t n = refl
answer_wait before (x ∷ a) b t n = answer_wait (answer_after before x n) a b t n

-- the transcript grows by the line of an entry
pub transcript_with : (tags : List Tag) (es : List Entry) (e : Entry) → transcript_of tags (es ++ e ∷ []) ≡ transcript_of tags es ++ entry_line tags e
transcript_with tags es e = flat_map-append (entry_line tags) es (e ∷ []) ∙ ap (λ (t : List ℕ). transcript_of tags es ++ t) (append-nil (entry_line tags e))

get_front : (tags more : List Tag) (k : ℕ) → k < length tags → slice_get (tags ++ more) k ≡ slice_get tags k
get_front [] more k lt = absurd (omega arith)
get_front (t ∷ tags) more zero lt = refl
get_front (t ∷ tags) more (suc k) lt = get_front tags more k (omega arith)

name_stays : (tags more : List Tag) (n : ℕ) → IsWithin (length tags) n → name_of (tags ++ more) n ≡ name_of tags n
name_stays tags more n within = ap name_or_none (get_front tags more (n - 1) (omega (arith, within.0, within.1)))

line_stays : (tags more : List Tag) (e : Entry) → IsNumbered (length tags) e → entry_line (tags ++ more) e ≡ entry_line tags e
unfolding entry_line
line_stays tags more (Mark (Begin n r)) h = let same = name_stays tags more n h in rw same refl
line_stays tags more (Mark (Drew n id)) h = let same = name_stays tags more n h in rw same refl
line_stays tags more (Mark (End n o)) h = let same = name_stays tags more n h in rw same refl
line_stays tags more (Mark (Wait t)) h = refl
line_stays tags more (Mark (Cancel c0)) h = refl
line_stays tags more (Mark (Level l0 l1 l2 l3)) h = refl
line_stays tags more (Mark (Drain d0 d1)) h = refl
line_stays tags more (Mark (Ordered d0 d1)) h = refl
line_stays tags more (Bad n) h = refl
line_stays tags more (Failed o) h = refl

pub transcript_stays : (tags more : List Tag) (es : List Entry) → AllByRecursion (IsNumbered (length tags)) es → transcript_of (tags ++ more) es ≡ transcript_of tags es
transcript_stays tags more [] all = refl
transcript_stays tags more (e ∷ es) all =
    ap (λ (t : List ℕ). t ++ transcript_of (tags ++ more) es) (line_stays tags more e all.0) ∙ ap (λ (t : List ℕ). entry_line tags e ++ t) (transcript_stays tags more es all.1)

pub transcript_wait : (tags : List Tag) (a b : List Entry) (t : Option ℕ) → transcript_of tags ((a ++ Mark (Wait t) ∷ []) ++ b) ≡ transcript_of tags (a ++ b)
unfolding entry_line
transcript_wait tags [] b t = refl
transcript_wait tags (e ∷ a) b t = ap (λ (x : List ℕ). entry_line tags e ++ x) (transcript_wait tags a b t)

-- bad lines
pub has_bad-append : (a b : List Entry) → has_bad (a ++ b) ≡ cond (has_bad a) true (has_bad b)
has_bad-append [] b = refl
has_bad-append (Mark m ∷ a) b = has_bad-append a b
has_bad-append (Bad n ∷ a) b = refl
has_bad-append (Failed o ∷ a) b = has_bad-append a b

cond_false : (b : Bool) → cond b true false ≡ b
cond_false true = refl
cond_false false = refl

pub has_bad_mark : (a : List Entry) (m : HistoryMark) → has_bad (a ++ Mark m ∷ []) ≡ has_bad a
has_bad_mark a m = has_bad-append a (Mark m ∷ []) ∙ cond_false (has_bad a)

pub has_bad_failed : (a : List Entry) (o : Order) → has_bad (a ++ Failed o ∷ []) ≡ has_bad a
has_bad_failed a o = has_bad-append a (Failed o ∷ []) ∙ cond_false (has_bad a)

always_true : (b : Bool) → cond b true true ≡ true
always_true true = refl
always_true false = refl

pub has_bad_bad : (a : List Entry) (n : ℕ) → has_bad (a ++ Bad n ∷ []) ≡ true
has_bad_bad a n = has_bad-append a (Bad n ∷ []) ∙ always_true (has_bad a)

pub has_bad_wait : (a b : List Entry) (t : Option ℕ) → has_bad ((a ++ Mark (Wait t) ∷ []) ++ b) ≡ has_bad (a ++ b)
has_bad_wait [] b t = refl
has_bad_wait (Mark m ∷ a) b t = has_bad_wait a b t
has_bad_wait (Bad n ∷ a) b t = refl
has_bad_wait (Failed o ∷ a) b t = has_bad_wait a b t

-- before the first end at least one operation was open
abbrev WasOpen : Option ℕ → Type 0
WasOpen None = Unit {0}
WasOpen (Some count) = 1 ≤ count

was_open : (o : Option ℕ) (count : ℕ) → WasOpen o → 1 ≤ count → WasOpen (with_first_end o count)
was_open None count h lt = lt
was_open (Some c) count h lt = h

some_contained : (xs : List ℕ) (n : ℕ) → Contains xs n → 1 ≤ length xs
some_contained xs n c = omega (arith, c.1)

first_end_open : (now : Moment) (h : List HistoryMark) → WasOpen now.first_end → IsOrdered 1 now h → WasOpen (after_all now h).first_end
first_end_open now [] w p = w
first_end_open now (Begin n r ∷ h) w p = first_end_open (after now (Begin n r)) h tt p.1
first_end_open now (Drew n id ∷ h) w p = first_end_open (after now (Drew n id)) h w p.1
first_end_open now (End n o ∷ h) w p = first_end_open (after now (End n o)) h (was_open now.first_end _ w (some_contained now.open_operations n p.0.0)) p.1
first_end_open now (Wait t ∷ h) w p = first_end_open (after now (Wait t)) h tt p.1
first_end_open now (Cancel n ∷ h) w p = absurd p.0
first_end_open now (Level q a b y ∷ h) w p = absurd p.0
first_end_open now (Drain d y ∷ h) w p = absurd p.0
first_end_open now (Ordered d y ∷ h) w p = first_end_open (after now (Ordered d y)) h tt p.1

full : (o : Option ℕ) (count : ℕ) → WasOpen o → 1 ≤ count → (c : ℕ) × (with_first_end o count ≡ Some c) × (1 ≤ c)
full None count h lt = (count, refl, lt)
full (Some c) count h lt = (c, refl, h)

-- the one operation that is open may end
pub may_end : (h : List HistoryMark) (n : ℕ) (o : Outcome) → IsOrdered 1 start h → (after_all start h).open_operations ≡ n ∷ [] → MayCome 1 (after_all start h) (End n o)
may_end h n o p open_one =
    let now = after_all start h in
    let one : 1 ≤ length now.open_operations = rw open_one (lit≤ tt) in (
      subst (λ (xs : List ℕ). Contains xs n) (sym open_one) (0, lit< tt, refl),
      inr (full now.first_end (length now.open_operations) (first_end_open start h tt p) one),
    )

pub none_left : (n : ℕ) → filter (λ m. not (m == n)) (n ∷ []) ≡ []
none_left n = let same : (n == n) ≡ true = grind (arith, nat_tests) in rw same refl
