-- What a session keeps of its state, step after step.
use Rattle.std.proofs.Common.{◌≡◌, ◌≢◌, ℕ, ◌+◌, ◌-◌, ◌<◌, ◌≤◌, suc, zero, List, [], ◌∷◌, ◌++◌, length, Bool, true, false, Option, None, Some, refl, sym, ap, ◌∙◌, arith, append_assoc, cond, ◌==◌, slice_get, slice_set, map, option_map, Result, Ok, Err, OnOk}
use Rattle.std.specs.Option.{option_flatten}
use Rattle.std.proofs.lemmas.List.{append-nil, map-append}
use Rattle.std.proofs.lemmas.Bool.Decides.{nat_tests}
use Rattle.quorum_op.specs.declared.outcome.Outcome.{Outcome}
use Rattle.world_model.specs.declared.history.HistoryMark.{HistoryMark}
use Rattle.world_model.specs.declared.history.HistoryMark.TheVariants.{Begin, End, Wait}
use Rattle.world_model.specs.declared.order.Order.{Order}
use Rattle.front_end.specs.declared.history.Entry.{Entry}
use Rattle.front_end.specs.declared.history.Entry.TheVariants.{Mark, Bad, Failed}
use Rattle.front_end.specs.Past.{answer_after, answer_in, answer_of, answer_or}
use Rattle.router_core.specs.Fits.{RouterView}
use Rattle.router_core.specs.Stands.{is_idle, live_in}
use Rattle.front_end.specs.Outline.{outline_entry}
use Rattle.front_end.specs.declared.tags.Tag.{Tag}
use Rattle.front_end.specs.declared.session.Session.{Session}
use Rattle.world_model.specs.declared.history.Begun.{Begun}
use Rattle.std.specs.Str.{bytes_eq}
use Rattle.front_end.specs.Script.{tag_number}
use Rattle.front_end.specs.Transcript.{entry_line}
use Rattle.front_end.specs.Session.{State, Keeps, entries_of, waited_by, answer_at, answered, nothing_yet}
use Rattle.front_end.proofs.SessionLemmas.{answer_with_last, answer_wait}

pub outline_more : (es : List Entry) (e : Entry) → map outline_entry (es ++ e ∷ []) ≡ map outline_entry es ++ outline_entry e ∷ []
outline_more es e = map-append outline_entry es (e ∷ [])

-- a place that was set
length_set : (xs : List (Option (List ℕ))) (i : ℕ) (x : Option (List ℕ)) → length (slice_set xs i x) ≡ length xs
length_set [] i x = refl
length_set (y ∷ xs) zero x = refl
length_set (y ∷ xs) (suc i) x = ap suc (length_set xs i x)

set_here : (xs : List (Option (List ℕ))) (i : ℕ) (x : Option (List ℕ)) → i < length xs → slice_get (slice_set xs i x) i ≡ Some x
set_here [] i x lt = absurd (omega arith)
set_here (y ∷ xs) zero x lt = refl
set_here (y ∷ xs) (suc i) x lt = set_here xs i x (omega arith)

set_elsewhere : (xs : List (Option (List ℕ))) (i j : ℕ) (x : Option (List ℕ)) → i ≢ j → slice_get (slice_set xs i x) j ≡ slice_get xs j
set_elsewhere [] i j x other = refl
set_elsewhere (y ∷ xs) zero zero x other = absurd (other refl)
set_elsewhere (y ∷ xs) zero (suc j) x other = refl
set_elsewhere (y ∷ xs) (suc i) zero x other = refl
set_elsewhere (y ∷ xs) (suc i) (suc j) x other = set_elsewhere xs i j x (λ e. other (ap suc e))

pub length_answered : (xs : List (Option (List ℕ))) (n : ℕ) (a : Option (List ℕ)) → length (answered xs n a) ≡ length xs
length_answered xs n None = refl
length_answered xs n (Some id) = length_set xs (n - 1) (Some id)

-- the answers after an end
set_answer : (xs : List (Option (List ℕ))) (n k : ℕ) (id : List ℕ) → 0 < n → n ≤ length xs → 0 < k → answer_at (slice_set xs (n - 1) (Some id)) k ≡ cond (n == k) (Some id) (answer_at xs k)
set_answer xs n k id n_pos n_le k_pos =
    elim (n == k) as (λ t. (n == k) ≡ t → answer_at (slice_set xs (n - 1) (Some id)) k ≡ cond t (Some id) (answer_at xs k)) [
      | true ↦ λ e. let same : n ≡ k = grind (arith, nat_tests) in ap option_flatten (ap (λ m. slice_get (slice_set xs (n - 1) (Some id)) (m - 1)) (sym same) ∙ set_here xs (n - 1) (Some id) (omega arith))
      | false ↦ λ e. let other : n ≢ k = λ (same : n ≡ k). let yes_same : (n == k) ≡ true = grind (arith, nat_tests) in let clash : true ≡ false = sym yes_same ∙ e in cc in
          ap option_flatten (set_elsewhere xs (n - 1) (k - 1) (Some id) (λ q. other (omega arith)))
    ] refl

same_either : (b : Bool) (x : Option (List ℕ)) → x ≡ cond b x x
same_either true x = refl
same_either false x = refl

answers_set : (xs : List (Option (List ℕ))) (n k : ℕ) (a x : Option (List ℕ)) → 0 < n → n ≤ length xs → 0 < k → answer_at xs k ≡ x → answer_at (answered xs n a) k ≡ cond (n == k) (answer_or x a) x
answers_set xs n k None x n_pos n_le k_pos same = same ∙ same_either (n == k) x
answers_set xs n k (Some id) x n_pos n_le k_pos same = set_answer xs n k id n_pos n_le k_pos ∙ ap (cond (n == k) (Some id)) same

pub answers_end : (xs : List (Option (List ℕ))) (es : List Entry) (n : ℕ) (o : Outcome) → 0 < n → n ≤ length xs → ((k : ℕ) → 0 < k → answer_at xs k ≡ answer_of es k)
    → (k : ℕ) → 0 < k → answer_at (answered xs n (answer_in o)) k ≡ answer_of (es ++ Mark (End n o) ∷ []) k
answers_end xs es n o n_pos n_le all k k_pos = answers_set xs n k (answer_in o) (answer_of es k) n_pos n_le k_pos (all k k_pos) ∙ sym (answer_with_last None es (Mark (End n o)) k)

-- a place more
none_more : (xs : List (Option (List ℕ))) (i : ℕ) → option_flatten (slice_get (xs ++ None ∷ []) i) ≡ option_flatten (slice_get xs i)
none_more [] zero = refl
none_more [] (suc i) = refl
none_more (x ∷ xs) zero = refl
none_more (x ∷ xs) (suc i) = none_more xs i

pub answers_begin : (xs : List (Option (List ℕ))) (k : ℕ) → answer_at (xs ++ None ∷ []) k ≡ answer_at xs k
answers_begin xs k = none_more xs (k - 1)

-- an entry that is no end
pub answer_stays : (es : List Entry) (e : Entry) (k : ℕ) → answer_after (answer_of es k) e k ≡ answer_of es k → answer_of (es ++ e ∷ []) k ≡ answer_of es k
answer_stays es e k same = answer_with_last None es e k ∙ same

-- an entry of a script line behind what was settled and what came since
pub settled_outline : (a b x y : List Entry) (e : Entry) → x ≡ map outline_entry a → y ≡ map outline_entry b → (x ++ y) ++ outline_entry e ∷ [] ≡ map outline_entry ((a ++ b) ++ e ∷ [])
settled_outline a b x y e p q =
    ap (λ (t : List Entry). (t ++ y) ++ outline_entry e ∷ []) p ∙ ap (λ (t : List Entry). (map outline_entry a ++ t) ++ outline_entry e ∷ []) q
    ∙ ap (λ (t : List Entry). t ++ outline_entry e ∷ []) (sym (map-append outline_entry a b)) ∙ sym (outline_more (a ++ b) e)

pub answers_own : (s : State) (e : Entry) (k : ℕ) → answer_after (answer_of (entries_of s) k) e k ≡ answer_of (entries_of s) k → answer_of (entries_of s) k ≡ answer_of (((s.settled ++ s.later) ++ e ∷ []) ++ []) k
answers_own s e k same = sym (ap (λ (es : List Entry). answer_of es k) (append-nil ((s.settled ++ s.later) ++ e ∷ [])) ∙ answer_stays (entries_of s) e k same)

pub answers_later : (s : State) (e : Entry) (k : ℕ) → answer_after (answer_of (entries_of s) k) e k ≡ answer_of (entries_of s) k → answer_of (entries_of s) k ≡ answer_of (s.settled ++ (s.later ++ e ∷ [])) k
answers_later s e k same = sym (ap (λ (es : List Entry). answer_of es k) (sym (append_assoc s.settled s.later (e ∷ []))) ∙ answer_stays (entries_of s) e k same)

pub keeps_new : (s : Session) → s.tags ≡ [] → is_idle (live_in s.router.stages) ≡ true → s.lines ≡ 0 → s.bad ≡ false → s.settled ≡ [] → s.later ≡ [] → s.answers.items ≡ [] → Keeps s nothing_yet
keeps_new s tags idle lines bad settled later answers = record {
  tags = tags;
  busy = idle;
  some = λ e. absurd cc;
  lines = lines;
  bad = bad;
  settled = settled;
  later = later;
  count = ap length answers;
  answers = λ n pos. ap (λ (xs : List (Option (List ℕ))). answer_at xs n) answers ∙ none_at (n - 1);
}
  where
    none_at : (i : ℕ) → option_flatten (slice_get {X = Option (List ℕ)} [] i) ≡ None
    none_at zero = refl
    none_at (suc i) = refl

pub keeps_wait : (s : Session) (state : State) → Keeps s state → Keeps (record s { settled = s.settled ++ Mark (Wait None) ∷ [] }) (waited_by state)
keeps_wait s state k = record {
  tags = k.tags;
  busy = k.busy;
  some = k.some;
  lines = k.lines;
  bad = k.bad;
  settled = ap (λ (t : List Entry). t ++ Mark (Wait None) ∷ []) k.settled ∙ sym (outline_more state.settled (Mark (Wait None)));
  later = k.later;
  count = k.count;
  answers = λ n pos. k.answers n pos ∙ sym (answer_wait None state.settled state.later None n);
}

pub keeps_count : (s : Session) (state : State) → Keeps s state → Keeps (record s { lines = s.lines + 1 }) (record state { lines = state.lines + 1 })
keeps_count s state k = record {
  tags = k.tags;
  busy = k.busy;
  some = k.some;
  lines = ap (λ n. n + 1) k.lines;
  bad = k.bad;
  settled = k.settled;
  later = k.later;
  count = k.count;
  answers = k.answers;
}

-- numbers of operations are counted from 1
pub number_positive : (tags : List Tag) (name : List ℕ) (n : ℕ) → tag_number tags name ≡ Some n → 0 < n
number_positive [] name n e = absurd cc
number_positive (t ∷ tags) name n e = here (bytes_eq t.name name) (tag_number tags name) e
  where
    there : (r : Option ℕ) → option_map (λ m. m + 1) r ≡ Some n → 0 < n
    there None e = absurd cc
    there (Some m) e = let same : Some (m + 1) ≡ Some n = e in let equal : m + 1 ≡ n = cc in omega arith

    here : (b : Bool) (r : Option ℕ) → cond b (Some 1) (option_map (λ m. m + 1) r) ≡ Some n → 0 < n
    here true r e = let equal : 1 ≡ n = cc in omega arith
    here false r e = there r e

-- a begun line doesn't tell the request
pub begun_line : (tags : List Tag) (n : ℕ) (r q : Begun) → entry_line tags (Mark (Begin n r)) ≡ entry_line tags (Mark (Begin n q))
unfolding entry_line
begun_line tags n r q = refl

pub on_ok_map : {A E : Type 0} (r : Result A E) {P Q : Type 0} → (P → Q) → OnOk r P → OnOk r Q
on_ok_map (Ok x) f p = f p
on_ok_map (Err e) f p = tt

pub on_ok_both : {A E : Type 0} (r : Result A E) {P Q R : Type 0} → (P → Q → R) → OnOk r P → OnOk r Q → OnOk r R
on_ok_both (Ok x) f p q = f p q
on_ok_both (Err e) f p q = tt

-- another router, where it is as idle
pub keeps_router : (s : Session) (router : RouterView) (state : State) → is_idle (live_in router.stages) ≡ is_idle (live_in s.router.stages) → Keeps s state → Keeps (record s { router = router }) state
keeps_router s router state same k = record {
  tags = k.tags;
  busy = same ∙ k.busy;
  some = k.some;
  lines = k.lines;
  bad = k.bad;
  settled = k.settled;
  later = k.later;
  count = k.count;
  answers = k.answers;
}

-- entries behind the same ones are told apart
last_same : (xs : List Entry) (a b : Entry) → xs ++ a ∷ [] ≡ xs ++ b ∷ [] → a ≡ b
last_same [] a b e = cc
last_same (x ∷ xs) a b e = let more : xs ++ a ∷ [] ≡ xs ++ b ∷ [] = cc in last_same xs a b more

pub mark_not_failed : (xs : List Entry) (m : HistoryMark) (order : Order) → xs ++ Mark m ∷ [] ≡ xs ++ Failed order ∷ [] → ⊥
mark_not_failed xs m order e = let same : Mark m ≡ Failed order = last_same xs (Mark m) (Failed order) e in cc

pub bad_not_failed : (xs : List Entry) (n : ℕ) (order : Order) → xs ++ Bad n ∷ [] ≡ xs ++ Failed order ∷ [] → ⊥
bad_not_failed xs n order e = let same : Bad n ≡ Failed order = last_same xs (Bad n) (Failed order) e in cc
