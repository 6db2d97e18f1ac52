-- What a session has carried out after each of its parts.
use Rattle.std.proofs.Common.{◌≡◌, ◌⊎◌, inl, inr, ⊎_elim, ℕ, ◌+◌, ◌<◌, ◌≤◌, suc, zero, List, [], ◌∷◌, ◌++◌, length, Bool, true, false, Option, None, Some, refl, sym, ap, subst, ◌∙◌, arith, append_assoc, cond, length-append, lit<, nat_le}
use Rattle.std.proofs.lemmas.Bool.Decides.{nat_tests}
use Rattle.std.proofs.lemmas.List.{append-nil}
use Rattle.std.specs.List.{AllByRecursion, Contains}
use Rattle.quorum_op.specs.declared.outcome.Outcome.{Outcome}
use Rattle.world_model.specs.declared.history.Begun.{Begun}
use Rattle.world_model.specs.declared.history.HistoryMark.{HistoryMark}
use Rattle.world_model.specs.declared.shape.Shape.{Shape}
use Rattle.world_model.specs.declared.history.HistoryMark.TheVariants.{Begin, Drew, End, Ordered, Wait}
use Rattle.world_model.specs.declared.order.Order.{Order}
use Rattle.world_model.specs.declared.order.Told.{Told}
use Rattle.front_end.specs.declared.tags.Tag.{Tag}
use Rattle.front_end.specs.declared.script.Command.{Command}
use Rattle.front_end.specs.declared.script.Command.TheVariants as command
use Rattle.front_end.specs.declared.history.Entry.{Entry}
use Rattle.front_end.specs.declared.history.Entry.TheVariants.{Mark, Bad, Failed}
use Rattle.front_end.specs.History.{Moment, start, after_all, MayCome, IsOver, draws_one, without, DrawsNext, newest_first}
use Rattle.front_end.specs.Script.{Asked, asked_by, with_tag, command_of}
use Rattle.front_end.specs.Past.{has_bad, marks_of, is_later, is_to_node, is_wait, IsBad, IsOwn, EndsWhileWaiting}
use Rattle.front_end.specs.Transcript.{entry_line, transcript_of}
use Rattle.front_end.specs.Kept.{IsNumbered, IsPast, IsKept, IsWithin}
use Rattle.front_end.specs.Session.{State, entries_of, history_of, transcript_so_far, live_numbers, HasCarriedOut, StandsAt, Adds, IsEnding, end_of, finished_by, ending_of, begun_by, drawn_by, waited_by, refused_by, settled_by, busy_by, put_of}
use Rattle.front_end.proofs.TimeLemmas.{weaken, time_begin, time_more, time_end, time_wait}
use Rattle.front_end.proofs.PastLemmas.{all_append, marks_of-append}
use Rattle.front_end.proofs.StepLemmas.{past_later, past_own, past_skip, past_wait, marks_with, marks_with_bad, marks_with_failed, moment_with, ordered_with}
use Rattle.front_end.proofs.KeptLemmas.{kept_append, kept_wait, kept_drawn}
use Rattle.front_end.proofs.SessionLemmas.{transcript_with, transcript_stays, transcript_wait, has_bad_mark, has_bad_bad, has_bad_failed, has_bad_wait, may_end, none_left}

-- what is added, one after the other
pub adds_nothing : (out : List ℕ) (s : State) → Adds out out s s
adds_nothing out s = ([], sym (append-nil out), sym (append-nil (transcript_so_far s)))

pub adds_both : (o1 o2 o3 : List ℕ) (s1 s2 s3 : State) → Adds o1 o2 s1 s2 → Adds o2 o3 s2 s3 → Adds o1 o3 s1 s3
adds_both o1 o2 o3 s1 s2 s3 a b = (
  a.0 ++ b.0,
  b.1 ∙ ap (λ (t : List ℕ). t ++ b.0) a.1 ∙ append_assoc o1 a.0 b.0,
  b.2 ∙ ap (λ (t : List ℕ). t ++ b.0) a.2 ∙ append_assoc (transcript_so_far s1) a.0 b.0,
)

-- the last operation ends, if it is busy
pub finish_kept : (shape : Shape) (ls : List (List ℕ)) (s : State) (tie tie' : List HistoryMark → Type 0) (first now : Option (ℕ → ℕ)) (o : Option Outcome) (b : Bool) → s.busy ≡ b → IsEnding b o → (b ≡ true → 0 < length s.tags)
    → ((marks : List HistoryMark) → tie marks → tie' (end_of (length s.tags) o ++ marks)) → HasCarriedOut shape ls s tie first now → HasCarriedOut shape ls (finished_by s o) tie' first now
finish_kept shape ls s tie tie' first now None true e ends some ties p = let clash : None ≡ Some ends.0 = ends.1 in absurd cc
finish_kept shape ls s tie tie' first now None false e ends some ties p =
    record { past = p.past; kept = record { draws = p.kept.draws; tied = ties (newest_first (history_of s)) p.kept.tied }; bad = p.bad }
finish_kept shape ls s tie tie' first now (Some o) false e ends some ties p = let clash : Some o ≡ None = ends in absurd cc
finish_kept shape ls s tie tie' first now (Some o) true e ends some ties p =
    let n = length s.tags in
    let h = history_of s in
    let past : IsPast shape.nodes ls s.tags s.settled s.later (n ∷ []) [] = subst (λ (b : Bool). IsPast shape.nodes ls s.tags s.settled s.later (live_numbers b s.tags) []) e p.past in
    let within : IsWithin n n = (some refl, omega arith) in
    let left = ap (without n) past.open_operations ∙ none_left n in
    let drawn_all : without n (after_all start h).undrawn ≡ [] = ap (without n) past.undrawn in
    let assoc = sym (append_assoc s.settled s.later (Mark (End n o) ∷ [])) in
    record {
      past = past_later shape.nodes ls s.tags s.settled s.later (n ∷ []) [] [] [] (End n o) past refl within (may_end h n o past.ordered past.open_operations) left drawn_all refl;
      kept = rw (assoc, marks_with (entries_of s) (End n o)) (kept_append shape.partitions h tie tie' first now (End n o) p.kept tt tt ties);
      bad = p.bad ∙ sym (ap has_bad assoc ∙ has_bad_mark (entries_of s) (End n o));
    }

-- and stands at the end of what has happened
pub finish_in_time : (s : State) (o : Option Outcome) → EndsWhileWaiting false false (entries_of s) → EndsWhileWaiting true false (entries_of (finished_by s o))
finish_in_time s None p = weaken false (entries_of s) p
finish_in_time s (Some o) p =
    subst (EndsWhileWaiting true false) (append_assoc s.settled s.later (Mark (End (length s.tags) o) ∷ [])) (time_end false (entries_of s) (length s.tags) o p)

pub finish_adds : (s : State) (o : Option Outcome) (out : List ℕ) → Adds out (out ++ ending_of s.tags o) s (finished_by s o)
finish_adds s None out = ([], refl, sym (append-nil (transcript_so_far s)))
finish_adds s (Some o) out = (
  entry_line s.tags (Mark (End (length s.tags) o)),
  refl,
  ap (transcript_of s.tags) (sym (append_assoc s.settled s.later _)) ∙ transcript_with s.tags (entries_of s) (Mark (End (length s.tags) o)),
)

pub finish_idle : (s : State) (o : Option Outcome) (b : Bool) → s.busy ≡ b → IsEnding b o → (finished_by s o).busy ≡ false
finish_idle s None true e ends = let clash : None ≡ Some ends.0 = ends.1 in absurd cc
finish_idle s None false e ends = e
finish_idle s (Some o) b e ends = refl

pub finish_tags : (s : State) (o : Option Outcome) → (finished_by s o).tags ≡ s.tags
finish_tags s None = refl
finish_tags s (Some o) = refl

-- An operation is going on: it has begun with this request, of which the tie doesn't know yet, and these have still to draw an id.
pub record IsGoing (shape : Shape) (lines : List (List ℕ)) (s : State) (tie : List HistoryMark → Type 0) (first now : Option (ℕ → ℕ)) (n : ℕ) (r : Begun) (to_draw : List ℕ) : Type 0 where
  pub past : IsPast shape.nodes lines s.tags s.settled s.later (n ∷ []) to_draw
  pub before : List HistoryMark
  pub marks : history_of s ≡ before ++ Begin n r ∷ []
  pub kept : IsKept shape.partitions before tie first now
  pub bad : s.bad ≡ has_bad (entries_of s)
  pub waits : (after_all start (history_of s)).waits ≡ []
  pub in_time : EndsWhileWaiting false false (entries_of s)

nothing_contained : (n : ℕ) → Contains [] n → ⊥
nothing_contained n c = omega (arith, c.1)

over : (xs : List ℕ) → xs ≡ [] → (w : Option ℕ) → IsOver xs w
over xs e None = e
over xs e (Some n) = λ c. nothing_contained n (subst (λ (ys : List ℕ). Contains ys n) e c)

all_over : (xs : List ℕ) → xs ≡ [] → (ws : List (Option ℕ)) → AllByRecursion (IsOver xs) ws
all_over xs e [] = tt
all_over xs e (w ∷ ws) = (over xs e w, all_over xs e ws)

none_waited : (xs : List ℕ) (ws : List (Option ℕ)) → ws ≡ [] → AllByRecursion (IsOver xs) ws
none_waited xs ws e = subst (AllByRecursion (IsOver xs)) (sym e) tt

length_more : (tags : List Tag) (t : Tag) → length (tags ++ t ∷ []) ≡ length tags + 1
length_more tags t = omega (arith, length-append tags (t ∷ []))

abbrev pub to_draw_of : ℕ → Begun → List ℕ
to_draw_of n r = cond (draws_one r) (n ∷ []) []

undrawn_begun : (b : Bool) (xs : List ℕ) (n : ℕ) → xs ≡ [] → cond b (xs ++ n ∷ []) xs ≡ cond b (n ∷ []) []
undrawn_begun true xs n e = ap (λ (ys : List ℕ). ys ++ n ∷ []) e
undrawn_begun false xs n e = e

-- what the state is after the entry of an operation line
pub begin_going : (shape : Shape) (ls : List (List ℕ)) (s : State) (tie : List HistoryMark → Type 0) (first now : Option (ℕ → ℕ)) (line : List ℕ) (t : Tag) (r : Begun) (a : Asked)
    → HasCarriedOut shape ls s tie first now → s.busy ≡ false → EndsWhileWaiting true false (entries_of s) → with_tag s.tags (command_of s.tags line) ≡ s.tags ++ t ∷ []
    → asked_by (1 + length ls) s.tags (command_of s.tags line) ≡ a ∷ []
    → IsOwn shape.nodes (entries_of s) a (Mark (Begin (length s.tags + 1) r))
    → IsGoing shape (ls ++ line ∷ []) (begun_by s t r) tie first now (length s.tags + 1) r (to_draw_of (length s.tags + 1) r)
begin_going shape ls s tie first now line t r a p idle time tags asks own =
    let n = length s.tags + 1 in
    let m = Begin n r in
    let es = entries_of s in
    let h = history_of s in
    let moment = after_all start h in
    let past : IsPast shape.nodes ls s.tags s.settled s.later [] [] = subst (λ (b : Bool). IsPast shape.nodes ls s.tags s.settled s.later (live_numbers b s.tags) []) idle p.past in
    let more : length (s.tags ++ t ∷ []) ≡ n = length_more s.tags t in
    let comes : MayCome 1 moment m =
    (ap (λ c. c + 1) (sym past.count), rw past.open_operations (lit< tt), all_over moment.open_operations past.open_operations moment.waits) in
    let all : (es ++ Mark m ∷ []) ++ [] ≡ es ++ Mark m ∷ [] = append-nil (es ++ Mark m ∷ []) in
    record {
      past = past_own shape.nodes ls s.tags (s.tags ++ t ∷ []) s.settled s.later [] [] (n ∷ []) (to_draw_of n r) line (Mark m) a past (sym tags) (omega arith) asks refl refl own
          (omega arith, omega arith)
          (ordered_with es m past.ordered comes)
          (rw moment_with (ap (λ (xs : List ℕ). xs ++ n ∷ []) past.open_operations))
          (rw moment_with (undrawn_begun (draws_one r) moment.undrawn n past.undrawn))
          (rw moment_with (ap (λ c. c + 1) past.count ∙ sym more));
      before = h;
      marks = ap marks_of all ∙ marks_with es m;
      kept = p.kept;
      bad = p.bad ∙ sym (ap has_bad all ∙ has_bad_mark es m);
      waits = ap (λ (x : List Entry). (after_all start (marks_of x)).waits) all ∙ ap (λ (x : Moment). x.waits) (moment_with es m);
      in_time = subst (EndsWhileWaiting false false) (sym all) (time_begin false es n r time);
    }

pub begin_adds : (s : State) (t : Tag) (r : Begun) (out : List ℕ) → AllByRecursion (IsNumbered (length s.tags)) (entries_of s)
    → Adds out (out ++ entry_line (s.tags ++ t ∷ []) (Mark (Begin (length s.tags + 1) r))) s (begun_by s t r)
begin_adds s t r out numbered =
    let e = Mark (Begin (length s.tags + 1) r) in
    let tags = s.tags ++ t ∷ [] in (
      entry_line tags e,
      refl,
      ap (transcript_of tags) (append-nil (entries_of s ++ e ∷ [])) ∙ transcript_with tags (entries_of s) e
          ∙ ap (λ (x : List ℕ). x ++ entry_line tags e) (transcript_stays s.tags (t ∷ []) (entries_of s) numbered),
    )

-- the operation is over at once, or asks the replicas
pub starts_going : (shape : Shape) (ls : List (List ℕ)) (s : State) (tie tie' : List HistoryMark → Type 0) (first now : Option (ℕ → ℕ)) (n : ℕ) (r : Begun) → IsGoing shape ls s tie first now n r [] → n ≡ length s.tags
    → ((marks : List HistoryMark) → tie marks → tie' (Begin n r ∷ marks)) → StandsAt shape ls (busy_by s) tie' first now
starts_going shape ls s tie tie' first now n r p same ties = record {
  carried = record {
    past = subst (λ m. IsPast shape.nodes ls s.tags s.settled s.later (m ∷ []) []) same p.past;
    kept = rw p.marks (kept_append shape.partitions p.before tie tie' first now (Begin n r) p.kept tt tt ties);
    bad = p.bad;
  };
  waited = none_waited _ _ p.waits;
  in_time = p.in_time;
}

le_true : (a b : ℕ) → a ≤ b → nat_le a b ≡ true
le_true a b h = grind (arith, nat_tests)

lt_false : (a b : ℕ) → b < a → nat_le a b ≡ false
lt_false a b h = grind (arith, nat_tests)

-- a put draws its id and asks the replicas
pub store_going : (shape : Shape) (ls : List (List ℕ)) (s : State) (tie tie' : List HistoryMark → Type 0) (first words next : Option (ℕ → ℕ)) (n : ℕ) (body id : List ℕ) (out : List ℕ)
    → IsGoing shape ls s tie first words n (put_of body) (to_draw_of n (put_of body)) → n ≡ length s.tags → 0 < n → length body ≤ 65536 → DrawsNext shape.partitions words n id next
    → ((marks : List HistoryMark) → tie marks → tie' (Drew n id ∷ Begin n (put_of body) ∷ marks))
    → StandsAt shape ls (busy_by (drawn_by s n id)) tie' first next × Adds out (out ++ entry_line s.tags (Mark (Drew n id))) s (busy_by (drawn_by s n id))
store_going shape ls s tie tie' first words next n body id out p same pos small draws ties =
    let m = Drew n id in
    let es = entries_of s in
    let h = history_of s in
    let grown = drawn_by s n id in
    let assoc = sym (append_assoc s.settled s.later (Mark m ∷ [])) in
    let within : IsWithin (length s.tags) n = (pos, omega (arith, same)) in
    let to_draw : to_draw_of n (put_of body) ≡ n ∷ [] = ap (λ (b : Bool). cond b (n ∷ []) []) (le_true (length body) 65536 small) in
    let undrawn : (after_all start h).undrawn ≡ n ∷ [] = p.past.undrawn ∙ to_draw in
    let opened : Contains (after_all start h).undrawn n = subst (λ (xs : List ℕ). Contains xs n) (sym undrawn) (0, lit< tt, refl) in
    let left : without n (after_all start h).undrawn ≡ [] = ap (without n) undrawn ∙ none_left n in
    let marks : history_of grown ≡ (p.before ++ Begin n (put_of body) ∷ []) ++ m ∷ [] = ap marks_of assoc ∙ marks_with es m ∙ ap (λ (t : List HistoryMark). t ++ m ∷ []) p.marks in
    let past = past_later shape.nodes ls s.tags s.settled s.later (n ∷ []) (to_draw_of n (put_of body)) (n ∷ []) [] m p.past refl within opened p.past.open_operations left refl in (
      record {
        carried = record {
          past = subst (λ k. IsPast shape.nodes ls s.tags s.settled (s.later ++ Mark m ∷ []) (k ∷ []) []) same past;
          kept = rw marks (kept_drawn shape.partitions p.before tie tie' first words next (Begin n (put_of body)) n id p.kept tt tt draws ties);
          bad = p.bad ∙ sym (ap has_bad assoc ∙ has_bad_mark es m);
        };
        waited = none_waited _ _ (ap (λ (x : List Entry). (after_all start (marks_of x)).waits) assoc ∙ ap (λ (x : Moment). x.waits) (moment_with es m) ∙ p.waits);
        in_time = subst (EndsWhileWaiting false false) (sym assoc) (time_more false es (Mark m) (λ v. tt) p.in_time);
      },
      (entry_line s.tags (Mark m), refl, ap (transcript_of s.tags) assoc ∙ transcript_with s.tags es (Mark m)),
    )

pub le_or_lt : (a b : ℕ) → (a ≤ b) ⊎ (b < a)
le_or_lt zero b = inl (omega arith)
le_or_lt (suc a) zero = inr (omega arith)
le_or_lt (suc a) (suc b) = ⊎_elim (λ (h : a ≤ b). inl (omega arith)) (λ (h : b < a). inr (omega arith)) (le_or_lt a b)

-- a put that is too long draws nothing
pub none_to_draw : (n : ℕ) (body : List ℕ) → 65536 < length body → to_draw_of n (put_of body) ≡ []
none_to_draw n body large = ap (λ (b : Bool). cond b (n ∷ []) []) (lt_false (length body) 65536 large)

-- an operation line, up to its begun line
pub begin_whole : (shape : Shape) (ls : List (List ℕ)) (line : List ℕ) (s : State) (tie tie' : List HistoryMark → Type 0) (first now : Option (ℕ → ℕ)) (o : Option Outcome) (t : Tag) (r : Begun) (c : Command) (out : List ℕ)
    → StandsAt shape ls s tie first now → IsEnding s.busy o → (s.busy ≡ true → 0 < length s.tags) → ((marks : List HistoryMark) → tie marks → tie' (end_of (length s.tags) o ++ marks)) → command_of s.tags line ≡ Some c
    → ((known : List Tag) → with_tag known (Some c) ≡ known ++ t ∷ [])
    → ((known : List Tag) → asked_by (1 + length ls) known (Some c) ≡ record { number = 1 + length ls; tags = known; command = Some c } ∷ [])
    → IsOwn shape.nodes (entries_of (finished_by s o)) (record { number = 1 + length ls; tags = s.tags; command = Some c }) (Mark (Begin (length s.tags + 1) r))
    → IsGoing shape (ls ++ line ∷ []) (begun_by (finished_by s o) t r) tie' first now (length s.tags + 1) r (to_draw_of (length s.tags + 1) r)
    × Adds out ((out ++ ending_of s.tags o) ++ entry_line (s.tags ++ t ∷ []) (Mark (Begin (length s.tags + 1) r))) s (begun_by (finished_by s o) t r)
begin_whole shape ls line s tie tie' first now o t r c out p ends some ties asks tags own_line own =
    let f = finished_by s o in
    let same : f.tags ≡ s.tags = finish_tags s o in
    let carried : HasCarriedOut shape ls f tie' first now = finish_kept shape ls s tie tie' first now o s.busy refl ends some ties p.carried in
    let asks' : command_of f.tags line ≡ Some c = ap (λ (x : List Tag). command_of x line) same ∙ asks in
    let own' : IsOwn shape.nodes (entries_of f) (record { number = 1 + length ls; tags = f.tags; command = Some c }) (Mark (Begin (length f.tags + 1) r)) =
    subst (λ (x : List Tag). IsOwn shape.nodes (entries_of f) (record { number = 1 + length ls; tags = x; command = Some c }) (Mark (Begin (length x + 1) r))) (sym same) own in
    let g = begin_going shape ls f tie' first now line t r (record { number = 1 + length ls; tags = f.tags; command = Some c }) carried (finish_idle s o s.busy refl ends) (finish_in_time s o p.in_time)
    (ap (with_tag f.tags) asks' ∙ tags f.tags) (ap (asked_by (1 + length ls) f.tags) asks' ∙ own_line f.tags) own' in
    let a1 : Adds out (out ++ ending_of s.tags o) s f = finish_adds s o out in
    let a2 = begin_adds f t r (out ++ ending_of s.tags o) carried.past.numbered in
    let both = adds_both out _ _ s f (begun_by f t r) a1 a2 in (
      subst (λ (x : List Tag). IsGoing shape (ls ++ line ∷ []) (begun_by f t r) tie' first now (length x + 1) r (to_draw_of (length x + 1) r)) same g,
      subst (λ (x : List Tag). Adds out ((out ++ ending_of s.tags o) ++ entry_line (x ++ t ∷ []) (Mark (Begin (length x + 1) r))) s (begun_by f t r)) same both,
    )

-- what has ended when the script waits
wait_in_time : (s : State) (o : Option Outcome) → AllByRecursion (λ e. is_later e ≡ true) s.later → EndsWhileWaiting false false (entries_of s)
    → EndsWhileWaiting false false (entries_of (finished_by (waited_by s) o))
wait_in_time s None all p = subst (EndsWhileWaiting false false) (sym (append_assoc s.settled (Mark (Wait None) ∷ []) s.later)) (time_wait false s.settled s.later s.later None all all p)
wait_in_time s (Some o) all p =
    let now = s.later ++ Mark (End (length s.tags) o) ∷ [] in
    subst (EndsWhileWaiting false false) (sym (append_assoc s.settled (Mark (Wait None) ∷ []) now))
    (time_wait false s.settled s.later now None all (all_append (λ e. is_later e ≡ true) s.later _ all (refl, tt)) p)

-- a wait
pub wait_whole : (shape : Shape) (ls : List (List ℕ)) (line : List ℕ) (s : State) (tie tie' : List HistoryMark → Type 0) (first now : Option (ℕ → ℕ)) (o : Option Outcome) (out : List ℕ)
    → command_of s.tags line ≡ Some command.Wait → IsEnding s.busy o → (s.busy ≡ true → 0 < length s.tags) → ((marks : List HistoryMark) → tie marks → tie' (end_of (length s.tags) o ++ marks)) → StandsAt shape ls s tie first now
    → StandsAt shape (ls ++ line ∷ []) (finished_by (waited_by s) o) tie' first now × Adds out (out ++ ending_of s.tags o) s (finished_by (waited_by s) o)
wait_whole shape ls line s tie tie' first now o out asks ends some ties stands =
    let p = stands.carried in
    let w : State = waited_by s in
    let was : history_of s ≡ marks_of s.settled ++ marks_of s.later = marks_of-append s.settled s.later in
    let marks : history_of w ≡ marks_of s.settled ++ Wait None ∷ marks_of s.later =
    marks_of-append (s.settled ++ Mark (Wait None) ∷ []) s.later ∙ ap (λ (x : List HistoryMark). x ++ marks_of s.later) (marks_with s.settled (Wait None))
    ∙ append_assoc (marks_of s.settled) (Wait None ∷ []) (marks_of s.later) in
    let p1 : HasCarriedOut shape (ls ++ line ∷ []) w tie first now = record {
      past = past_wait shape.nodes ls s.tags s.settled s.later (live_numbers s.busy s.tags) [] line (record { number = 1 + length ls; tags = s.tags; command = Some command.Wait }) p.past
          (ap (with_tag s.tags) asks) (ap (asked_by (1 + length ls) s.tags) asks) (λ b. (refl, refl));
      kept = subst (λ (h : List HistoryMark). IsKept shape.partitions h tie first now) (sym marks)
          (kept_wait shape.partitions (marks_of s.settled) (marks_of s.later) tie first now None (subst (λ (h : List HistoryMark). IsKept shape.partitions h tie first now) was p.kept));
      bad = p.bad ∙ sym (has_bad_wait s.settled s.later None);
    } in
    let a : Adds out (out ++ ending_of s.tags o) w (finished_by w o) = finish_adds w o out in
    let a' : Adds out (out ++ ending_of s.tags o) s (finished_by w o) = (a.0, a.1, a.2 ∙ ap (λ (x : List ℕ). x ++ a.0) (transcript_wait s.tags s.settled s.later None)) in
    let f = finished_by w o in
    let done : HasCarriedOut shape (ls ++ line ∷ []) f tie' first now = finish_kept shape (ls ++ line ∷ []) w tie tie' first now o s.busy refl ends some ties p1 in
    let none : (after_all start (history_of f)).open_operations ≡ [] = done.past.open_operations ∙ ap (λ (b : Bool). live_numbers b f.tags) (finish_idle w o s.busy refl ends) in
    (record { carried = done; waited = all_over _ none (after_all start (history_of f)).waits; in_time = wait_in_time s o p.past.later stands.in_time }, a')

-- an entry that is no mark, behind what has happened
silent_whole : (shape : Shape) (ls : List (List ℕ)) (line : List ℕ) (s : State) (tie : List HistoryMark → Type 0) (first now : Option (ℕ → ℕ)) (e : Entry) (b : Bool) (a : Asked) (out : List ℕ)
    → marks_of (entries_of s ++ e ∷ []) ≡ history_of s → b ≡ has_bad (entries_of s ++ e ∷ []) → with_tag s.tags (command_of s.tags line) ≡ s.tags → asked_by (1 + length ls) s.tags (command_of s.tags line) ≡ a ∷ []
    → IsOwn shape.nodes (entries_of s) a e → is_later e ≡ false → is_wait e ≡ false → IsNumbered (length s.tags) e → ((v : Bool) → EndsWhileWaiting false v (e ∷ [])) → StandsAt shape ls s tie first now
    → StandsAt shape (ls ++ line ∷ []) (settled_by (record s { bad = b }) e) tie first now × Adds out (out ++ entry_line s.tags e) s (settled_by (record s { bad = b }) e)
silent_whole shape ls line s tie first now e b a out same bad more asks own own_line no_wait numbered alone stands =
    let p = stands.carried in
    let es = entries_of s in
    let all : (es ++ e ∷ []) ++ [] ≡ es ++ e ∷ [] = append-nil (es ++ e ∷ []) in
    let marks : marks_of ((es ++ e ∷ []) ++ []) ≡ history_of s = ap marks_of all ∙ same in
    let live = live_numbers s.busy s.tags in (
      record {
        carried = record {
          past = past_own shape.nodes ls s.tags s.tags s.settled s.later live [] live [] line e a p.past (sym more) (omega arith) asks own_line no_wait own numbered
              (rw same p.past.ordered) (rw same p.past.open_operations) (rw same p.past.undrawn) (rw same p.past.count);
          kept = subst (λ (h : List HistoryMark). IsKept shape.partitions h tie first now) (sym marks) p.kept;
          bad = bad ∙ sym (ap has_bad all);
        };
        waited = subst (λ (h : List HistoryMark). AllByRecursion (IsOver (after_all start h).open_operations) (after_all start h).waits) (sym marks) stands.waited;
        in_time = subst (EndsWhileWaiting false false) (sym all) (time_more false es e alone stands.in_time);
      },
      (entry_line s.tags e, refl, ap (transcript_of s.tags) all ∙ transcript_with s.tags es e),
    )

bad_tags : (nodes : ℕ) (tags : List Tag) (c : Option Command) → IsBad nodes c → with_tag tags c ≡ tags
bad_tags nodes tags None b = refl
bad_tags nodes tags (Some (command.Order order)) b = refl
bad_tags nodes tags (Some command.Skip) b = absurd b
bad_tags nodes tags (Some (command.Put tag body)) b = absurd b
bad_tags nodes tags (Some (command.Get tag of)) b = absurd b
bad_tags nodes tags (Some (command.Delete tag of)) b = absurd b
bad_tags nodes tags (Some command.Wait) b = absurd b
bad_tags nodes tags (Some command.End) b = absurd b

bad_asked : (nodes number : ℕ) (tags : List Tag) (c : Option Command) → IsBad nodes c → asked_by number tags c ≡ record { number = number; tags = tags; command = c } ∷ []
bad_asked nodes number tags None b = refl
bad_asked nodes number tags (Some (command.Order order)) b = refl
bad_asked nodes number tags (Some command.Skip) b = absurd b
bad_asked nodes number tags (Some (command.Put tag body)) b = absurd b
bad_asked nodes number tags (Some (command.Get tag of)) b = absurd b
bad_asked nodes number tags (Some (command.Delete tag of)) b = absurd b
bad_asked nodes number tags (Some command.Wait) b = absurd b
bad_asked nodes number tags (Some command.End) b = absurd b

-- a bad line
pub refuse_whole : (shape : Shape) (ls : List (List ℕ)) (line : List ℕ) (s : State) (tie : List HistoryMark → Type 0) (first now : Option (ℕ → ℕ)) (out : List ℕ)
    → IsBad shape.nodes (command_of s.tags line) → StandsAt shape ls s tie first now → s.lines ≡ 1 + length ls
    → StandsAt shape (ls ++ line ∷ []) (refused_by s) tie first now × Adds out (out ++ entry_line s.tags (Bad s.lines)) s (refused_by s)
refuse_whole shape ls line s tie first now out bad stands number =
    let c = command_of s.tags line in
    let es = entries_of s in
    silent_whole shape ls line s tie first now (Bad s.lines) true (record { number = 1 + length ls; tags = s.tags; command = c }) out (marks_with_bad es s.lines) (sym (has_bad_bad es s.lines))
    (bad_tags shape.nodes s.tags c bad) (bad_asked shape.nodes (1 + length ls) s.tags c bad) (bad, number) refl refl tt (λ v. tt) stands

-- an order at which the network failed
pub failed_whole : (shape : Shape) (ls : List (List ℕ)) (line : List ℕ) (s : State) (tie : List HistoryMark → Type 0) (first now : Option (ℕ → ℕ)) (order : Order) (out : List ℕ)
    → command_of s.tags line ≡ Some (command.Order order) → is_to_node shape.nodes order ≡ true → StandsAt shape ls s tie first now
    → StandsAt shape (ls ++ line ∷ []) (settled_by s (Failed order)) tie first now × Adds out (out ++ entry_line s.tags (Failed order)) s (settled_by s (Failed order))
failed_whole shape ls line s tie first now order out asks there stands =
    let es = entries_of s in
    silent_whole shape ls line s tie first now (Failed order) s.bad (record { number = 1 + length ls; tags = s.tags; command = Some (command.Order order) }) out (marks_with_failed es order)
    (stands.carried.bad ∙ sym (has_bad_failed es order)) (ap (with_tag s.tags) asks) (ap (asked_by (1 + length ls) s.tags) asks) (refl, there) refl refl tt (λ v. tt) stands

-- an order that was carried out
pub order_whole : (shape : Shape) (ls : List (List ℕ)) (line : List ℕ) (s : State) (tie tie' : List HistoryMark → Type 0) (first now : Option (ℕ → ℕ)) (order : Order) (told : Told) (out : List ℕ)
    → command_of s.tags line ≡ Some (command.Order order) → is_to_node shape.nodes order ≡ true → ((marks : List HistoryMark) → tie marks → tie' (Ordered order told ∷ marks)) → StandsAt shape ls s tie first now
    → StandsAt shape (ls ++ line ∷ []) (settled_by s (Mark (Ordered order told))) tie' first now
    × Adds out (out ++ entry_line s.tags (Mark (Ordered order told))) s (settled_by s (Mark (Ordered order told)))
order_whole shape ls line s tie tie' first now order told out asks there ties stands =
    let p = stands.carried in
    let es = entries_of s in
    let m = Ordered order told in
    let e = Mark m in
    let h = history_of s in
    let all : (es ++ e ∷ []) ++ [] ≡ es ++ e ∷ [] = append-nil (es ++ e ∷ []) in
    let marks : marks_of ((es ++ e ∷ []) ++ []) ≡ h ++ m ∷ [] = ap marks_of all ∙ marks_with es m in
    let live = live_numbers s.busy s.tags in (
      record {
        carried = record {
          past = past_own shape.nodes ls s.tags s.tags s.settled s.later live [] live [] line e (record { number = 1 + length ls; tags = s.tags; command = Some (command.Order order) }) p.past
              (sym (ap (with_tag s.tags) asks)) (omega arith) (ap (asked_by (1 + length ls) s.tags) asks) refl refl (refl, there) tt
              (ordered_with es m p.past.ordered stands.waited)
              (rw moment_with p.past.open_operations) (rw moment_with p.past.undrawn) (rw moment_with p.past.count);
          kept = subst (λ (x : List HistoryMark). IsKept shape.partitions x tie' first now) (sym marks) (kept_append shape.partitions h tie tie' first now m p.kept tt tt ties);
          bad = p.bad ∙ sym (ap has_bad all ∙ has_bad_mark es m);
        };
        waited = none_waited _ _ (ap (λ (x : List Entry). (after_all start (marks_of x)).waits) all ∙ ap (λ (x : Moment). x.waits) (moment_with es m));
        in_time = subst (EndsWhileWaiting false false) (sym all) (time_more false es e (λ v. tt) stands.in_time);
      },
      (entry_line s.tags e, refl, ap (transcript_of s.tags) all ∙ transcript_with s.tags es e),
    )

-- a line that asks for nothing
pub skip_whole : (shape : Shape) (ls : List (List ℕ)) (line : List ℕ) (s : State) (tie : List HistoryMark → Type 0) (first now : Option (ℕ → ℕ)) → (command_of s.tags line ≡ Some command.Skip) ⊎ (command_of s.tags line ≡ Some command.End)
    → StandsAt shape ls s tie first now → StandsAt shape (ls ++ line ∷ []) s tie first now
skip_whole shape ls line s tie first now asks stands =
    let p = stands.carried in
    record {
      carried = record {
        past = ⊎_elim
            (λ (e : command_of s.tags line ≡ Some command.Skip). past_skip shape.nodes ls s.tags s.settled s.later _ [] line p.past (ap (with_tag s.tags) e) (ap (asked_by (1 + length ls) s.tags) e))
            (λ (e : command_of s.tags line ≡ Some command.End). past_skip shape.nodes ls s.tags s.settled s.later _ [] line p.past (ap (with_tag s.tags) e) (ap (asked_by (1 + length ls) s.tags) e))
            asks;
        kept = p.kept;
        bad = p.bad;
      };
      waited = stands.waited;
      in_time = stands.in_time;
    }

-- the count of the lines changes nothing else
pub count_line : (shape : Shape) (ls : List (List ℕ)) (s : State) (tie : List HistoryMark → Type 0) (first now : Option (ℕ → ℕ)) (n : ℕ) → StandsAt shape ls s tie first now → StandsAt shape ls (record s { lines = n }) tie first now
count_line shape ls s tie first now n p = record { carried = record { past = p.carried.past; kept = p.carried.kept; bad = p.carried.bad }; waited = p.waited; in_time = p.in_time }
