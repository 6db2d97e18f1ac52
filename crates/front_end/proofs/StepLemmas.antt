-- The steps by which a past grows.
use Rattle.std.proofs.Common.{◌≡◌, ℕ, ◌+◌, ◌≤◌, List, [], ◌∷◌, ◌++◌, length, true, false, None, not, refl, sym, ap, ◌∙◌, arith, append_assoc, suc}
use Rattle.std.proofs.lemmas.List.{append-nil}
use Rattle.std.specs.List.{AllByRecursion}
use Rattle.front_end.specs.declared.tags.Tag.{Tag}
use Rattle.world_model.specs.declared.history.HistoryMark.{HistoryMark}
use Rattle.world_model.specs.declared.history.HistoryMark.TheVariants.{Begin, Cancel, Drain, Drew, End, Level, Ordered, Wait}
use Rattle.world_model.specs.declared.order.Order.{Order}
use Rattle.front_end.specs.declared.history.Entry.{Entry}
use Rattle.front_end.specs.declared.history.Entry.TheVariants.{Mark, Bad, Failed}
use Rattle.front_end.specs.History.{Moment, start, after, after_all, MayCome, IsOrdered}
use Rattle.front_end.specs.Script.{Asked, asked, asked_by, with_tag, tags_after, command_of}
use Rattle.front_end.specs.Past.{marks_of, is_later, is_wait, IsOwn}
use Rattle.front_end.specs.Kept.{IsNumbered, IsPast}
use Rattle.front_end.proofs.PastLemmas.{all_append, all_front, all_back, all_map, marks_of-append, after_all-append, ordered_append, ordered_front, ordered_back, IsWaiting, ordered_waiting, follows_later, follows_own, follows_wait, waits_append, waits_front, front_after-append, later_waits}

-- one more line
pub tags_after-append : (tags : List Tag) (ls : List (List ℕ)) (line : List ℕ) → tags_after tags (ls ++ line ∷ []) ≡ with_tag (tags_after tags ls) (command_of (tags_after tags ls) line)
tags_after-append tags [] line = refl
tags_after-append tags (l ∷ ls) line = tags_after-append (with_tag tags (command_of tags l)) ls line

asked-append : (n : ℕ) (tags : List Tag) (ls : List (List ℕ)) (line : List ℕ)
    → asked n tags (ls ++ line ∷ []) ≡ asked n tags ls ++ asked_by (n + length ls) (tags_after tags ls) (command_of (tags_after tags ls) line)
asked-append n tags [] line =
    let same : n + 0 ≡ n = omega arith in
    append-nil _ ∙ ap (λ m. asked_by m tags (command_of tags line)) (sym same)
asked-append n tags (l ∷ ls) line =
    let ih = asked-append (n + 1) (with_tag tags (command_of tags l)) ls line in
    let number : (n + 1) + length ls ≡ n + suc (length ls) = omega arith in
    ap (λ (t : List Asked). asked_by n tags (command_of tags l) ++ t) (rw number at ih)
    ∙ sym (append_assoc (asked_by n tags (command_of tags l)) _ _)

-- the line that comes next, where the tags so far are known
next_asked : (ls : List (List ℕ)) (known : List Tag) (line : List ℕ) → known ≡ tags_after [] ls
    → asked 1 [] (ls ++ line ∷ []) ≡ asked 1 [] ls ++ asked_by (1 + length ls) known (command_of known line)
next_asked ls known line same = asked-append 1 [] ls line ∙ ap (λ (t : List Tag). asked 1 [] ls ++ asked_by (1 + length ls) t (command_of t line)) (sym same)

next_tags : (ls : List (List ℕ)) (known : List Tag) (line : List ℕ) → known ≡ tags_after [] ls
    → with_tag known (command_of known line) ≡ tags_after [] (ls ++ line ∷ [])
next_tags ls known line same = ap (λ (t : List Tag). with_tag t (command_of t line)) same ∙ sym (tags_after-append [] ls line)

-- numbers stay within a greater count
numbered_more : (few many : ℕ) → few ≤ many → (e : Entry) → IsNumbered few e → IsNumbered many e
numbered_more few many le (Mark (Begin n r)) h = (h.0, omega (arith, h.1))
numbered_more few many le (Mark (Drew n id)) h = (h.0, omega (arith, h.1))
numbered_more few many le (Mark (End n o)) h = (h.0, omega (arith, h.1))
numbered_more few many le (Mark (Wait t)) h = tt
numbered_more few many le (Mark (Cancel c0)) h = tt
numbered_more few many le (Mark (Level l0 l1 l2 l3)) h = tt
numbered_more few many le (Mark (Drain d0 d1)) h = tt
numbered_more few many le (Mark (Ordered d0 d1)) h = tt
numbered_more few many le (Bad n) h = tt
numbered_more few many le (Failed o) h = tt

-- one more mark
pub marks_with : (es : List Entry) (m : HistoryMark) → marks_of (es ++ Mark m ∷ []) ≡ marks_of es ++ m ∷ []
marks_with es m = marks_of-append es (Mark m ∷ [])

pub marks_with_failed : (es : List Entry) (o : Order) → marks_of (es ++ Failed o ∷ []) ≡ marks_of es
marks_with_failed es o = marks_of-append es (Failed o ∷ []) ∙ append-nil (marks_of es)

pub marks_with_bad : (es : List Entry) (n : ℕ) → marks_of (es ++ Bad n ∷ []) ≡ marks_of es
marks_with_bad es n = marks_of-append es (Bad n ∷ []) ∙ append-nil (marks_of es)

pub moment_with : (es : List Entry) (m : HistoryMark) → after_all start (marks_of (es ++ Mark m ∷ [])) ≡ after (after_all start (marks_of es)) m
moment_with es m = ap (after_all start) (marks_with es m) ∙ after_all-append start (marks_of es) (m ∷ [])

pub ordered_with : (es : List Entry) (m : HistoryMark) → IsOrdered 1 start (marks_of es) → MayCome 1 (after_all start (marks_of es)) m → IsOrdered 1 start (marks_of (es ++ Mark m ∷ []))
ordered_with es m p q = rw (marks_with es m) (ordered_append 1 start (marks_of es) (m ∷ []) p (q, tt))

-- what was drawn, or an end
pub past_later : (nodes : ℕ) (ls : List (List ℕ)) (known : List Tag) (past since : List Entry) (unfinished to_draw left undrawn : List ℕ) (m : HistoryMark)
    → IsPast nodes ls known past since unfinished to_draw → is_later (Mark m) ≡ true → IsNumbered (length known) (Mark m)
    → MayCome 1 (after_all start (marks_of (past ++ since))) m
    → (after (after_all start (marks_of (past ++ since))) m).open_operations ≡ left
    → (after (after_all start (marks_of (past ++ since))) m).undrawn ≡ undrawn
    → (after (after_all start (marks_of (past ++ since))) m).begun_count ≡ (after_all start (marks_of (past ++ since))).begun_count
    → IsPast nodes ls known past (since ++ Mark m ∷ []) left undrawn
past_later nodes ls known past since unfinished to_draw left undrawn m p later numbered comes rest drawing counted =
    let e = sym (append_assoc past since (Mark m ∷ [])) in
    let only : AllByRecursion (λ x. is_later x ≡ true) (Mark m ∷ []) = (later, tt) in
    record {
      tags = p.tags;
      follows = rw e (follows_later nodes [] (past ++ since) _ (Mark m) p.follows later);
      later = all_append (λ x. is_later x ≡ true) since (Mark m ∷ []) p.later only;
      front = p.front;
      waits = rw e (waits_append true (past ++ since) (Mark m ∷ []) p.waits (later_waits _ (Mark m ∷ []) only));
      ordered = rw e (ordered_with (past ++ since) m p.ordered comes);
      open_operations = rw (e, moment_with (past ++ since) m) rest;
      undrawn = rw (e, moment_with (past ++ since) m) drawing;
      count = rw (e, moment_with (past ++ since) m) (counted ∙ p.count);
      numbered = rw e (all_append (IsNumbered (length known)) (past ++ since) (Mark m ∷ []) p.numbered (numbered, tt));
    }

-- the entry of a script line that is no wait
pub past_own : (nodes : ℕ) (ls : List (List ℕ)) (known more : List Tag) (past since : List Entry) (unfinished to_draw left undrawn : List ℕ) (line : List ℕ) (e : Entry) (a : Asked)
    → IsPast nodes ls known past since unfinished to_draw → more ≡ with_tag known (command_of known line) → length known ≤ length more
    → asked_by (1 + length ls) known (command_of known line) ≡ a ∷ []
    → is_later e ≡ false → is_wait e ≡ false → IsOwn nodes (past ++ since) a e → IsNumbered (length more) e
    → IsOrdered 1 start (marks_of ((past ++ since) ++ e ∷ []))
    → (after_all start (marks_of ((past ++ since) ++ e ∷ []))).open_operations ≡ left
    → (after_all start (marks_of ((past ++ since) ++ e ∷ []))).undrawn ≡ undrawn
    → (after_all start (marks_of ((past ++ since) ++ e ∷ []))).begun_count ≡ length more
    → IsPast nodes (ls ++ line ∷ []) more ((past ++ since) ++ e ∷ []) [] left undrawn
past_own nodes ls known more past since unfinished to_draw left undrawn line e a p tags grows asks own no_wait is numbered ordered rest drawing counted =
    let all = (past ++ since) ++ e ∷ [] in
    let same : all ++ [] ≡ all = append-nil all in
    record {
      tags = tags ∙ next_tags ls known line p.tags;
      follows = rw (same, next_asked ls known line p.tags, asks) (follows_own nodes [] (past ++ since) _ e a p.follows own is);
      later = tt;
      front = front_after-append true (past ++ since) e ∙ ap not own;
      waits = rw same (waits_append true (past ++ since) (e ∷ []) p.waits (λ w. absurd cc, tt));
      ordered = rw same ordered;
      open_operations = rw same rest;
      undrawn = rw same drawing;
      count = rw same counted;
      numbered = rw same (all_append (IsNumbered (length more)) (past ++ since) (e ∷ []) (all_map _ _ (numbered_more (length known) (length more) grows) (past ++ since) p.numbered) (numbered, tt));
    }

-- a line that has no entry
pub past_skip : (nodes : ℕ) (ls : List (List ℕ)) (known : List Tag) (past since : List Entry) (unfinished to_draw : List ℕ) (line : List ℕ)
    → IsPast nodes ls known past since unfinished to_draw → with_tag known (command_of known line) ≡ known → asked_by (1 + length ls) known (command_of known line) ≡ []
    → IsPast nodes (ls ++ line ∷ []) known past since unfinished to_draw
past_skip nodes ls known past since unfinished to_draw line p tags asks =
    record {
      tags = sym tags ∙ next_tags ls known line p.tags;
      follows = rw (next_asked ls known line p.tags, asks, append-nil (asked 1 [] ls)) p.follows;
      later = p.later;
      front = p.front;
      waits = p.waits;
      ordered = p.ordered;
      open_operations = p.open_operations;
      undrawn = p.undrawn;
      count = p.count;
      numbered = p.numbered;
    }

grown_is_something : {A : Type 0} (xs : List A) (x : A) → xs ++ x ∷ [] ≡ [] → ⊥
grown_is_something [] x e = cc
grown_is_something (y ∷ xs) x e = cc

-- a wait
pub past_wait : (nodes : ℕ) (ls : List (List ℕ)) (known : List Tag) (past since : List Entry) (unfinished to_draw : List ℕ) (line : List ℕ) (a : Asked)
    → IsPast nodes ls known past since unfinished to_draw → with_tag known (command_of known line) ≡ known → asked_by (1 + length ls) known (command_of known line) ≡ a ∷ []
    → ((b : List Entry) → IsOwn nodes b a (Mark (Wait None)))
    → IsPast nodes (ls ++ line ∷ []) known (past ++ Mark (Wait None) ∷ []) since unfinished to_draw
past_wait nodes ls known past since unfinished to_draw line a p tags asks own =
    let now = after_all start (marks_of past) in
    let marks : marks_of ((past ++ Mark (Wait None) ∷ []) ++ since) ≡ (marks_of past ++ Wait None ∷ []) ++ marks_of since =
    marks_of-append (past ++ Mark (Wait None) ∷ []) since ∙ ap (λ (t : List HistoryMark). t ++ marks_of since) (marks_with past (Wait None)) in
    let before : IsOrdered 1 start (marks_of past ++ marks_of since) = rw marks_of-append at p.ordered in
    let waiting : IsWaiting now (after now (Wait None)) = record { same_open = refl; same_undrawn = refl; same_count = refl; waits = grown_is_something now.waits None } in
    let moves = ordered_waiting 1 now (after now (Wait None)) since p.later waiting (ordered_back 1 start (marks_of past) (marks_of since) before) in
    let front : IsOrdered 1 start (marks_of past ++ Wait None ∷ []) = ordered_append 1 start (marks_of past) (Wait None ∷ []) (ordered_front 1 start (marks_of past) (marks_of since) before) (tt, tt) in
    let there : after_all start (marks_of past ++ Wait None ∷ []) ≡ after now (Wait None) = after_all-append start (marks_of past) (Wait None ∷ []) in
    let here : after_all start ((marks_of past ++ Wait None ∷ []) ++ marks_of since) ≡ after_all (after now (Wait None)) (marks_of since) =
    after_all-append start (marks_of past ++ Wait None ∷ []) (marks_of since) ∙ ap (λ (t : Moment). after_all t (marks_of since)) there in
    let was : after_all start (marks_of (past ++ since)) ≡ after_all now (marks_of since) = ap (after_all start) (marks_of-append past since) ∙ after_all-append start (marks_of past) (marks_of since) in
    record {
      tags = sym tags ∙ next_tags ls known line p.tags;
      follows = rw (next_asked ls known line p.tags, asks) (follows_wait nodes [] past since _ a None p.later p.follows own);
      later = p.later;
      front = front_after-append true past (Mark (Wait None));
      waits = waits_append true (past ++ Mark (Wait None) ∷ []) since
          (waits_append true past (Mark (Wait None) ∷ []) (waits_front true past since p.waits) (λ _. p.front, tt)) (later_waits _ since p.later);
      ordered = rw marks (ordered_append 1 start (marks_of past ++ Wait None ∷ []) (marks_of since) front (rw there moves.0));
      undrawn = rw (marks, here) (moves.1.same_undrawn ∙ ap (λ (t : Moment). t.undrawn) (sym was) ∙ p.undrawn);
      open_operations = rw (marks, here) (moves.1.same_open ∙ ap (λ (t : Moment). t.open_operations) (sym was) ∙ p.open_operations);
      count = rw (marks, here) (moves.1.same_count ∙ ap (λ (t : Moment). t.begun_count) (sym was) ∙ p.count);
      numbered = all_append _ (past ++ Mark (Wait None) ∷ []) since (all_append _ past (Mark (Wait None) ∷ []) (all_front _ past since p.numbered) (tt, tt)) (all_back _ past since p.numbered);
    }
