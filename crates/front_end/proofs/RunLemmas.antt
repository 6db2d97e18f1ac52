-- What holds of a run, line after line.
use Rattle.std.proofs.Common.{◌≡◌, ◌≢◌, ◌⊎◌, inl, inr, ℕ, ◌+◌, ◌≤◌, List, [], ◌∷◌, ◌++◌, length, true, false, Option, None, Some, Result, Ok, Err, IsErr, refl, sym, ap, subst, ◌∙◌, arith, append_assoc, length-append, flat_map, take}
use Rattle.std.proofs.lemmas.List.{append-nil, append_cancel_right, map-append}
use Rattle.std.proofs.lemmas.Grind.{flat_map-append}
use Rattle.std.specs.Result.{IsErrAnd}
use Rattle.std.specs.Io.KnownBytes.{Consumes, Appends}
use Rattle.world_model.specs.declared.history.HistoryMark.{HistoryMark}
use Rattle.world_model.specs.declared.shape.Shape.{Shape}
use Rattle.front_end.specs.declared.tags.Tag.{Tag}
use Rattle.front_end.specs.declared.run.Ending.TheVariants as ending
use Rattle.front_end.specs.declared.script.Command.TheVariants as command
use Rattle.front_end.specs.declared.session.Session.{Session}
use Rattle.front_end.specs.declared.history.Entry.{Entry}
use Rattle.front_end.specs.declared.lines.Next.TheVariants.{Line, Last, Limit}
use Rattle.front_end.specs.Script.{command_of, tags_after, with_tag, NoneEnds}
use Rattle.front_end.specs.Transcript.{transcript_of}
use Rattle.front_end.specs.Lines.{HasNoEnd, BeginsWith, without_return, ended, TakesNext, ReadsBytes}
use Rattle.front_end.specs.Session.{State, StandsAt, entries_of, transcript_so_far}
use Rattle.front_end.specs.Run.{IsPastOf, Read, Wrote, IsFront, AreRead, HasEnded, HasStopped, WasCutOff, Outside}
use Rattle.front_end.specs.Running.{ReadSoFar, IsRunning, RanLine, RunsLine, IsAll, IsSome, RanLines}
use Rattle.front_end.proofs.TimeLemmas.{weaken}
use Rattle.std.proofs.Math.Seq.{take-append_seam}
use Rattle.front_end.proofs.PastLemmas.{all_append}

-- the error that a result hands on
pub known_error : {A E : Type 0} (r : Result A E) (e f : E) → IsErr r × IsErrAnd r (λ x. x ≡ f) → r ≡ Err e → e ≡ f
known_error (Ok x) e f h q = absurd h.1
known_error (Err x) e f h q = let same : x ≡ e = cc in sym same ∙ h.1

-- what holds but at an error holds at an answer
pub settled_ok : {A E : Type 0} (r : Result A E) (x : A) {e : E} {P : Type 0} → r ≡ Ok x → (r ≡ Err e) ⊎ P → P
settled_ok r x ok (inl e) = absurd cc
settled_ok r x ok (inr p) = p

pub consumes_nothing : (o : Option (List ℕ)) → Consumes o o []
consumes_nothing None = tt
consumes_nothing (Some x) = refl

-- one more line
begins_more : (text : List ℕ) (lines : List (List ℕ)) (rest rest' raw : List ℕ) → BeginsWith text lines rest → HasNoEnd raw → rest ≡ (raw ++ 10 ∷ []) ++ rest'
    → BeginsWith text (lines ++ without_return raw ∷ []) rest'
begins_more text lines rest rest' raw b none e = record {
  raw = b.raw ++ raw ∷ [];
  whole = b.whole ∙ ap (λ (t : List ℕ). flat_map ended b.raw ++ t) e ∙ sym (append_assoc (flat_map ended b.raw) (raw ++ 10 ∷ []) rest')
      ∙ ap (λ (t : List ℕ). (flat_map ended b.raw ++ t) ++ rest') (sym (append-nil (raw ++ 10 ∷ []))) ∙ ap (λ (t : List ℕ). t ++ rest') (sym (flat_map-append ended b.raw (raw ∷ [])));
  each = all_append HasNoEnd b.raw (raw ∷ []) b.each (none, tt);
  same = ap (λ (t : List (List ℕ)). t ++ without_return raw ∷ []) b.same ∙ sym (map-append without_return b.raw (raw ∷ []));
}

-- the part of the text before what is left
begins_cut : (text gone left : List ℕ) (lines : List (List ℕ)) (w : List ℕ) → BeginsWith text lines (w ++ left) → text ≡ gone ++ left → BeginsWith gone lines w
begins_cut text gone left lines w b e = record {
  raw = b.raw;
  whole = append_cancel_right gone (flat_map ended b.raw ++ w) left (sym e ∙ b.whole ∙ sym (append_assoc (flat_map ended b.raw) w left));
  each = b.each;
  same = b.same;
}

gone_both : (old new new' g1 g2 : List ℕ) → old ≡ g1 ++ new → new ≡ g2 ++ new' → old ≡ (g1 ++ g2) ++ new'
gone_both old new new' g1 g2 p q = p ∙ ap (λ (t : List ℕ). g1 ++ t) q ∙ sym (append_assoc g1 g2 new')

-- a line was read
pub read_line : (ls ln ln' : Option (List ℕ)) (w w' : List ℕ) (t t' : ℕ) (lines : List (List ℕ)) (line : List ℕ)
    → ReadSoFar ls ln w t lines → TakesNext ln ln' w w' (Line line) → ReadsBytes ln ln' t t' → ReadSoFar ls ln' w' t' (lines ++ line ∷ [])
read_line None ln ln' w w' t t' lines line p q r = tt
read_line (Some o) None ln' w w' t t' lines line p q r = absurd p
read_line (Some o) (Some n) None w w' t t' lines line p q r = absurd q.3
read_line (Some o) (Some n) (Some n') w w' t t' lines line p q r =
    let size = length-append p.1.0 r.0 in (
      subst (λ (x : List ℕ). BeginsWith o (lines ++ x ∷ []) (w' ++ n')) (sym q.2) (begins_more o lines (w ++ n) (w' ++ n') q.0 p.0 q.1 q.3),
      (p.1.0 ++ r.0, gone_both o n n' p.1.0 r.0 p.1.1 r.1, omega (arith, size, p.1.2, r.2)),
    )

-- what was read when the run was cut short
pub read_cut : (ls ln ln' : Option (List ℕ)) (w gone : List ℕ) (t : ℕ) (lines : List (List ℕ)) → ReadSoFar ls ln w t lines → Consumes ln ln' gone → t + length gone ≤ 67108865 → Read ls ln' (λ text left. AreRead lines text)
read_cut None ln ln' w gone t lines p q le = tt
read_cut (Some o) None ln' w gone t lines p q le = absurd p
read_cut (Some o) (Some n) None w gone t lines p q le = absurd q
read_cut (Some o) (Some n) (Some n') w gone t lines p q le =
    let size = length-append p.1.0 gone in
    let e = gone_both o n n' p.1.0 gone p.1.1 q in
    let b : BeginsWith o lines ((w ++ gone) ++ n') = subst (λ (x : List ℕ). BeginsWith o lines x) (ap (λ (x : List ℕ). w ++ x) q ∙ sym (append_assoc w gone n')) p.0 in
    (p.1.0 ++ gone, e, (omega (arith, size, p.1.2, le), inl (w ++ gone, begins_cut o (p.1.0 ++ gone) n' lines (w ++ gone) b e)))

pub read_now : (ls ln : Option (List ℕ)) (w : List ℕ) (t : ℕ) (lines : List (List ℕ)) → ReadSoFar ls ln w t lines → t ≤ 67108865 → Read ls ln (λ text left. AreRead lines text)
read_now None ln w t lines p le = tt
read_now (Some o) None w t lines p le = absurd p
read_now (Some o) (Some n) w t lines p le = (p.1.0, p.1.1, (omega (arith, p.1.2, le), inl (w, begins_cut o p.1.0 n lines w p.0 p.1.1)))

-- the end of the input was read
pub read_last : (ls ln ln' : Option (List ℕ)) (w w' : List ℕ) (t t' : ℕ) (lines : List (List ℕ)) (line : List ℕ)
    → ReadSoFar ls ln w t lines → TakesNext ln ln' w w' (Last line) → ReadsBytes ln ln' t t' → t' ≤ 67108864 → Read ls ln' (HasEnded ending.AtEnd (lines ++ line ∷ []))
read_last None ln ln' w w' t t' lines line p q r small = tt
read_last (Some o) None ln' w w' t t' lines line p q r small = absurd p
read_last (Some o) (Some n) None w w' t t' lines line p q r small = absurd q.1
read_last (Some o) (Some n) (Some n') w w' t t' lines line p q r small =
    let size = length-append p.1.0 r.0 in
    let e = gone_both o n n' p.1.0 r.0 p.1.1 r.1 in
    let left : w ++ n ≡ line ++ n' = q.1 ∙ ap (λ (x : List ℕ). line ++ (x ++ n')) q.2.0 in
    let b : BeginsWith o lines (line ++ n') = subst (λ (x : List ℕ). BeginsWith o lines x) left p.0 in
    (p.1.0 ++ r.0, e, ((lines, line, begins_cut o (p.1.0 ++ r.0) n' lines line b e, q.0, refl), q.2.1, omega (arith, size, p.1.2, r.2, small)))

pub read_map : (ls ln : Option (List ℕ)) (P Q : List ℕ → List ℕ → Type 0) → ((x y : List ℕ) → P x y → Q x y) → Read ls ln P → Read ls ln Q
read_map None ln P Q f p = tt
read_map (Some o) None P Q f p = absurd p
read_map (Some o) (Some n) P Q f p = (p.0, p.1, f p.0 n p.2)

pub read_all : (ls ln ln' : Option (List ℕ)) (w w' : List ℕ) (t t' : ℕ) (lines : List (List ℕ)) (line : List ℕ)
    → ReadSoFar ls ln w t lines → TakesNext ln ln' w w' (Last line) → ReadsBytes ln ln' t t' → t' ≤ 67108865 → Read ls ln' (λ text left. AreRead (lines ++ line ∷ []) text)
read_all None ln ln' w w' t t' lines line p q r le = tt
read_all (Some o) None ln' w w' t t' lines line p q r le = absurd p
read_all (Some o) (Some n) None w w' t t' lines line p q r le = absurd q.1
read_all (Some o) (Some n) (Some n') w w' t t' lines line p q r le =
    let size = length-append p.1.0 r.0 in
    let e = gone_both o n n' p.1.0 r.0 p.1.1 r.1 in
    let left : w ++ n ≡ line ++ n' = q.1 ∙ ap (λ (x : List ℕ). line ++ (x ++ n')) q.2.0 in
    let b : BeginsWith o lines (line ++ n') = subst (λ (x : List ℕ). BeginsWith o lines x) left p.0 in
    (p.1.0 ++ r.0, e, (omega (arith, size, p.1.2, r.2, le), inr (lines, line, begins_cut o (p.1.0 ++ r.0) n' lines line b e, q.0, refl)))

-- a text without its last byte
front_of : (n : ℕ) (text a : List ℕ) (b : ℕ) → text ≡ a ++ b ∷ [] → length text ≡ n + 1 → take n text ≡ a
front_of n text a b e size =
    let both = length-append a (b ∷ []) in
    let counted : length a ≡ n = omega (arith, size, both, ap length e) in
    ap (take n) e ∙ ap (λ m. take m (a ++ b ∷ [])) (sym counted) ∙ take-append_seam a (b ∷ [])

begins_front : (text : List ℕ) (lines : List (List ℕ)) (part : List ℕ) (b : ℕ) → BeginsWith text lines (part ++ b ∷ []) → length text ≡ 67108865 → BeginsWith (take 67108864 text) lines part
begins_front text lines part b begins size = record {
  raw = begins.raw;
  whole = front_of 67108864 text (flat_map ended begins.raw ++ part) b (begins.whole ∙ sym (append_assoc (flat_map ended begins.raw) part (b ∷ []))) size;
  each = begins.each;
  same = begins.same;
}

-- the limit was passed
pub read_limit : (ls ln ln' : Option (List ℕ)) (w w' : List ℕ) (t t' : ℕ) (lines : List (List ℕ))
    → ReadSoFar ls ln w t lines → TakesNext ln ln' w w' Limit → ReadsBytes ln ln' t t' → t' ≡ 67108865 → Read ls ln' (HasEnded ending.PastLimit lines)
read_limit None ln ln' w w' t t' lines p q r large = tt
read_limit (Some o) None ln' w w' t t' lines p q r large = absurd p
read_limit (Some o) (Some n) None w w' t t' lines p q r large = absurd q.3
read_limit (Some o) (Some n) (Some n') w w' t t' lines p q r large =
    let part = q.0 in
    let text = p.1.0 ++ r.0 in
    let size = length-append p.1.0 r.0 in
    let e = gone_both o n n' p.1.0 r.0 p.1.1 r.1 in
    let left : w ++ n ≡ (part ++ q.1 ∷ []) ++ n' = q.3 ∙ ap (λ (x : List ℕ). (part ++ q.1 ∷ []) ++ (x ++ n')) q.4 in
    let b : BeginsWith o lines ((part ++ q.1 ∷ []) ++ n') = subst (λ (x : List ℕ). BeginsWith o lines x) left p.0 in
    let counted : length text ≡ 67108865 = omega (arith, size, p.1.2, r.2, large) in
    (text, e, ((part, begins_front text lines part q.1 (begins_cut o text n' lines (part ++ q.1 ∷ []) b e) counted, q.2), counted))

-- the script ended
pub read_end : (ls ln : Option (List ℕ)) (w : List ℕ) (t : ℕ) (lines : List (List ℕ)) (line : List ℕ)
    → ReadSoFar ls ln w t (lines ++ line ∷ []) → command_of (tags_after [] lines) line ≡ Some command.End → t ≤ 67108864 → Read ls ln (HasEnded ending.AtEndLine (lines ++ line ∷ []))
read_end None ln w t lines line p e small = tt
read_end (Some o) None w t lines line p e small = absurd p
read_end (Some o) (Some n) w t lines line p e small =
    (p.1.0, p.1.1, ((lines, line, refl, e, (w, begins_cut o p.1.0 n (lines ++ line ∷ []) w p.0 p.1.1)), omega (arith, small, p.1.2)))

-- what was written
pub wrote_more : (to tn tn' : Option (List ℕ)) (before now added bytes : List ℕ) → Wrote to tn (λ wrote. wrote ≡ before) → Appends tn tn' bytes → now ≡ before ++ added → bytes ≡ added
    → Wrote to tn' (λ wrote. wrote ≡ now)
wrote_more None tn tn' before now added bytes p a e all = tt
wrote_more (Some o) None tn' before now added bytes p a e all = absurd p
wrote_more (Some o) (Some n) None before now added bytes p a e all = absurd a
wrote_more (Some o) (Some n) (Some n') before now added bytes p a e all =
    (p.0 ++ bytes, a ∙ ap (λ (x : List ℕ). x ++ bytes) p.1 ∙ append_assoc o p.0 bytes, ap (λ (x : List ℕ). x ++ bytes) p.2 ∙ ap (λ (x : List ℕ). before ++ x) all ∙ sym e)

pub wrote_front : (to tn tn' : Option (List ℕ)) (before text added bytes rest : List ℕ) → Wrote to tn (λ wrote. wrote ≡ before) → Appends tn tn' bytes
    → text ≡ before ++ added → added ≡ bytes ++ rest → Wrote to tn' (IsFront text)
wrote_front None tn tn' before text added bytes rest p a e part = tt
wrote_front (Some o) None tn' before text added bytes rest p a e part = absurd p
wrote_front (Some o) (Some n) None before text added bytes rest p a e part = absurd a
wrote_front (Some o) (Some n) (Some n') before text added bytes rest p a e part = (
  p.0 ++ bytes,
  a ∙ ap (λ (x : List ℕ). x ++ bytes) p.1 ∙ append_assoc o p.0 bytes,
  (rest, e ∙ ap (λ (x : List ℕ). before ++ x) part ∙ sym (append_assoc before bytes rest) ∙ ap (λ (x : List ℕ). (x ++ bytes) ++ rest) (sym p.2)),
)

wrote_nothing : (to tn tn' : Option (List ℕ)) (before : List ℕ) → Wrote to tn (λ wrote. wrote ≡ before) → Appends tn tn' [] → Wrote to tn' (λ wrote. wrote ≡ before)
wrote_nothing to tn tn' before p a = wrote_more to tn tn' before before [] [] p a (sym (append-nil before)) refl

-- one more line that doesn't end the script
none_more : (tags : List Tag) (ls : List (List ℕ)) (line : List ℕ) → NoneEnds tags ls → command_of (tags_after tags ls) line ≢ Some command.End → NoneEnds tags (ls ++ line ∷ [])
none_more tags [] line n e = (e, tt)
none_more tags (l ∷ ls) line n e = (n.0, none_more (with_tag tags (command_of tags l)) ls line n.1 e)

-- the past of a session
pub past_of : (shape : Shape) (lines : List (List ℕ)) (s : State) (tie : List HistoryMark → Type 0) (first now : Option (ℕ → ℕ)) → StandsAt shape lines s tie first now → IsPastOf shape.nodes false lines (entries_of s)
past_of shape lines s tie first now p =
    record { follows = p.carried.past.follows; waits = p.carried.past.waits; ordered = p.carried.past.ordered; in_time = p.in_time }

pub past_over : (nodes : ℕ) (lines : List (List ℕ)) (es : List Entry) → IsPastOf nodes false lines es → IsPastOf nodes true lines es
past_over nodes lines es p = record { follows = p.follows; waits = p.waits; ordered = p.ordered; in_time = weaken false es p.in_time }

pub same_transcript : (shape : Shape) (lines : List (List ℕ)) (s : State) (tie : List HistoryMark → Type 0) (first now : Option (ℕ → ℕ)) → StandsAt shape lines s tie first now → transcript_of (tags_after [] lines) (entries_of s) ≡ transcript_so_far s
same_transcript shape lines s tie first now p = ap (λ (t : List Tag). transcript_of t (entries_of s)) (sym p.carried.past.tags)

-- a run that stopped between two lines
pub stopped_between : (shape : Shape) (ls ln ln' to tn tn' : Option (List ℕ)) (w gone : List ℕ) (t : ℕ) (s : Session) (tie : List HistoryMark → Type 0) (first now : Option (ℕ → ℕ)) (o : Outside)
    → o.left_old ≡ ls → o.left_new ≡ ln' → o.taken_old ≡ to → o.taken_new ≡ tn' → o.words_old ≡ first
    → IsRunning shape ls ln to tn w t s tie first now → Consumes ln ln' gone → t + length gone ≤ 67108865 → Appends tn tn' [] → HasStopped shape tie o now
stopped_between shape ls ln ln' to tn tn' w gone t s tie first now o lo le to_is tn_is words r c bound a =
    let read : Read ls ln' (λ text left. AreRead r.lines text) = read_cut ls ln ln' w gone t r.lines r.read c bound in
    let wrote : Wrote to tn' (λ wrote. wrote ≡ transcript_of (tags_after [] r.lines) (entries_of r.state)) =
    subst (λ (x : List ℕ). Wrote to tn' (λ wrote. wrote ≡ x)) (sym (same_transcript shape r.lines r.state tie first now r.stands)) (wrote_nothing to tn tn' (transcript_so_far r.state) r.wrote a) in
    record {
      lines = r.lines;
      entries = entries_of r.state;
      past = past_of shape r.lines r.state tie first now r.stands;
      ended_last = inl r.unended;
      read = rw (lo, le) read;
      wrote = rw (to_is, tn_is) wrote;
      draws = rw words r.stands.carried.kept.draws;
      tied = r.stands.carried.kept.tied;
    }

-- a run whose output failed in a line
pub cut_in_line : (shape : Shape) (ls ln to tn tn' : Option (List ℕ)) (lines : List (List ℕ)) (line : List ℕ) (old : State) (s : Session) (tie : List HistoryMark → Type 0) (first now : Option (ℕ → ℕ)) (o : Outside)
    → o.left_old ≡ ls → o.left_new ≡ ln → o.taken_old ≡ to → o.taken_new ≡ tn' → o.words_old ≡ first → o.words_new ≡ now
    → NoneEnds [] lines → Wrote to tn (λ wrote. wrote ≡ transcript_so_far old) → Read ls ln (λ text left. AreRead (lines ++ line ∷ []) text)
    → RanLine shape line lines old s tie first now tn tn' IsSome → WasCutOff shape tie o
cut_in_line shape ls ln to tn tn' lines line old s tie first now o lo le to_is tn_is words words_now unended wrote read r =
    let all = lines ++ line ∷ [] in
    let front : Wrote to tn' (IsFront (transcript_of (tags_after [] all) (entries_of r.state))) =
    wrote_front to tn tn' (transcript_so_far old) _ r.added r.bytes r.part.0 wrote r.wrote (same_transcript shape all r.state tie first now r.stands ∙ r.transcript) r.part.1 in
    record {
      lines = all;
      entries = entries_of r.state;
      past = past_over shape.nodes all (entries_of r.state) (past_of shape all r.state tie first now r.stands);
      ended_last = inr (lines, line, refl, unended);
      read = rw (lo, le) read;
      wrote = rw (to_is, tn_is) front;
      draws = rw (words, words_now) r.stands.carried.kept.draws;
      tied = r.stands.carried.kept.tied;
    }

-- the run goes on behind a line
pub runs_on : (shape : Shape) (ls ln ln' to tn tn' : Option (List ℕ)) (w w' : List ℕ) (t t' : ℕ) (line : List ℕ) (s s' : Session) (tie tie' : List HistoryMark → Type 0) (first now next : Option (ℕ → ℕ))
    → IsRunning shape ls ln to tn w t s tie first now → TakesNext ln ln' w w' (Line line) → ReadsBytes ln ln' t t' → RunsLine shape line s s' tie tie' now next tn tn' IsAll → s'.lines ≡ s.lines + 1
    → command_of s.tags line ≢ Some command.End → IsRunning shape ls ln' to tn' w' t' s' tie' first next
runs_on shape ls ln ln' to tn tn' w w' t t' line s s' tie tie' first now next r next_line reads runs counted more =
    let done = runs r.lines r.state first r.keeps r.stands r.counted in
    let size = length-append r.lines (line ∷ []) in
    record {
      lines = r.lines ++ line ∷ [];
      state = done.state;
      keeps = done.keeps;
      stands = done.stands;
      counted = omega (arith, counted, size, r.counted, r.keeps.lines, done.keeps.lines);
      unended = none_more [] r.lines line r.unended (λ e. more (ap (λ (x : List Tag). command_of x line) (r.keeps.tags ∙ r.stands.carried.past.tags) ∙ e));
      read = read_line ls ln ln' w w' t t' r.lines line r.read next_line reads;
      wrote = wrote_more to tn tn' (transcript_so_far r.state) (transcript_so_far done.state) done.added done.bytes r.wrote done.wrote done.transcript done.part;
    }

-- the script ended with a line
pub ran_end : (shape : Shape) (ls ln ln' to tn tn' : Option (List ℕ)) (w w' : List ℕ) (t t' : ℕ) (line : List ℕ) (s s' : Session) (tie tie' : List HistoryMark → Type 0) (first now next : Option (ℕ → ℕ))
    → IsRunning shape ls ln to tn w t s tie first now → TakesNext ln ln' w w' (Line line) → ReadsBytes ln ln' t t' → t' ≤ 67108864 → RunsLine shape line s s' tie tie' now next tn tn' IsAll
    → command_of s.tags line ≡ Some command.End → RanLines shape ls ln' to tn' s' tie' first next ending.AtEndLine
ran_end shape ls ln ln' to tn tn' w w' t t' line s s' tie tie' first now next r next_line reads small runs ends =
    let done = runs r.lines r.state first r.keeps r.stands r.counted in
    let ends' : command_of (tags_after [] r.lines) line ≡ Some command.End = ap (λ (x : List Tag). command_of x line) (sym (r.keeps.tags ∙ r.stands.carried.past.tags)) ∙ ends in
    record {
      lines = r.lines ++ line ∷ [];
      state = done.state;
      keeps = done.keeps;
      stands = done.stands;
      ended_last = inr (r.lines, line, refl, r.unended);
      read = read_end ls ln' w' t' r.lines line (read_line ls ln ln' w w' t t' r.lines line r.read next_line reads) ends' small;
      wrote = wrote_more to tn tn' (transcript_so_far r.state) (transcript_so_far done.state) done.added done.bytes r.wrote done.wrote done.transcript done.part;
    }

-- the input ended with a line
pub ran_last : (shape : Shape) (ls ln ln' to tn tn' : Option (List ℕ)) (w w' : List ℕ) (t t' : ℕ) (line : List ℕ) (s s' : Session) (tie tie' : List HistoryMark → Type 0) (first now next : Option (ℕ → ℕ))
    → IsRunning shape ls ln to tn w t s tie first now → TakesNext ln ln' w w' (Last line) → ReadsBytes ln ln' t t' → t' ≤ 67108864 → RunsLine shape line s s' tie tie' now next tn tn' IsAll
    → RanLines shape ls ln' to tn' s' tie' first next ending.AtEnd
ran_last shape ls ln ln' to tn tn' w w' t t' line s s' tie tie' first now next r next_line reads small runs =
    let done = runs r.lines r.state first r.keeps r.stands r.counted in
    record {
      lines = r.lines ++ line ∷ [];
      state = done.state;
      keeps = done.keeps;
      stands = done.stands;
      ended_last = inr (r.lines, line, refl, r.unended);
      read = read_last ls ln ln' w w' t t' r.lines line r.read next_line reads small;
      wrote = wrote_more to tn tn' (transcript_so_far r.state) (transcript_so_far done.state) done.added done.bytes r.wrote done.wrote done.transcript done.part;
    }

-- the limit was passed
pub ran_limit : (shape : Shape) (ls ln ln' to tn : Option (List ℕ)) (w w' : List ℕ) (t t' : ℕ) (s : Session) (tie : List HistoryMark → Type 0) (first now : Option (ℕ → ℕ))
    → IsRunning shape ls ln to tn w t s tie first now → TakesNext ln ln' w w' Limit → ReadsBytes ln ln' t t' → t' ≡ 67108865 → RanLines shape ls ln' to tn s tie first now ending.PastLimit
ran_limit shape ls ln ln' to tn w w' t t' s tie first now r next_line reads large =
    record { lines = r.lines; state = r.state; keeps = r.keeps; stands = r.stands; ended_last = inl r.unended; read = read_limit ls ln ln' w w' t t' r.lines r.read next_line reads large; wrote = r.wrote }
