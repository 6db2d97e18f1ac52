-- How a run begins and ends.
use Rattle.std.proofs.Common.{◌≡◌, ◌⊎◌, ◌<◌, inl, inr, ℕ, length, List, [], ◌++◌, Bool, true, false, Option, None, Some, refl, sym, ap, subst, ◌∙◌, append_assoc, arith, drop, flat_map}
use Rattle.std.proofs.lemmas.List.{append-nil, take-append-drop}
use Rattle.std.specs.Io.KnownBytes.{Appends}
use Rattle.quorum_op.specs.declared.outcome.Outcome.{Outcome}
use Rattle.world_model.specs.declared.history.HistoryMark.{HistoryMark}
use Rattle.world_model.specs.declared.shape.Shape.{Shape}
use Rattle.front_end.specs.declared.session.Session.{Session}
use Rattle.front_end.specs.declared.run.Ending.{Ending}
use Rattle.front_end.specs.declared.tags.Tag.{Tag}
use Rattle.front_end.specs.Script.{tags_after}
use Rattle.front_end.specs.Past.{EndsWhileWaiting}
use Rattle.front_end.specs.Transcript.{transcript_of}
use Rattle.front_end.specs.Session.{Keeps, State, StandsAt, HasCarriedOut, entries_of, transcript_so_far, live_numbers, finished_by, nothing_yet}
use Rattle.front_end.specs.Run.{Read, Wrote, IsFront, AreRead, HasEnded, HasFinished, HasStopped, WasCutOff, Outside, status_of}
use Rattle.front_end.specs.declared.run.Ending.TheVariants as ending
use Rattle.front_end.specs.Lines.{ended}
use Rattle.front_end.specs.Running.{Closes, ReadSoFar, IsRunning, RanLines, IsAll, IsSome}
use Rattle.front_end.proofs.CarryLemmas.{finish_kept, finish_adds, finish_idle, finish_in_time}
use Rattle.front_end.proofs.LineStepLemmas.{FinishesState, finishes_state}
use Rattle.front_end.proofs.RunLemmas.{past_of, same_transcript, wrote_more, wrote_front, read_map}

-- nothing was carried out
pub new_stands : (shape : Shape) (tie : List HistoryMark → Type 0) (first : Option (ℕ → ℕ)) → tie [] → StandsAt shape [] nothing_yet tie first first
new_stands shape tie first tied = record {
  carried = record {
    past = record { tags = refl; follows = refl; later = tt; front = refl; waits = tt; ordered = tt; open_operations = refl; undrawn = refl; count = refl; numbered = tt };
    kept = record { draws = refl; tied = tied };
    bad = refl;
  };
  waited = tt;
  in_time = tt;
}

new_read : (ls : Option (List ℕ)) → ReadSoFar ls ls [] 0 []
new_read None = tt
new_read (Some o) = (record { raw = []; whole = refl; each = tt; same = refl }, ([], refl, refl))

new_wrote : (to : Option (List ℕ)) → Wrote to to (λ wrote. wrote ≡ [])
new_wrote None = tt
new_wrote (Some t) = ([], sym (append-nil t), refl)

-- a run begins
pub new_running : (shape : Shape) (ls to : Option (List ℕ)) (s : Session) (tie : List HistoryMark → Type 0) (first : Option (ℕ → ℕ)) → Keeps s nothing_yet → tie [] → IsRunning shape ls ls to to [] 0 s tie first first
new_running shape ls to s tie first keeps tied =
    record { lines = []; state = nothing_yet; keeps = keeps; stands = new_stands shape tie first tied; counted = refl; unended = tt; read = new_read ls; wrote = new_wrote to }

-- the lines that were carried out are those that were read, however reading ended
were_whole : (lines : List (List ℕ)) (text left : List ℕ) → HasEnded ending.PastLimit lines text left → AreRead lines text
were_whole lines text left h = (
  omega (arith, h.1),
  inl (
    h.0.0 ++ drop 67108864 text,
    record {
      raw = h.0.1.raw;
      whole = sym (take-append-drop 67108864 text) ∙ ap (λ (x : List ℕ). x ++ drop 67108864 text) h.0.1.whole ∙ append_assoc (flat_map ended h.0.1.raw) h.0.0 (drop 67108864 text);
      each = h.0.1.each;
      same = h.0.1.same;
    },
  ),
)

front_is_read : (lines : List (List ℕ)) (e : Ending) (text left : List ℕ) → HasEnded e lines text left → AreRead lines text
front_is_read lines ending.AtEnd text left h = (omega (arith, h.2), inr h.0)
front_is_read lines ending.AtEndLine text left h = (omega (arith, h.1), inl h.0.4)
front_is_read lines ending.PastLimit text left h = were_whole lines text left h

-- what stands when the last operation has its end
record Closing (shape : Shape) (lines : List (List ℕ)) (f : State) (tie : List HistoryMark → Type 0) (first now : Option (ℕ → ℕ)) (before ending : List ℕ) : Type 0 where
  carried : HasCarriedOut shape lines f tie first now
  in_time : EndsWhileWaiting true false (entries_of f)
  idle : f.busy ≡ false
  transcript : transcript_so_far f ≡ before ++ ending

closing : (shape : Shape) (lines : List (List ℕ)) (state : State) (new : Session) (tie tie' : List HistoryMark → Type 0) (first now : Option (ℕ → ℕ)) (o : Option Outcome) (out : List ℕ) → (state.busy ≡ true → 0 < length state.tags) → StandsAt shape lines state tie first now
    → FinishesState state new tie tie' o [] out → Closing shape lines (finished_by state o) tie' first now (transcript_so_far state) out
closing shape lines state new tie tie' first now o out some stands f =
    let adds = finish_adds state o [] in
    record {
      carried = finish_kept shape lines state tie tie' first now o state.busy refl f.ends some f.ties stands.carried;
      in_time = finish_in_time state o stands.in_time;
      idle = finish_idle state o state.busy refl f.ends;
      transcript = adds.2 ∙ ap (λ (x : List ℕ). transcript_so_far state ++ x) (sym adds.1 ∙ sym f.told);
    }

-- a run ends
pub run_finished : (shape : Shape) (ls ln to tn tn' : Option (List ℕ)) (s s' : Session) (tie tie' : List HistoryMark → Type 0) (first now : Option (ℕ → ℕ)) (e : Ending) (o : Outside)
    → o.left_old ≡ ls → o.left_new ≡ ln → o.taken_old ≡ to → o.taken_new ≡ tn' → o.words_old ≡ first → o.words_new ≡ now
    → RanLines shape ls ln to tn s tie first now e → Closes s s' tie tie' tn tn' IsAll → HasFinished shape tie' (status_of e s'.bad) o
run_finished shape ls ln to tn tn' s s' tie tie' first now e o lo le to_is tn_is words words_now r c =
    let fs = finishes_state s s' r.state tie tie' [] c.added c.finished r.keeps in
    let f = finished_by r.state c.finished.outcome in
    let cl = closing shape r.lines r.state s' tie tie' first now c.finished.outcome c.added r.keeps.some r.stands fs in
    let p = cl.carried in
    let same : transcript_of (tags_after [] r.lines) (entries_of f) ≡ transcript_so_far f = ap (λ (t : List Tag). transcript_of t (entries_of f)) (sym p.past.tags) in
    let wrote : Wrote to tn' (λ wrote. wrote ≡ transcript_of (tags_after [] r.lines) (entries_of f)) =
    subst (λ (x : List ℕ). Wrote to tn' (λ wrote. wrote ≡ x)) (sym same)
    (wrote_more to tn tn' (transcript_so_far r.state) (transcript_so_far f) c.added c.bytes r.wrote c.wrote cl.transcript c.part) in
    record {
      lines = r.lines;
      entries = entries_of f;
      ending = e;
      past = record { follows = p.past.follows; waits = p.past.waits; ordered = p.past.ordered; in_time = cl.in_time };
      ended_last = r.ended_last;
      all_ended = p.past.open_operations ∙ ap (λ (b : Bool). live_numbers b f.tags) cl.idle;
      status_is = ap (status_of e) (fs.keeps.bad ∙ p.bad);
      read = rw (lo, le) r.read;
      wrote = rw (to_is, tn_is) wrote;
      draws = rw (words, words_now) p.kept.draws;
      tied = p.kept.tied;
    }

-- a run is refused memory at its end
pub end_stopped : (shape : Shape) (ls ln to tn tn' : Option (List ℕ)) (s : Session) (tie : List HistoryMark → Type 0) (first now : Option (ℕ → ℕ)) (e : Ending) (o : Outside)
    → o.left_old ≡ ls → o.left_new ≡ ln → o.taken_old ≡ to → o.taken_new ≡ tn' → o.words_old ≡ first
    → RanLines shape ls ln to tn s tie first now e → Appends tn tn' [] → HasStopped shape tie o now
end_stopped shape ls ln to tn tn' s tie first now e o lo le to_is tn_is words r nothing =
    let read : Read ls ln (λ text left. AreRead r.lines text) = read_map ls ln (HasEnded e r.lines) (λ text left. AreRead r.lines text) (front_is_read r.lines e) r.read in
    let wrote : Wrote to tn' (λ wrote. wrote ≡ transcript_of (tags_after [] r.lines) (entries_of r.state)) =
    subst (λ (x : List ℕ). Wrote to tn' (λ wrote. wrote ≡ x)) (sym (same_transcript shape r.lines r.state tie first now r.stands))
    (wrote_more to tn tn' (transcript_so_far r.state) (transcript_so_far r.state) [] [] r.wrote nothing (sym (append-nil (transcript_so_far r.state))) refl) in
    record {
      lines = r.lines;
      entries = entries_of r.state;
      past = past_of shape r.lines r.state tie first now r.stands;
      ended_last = r.ended_last;
      read = rw (lo, le) read;
      wrote = rw (to_is, tn_is) wrote;
      draws = rw words r.stands.carried.kept.draws;
      tied = r.stands.carried.kept.tied;
    }

-- the output fails at the end of a run
pub end_cut : (shape : Shape) (ls ln to tn tn' : Option (List ℕ)) (s s' : Session) (tie tie' : List HistoryMark → Type 0) (first now : Option (ℕ → ℕ)) (e : Ending) (o : Outside)
    → o.left_old ≡ ls → o.left_new ≡ ln → o.taken_old ≡ to → o.taken_new ≡ tn' → o.words_old ≡ first → o.words_new ≡ now
    → RanLines shape ls ln to tn s tie first now e → Closes s s' tie tie' tn tn' IsSome → WasCutOff shape tie' o
end_cut shape ls ln to tn tn' s s' tie tie' first now e o lo le to_is tn_is words words_now r c =
    let fs = finishes_state s s' r.state tie tie' [] c.added c.finished r.keeps in
    let f = finished_by r.state c.finished.outcome in
    let cl = closing shape r.lines r.state s' tie tie' first now c.finished.outcome c.added r.keeps.some r.stands fs in
    let p = cl.carried in
    let same : transcript_of (tags_after [] r.lines) (entries_of f) ≡ transcript_so_far f = ap (λ (t : List Tag). transcript_of t (entries_of f)) (sym p.past.tags) in
    let read : Read ls ln (λ text left. AreRead r.lines text) = read_map ls ln (HasEnded e r.lines) (λ text left. AreRead r.lines text) (front_is_read r.lines e) r.read in
    let wrote : Wrote to tn' (IsFront (transcript_of (tags_after [] r.lines) (entries_of f))) =
    wrote_front to tn tn' (transcript_so_far r.state) _ c.added c.bytes c.part.0 r.wrote c.wrote (same ∙ cl.transcript) c.part.1 in
    record {
      lines = r.lines;
      entries = entries_of f;
      past = record { follows = p.past.follows; waits = p.past.waits; ordered = p.past.ordered; in_time = cl.in_time };
      ended_last = r.ended_last;
      read = rw (lo, le) read;
      wrote = rw (to_is, tn_is) wrote;
      draws = rw (words, words_now) p.kept.draws;
      tied = p.kept.tied;
    }

pub status_cases : (e : Ending) (bad : Bool) → (status_of e bad ≡ 0) ⊎ ((status_of e bad ≡ 2) ⊎ (status_of e bad ≡ 8))
status_cases ending.AtEnd true = inr (inl refl)
status_cases ending.AtEnd false = inl refl
status_cases ending.AtEndLine true = inr (inl refl)
status_cases ending.AtEndLine false = inl refl
status_cases ending.PastLimit bad = inr (inr refl)
