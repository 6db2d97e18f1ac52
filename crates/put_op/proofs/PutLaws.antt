-- A put goes on by one call.
use Rattle.std.proofs.Common.{◌≡◌, ℕ, ◌+◌, true, false, List, ◌∷◌, length, Option, Some, None, refl, sym, ap, ◌∙◌}
use Rattle.blob_id.specs.declared.id.BlobId.{BlobId}
use Rattle.quorum_op.specs.declared.cause.Cause.{Cause}
use Rattle.quorum_op.specs.declared.cause.Verdict.{Verdict}
use Rattle.quorum_op.specs.declared.outcome.Outcome.{Outcome}
use Rattle.quorum_op.specs.Counts.{or_else}
use Rattle.quorum_op.specs.Tally.{Note, failed_replicas, is_pending, verdict}
use Rattle.operation.specs.declared.sending.Sending.{Sending}
use Rattle.operation.specs.declared.stage.Stage.{Stage}
use Rattle.operation.specs.Calls.{Call, Cancelled, Drew, Polled, Starved, is_done, sent_in}
use Rattle.operation.specs.Pieces.{IsPieceOf, PieceView, Target, failed_at, notes_at, verdict_at}
use Rattle.operation.specs.Stages.{StandsAt, Stays}
use Rattle.operation.proofs.EachLaws.{silent_reached}
use Rattle.operation.proofs.PieceLaws.{piece_still}
use Rattle.operation.proofs.StageLaws.{IsFirst, is_plain, notes_stay, stage_cancelled, stage_given, stage_on, stage_over, stage_starved, starved_over}
use Rattle.put_op.specs.Puts.{Draw, PutTask, drawn_in, put_decides, put_outcome, put_plan, put_target, storing, storing_of}
use Rattle.put_op.specs.Standing.{IsCourse, IsDrawn, IsPut, KnowsDrawn, course_of, draw_in, removes, stores}
use Rattle.put_op.specs.declared.drawn.Course.{Course}
use Rattle.put_op.specs.declared.drawn.Drawn.{Drawn}

-- what was drawn first stays so
or_some : (a b : Option Draw) (d : Draw) → a ≡ Some d → or_else a b ≡ Some d
or_some a b d h = ap (λ (x : Option Draw). or_else x b) h

pub drawn_stays : (task : PutTask) (call : Call) (calls : List Call) (d : Draw) → drawn_in task calls ≡ Some d → drawn_in task (call ∷ calls) ≡ Some d
drawn_stays task (Drew id body) calls d h = or_some (drawn_in task calls) _ d h
drawn_stays task _ calls d h = h

storing_late : (id : BlobId) (v : Verdict) (failed : List (ℕ × Cause)) (o : Outcome) → storing id v failed ≡ Some o → is_pending v ≡ false
storing_late id Verdict.Pending failed o h = absurd cc
storing_late id _ failed o h = refl

-- what was decided stays decided
pub stays : (task : PutTask) (call : Call) (calls : List Call) → Stays (put_decides task) call calls
stays task call calls o h = go (drawn_in task calls) refl h
  where
    go : (d : Option Draw) → drawn_in task calls ≡ d → storing_of task calls d ≡ Some o → put_decides task (call ∷ calls) ≡ Some o
    go None e h = absurd cc
    go (Some d) e h =
        let t : Target = put_target task d.id in
        let notes : notes_at t (call ∷ calls) ≡ notes_at t calls = notes_stay t call calls (storing_late d.id (verdict_at t calls) (failed_at t calls) o h) in
        ap (λ (x : Option Draw). storing_of task (call ∷ calls) x) (drawn_stays task call calls d e)
        ∙ (ap (λ (ns : List Note). storing d.id (verdict t.kind t.replicas t.need ns) (failed_replicas t.replicas ns)) notes ∙ h)

pub first : (task : PutTask) → IsFirst (put_plan task) (put_decides task)
first task calls = refl

-- how far it was stays so
or_same : (o more : Option Outcome) → is_done o ≡ true → or_else o more ≡ o
or_same None more d = absurd cc
or_same (Some x) more d = refl

pub course_on : (task : PutTask) (stage : Stage) (course : Course) (call : Call) (calls : List Call) → StandsAt (put_plan task) (put_decides task) stage calls → IsCourse stage course (put_outcome task calls) → IsCourse stage course (put_outcome task (call ∷ calls))
course_on task Stage.Given course call calls at h = ap (λ (o : Option Outcome). course_of o) (or_same (put_outcome task calls) _ at.outcome) ∙ h
course_on task _ course call calls at h = h

-- calls that neither send nor draw

abbrev pub with_piece : Drawn → PieceView → Drawn
with_piece drawn view = record { id = drawn.id; piece = view; asked = drawn.asked; given_up = drawn.given_up }

-- a call that its piece took
pub heard_drawn : (task : PutTask) (drawn : Drawn) (view : PieceView) (call : Call) (calls : List Call) → sent_in (call ∷ calls) ≡ sent_in calls → view.errand ≡ drawn.piece.errand
    → IsPieceOf (put_target task drawn.id) view (call ∷ calls) → IsDrawn task drawn calls → IsDrawn task (with_piece drawn view) (call ∷ calls)
heard_drawn task drawn view call calls sent same piece h = record {
  errand = same ∙ h.errand;
  piece = piece;
  stored = silent_reached (stores (put_target task drawn.id)) task.replicas drawn.asked call calls sent h.stored;
  removed = silent_reached (removes drawn.id) task.replicas drawn.given_up call calls sent h.removed;
}

pub goes_by : (task : PutTask) (drawn drawn' : Option Drawn) (body : List ℕ) (next : ℕ) (stage : Stage) (course : Course) (call : Call) (calls : List Call) → is_plain call ≡ true → sent_in (call ∷ calls) ≡ sent_in calls
    → drawn_in task (call ∷ calls) ≡ drawn_in task calls → draw_in drawn' body ≡ draw_in drawn body → KnowsDrawn task drawn' (call ∷ calls)
    → IsPut task drawn body next stage course calls → IsPut task drawn' body next stage course (call ∷ calls)
goes_by task drawn drawn' body next stage course call calls plain sent draws drew knows h = record {
  draws = draws ∙ (h.draws ∙ sym drew);
  knows = knows;
  numbers = h.numbers ∙ ap (λ (l : List Sending). length l + 1) (sym sent);
  at = stage_on (put_plan task) (put_decides task) stage call calls (first task) plain (stays task call calls) h.at;
  ended = course_on task stage course call calls h.at h.ended;
}

drawn_silent : (task : PutTask) (drawn : Drawn) (call : Call) (calls : List Call) → sent_in (call ∷ calls) ≡ sent_in calls → IsPieceOf (put_target task drawn.id) drawn.piece (call ∷ calls)
    → IsDrawn task drawn calls → IsDrawn task drawn (call ∷ calls)
drawn_silent task drawn call calls sent piece h = record {
  errand = h.errand;
  piece = piece;
  stored = silent_reached (stores (put_target task drawn.id)) task.replicas drawn.asked call calls sent h.stored;
  removed = silent_reached (removes drawn.id) task.replicas drawn.given_up call calls sent h.removed;
}

knows_cancelled : (task : PutTask) (drawn : Option Drawn) (calls : List Call) → KnowsDrawn task drawn calls → KnowsDrawn task drawn (Cancelled ∷ calls)
knows_cancelled task None calls h = h
knows_cancelled task (Some d) calls h = drawn_silent task d Cancelled calls refl (piece_still (put_target task d.id) d.piece Cancelled calls refl h.piece) h

knows_starved : (task : PutTask) (drawn : Option Drawn) (calls : List Call) → KnowsDrawn task drawn calls → KnowsDrawn task drawn (Starved ∷ calls)
knows_starved task None calls h = h
knows_starved task (Some d) calls h = drawn_silent task d Starved calls refl (piece_still (put_target task d.id) d.piece Starved calls refl h.piece) h

knows_polled : (task : PutTask) (drawn : Option Drawn) (calls : List Call) → KnowsDrawn task drawn calls → KnowsDrawn task drawn (Polled ∷ calls)
knows_polled task None calls h = h
knows_polled task (Some d) calls h = drawn_silent task d Polled calls refl (piece_still (put_target task d.id) d.piece Polled calls refl h.piece) h

pub cancelled : (task : PutTask) (drawn : Option Drawn) (body : List ℕ) (next : ℕ) (stage : Stage) (course : Course) (calls : List Call) → is_done (put_outcome task calls) ≡ false
    → IsPut task drawn body next stage course calls → IsPut task drawn body next Stage.Cancelled course (Cancelled ∷ calls)
cancelled task drawn body next stage course calls open' h = record {
  draws = h.draws;
  knows = knows_cancelled task drawn calls h.knows;
  numbers = h.numbers;
  at = stage_cancelled (put_plan task) (put_decides task) stage calls (first task) open' h.at;
  ended = tt;
}

pub cancelled_late : (task : PutTask) (drawn : Option Drawn) (body : List ℕ) (next : ℕ) (stage : Stage) (course : Course) (calls : List Call) → is_done (put_outcome task calls) ≡ true
    → IsPut task drawn body next stage course calls → IsPut task drawn body next stage course (Cancelled ∷ calls)
cancelled_late task drawn body next stage course calls done h = record {
  draws = h.draws;
  knows = knows_cancelled task drawn calls h.knows;
  numbers = h.numbers;
  at = stage_over (put_plan task) (put_decides task) stage calls (first task) done (stays task Cancelled calls) h.at;
  ended = course_on task stage course Cancelled calls h.at h.ended;
}

pub starved : (task : PutTask) (drawn : Option Drawn) (body : List ℕ) (next : ℕ) (stage : Stage) (course : Course) (calls : List Call) → is_done (put_outcome task calls) ≡ false
    → IsPut task drawn body next stage course calls → IsPut task drawn body next Stage.Starved course (Starved ∷ calls)
starved task drawn body next stage course calls open' h = record {
  draws = h.draws;
  knows = knows_starved task drawn calls h.knows;
  numbers = h.numbers;
  at = stage_starved (put_plan task) (put_decides task) stage calls (first task) open' h.at;
  ended = tt;
}

pub starved_late : (task : PutTask) (drawn : Option Drawn) (body : List ℕ) (next : ℕ) (stage : Stage) (course : Course) (calls : List Call) → is_done (put_outcome task calls) ≡ true
    → IsPut task drawn body next stage course calls → IsPut task drawn body next stage course (Starved ∷ calls)
starved_late task drawn body next stage course calls done h = record {
  draws = h.draws;
  knows = knows_starved task drawn calls h.knows;
  numbers = h.numbers;
  at = starved_over (put_plan task) (put_decides task) stage calls (first task) done (stays task Starved calls) h.at;
  ended = course_on task stage course Starved calls h.at h.ended;
}

pub polled : (task : PutTask) (drawn : Option Drawn) (body : List ℕ) (next : ℕ) (stage : Stage) (course course' : Course) (calls : List Call) → is_done (put_outcome task calls) ≡ true → course_of (put_outcome task calls) ≡ course'
    → IsPut task drawn body next stage course calls → IsPut task drawn body next Stage.Given course' (Polled ∷ calls)
polled task drawn body next stage course course' calls done was h = record {
  draws = h.draws;
  knows = knows_polled task drawn calls h.knows;
  numbers = h.numbers;
  at = stage_given (put_plan task) (put_decides task) calls (first task) done;
  ended = ap (λ (o : Option Outcome). course_of o) (or_same (put_outcome task calls) _ done) ∙ was;
}
