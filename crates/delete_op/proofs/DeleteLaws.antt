-- A delete goes on by one call.
use Rattle.std.proofs.Common.{◌≡◌, ℕ, ◌+◌, ◌==◌, Bool, true, false, ◌&&◌, cond, List, [], ◌∷◌, ◌++◌, length, Some, refl, sym, ap, ◌∙◌, subst, arith}
use Rattle.blob_id.specs.declared.id.BlobId.{BlobId}
use Rattle.quorum_op.specs.declared.cause.Cause.{Cause}
use Rattle.quorum_op.specs.declared.cause.Verdict.{Verdict}
use Rattle.quorum_op.specs.declared.outcome.Outcome.{Outcome}
use Rattle.quorum_op.specs.Tally.{failed_replicas, is_pending, verdict}
use Rattle.world_model.proofs.CellLaws.{same_id_self}
use Rattle.operation.specs.declared.sending.Errand.{Errand}
use Rattle.operation.specs.declared.sending.Sending.{Sending}
use Rattle.operation.specs.declared.stage.Stage.{Stage}
use Rattle.operation.specs.Calls.{Call, Cancelled, Polled, Starved, is_done, sent_all, sent_in}
use Rattle.operation.specs.Each.{HasReached, to_each, was_reached}
use Rattle.operation.specs.Pieces.{IsPieceOf, PieceView, Target}
use Rattle.operation.specs.Stages.{IsSingle, Stays}
use Rattle.operation.specs.Wants.{HasSent, asks_all, next_request, part_of, sends_along, upto}
use Rattle.operation.proofs.EachLaws.{Reaches, along_each, along_none, each_within, silent_reached}
use Rattle.operation.proofs.PieceLaws.{piece_still}
use Rattle.operation.proofs.StageLaws.{IsFirst, is_plain, sent_on, single_stays, stage_cancelled, stage_given, stage_on, stage_over, stage_starved}
use Rattle.delete_op.specs.Deletes.{DeleteTask, delete_decides, delete_outcome, delete_plan, delete_target, delete_wants, removal}
use Rattle.delete_op.specs.Standing.{IsDelete, deletes}

first : (task : DeleteTask) → IsFirst (delete_plan task) (delete_decides task)
first task calls = refl

removal_late : (id : BlobId) (v : Verdict) (failed : List (ℕ × Cause)) (o : Outcome) → removal id v failed ≡ Some o → is_pending v ≡ false
removal_late id Verdict.Pending failed o h = absurd cc
removal_late id _ failed o h = refl

single : (task : DeleteTask) → IsSingle (delete_target task) (delete_decides task) (λ notes blob. removal task.id (verdict (delete_target task).kind task.replicas task.need notes) (failed_replicas task.replicas notes))
single task = record {
  reads = λ calls. refl;
  late = λ notes blob o h. removal_late task.id (verdict (delete_target task).kind task.replicas task.need notes) (failed_replicas task.replicas notes) o h;
}

stays : (task : DeleteTask) (call : Call) (calls : List Call) → Stays (delete_decides task) call calls
stays task call calls = single_stays (delete_target task) (delete_decides task) (λ notes blob. removal task.id (verdict (delete_target task).kind task.replicas task.need notes) (failed_replicas task.replicas notes)) (single task) call calls

-- a reply or a failure
pub goes_by : (task : DeleteTask) (view view' : PieceView) (next : ℕ) (asked : Bool) (stage : Stage) (call : Call) (calls : List Call) → is_plain call ≡ true → sent_in (call ∷ calls) ≡ sent_in calls → view'.errand ≡ view.errand
    → IsPieceOf (delete_target task) view' (call ∷ calls) → IsDelete task view next asked stage calls → IsDelete task view' next asked stage (call ∷ calls)
goes_by task view view' next asked stage call calls plain sent same piece h = record {
  errand = same ∙ h.errand;
  piece = piece;
  numbers = h.numbers ∙ ap (λ (l : List Sending). length l + 1) (sym sent);
  reached = silent_reached (deletes (delete_target task)) task.replicas asked call calls sent h.reached;
  at = stage_on (delete_plan task) (delete_decides task) stage call calls (first task) plain (stays task call calls) h.at;
}

pub cancelled : (task : DeleteTask) (view : PieceView) (next : ℕ) (asked : Bool) (stage : Stage) (calls : List Call) → is_done (delete_outcome task calls) ≡ false → IsDelete task view next asked stage calls
    → IsDelete task view next asked Stage.Cancelled (Cancelled ∷ calls)
cancelled task view next asked stage calls open' h = record {
  errand = h.errand;
  piece = piece_still (delete_target task) view Cancelled calls refl h.piece;
  numbers = h.numbers;
  reached = silent_reached (deletes (delete_target task)) task.replicas asked Cancelled calls refl h.reached;
  at = stage_cancelled (delete_plan task) (delete_decides task) stage calls (first task) open' h.at;
}

pub cancelled_late : (task : DeleteTask) (view : PieceView) (next : ℕ) (asked : Bool) (stage : Stage) (calls : List Call) → is_done (delete_outcome task calls) ≡ true → IsDelete task view next asked stage calls
    → IsDelete task view next asked stage (Cancelled ∷ calls)
cancelled_late task view next asked stage calls done h = record {
  errand = h.errand;
  piece = piece_still (delete_target task) view Cancelled calls refl h.piece;
  numbers = h.numbers;
  reached = silent_reached (deletes (delete_target task)) task.replicas asked Cancelled calls refl h.reached;
  at = stage_over (delete_plan task) (delete_decides task) stage calls (first task) done (stays task Cancelled calls) h.at;
}

pub starved : (task : DeleteTask) (view : PieceView) (next : ℕ) (asked : Bool) (stage : Stage) (calls : List Call) → is_done (delete_outcome task calls) ≡ false → IsDelete task view next asked stage calls
    → IsDelete task view next asked Stage.Starved (Starved ∷ calls)
starved task view next asked stage calls open' h = record {
  errand = h.errand;
  piece = piece_still (delete_target task) view Starved calls refl h.piece;
  numbers = h.numbers;
  reached = silent_reached (deletes (delete_target task)) task.replicas asked Starved calls refl h.reached;
  at = stage_starved (delete_plan task) (delete_decides task) stage calls (first task) open' h.at;
}

pub polled : (task : DeleteTask) (view : PieceView) (next : ℕ) (asked : Bool) (stage : Stage) (calls : List Call) → is_done (delete_outcome task calls) ≡ true → IsDelete task view next asked stage calls
    → IsDelete task view next asked Stage.Given (Polled ∷ calls)
polled task view next asked stage calls done h = record {
  errand = h.errand;
  piece = piece_still (delete_target task) view Polled calls refl h.piece;
  numbers = h.numbers;
  reached = silent_reached (deletes (delete_target task)) task.replicas asked Polled calls refl h.reached;
  at = stage_given (delete_plan task) (delete_decides task) calls (first task) done;
}

-- what it asks for

deletes_one : (task : DeleteTask) → Reaches (deletes (delete_target task)) (part_of (delete_target task)) (Errand.Delete task.id task.at)
deletes_one task request replica other = ap (λ (b : Bool). b && (replica == other)) (same_id_self task.id)

abbrev pub parts : DeleteTask → List Call → List Sending
parts task calls = sends_along (asks_all (delete_target task)) (part_of (delete_target task)) (Errand.Delete task.id task.at) calls (upto task.replicas)

cond_nothing : (b : Bool) (l : List Sending) → l ≡ [] → cond b [] l ≡ []
cond_nothing true l h = refl
cond_nothing false l h = h

-- where each was asked, or it is over, nothing is wanted
pub wants_no_more : (task : DeleteTask) (view : PieceView) (next : ℕ) (asked : Bool) (stage : Stage) (calls : List Call) (order : List ℕ) → asked ≡ true → IsDelete task view next asked stage calls → delete_wants task calls order ≡ []
wants_no_more task view next asked stage calls order e h =
    cond_nothing (is_done (delete_outcome task calls)) (parts task calls)
    (along_none (deletes (delete_target task)) (part_of (delete_target task)) (Errand.Delete task.id task.at) task.replicas calls
    (subst (λ (b : Bool). HasReached (deletes (delete_target task)) task.replicas b calls) e h.reached) (upto task.replicas))

-- where nobody was asked, each replica is
pub wants_each : (task : DeleteTask) (calls : List Call) (order : List ℕ) → is_done (delete_outcome task calls) ≡ false → delete_wants task calls order ≡ parts task calls
wants_each task calls order open' = ap (λ (b : Bool). cond b [] (parts task calls)) open'

-- what the piece sent is what is wanted
pub asked_each : (task : DeleteTask) (view view' : PieceView) (next next' : ℕ) (asked : Bool) (stage : Stage) (calls : List Call) (order : List ℕ) (out out' : List Sending) → asked ≡ false → is_done (delete_outcome task calls) ≡ false
    → view'.errand ≡ view.errand → HasSent (IsPieceOf (delete_target task) view') (parts task calls) calls out out' next' → IsDelete task view next asked stage calls
    → (out' ≡ out ++ delete_wants task calls order) × IsDelete task view' next' true stage (sent_all (delete_wants task calls order) calls)
asked_each task view view' next next' asked stage calls order out out' fresh open' same sent h =
    let t : Target = delete_target task in
    let wanted : delete_wants task calls order ≡ parts task calls = wants_each task calls order open' in
    let none : (replica : ℕ) → was_reached (deletes t) calls replica ≡ false = subst (λ (b : Bool). HasReached (deletes t) task.replicas b calls) fresh h.reached in
    let each : parts task calls ≡ to_each (part_of t) (Errand.Delete task.id task.at) (next_request calls) task.replicas =
    along_each (deletes t) (part_of t) (Errand.Delete task.id task.at) (deletes_one task) task.replicas calls none task.replicas (omega arith) in (
      sent.out ∙ ap (λ (l : List Sending). out ++ l) (sym wanted),
      subst (λ (added : List Sending). IsDelete task view' next' true stage (sent_all added calls)) (sym wanted) (record {
        errand = same ∙ h.errand;
        piece = sent.knows;
        numbers = sent.numbers;
        reached = λ replica l. ap (λ (added : List Sending). was_reached (deletes t) (sent_all added calls) replica) each
            ∙ each_within (deletes t) (part_of t) (Errand.Delete task.id task.at) (deletes_one task) (next_request calls) task.replicas calls replica l;
        at = sent_on (delete_plan task) (delete_decides task) stage (parts task calls) calls (first task) (stays task) h.at;
      }),
    )

pub wants_nothing : (task : DeleteTask) (calls : List Call) (order : List ℕ) → is_done (delete_outcome task calls) ≡ true → delete_wants task calls order ≡ []
wants_nothing task calls order done = ap (λ (b : Bool). cond b [] (parts task calls)) done
