-- A get goes on by one call.
use Rattle.std.proofs.Common.{◌≡◌, ℕ, Bool, false, cond, List, [], ◌++◌, Option, Some, None, refl, sym, ap, ◌∙◌, subst}
use Rattle.blob_id.specs.declared.blob.Blob.{Blob}
use Rattle.blob_id.specs.declared.id.BlobId.{BlobId}
use Rattle.quorum_op.specs.declared.cause.Cause.{Cause}
use Rattle.quorum_op.specs.declared.cause.TallyKind.{TallyKind}
use Rattle.quorum_op.specs.declared.cause.Verdict.{Verdict}
use Rattle.quorum_op.specs.declared.outcome.Outcome.{Outcome}
use Rattle.quorum_op.specs.Tally.{Note, failed_replicas, is_pending, verdict}
use Rattle.operation.specs.declared.sending.Errand.{Errand}
use Rattle.operation.specs.declared.sending.Sending.{Sending}
use Rattle.operation.specs.declared.stage.Stage.{Stage}
use Rattle.operation.specs.Calls.{Call, is_done, sent_all}
use Rattle.operation.specs.Pieces.{IsPieceOf, PieceView}
use Rattle.operation.specs.Stages.{IsSingle, Stays}
use Rattle.operation.specs.Wants.{HasSent, asks_next, part_of, sends_along}
use Rattle.operation.proofs.StageLaws.{IsFirst, pending_stage, single_sent, single_stays}
use Rattle.get_op.specs.Gets.{GetStands, GetTask, bytes_of, get_decides, get_outcome, get_plan, get_target, get_wants, read_outcome}

read_late : (id : BlobId) (v : Verdict) (blob : Option Blob) (failed : List (ℕ × Cause)) (outcome : Outcome) → read_outcome id v blob failed ≡ Some outcome → is_pending v ≡ false
read_late id Verdict.Pending blob failed outcome h = absurd cc
read_late id Verdict.Ok blob failed outcome h = refl
read_late id Verdict.Gone blob failed outcome h = refl
read_late id Verdict.NotFound blob failed outcome h = refl
read_late id Verdict.Unavailable blob failed outcome h = refl

abbrev read_by : GetTask → List Note → Option Blob → Option Outcome
read_by task notes blob = read_outcome task.id (verdict TallyKind.Get task.replicas task.need notes) blob (failed_replicas task.replicas notes)

pub get_single : (task : GetTask) → IsSingle (get_target task) (get_decides task) (read_by task)
get_single task = record {
  reads = λ calls. refl;
  late = λ notes blob outcome h. read_late task.id (verdict TallyKind.Get task.replicas task.need notes) blob (failed_replicas task.replicas notes) outcome h;
}

pub get_first : (task : GetTask) → IsFirst (get_plan task) (get_decides task)
get_first task = λ calls. refl

-- what a get decided stays
pub get_stays : (task : GetTask) (call : Call) (calls : List Call) → Stays (get_decides task) call calls
get_stays task call calls = single_stays (get_target task) (get_decides task) (read_by task) (get_single task) call calls

-- what a pending get wants
pub pending_wants : (task : GetTask) (calls : List Call) (order : List ℕ) → is_done (get_outcome task calls) ≡ false
    → get_wants task calls order ≡ sends_along (asks_next (get_target task)) (part_of (get_target task)) (Errand.Get task.id) calls order
pending_wants task calls order e = ap (λ (b : Bool). cond b [] (sends_along (asks_next (get_target task)) (part_of (get_target task)) (Errand.Get task.id) calls order)) e

-- what the piece sent is what is wanted, and the get knows it
pub asks_along : (task : GetTask) (piece piece' : PieceView) (next next' : ℕ) (stage : Stage) (order : List ℕ) (calls : List Call) (out out' : List Sending) → GetStands task piece next stage calls → is_done (get_outcome task calls) ≡ false
    → piece'.errand ≡ piece.errand
    → (IsPieceOf (get_target task) piece calls → HasSent (IsPieceOf (get_target task) piece') (sends_along (asks_next (get_target task)) (part_of (get_target task)) piece.errand calls order) calls out out' next')
    → (out' ≡ out ++ get_wants task calls order) × GetStands task piece' next' stage (sent_all (get_wants task calls order) calls)
asks_along task piece piece' next next' stage order calls out out' h open' same sent =
    let owns : IsPieceOf (get_target task) piece calls = h.piece (pending_stage (get_plan task) (get_decides task) stage calls open' h.at) in
    let wants : sends_along (asks_next (get_target task)) (part_of (get_target task)) piece.errand calls order ≡ get_wants task calls order =
    ap (λ (e : Errand). sends_along (asks_next (get_target task)) (part_of (get_target task)) e calls order) h.asks ∙ sym (pending_wants task calls order open') in
    let has : HasSent (IsPieceOf (get_target task) piece') (get_wants task calls order) calls out out' next' =
    subst (λ (l : List Sending). HasSent (IsPieceOf (get_target task) piece') l calls out out' next') wants (sent owns) in
    (has.out, single_sent (get_plan task) (get_decides task) (get_target task) (Errand.Get task.id) piece piece' next next' stage (get_wants task calls order) calls (get_first task) (get_stays task) same has.knows has.numbers h)

pub bytes_none : (blob : Option Blob) → bytes_of blob ≡ None → blob ≡ None
bytes_none None h = refl
bytes_none (Some blob) h = absurd cc
