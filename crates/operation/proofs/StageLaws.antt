-- An operation's stage goes on by one call.
use Rattle.std.proofs.Common.{◌≡◌, inl, inr, ℕ, Bool, true, false, ◌||◌, cond, List, [], ◌∷◌, Option, Some, None, refl, sym, ap, ◌∙◌, subst}
use Rattle.blob_id.specs.declared.blob.Blob.{Blob}
use Rattle.cell_model.specs.declared.ask.Reply.{Reply}
use Rattle.quorum_op.specs.declared.cause.Cause.{Cause}
use Rattle.quorum_op.specs.declared.cause.TallyKind.{TallyKind}
use Rattle.quorum_op.specs.declared.outcome.Outcome.{Outcome}
use Rattle.quorum_op.specs.Counts.{or_else}
use Rattle.quorum_op.specs.Tally.{Note, is_pending, verdict}
use Rattle.world_model.specs.Notes.{failed}
use Rattle.operation.specs.declared.sending.Errand.{Errand}
use Rattle.operation.specs.declared.sending.Poll.{Poll}
use Rattle.operation.specs.declared.sending.Sending.{Sending}
use Rattle.operation.specs.declared.stage.Stage.{Stage}
use Rattle.operation.specs.Calls.{Call, Plan, Sent, Replied, Missed, Drew, Cancelled, Starved, Polled, answer, first_outcome, is_done, poll_of, sent_all, was_given}
use Rattle.operation.specs.Notes.{count_note, learnt_finding, note_by}
use Rattle.operation.specs.Pieces.{IsPieceOf, PieceView, Target, blob_at, brought_by, heard, noted_failure, noted_reply, notes_at, outstanding, verdict_at}
use Rattle.operation.specs.Stages.{ComesTo, IsOrMemory, IsSingle, StandsAt, StandsBy, Stays, is_given}
use Rattle.operation.specs.Wants.{next_request}
use Rattle.operation.proofs.PieceLaws.{or_none, piece_still}

-- the outcome of a plan is the first one that its calls come to
abbrev pub IsFirst : Plan → (List Call → Option Outcome) → Type 0
IsFirst plan decides = (calls : List Call) → plan.outcome calls ≡ first_outcome decides calls

done_stays : (a b : Option Outcome) → is_done a ≡ true → is_done (or_else a b) ≡ true
done_stays None b h = absurd cc
done_stays (Some o) b h = refl

pub none_of : (o : Option Outcome) → is_done o ≡ false → o ≡ None
none_of None h = refl
none_of (Some o) h = absurd cc

-- what a stage says goes on by a call that stops nothing
comes_on : (stage : Stage) (outcome decided decided' : Option Outcome) → ((o : Outcome) → decided ≡ Some o → decided' ≡ Some o) → ComesTo stage outcome decided → ComesTo stage (or_else outcome decided') decided'
comes_on Stage.Running outcome None decided' stays h = ap (λ (o : Option Outcome). or_else o decided') h
comes_on Stage.Running outcome (Some o) decided' stays h = ap (λ (x : Option Outcome). or_else x decided') h ∙ sym (stays o refl)
comes_on Stage.Cancelled outcome decided decided' stays h = ap (λ (o : Option Outcome). or_else o decided') h
comes_on Stage.Starved outcome decided decided' stays h = ap (λ (o : Option Outcome). or_else o decided') h
comes_on Stage.Given outcome decided decided' stays h = done_stays outcome decided' h

-- and where there is an outcome, by any call
comes_over : (stage : Stage) (outcome decided decided' more : Option Outcome) → is_done outcome ≡ true → ((o : Outcome) → decided ≡ Some o → decided' ≡ Some o) → ComesTo stage outcome decided → ComesTo stage (or_else outcome more) decided'
comes_over Stage.Running None decided decided' more d stays h = absurd cc
comes_over Stage.Running (Some o) decided decided' more d stays h = sym (stays o (sym h))
comes_over Stage.Cancelled outcome decided decided' more d stays h = ap (λ (o : Option Outcome). or_else o more) h
comes_over Stage.Starved outcome decided decided' more d stays h = ap (λ (o : Option Outcome). or_else o more) h
comes_over Stage.Given outcome decided decided' more d stays h = done_stays outcome more h

-- calls that end nothing from outside and give nothing
abbrev pub is_plain : Call → Bool
is_plain Cancelled = false
is_plain Starved = false
is_plain Polled = false
is_plain _ = true

to_first : (plan : Plan) (decides : List Call → Option Outcome) (stage : Stage) (calls : List Call) → IsFirst plan decides → StandsAt plan decides stage calls → ComesTo stage (first_outcome decides calls) (decides calls)
to_first plan decides stage calls first h = subst (λ (o : Option Outcome). ComesTo stage o (decides calls)) (first calls) h.outcome

first_plain : (decides : List Call → Option Outcome) (call : Call) (calls : List Call) → is_plain call ≡ true → first_outcome decides (call ∷ calls) ≡ or_else (first_outcome decides calls) (decides (call ∷ calls))
first_plain decides (Sent s) calls e = refl
first_plain decides (Replied request reply) calls e = refl
first_plain decides (Missed request cause) calls e = refl
first_plain decides (Drew id body) calls e = refl
first_plain decides Cancelled calls e = absurd cc
first_plain decides Starved calls e = absurd cc
first_plain decides Polled calls e = absurd cc

given_plain : (plan : Plan) (call : Call) (calls : List Call) → is_plain call ≡ true → was_given plan (call ∷ calls) ≡ was_given plan calls
given_plain plan (Sent s) calls e = refl
given_plain plan (Replied request reply) calls e = refl
given_plain plan (Missed request cause) calls e = refl
given_plain plan (Drew id body) calls e = refl
given_plain plan Cancelled calls e = absurd cc
given_plain plan Starved calls e = absurd cc
given_plain plan Polled calls e = absurd cc

-- a stage goes on by a call that ends nothing from outside
pub stage_on : (plan : Plan) (decides : List Call → Option Outcome) (stage : Stage) (call : Call) (calls : List Call) → IsFirst plan decides → is_plain call ≡ true → Stays decides call calls → StandsAt plan decides stage calls
    → StandsAt plan decides stage (call ∷ calls)
stage_on plan decides stage call calls first plain stays h = record {
  outcome = subst (λ (o : Option Outcome). ComesTo stage o (decides (call ∷ calls))) (sym (first (call ∷ calls) ∙ first_plain decides call calls plain))
      (comes_on stage (first_outcome decides calls) (decides calls) (decides (call ∷ calls)) stays (to_first plan decides stage calls first h));
  given = given_plain plan call calls plain ∙ h.given;
}

-- a cancel of what has an outcome changes nothing
pub stage_over : (plan : Plan) (decides : List Call → Option Outcome) (stage : Stage) (calls : List Call) → IsFirst plan decides → is_done (plan.outcome calls) ≡ true → Stays decides Cancelled calls → StandsAt plan decides stage calls
    → StandsAt plan decides stage (Cancelled ∷ calls)
stage_over plan decides stage calls first done stays h = record {
  outcome = subst (λ (o : Option Outcome). ComesTo stage o (decides (Cancelled ∷ calls))) (sym (first (Cancelled ∷ calls)))
      (comes_over stage (first_outcome decides calls) (decides calls) (decides (Cancelled ∷ calls)) (Some Outcome.Cancelled) (ap (λ (o : Option Outcome). is_done o) (sym (first calls)) ∙ done) stays (to_first plan decides stage calls first h));
  given = h.given;
}

-- and so does want of memory
pub starved_over : (plan : Plan) (decides : List Call → Option Outcome) (stage : Stage) (calls : List Call) → IsFirst plan decides → is_done (plan.outcome calls) ≡ true → Stays decides Starved calls → StandsAt plan decides stage calls
    → StandsAt plan decides stage (Starved ∷ calls)
starved_over plan decides stage calls first done stays h = record {
  outcome = subst (λ (o : Option Outcome). ComesTo stage o (decides (Starved ∷ calls))) (sym (first (Starved ∷ calls)))
      (comes_over stage (first_outcome decides calls) (decides calls) (decides (Starved ∷ calls)) (Some Outcome.Memory) (ap (λ (o : Option Outcome). is_done o) (sym (first calls)) ∙ done) stays (to_first plan decides stage calls first h));
  given = h.given;
}

-- what has no outcome was not given
pub pending_stage : (plan : Plan) (decides : List Call → Option Outcome) (stage : Stage) (calls : List Call) → is_done (plan.outcome calls) ≡ false → StandsAt plan decides stage calls → is_given stage ≡ false
pending_stage plan decides Stage.Running calls e h = refl
pending_stage plan decides Stage.Cancelled calls e h = refl
pending_stage plan decides Stage.Starved calls e h = refl
pending_stage plan decides Stage.Given calls e h = absurd (let d : true ≡ false = sym h.outcome ∙ e in cc)

-- a cancel ends what is pending
pub stage_cancelled : (plan : Plan) (decides : List Call → Option Outcome) (stage : Stage) (calls : List Call) → IsFirst plan decides → is_done (plan.outcome calls) ≡ false → StandsAt plan decides stage calls
    → StandsAt plan decides Stage.Cancelled (Cancelled ∷ calls)
stage_cancelled plan decides stage calls first e h = record {
  outcome = first (Cancelled ∷ calls) ∙ ap (λ (o : Option Outcome). or_else o (Some Outcome.Cancelled)) (sym (first calls) ∙ none_of (plan.outcome calls) e);
  given = h.given ∙ pending_stage plan decides stage calls e h;
}

-- want of memory ends what is pending
pub stage_starved : (plan : Plan) (decides : List Call → Option Outcome) (stage : Stage) (calls : List Call) → IsFirst plan decides → is_done (plan.outcome calls) ≡ false → StandsAt plan decides stage calls
    → StandsAt plan decides Stage.Starved (Starved ∷ calls)
stage_starved plan decides stage calls first e h = record {
  outcome = first (Starved ∷ calls) ∙ ap (λ (o : Option Outcome). or_else o (Some Outcome.Memory)) (sym (first calls) ∙ none_of (plan.outcome calls) e);
  given = h.given ∙ pending_stage plan decides stage calls e h;
}

or_true : (a b : Bool) → b ≡ true → (a || b) ≡ true
or_true true b h = refl
or_true false b h = h

-- an outcome is given
pub stage_given : (plan : Plan) (decides : List Call → Option Outcome) (calls : List Call) → IsFirst plan decides → is_done (plan.outcome calls) ≡ true → StandsAt plan decides Stage.Given (Polled ∷ calls)
stage_given plan decides calls first e = record {
  outcome = ap (λ (o : Option Outcome). is_done o) (first (Polled ∷ calls)) ∙ done_stays (first_outcome decides calls) (decides (Polled ∷ calls)) (ap (λ (o : Option Outcome). is_done o) (sym (first calls)) ∙ e);
  given = or_true (was_given plan calls) (is_done (plan.outcome calls)) e;
}

-- what an operation at this stage answers
pub answer_running : (plan : Plan) (decides : List Call → Option Outcome) (calls : List Call) → StandsAt plan decides Stage.Running calls → answer plan calls ≡ poll_of (decides calls)
answer_running plan decides calls h = ap (λ (b : Bool). cond b Poll.Pending (poll_of (plan.outcome calls))) h.given ∙ ap (λ (o : Option Outcome). poll_of o) h.outcome

pub answer_cancelled : (plan : Plan) (decides : List Call → Option Outcome) (calls : List Call) → StandsAt plan decides Stage.Cancelled calls → answer plan calls ≡ Poll.Done Outcome.Cancelled
answer_cancelled plan decides calls h = ap (λ (b : Bool). cond b Poll.Pending (poll_of (plan.outcome calls))) h.given ∙ ap (λ (o : Option Outcome). poll_of o) h.outcome

pub answer_starved : (plan : Plan) (decides : List Call → Option Outcome) (calls : List Call) → StandsAt plan decides Stage.Starved calls → answer plan calls ≡ Poll.Done Outcome.Memory
answer_starved plan decides calls h = ap (λ (b : Bool). cond b Poll.Pending (poll_of (plan.outcome calls))) h.given ∙ ap (λ (o : Option Outcome). poll_of o) h.outcome

pub answer_given : (plan : Plan) (decides : List Call → Option Outcome) (calls : List Call) → StandsAt plan decides Stage.Given calls → answer plan calls ≡ Poll.Pending
answer_given plan decides calls h = ap (λ (b : Bool). cond b Poll.Pending (poll_of (plan.outcome calls))) h.given

-- where a running operation came to something there is an outcome
pub comes_done : (plan : Plan) (decides : List Call → Option Outcome) (calls : List Call) (result : Outcome) → StandsAt plan decides Stage.Running calls → IsOrMemory (decides calls) (Some result) → is_done (plan.outcome calls) ≡ true
comes_done plan decides calls result h comes = elim comes [
  | inl e ↦ ap (λ (o : Option Outcome). is_done o) (h.outcome ∙ sym e)
  | inr w ↦ ap (λ (o : Option Outcome). is_done o) h.outcome ∙ w.1
]

-- ---- what is decided of one piece stays

pub count_stays : (k : TallyKind) (replicas need : ℕ) (note : Option Note) (notes : List Note) → is_pending (verdict k replicas need notes) ≡ false → count_note k replicas need note notes ≡ notes
count_stays k replicas need None notes h = refl
count_stays k replicas need (Some note) notes h = ap (λ (b : Bool). cond b (note ∷ notes) notes) h

reply_stays : (t : Target) (notes : List Note) (reply : Reply) (o : Option Sending) → is_pending (verdict t.kind t.replicas t.need notes) ≡ false → noted_reply t notes reply o ≡ notes
reply_stays t notes reply None h = refl
reply_stays t notes reply (Some s) h = count_stays t.kind t.replicas t.need (note_by s.replica (learnt_finding (heard notes reply s))) notes h

failure_stays : (t : Target) (notes : List Note) (cause : Cause) (o : Option Sending) → is_pending (verdict t.kind t.replicas t.need notes) ≡ false → noted_failure t notes cause o ≡ notes
failure_stays t notes cause None h = refl
failure_stays t notes cause (Some s) h = count_stays t.kind t.replicas t.need (note_by s.replica (learnt_finding (failed cause))) notes h

-- the notes of a piece that isn't pending stay
pub notes_stay : (t : Target) (call : Call) (calls : List Call) → is_pending (verdict_at t calls) ≡ false → notes_at t (call ∷ calls) ≡ notes_at t calls
notes_stay t (Replied request reply) calls p = reply_stays t (notes_at t calls) reply (outstanding t calls request) p
notes_stay t (Missed request cause) calls p = failure_stays t (notes_at t calls) cause (outstanding t calls request) p
notes_stay t (Sent s) calls p = refl
notes_stay t (Drew id body) calls p = refl
notes_stay t Cancelled calls p = refl
notes_stay t Starved calls p = refl
notes_stay t Polled calls p = refl

-- and so does its blob
pub blob_stays : (t : Target) (call : Call) (calls : List Call) → is_pending (verdict_at t calls) ≡ false → blob_at t (call ∷ calls) ≡ blob_at t calls
blob_stays t (Replied request reply) calls p =
    ap (λ (b : Bool). or_else (blob_at t calls) (cond b (brought_by (notes_at t calls) reply (outstanding t calls request)) None)) p ∙ or_none (blob_at t calls)
blob_stays t (Missed request cause) calls p = refl
blob_stays t (Sent s) calls p = refl
blob_stays t (Drew id body) calls p = refl
blob_stays t Cancelled calls p = refl
blob_stays t Starved calls p = refl
blob_stays t Polled calls p = refl

pub single_stays : (t : Target) (decides : List Call → Option Outcome) (by : List Note → Option Blob → Option Outcome) → IsSingle t decides by → (call : Call) (calls : List Call) → Stays decides call calls
single_stays t decides by single call calls = λ o h.
    let d : by (notes_at t calls) (blob_at t calls) ≡ Some o = sym (single.reads calls) ∙ h in
    let p : is_pending (verdict_at t calls) ≡ false = single.late (notes_at t calls) (blob_at t calls) o d in
    single.reads (call ∷ calls) ∙ ((λ i. by (notes_stay t call calls p i) (blob_stays t call calls p i)) ∙ d)

-- ---- an operation of one piece

pub single_still : (plan : Plan) (decides : List Call → Option Outcome) (t : Target) (errand : Errand) (view view' : PieceView) (next : ℕ) (stage : Stage) (call : Call) (calls : List Call) → IsFirst plan decides → is_plain call ≡ true
    → Stays decides call calls → next_request (call ∷ calls) ≡ next_request calls → view'.errand ≡ view.errand → (IsPieceOf t view calls → IsPieceOf t view' (call ∷ calls)) → StandsBy plan decides t errand view next stage calls
    → StandsBy plan decides t errand view' next stage (call ∷ calls)
single_still plan decides t errand view view' next stage call calls first plain stays number same on h = record {
  at = stage_on plan decides stage call calls first plain stays h.at;
  numbers = h.numbers ∙ sym number;
  asks = same ∙ h.asks;
  piece = λ e. on (h.piece e);
}

-- what was sent changes no outcome
pub sent_on : (plan : Plan) (decides : List Call → Option Outcome) (stage : Stage) (added : List Sending) (calls : List Call) → IsFirst plan decides → ((call : Call) (cs : List Call) → Stays decides call cs) → StandsAt plan decides stage calls
    → StandsAt plan decides stage (sent_all added calls)
sent_on plan decides stage [] calls first stays h = h
sent_on plan decides stage (s ∷ rest) calls first stays h = sent_on plan decides stage rest (Sent s ∷ calls) first stays (stage_on plan decides stage (Sent s) calls first refl (stays (Sent s) calls) h)

pub single_sent : (plan : Plan) (decides : List Call → Option Outcome) (t : Target) (errand : Errand) (view view' : PieceView) (next next' : ℕ) (stage : Stage) (added : List Sending) (calls : List Call) → IsFirst plan decides
    → ((call : Call) (cs : List Call) → Stays decides call cs) → view'.errand ≡ view.errand → IsPieceOf t view' (sent_all added calls) → next' ≡ next_request (sent_all added calls) → StandsBy plan decides t errand view next stage calls
    → StandsBy plan decides t errand view' next' stage (sent_all added calls)
single_sent plan decides t errand view view' next next' stage added calls first stays same knows numbers h = record {
  at = sent_on plan decides stage added calls first stays h.at;
  numbers = numbers;
  asks = same ∙ h.asks;
  piece = λ e. knows;
}

pub single_cancelled : (plan : Plan) (decides : List Call → Option Outcome) (t : Target) (errand : Errand) (view : PieceView) (next : ℕ) (stage : Stage) (calls : List Call) → IsFirst plan decides → is_done (plan.outcome calls) ≡ false
    → StandsBy plan decides t errand view next stage calls → StandsBy plan decides t errand view next Stage.Cancelled (Cancelled ∷ calls)
single_cancelled plan decides t errand view next stage calls first e h = record {
  at = stage_cancelled plan decides stage calls first e h.at;
  numbers = h.numbers;
  asks = h.asks;
  piece = λ g. piece_still t view Cancelled calls refl (h.piece (pending_stage plan decides stage calls e h.at));
}

pub single_over : (plan : Plan) (decides : List Call → Option Outcome) (t : Target) (errand : Errand) (view : PieceView) (next : ℕ) (stage : Stage) (calls : List Call) → IsFirst plan decides → Stays decides Cancelled calls
    → is_done (plan.outcome calls) ≡ true → StandsBy plan decides t errand view next stage calls → StandsBy plan decides t errand view next stage (Cancelled ∷ calls)
single_over plan decides t errand view next stage calls first stays e h = record {
  at = stage_over plan decides stage calls first e stays h.at;
  numbers = h.numbers;
  asks = h.asks;
  piece = λ g. piece_still t view Cancelled calls refl (h.piece g);
}

pub single_starved : (plan : Plan) (decides : List Call → Option Outcome) (t : Target) (errand : Errand) (view : PieceView) (next : ℕ) (stage : Stage) (calls : List Call) → IsFirst plan decides → is_done (plan.outcome calls) ≡ false
    → StandsBy plan decides t errand view next stage calls → StandsBy plan decides t errand view next Stage.Starved (Starved ∷ calls)
single_starved plan decides t errand view next stage calls first e h = record {
  at = stage_starved plan decides stage calls first e h.at;
  numbers = h.numbers;
  asks = h.asks;
  piece = λ g. piece_still t view Starved calls refl (h.piece (pending_stage plan decides stage calls e h.at));
}

pub single_given : (plan : Plan) (decides : List Call → Option Outcome) (t : Target) (errand : Errand) (view view' : PieceView) (next : ℕ) (stage : Stage) (calls : List Call) → IsFirst plan decides → is_done (plan.outcome calls) ≡ true
    → view'.errand ≡ view.errand → StandsBy plan decides t errand view next stage calls → StandsBy plan decides t errand view' next Stage.Given (Polled ∷ calls)
single_given plan decides t errand view view' next stage calls first e same h = record {
  at = stage_given plan decides calls first e;
  numbers = h.numbers;
  asks = same ∙ h.asks;
  piece = λ g. absurd (let d : true ≡ false = g in cc);
}
