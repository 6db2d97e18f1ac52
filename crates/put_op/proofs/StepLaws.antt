-- What the steps of a put come to.
use Rattle.std.proofs.Common.{◌≡◌, ◌⊎◌, inl, inr, ℕ, ◌+◌, true, false, List, [], ◌∷◌, ◌++◌, Option, Some, None, refl, sym, ap, ◌∙◌, subst, append-nil}
use Rattle.quorum_op.specs.declared.outcome.Outcome.{Outcome}
use Rattle.operation.specs.declared.sending.Errand.{Errand}
use Rattle.operation.specs.declared.sending.Sending.{Sending}
use Rattle.operation.specs.declared.stage.Stage.{Stage}
use Rattle.operation.specs.Calls.{Call, sent_all, sent_in}
use Rattle.operation.specs.Pieces.{IsPieceOf, PieceView, Target}
use Rattle.operation.specs.Wants.{HasSent, asks, next_request, part_of, sends_along, upto}
use Rattle.operation.proofs.StageLaws.{is_plain}
use Rattle.put_op.specs.Puts.{Draw, PutTask, drawn_in, put_outcome, put_plan, put_target, put_want, put_wants, storing_of, unless_drawn, whole_piece}
use Rattle.put_op.specs.Standing.{IsPut, course_of, draw_in}
use Rattle.put_op.specs.declared.drawn.Course.{Course}
use Rattle.put_op.specs.declared.drawn.Drawn.{Drawn}
use Rattle.put_op.proofs.PutLaws.{goes_by, heard_drawn, with_piece}
use Rattle.put_op.proofs.WantLaws.{asked_parts, gave_up, parts, removals, same_want, sent_parts, wants_no_more, wants_parts, wants_removals}

-- how far it is, and whether it is done

none_pending : (o : Option Outcome) → course_of o ≡ Course.Pending → o ≡ None
none_pending None h = refl
none_pending (Some (Outcome.Put id)) h = absurd cc
none_pending (Some _) h = absurd cc

-- what is wanted

abbrev Quiet : PutTask → Option Drawn → List ℕ → ℕ → Stage → Course → List Call → List ℕ → List Sending → Type 0
Quiet task drawn body next stage course calls order out = (out ≡ out ++ put_wants task calls order) × IsPut task drawn body next stage course (sent_all (put_wants task calls order) calls)

quiet : (task : PutTask) (drawn : Option Drawn) (body : List ℕ) (next : ℕ) (stage : Stage) (course : Course) (calls : List Call) (order : List ℕ) (out : List Sending) → put_wants task calls order ≡ []
    → IsPut task drawn body next stage course calls → Quiet task drawn body next stage course calls order out
quiet task drawn body next stage course calls order out none h = (
  sym (append-nil out) ∙ ap (λ (l : List Sending). out ++ l) (sym none),
  subst (λ (l : List Sending). IsPut task drawn body next stage course (sent_all l calls)) (sym none) h,
)

pub was_stored : (task : PutTask) (drawn : Option Drawn) (d : Drawn) (body : List ℕ) (next : ℕ) (stage : Stage) (course : Course) (calls : List Call) (order : List ℕ) (out : List Sending) → drawn ≡ Some d → d.asked ≡ true
    → course_of (put_outcome task calls) ≡ Course.Pending → IsPut task drawn body next stage course calls → Quiet task (Some d) body next stage course calls order out
was_stored task drawn d body next stage course calls order out e asked pending h =
    let k : IsPut task (Some d) body next stage course calls = subst (λ (x : Option Drawn). IsPut task x body next stage course calls) e h in
    quiet task (Some d) body next stage course calls order out
    (wants_parts task d body next stage course calls order (none_pending (put_outcome task calls) pending) k ∙ asked_parts task d body next stage course calls asked k) k

pub was_given_up : (task : PutTask) (drawn : Option Drawn) (d : Drawn) (body : List ℕ) (next : ℕ) (stage : Stage) (course : Course) (calls : List Call) (order : List ℕ) (out : List Sending) → drawn ≡ Some d → d.given_up ≡ true
    → course_of (put_outcome task calls) ≡ Course.Failed → IsPut task drawn body next stage course calls → Quiet task (Some d) body next stage course calls order out
was_given_up task drawn d body next stage course calls order out e gave failed h =
    let k : IsPut task (Some d) body next stage course calls = subst (λ (x : Option Drawn). IsPut task x body next stage course calls) e h in
    quiet task (Some d) body next stage course calls order out (wants_no_more task d body next stage course calls order failed gave k) k

-- what the piece sent is what is wanted
pub stores_now : (task : PutTask) (drawn : Option Drawn) (d : Drawn) (view : PieceView) (body : List ℕ) (next next' : ℕ) (stage : Stage) (course : Course) (calls : List Call) (order replicas : List ℕ) (out out' : List Sending)
    → drawn ≡ Some d → d.asked ≡ false → replicas ≡ upto task.replicas → course_of (put_outcome task calls) ≡ Course.Pending → view.errand ≡ d.piece.errand
    → ((t : Target) → IsPieceOf t d.piece calls → next ≡ next_request calls → HasSent (IsPieceOf t view) (sends_along (asks t) (part_of t) d.piece.errand calls replicas) calls out out' next')
    → IsPut task drawn body next stage course calls
    → (out' ≡ out ++ put_wants task calls order)
    × IsPut task (Some (record { id = d.id; piece = view; asked = true; given_up = d.given_up })) body next' stage course (sent_all (put_wants task calls order) calls)
stores_now task drawn d view body next next' stage course calls order replicas out out' e fresh along pending same sent h =
    let t : Target = put_target task d.id in
    let k : IsPut task (Some d) body next stage course calls = subst (λ (x : Option Drawn). IsPut task x body next stage course calls) e h in
    let wanted : put_wants task calls order ≡ parts task d.id calls = wants_parts task d body next stage course calls order (none_pending (put_outcome task calls) pending) k in
    let went : HasSent (IsPieceOf t view) (parts task d.id calls) calls out out' next' =
    subst (λ (l : List ℕ). HasSent (IsPieceOf t view) (sends_along (asks t) (part_of t) (Errand.Put d.id) calls l) calls out out' next') along
    (subst (λ (x : Errand). HasSent (IsPieceOf t view) (sends_along (asks t) (part_of t) x calls replicas) calls out out' next') k.knows.errand (sent t k.knows.piece k.numbers)) in (
      went.out ∙ ap (λ (l : List Sending). out ++ l) (sym wanted),
      subst (λ (l : List Sending). IsPut task (Some (record { id = d.id; piece = view; asked = true; given_up = d.given_up })) body next' stage course (sent_all l calls)) (sym wanted)
          (sent_parts task d view body next next' stage course calls fresh same went.knows went.numbers k),
    )

-- the removals that were asked for are what is wanted
pub gives_up_now : (task : PutTask) (drawn : Option Drawn) (d : Drawn) (body : List ℕ) (next : ℕ) (stage : Stage) (course : Course) (calls : List Call) (order : List ℕ) (out before after : List Sending)
    → drawn ≡ Some d → d.given_up ≡ false → course_of (put_outcome task calls) ≡ Course.Failed → before ≡ out → after ≡ before ++ removals task d.id next
    → IsPut task drawn body next stage course calls
    → (after ≡ out ++ put_wants task calls order)
    × IsPut task (Some (record { id = d.id; piece = d.piece; asked = d.asked; given_up = true })) body (next + task.replicas) stage course (sent_all (put_wants task calls order) calls)
gives_up_now task drawn d body next stage course calls order out before after e fresh failed same went h =
    let k : IsPut task (Some d) body next stage course calls = subst (λ (x : Option Drawn). IsPut task x body next stage course calls) e h in
    let wanted : put_wants task calls order ≡ removals task d.id next = wants_removals task d body next stage course calls order failed fresh k in (
      went ∙ (ap (λ (l : List Sending). l ++ removals task d.id next) same ∙ ap (λ (l : List Sending). out ++ l) (sym wanted)),
      subst (λ (l : List Sending). IsPut task (Some (record { id = d.id; piece = d.piece; asked = d.asked; given_up = true })) body (next + task.replicas) stage course (sent_all l calls)) (sym wanted)
          (gave_up task d body next (next + task.replicas) stage course calls refl k),
    )

-- a reply or a failure that its piece took
pub hears : (task : PutTask) (drawn : Option Drawn) (d : Drawn) (view : PieceView) (body : List ℕ) (next : ℕ) (stage : Stage) (course : Course) (call : Call) (calls : List Call) → drawn ≡ Some d → is_plain call ≡ true
    → sent_in (call ∷ calls) ≡ sent_in calls → drawn_in task (call ∷ calls) ≡ drawn_in task calls → view.errand ≡ d.piece.errand → ((t : Target) → IsPieceOf t d.piece calls → IsPieceOf t view (call ∷ calls))
    → IsPut task drawn body next stage course calls → IsPut task (Some (with_piece d view)) body next stage course (call ∷ calls)
hears task drawn d view body next stage course call calls e plain sent draws same on h =
    let k : IsPut task (Some d) body next stage course calls = subst (λ (x : Option Drawn). IsPut task x body next stage course calls) e h in
    goes_by task (Some d) (Some (with_piece d view)) body next stage course call calls plain sent draws refl
    (heard_drawn task d view call calls sent same (on (put_target task d.id) k.knows.piece) k.knows) k

-- what is to be drawn for

pub wants_whole : (task task' : PutTask) (drawn : Option Drawn) (body : List ℕ) (next : ℕ) (stage : Stage) (course course' : Course) (calls : List Call) → put_plan task ≡ put_plan task' → drawn ≡ None → course' ≡ course_of (put_outcome task calls)
    → course' ≡ Course.Pending → IsPut task drawn body next stage course calls → Some (whole_piece task) ≡ put_want task' calls
wants_whole task task' drawn body next stage course course' calls same none e pending h =
    let draws : drawn_in task calls ≡ None = h.draws ∙ ap (λ (x : Option Drawn). draw_in x body) none in
    let over : put_outcome task calls ≡ None = none_pending (put_outcome task calls) (sym e ∙ pending) in
    (λ i. unless_drawn task (sym over i) (sym draws i)) ∙ same_want task task' same calls

-- a put that was told nothing yet wants its whole blob drawn for
pub wants_first : (task task' : PutTask) (body : List ℕ) (next : ℕ) (course : Course) (calls : List Call) → put_plan task ≡ put_plan task' → IsPut task None body next Stage.Running course calls → put_want task' calls ≡ Some (whole_piece task)
wants_first task task' body next course calls same h =
    let pending : put_outcome task calls ≡ None = h.at.outcome ∙ ap (λ (d : Option Draw). storing_of task calls d) h.draws in
    sym (wants_whole task task' None body next Stage.Running course (course_of (put_outcome task calls)) calls same refl refl (ap (λ (o : Option Outcome). course_of o) pending) h)

unless_some : (task : PutTask) (o : Option Outcome) (d : Draw) → unless_drawn task o (Some d) ≡ None
unless_some task None d = refl
unless_some task (Some o) d = refl

pub wants_none_drawn : (task task' : PutTask) (drawn : Option Drawn) (d : Drawn) (body : List ℕ) (next : ℕ) (stage : Stage) (course : Course) (calls : List Call) → put_plan task ≡ put_plan task' → drawn ≡ Some d
    → IsPut task drawn body next stage course calls → None ≡ put_want task' calls
wants_none_drawn task task' drawn d body next stage course calls same e h =
    sym (unless_some task (put_outcome task calls) (record { id = d.id; body = body })) ∙ (ap (λ (x : Option Draw). unless_drawn task (put_outcome task calls) x) (sym (h.draws ∙ ap (λ (x : Option Drawn). draw_in x body) e))
    ∙ same_want task task' same calls)

unless_over : (task : PutTask) (o : Option Outcome) (d : Option Draw) → (course_of o ≡ Course.Stored) ⊎ (course_of o ≡ Course.Failed) → unless_drawn task o d ≡ None
unless_over task None d (inl over) = absurd cc
unless_over task None d (inr over) = absurd cc
unless_over task (Some o) d over = refl

pub wants_none_over : (task task' : PutTask) (course : Course) (calls : List Call) → put_plan task ≡ put_plan task' → course ≡ course_of (put_outcome task calls) → (course ≡ Course.Stored) ⊎ (course ≡ Course.Failed)
    → None ≡ put_want task' calls
wants_none_over task task' course calls same e over =
    sym (unless_over task (put_outcome task calls) (drawn_in task calls) (subst (λ (k : Course). (k ≡ Course.Stored) ⊎ (k ≡ Course.Failed)) e over)) ∙ same_want task task' same calls
