-- What a put asks for.
use Rattle.std.proofs.Common.{◌≡◌, ℕ, zero, suc, ◌+◌, ◌==◌, Bool, true, false, ◌&&◌, cond, List, [], ◌∷◌, length, replicate, Option, Some, None, is_some, refl, sym, ap, ◌∙◌, subst, arith}
use Rattle.std.proofs.lemmas.Bool.Decides.{nat_tests}
use Rattle.std.proofs.lemmas.List.{length-replicate}
use Rattle.std.specs.List.{list_any}
use Rattle.blob_id.specs.declared.id.BlobId.{BlobId}
use Rattle.blob_id.specs.declared.id.Kind.{Kind}
use Rattle.quorum_op.specs.declared.outcome.Outcome.{Outcome}
use Rattle.quorum_op.specs.Counts.{or_else}
use Rattle.world_model.proofs.CellLaws.{same_id_self}
use Rattle.operation.specs.declared.sending.Errand.{Errand}
use Rattle.operation.specs.declared.sending.Purpose.{Purpose}
use Rattle.operation.specs.declared.sending.Sending.{Sending}
use Rattle.operation.specs.declared.stage.Stage.{Stage}
use Rattle.operation.specs.Calls.{Call, Cancelled, Drew, Missed, Plan, Polled, Replied, Sent, Starved, sent_all, sent_in}
use Rattle.operation.specs.Each.{HasReached, to_each, was_reached}
use Rattle.operation.specs.Pieces.{IsPieceOf, PieceView, Target}
use Rattle.operation.specs.Stages.{StandsAt}
use Rattle.operation.specs.Wants.{asks_all, gives_up, next_request, part_of, sends_along, upto}
use Rattle.operation.proofs.EachLaws.{Reaches, along_each, along_none, each_long, each_within, others_reached, sent_more, still_reached}
use Rattle.operation.proofs.PieceLaws.{piece_aside}
use Rattle.operation.proofs.StageLaws.{sent_on, stage_on}
use Rattle.put_op.specs.Puts.{Draw, PutTask, drawn_in, put_decides, put_outcome, put_plan, put_target, put_want, put_wants, draw_of, stored_body, unless_drawn, wants_by}
use Rattle.put_op.specs.Standing.{Fits, IsCourse, IsPut, course_of, removes, stores}
use Rattle.put_op.specs.declared.drawn.Course.{Course}
use Rattle.put_op.specs.declared.drawn.Drawn.{Drawn}
use Rattle.put_op.proofs.PutLaws.{course_on, first, stays}

-- an id is drawn

reached_none : (reaches : Sending → ℕ → Bool) (calls : List Call) → sent_in calls ≡ [] → (replica : ℕ) → was_reached reaches calls replica ≡ false
reached_none reaches calls none replica = ap (λ (l : List Sending). list_any (λ s. reaches s replica) l) none

nothing_drawn : (task : PutTask) (calls : List Call) (id : BlobId) (body : List ℕ) → Fits (put_want task calls) id body → (drawn_in task calls ≡ None) × (length body ≡ task.total)
nothing_drawn task calls id body h = go (put_outcome task calls) (drawn_in task calls) h
  where
    go : (o : Option Outcome) (d : Option Draw) → Fits (unless_drawn task o d) id body → (d ≡ None) × (length body ≡ task.total)
    go None None h = (refl, h.1)
    go None (Some d) h = absurd h
    go (Some o) d h = absurd h

pub drew : (task : PutTask) (drawn : Option Drawn) (id : BlobId) (view : PieceView) (old body : List ℕ) (next : ℕ) (stage : Stage) (course : Course) (calls : List Call) → Fits (put_want task calls) id body
    → view.errand ≡ Errand.Put id → (sent_in (Drew id (Some body) ∷ calls) ≡ [] → IsPieceOf (put_target task id) view (Drew id (Some body) ∷ calls)) → IsPut task drawn old next stage course calls
    → IsPut task (Some (record { id = id; piece = view; asked = false; given_up = false })) body next stage course (Drew id (Some body) ∷ calls)
drew task (Some d) id view old body next stage course calls wanted errand fresh h = absurd (let none : None ≡ Some (record { id = d.id; body = old }) = sym (nothing_drawn task calls id body wanted).0 ∙ h.draws in cc)
drew task None id view old body next stage course calls wanted errand fresh h = record {
  draws = ap (λ (x : Option Draw). or_else x (draw_of task id (Some body))) h.draws
      ∙ ap (λ (b : Bool). cond b (Some (record { id = id; body = body })) None) (same_number (length body) task.total (nothing_drawn task calls id body wanted).1);
  knows = record {
    errand = errand;
    piece = fresh h.knows;
    stored = λ replica. reached_none (stores (put_target task id)) calls h.knows replica;
    removed = λ replica. reached_none (removes id) calls h.knows replica;
  };
  numbers = h.numbers;
  at = stage_on (put_plan task) (put_decides task) stage (Drew id (Some body)) calls (first task) refl (stays task (Drew id (Some body)) calls) h.at;
  ended = course_on task stage course (Drew id (Some body)) calls h.at h.ended;
}
  where
    same_number : (n m : ℕ) → n ≡ m → (n == m) ≡ true
    same_number n m e = grind (arith, nat_tests)

-- what is to be drawn for

abbrev zeros : ℕ → List ℕ
zeros n = replicate n 0

zeros_long : (n : ℕ) → length (zeros n) ≡ n
zeros_long n = length-replicate n 0

same_total : (task task' : PutTask) → put_plan task ≡ put_plan task' → task.total ≡ task'.total
same_total task task' e =
    let body : List ℕ = zeros task.total in
    let calls : List Call = Drew [] (Some body) ∷ [] in
    let both : is_some ((put_plan task).body calls (Errand.Put [])) ≡ is_some ((put_plan task').body calls (Errand.Put [])) = ap (λ (p : Plan). is_some (p.body calls (Errand.Put []))) e in
    go (length body == task'.total) refl (sym (spelled task body (same_length task.total)) ∙ (both ∙ counted task' body))
  where
    same_length : (n : ℕ) → (length (zeros n) == n) ≡ true
    same_length n = let l = zeros_long n in grind (arith, nat_tests)

    counts : (t : PutTask) (body : List ℕ) (b : Bool) → is_some (stored_body t (cond b (Some (record { id = []; body = body })) None) []) ≡ b
    counts t body true = refl
    counts t body false = refl

    counted : (t : PutTask) (body : List ℕ) → is_some ((put_plan t).body (Drew [] (Some body) ∷ []) (Errand.Put [])) ≡ (length body == t.total)
    counted t body = counts t body (length body == t.total)

    spelled : (t : PutTask) (body : List ℕ) → (length body == t.total) ≡ true → is_some ((put_plan t).body (Drew [] (Some body) ∷ []) (Errand.Put [])) ≡ true
    spelled t body same = counted t body ∙ same

    go : (b : Bool) → (length (zeros task.total) == task'.total) ≡ b → true ≡ b → task.total ≡ task'.total
    go true e h = let l = zeros_long task.total in grind (arith, nat_tests)
    go false e h = absurd cc

drawn_same : (task task' : PutTask) → task.total ≡ task'.total → (calls : List Call) → drawn_in task calls ≡ drawn_in task' calls
drawn_same task task' e [] = refl
drawn_same task task' e (Drew id None ∷ calls) = ap (λ (x : Option Draw). or_else x None) (drawn_same task task' e calls)
drawn_same task task' e (Drew id (Some body) ∷ calls) = λ i. or_else (drawn_same task task' e calls i) (cond (length body == e i) (Some (record { id = id; body = body })) None)
drawn_same task task' e (Sent s ∷ calls) = drawn_same task task' e calls
drawn_same task task' e (Replied request reply ∷ calls) = drawn_same task task' e calls
drawn_same task task' e (Missed request cause ∷ calls) = drawn_same task task' e calls
drawn_same task task' e (Cancelled ∷ calls) = drawn_same task task' e calls
drawn_same task task' e (Starved ∷ calls) = drawn_same task task' e calls
drawn_same task task' e (Polled ∷ calls) = drawn_same task task' e calls

unless_same : (task task' : PutTask) → task.total ≡ task'.total → (o : Option Outcome) (d : Option Draw) → unless_drawn task o d ≡ unless_drawn task' o d
unless_same task task' e None None = ap (λ (n : ℕ). Some (record { piece = 0; attempt = 0; kind = Kind.Simple; from = 0; len = n })) e
unless_same task task' e None (Some d) = refl
unless_same task task' e (Some o) d = refl

-- what is wanted is the same for all puts that come to the same
pub same_want : (task task' : PutTask) → put_plan task ≡ put_plan task' → (calls : List Call) → put_want task calls ≡ put_want task' calls
same_want task task' e calls =
    let total = same_total task task' e in
    (λ i. unless_drawn task ((e i).outcome calls) (drawn_same task task' total calls i)) ∙ unless_same task task' total (put_outcome task' calls) (drawn_in task' calls)

-- requests that go out

drawn_sent : (task : PutTask) (added : List Sending) (calls : List Call) → drawn_in task (sent_all added calls) ≡ drawn_in task calls
drawn_sent task [] calls = refl
drawn_sent task (s ∷ added) calls = drawn_sent task added (Sent s ∷ calls)

course_sent : (task : PutTask) (stage : Stage) (course : Course) (added : List Sending) (calls : List Call) → StandsAt (put_plan task) (put_decides task) stage calls → IsCourse stage course (put_outcome task calls)
    → IsCourse stage course (put_outcome task (sent_all added calls))
course_sent task stage course [] calls at h = h
course_sent task stage course (s ∷ added) calls at h =
    course_sent task stage course added (Sent s ∷ calls) (stage_on (put_plan task) (put_decides task) stage (Sent s) calls (first task) refl (stays task (Sent s) calls) at) (course_on task stage course (Sent s) calls at h)

stores_one : (task : PutTask) (id : BlobId) → Reaches (stores (put_target task id)) (part_of (put_target task id)) (Errand.Put id)
stores_one task id request replica other = ap (λ (b : Bool). b && (replica == other)) (same_id_self id)

removes_one : (id : BlobId) → Reaches (removes id) Purpose.GivenUp (Errand.Delete id 0)
removes_one id request replica other = ap (λ (b : Bool). b && (replica == other)) (same_id_self id)

abbrev pub parts : PutTask → BlobId → List Call → List Sending
parts task id calls = sends_along (asks_all (put_target task id)) (part_of (put_target task id)) (Errand.Put id) calls (upto task.replicas)

abbrev pub removals : PutTask → BlobId → ℕ → List Sending
removals task id first = to_each Purpose.GivenUp (Errand.Delete id 0) first task.replicas

pub sent_parts : (task : PutTask) (d : Drawn) (view : PieceView) (body : List ℕ) (next next' : ℕ) (stage : Stage) (course : Course) (calls : List Call) → d.asked ≡ false → view.errand ≡ d.piece.errand
    → IsPieceOf (put_target task d.id) view (sent_all (parts task d.id calls) calls) → next' ≡ next_request (sent_all (parts task d.id calls) calls) → IsPut task (Some d) body next stage course calls
    → IsPut task (Some (record { id = d.id; piece = view; asked = true; given_up = d.given_up })) body next' stage course (sent_all (parts task d.id calls) calls)
sent_parts task d view body next next' stage course calls fresh same piece numbers h =
    let t = put_target task d.id in
    let none : (replica : ℕ) → was_reached (stores t) calls replica ≡ false = subst (λ (b : Bool). HasReached (stores t) task.replicas b calls) fresh h.knows.stored in
    let each : parts task d.id calls ≡ to_each (part_of t) (Errand.Put d.id) (next_request calls) task.replicas =
    along_each (stores t) (part_of t) (Errand.Put d.id) (stores_one task d.id) task.replicas calls none task.replicas (omega arith) in
    record {
      draws = drawn_sent task (parts task d.id calls) calls ∙ h.draws;
      knows = record {
        errand = same ∙ h.knows.errand;
        piece = piece;
        stored = λ replica l. ap (λ (added : List Sending). was_reached (stores t) (sent_all added calls) replica) each
            ∙ each_within (stores t) (part_of t) (Errand.Put d.id) (stores_one task d.id) (next_request calls) task.replicas calls replica l;
        removed = still_reached (removes d.id) task.replicas d.given_up calls (sent_all (parts task d.id calls) calls)
            (λ replica. others_reached (removes d.id) (asks_all t) (part_of t) (Errand.Put d.id) (λ request r other. refl) calls (upto task.replicas) replica) h.knows.removed;
      };
      numbers = numbers;
      at = sent_on (put_plan task) (put_decides task) stage (parts task d.id calls) calls (first task) (stays task) h.at;
      ended = course_sent task stage course (parts task d.id calls) calls h.at h.ended;
    }

piece_removals : (t : Target) (view : PieceView) (errand : Errand) (first n : ℕ) (calls : List Call) → IsPieceOf t view calls → IsPieceOf t view (sent_all (to_each Purpose.GivenUp errand first n) calls)
piece_removals t view errand first zero calls h = h
piece_removals t view errand first (suc n) calls h =
    let s : Sending = record { request = first + n; replica = n; purpose = Purpose.GivenUp; errand = errand } in
    subst (λ (cs : List Call). IsPieceOf t view cs) (sym (sent_more (to_each Purpose.GivenUp errand first n) s calls))
    (piece_aside t view s (sent_all (to_each Purpose.GivenUp errand first n) calls) refl (piece_removals t view errand first n calls h))

removals_store : (t : Target) (errand : Errand) (first n : ℕ) (calls : List Call) (replica : ℕ) → was_reached (stores t) (sent_all (to_each Purpose.GivenUp errand first n) calls) replica ≡ was_reached (stores t) calls replica
removals_store t errand first zero calls replica = refl
removals_store t errand first (suc n) calls replica =
    let s : Sending = record { request = first + n; replica = n; purpose = Purpose.GivenUp; errand = errand } in
    ap (λ (cs : List Call). was_reached (stores t) cs replica) (sent_more (to_each Purpose.GivenUp errand first n) s calls) ∙ removals_store t errand first n calls replica

pub gave_up : (task : PutTask) (d : Drawn) (body : List ℕ) (next next' : ℕ) (stage : Stage) (course : Course) (calls : List Call) → next' ≡ next + task.replicas → IsPut task (Some d) body next stage course calls
    → IsPut task (Some (record { id = d.id; piece = d.piece; asked = d.asked; given_up = true })) body next' stage course (sent_all (removals task d.id next) calls)
gave_up task d body next next' stage course calls numbers h = record {
  draws = drawn_sent task (removals task d.id next) calls ∙ h.draws;
  knows = record {
    errand = h.knows.errand;
    piece = piece_removals (put_target task d.id) d.piece (Errand.Delete d.id 0) next task.replicas calls h.knows.piece;
    stored = still_reached (stores (put_target task d.id)) task.replicas d.asked calls (sent_all (removals task d.id next) calls)
        (λ replica. removals_store (put_target task d.id) (Errand.Delete d.id 0) next task.replicas calls replica) h.knows.stored;
    removed = λ replica l. each_within (removes d.id) Purpose.GivenUp (Errand.Delete d.id 0) (removes_one d.id) next task.replicas calls replica l;
  };
  numbers = (let n = h.numbers in let e = each_long Purpose.GivenUp (Errand.Delete d.id 0) next task.replicas calls in omega arith);
  at = sent_on (put_plan task) (put_decides task) stage (removals task d.id next) calls (first task) (stays task) h.at;
  ended = course_sent task stage course (removals task d.id next) calls h.at h.ended;
}

-- what is wanted

pub wants_undrawn : (task : PutTask) (body : List ℕ) (next : ℕ) (stage : Stage) (course : Course) (calls : List Call) (order : List ℕ) → IsPut task None body next stage course calls → put_wants task calls order ≡ []
wants_undrawn task body next stage course calls order h = ap (λ (d : Option Draw). wants_by task calls (put_outcome task calls) d) h.draws

pub wants_parts : (task : PutTask) (d : Drawn) (body : List ℕ) (next : ℕ) (stage : Stage) (course : Course) (calls : List Call) (order : List ℕ) → put_outcome task calls ≡ None → IsPut task (Some d) body next stage course calls
    → put_wants task calls order ≡ parts task d.id calls
wants_parts task d body next stage course calls order none h = λ i. wants_by task calls (none i) (h.draws i)

pub asked_parts : (task : PutTask) (d : Drawn) (body : List ℕ) (next : ℕ) (stage : Stage) (course : Course) (calls : List Call) → d.asked ≡ true → IsPut task (Some d) body next stage course calls → parts task d.id calls ≡ []
asked_parts task d body next stage course calls asked h =
    let t = put_target task d.id in
    along_none (stores t) (part_of t) (Errand.Put d.id) task.replicas calls (subst (λ (b : Bool). HasReached (stores t) task.replicas b calls) asked h.knows.stored) (upto task.replicas)

wants_failed : (task : PutTask) (calls : List Call) (o : Option Outcome) (draw : Draw) → course_of o ≡ Course.Failed
    → wants_by task calls o (Some draw) ≡ sends_along (gives_up task.replicas draw.id) Purpose.GivenUp (Errand.Delete draw.id 0) calls (upto task.replicas)
wants_failed task calls None draw h = absurd cc
wants_failed task calls (Some (Outcome.Put id)) draw h = absurd cc
wants_failed task calls (Some _) draw h = refl

pub wants_stored : (task : PutTask) (calls : List Call) (order : List ℕ) → course_of (put_outcome task calls) ≡ Course.Stored → put_wants task calls order ≡ []
wants_stored task calls order h = go (put_outcome task calls) (drawn_in task calls) h
  where
    go : (o : Option Outcome) (d : Option Draw) → course_of o ≡ Course.Stored → wants_by task calls o d ≡ []
    go o None h = refl
    go None (Some d) h = absurd cc
    go (Some (Outcome.Put id)) (Some d) h = refl
    go (Some _) (Some d) h = absurd cc

pub wants_removals : (task : PutTask) (d : Drawn) (body : List ℕ) (next : ℕ) (stage : Stage) (course : Course) (calls : List Call) (order : List ℕ) → course_of (put_outcome task calls) ≡ Course.Failed → d.given_up ≡ false
    → IsPut task (Some d) body next stage course calls → put_wants task calls order ≡ removals task d.id next
wants_removals task d body next stage course calls order failed fresh h =
    let none : (replica : ℕ) → was_reached (removes d.id) calls replica ≡ false = subst (λ (b : Bool). HasReached (removes d.id) task.replicas b calls) fresh h.knows.removed in
    ap (λ (x : Option Draw). wants_by task calls (put_outcome task calls) x) h.draws
    ∙ (wants_failed task calls (put_outcome task calls) (record { id = d.id; body = body }) failed
    ∙ (along_each (removes d.id) Purpose.GivenUp (Errand.Delete d.id 0) (removes_one d.id) task.replicas calls none task.replicas (omega arith)
    ∙ ap (λ (k : ℕ). removals task d.id k) (sym h.numbers)))

pub wants_no_more : (task : PutTask) (d : Drawn) (body : List ℕ) (next : ℕ) (stage : Stage) (course : Course) (calls : List Call) (order : List ℕ) → course_of (put_outcome task calls) ≡ Course.Failed → d.given_up ≡ true
    → IsPut task (Some d) body next stage course calls → put_wants task calls order ≡ []
wants_no_more task d body next stage course calls order failed gave h =
    ap (λ (x : Option Draw). wants_by task calls (put_outcome task calls) x) h.draws
    ∙ (wants_failed task calls (put_outcome task calls) (record { id = d.id; body = body }) failed
    ∙ along_none (removes d.id) Purpose.GivenUp (Errand.Delete d.id 0) task.replicas calls (subst (λ (b : Bool). HasReached (removes d.id) task.replicas b calls) gave h.knows.removed) (upto task.replicas))
