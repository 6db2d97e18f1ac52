-- How what a router keeps of the operation under way goes on with the record.
use Rattle.std.proofs.Common.{◌≡◌, ◌≢◌, ℕ, suc, ◌+◌, ◌*◌, ◌^◌, ◌<◌, ◌≤◌, true, false, List, [], ◌∷◌, ◌++◌, length, map, Option, Some, None, refl, sym, ap, ◌∙◌, subst, inl, inr, arith}
use Rattle.std.specs.List.{list_any}
use Rattle.blob_id.specs.declared.id.BlobId.{BlobId}
use Rattle.cell_model.specs.declared.ask.Reply.{Reply}
use Rattle.quorum_op.specs.declared.cause.Cause.{Cause}
use Rattle.quorum_op.specs.declared.outcome.Outcome.{Outcome}
use Rattle.quorum_op.specs.Counts.{or_else}
use Rattle.req_frame.specs.declared.frame.Frame.{Frame}
use Rattle.req_frame.specs.Reading.{frame_of}
use Rattle.world_model.specs.declared.history.Begun.{Begun}
use Rattle.world_model.specs.declared.shape.Shape.{Shape}
use Rattle.world_model.specs.declared.step.Event.{Event}
use Rattle.world_model.specs.declared.step.Step.{Step}
use Rattle.world_model.specs.Frames.{frame_in}
use Rattle.world_model.specs.Lists.{Has}
use Rattle.world_model.specs.Notes
use Rattle.world_model.specs.Notes.{Asked, ask_as, asked, asked_now, is_of, clock_of, events_in, router_frame}
use Rattle.world_model.specs.Record.{Item, Top, Aimed, Decided, Drawn, Took, Given, Record, turns_in}
use Rattle.world_model.specs.Shape.{IsShape, replica_of}
use Rattle.world_model.specs.Told.{AllNetwork}
use Rattle.world_model.proofs.NoteLaws.{decoded_frame}
use Rattle.operation.specs.declared.sending.Sending.{Sending}
use Rattle.operation.specs.Calls.{Call, Sent, Missed, Polled, sent_all, sent_in, stop_by}
use Rattle.operation.specs.Wants.{is_given_up, next_request}
use Rattle.put_op.specs.Puts.{put_decides}
use Rattle.get_op.specs.Gets.{get_decides}
use Rattle.delete_op.specs.Deletes.{delete_decides}
use Rattle.op_table.specs.declared.heard.Heard.{Heard}
use Rattle.op_table.specs.declared.telling.Telling.{Telling}
use Rattle.op_table.specs.declared.telling.Told.{Told}
use Rattle.op_table.specs.declared.waiting.Waiting.{Waiting}
use Rattle.op_table.specs.Heard.{heard_of, reply_in}
use Rattle.op_table.specs.Piece.{FailsToSend, SendsEntry, is_mute}
use Rattle.op_table.specs.Tied.{AreNumbered, OwnsCalls}
use Rattle.op_table.specs.Told.{left, say, still_heard, told_all, told_calls}
use Rattle.op_table.specs.Addressed.{heard_by}
use Rattle.op_table.proofs.AddressedLaws.{event_told_by}
use Rattle.op_table.proofs.TiedLaws.{batch_added, item_stays, network_stays, request_refused, request_sent}
use Rattle.router_core.specs.declared.live.Live.{Live}
use Rattle.router_core.specs.Answers.{placed}
use Rattle.router_core.specs.Fits.{DoesJob, IsAnswer}
use Rattle.router_core.specs.Jobs.{Job, Puts, Gets, Deletes, DrewOnly, EachIs, GoOnFrom, GoesOn, HasDrawnId, IsForPiece, WasGiven, begun_as, delete_task, get_task, piece_for, plan_for, put_task, target_for}
use Rattle.router_core.specs.Requests.{correlation_for, entry_for, node_for}
use Rattle.router_core.specs.Stages.{simple_rules, AimsBelow, AsksBelow, IsUnderWay, IsDecidedIn, IsOver}
use Rattle.router_core.specs.Removals.{IsNoStore, IsToDelete}
use Rattle.router_core.specs.Stands.{GivesAllUp, IsPending, IsSettled, Leaves, OwnsLive, Waits, order, outcome_now, wants_now}
use Rattle.router_core.specs.Turning.{IsTold}
use Rattle.router_core.proofs.AimLaws.{IsNoAim, below_aimed, below_more, below_stays, below_took}
use Rattle.router_core.proofs.AskLaws.{aimed_record, drawn_later, frame_for, is_for_piece, own_request, sendable, sends_entry}
use Rattle.router_core.proofs.FollowLaws.{follows}
use Rattle.router_core.proofs.RemovalLaws.{all_wanted, drew_only}
use Rattle.router_core.proofs.StageLaws.{aims, decides, given, low_frame, network, refused, sends}
use Rattle.router_core.proofs.StickyLaws.{decides_for, outcome_is}
use Rattle.router_core.proofs.WantLaws.{wants_numbered, wants_over, wants_pending}

-- ---- calls that are told

goes_told : (heard : Heard) (told : List Told) (calls : List Call) → GoesOn calls → GoesOn (told_calls heard told calls)
goes_told heard [] calls g = g
goes_told heard (told ∷ rest) calls g = goes_told (still_heard told.said heard) rest (say told.said (reply_in heard) (Notes.request_of told.waiting.correlation) calls) (go told.said (reply_in heard))
  where
    go : (said : Telling) (reply : Option Reply) → GoesOn (say said reply (Notes.request_of told.waiting.correlation) calls)
    go (Telling.Failed cause) reply = (refl, g)
    go Telling.Answered (Some reply) = (refl, g)
    go Telling.Answered None = g

sent_told : (heard : Heard) (told : List Told) (calls : List Call) → sent_in (told_calls heard told calls) ≡ sent_in calls
sent_told heard [] calls = refl
sent_told heard (told ∷ rest) calls =
    sent_told (still_heard told.said heard) rest (say told.said (reply_in heard) (Notes.request_of told.waiting.correlation) calls) ∙ go told.said (reply_in heard)
  where
    go : (said : Telling) (reply : Option Reply) → sent_in (say said reply (Notes.request_of told.waiting.correlation) calls) ≡ sent_in calls
    go (Telling.Failed cause) reply = refl
    go Telling.Answered (Some reply) = refl
    go Telling.Answered None = refl

next_told : (heard : Heard) (told : List Told) (calls : List Call) → next_request (told_calls heard told calls) ≡ next_request calls
next_told heard told calls = ap (λ (l : List Sending). length l + 1) (sent_told heard told calls)

-- ---- calls that are added

goes_sent : (batch : List Sending) (calls : List Call) → GoesOn calls → GoesOn (sent_all batch calls)
goes_sent [] calls g = g
goes_sent (s ∷ rest) calls g = goes_sent rest (Sent s ∷ calls) (refl, g)

one_more : (n : ℕ) → n + 1 + 1 ≡ suc n + 1
one_more n = omega arith

numbered_sent : (batch : List Sending) (calls : List Call) → AreNumbered calls → GoOnFrom (next_request calls) batch → AreNumbered (sent_all batch calls)
numbered_sent [] calls n g = n
numbered_sent (s ∷ rest) calls n g = numbered_sent rest (Sent s ∷ calls) (g.0, n) (subst (λ (k : ℕ). GoOnFrom k rest) (one_more (length (sent_in calls))) g.1)

next_sent : (batch : List Sending) (calls : List Call) → next_request calls + length batch ≡ next_request (sent_all batch calls)
next_sent [] calls = omega arith
next_sent (s ∷ rest) calls = let n = next_sent rest (Sent s ∷ calls) in omega (arith, n)

each_has : (P : Sending → Type 0) (batch : List Sending) → EachIs P batch → (s : Sending) → Has batch s → P s
each_has P [] e s h = absurd h
each_has P (x ∷ rest) e s h = elim h [ inl q ↦ subst P (sym q) e.0 | inr t ↦ each_has P rest e.1 s t ]

each_sent : (P : Sending → Type 0) (batch : List Sending) (calls : List Call) → EachIs P batch → EachIs P (sent_in calls) → EachIs P (sent_in (sent_all batch calls))
each_sent P [] calls b e = e
each_sent P (s ∷ rest) calls b e = each_sent P rest (Sent s ∷ calls) b.1 (b.0, e)

no_removals : (shape : Shape) (moment : ℕ) (job : Job) (batch : List Sending) → EachIs (IsForPiece shape moment job) batch → EachIs (λ sending. is_given_up sending.purpose ≡ false) batch
no_removals shape moment job [] e = tt
no_removals shape moment job (s ∷ rest) e = (ap is_given_up e.0.purpose, no_removals shape moment job rest e.1)

-- ---- the network, and what it gives

pub live_took : (shape : Shape) (steps : List Step) (r : Record) (live : Live) → AllNetwork steps → OwnsLive shape r live [] → OwnsLive shape (map Took steps ++ r) live []
live_took shape steps r live all o =
    let rules = simple_rules shape in
    let u = network rules steps r live.operation (begun_as o.job) o.then o.next all o.under_way in
    record {
      job = o.job;
      then = o.then;
      calls = o.calls;
      next = o.next;
      from = o.from;
      under_way = u;
      aims = below_took steps r live.operation o.next o.aims;
      drawn = drawn_took steps o.drawn;
      does = o.does;
      goes_on = o.goes_on;
      owns = network_stays rules (piece_for live.operation o.job) (target_for shape (clock_of o.then) o.job) steps r live.requests o.calls [] u.going.kept all o.owns;
      some = o.some;
      ahead = o.ahead;
      numbered = tt;
      counted = o.counted;
      for_piece = tt;
      kept_all = o.kept_all;
    }
  where
    drawn_took : (steps : List Step) → HasDrawnId r live.operation (clock_of o.then) o.job → HasDrawnId (map Took steps ++ r) live.operation (clock_of o.then) o.job
    drawn_took [] h = h
    drawn_took (step ∷ steps) h = drawn_later (Took step) (map Took steps ++ r) live.operation (clock_of o.then) o.job (drawn_took steps h)

-- what waits for replies still does
pub waits_took : (shape : Shape) (steps : List Step) (r : Record) (live : Live) → AllNetwork steps → Waits shape r live → Waits shape (map Took steps ++ r) live
unfolding live_took
waits_took shape steps r live all w = (live_took shape steps r live all w.0, w.1, w.2)

-- ---- items that say nothing to it

live_still : (shape : Shape) (item : Item) (r : Record) (live : Live) → IsNoAim item → is_mute item ≡ true → asked_now item r ≡ []
    → ((begun : Begun) (then : Record) (next : ℕ) → IsUnderWay (simple_rules shape) r live.operation begun then next → IsUnderWay (simple_rules shape) (item ∷ r) live.operation begun then next) → OwnsLive shape r live [] → OwnsLive shape (item ∷ r) live []
live_still shape item r live apart mute none on o =
    let piece = piece_for live.operation o.job in
    record {
      job = o.job;
      then = o.then;
      calls = o.calls;
      next = o.next;
      from = o.from;
      under_way = on (begun_as o.job) o.then o.next o.under_way;
      aims = below_stays item r live.operation o.next o.next apart (omega arith) o.aims;
      drawn = drawn_later item r live.operation (clock_of o.then) o.job o.drawn;
      does = o.does;
      goes_on = o.goes_on;
      owns = item_stays (simple_rules shape) piece (target_for shape (clock_of o.then) o.job) item r live.requests o.calls [] o.under_way.going.kept mute (ap (λ (l : List Asked). list_any (is_of piece) l) none) o.owns;
      some = o.some;
      ahead = o.ahead;
      numbered = tt;
      counted = o.counted;
      for_piece = tt;
      kept_all = o.kept_all;
    }

pub waits_still : (shape : Shape) (item : Item) (r : Record) (live : Live) → IsNoAim item → is_mute item ≡ true → asked_now item r ≡ []
    → ((begun : Begun) (then : Record) (next : ℕ) → IsUnderWay (simple_rules shape) r live.operation begun then next → IsUnderWay (simple_rules shape) (item ∷ r) live.operation begun then next) → Waits shape r live → Waits shape (item ∷ r) live
unfolding live_still
waits_still shape item r live apart mute none on w = (live_still shape item r live apart mute none on w.0, w.1, w.2)

-- ---- what is told

piece_is_of : (operation : ℕ) (job : Job) → (piece_for operation job).operation ≡ operation
piece_is_of operation (Puts id body) = refl
piece_is_of operation (Gets id) = refl
piece_is_of operation (Deletes id) = refl

pub live_given : (shape : Shape) (event : Event) (r : Record) (heard : Heard) (events : ℕ) (old new : Live) → events_in r ≡ events → heard ≡ heard_of event → IsTold (heard_by old.operation heard) events old new → OwnsLive shape r old [] → OwnsLive shape (Given event ∷ r) new []
live_given shape event r heard events old new n e told o =
    let rules = simple_rules shape in
    let mine : Heard = heard_by old.operation heard in
    let t = target_for shape (clock_of o.then) o.job in
    let calls = told_calls mine (told_all mine events old.requests) o.calls in
    let next : next_request calls ≡ next_request o.calls = next_told mine (told_all mine events old.requests) o.calls in
    let there : OwnsCalls shape (piece_for old.operation o.job) t (Given event ∷ r) (left mine events old.requests) calls [] =
    subst (λ (k : ℕ). OwnsCalls shape (piece_for old.operation o.job) t (Given event ∷ r) (left (heard_by k heard) events old.requests) (told_calls (heard_by k heard) (told_all (heard_by k heard) events old.requests) o.calls) []) (piece_is_of old.operation o.job)
    (event_told_by rules (piece_for old.operation o.job) t event r heard events old.requests o.calls [] n o.under_way.going.kept e o.owns) in
    record {
      job = o.job;
      then = o.then;
      calls = calls;
      next = o.next;
      from = o.from;
      under_way = subst (λ (k : ℕ). IsUnderWay rules (Given event ∷ r) k (begun_as o.job) o.then o.next) (sym told.operation) (given rules event r old.operation (begun_as o.job) o.then o.next o.under_way);
      aims = subst (λ (k : ℕ). AimsBelow (Given event ∷ r) k o.next) (sym told.operation) (below_stays (Given event) r old.operation o.next o.next (λ c p a x. absurd cc) (omega arith) o.aims);
      drawn = subst (λ (k : ℕ). HasDrawnId (Given event ∷ r) k (clock_of o.then) o.job) (sym told.operation) (drawn_later (Given event) r old.operation (clock_of o.then) o.job o.drawn);
      does = told.does shape (clock_of o.then) o.job o.calls o.does;
      goes_on = goes_told mine (told_all mine events old.requests) o.calls o.goes_on;
      owns = subst (λ (k : ℕ). OwnsCalls shape (piece_for k o.job) t (Given event ∷ r) new.requests calls []) (sym told.operation)
          (subst (λ (ws : List Waiting). OwnsCalls shape (piece_for old.operation o.job) t (Given event ∷ r) ws calls []) (sym told.requests) there);
      some = o.some;
      ahead = o.ahead;
      numbered = tt;
      counted = o.counted ∙ sym next;
      for_piece = tt;
      kept_all = subst (λ (l : List Sending). EachIs (λ sending. is_given_up sending.purpose ≡ false) l) (sym (sent_told mine (told_all mine events old.requests) o.calls)) o.kept_all;
    }

-- ---- requests

-- what is kept of an operation that added requests: they go out one after the other
pub live_added : (shape : Shape) (r : Record) (old new : Live) (pending : IsPending shape r old) → new.operation ≡ old.operation → new.requests ≡ old.requests
    → ((calls : List Call) → DoesJob shape (clock_of pending.0.then) pending.0.job old.op calls → DoesJob shape (clock_of pending.0.then) pending.0.job new.op (sent_all ((plan_for shape (clock_of pending.0.then) pending.0.job).wants calls order) calls))
    → OwnsLive shape r new (wants_now pending.0)
live_added shape r old new pending same kept does =
    let rules = simple_rules shape in
    let o = pending.0 in
    let moment = clock_of o.then in
    let t = target_for shape moment o.job in
    let batch : List Sending = wants_now o in
    let for_piece = wants_pending shape moment o.job o.calls order o.does.given pending.1 in
    let numbers : GoOnFrom (next_request o.calls) batch = wants_numbered shape moment o.job o.calls order o.does.given in
    let there : OwnsCalls shape (piece_for old.operation o.job) t r old.requests (sent_all batch o.calls) batch =
    batch_added shape (piece_for old.operation o.job) t r old.requests o.calls batch (numbered_sent batch o.calls o.owns.numbered numbers)
    (λ s h. is_for_piece shape moment o.job s (each_has (IsForPiece shape moment o.job) batch for_piece s h)) o.owns in
    record {
      job = o.job;
      then = o.then;
      calls = sent_all batch o.calls;
      next = o.next;
      from = next_request o.calls;
      under_way = subst (λ (k : ℕ). IsUnderWay rules r k (begun_as o.job) o.then o.next) (sym same) o.under_way;
      aims = subst (λ (k : ℕ). AimsBelow r k o.next) (sym same) o.aims;
      drawn = subst (λ (k : ℕ). HasDrawnId r k moment o.job) (sym same) o.drawn;
      does = does o.calls o.does;
      goes_on = goes_sent batch o.calls o.goes_on;
      owns = subst (λ (k : ℕ). OwnsCalls shape (piece_for k o.job) t r new.requests (sent_all batch o.calls) batch) (sym same)
          (subst (λ (ws : List Waiting). OwnsCalls shape (piece_for old.operation o.job) t r ws (sent_all batch o.calls) batch) (sym kept) there);
      some = o.some;
      ahead = let c = o.counted in let a = o.ahead in omega (arith, c, a);
      numbered = numbers;
      counted = next_sent batch o.calls;
      for_piece = for_piece;
      kept_all = each_sent (λ sending. is_given_up sending.purpose ≡ false) batch o.calls (no_removals shape moment o.job batch for_piece) o.kept_all;
    }

-- the record with what the next request is for
record IsAimed (shape : Shape) (r : Record) (live : Live) (s : Sending) (rest : List Sending) (o : OwnsLive shape r live (s ∷ rest)) : Type 0 where
  under_way : IsUnderWay (simple_rules shape) (aimed_record live.operation s r) live.operation (begun_as o.job) o.then s.request
  owns : OwnsCalls shape (piece_for live.operation o.job) (target_for shape (clock_of o.then) o.job) (aimed_record live.operation s r) live.requests o.calls (s ∷ rest)
  aims : AimsBelow (aimed_record live.operation s r) live.operation (s.request + 1)

-- requests may have numbers that rise further
further : (shape : Shape) (r : Record) (operation : ℕ) (job : Job) (then : Record) (next later : ℕ) → next ≤ later → IsUnderWay (simple_rules shape) r operation (begun_as job) then next → IsUnderWay (simple_rules shape) r operation (begun_as job) then later
further shape r operation job then next later more u = record {
  going = u.going;
  known = u.known;
  began = u.began;
  undone = u.undone;
  below = λ a h e. let b = u.below a h e in omega (arith, b, more);
}

is_aimed : (shape : Shape) (r : Record) (live : Live) (s : Sending) (rest : List Sending) (o : OwnsLive shape r live (s ∷ rest)) → IsAimed shape r live s rest o
is_aimed shape r live s rest o =
    let rules = simple_rules shape in
    let n = o.numbered.0 in
    let more : o.next ≤ s.request = let a = o.ahead in omega (arith, n, a) in
    let u = further shape r live.operation o.job o.then o.next s.request more o.under_way in
    record {
      under_way = aims rules r live.operation (begun_as o.job) o.then s.request (correlation_for live.operation s) Top 0 u;
      owns = item_stays rules (piece_for live.operation o.job) (target_for shape (clock_of o.then) o.job) (Aimed (correlation_for live.operation s) Top 0) r live.requests o.calls (s ∷ rest) o.under_way.going.kept refl refl o.owns;
      aims = below_aimed (correlation_for live.operation s) Top 0 r live.operation s.request refl (below_more r live.operation o.next s.request more o.aims);
    }

-- the next request is one that may be sent now
pub record GoesOut (shape : Shape) (r : Record) (clock events : ℕ) (live : Live) (s : Sending) (rest : List Sending) (o : OwnsLive shape r live (s ∷ rest)) (bytes : List ℕ) : Type 0 where
  pub reads : frame_of bytes ≡ Some (frame_for live.operation (clock_of o.then) o.job s)
  pub small : s.request < 2 ^ 32
  pub clocks : clock ≡ clock_of r
  pub counts : events ≡ events_in r

goes_out_entry : (shape : Shape) (r : Record) (clock events : ℕ) (live : Live) (s : Sending) (rest : List Sending) (o : OwnsLive shape r live (s ∷ rest)) (bytes : List ℕ) → IsShape shape → GoesOut shape r clock events live s rest o bytes
    → SendsEntry shape (piece_for live.operation o.job) (aimed_record live.operation s r) (entry_for shape live.operation clock events s) (node_for shape s) bytes
goes_out_entry shape r clock events live s rest o bytes is g =
    let n = o.numbered.0 in
    let a = o.ahead in
    let low : s.request < 2 ^ 32 = let m = g.small in omega (arith, m) in
    sends_entry shape live.operation clock events (clock_of o.then) o.job s r bytes is o.for_piece.0 low g.reads g.clocks g.counts
    (λ x h e. let b = o.under_way.below x h e in omega (arith, b, n, a))

pub live_sent : (shape : Shape) (r : Record) (clock events : ℕ) (old new : Live) (s : Sending) (rest : List Sending) (bytes : List ℕ) (o : OwnsLive shape r old (s ∷ rest)) → IsShape shape → GoesOut shape r clock events old s rest o bytes
    → new.operation ≡ old.operation → new.requests ≡ old.requests ++ entry_for shape old.operation clock events s ∷ [] → DoesJob shape (clock_of o.then) o.job new.op o.calls
    → OwnsLive shape (Took (Step.Send 0 (node_for shape s) bytes) ∷ aimed_record old.operation s r) new rest
live_sent shape r clock events old new s rest bytes o is g same kept does =
    let rules = simple_rules shape in
    let item : Item = Took (Step.Send 0 (node_for shape s) bytes) in
    let moment = clock_of o.then in
    let t = target_for shape moment o.job in
    let mid = is_aimed shape r old s rest o in
    let n = o.numbered.0 in
    let c = o.counted in
    let f : Frame = frame_for old.operation moment o.job s in
    let some : 0 < s.request = let z = o.some in let a = o.ahead in omega (arith, z, a, n) in
    let low : s.request < 2 ^ 32 = let m = g.small in omega (arith, m) in
    let out = sends rules (aimed_record old.operation s r) old.operation (begun_as o.job) o.then s.request (node_for shape s) f (record { part = Top; attempt = 0 }) bytes mid.under_way
    (sendable shape old.operation s.request o.job s o.then r is o.for_piece.0 refl some g.small mid.under_way o.drawn o.does.served) (decoded_frame bytes f g.reads) in
    let there = request_sent shape (piece_for old.operation o.job) t (aimed_record old.operation s r) old.requests o.calls s rest (entry_for shape old.operation clock events s) (node_for shape s) bytes
    (goes_out_entry shape r clock events old s rest o bytes is g) (own_request shape old.operation clock events o.job s low) mid.owns in
    record {
      job = o.job;
      then = o.then;
      calls = o.calls;
      next = s.request + 1;
      from = o.from + 1;
      under_way = subst (λ (k : ℕ). IsUnderWay rules (item ∷ aimed_record old.operation s r) k (begun_as o.job) o.then (s.request + 1)) (sym same) out;
      aims = subst (λ (k : ℕ). AimsBelow (item ∷ aimed_record old.operation s r) k (s.request + 1)) (sym same)
          (below_stays item (aimed_record old.operation s r) old.operation (s.request + 1) (s.request + 1) (λ x p a e. absurd cc) (omega arith) mid.aims);
      drawn = subst (λ (k : ℕ). HasDrawnId (item ∷ aimed_record old.operation s r) k moment o.job) (sym same) (drawn_later item (aimed_record old.operation s r) old.operation moment o.job (drawn_later (Aimed (correlation_for old.operation s) Top 0) r old.operation moment o.job o.drawn));
      does = does;
      goes_on = o.goes_on;
      owns = subst (λ (k : ℕ). OwnsCalls shape (piece_for k o.job) t (item ∷ aimed_record old.operation s r) new.requests o.calls rest) (sym same)
          (subst (λ (ws : List Waiting). OwnsCalls shape (piece_for old.operation o.job) t (item ∷ aimed_record old.operation s r) ws o.calls rest) (sym kept) there);
      some = omega arith;
      ahead = omega (arith, n);
      numbered = o.numbered.1;
      counted = omega (arith, c);
      for_piece = o.for_piece.1;
      kept_all = o.kept_all;
    }

pub live_refused : (shape : Shape) (r : Record) (clock events : ℕ) (old new : Live) (s : Sending) (rest : List Sending) (bytes : List ℕ) (o : OwnsLive shape r old (s ∷ rest)) → IsShape shape → old.operation < 2 ^ 31
    → GoesOut shape r clock events old s rest o bytes → new.operation ≡ old.operation → new.requests ≡ old.requests → DoesJob shape (clock_of o.then) o.job new.op (Missed s.request Cause.Broken ∷ o.calls)
    → OwnsLive shape (Took (Step.Refused (node_for shape s) bytes) ∷ aimed_record old.operation s r) new rest
live_refused shape r clock events old new s rest bytes o is number g same kept does =
    let rules = simple_rules shape in
    let item : Item = Took (Step.Refused (node_for shape s) bytes) in
    let moment = clock_of o.then in
    let t = target_for shape moment o.job in
    let mid = is_aimed shape r old s rest o in
    let n = o.numbered.0 in
    let c = o.counted in
    let f : Frame = frame_for old.operation moment o.job s in
    let some : 0 < s.request = let z = o.some in let a = o.ahead in omega (arith, z, a, n) in
    let low : s.request < 2 ^ 32 = let m = g.small in omega (arith, m) in
    let entry = goes_out_entry shape r clock events old s rest o bytes is g in
    let out = refused rules (aimed_record old.operation s r) old.operation (begun_as o.job) o.then s.request (node_for shape s) f (record { part = Top; attempt = 0 }) bytes mid.under_way
    (sendable shape old.operation s.request o.job s o.then r is o.for_piece.0 refl some g.small mid.under_way o.drawn o.does.served) (decoded_frame bytes f g.reads) in
    let own : router_frame (frame_in bytes) ≡ Some f = ap router_frame (decoded_frame bytes f g.reads) ∙ low_frame f (low_number old.operation s.request number low) in
    let fails : FailsToSend shape (piece_for old.operation o.job) (aimed_record old.operation s r) s.replica (node_for shape s) f = record {
      fits = subst (λ (x : Frame). is_of (piece_for old.operation o.job) (ask_as x (node_for shape s) (aimed_record old.operation s r)) ≡ true) (same_frame bytes entry.frame f entry.reads (decoded_frame bytes f g.reads)) entry.fits;
      stands = subst (λ (x : Frame). replica_of shape x.partition (node_for shape s) ≡ Some s.replica) (same_frame bytes entry.frame f entry.reads (decoded_frame bytes f g.reads)) entry.entry.replica;
      fresh = subst (λ (x : Frame). (a : Asked) → Has (asked (aimed_record old.operation s r)) a → a.correlation ≡ x.correlation → ⊥) (same_frame bytes entry.frame f entry.reads (decoded_frame bytes f g.reads)) entry.fresh;
    } in
    let there = request_refused shape (piece_for old.operation o.job) t (aimed_record old.operation s r) old.requests o.calls s rest (node_for shape s) bytes f own fails mid.owns in
    let calls : List Call = Missed s.request Cause.Broken ∷ o.calls in
    record {
      job = o.job;
      then = o.then;
      calls = calls;
      next = s.request + 1;
      from = o.from + 1;
      under_way = subst (λ (k : ℕ). IsUnderWay rules (item ∷ aimed_record old.operation s r) k (begun_as o.job) o.then (s.request + 1)) (sym same) out;
      aims = subst (λ (k : ℕ). AimsBelow (item ∷ aimed_record old.operation s r) k (s.request + 1)) (sym same)
          (below_stays item (aimed_record old.operation s r) old.operation (s.request + 1) (s.request + 1) (λ x p a e. absurd cc) (omega arith) mid.aims);
      drawn = subst (λ (k : ℕ). HasDrawnId (item ∷ aimed_record old.operation s r) k moment o.job) (sym same) (drawn_later item (aimed_record old.operation s r) old.operation moment o.job (drawn_later (Aimed (correlation_for old.operation s) Top 0) r old.operation moment o.job o.drawn));
      does = does;
      goes_on = (refl, o.goes_on);
      owns = subst (λ (k : ℕ). OwnsCalls shape (piece_for k o.job) t (item ∷ aimed_record old.operation s r) new.requests calls rest) (sym same)
          (subst (λ (ws : List Waiting). OwnsCalls shape (piece_for old.operation o.job) t (item ∷ aimed_record old.operation s r) ws calls rest) (sym kept) there);
      some = omega arith;
      ahead = omega (arith, n);
      numbered = o.numbered.1;
      counted = omega (arith, c);
      for_piece = o.for_piece.1;
      kept_all = o.kept_all;
    }
  where
    same_frame : (bytes : List ℕ) (a b : Frame) → frame_in bytes ≡ Some a → frame_in bytes ≡ Some b → a ≡ b
    same_frame bytes a b x y = let z : Some a ≡ Some b = sym x ∙ y in cc

    low_number : (operation n : ℕ) → operation < 2 ^ 31 → n < 2 ^ 32 → operation * 2 ^ 32 + n < 2 ^ 63
    low_number operation n a b = omega arith

-- ---- how it is over

-- an outcome stays
outcome_later : (shape : Shape) (moment : ℕ) (job : Job) (call : Call) (calls : List Call) (how : Outcome) → (plan_for shape moment job).outcome calls ≡ Some how → (plan_for shape moment job).outcome (call ∷ calls) ≡ Some how
outcome_later shape moment (Puts id body) call calls how e = ap (λ (o : Option Outcome). or_else o (or_else (stop_by call) (put_decides (put_task shape moment body) (call ∷ calls)))) e
outcome_later shape moment (Gets id) call calls how e = ap (λ (o : Option Outcome). or_else o (or_else (stop_by call) (get_decides (get_task shape id) (call ∷ calls)))) e
outcome_later shape moment (Deletes id) call calls how e = ap (λ (o : Option Outcome). or_else o (or_else (stop_by call) (delete_decides (delete_task shape moment id) (call ∷ calls)))) e

outcome_sent : (shape : Shape) (moment : ℕ) (job : Job) (batch : List Sending) (calls : List Call) (how : Outcome) → (plan_for shape moment job).outcome calls ≡ Some how → (plan_for shape moment job).outcome (sent_all batch calls) ≡ Some how
outcome_sent shape moment job [] calls how e = e
outcome_sent shape moment job (s ∷ rest) calls how e = outcome_sent shape moment job rest (Sent s ∷ calls) how (outcome_later shape moment job (Sent s) calls how e)

some_same : (a b : Outcome) → Some a ≡ Some b → a ≡ b
some_same a b e = cc

placed_put : (shape : Shape) (how : Outcome) (id : BlobId) → placed shape how ≡ Outcome.Put id → how ≡ Outcome.Put id
placed_put shape (Outcome.Put x) id e = e
placed_put shape Outcome.Deleted2 id e = absurd cc
placed_put shape (Outcome.Bytes bytes) id e = absurd cc
placed_put shape (Outcome.Info size created ctype meta) id e = absurd cc
placed_put shape Outcome.Deleted id e = absurd cc
placed_put shape Outcome.NotFound id e = absurd cc
placed_put shape (Outcome.Unavailable other failed) id e = absurd cc
placed_put shape Outcome.Cancelled id e = absurd cc
placed_put shape (Outcome.TooLarge size) id e = absurd cc
placed_put shape (Outcome.BadRange size) id e = absurd cc
placed_put shape Outcome.NotWhole id e = absurd cc
placed_put shape Outcome.NoFile id e = absurd cc
placed_put shape Outcome.NoId id e = absurd cc
placed_put shape Outcome.NoPartition id e = absurd cc
placed_put shape (Outcome.Missing other) id e = absurd cc
placed_put shape (Outcome.Corrupt other) id e = absurd cc
placed_put shape Outcome.Memory id e = absurd cc

-- What is over by its calls is over in the record, and may still give up what it has drawn.
pub live_over : (shape : Shape) (r : Record) (old new : Live) (how : Outcome) (o : OwnsLive shape r old []) → outcome_now o ≡ Some how → IsAnswer shape (placed shape how) → new.operation ≡ old.operation
    → ((moment : ℕ) (job : Job) (calls : List Call) → DoesJob shape moment job old.op calls → DoesJob shape moment job new.op (Polled ∷ calls)) → IsSettled shape (Decided old.operation (placed shape how) ∷ r) new (placed shape how)
live_over shape r old new how o came answer same does =
    let rules = simple_rules shape in
    let moment = clock_of o.then in
    let item : Item = Decided old.operation (placed shape how) in
    let decided : decides_for shape moment o.job o.calls ≡ Some how = sym (outcome_is shape moment o.job o.calls o.goes_on) ∙ came in
    let why = follows shape r old.operation moment o.job o.calls how o.drawn o.does.served o.does.given o.owns.owns.notes o.owns.owns.blob decided in
    let over = decides rules r old.operation (begun_as o.job) o.then o.next (placed shape how) o.under_way why (not_cancelled (placed shape how) answer) in (
      record {
        job = o.job;
        moment = moment;
        calls = Polled ∷ o.calls;
        next = o.next;
        from = o.from;
        over = subst (λ (k : ℕ). IsOver rules (item ∷ r) k (placed shape how)) (sym same) over;
        now = subst (λ (k : ℕ). IsDecidedIn (item ∷ r) k (placed shape how) (turns_in r)) (sym same) (record { at = r; decided = inl refl; turn_is = refl });
        asks = subst (λ (k : ℕ). AsksBelow (item ∷ r) k o.next) (sym same) o.under_way.below;
        aims = subst (λ (k : ℕ). AimsBelow (item ∷ r) k o.next) (sym same) (below_stays item r old.operation o.next o.next (λ x p a e. absurd cc) (omega arith) o.aims);
        drawn = subst (λ (k : ℕ). HasDrawnId (item ∷ r) k moment o.job) (sym same) (drawn_later item r old.operation moment o.job o.drawn);
        drew_only = subst (λ (k : ℕ). DrewOnly (item ∷ r) k o.job) (sym same) drew;
        does = does moment o.job o.calls o.does;
        how = how;
        came = outcome_later shape moment o.job Polled o.calls how came;
        same = λ id e. placed_put shape how id e;
        stored = λ id e. ap (λ (x : Outcome). placed shape x) e;
        some = o.some;
        ahead = o.ahead;
        numbered = tt;
        counted = o.counted;
        giving = tt;
      },
      o.kept_all,
    )
  where
    drew : DrewOnly (Decided old.operation (placed shape how) ∷ r) old.operation o.job
    drew = λ id blob h. elim h [ inl e ↦ absurd (cc e) | inr t ↦ drew_only shape r old.operation (clock_of o.then) o.job o.then o.next o.under_way o.drawn id blob t ]

    not_cancelled : (outcome : Outcome) → IsAnswer shape outcome → outcome ≢ Outcome.Cancelled
    not_cancelled outcome answer e = let z : IsAnswer shape Outcome.Cancelled = subst (λ (o : Outcome). IsAnswer shape o) e answer in absurd z

-- what it adds then is what it gives up
pub leaves_added : (shape : Shape) (r : Record) (old new : Live) (outcome : Outcome) (o : Leaves shape r old outcome []) → new.operation ≡ old.operation
    → ((calls : List Call) → DoesJob shape o.moment o.job old.op calls → DoesJob shape o.moment o.job new.op (sent_all ((plan_for shape o.moment o.job).wants calls order) calls))
    → Leaves shape r new outcome ((plan_for shape o.moment o.job).wants o.calls order)
leaves_added shape r old new outcome o same does =
    let rules = simple_rules shape in
    let batch : List Sending = (plan_for shape o.moment o.job).wants o.calls order in
    record {
      job = o.job;
      moment = o.moment;
      calls = sent_all batch o.calls;
      next = o.next;
      from = next_request o.calls;
      over = subst (λ (k : ℕ). IsOver rules r k outcome) (sym same) o.over;
      now = subst (λ (k : ℕ). IsDecidedIn r k outcome (turns_in r)) (sym same) o.now;
      asks = subst (λ (k : ℕ). AsksBelow r k o.next) (sym same) o.asks;
      aims = subst (λ (k : ℕ). AimsBelow r k o.next) (sym same) o.aims;
      drawn = subst (λ (k : ℕ). HasDrawnId r k o.moment o.job) (sym same) o.drawn;
      drew_only = subst (λ (k : ℕ). DrewOnly r k o.job) (sym same) o.drew_only;
      does = does o.calls o.does;
      how = o.how;
      came = outcome_sent shape o.moment o.job batch o.calls o.how o.came;
      same = o.same;
      stored = o.stored;
      some = o.some;
      ahead = let c = o.counted in let a = o.ahead in omega (arith, c, a);
      numbered = wants_numbered shape o.moment o.job o.calls order o.does.given;
      counted = next_sent batch o.calls;
      giving = wants_over shape o.moment o.job o.calls order o.how o.does.given o.came;
    }

-- and where that isn't the ok of a put, these are deletes of what it drew at each replica
pub settled_added : (shape : Shape) (r : Record) (old new : Live) (outcome : Outcome) (o : IsSettled shape r old outcome) → new.operation ≡ old.operation
    → ((calls : List Call) → DoesJob shape o.0.moment o.0.job old.op calls → DoesJob shape o.0.moment o.0.job new.op (sent_all ((plan_for shape o.0.moment o.0.job).wants calls order) calls))
    → GivesAllUp shape r new outcome ((plan_for shape o.0.moment o.0.job).wants o.0.calls order)
settled_added shape r old new outcome o same does = (
  leaves_added shape r old new outcome o.0 same does,
  λ none id blob h replica l. inr (todo none id (o.0.drew_only id blob (subst (λ (k : ℕ). Has r (Drawn k Top 0 id blob)) same h)) replica l),
)
  where
    todo : IsNoStore outcome → (id : BlobId) → (body : List ℕ) × (o.0.job ≡ Puts id body) → (replica : ℕ) → replica < shape.replicas → IsToDelete ((plan_for shape o.0.moment o.0.job).wants o.0.calls order) id replica
    todo none id p replica l =
        let put : Job = Puts id p.0 in
        subst (λ (j : Job). IsToDelete ((plan_for shape o.0.moment j).wants o.0.calls order) id replica) (sym p.1)
        (all_wanted shape o.0.moment id p.0 o.0.calls order o.0.how (subst (λ (j : Job). WasGiven shape o.0.moment j o.0.calls) p.1 o.0.does.given)
        (subst (λ (j : Job). (plan_for shape o.0.moment j).outcome o.0.calls ≡ Some o.0.how) p.1 o.0.came) (λ x e. none x (o.0.stored x e)) o.1 replica l)
