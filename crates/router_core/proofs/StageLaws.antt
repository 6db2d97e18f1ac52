-- How the record of a router goes on from stage to stage.
use Rattle.std.proofs.Common.{◌≡◌, ◌≢◌, ℕ, ◌+◌, ◌*◌, ◌/◌, ◌^◌, ◌<◌, ◌≤◌, ◌==◌, max, Bool, true, false, ◌&&◌, not, cond, List, [], ◌∷◌, ◌++◌, length, map, Option, Some, None, IsSome, ◌-◌, refl, sym, ap, ◌∙◌, subst, inl, inr, arith}
use Rattle.std.proofs.lemmas.Bool.{lt-ltb, le-leb}
use Rattle.std.proofs.lemmas.Bool.Decides.{nat_tests}
use Rattle.std.proofs.lemmas.Nat.{div-mul-add, mod-mul-add}
use Rattle.blob_id.specs.declared.blob.Blob.{Blob}
use Rattle.blob_id.specs.declared.id.BlobId.{BlobId}
use Rattle.blob_id.specs.Id.{partition_of}
use Rattle.quorum_op.specs.declared.outcome.Outcome.{Outcome}
use Rattle.req_frame.specs.declared.frame.Body.{Body}
use Rattle.req_frame.specs.declared.frame.Frame.{Frame}
use Rattle.world_model.specs.declared.history.Begun.{Begun}
use Rattle.world_model.specs.declared.history.HistoryMark.{HistoryMark}
use Rattle.world_model.specs.declared.history.HistoryMark.TheVariants.{Begin, End, Wait, Ordered}
use Rattle.world_model.specs.declared.order.Order.{Order}
use Rattle.world_model.specs.declared.order.Told.{Told}
use Rattle.world_model.specs.declared.shape.Shape.{Shape}
use Rattle.world_model.specs.declared.step.Event.{Event}
use Rattle.world_model.specs.declared.step.Step.{Step}
use Rattle.world_model.specs.Frames.{frame_in}
use Rattle.world_model.specs.Lists.{Has, Earlier}
use Rattle.world_model.specs.Notes.{Aim, Asked, Piece, ask_as, asked_by, asked_now, asked, aim_of, aims_at, fits, kind_of, id_of, is_of, is_drained, clock_of, events_in, operation_of, request_of, router_frame}
use Rattle.world_model.specs.Orders.{CameTo}
use Rattle.world_model.specs.Outcomes.{DrewNothing, IsWhole, Follows}
use Rattle.world_model.specs.Pieces.{is_simple}
use Rattle.world_model.specs.Record.{Part, Top, Item, Marked, Drawn, Aimed, Took, Given, Decided, Record, turns_in}
use Rattle.world_model.specs.Router.{GaveUp, MaySend, MaySendFor, SendsFrame, SendsSome, RefusesSome, BeginsNext, Decides, DrawsPart, GoesFirst, Ends, IsDone, HasEnded, Keeps, IsKept, begun_in, number_of}
use Rattle.world_model.specs.Rules.{Rules, in_turn}
use Rattle.world_model.specs.Shape.{replica_of}
use Rattle.world_model.specs.Told.{is_frame, is_network, AllNetwork}
use Rattle.world_model.proofs.CellLaws.{same_number}
use Rattle.world_model.proofs.ListLaws.{earlier_tail, earlier_trans, head_has, has_append, has_at, has_later, has_right, each_at}
use Rattle.world_model.proofs.RouterLaws.{begun_most, drawn_at}
use Rattle.op_table.specs.Apart.{IsApart}
use Rattle.router_core.specs.Removals.{AskedToDelete, DeletesDrawn, DeletesWhatFailed}
use Rattle.router_core.specs.Stages.{simple_rules, IsDecidedIn, IsGoing, IsUnderWay, IsOver}

-- ---- items that change little

-- an item that the router may keep, that begins no operation and drains no node
record IsSteady (rules : Rules) (item : Item) (before : Record) : Type 0 where
  keeps : Keeps rules item before
  begins : begun_in (item ∷ before) ≡ begun_in before
  drains : (node : ℕ) → is_drained node (item ∷ before) ≡ is_drained node before

-- an item that changes no stage: it asks nothing either, and decides and ends no operation
record IsQuiet (rules : Rules) (item : Item) (before : Record) : Type 0 where
  steady : IsSteady rules item before
  asks : asked_now item before ≡ []
  decides : (operation : ℕ) (outcome : Outcome) → Decided operation outcome ≡ item → ⊥
  ends : (operation : ℕ) (outcome : Outcome) → Marked (End operation outcome) ≡ item → ⊥

-- what is asked behind an item, by what is asked now
asked_on : (P : Asked → Type 0) (item : Item) (r : Record) → ((a : Asked) → Has (asked_now item r) a → P a) → ((a : Asked) → Has (asked r) a → P a) → (a : Asked) → Has (asked (item ∷ r)) a → P a
asked_on P item r now before a h = elim (has_append (asked_now item r) (asked r) a h) [ inl x ↦ now a x | inr x ↦ before a x ]

none_asked : (P : Asked → Type 0) (item : Item) (r : Record) → asked_now item r ≡ [] → (a : Asked) → Has (asked_now item r) a → P a
none_asked P item r e a h = let z : Has [] a = subst (λ (l : List Asked). Has l a) e h in absurd z

-- ---- what was given up

-- what has ended became done
ended_done : (rules : Rules) (r : Record) (operation : ℕ) → IsKept rules r → HasEnded r operation → IsDone r operation
ended_done rules r operation kept e =
    let a = has_at r (Marked (End operation e.0)) e.1 in
    let d : Ends a.0 operation e.0 = each_at (Keeps rules) r (Marked (End operation e.0)) a.0 kept a.1 in
    (e.0, has_later a.0 r _ (earlier_tail _ a.0 r a.1) (head_has _ d.at a.0 d.decided))

-- what was asked stays asked
pub asked_later : (shape : Shape) (item : Item) (r : Record) (operation : ℕ) (id : BlobId) (replica : ℕ) → AskedToDelete shape r operation id replica → AskedToDelete shape (item ∷ r) operation id replica
asked_later shape item r operation id replica a = record { request = a.request; asked = has_right (asked_now item r) (asked r) a.request a.asked; own = a.own; node = a.node; body = a.body }

-- an item by which the operation draws nothing
pub deletes_on : (shape : Shape) (item : Item) (r : Record) (operation : ℕ) (outcome : Outcome) → ((id : BlobId) (blob : Blob) → Drawn operation Top 0 id blob ≡ item → ⊥) → DeletesDrawn shape r operation outcome → DeletesDrawn shape (item ∷ r) operation outcome
deletes_on shape item r operation outcome apart d = λ none id blob h replica l. elim h [
  | inl e ↦ absurd (apart id blob e)
  | inr t ↦ asked_later shape item r operation id replica (d none id blob t replica l)
]

-- what is done draws no more
draws_no_more : (rules : Rules) (item : Item) (r : Record) (operation : ℕ) → Keeps rules item r → IsDone r operation → (id : BlobId) (blob : Blob) → Drawn operation Top 0 id blob ≡ item → ⊥
draws_no_more rules item r operation keeps done id blob e = let d : DrawsPart rules r operation Top 0 id blob = subst (λ (x : Item). Keeps rules x r) (sym e) keeps in d.live done

-- no operation ends by this item
abbrev EndsNone : Item → Type 0
EndsNone item = (operation : ℕ) (outcome : Outcome) → Marked (End operation outcome) ≡ item → ⊥

deletes_still : (rules : Rules) (item : Item) (r : Record) → IsKept rules r → Keeps rules item r → EndsNone item → DeletesWhatFailed rules.shape r → DeletesWhatFailed rules.shape (item ∷ r)
deletes_still rules item r kept keeps none d = λ operation outcome h. elim h [
  | inl e ↦ absurd (none operation outcome e)
  | inr t ↦ deletes_on rules.shape item r operation outcome (draws_no_more rules item r operation keeps (ended_done rules r operation kept (outcome, t))) (d operation outcome t)
]

-- ---- what is true at any time

going_with : (rules : Rules) (item : Item) (r : Record) → IsSteady rules item r → ((a : Asked) → Has (asked_now item r) a → operation_of a.correlation ≤ begun_in r) → DeletesWhatFailed rules.shape (item ∷ r) → IsGoing rules r → IsGoing rules (item ∷ r)
going_with rules item r s now deletes g = record {
  kept = (g.kept, s.keeps);
  undrained = λ node. s.drains node ∙ g.undrained node;
  within = asked_on (λ a. operation_of a.correlation ≤ begun_in (item ∷ r)) item r (λ a h. more a (now a h)) (λ a h. more a (g.within a h));
  deletes = deletes;
}
  where
    more : (a : Asked) → operation_of a.correlation ≤ begun_in r → operation_of a.correlation ≤ begun_in (item ∷ r)
    more a l = subst (λ (n : ℕ). operation_of a.correlation ≤ n) (sym s.begins) l

going_on : (rules : Rules) (item : Item) (r : Record) → IsSteady rules item r → EndsNone item → ((a : Asked) → Has (asked_now item r) a → operation_of a.correlation ≤ begun_in r) → IsGoing rules r → IsGoing rules (item ∷ r)
going_on rules item r s none now g = going_with rules item r s now (deletes_still rules item r g.kept s.keeps none g.deletes) g

going_quiet : (rules : Rules) (item : Item) (r : Record) → IsQuiet rules item r → IsGoing rules r → IsGoing rules (item ∷ r)
going_quiet rules item r q g = going_on rules item r q.steady q.ends (none_asked (λ a. operation_of a.correlation ≤ begun_in r) item r q.asks) g

-- an operation goes on by an item that decides none, whose requests are its own and have numbers below `later`
under_way_on : (rules : Rules) (item : Item) (r : Record) (operation : ℕ) (begun : Begun) (then : Record) (next later : ℕ) → IsSteady rules item r → ((other : ℕ) (outcome : Outcome) → Decided other outcome ≡ item → ⊥) → EndsNone item
    → ((a : Asked) → Has (asked_now item r) a → (operation_of a.correlation ≡ operation) × (a.correlation < operation * 2 ^ 32 + later)) → next ≤ later
    → IsUnderWay rules r operation begun then next → IsUnderWay rules (item ∷ r) operation begun then later
under_way_on rules item r operation begun then next later s undecided none now l u = record {
  going = going_on rules item r s none (λ a h. let n = now a h in omega (arith, n.0, u.known)) u.going;
  known = subst (λ (n : ℕ). operation ≤ n) (sym s.begins) u.known;
  began = inr u.began;
  undone = λ d. elim d.1 [ inl e ↦ undecided operation d.0 e | inr t ↦ u.undone (d.0, t) ];
  below = asked_on (λ a. operation_of a.correlation ≡ operation → a.correlation < operation * 2 ^ 32 + later) item r (λ a h e. (now a h).1) (λ a h e. let b = u.below a h e in omega (arith, b, l));
}

under_way_quiet : (rules : Rules) (item : Item) (r : Record) (operation : ℕ) (begun : Begun) (then : Record) (next : ℕ) → IsQuiet rules item r → IsUnderWay rules r operation begun then next → IsUnderWay rules (item ∷ r) operation begun then next
under_way_quiet rules item r operation begun then next q u =
    under_way_on rules item r operation begun then next next q.steady q.decides q.ends (none_asked (λ a. (operation_of a.correlation ≡ operation) × (a.correlation < operation * 2 ^ 32 + next)) item r q.asks) (omega arith) u

-- what is over stays so by an item that decides and ends nothing, whose requests are of operations that began
over_on : (rules : Rules) (item : Item) (r : Record) (operation : ℕ) (outcome : Outcome) → IsSteady rules item r → ((other : ℕ) (how : Outcome) → Decided other how ≡ item → ⊥) → EndsNone item
    → ((a : Asked) → Has (asked_now item r) a → operation_of a.correlation ≤ begun_in r) → IsOver rules r operation outcome → IsOver rules (item ∷ r) operation outcome
over_on rules item r operation outcome s undecided unended now o = record {
  going = going_on rules item r s unended now o.going;
  known = subst (λ (n : ℕ). operation ≤ n) (sym s.begins) o.known;
  decided = inr o.decided;
  unended = λ e. elim e.1 [ inl x ↦ unended operation e.0 x | inr t ↦ o.unended (e.0, t) ];
}

over_quiet : (rules : Rules) (item : Item) (r : Record) (operation : ℕ) (outcome : Outcome) → IsQuiet rules item r → IsOver rules r operation outcome → IsOver rules (item ∷ r) operation outcome
over_quiet rules item r operation outcome q o = over_on rules item r operation outcome q.steady q.decides q.ends (none_asked (λ a. operation_of a.correlation ≤ begun_in r) item r q.asks) o

-- ---- the network, what it gives, and waits

not_true : (b : Bool) → not b ≡ true → b ≡ false
not_true true h = absurd cc
not_true false h = refl

refused_none : (f own : Option Frame) → (is_frame f && not (is_frame own)) ≡ true → own ≡ None
refused_none None own h = absurd cc
refused_none (Some f) None h = refl
refused_none (Some f) (Some own) h = absurd cc

refused_keeps : (shape : Shape) (before : Record) (node : ℕ) (f own : Option Frame) → (is_frame f && not (is_frame own)) ≡ true → RefusesSome shape before node f own
refused_keeps shape before node None own h = absurd cc
refused_keeps shape before node (Some f) None h = tt
refused_keeps shape before node (Some f) (Some own) h = absurd cc

pub network_asks : (step : Step) (before : Record) → is_network step ≡ true → asked_now (Took step) before ≡ []
network_asks (Step.Send from node frame) before h = ap (λ (b : Bool). cond b (asked_by (frame_in frame) node before) []) (not_true (from == 0) h)
network_asks (Step.Refused node frame) before h = ap (λ (o : Option Frame). asked_by o node before) (refused_none (frame_in frame) (router_frame (frame_in frame)) h)
network_asks _ before h = refl

network_keeps : (rules : Rules) (step : Step) (before : Record) → is_network step ≡ true → Keeps rules (Took step) before
network_keeps rules (Step.Send from node frame) before h = λ z. let no : not (0 == 0) ≡ true = subst (λ (n : ℕ). not (n == 0) ≡ true) z h in absurd cc
network_keeps rules (Step.Refused node frame) before h = refused_keeps rules.shape before node (frame_in frame) (router_frame (frame_in frame)) h
network_keeps rules _ before h = tt

quiet_network : (rules : Rules) (step : Step) (before : Record) → is_network step ≡ true → IsQuiet rules (Took step) before
quiet_network rules step before h = record {
  steady = record { keeps = network_keeps rules step before h; begins = refl; drains = λ node. refl };
  asks = network_asks step before h;
  decides = λ operation outcome e. cc e;
  ends = λ operation outcome e. cc e;
}

quiet_given : (rules : Rules) (event : Event) (before : Record) → IsQuiet rules (Given event) before
quiet_given rules event before = record {
  steady = record { keeps = tt; begins = refl; drains = λ node. refl };
  asks = refl;
  decides = λ operation outcome e. cc e;
  ends = λ operation outcome e. cc e;
}

quiet_wait : (rules : Rules) (t : Option ℕ) (before : Record) → IsQuiet rules (Marked (Wait t)) before
quiet_wait rules t before = record {
  steady = record { keeps = tt; begins = refl; drains = λ node. refl };
  asks = refl;
  decides = λ operation outcome e. cc e;
  ends = λ operation outcome e. cc e;
}

quiet_ordered : (rules : Rules) (order : Order) (answer : Told) (before : Record) → CameTo order answer before → IsQuiet rules (Marked (Ordered order answer)) before
quiet_ordered rules order answer before came = record {
  steady = record { keeps = came; begins = refl; drains = λ node. refl };
  asks = refl;
  decides = λ operation outcome e. cc e;
  ends = λ operation outcome e. cc e;
}

-- Steps that are no doing of the router's leave each stage as it is.
pub network : (rules : Rules) (steps : List Step) (r : Record) (operation : ℕ) (begun : Begun) (then : Record) (next : ℕ) → AllNetwork steps → IsUnderWay rules r operation begun then next → IsUnderWay rules (map Took steps ++ r) operation begun then next
network rules [] r operation begun then next h u = u
network rules (step ∷ steps) r operation begun then next h u =
    under_way_quiet rules (Took step) (map Took steps ++ r) operation begun then next (quiet_network rules step (map Took steps ++ r) h.0) (network rules steps r operation begun then next h.1 u)

pub network_going : (rules : Rules) (steps : List Step) (r : Record) → AllNetwork steps → IsGoing rules r → IsGoing rules (map Took steps ++ r)
network_going rules [] r h i = i
network_going rules (step ∷ steps) r h i = going_quiet rules (Took step) (map Took steps ++ r) (quiet_network rules step (map Took steps ++ r) h.0) (network_going rules steps r h.1 i)

pub network_over : (rules : Rules) (steps : List Step) (r : Record) (operation : ℕ) (outcome : Outcome) → AllNetwork steps → IsOver rules r operation outcome → IsOver rules (map Took steps ++ r) operation outcome
network_over rules [] r operation outcome h o = o
network_over rules (step ∷ steps) r operation outcome h o =
    over_quiet rules (Took step) (map Took steps ++ r) operation outcome (quiet_network rules step (map Took steps ++ r) h.0) (network_over rules steps r operation outcome h.1 o)

-- so does what the network gives
pub given : (rules : Rules) (event : Event) (r : Record) (operation : ℕ) (begun : Begun) (then : Record) (next : ℕ) → IsUnderWay rules r operation begun then next → IsUnderWay rules (Given event ∷ r) operation begun then next
given rules event r operation begun then next u = under_way_quiet rules (Given event) r operation begun then next (quiet_given rules event r) u

pub given_going : (rules : Rules) (event : Event) (r : Record) → IsGoing rules r → IsGoing rules (Given event ∷ r)
given_going rules event r i = going_quiet rules (Given event) r (quiet_given rules event r) i

pub given_over : (rules : Rules) (event : Event) (r : Record) (operation : ℕ) (outcome : Outcome) → IsOver rules r operation outcome → IsOver rules (Given event ∷ r) operation outcome
given_over rules event r operation outcome o = over_quiet rules (Given event) r operation outcome (quiet_given rules event r) o

-- and a wait
pub waits : (rules : Rules) (t : Option ℕ) (r : Record) (operation : ℕ) (begun : Begun) (then : Record) (next : ℕ) → IsUnderWay rules r operation begun then next → IsUnderWay rules (Marked (Wait t) ∷ r) operation begun then next
waits rules t r operation begun then next u = under_way_quiet rules (Marked (Wait t)) r operation begun then next (quiet_wait rules t r) u

pub waits_going : (rules : Rules) (t : Option ℕ) (r : Record) → IsGoing rules r → IsGoing rules (Marked (Wait t) ∷ r)
waits_going rules t r i = going_quiet rules (Marked (Wait t)) r (quiet_wait rules t r) i

pub waits_over : (rules : Rules) (t : Option ℕ) (r : Record) (operation : ℕ) (outcome : Outcome) → IsOver rules r operation outcome → IsOver rules (Marked (Wait t) ∷ r) operation outcome
waits_over rules t r operation outcome o = over_quiet rules (Marked (Wait t)) r operation outcome (quiet_wait rules t r) o

-- and an order that came to what was told
pub ordered : (rules : Rules) (order : Order) (answer : Told) (r : Record) (operation : ℕ) (begun : Begun) (then : Record) (next : ℕ) → CameTo order answer r → IsUnderWay rules r operation begun then next → IsUnderWay rules (Marked (Ordered order answer) ∷ r) operation begun then next
ordered rules order answer r operation begun then next came u = under_way_quiet rules (Marked (Ordered order answer)) r operation begun then next (quiet_ordered rules order answer r came) u

pub ordered_going : (rules : Rules) (order : Order) (answer : Told) (r : Record) → CameTo order answer r → IsGoing rules r → IsGoing rules (Marked (Ordered order answer) ∷ r)
ordered_going rules order answer r came i = going_quiet rules (Marked (Ordered order answer)) r (quiet_ordered rules order answer r came) i

pub ordered_over : (rules : Rules) (order : Order) (answer : Told) (r : Record) (operation : ℕ) (outcome : Outcome) → CameTo order answer r → IsOver rules r operation outcome → IsOver rules (Marked (Ordered order answer) ∷ r) operation outcome
ordered_over rules order answer r operation outcome came o = over_quiet rules (Marked (Ordered order answer)) r operation outcome (quiet_ordered rules order answer r came) o

-- Of the clock and the numbers of events and of operations, steps of the network change none.
pub clock_took : (steps : List Step) (r : Record) → clock_of (map Took steps ++ r) ≡ clock_of r
clock_took [] r = refl
clock_took (step ∷ steps) r = clock_took steps r

pub clock_given : (event : Event) (steps : List Step) (r : Record) → clock_of (Given event ∷ (map Took steps ++ r)) ≡ clock_of (Given event ∷ r)
clock_given (Event.Now ms) steps r = ap (λ (n : ℕ). max ms n) (clock_took steps r)
clock_given (Event.Reply node frame) steps r = clock_took steps r
clock_given (Event.Broken node) steps r = clock_took steps r
clock_given Event.Quiet steps r = clock_took steps r

pub begun_took : (steps : List Step) (r : Record) → begun_in (map Took steps ++ r) ≡ begun_in r
begun_took [] r = refl
begun_took (step ∷ steps) r = begun_took steps r

pub turns_took : (steps : List Step) (r : Record) → turns_in (map Took steps ++ r) ≡ turns_in r
turns_took [] r = refl
turns_took (step ∷ steps) r = turns_took steps r

pub events_took : (steps : List Step) (r : Record) → events_in (map Took steps ++ r) ≡ events_in r
events_took [] r = refl
events_took (step ∷ steps) r = events_took steps r

pub begun_given : (event : Event) (steps : List Step) (r : Record) → begun_in (Given event ∷ (map Took steps ++ r)) ≡ begun_in r
begun_given event steps r = begun_took steps r

pub events_given : (event : Event) (steps : List Step) (r : Record) → events_in (Given event ∷ (map Took steps ++ r)) ≡ 1 + events_in r
events_given event steps r = ap (λ (n : ℕ). 1 + n) (events_took steps r)

-- ---- between operations

-- before the first item no operation is under way
pub empty_going : (rules : Rules) → IsGoing rules []
empty_going rules = record { kept = tt; undrained = λ node. refl; within = λ a h. absurd h; deletes = λ operation outcome h. absurd h }

-- what became done was begun
done_begun : (rules : Rules) (r : Record) (operation : ℕ) (outcome : Outcome) → IsKept rules r → Has r (Decided operation outcome) → operation ≤ begun_in r
done_begun rules r operation outcome kept h =
    let a = has_at r (Decided operation outcome) h in
    let d : Decides rules a.0 operation outcome = each_at (Keeps rules) r (Decided operation outcome) a.0 kept a.1 in
    let began = earlier_trans _ a.0 r d.began.1 (earlier_tail _ a.0 r a.1) in
    begun_most rules r operation d.begun kept (head_has _ d.began.0 r began)

-- The next operation begins: no request of it was sent.
pub begins : (rules : Rules) (r : Record) (begun : Begun) → IsGoing rules r → 1 + begun_in r < 2 ^ 31 → IsUnderWay rules (Marked (Begin (1 + begun_in r) begun) ∷ r) (1 + begun_in r) begun r 1
begins rules r begun i room = record {
  going = record {
    kept = (i.kept, record { next = refl; within = room });
    undrained = i.undrained;
    within = λ a h. let w = i.within a h in omega (arith, w);
    deletes = deletes_still rules (Marked (Begin (1 + begun_in r) begun)) r i.kept (record { next = refl; within = room }) (λ operation outcome e. cc e) i.deletes;
  };
  known = omega arith;
  began = inl refl;
  undone = λ d. elim d.1 [ inl e ↦ cc e | inr t ↦ (let b = done_begun rules r (1 + begun_in r) d.0 i.kept t in omega (arith, b)) ];
  below = λ a h e. let w = i.within a h in absurd (omega (arith, w, e));
}

differ : (a b : ℕ) → a < b → (a == b) ≡ false
differ a b h = grind (arith, nat_tests)

-- a new operation's pieces have no request yet
pub no_requests : (rules : Rules) (r : Record) (begun : Begun) (piece : Piece) (a : Asked) → IsGoing rules r → piece.operation ≡ 1 + begun_in r → Has (asked (Marked (Begin (1 + begun_in r) begun) ∷ r)) a → is_of piece a ≡ false
no_requests rules r begun piece a i e h =
    let w = i.within a h in
    ap (λ (b : Bool). b && (aims_at piece a.aim && fits piece (kind_of a.body) (id_of a.body))) (differ (operation_of a.correlation) piece.operation (omega (arith, w, e)))

-- nor was anything drawn by it
pub drew_nothing : (rules : Rules) (r : Record) (begun : Begun) → IsGoing rules r → DrewNothing (Marked (Begin (1 + begun_in r) begun) ∷ r) (1 + begun_in r)
drew_nothing rules r begun i part attempt id blob h = elim h [
  | inl e ↦ cc e
  | inr t ↦ (
      let d = drawn_at rules r (1 + begun_in r) part attempt id blob i.kept t in
      let began = earlier_trans _ d.at r d.draws.began d.back in
      let most = begun_most rules r (1 + begun_in r) _ i.kept (head_has _ d.draws.then r began) in
      omega (arith, most))
]

-- ---- an operation that is under way

-- its number
pub number_under_way : (rules : Rules) (r : Record) (operation : ℕ) (begun : Begun) (then : Record) (next : ℕ) → IsUnderWay rules r operation begun then next → (1 ≤ operation) × (operation < 2 ^ 31)
number_under_way rules r operation begun then next u =
    let b : BeginsNext then operation = each_at (Keeps rules) r (Marked (Begin operation begun)) then u.going.kept u.began in
    (omega (arith, b.next), b.within)

-- It draws its first id, for a body that fits one chunk.
pub draws : (shape : Shape) (r : Record) (operation : ℕ) (body : List ℕ) (then : Record) (next : ℕ) (id : BlobId) (blob : Blob) → IsUnderWay (simple_rules shape) r operation (Begun.Put [] body 0 [] []) then next → DrewNothing r operation → length body ≤ shape.chunk
    → is_simple id ≡ true → partition_of id ≡ in_turn shape operation 0 0 → partition_of id < shape.partitions → blob ≡ record { created = clock_of then; ctype = []; meta = []; body = body }
    → IsUnderWay (simple_rules shape) (Drawn operation Top 0 id blob ∷ r) operation (Begun.Put [] body 0 [] []) then next
draws shape r operation body then next id blob u nothing small simple chosen within is =
    under_way_quiet (simple_rules shape) (Drawn operation Top 0 id blob) r operation (Begun.Put [] body 0 [] []) then next
    (record {
      steady = record { keeps = drawn; begins = refl; drains = λ node. refl };
      asks = refl;
      decides = λ other outcome e. cc e;
      ends = λ other outcome e. cc e;
    })
    u
  where
    first : number_of shape body Top ≡ 0
    first = ap (λ (b : Bool). cond b 0 ((length body + (shape.chunk - 1)) / shape.chunk)) (le-leb (length body) shape.chunk small)

    drawn : DrawsPart (simple_rules shape) r operation Top 0 id blob
    drawn = record {
      file = [];
      body = body;
      ttl = 0;
      ctype = [];
      meta = [];
      then = then;
      began = u.began;
      live = u.undone;
      small = small;
      puts = inl (small, simple, is);
      tries = omega arith;
      next = tt;
      once = λ other b. nothing Top 0 other b;
      chosen = chosen ∙ ap (λ (n : ℕ). in_turn shape operation n 0) (sym first);
      within = within;
    }

-- it says which part its next request is for
pub aims : (rules : Rules) (r : Record) (operation : ℕ) (begun : Begun) (then : Record) (next correlation : ℕ) (part : Part) (attempt : ℕ) → IsUnderWay rules r operation begun then next → IsUnderWay rules (Aimed correlation part attempt ∷ r) operation begun then next
aims rules r operation begun then next correlation part attempt u = under_way_quiet rules (Aimed correlation part attempt) r operation begun then next
    (record {
      steady = record { keeps = tt; begins = refl; drains = λ node. refl };
      asks = refl;
      decides = λ other outcome e. cc e;
      ends = λ other outcome e. cc e;
    })
    u

pub going_aimed : (rules : Rules) (r : Record) (correlation : ℕ) (part : Part) (attempt : ℕ) → IsGoing rules r → IsGoing rules (Aimed correlation part attempt ∷ r)
going_aimed rules r correlation part attempt g = going_quiet rules (Aimed correlation part attempt) r
    (record {
      steady = record { keeps = tt; begins = refl; drains = λ node. refl };
      asks = refl;
      decides = λ other outcome e. cc e;
      ends = λ other outcome e. cc e;
    })
    g

-- and that is what the request of this correlation is for
pub aimed_now : (r : Record) (correlation : ℕ) (part : Part) (attempt : ℕ) → aim_of correlation (Aimed correlation part attempt ∷ r) ≡ Some (record { part = part; attempt = attempt })
aimed_now r correlation part attempt = ap (λ (b : Bool). cond b (Some (record { part = part; attempt = attempt })) (aim_of correlation r)) (same_number correlation)

-- ---- requests

-- the frame may be the next request of its operation
pub record Sendable (rules : Rules) (r : Record) (operation next node : ℕ) (f : Frame) (aim : Aim) : Type 0 where
  pub number : f.correlation ≡ operation * 2 ^ 32 + next
  pub some : 0 < next
  pub room : next < 2 ^ 32
  pub stands : IsSome (replica_of rules.shape f.partition node)
  pub aimed : aim_of f.correlation r ≡ Some aim
  pub may : MaySendFor rules.shape r operation aim f.body

operation_is : (f : Frame) (operation next : ℕ) → f.correlation ≡ operation * 2 ^ 32 + next → next < 2 ^ 32 → operation_of f.correlation ≡ operation
operation_is f operation next e l = ap operation_of e ∙ div-mul-add operation (2 ^ 32) next (omega arith)

request_is : (f : Frame) (operation next : ℕ) → f.correlation ≡ operation * 2 ^ 32 + next → next < 2 ^ 32 → request_of f.correlation ≡ next
request_is f operation next e l = ap request_of e ∙ mod-mul-add operation (2 ^ 32) next (omega arith)

sends_frame : (rules : Rules) (r : Record) (operation : ℕ) (begun : Begun) (then : Record) (next node : ℕ) (f : Frame) (aim : Aim) → IsUnderWay rules r operation begun then next → Sendable rules r operation next node f aim → SendsFrame rules.shape r node f
sends_frame rules r operation begun then next node f aim u s =
    let own = operation_is f operation next s.number s.room in
    record {
      rises = λ a h e. let b = u.below a h (e ∙ own) in omega (arith, b, s.number);
      numbered = let n = request_is f operation next s.number s.room in omega (arith, n, s.some);
      stands = s.stands;
      may = subst (λ (n : ℕ). MaySend rules.shape r n (aim_of f.correlation r) f.body) (sym own) (subst (λ (o : Option Aim). MaySend rules.shape r operation o f.body) (sym s.aimed) s.may);
    }

-- an item that asks just this
asks_one : (rules : Rules) (item : Item) (r : Record) (operation : ℕ) (begun : Begun) (then : Record) (next node : ℕ) (f : Frame) (aim : Aim) → IsSteady rules item r → ((other : ℕ) (outcome : Outcome) → Decided other outcome ≡ item → ⊥) → EndsNone item → asked_now item r ≡ ask_as f node r ∷ []
    → IsUnderWay rules r operation begun then next → Sendable rules r operation next node f aim → IsUnderWay rules (item ∷ r) operation begun then (next + 1)
asks_one rules item r operation begun then next node f aim steady undecided none one u s = under_way_on rules item r operation begun then next (next + 1) steady undecided none now (omega arith) u
  where
    now : (a : Asked) → Has (asked_now item r) a → (operation_of a.correlation ≡ operation) × (a.correlation < operation * 2 ^ 32 + (next + 1))
    now a h =
        let o : Has (ask_as f node r ∷ []) a = subst (λ (l : List Asked). Has l a) one h in
        elim o [
          | inl e ↦ subst (λ (w : Asked). (operation_of w.correlation ≡ operation) × (w.correlation < operation * 2 ^ 32 + (next + 1))) (sym e) (operation_is f operation next s.number s.room, omega (arith, s.number))
          | inr z ↦ absurd z
        ]

-- The next request goes out.
pub sends : (rules : Rules) (r : Record) (operation : ℕ) (begun : Begun) (then : Record) (next node : ℕ) (f : Frame) (aim : Aim) (bytes : List ℕ) → IsUnderWay rules r operation begun then next → Sendable rules r operation next node f aim → frame_in bytes ≡ Some f
    → IsUnderWay rules (Took (Step.Send 0 node bytes) ∷ r) operation begun then (next + 1)
sends rules r operation begun then next node f aim bytes u s reads = asks_one rules (Took (Step.Send 0 node bytes)) r operation begun then next node f aim
    (record {
      keeps = λ z. subst (λ (o : Option Frame). SendsSome rules.shape r node o) (sym reads) (sends_frame rules r operation begun then next node f aim u s, u.going.undrained node);
      begins = refl;
      drains = λ n. refl;
    })
    (λ other outcome e. cc e) (λ other outcome e. cc e) (ap (λ (o : Option Frame). asked_by o node r) reads) u s

-- a frame with a low correlation is the router's
pub low_frame : (f : Frame) → f.correlation < 2 ^ 63 → router_frame (Some f) ≡ Some f
low_frame f low = ap (λ (b : Bool). cond b (Some f) None) (lt-ltb f.correlation (2 ^ 63) low)

-- The next request couldn't be sent.
pub refused : (rules : Rules) (r : Record) (operation : ℕ) (begun : Begun) (then : Record) (next node : ℕ) (f : Frame) (aim : Aim) (bytes : List ℕ) → IsUnderWay rules r operation begun then next → Sendable rules r operation next node f aim → frame_in bytes ≡ Some f
    → IsUnderWay rules (Took (Step.Refused node bytes) ∷ r) operation begun then (next + 1)
refused rules r operation begun then next node f aim bytes u s reads = asks_one rules (Took (Step.Refused node bytes)) r operation begun then next node f aim
    (record { keeps = kept; begins = refl; drains = λ n. refl })
    (λ other outcome e. cc e) (λ other outcome e. cc e) (ap (λ (o : Option Frame). asked_by o node r) own) u s
  where
    low : f.correlation < 2 ^ 63
    low = let n = number_under_way rules r operation begun then next u in omega (arith, s.number, s.room, n.1)

    own : router_frame (frame_in bytes) ≡ Some f
    own = ap router_frame reads ∙ low_frame f low

    kept : RefusesSome rules.shape r node (frame_in bytes) (router_frame (frame_in bytes))
    kept = subst (λ (o : Option Frame). RefusesSome rules.shape r node o (router_frame (frame_in bytes))) (sym reads)
        (subst (λ (o : Option Frame). RefusesSome rules.shape r node (Some f) o) (sym own) (sends_frame rules r operation begun then next node f aim u s, u.going.undrained node))

-- ---- what may be sent

-- what is under way has no end
live : (rules : Rules) (r : Record) (operation : ℕ) (begun : Begun) (then : Record) (next : ℕ) → IsUnderWay rules r operation begun then next → HasEnded r operation → ⊥
live rules r operation begun then next u e = u.undone (ended_done rules r operation u.going.kept e)

-- a put may send what it drew
pub may_put : (rules : Rules) (r : Record) (operation : ℕ) (begun : Begun) (then : Record) (next : ℕ) (id : BlobId) (blob : Blob) → IsUnderWay rules r operation begun then next → Has r (Drawn operation Top 0 id blob)
    → MaySendFor rules.shape r operation (record { part = Top; attempt = 0 }) (Body.Put id blob)
may_put rules r operation begun then next id blob u h = record { drew = h; live = live rules r operation begun then next u }

-- a get may ask for its id
pub may_get : (rules : Rules) (r : Record) (operation : ℕ) (id : BlobId) (then : Record) (next : ℕ) → IsUnderWay rules r operation (Begun.Get (Some id) None []) then next → IsWhole id → partition_of id < rules.shape.partitions
    → MaySendFor rules.shape r operation (record { part = Top; attempt = 0 }) (Body.Get id)
may_get rules r operation id then next u whole within = (
  refl,
  record {
    top = id;
    asks = record { begun = Begun.Get (Some id) None []; then = then; began = u.began; names = refl; whole = whole; within = within; live = live rules r operation (Begun.Get (Some id) None []) then next u };
    reads = (refl, inl refl);
  },
)

-- a delete may ask to delete its id, at the moment at which it began
pub may_delete : (rules : Rules) (r : Record) (operation : ℕ) (id : BlobId) (then : Record) (next : ℕ) → IsUnderWay rules r operation (Begun.Delete (Some id)) then next → is_simple id ≡ true → partition_of id < rules.shape.partitions
    → MaySendFor rules.shape r operation (record { part = Top; attempt = 0 }) (Body.Delete id (clock_of then))
may_delete rules r operation id then next u simple within = (
  refl,
  record {
    top = id;
    asks = record { begun = Begun.Delete (Some id); then = then; began = u.began; names = refl; whole = inl simple; within = within; live = live rules r operation (Begun.Delete (Some id)) then next u };
    delete = refl;
    when = refl;
    deletes = (refl, inl simple);
  },
)

-- ---- how it ends

-- The operation becomes done.
pub decides : (rules : Rules) (r : Record) (operation : ℕ) (begun : Begun) (then : Record) (next : ℕ) (outcome : Outcome) → IsUnderWay rules r operation begun then next → Follows rules r operation begun outcome → outcome ≢ Outcome.Cancelled
    → IsOver rules (Decided operation outcome ∷ r) operation outcome
decides rules r operation begun then next outcome u follows uncancelled = record {
  going = going_on rules (Decided operation outcome) r
      (record { keeps = record { begun = begun; began = (then, u.began); follows = follows; once = u.undone; at_cancel = λ e. absurd (uncancelled e) }; begins = refl; drains = λ node. refl })
      (λ other how e. cc e) (λ a h. absurd h) u.going;
  known = u.known;
  decided = inl refl;
  unended = λ e. elim e.1 [ inl x ↦ cc x | inr t ↦ live rules r operation begun then next u (e.0, t) ];
}

-- an operation that became done in a turn did so
pub decided_later : (item : Item) (r : Record) (operation : ℕ) (outcome : Outcome) (turn : ℕ) → IsDecidedIn r operation outcome turn → IsDecidedIn (item ∷ r) operation outcome turn
decided_later item r operation outcome turn d = record { at = d.at; decided = inr d.decided; turn_is = d.turn_is }

-- an operation becomes done once
pub decided_once : (rules : Rules) (r : Record) (operation : ℕ) (a b : Outcome) (s t : Record) → IsKept rules r → Earlier (Decided operation a ∷ s) r → Earlier (Decided operation b ∷ t) r → (a ≡ b) × (s ≡ t)
decided_once rules [] operation a b s t k h g = absurd (cc h)
decided_once rules (item ∷ before) operation a b s t k h g = elim h [
  | inl e ↦ elim g [
    | inl d ↦ (let q : Decided operation a ∷ s ≡ Decided operation b ∷ t = e ∙ sym d in (cc q, cc q))
    | inr u ↦ absurd (again a item b (cc e) k.1 (head_has _ t before u))
  ]
  | inr u ↦ elim g [
    | inl d ↦ absurd (again b item a (cc d) k.1 (head_has _ s before u))
    | inr v ↦ decided_once rules before operation a b s t k.0 u v
  ]
]
  where
    again : (outcome : Outcome) (w : Item) (other : Outcome) → Decided operation outcome ≡ w → Keeps rules w before → Has before (Decided operation other) → ⊥
    again outcome w other e n h = let d : Decides rules before operation outcome = subst (λ v. Keeps rules v before) (sym e) n in d.once (other, h)

-- The operation has its end, where each that goes first had its end before.
pub ends : (rules : Rules) (r : Record) (operation : ℕ) (outcome : Outcome) → IsOver rules r operation outcome → DeletesDrawn rules.shape r operation outcome
    → ((at : Record) → Earlier (Decided operation outcome ∷ at) r → outcome ≢ Outcome.Cancelled → (other : ℕ) (how : Outcome) (then : Record) → Earlier (Decided other how ∷ then) r → GoesFirst then other at operation → Has r (Marked (End other how)))
    → IsGoing rules (Marked (End operation outcome) ∷ r)
ends rules r operation outcome o d first = going_with rules (Marked (End operation outcome)) r (record { keeps = ended; begins = refl; drains = λ node. refl }) (λ a h. absurd h) deleted o.going
  where
    at : (then : Record) × Earlier (Decided operation outcome ∷ then) r
    at = has_at r (Decided operation outcome) o.decided

    apart : (other : ℕ) (id : BlobId) (blob : Blob) → Drawn other Top 0 id blob ≡ Marked (End operation outcome) → ⊥
    apart other id blob e = cc e

    same_operation : (other : ℕ) (how : Outcome) → Marked (End other how) ≡ Marked (End operation outcome) → other ≡ operation
    same_operation other how e = cc

    same_outcome : (other : ℕ) (how : Outcome) → Marked (End other how) ≡ Marked (End operation outcome) → how ≡ outcome
    same_outcome other how e = cc

    deleted : DeletesWhatFailed rules.shape (Marked (End operation outcome) ∷ r)
    deleted = λ other how h. elim h [
      | inl e ↦ subst (λ (n : ℕ). DeletesDrawn rules.shape (Marked (End operation outcome) ∷ r) n how) (sym (same_operation other how e))
          (subst (λ (w : Outcome). DeletesDrawn rules.shape (Marked (End operation outcome) ∷ r) operation w) (sym (same_outcome other how e)) (deletes_on rules.shape (Marked (End operation outcome)) r operation outcome (apart operation) d))
      | inr t ↦ deletes_on rules.shape (Marked (End operation outcome)) r other how (apart other) (o.going.deletes other how t)
    ]

    ended : Ends r operation outcome
    ended = record { at = at.0; decided = at.1; order = first at.0 at.1; once = o.unended }

-- ---- what a put gives up

-- the frame asks to delete what its operation, which is done, gives up
pub record GivesUpNow (rules : Rules) (r : Record) (operation next node : ℕ) (f : Frame) (id : BlobId) : Type 0 where
  pub number : f.correlation ≡ operation * 2 ^ 32 + next
  pub some : 0 < next
  pub room : next < 2 ^ 32
  pub stands : IsSome (replica_of rules.shape f.partition node)
  pub aimed : aim_of f.correlation r ≡ None
  pub body : f.body ≡ Body.Delete id 0
  pub gave : GaveUp rules.shape r operation id
  pub below : (a : Asked) → Has (asked r) a → operation_of a.correlation ≡ operation → a.correlation < operation * 2 ^ 32 + next

pub own_number : (f : Frame) (operation next : ℕ) → f.correlation ≡ operation * 2 ^ 32 + next → next < 2 ^ 32 → operation_of f.correlation ≡ operation
own_number f operation next e l = ap operation_of e ∙ div-mul-add operation (2 ^ 32) next l

sends_removal : (rules : Rules) (r : Record) (operation next node : ℕ) (f : Frame) (id : BlobId) → GivesUpNow rules r operation next node f id → SendsFrame rules.shape r node f
sends_removal rules r operation next node f id g =
    let own = own_number f operation next g.number g.room in
    record {
      rises = λ a h e. let b = g.below a h (e ∙ own) in omega (arith, b, g.number);
      numbered = let n = ap request_of g.number ∙ mod-mul-add operation (2 ^ 32) next g.room in omega (arith, n, g.some);
      stands = g.stands;
      may = subst (λ (n : ℕ). MaySend rules.shape r n (aim_of f.correlation r) f.body) (sym own)
          (subst (λ (o : Option Aim). MaySend rules.shape r operation o f.body) (sym g.aimed) (subst (λ (b : Body). MaySend rules.shape r operation None b) (sym g.body) (refl, g.gave)));
    }

asked_once : (rules : Rules) (item : Item) (r : Record) (operation next node : ℕ) (f : Frame) (id : BlobId) (outcome : Outcome) → IsOver rules r operation outcome → GivesUpNow rules r operation next node f id → asked_now item r ≡ ask_as f node r ∷ []
    → (a : Asked) → Has (asked_now item r) a → (operation_of a.correlation ≡ operation) × (a.correlation ≡ operation * 2 ^ 32 + next)
asked_once rules item r operation next node f id outcome o g one a h =
    let only : Has (ask_as f node r ∷ []) a = subst (λ (l : List Asked). Has l a) one h in
    elim only [
      | inl e ↦ subst (λ (w : Asked). (operation_of w.correlation ≡ operation) × (w.correlation ≡ operation * 2 ^ 32 + next)) (sym e) (own_number f operation next g.number g.room, g.number)
      | inr z ↦ absurd z
    ]

-- behind it more of the operation's requests have numbers below the next one
asked_below : (item : Item) (r : Record) (operation next : ℕ) → ((a : Asked) → Has (asked_now item r) a → (operation_of a.correlation ≡ operation) × (a.correlation ≡ operation * 2 ^ 32 + next))
    → ((a : Asked) → Has (asked r) a → operation_of a.correlation ≡ operation → a.correlation < operation * 2 ^ 32 + next)
    → (a : Asked) → Has (asked (item ∷ r)) a → operation_of a.correlation ≡ operation → a.correlation < operation * 2 ^ 32 + (next + 1)
asked_below item r operation next now before =
    asked_on (λ a. operation_of a.correlation ≡ operation → a.correlation < operation * 2 ^ 32 + (next + 1)) item r (λ a h e. let n = now a h in omega (arith, n.1)) (λ a h e. let b = before a h e in omega (arith, b))

-- What is over may delete what it gives up.
pub removes : (rules : Rules) (r : Record) (operation next node : ℕ) (f : Frame) (id : BlobId) (outcome : Outcome) (bytes : List ℕ) → IsOver rules r operation outcome → GivesUpNow rules r operation next node f id → frame_in bytes ≡ Some f
    → IsOver rules (Took (Step.Send 0 node bytes) ∷ r) operation outcome × ((a : Asked) → Has (asked (Took (Step.Send 0 node bytes) ∷ r)) a → operation_of a.correlation ≡ operation → a.correlation < operation * 2 ^ 32 + (next + 1))
removes rules r operation next node f id outcome bytes o g reads =
    let item : Item = Took (Step.Send 0 node bytes) in
    let one : asked_now item r ≡ ask_as f node r ∷ [] = ap (λ (o : Option Frame). asked_by o node r) reads in
    let now = asked_once rules item r operation next node f id outcome o g one in (
      over_on rules item r operation outcome
          (record {
            keeps = λ z. subst (λ (o : Option Frame). SendsSome rules.shape r node o) (sym reads) (sends_removal rules r operation next node f id g, o.going.undrained node);
            begins = refl;
            drains = λ n. refl;
          })
          (λ other how e. cc e) (λ other how e. cc e) (λ a h. let n = now a h in omega (arith, n.0, o.known)) o,
      asked_below item r operation next now g.below,
    )

pub removes_refused : (rules : Rules) (r : Record) (operation next node : ℕ) (f : Frame) (id : BlobId) (outcome : Outcome) (bytes : List ℕ) → IsOver rules r operation outcome → operation < 2 ^ 31 → GivesUpNow rules r operation next node f id → frame_in bytes ≡ Some f
    → IsOver rules (Took (Step.Refused node bytes) ∷ r) operation outcome × ((a : Asked) → Has (asked (Took (Step.Refused node bytes) ∷ r)) a → operation_of a.correlation ≡ operation → a.correlation < operation * 2 ^ 32 + (next + 1))
removes_refused rules r operation next node f id outcome bytes o small g reads =
    let item : Item = Took (Step.Refused node bytes) in
    let low : f.correlation < 2 ^ 63 = below f.correlation g.number g.room small in
    let own : router_frame (frame_in bytes) ≡ Some f = ap router_frame reads ∙ low_frame f low in
    let one : asked_now item r ≡ ask_as f node r ∷ [] = ap (λ (o : Option Frame). asked_by o node r) own in
    let now = asked_once rules item r operation next node f id outcome o g one in
    let kept : RefusesSome rules.shape r node (frame_in bytes) (router_frame (frame_in bytes)) = subst (λ (o : Option Frame). RefusesSome rules.shape r node o (router_frame (frame_in bytes))) (sym reads)
    (subst (λ (o : Option Frame). RefusesSome rules.shape r node (Some f) o) (sym own) (sends_removal rules r operation next node f id g, o.going.undrained node)) in (
      over_on rules item r operation outcome (record { keeps = kept; begins = refl; drains = λ n. refl })
          (λ other how e. cc e) (λ other how e. cc e) (λ a h. let n = now a h in omega (arith, n.0, o.known)) o,
      asked_below item r operation next now g.below,
    )
  where
    below : (c : ℕ) → c ≡ operation * 2 ^ 32 + next → next < 2 ^ 32 → operation < 2 ^ 31 → c < 2 ^ 63
    below c e l m = omega arith

-- ---- what is another operation's

pub under_way_apart : (rules : Rules) (item : Item) (r : Record) (operation : ℕ) (begun : Begun) (then : Record) (next : ℕ) → IsGoing rules (item ∷ r) → begun_in r ≤ begun_in (item ∷ r) → IsApart operation item r → IsUnderWay rules r operation begun then next
    → IsUnderWay rules (item ∷ r) operation begun then next
under_way_apart rules item r operation begun then next going more apart u = record {
  going = going;
  known = let k = u.known in omega (arith, k, more);
  began = inr u.began;
  undone = λ d. elim d.1 [ inl e ↦ apart.decides d.0 e | inr t ↦ u.undone (d.0, t) ];
  below = asked_on (λ a. operation_of a.correlation ≡ operation → a.correlation < operation * 2 ^ 32 + next) item r (λ a h e. absurd (apart.asks a h e)) u.below;
}

pub over_apart : (rules : Rules) (item : Item) (r : Record) (operation : ℕ) (outcome : Outcome) → IsGoing rules (item ∷ r) → begun_in r ≤ begun_in (item ∷ r) → IsApart operation item r → IsOver rules r operation outcome → IsOver rules (item ∷ r) operation outcome
over_apart rules item r operation outcome going more apart o = record {
  going = going;
  known = let k = o.known in omega (arith, k, more);
  decided = inr o.decided;
  unended = λ e. elim e.1 [ inl x ↦ apart.ends e.0 x | inr t ↦ o.unended (e.0, t) ];
}

-- how many began never falls
pub begun_rises : (item : Item) (r : Record) → begun_in r ≤ begun_in (item ∷ r)
begun_rises (Marked (Begin operation begun)) r = omega arith
begun_rises (Marked mark) r = marks mark
  where
    marks : (mark : HistoryMark) → begun_in r ≤ begun_in (Marked mark ∷ r)
    marks (Begin operation begun) = omega arith
    marks _ = omega arith
begun_rises _ r = omega arith
