-- The record that is tied to the calls goes on by a request.
use Rattle.std.proofs.Common.{◌≡◌, ℕ, ◌^◌, ◌<◌, ◌≤◌, Bool, true, false, List, [], ◌∷◌, ◌++◌, Option, Some, refl, sym, ap, ◌∙◌, subst, arith}
use Rattle.quorum_op.specs.declared.outcome.Outcome.{Outcome}
use Rattle.req_frame.specs.Reading.{frame_of}
use Rattle.world_model.specs.declared.history.HistoryMark.{HistoryMark}
use Rattle.world_model.specs.declared.shape.Shape.{Shape}
use Rattle.world_model.specs.declared.step.Called.{Called}
use Rattle.world_model.specs.declared.step.Step.{Step}
use Rattle.world_model.specs.Fabric.{Refused, Sent}
use Rattle.world_model.specs.Notes.{clock_of}
use Rattle.world_model.specs.Record.{Item, Top, Aimed, Took, Record}
use Rattle.world_model.specs.Router.{begun_in}
use Rattle.world_model.specs.Shape.{IsShape}
use Rattle.world_model.proofs.NoteLaws.{decoded_frame}
use Rattle.operation.specs.declared.sending.Sending.{Sending}
use Rattle.operation.specs.Calls.{Call}
use Rattle.router_core.specs.declared.live.Live.{Live}
use Rattle.router_core.specs.declared.op.Op.{Op}
use Rattle.router_core.specs.Fits.{DoesJob}
use Rattle.router_core.specs.Jobs.{Job, body_for}
use Rattle.router_core.specs.Posting.{HasNoted, Posted}
use Rattle.router_core.specs.Requests.{correlation_for, entry_for, node_for}
use Rattle.router_core.specs.Stands.{AreOthers, At, Beside, Counts, GivesAllUp, Leaves, OwnsLive}
use Rattle.router_core.specs.Stages.{simple_rules, AimsWithin, IsGoing}
use Rattle.router_core.specs.Ties.{Ties}
use Rattle.router_core.proofs.AimLaws.{within_aimed, within_stays}
use Rattle.router_core.proofs.AskLaws.{aimed_record, body_is, frame_for, own_operation}
use Rattle.router_core.proofs.LeaveLaws.{gives_refused, gives_sent, removal_for, removal_is}
use Rattle.router_core.proofs.LiveLaws.{GoesOut, live_refused, live_sent}
use Rattle.router_core.proofs.OthersLaws.{IsOwnItem, beside_stays, own_aimed, own_refused, own_sent}
use Rattle.router_core.proofs.StageLaws.{going_aimed, low_frame}
use Rattle.router_core.proofs.TieLaws.{items_refused, items_sent, tie_call, tie_items}

-- the operation with this kept of it
abbrev pub with_op : Live → Op → Live
with_op live op = record { operation = live.operation; op = op; requests = live.requests }

-- whatever job it did, it does
abbrev pub StillDoes : (old new : Op) → Type 0
StillDoes old new = (shape : Shape) (moment : ℕ) (job : Job) (calls : List Call) → DoesJob shape moment job old calls → DoesJob shape moment job new calls

counts_asked : (shape : Shape) (clock events : ℕ) (beside : Beside) (operation : ℕ) (s : Sending) (step : Step) (r : Record) → s.request < 2 ^ 32 → operation ≤ begun_in r → AreOthers operation beside → IsOwnItem operation (Took step) (aimed_record operation s r)
    → IsGoing (simple_rules shape) (Took step ∷ aimed_record operation s r) → Counts shape clock events beside r → Counts shape clock events beside (Took step ∷ aimed_record operation s r)
counts_asked shape clock events beside operation s step r low most others own going c =
    let correlation : ℕ = correlation_for operation s in
    let within : AimsWithin (aimed_record operation s r) = within_aimed correlation Top 0 r (subst (λ (n : ℕ). n ≤ begun_in r) (sym (own_operation operation s low)) most) c.aims in
    let mid = beside_stays shape clock events operation beside (Aimed correlation Top 0) r others (own_aimed operation correlation Top 0 r (own_operation operation s low)) (record { clock = refl; events = refl; begun = refl; turns = refl; decides = λ other how e. absurd (cc e) }) within
    (going_aimed (simple_rules shape) r correlation Top 0 c.going) c in
    beside_stays shape clock events operation beside (Took step) (aimed_record operation s r) others own (record { clock = refl; events = refl; begun = refl; turns = refl; decides = λ other how e. absurd (cc e) }) (within_stays (Took step) (aimed_record operation s r) (λ x p a e. absurd cc) (omega arith) within) going mid

pub counts_took : (shape : Shape) (clock events : ℕ) (beside : Beside) (operation : ℕ) (step : Step) (r : Record) → AreOthers operation beside → IsOwnItem operation (Took step) r → IsGoing (simple_rules shape) (Took step ∷ r) → Counts shape clock events beside r
    → Counts shape clock events beside (Took step ∷ r)
counts_took shape clock events beside operation step r others own going c =
    beside_stays shape clock events operation beside (Took step) r others own (record { clock = refl; events = refl; begun = refl; turns = refl; decides = λ other how e. absurd (cc e) }) (within_stays (Took step) r (λ x p a e. absurd cc) (omega arith) c.aims) going c

-- what was spelled is the frame of the request
spelled : (shape : Shape) (r : Record) (live : Live) (s : Sending) (rest : List Sending) (o : OwnsLive shape r live (s ∷ rest)) (told told' : Option (List Called)) (went : Bool) (p : Posted live.op s (correlation_for live.operation s) (node_for shape s) told told' went)
    → frame_of p.bytes ≡ Some (frame_for live.operation (clock_of o.then) o.job s)
spelled shape r live s rest o told told' went p =
    p.spells o.calls o.does.stands (body_for (clock_of o.then) o.job) (ap (λ plan. plan.body o.calls s.errand) o.does.plan ∙ body_is shape (clock_of o.then) o.job o.calls s o.does.given o.for_piece.0)

pub ties_posted : (shape : Shape) (clock events : ℕ) (beside : Beside) (old new : Live) (op : Op) (s : Sending) (rest : List Sending) (told told' : Option (List Called)) (went : Bool) (marks : List HistoryMark) → AreOthers old.operation beside → IsShape shape → old.operation < 2 ^ 31 → s.request < 2 ^ 32
    → Posted old.op s (correlation_for old.operation s) (node_for shape s) told told' went → StillDoes old.op op → HasNoted (with_op old op) (entry_for shape old.operation clock events s) s.request went new → new.operation ≡ old.operation
    → Ties (At shape (λ r. OwnsLive shape r old (s ∷ rest)) clock events beside) told marks → Ties (At shape (λ r. OwnsLive shape r new rest) clock events beside) told' marks
ties_posted shape clock events beside old new op s rest told told' went marks others is number low p still noted same t = go went p noted
  where
    P : Record → Type 0
    P = At shape (λ r. OwnsLive shape r old (s ∷ rest)) clock events beside

    Q : Record → Type 0
    Q = At shape (λ r. OwnsLive shape r new rest) clock events beside

    M : Record → Type 0
    M = λ r. (before : Record) × (r ≡ aimed_record old.operation s before) × P before

    aimed : Ties M told marks
    aimed = tie_items P M (Aimed (correlation_for old.operation s) Top 0 ∷ []) told marks (refl, tt) (λ r o. (r, refl, o)) t

    most : (r : Record) (o : OwnsLive shape r old (s ∷ rest)) → old.operation ≤ begun_in r
    most r o = o.under_way.known

    go : (went : Bool) → Posted old.op s (correlation_for old.operation s) (node_for shape s) told told' went → HasNoted (with_op old op) (entry_for shape old.operation clock events s) s.request went new → Ties Q told' marks
    go true p noted = tie_call M Q (Sent (node_for shape s) p.bytes) told told' marks p.tells
        (λ call made r h.
        let o = h.2.1 in
        let c = h.2.0 in
        let item : Item = Took (Step.Send 0 (node_for shape s) p.bytes) in
        let out : GoesOut shape h.0 clock events old s rest o p.bytes = record { reads = spelled shape h.0 old s rest o told told' true p; small = low; clocks = c.clock_is; counts = c.events_are } in
        let there = live_sent shape h.0 clock events old new s rest p.bytes o is out same noted.0 (subst (λ (x : Op). DoesJob shape (clock_of o.then) o.job x o.calls) (sym noted.1) (still shape (clock_of o.then) o.job o.calls o.does)) in
        let both : Q (item ∷ aimed_record old.operation s h.0) = (
          counts_asked shape clock events beside old.operation s (Step.Send 0 (node_for shape s) p.bytes) h.0 low (most h.0 o) others (own_sent old.operation (node_for shape s) p.bytes (frame_for old.operation (clock_of o.then) o.job s) (aimed_record old.operation s h.0) (decoded_frame p.bytes (frame_for old.operation (clock_of o.then) o.job s) out.reads) (own_operation old.operation s low)) there.under_way.going c,
          there,
        ) in
        subst (λ (x : Record). Q (x ++ r)) (sym (items_sent (node_for shape s) p.bytes call made)) (subst (λ (x : Record). Q (item ∷ x)) (sym h.1) both))
        aimed
    go false p noted = tie_call M Q (Refused (node_for shape s) p.bytes) told told' marks p.tells
        (λ call made r h.
        let o = h.2.1 in
        let c = h.2.0 in
        let item : Item = Took (Step.Refused (node_for shape s) p.bytes) in
        let out : GoesOut shape h.0 clock events old s rest o p.bytes = record { reads = spelled shape h.0 old s rest o told told' false p; small = low; clocks = c.clock_is; counts = c.events_are } in
        let there = live_refused shape h.0 clock events old new s rest p.bytes o is number out same noted.0 (noted.1 shape (clock_of o.then) o.job o.calls (still shape (clock_of o.then) o.job o.calls o.does)) in
        let both : Q (item ∷ aimed_record old.operation s h.0) = (
          counts_asked shape clock events beside old.operation s (Step.Refused (node_for shape s) p.bytes) h.0 low (most h.0 o) others (own_refused old.operation (node_for shape s) p.bytes (frame_for old.operation (clock_of o.then) o.job s) (aimed_record old.operation s h.0) (decoded_frame p.bytes (frame_for old.operation (clock_of o.then) o.job s) out.reads) (low_frame (frame_for old.operation (clock_of o.then) o.job s) (omega (arith, number, low))) (own_operation old.operation s low)) there.under_way.going c,
          there,
        ) in
        subst (λ (x : Record). Q (x ++ r)) (sym (items_refused (node_for shape s) p.bytes call made)) (subst (λ (x : Record). Q (item ∷ x)) (sym h.1) both))
        aimed

-- and by a request for what is given up
removal_spelled : (shape : Shape) (r : Record) (live : Live) (outcome : Outcome) (s : Sending) (rest : List Sending) (o : Leaves shape r live outcome (s ∷ rest)) (told told' : Option (List Called)) (went : Bool) (p : Posted live.op s (correlation_for live.operation s) (node_for shape s) told told' went)
    → frame_of p.bytes ≡ Some (removal_for live.operation o.job s)
removal_spelled shape r live outcome s rest o told told' went p =
    p.spells o.calls o.does.stands _ (ap (λ plan. plan.body o.calls s.errand) o.does.plan ∙ removal_is shape o.moment o.job o.how o.calls s o.giving.0)

pub ties_given_up : (shape : Shape) (clock events : ℕ) (beside : Beside) (old new : Live) (outcome : Outcome) (s : Sending) (rest : List Sending) (told told' : Option (List Called)) (went : Bool) (marks : List HistoryMark) → AreOthers old.operation beside → IsShape shape → old.operation < 2 ^ 31 → s.request < 2 ^ 32
    → Posted old.op s (correlation_for old.operation s) (node_for shape s) told told' went → StillDoes old.op new.op → new.operation ≡ old.operation
    → Ties (At shape (λ r. GivesAllUp shape r old outcome (s ∷ rest)) clock events beside) told marks → Ties (At shape (λ r. GivesAllUp shape r new outcome rest) clock events beside) told' marks
ties_given_up shape clock events beside old new outcome s rest told told' went marks others is number low p still same t = go went p
  where
    P : Record → Type 0
    P = At shape (λ r. GivesAllUp shape r old outcome (s ∷ rest)) clock events beside

    Q : Record → Type 0
    Q = At shape (λ r. GivesAllUp shape r new outcome rest) clock events beside

    go : (went : Bool) → Posted old.op s (correlation_for old.operation s) (node_for shape s) told told' went → Ties Q told' marks
    go true p = tie_call P Q (Sent (node_for shape s) p.bytes) told told' marks p.tells
        (λ call made r h.
        let o = h.1.0 in
        subst (λ (x : Record). Q (x ++ r)) (sym (items_sent (node_for shape s) p.bytes call made))
        (let there = gives_sent shape r old new outcome s rest p.bytes h.1 is low (removal_spelled shape r old outcome s rest o told told' true p) same (still shape o.moment o.job o.calls o.does) in (
          counts_took shape clock events beside old.operation (Step.Send 0 (node_for shape s) p.bytes) r others (own_sent old.operation (node_for shape s) p.bytes (removal_for old.operation o.job s) r (decoded_frame p.bytes (removal_for old.operation o.job s) (removal_spelled shape r old outcome s rest o told told' true p)) (own_operation old.operation s low)) there.0.over.going h.0,
          there,
        )))
        t
    go false p = tie_call P Q (Refused (node_for shape s) p.bytes) told told' marks p.tells
        (λ call made r h.
        let o = h.1.0 in
        subst (λ (x : Record). Q (x ++ r)) (sym (items_refused (node_for shape s) p.bytes call made))
        (let there = gives_refused shape r old new outcome s rest p.bytes h.1 is low number (removal_spelled shape r old outcome s rest o told told' false p) same (still shape o.moment o.job o.calls o.does) in (
          counts_took shape clock events beside old.operation (Step.Refused (node_for shape s) p.bytes) r others (own_refused old.operation (node_for shape s) p.bytes (removal_for old.operation o.job s) r (decoded_frame p.bytes (removal_for old.operation o.job s) (removal_spelled shape r old outcome s rest o told told' false p)) (low_frame (removal_for old.operation o.job s) (omega (arith, number, low))) (own_operation old.operation s low)) there.0.over.going h.0,
          there,
        )))
        t
