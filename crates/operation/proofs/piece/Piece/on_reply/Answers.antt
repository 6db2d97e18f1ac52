use Rattle.std.proofs.Common.{◌==◌, ◌<◌, not, cond, filter, find, List, Option, None, sym, ap, ◌∙◌, subst}
use Rattle.std.proofs.lemmas.List.Elements.{All-same}
use Rattle.quorum_op.specs.Counts.{or_else}
use Rattle.quorum_op.specs.Tally.{is_pending, is_state}
use Rattle.world_model.specs.declared.asking.Asking.{Asking}
use Rattle.world_model.specs.Notes.{reply_says}
use Rattle.quorum_op.specs.declared.cause.Finding.{Finding}
use Rattle.quorum_op.specs.declared.cause.Verdict.{Verdict}
use Rattle.operation.specs.declared.piece.Open.{Open}
use Rattle.operation.specs.Notes.{learnt_blob, learnt_finding}
use Rattle.operation.specs.Pieces.{IsPieceOf, PieceView, replica_in}
use Rattle.operation.proofs.PieceLaws.{left_few, left_within, replied_goes_on, replied_stays}
use Rattle.operation.proofs.piece.Piece.on_reply.Goals as goal

pub standing-requires : goal.standing-requires
standing-requires c =
    let n = c.self.inside.tally.replicas in
    record { within = c.in-Some.ensures.within n (All-same (λ (o : Open). o.replica < n) c.as_slice.result.now c.self.inside.requests.items c.as_slice.ensures.value c.self.invariant.5) }

pub note-requires : goal.note-requires
note-requires c =
    let n = c.self.inside.tally.replicas in
    record { within = c.in-Some.ensures.within n (All-same (λ (o : Open). o.replica < n) c.as_slice.result.now c.self.inside.requests.items c.as_slice.ensures.value c.self.invariant.5) }

pub invariant_of-self : goal.invariant_of-self
invariant_of-self c =
    let s = c.self.inside in
    let v = c.self.invariant in
    let same = c.note.ensures.same in (
      v.0 ∙ sym same.replicas,
      v.1 ∙ sym same.need,
      v.2,
      v.3,
      left_few c.args.request _ s.requests.items c.as_slice-in-Some.result.now c.others-self-inside.result.items c.others-self-inside.ensures c.as_slice-in-Some.ensures.value v.4,
      left_within c.args.request s.tally.replicas c.note.new.tally.replicas s.requests.items c.as_slice-in-Some.result.now c.others-self-inside.result.items c.others-self-inside.ensures c.as_slice-in-Some.ensures.value same.replicas v.5,
    )

pub returns-in-Some-clause-goes_on : goal.returns-in-Some-clause-goes_on
returns-in-Some-clause-goes_on c = λ t calls h.
    let s = c.self.inside in
    let stated = c.is_state-stated.result in
    let pending = c.is_pending-pending.result in
    let asks = c.asking_of-asking.ensures in
    let view : PieceView = record { chunk = s.chunk; attempt = s.attempt; errand = s.errand; requests = s.requests.items; asked = s.asked; tally = s.tally; blob = s.blob } in
    replied_goes_on t view calls c.args.request c.args.reply c.in-Some.replica stated pending c.reply_finding-finding.result c.others-self-inside.result.items c.note.new.tally c.keep_blob.new.blob
    (subst (λ (w : PieceView). IsPieceOf t w calls) (sym c.self.view_is) h)
    (sym (c.in-Some.ensures.found ∙ ap (λ (l : List Open). replica_in (find (λ o. o.request == c.args.request) l)) c.as_slice.ensures.value))
    (λ notes k. c.is_state-stated.ensures ∙ ap (λ (o : Option Finding). is_state o) (c.standing.ensures notes k))
    (ap (λ (a : Asking). learnt_finding (reply_says stated a c.args.reply)) (sym asks) ∙ c.reply_finding-finding.ensures)
    (λ notes k. c.is_pending-pending.ensures ∙ ap (λ (d : Verdict). is_pending d) (c.verdict.ensures notes k)) c.note.ensures.same c.note.ensures.noted
    (c.others-self-inside.ensures ∙ ap (λ (l : List Open). filter (λ o. not (o.request == c.args.request)) l) c.as_slice-in-Some.ensures.value)
    (c.keep_blob.ensures stated ∙ ap (λ (a : Asking). or_else s.blob (cond pending (learnt_blob (reply_says stated a c.args.reply)) None)) asks)

pub returns-in-None-clause-goes_on : goal.returns-in-None-clause-goes_on
returns-in-None-clause-goes_on c = λ t calls h.
    replied_stays t c.args.self.now calls c.args.request c.args.reply h
    (sym (c.in-None.ensures.found
    ∙ (ap (λ (l : List Open). replica_in (find (λ o. o.request == c.args.request) l)) c.as_slice.ensures.value
    ∙ ap (λ (w : PieceView). replica_in (find (λ o. o.request == c.args.request) w.requests)) c.self.view_is)))
