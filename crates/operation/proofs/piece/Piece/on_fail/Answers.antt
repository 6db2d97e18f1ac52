use Rattle.std.proofs.Common.{◌==◌, ◌<◌, not, filter, find, List, sym, ap, ◌∙◌, subst}
use Rattle.std.proofs.lemmas.List.Elements.{All-same}
use Rattle.operation.specs.declared.piece.Open.{Open}
use Rattle.operation.specs.Pieces.{IsPieceOf, PieceView, replica_in}
use Rattle.operation.proofs.PieceLaws.{left_few, left_within, missed_goes_on, missed_stays}
use Rattle.operation.proofs.piece.Piece.on_fail.Goals as goal

pub note-requires : goal.note-requires
note-requires c =
    let n = c.self.inside.tally.replicas in
    record { within = c.in-Some.ensures.within n (All-same (λ (o : Open). o.replica < n) c.as_slice.result.now c.self.inside.requests.items c.as_slice.ensures.value c.self.invariant.5) }

pub invariant_of-self : goal.invariant_of-self
invariant_of-self c =
    let s = c.self.inside in
    let v = c.self.invariant in
    let same = c.note.ensures.same in (
      v.0 ∙ sym same.replicas,
      v.1 ∙ sym same.need,
      v.2,
      v.3,
      left_few c.args.request _ s.requests.items c.as_slice-in-Some.result.now c.others-self-inside.result.items c.others-self-inside.ensures c.as_slice-in-Some.ensures.value v.4,
      left_within c.args.request s.tally.replicas c.note.new.tally.replicas s.requests.items c.as_slice-in-Some.result.now c.others-self-inside.result.items c.others-self-inside.ensures c.as_slice-in-Some.ensures.value same.replicas v.5,
    )

pub returns-in-Some-clause-goes_on : goal.returns-in-Some-clause-goes_on
returns-in-Some-clause-goes_on c = λ t calls h.
    let s = c.self.inside in
    let view : PieceView = record { chunk = s.chunk; attempt = s.attempt; errand = s.errand; requests = s.requests.items; asked = s.asked; tally = s.tally; blob = s.blob } in
    missed_goes_on t view calls c.args.request c.args.cause c.in-Some.replica c.others-self-inside.result.items c.note.new.tally (subst (λ (w : PieceView). IsPieceOf t w calls) (sym c.self.view_is) h)
    (sym (c.in-Some.ensures.found ∙ ap (λ (l : List Open). replica_in (find (λ o. o.request == c.args.request) l)) c.as_slice.ensures.value)) c.note.ensures.same c.note.ensures.noted
    (c.others-self-inside.ensures ∙ ap (λ (l : List Open). filter (λ o. not (o.request == c.args.request)) l) c.as_slice-in-Some.ensures.value)

pub returns-in-None-clause-goes_on : goal.returns-in-None-clause-goes_on
returns-in-None-clause-goes_on c = λ t calls h.
    missed_stays t c.args.self.now calls c.args.request c.args.cause h
    (sym (c.in-None.ensures.found
    ∙ (ap (λ (l : List Open). replica_in (find (λ o. o.request == c.args.request) l)) c.as_slice.ensures.value
    ∙ ap (λ (w : PieceView). replica_in (find (λ o. o.request == c.args.request) w.requests)) c.self.view_is)))
