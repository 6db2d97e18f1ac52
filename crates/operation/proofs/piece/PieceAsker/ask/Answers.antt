use Rattle.std.proofs.Common.{◌≡◌, true, refl, sym, ap, ◌∙◌, subst}
use Rattle.operation.specs.declared.sending.Errand.{Errand}
use Rattle.operation.specs.declared.sending.Purpose.{Purpose}
use Rattle.operation.specs.declared.sending.Sending.{Sending}
use Rattle.operation.specs.Pieces.{PieceView, Target, is_for, kind_of, target_of}
use Rattle.operation.proofs.PieceLaws.{own_request}
use Rattle.operation.proofs.piece.PieceAsker.ask.Goals as goal

pub returns-clause-goes_on : goal.returns-clause-goes_on
returns-clause-goes_on c = λ t calls h.
    let s = c.self.inside in
    let new : PieceView = c.on_sent.new.self in
    let same = c.on_sent.ensures.same in
    let view : PieceView = record { chunk = s.chunk; attempt = s.attempt; errand = s.errand; requests = s.requests.items; asked = s.asked; tally = s.tally; blob = s.blob } in
    let sending : Sending = record { request = c.args.request; replica = c.args.replica; purpose = Purpose.Part s.chunk s.attempt; errand = s.errand } in
    let kind : kind_of new.errand ≡ new.tally.kind = ap (λ (e : Errand). kind_of e) same.0 ∙ (h.kind ∙ ap (λ (u : Target). u.kind) (h.target ∙ sym same.1)) in
    let inside : kind_of s.errand ≡ s.tally.kind = subst (λ (w : PieceView). kind_of w.errand ≡ w.tally.kind) (sym c.self.view_is) kind in
    let own : is_for (target_of new) sending ≡ true =
    subst (λ (w : PieceView). is_for (target_of w) sending ≡ true) c.self.view_is (own_request (target_of view) s.errand c.args.request c.args.replica inside refl) in
    c.on_sent.ensures.goes_on t calls sending refl refl (subst (λ (u : Target). is_for u sending ≡ true) (same.1 ∙ sym h.target) own) h
