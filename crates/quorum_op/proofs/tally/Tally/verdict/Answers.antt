use Rattle.std.proofs.Common.{◌≡◌, refl, sym, ap, ◌∙◌, subst}
use Rattle.quorum_op.specs.Tally.{verdict}
use Rattle.quorum_op.specs.Slots.{TallyView, IsTallyOf}
use Rattle.quorum_op.proofs.SlotLaws.{slots_decide}
use Rattle.quorum_op.proofs.tally.Tally.verdict.Goals as goal

pub returns : goal.returns
returns c = λ notes h.
    let v = c.self.view_is in
    let counts = c.counted.ensures.counts in
    let view : TallyView = record { kind = c.self.inside.kind; replicas = c.self.inside.replicas; need = c.self.inside.need; slots = c.self.inside.slots } in
    let same : c.decide.result ≡ verdict view.kind view.replicas view.need notes =
    c.decide.ensures ∙ (rw (counts.0, counts.1, counts.2, counts.3, counts.4) refl
    ∙ slots_decide view notes (subst (λ (t : TallyView). IsTallyOf t notes) (sym v) h)) in
    same ∙ ap (λ (t : TallyView). verdict t.kind t.replicas t.need notes) v
