use Rattle.std.proofs.Common.{ap, ◌∙◌, subst, sym}
use Rattle.quorum_op.specs.Tally.{failed_replicas}
use Rattle.quorum_op.specs.Slots.{TallyView, IsTallyOf}
use Rattle.quorum_op.proofs.SlotLaws.{slots_failed}
use Rattle.quorum_op.proofs.tally.Tally.failures.Goals as goal

pub returns : goal.returns
returns c = λ notes h.
    let v = c.self.view_is in
    let view : TallyView = record { kind = c.self.inside.kind; replicas = c.self.inside.replicas; need = c.self.inside.need; slots = c.self.inside.slots } in
    c.in_ok-failures.ensures ∙ (slots_failed view notes (subst (λ (t : TallyView). IsTallyOf t notes) (sym v) h) ∙ ap (λ (t : TallyView). failed_replicas t.replicas notes) v)
