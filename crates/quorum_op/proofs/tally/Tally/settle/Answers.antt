use Rattle.std.proofs.Common.{◌<◌, sym, subst, arith}
use Rattle.quorum_op.specs.Slots.{TallyView, IsTallyOf}
use Rattle.quorum_op.proofs.SlotLaws.{slots_set}
use Rattle.quorum_op.proofs.tally.Tally.settle.Goals as goal

pub returns-clause-noted : goal.returns-clause-noted
returns-clause-noted c = λ notes h.
    let i = c.self.invariant in
    let v = c.self.view_is in
    let w = c.requires.within in
    slots_set c.self.inside.slots notes c.args.replica c.args.finding c.self.inside.replicas c.settled.result
    (let k : c.args.replica < c.self.inside.replicas = subst (λ (t : TallyView). c.args.replica < t.replicas) (sym v) w in omega (arith, i.0, i.1, k))
    (subst (λ (t : TallyView). IsTallyOf t notes) (sym v) h)
    (subst (λ (t : TallyView). c.args.replica < t.replicas) (sym v) w)
    c.settled.ensures
