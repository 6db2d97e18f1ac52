use Rattle.std.proofs.Common.{◌≡◌, [], ◌∷◌, List, length, Option, None, sym, ◌∙◌, ap, subst, arith, length-append}
use Rattle.replica_core.specs.State.{ReplicaState}
use Rattle.lab_nodes.specs.Spots.{slot_at}
use Rattle.lab_nodes.proofs.Walking.{none_on}
use Rattle.lab_nodes.proofs.nodes.empty_slots.Goals as goal

pub loop-preserved : goal.loop-preserved
loop-preserved g c =
    let slots = c.loop.slots.items in
    let items = c.in_ok-push.ensures.items in
    record {
      passed = ap length items ∙ length-append slots (None ∷ []) ∙ omega (arith, c.loop.invariant.passed);
      none = λ place. subst (λ (l : List (Option (ReplicaState g.row.D.Denot))). slot_at l place ≡ None) (sym items) (none_on slots c.loop.invariant.none place);
    }
