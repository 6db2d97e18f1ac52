use Rattle.std.proofs.Common.{◌≡◌, Bool, true, Some, sym, refl, subst, ℕ, ap, ◌∙◌}
use Rattle.log_manifest.specs.declared.manifest.LogSettings.{LogSettings}
use Rattle.lab_nodes.specs.Holding.{settings_of}
use Rattle.lab_nodes.specs.Spots.{partition_at}
use Rattle.lab_nodes.specs.Starting.{StartsSlot, is_due}
use Rattle.lab_nodes.proofs.Walking.{due_from}
use Rattle.lab_nodes.proofs.spots.start_place.Goals as goal
use Rattle.lab_nodes.proofs.spots.start_place.Goals.{Then-stands_on}

due : (g : _) (c : Then-stands_on g) → is_due c.args.which c.args.shape.now c.args.place ≡ true
due g c = due_from c.args.which c.args.shape.now c.args.place c.node_at-node.result c.partition_at-partition.result c.is_meant.result c.stands_on.result
    c.node_at-node.ensures c.partition_at-partition.ensures c.is_meant.ensures c.if-is_meant.true c.stands_on.ensures c.if-stands_on.true

pub returns-in_ok-replica-clause-slot : goal.returns-in_ok-replica-clause-slot
returns-in_ok-replica-clause-slot g c =
    let it = (goal.at.returns-in_ok-replica-clause-slot g c).Then-stands_on in
    let opened = c.in_ok-replica.ensures.opened in
    subst (λ (b : Bool). StartsSlot b (settings_of c.args.shape.now) c.args.slot.now (Some c.in_ok-replica.replica)) (sym (due g it))
    (record { replica = c.in_ok-replica.replica; is = refl; up = opened.up; named = opened.named ∙ c.settings_of.ensures.settings })
