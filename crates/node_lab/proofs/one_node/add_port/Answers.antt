use Rattle.std.proofs.Common.{◌≡◌, Bool, true, rules, Some, None, sym, ◌∙◌, subst}
use Rattle.log_manifest.specs.declared.manifest.LogSettings.{LogSettings}
use Rattle.node_lab.specs.Nodes.{has_replica}
use Rattle.node_lab.specs.Replicas.{settings_of}
use Rattle.node_lab.specs.Slots.{OpensSlot, OpensWhere, slot_in}
use Rattle.node_lab.proofs.one_node.add_port.Goals as goal

pub returns-in_err-replica-clause-failed : goal.returns-in_err-replica-clause-failed
returns-in_err-replica-clause-failed g c = λ is. c.in_err-replica.ensures.failed (search rules)

pub returns-in_ok-replica-clause-opened : goal.returns-in_ok-replica-clause-opened
returns-in_ok-replica-clause-opened g c =
    let due : has_replica c.args.shape.now c.args.node c.args.partition ≡ true = sym c.has_replica.ensures ∙ c.if-has_replica.true in
    record {
      opened = Some c.in_ok-replica.replica;
      up = sym due;
      adds = search rules;
      slot = λ t. subst (λ (b : Bool). OpensWhere g.B.Disk.Disk.tells g.B.Disk.Disk.content g.B.Disk.Disk.size b (settings_of c.args.shape.now) c.args.folder.now (slot_in None (g.B.Bays.home c.args.bays.now) (g.B.Bays.out c.args.bays.now) c.args.folder.now c.args.node c.args.partition)
          (slot_in (Some c.in_ok-replica.replica) (g.B.Bays.home c.open_replica.new.bays) (g.B.Bays.out c.open_replica.new.bays) c.args.folder.now c.args.node c.args.partition)) (sym due)
          (subst (λ (s : LogSettings). OpensSlot g.B.Disk.Disk.tells g.B.Disk.Disk.content g.B.Disk.Disk.size s c.args.folder.now (slot_in None (g.B.Bays.home c.args.bays.now) (g.B.Bays.out c.args.bays.now) c.args.folder.now c.args.node c.args.partition)
          (slot_in (Some c.in_ok-replica.replica) (g.B.Bays.home c.open_replica.new.bays) (g.B.Bays.out c.open_replica.new.bays) c.args.folder.now c.args.node c.args.partition)) c.settings_of.ensures.settings (c.in_ok-replica.ensures.opened t));
    }
