use Rattle.std.proofs.Common.{rules, None, ◌≡◌, ℕ, ◌≤◌, arith, true, List, sym, subst, ⊎_elim, inl, inr}
use Rattle.replica_core.specs.State.{ReplicaState}
use Rattle.node_lab.specs.Nodes.{has_replica}
use Rattle.node_lab.specs.Replicas.{settings_of}
use Rattle.node_lab.specs.Slots.{FailedAt, OpensAs, slot_in}
use Rattle.outside.specs.Causes.{Rose}
use Rattle.node_lab.proofs.CountLemmas.{rose_later}
use Rattle.node_core.specs.Ports.{ArePorts, port_in}
use Rattle.node_lab.proofs.PortWalkLemmas.{PortsTo, all_opened, are_ports, ends_here, failed_here, first_here, none_opened, one_more, opened_so_far, others_on}
use Rattle.node_lab.proofs.one_node.add_ports.Goals as goal

pub loop-partition-init : goal.loop-partition-init
loop-partition-init g c = record {
  so_far = subst (λ (l : List (ℕ × ReplicaState g.row.B-Disk.Denot)). PortsTo g.B.Bays.tells g.B.Disk.Disk.tells g.B.Disk.Disk.content g.B.Disk.Disk.size (settings_of c.args.shape.now) c.args.folder.now c.args.shape.now c.args.node (g.B.Bays.home c.args.bays.now) (g.B.Bays.out c.args.bays.now) 0 l (g.B.Bays.home c.args.bays.now) (g.B.Bays.out c.args.bays.now))
      (sym c.requires.empty) (none_opened g.B.Bays.tells g.B.Disk.Disk.tells g.B.Disk.Disk.content g.B.Disk.Disk.size (settings_of c.args.shape.now) c.args.folder.now c.args.shape.now c.args.node (g.B.Bays.home c.args.bays.now) (g.B.Bays.out c.args.bays.now));
  later = omega arith;
  same = g.met.B.Bays.same_self c.args.bays.now;
}

pub loop-partition-preserved : goal.loop-partition-preserved
loop-partition-preserved g c = record {
  so_far = one_more g.B.Bays.tells g.B.Disk.Disk.tells g.B.Disk.Disk.content g.B.Disk.Disk.size (settings_of c.args.shape.now) c.args.folder.now c.args.shape.now c.args.node (g.B.Bays.home c.args.bays.now) (g.B.Bays.out c.args.bays.now)
      c.loop-partition.partition c.loop-partition.ports.items (g.B.Bays.home c.loop-partition.bays) (g.B.Bays.home c.add_port.new.bays) (g.B.Bays.out c.loop-partition.bays) (g.B.Bays.out c.add_port.new.bays) c.loop-partition.invariant.so_far c.add_port.ensures.others
      c.add_port.new.ports.items c.in_ok-add_port.ensures.opened;
  later = omega (arith, c.loop-partition.invariant.later, c.add_port.ensures.later);
  same = g.met.B.Bays.same_on c.args.bays.now c.loop-partition.bays c.add_port.new.bays c.loop-partition.invariant.same c.add_port.ensures.same;
}

pub returns-clause-opened : goal.returns-clause-opened
returns-clause-opened g c =
    let end : c.loop-partition.partition ≡ c.args.shape.now.partitions = omega (arith, c.loop-partition-test.false, c.loop-partition.auto.partition-end) in
    all_opened g.B.Bays.tells g.B.Disk.Disk.tells g.B.Disk.Disk.content g.B.Disk.Disk.size (settings_of c.args.shape.now) c.args.folder.now c.args.shape.now c.args.node (g.B.Bays.home c.args.bays.now) (g.B.Bays.out c.args.bays.now)
    c.loop-partition.ports.items (g.B.Bays.home c.loop-partition.bays) (g.B.Bays.out c.loop-partition.bays)
    (subst (λ (k : ℕ). PortsTo g.B.Bays.tells g.B.Disk.Disk.tells g.B.Disk.Disk.content g.B.Disk.Disk.size (settings_of c.args.shape.now) c.args.folder.now c.args.shape.now c.args.node (g.B.Bays.home c.args.bays.now) (g.B.Bays.out c.args.bays.now) k c.loop-partition.ports.items (g.B.Bays.home c.loop-partition.bays) (g.B.Bays.out c.loop-partition.bays)) end c.loop-partition.invariant.so_far)

pub returns-clause-slots : goal.returns-clause-slots
returns-clause-slots g c =
    let end : c.loop-partition.partition ≡ c.args.shape.now.partitions = omega (arith, c.loop-partition-test.false, c.loop-partition.auto.partition-end) in
    opened_so_far g.B.Bays.tells g.B.Disk.Disk.tells g.B.Disk.Disk.content g.B.Disk.Disk.size (settings_of c.args.shape.now) c.args.folder.now c.args.shape.now c.args.node (g.B.Bays.home c.args.bays.now) (g.B.Bays.out c.args.bays.now)
    c.loop-partition.ports.items (g.B.Bays.home c.loop-partition.bays) (g.B.Bays.out c.loop-partition.bays)
    (subst (λ (k : ℕ). PortsTo g.B.Bays.tells g.B.Disk.Disk.tells g.B.Disk.Disk.content g.B.Disk.Disk.size (settings_of c.args.shape.now) c.args.folder.now c.args.shape.now c.args.node (g.B.Bays.home c.args.bays.now) (g.B.Bays.out c.args.bays.now) k c.loop-partition.ports.items (g.B.Bays.home c.loop-partition.bays) (g.B.Bays.out c.loop-partition.bays)) end c.loop-partition.invariant.so_far)

pub returns-clause-good : goal.returns-clause-good
returns-clause-good g c =
    let most : c.loop-partition.partition ≤ 64 = omega (arith, c.loop-partition.auto.partition-end, c.requires.shape.partitions) in
    are_ports c.loop-partition.ports.items c.loop-partition.partition most c.loop-partition.invariant.so_far.below c.loop-partition.invariant.so_far.apart

pub returns-in_err-add_port-clause-good : goal.returns-in_err-add_port-clause-good
returns-in_err-add_port-clause-good g c =
    let most : c.loop-partition.partition ≤ 64 = omega (arith, c.loop-partition.auto.partition-end, c.requires.shape.partitions) in
    subst (λ (l : List (ℕ × ReplicaState g.row.B-Disk.Denot)). ArePorts (λ (port : ReplicaState g.row.B-Disk.Denot). Unit {0}) l) (sym c.in_err-add_port.ensures.ports)
    (are_ports c.loop-partition.ports.items c.loop-partition.partition most c.loop-partition.invariant.so_far.below c.loop-partition.invariant.so_far.apart)

pub returns-in_err-add_port-clause-slots : goal.returns-in_err-add_port-clause-slots
returns-in_err-add_port-clause-slots g c = λ t p.
    subst (λ (l : List (ℕ × ReplicaState g.row.B-Disk.Denot)). OpensAs g.B.Disk.Disk.tells g.B.Disk.Disk.content g.B.Disk.Disk.size (port_in l p) (has_replica c.args.shape.now c.args.node p) (settings_of c.args.shape.now) c.args.folder.now (slot_in None (g.B.Bays.home c.args.bays.now) (g.B.Bays.out c.args.bays.now) c.args.folder.now c.args.node p)
    (slot_in (port_in l p) (g.B.Bays.home c.add_port.new.bays) (g.B.Bays.out c.add_port.new.bays) c.args.folder.now c.args.node p)) (sym c.in_err-add_port.ensures.ports)
    (ends_here g.B.Bays.tells g.B.Disk.Disk.tells g.B.Disk.Disk.content g.B.Disk.Disk.size (settings_of c.args.shape.now) c.args.folder.now c.args.shape.now c.args.node (g.B.Bays.home c.args.bays.now) (g.B.Bays.out c.args.bays.now)
    c.loop-partition.partition c.loop-partition.ports.items (g.B.Bays.home c.loop-partition.bays) (g.B.Bays.home c.add_port.new.bays) (g.B.Bays.out c.loop-partition.bays) (g.B.Bays.out c.add_port.new.bays) c.loop-partition.invariant.so_far c.add_port.ensures.others
    c.in_err-add_port.ensures.due c.in_err-add_port.ensures.closed t p)

pub returns-in_err-add_port-clause-others : goal.returns-in_err-add_port-clause-others
returns-in_err-add_port-clause-others g c = λ t.
    others_on g.B.Bays.tells g.B.Disk.Disk.tells g.B.Disk.Disk.content g.B.Disk.Disk.size (settings_of c.args.shape.now) c.args.folder.now c.args.shape.now c.args.node (g.B.Bays.home c.args.bays.now) (g.B.Bays.out c.args.bays.now)
    c.loop-partition.partition c.loop-partition.ports.items (g.B.Bays.home c.loop-partition.bays) (g.B.Bays.home c.add_port.new.bays) (g.B.Bays.out c.loop-partition.bays) (g.B.Bays.out c.add_port.new.bays) c.loop-partition.invariant.so_far c.add_port.ensures.others t

pub returns-in_err-add_port-clause-place : goal.returns-in_err-add_port-clause-place
returns-in_err-add_port-clause-place g c = λ refusal is.
    let named = c.in_err-add_port.ensures.refused refusal (search rules) in
    (named.0, subst (λ (p : ℕ). has_replica c.args.shape.now c.args.node p ≡ true) (sym named.1) c.in_err-add_port.ensures.due)

pub returns-in_err-add_port-clause-refused : goal.returns-in_err-add_port-clause-refused
returns-in_err-add_port-clause-refused g c = λ refusal is t.
    let named = c.in_err-add_port.ensures.refused refusal (search rules) in
    let so = c.loop-partition.invariant.so_far in
    first_here g.B.Bays.tells g.B.Disk.Disk.tells g.B.Disk.Disk.content g.B.Disk.Disk.size (settings_of c.args.shape.now) c.args.folder.now c.args.shape.now c.args.node (g.B.Bays.home c.args.bays.now) (g.B.Bays.out c.args.bays.now)
    c.loop-partition.partition c.loop-partition.ports.items (g.B.Bays.home c.loop-partition.bays) (g.B.Bays.home c.add_port.new.bays) (g.B.Bays.out c.loop-partition.bays) (g.B.Bays.out c.add_port.new.bays) so c.add_port.ensures.others
    c.in_err-add_port.ensures.due refusal named.0 named.1 named.2 t

pub returns-in_err-add_port-clause-failed : goal.returns-in_err-add_port-clause-failed
returns-in_err-add_port-clause-failed g c = λ is.
    ⊎_elim (λ (rose : Rose (g.B.Bays.faults c.loop-partition.bays) (g.B.Bays.faults c.add_port.new.bays)). inl (rose_later (g.B.Bays.faults c.args.bays.now) (g.B.Bays.faults c.loop-partition.bays) (g.B.Bays.faults c.add_port.new.bays) c.loop-partition.invariant.later rose))
    (λ (failed : g.B.Bays.tells → FailedAt g.B.Disk.Disk.tells g.B.Disk.Disk.content g.B.Disk.Disk.size g.B.Disk.Disk.faults
    (slot_in None (g.B.Bays.home c.loop-partition.bays) (g.B.Bays.out c.loop-partition.bays) c.args.folder.now c.args.node c.loop-partition.partition)
    (slot_in None (g.B.Bays.home c.add_port.new.bays) (g.B.Bays.out c.add_port.new.bays) c.args.folder.now c.args.node c.loop-partition.partition)).
    inr (failed_here g.B.Bays.tells g.B.Disk.Disk.tells g.B.Disk.Disk.content g.B.Disk.Disk.size (settings_of c.args.shape.now) c.args.folder.now c.args.shape.now c.args.node (g.B.Bays.home c.args.bays.now) (g.B.Bays.out c.args.bays.now)
    c.loop-partition.partition c.loop-partition.ports.items (g.B.Bays.home c.loop-partition.bays) (g.B.Bays.home c.add_port.new.bays) (g.B.Bays.out c.loop-partition.bays) (g.B.Bays.out c.add_port.new.bays) c.loop-partition.invariant.so_far c.add_port.ensures.others
    c.in_err-add_port.ensures.due g.B.Disk.Disk.faults failed))
    (c.in_err-add_port.ensures.failed (search rules))
