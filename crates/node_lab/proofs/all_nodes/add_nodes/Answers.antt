use Rattle.std.proofs.Common.{rules, ◌≡◌, ⊎_elim, inl, inr, ℕ, ◌+◌, arith, true, List, length, None, sym, ap, subst}
use Rattle.node_core.specs.Ports.{port_in}
use Rattle.outside.specs.Causes.{Rose}
use Rattle.replica_core.specs.State.{ReplicaState}
use Rattle.node_lab.specs.declared.state.NodeState.{NodeState}
use Rattle.node_lab.specs.Nodes.{has_replica, ports_at}
use Rattle.node_lab.specs.Openings.{NodeFailed}
use Rattle.node_lab.specs.Replicas.{settings_of}
use Rattle.node_lab.specs.Slots.{OpensAs, slot_in}
use Rattle.node_lab.proofs.CountLemmas.{rose_later}
use Rattle.node_lab.proofs.NodeWalkLemmas.{NodesTo, all_opened, all_up, ends_here, failed_here, first_here, folders_on, no_nodes, one_more}
use Rattle.node_lab.proofs.all_nodes.add_nodes.Goals as goal

pub loop-node-init : goal.loop-node-init
loop-node-init g c = record {
  so_far = subst (λ (l : List (NodeState (ReplicaState g.row.B-Disk.Denot))). NodesTo g.B.Bays.tells g.B.Disk.Disk.tells g.B.Disk.Disk.content g.B.Disk.Disk.size (settings_of c.args.shape.now) c.args.folder.now c.args.shape.now (g.B.Bays.home c.args.bays.now) (g.B.Bays.out c.args.bays.now) 0 l (g.B.Bays.home c.args.bays.now) (g.B.Bays.out c.args.bays.now)) (sym c.requires.empty) (no_nodes g.B.Bays.tells g.B.Disk.Disk.tells g.B.Disk.Disk.content g.B.Disk.Disk.size (settings_of c.args.shape.now) c.args.folder.now c.args.shape.now (g.B.Bays.home c.args.bays.now) (g.B.Bays.out c.args.bays.now) c.requires.shape);
  later = omega arith;
  same = g.met.B.Bays.same_self c.args.bays.now;
}

pub loop-node-preserved : goal.loop-node-preserved
loop-node-preserved g c = record {
  so_far = one_more g.B.Bays.tells g.B.Disk.Disk.tells g.B.Disk.Disk.content g.B.Disk.Disk.size (settings_of c.args.shape.now) c.args.folder.now c.args.shape.now (g.B.Bays.home c.args.bays.now) (g.B.Bays.out c.args.bays.now)
      c.loop-node.node c.loop-node.nodes.items (g.B.Bays.home c.loop-node.bays) (g.B.Bays.home c.add_node.new.bays) (g.B.Bays.out c.loop-node.bays) (g.B.Bays.out c.add_node.new.bays) c.loop-node.invariant.so_far c.add_node.ensures.others c.add_node.new.nodes.items c.in_ok-add_node.ensures.opened;
  later = omega (arith, c.loop-node.invariant.later, c.add_node.ensures.later);
  same = g.met.B.Bays.same_on c.args.bays.now c.loop-node.bays c.add_node.new.bays c.loop-node.invariant.same c.add_node.ensures.same;
}

pub returns-clause-few : goal.returns-clause-few
returns-clause-few g c = let long = c.loop-node.invariant.so_far.long in omega (arith, long, c.loop-node.auto.node-end)

pub returns-clause-length : goal.returns-clause-length
returns-clause-length g c = let long = c.loop-node.invariant.so_far.long in omega (arith, long, c.loop-node-test.false, c.loop-node.auto.node-end)

pub returns-clause-up : goal.returns-clause-up
returns-clause-up g c =
    let end : c.loop-node.node ≡ c.args.shape.now.nodes = omega (arith, c.loop-node-test.false, c.loop-node.auto.node-end) in
    all_up g.B.Bays.tells g.B.Disk.Disk.tells g.B.Disk.Disk.content g.B.Disk.Disk.size (settings_of c.args.shape.now) c.args.folder.now c.args.shape.now (g.B.Bays.home c.args.bays.now) (g.B.Bays.out c.args.bays.now) c.loop-node.nodes.items (g.B.Bays.home c.loop-node.bays) (g.B.Bays.out c.loop-node.bays) c.requires.shape
    (subst (λ (k : ℕ). NodesTo g.B.Bays.tells g.B.Disk.Disk.tells g.B.Disk.Disk.content g.B.Disk.Disk.size (settings_of c.args.shape.now) c.args.folder.now c.args.shape.now (g.B.Bays.home c.args.bays.now) (g.B.Bays.out c.args.bays.now) k c.loop-node.nodes.items (g.B.Bays.home c.loop-node.bays) (g.B.Bays.out c.loop-node.bays)) end c.loop-node.invariant.so_far)

pub returns-clause-slots : goal.returns-clause-slots
returns-clause-slots g c =
    let end : c.loop-node.node ≡ c.args.shape.now.nodes = omega (arith, c.loop-node-test.false, c.loop-node.auto.node-end) in
    all_opened g.B.Bays.tells g.B.Disk.Disk.tells g.B.Disk.Disk.content g.B.Disk.Disk.size (settings_of c.args.shape.now) c.args.folder.now c.args.shape.now (g.B.Bays.home c.args.bays.now) (g.B.Bays.out c.args.bays.now) c.loop-node.nodes.items (g.B.Bays.home c.loop-node.bays) (g.B.Bays.out c.loop-node.bays) c.requires.shape
    (subst (λ (k : ℕ). NodesTo g.B.Bays.tells g.B.Disk.Disk.tells g.B.Disk.Disk.content g.B.Disk.Disk.size (settings_of c.args.shape.now) c.args.folder.now c.args.shape.now (g.B.Bays.home c.args.bays.now) (g.B.Bays.out c.args.bays.now) k c.loop-node.nodes.items (g.B.Bays.home c.loop-node.bays) (g.B.Bays.out c.loop-node.bays)) end c.loop-node.invariant.so_far)

pub returns-clause-folders : goal.returns-clause-folders
returns-clause-folders g c = c.loop-node.invariant.so_far.folders

pub returns-in_err-add_node-clause-few : goal.returns-in_err-add_node-clause-few
returns-in_err-add_node-clause-few g c =
    let same : length c.add_node.new.nodes.items ≡ length c.loop-node.nodes.items = ap (λ (l : List (NodeState (ReplicaState g.row.B-Disk.Denot))). length l) c.in_err-add_node.ensures.nodes in
    let long = c.loop-node.invariant.so_far.long in omega (arith, same, long, c.loop-node-test.true, c.loop-node.auto.node-end)

pub returns-in_err-add_node-clause-slots : goal.returns-in_err-add_node-clause-slots
returns-in_err-add_node-clause-slots g c = λ t n p.
    subst (λ (l : List (NodeState (ReplicaState g.row.B-Disk.Denot))). OpensAs g.B.Disk.Disk.tells g.B.Disk.Disk.content g.B.Disk.Disk.size (port_in (ports_at l n) p) (has_replica c.args.shape.now n p) (settings_of c.args.shape.now) c.args.folder.now (slot_in None (g.B.Bays.home c.args.bays.now) (g.B.Bays.out c.args.bays.now) c.args.folder.now n p)
    (slot_in (port_in (ports_at l n) p) (g.B.Bays.home c.add_node.new.bays) (g.B.Bays.out c.add_node.new.bays) c.args.folder.now n p)) (sym c.in_err-add_node.ensures.nodes)
    (ends_here g.B.Bays.tells g.B.Disk.Disk.tells g.B.Disk.Disk.content g.B.Disk.Disk.size (settings_of c.args.shape.now) c.args.folder.now c.args.shape.now (g.B.Bays.home c.args.bays.now) (g.B.Bays.out c.args.bays.now)
    c.loop-node.node c.loop-node.nodes.items (g.B.Bays.home c.loop-node.bays) (g.B.Bays.home c.add_node.new.bays) (g.B.Bays.out c.loop-node.bays) (g.B.Bays.out c.add_node.new.bays) c.loop-node.invariant.so_far c.add_node.ensures.others c.in_err-add_node.ensures.closed t n p)

pub returns-in_err-add_node-clause-folders : goal.returns-in_err-add_node-clause-folders
returns-in_err-add_node-clause-folders g c = folders_on g.B.Bays.tells g.B.Disk.Disk.tells g.B.Disk.Disk.content g.B.Disk.Disk.size (settings_of c.args.shape.now) c.args.folder.now c.args.shape.now (g.B.Bays.home c.args.bays.now) (g.B.Bays.out c.args.bays.now)
    c.loop-node.node c.loop-node.nodes.items (g.B.Bays.home c.loop-node.bays) (g.B.Bays.home c.add_node.new.bays) (g.B.Bays.out c.loop-node.bays) (g.B.Bays.out c.add_node.new.bays) c.loop-node.invariant.so_far c.add_node.ensures.others

pub returns-in_err-add_node-clause-place : goal.returns-in_err-add_node-clause-place
returns-in_err-add_node-clause-place g c = λ refusal is.
    let named = c.in_err-add_node.ensures.place refusal (search rules) in
    subst (λ (n : ℕ). has_replica c.args.shape.now n refusal.partition ≡ true) (sym named.0) named.1

pub returns-in_err-add_node-clause-refused : goal.returns-in_err-add_node-clause-refused
returns-in_err-add_node-clause-refused g c = λ refusal is.
    let named = c.in_err-add_node.ensures.place refusal (search rules) in
    first_here g.B.Bays.tells g.B.Disk.Disk.tells g.B.Disk.Disk.content g.B.Disk.Disk.size (settings_of c.args.shape.now) c.args.folder.now c.args.shape.now (g.B.Bays.home c.args.bays.now) (g.B.Bays.out c.args.bays.now)
    c.loop-node.node c.loop-node.nodes.items (g.B.Bays.home c.loop-node.bays) (g.B.Bays.home c.add_node.new.bays) (g.B.Bays.out c.loop-node.bays) (g.B.Bays.out c.add_node.new.bays) c.loop-node.invariant.so_far c.add_node.ensures.others refusal named.0 (c.in_err-add_node.ensures.refused refusal (search rules))

pub returns-in_err-add_node-clause-failed : goal.returns-in_err-add_node-clause-failed
returns-in_err-add_node-clause-failed g c = λ is. ⊎_elim
    (λ (rose : Rose (g.B.Bays.faults c.loop-node.bays) (g.B.Bays.faults c.add_node.new.bays)). inl (rose_later (g.B.Bays.faults c.args.bays.now) (g.B.Bays.faults c.loop-node.bays) (g.B.Bays.faults c.add_node.new.bays) c.loop-node.invariant.later rose))
    (λ (failed : g.B.Bays.tells → NodeFailed g.B.Bays.tells g.B.Disk.Disk.tells g.B.Disk.Disk.content g.B.Disk.Disk.size (settings_of c.args.shape.now) c.args.folder.now (c.loop-node.node + 1) (g.B.Bays.home c.loop-node.bays) (g.B.Bays.out c.loop-node.bays) (g.B.Bays.home c.add_node.new.bays) (g.B.Bays.out c.add_node.new.bays) g.B.Disk.Disk.faults (has_replica c.args.shape.now (c.loop-node.node + 1))).
    inr (failed_here g.B.Bays.tells g.B.Disk.Disk.tells g.B.Disk.Disk.content g.B.Disk.Disk.size (settings_of c.args.shape.now) c.args.folder.now c.args.shape.now (g.B.Bays.home c.args.bays.now) (g.B.Bays.out c.args.bays.now)
    c.loop-node.node c.loop-node.nodes.items (g.B.Bays.home c.loop-node.bays) (g.B.Bays.home c.add_node.new.bays) (g.B.Bays.out c.loop-node.bays) (g.B.Bays.out c.add_node.new.bays) c.loop-node.invariant.so_far c.add_node.ensures.others g.B.Disk.Disk.faults failed))
    (c.in_err-add_node.ensures.failed (search rules))
