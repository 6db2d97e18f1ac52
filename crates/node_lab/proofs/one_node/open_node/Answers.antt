use Rattle.std.proofs.Common.{rules, ◌≡◌, ⊎_elim, inl, inr, ℕ, false, List, None, sym, ap, subst}
use Rattle.node_core.specs.Ports.{port_in}
use Rattle.outside.specs.Causes.{Rose}
use Rattle.replica_core.specs.State.{ReplicaState}
use Rattle.node_lab.specs.declared.fault.NodesFault.{NodesFault}
use Rattle.node_lab.specs.Calls.{PortsOut}
use Rattle.node_lab.specs.Nodes.{has_replica}
use Rattle.node_lab.specs.Openings.{NodeFailed}
use Rattle.node_lab.specs.Replicas.{settings_of}
use Rattle.node_lab.specs.Slots.{GoesHome, slot_in}
use Rattle.node_lab.proofs.NodeOpenLemmas.{node_closed, node_failed, others_chain, ports_out}
use Rattle.node_lab.proofs.one_node.open_node.Goals as goal
use Rattle.node_lab.proofs.one_node.open_node.Goals.{After-add_ports, In-Err-new}

-- the disks of the replicas that were opened are out
are_out : (g : _) (c : After-add_ports g) → g.B.Bays.tells → PortsOut c.args.folder.now c.args.node c.add_ports.new.ports.items (g.B.Bays.out c.add_ports.new.bays)
are_out g c = ports_out g.B.Disk.Disk.tells g.B.Disk.Disk.content g.B.Disk.Disk.size (settings_of c.args.shape.now) g.B.Bays.tells c.args.folder.now c.args.node (has_replica c.args.shape.now c.args.node) c.add_ports.new.ports.items (g.B.Bays.home c.args.bays.now) (g.B.Bays.home c.add_ports.new.bays) (g.B.Bays.home c.add_ports.new.bays) (g.B.Bays.out c.args.bays.now) (g.B.Bays.out c.add_ports.new.bays) (g.B.Bays.out c.add_ports.new.bays) c.add_ports.ensures.slots

-- the ports that a node refused are those that it was to have
refused_ports : (g : _) (c : In-Err-new g) → c.in-Err-new.ports.items ≡ c.add_ports.new.ports.items
refused_ports g c = ap (λ v. v.items) c.in-Err-new.ensures.err

pub send_all_home-requires-clause-out : goal.send_all_home-requires-clause-out
send_all_home-requires-clause-out g c = λ t.
    let it = (goal.at.send_all_home-requires-clause-out g c).After-add_ports in
    (c.args.folder.now, subst (λ (l : List (ℕ × ReplicaState g.row.B-Disk.Denot)). PortsOut c.args.folder.now c.args.node l (g.B.Bays.out c.add_ports.new.bays)) (sym (refused_ports g (goal.at.send_all_home-requires-clause-out g c).In-Err-new)) (are_out g it t))

pub send_all_home-requires-in-Err-clause-out : goal.send_all_home-requires-in-Err-clause-out
send_all_home-requires-in-Err-clause-out g c = λ t. (c.args.folder.now, are_out g (goal.at.send_all_home-requires-in-Err-clause-out g c).After-add_ports t)

pub returns-in-Err-new-clause-closed : goal.returns-in-Err-new-clause-closed
returns-in-Err-new-clause-closed g c = node_closed g.B.Disk.Disk.tells g.B.Disk.Disk.content g.B.Disk.Disk.size (settings_of c.args.shape.now) g.B.Bays.tells c.args.folder.now c.args.node (has_replica c.args.shape.now c.args.node) c.add_ports.new.ports.items (g.B.Bays.home c.args.bays.now) (g.B.Bays.home c.add_ports.new.bays) (g.B.Bays.home c.send_all_home.new.bays) (g.B.Bays.out c.args.bays.now) (g.B.Bays.out c.add_ports.new.bays) (g.B.Bays.out c.send_all_home.new.bays) c.add_ports.ensures.slots
    (λ t. subst (λ (l : List (ℕ × ReplicaState g.row.B-Disk.Denot)). (p : ℕ) → GoesHome g.B.Disk.Disk.tells g.B.Disk.Disk.content g.B.Disk.Disk.size false (port_in l p) (slot_in (port_in l p) (g.B.Bays.home c.add_ports.new.bays) (g.B.Bays.out c.add_ports.new.bays) c.args.folder.now c.args.node p) (slot_in None (g.B.Bays.home c.send_all_home.new.bays) (g.B.Bays.out c.send_all_home.new.bays) c.args.folder.now c.args.node p)) (refused_ports g (goal.at.returns-in-Err-new-clause-closed g c).In-Err-new)
    (c.send_all_home.ensures.slots t c.args.folder.now (subst (λ (l : List (ℕ × ReplicaState g.row.B-Disk.Denot)). PortsOut c.args.folder.now c.args.node l (g.B.Bays.out c.add_ports.new.bays)) (sym (refused_ports g (goal.at.returns-in-Err-new-clause-closed g c).In-Err-new)) (are_out g (goal.at.returns-in-Err-new-clause-closed g c).After-add_ports t))))

pub returns-in-Err-new-clause-others : goal.returns-in-Err-new-clause-others
returns-in-Err-new-clause-others g c = λ t. others_chain c.args.folder.now c.args.node (g.B.Bays.home c.args.bays.now) (g.B.Bays.home c.add_ports.new.bays) (g.B.Bays.home c.send_all_home.new.bays) (g.B.Bays.out c.args.bays.now) (g.B.Bays.out c.add_ports.new.bays) (g.B.Bays.out c.send_all_home.new.bays) (c.add_ports.ensures.others t) (c.send_all_home.ensures.others t c.args.folder.now (subst (λ (l : List (ℕ × ReplicaState g.row.B-Disk.Denot)). PortsOut c.args.folder.now c.args.node l (g.B.Bays.out c.add_ports.new.bays)) (sym (refused_ports g (goal.at.returns-in-Err-new-clause-others g c).In-Err-new)) (are_out g (goal.at.returns-in-Err-new-clause-others g c).After-add_ports t)))

pub returns-in-Err-new-clause-same : goal.returns-in-Err-new-clause-same
returns-in-Err-new-clause-same g c = g.met.B.Bays.same_on c.args.bays.now c.add_ports.new.bays c.send_all_home.new.bays c.add_ports.ensures.same c.send_all_home.ensures.same

pub returns-in-Err-clause-closed : goal.returns-in-Err-clause-closed
returns-in-Err-clause-closed g c = node_closed g.B.Disk.Disk.tells g.B.Disk.Disk.content g.B.Disk.Disk.size (settings_of c.args.shape.now) g.B.Bays.tells c.args.folder.now c.args.node (has_replica c.args.shape.now c.args.node) c.add_ports.new.ports.items (g.B.Bays.home c.args.bays.now) (g.B.Bays.home c.add_ports.new.bays) (g.B.Bays.home c.send_all_home-in-Err.new.bays) (g.B.Bays.out c.args.bays.now) (g.B.Bays.out c.add_ports.new.bays) (g.B.Bays.out c.send_all_home-in-Err.new.bays) c.add_ports.ensures.slots (λ t. c.send_all_home-in-Err.ensures.slots t c.args.folder.now (are_out g (goal.at.returns-in-Err-clause-closed g c).After-add_ports t))

pub returns-in-Err-clause-others : goal.returns-in-Err-clause-others
returns-in-Err-clause-others g c = λ t. others_chain c.args.folder.now c.args.node (g.B.Bays.home c.args.bays.now) (g.B.Bays.home c.add_ports.new.bays) (g.B.Bays.home c.send_all_home-in-Err.new.bays) (g.B.Bays.out c.args.bays.now) (g.B.Bays.out c.add_ports.new.bays) (g.B.Bays.out c.send_all_home-in-Err.new.bays) (c.add_ports.ensures.others t) (c.send_all_home-in-Err.ensures.others t c.args.folder.now (are_out g (goal.at.returns-in-Err-clause-others g c).After-add_ports t))

pub returns-in-Err-clause-same : goal.returns-in-Err-clause-same
returns-in-Err-clause-same g c = g.met.B.Bays.same_on c.args.bays.now c.add_ports.new.bays c.send_all_home-in-Err.new.bays c.add_ports.ensures.same c.send_all_home-in-Err.ensures.same

pub returns-in-Err-clause-place : goal.returns-in-Err-clause-place
returns-in-Err-clause-place g c = λ refusal is. let same : c.in-Err.fault ≡ NodesFault.Refused refusal = cc is in c.in-Err.ensures.place refusal (cc same)

pub returns-in-Err-clause-refused : goal.returns-in-Err-clause-refused
returns-in-Err-clause-refused g c = λ refusal is. let same : c.in-Err.fault ≡ NodesFault.Refused refusal = cc is in c.in-Err.ensures.refused refusal (search (rules, same))

pub returns-in-Err-clause-failed : goal.returns-in-Err-clause-failed
returns-in-Err-clause-failed g c = λ is. ⊎_elim
    (λ (rose : Rose (g.B.Bays.faults c.args.bays.now) (g.B.Bays.faults c.add_ports.new.bays)). inl (subst (λ (n : ℕ). Rose (g.B.Bays.faults c.args.bays.now) n) (sym c.send_all_home-in-Err.ensures.faults) rose))
    (λ (failed : g.B.Bays.tells → NodeFailed g.B.Bays.tells g.B.Disk.Disk.tells g.B.Disk.Disk.content g.B.Disk.Disk.size (settings_of c.args.shape.now) c.args.folder.now c.args.node (g.B.Bays.home c.args.bays.now) (g.B.Bays.out c.args.bays.now) (g.B.Bays.home c.add_ports.new.bays) (g.B.Bays.out c.add_ports.new.bays) g.B.Disk.Disk.faults (has_replica c.args.shape.now c.args.node)).
    inr (node_failed g.B.Disk.Disk.tells g.B.Disk.Disk.content g.B.Disk.Disk.size (settings_of c.args.shape.now) g.B.Bays.tells c.args.folder.now c.args.node (has_replica c.args.shape.now c.args.node) c.add_ports.new.ports.items (g.B.Bays.home c.args.bays.now) (g.B.Bays.home c.add_ports.new.bays) (g.B.Bays.home c.send_all_home-in-Err.new.bays) (g.B.Bays.out c.args.bays.now) (g.B.Bays.out c.add_ports.new.bays) (g.B.Bays.out c.send_all_home-in-Err.new.bays) c.add_ports.ensures.slots (λ t. c.send_all_home-in-Err.ensures.slots t c.args.folder.now (are_out g (goal.at.returns-in-Err-clause-failed g c).After-add_ports t)) g.B.Disk.Disk.faults failed))
    (let same : c.in-Err.fault ≡ NodesFault.Failed = cc is in c.in-Err.ensures.failed (cc same))
