use Rattle.std.proofs.Common.{◌≡◌, ⊎_elim, inl, inr, ℕ, arith, None, refl, sym, ◌∙◌, subst}
use Rattle.node_core.specs.Ports.{port_in}
use Rattle.outside.specs.Causes.{Rose}
use Rattle.node_lab.specs.Calls.{NodesOut}
use Rattle.node_lab.specs.Nodes.{has_replica, ports_at}
use Rattle.node_lab.specs.Replicas.{settings_of}
use Rattle.node_lab.specs.Slots.{SomeFailed, slot_in}
use Rattle.node_lab.specs.declared.fault.NodesFault.{NodesFault}
use Rattle.node_lab.proofs.NodeOpenLemmas.{failed_stays}
use Rattle.node_lab.proofs.SlotLemmas.{closes_again, opened_out}
use Rattle.node_lab.proofs.all_nodes.open_all.Goals as goal
use Rattle.node_lab.proofs.all_nodes.open_all.Goals.{After-add_nodes}

-- the disks of the replicas that were opened are out
are_out : (g : _) (c : After-add_nodes g) → g.B.Bays.tells → NodesOut c.args.folder.now c.add_nodes.new.nodes.items (g.B.Bays.out c.add_nodes.new.bays)
are_out g c t n p some = opened_out g.B.Disk.Disk.tells g.B.Disk.Disk.content g.B.Disk.Disk.size (settings_of c.args.shape.now) (has_replica c.args.shape.now n p) c.args.folder.now (slot_in None (g.B.Bays.home c.args.bays.now) (g.B.Bays.out c.args.bays.now) c.args.folder.now n p) (slot_in (port_in (ports_at c.add_nodes.new.nodes.items n) p) (g.B.Bays.home c.add_nodes.new.bays) (g.B.Bays.out c.add_nodes.new.bays) c.args.folder.now n p) (c.add_nodes.ensures.slots t n p) some

pub close_all-requires : goal.close_all-requires
close_all-requires g c = record {
  few = (let few = c.add_nodes.ensures.few in omega (arith, few, c.requires.shape.nodes));
  out = λ t. (c.args.folder.now, are_out g (goal.at.close_all-requires g c).After-add_nodes t);
}

pub returns-in-Err-clause-closed : goal.returns-in-Err-clause-closed
returns-in-Err-clause-closed g c = λ t n p.
    closes_again g.B.Disk.Disk.tells g.B.Disk.Disk.content g.B.Disk.Disk.size (settings_of c.args.shape.now) (has_replica c.args.shape.now n p) c.args.folder.now (slot_in None (g.B.Bays.home c.args.bays.now) (g.B.Bays.out c.args.bays.now) c.args.folder.now n p) (slot_in (port_in (ports_at c.add_nodes.new.nodes.items n) p) (g.B.Bays.home c.add_nodes.new.bays) (g.B.Bays.out c.add_nodes.new.bays) c.args.folder.now n p) (slot_in None (g.B.Bays.home c.close_all.new.bays) (g.B.Bays.out c.close_all.new.bays) c.args.folder.now n p) refl
    (c.add_nodes.ensures.slots t n p) (c.close_all.ensures.slots t c.args.folder.now (are_out g (goal.at.returns-in-Err-clause-closed g c).After-add_nodes t) n p)

pub returns-in-Err-clause-folders : goal.returns-in-Err-clause-folders
returns-in-Err-clause-folders g c = λ t f n p other.
    c.close_all.ensures.folders t c.args.folder.now (are_out g (goal.at.returns-in-Err-clause-folders g c).After-add_nodes t) f n p other ∙ c.add_nodes.ensures.folders t f n p other

pub returns-in-Err-clause-place : goal.returns-in-Err-clause-place
returns-in-Err-clause-place g c = λ refusal is. let same : c.in-Err.fault ≡ NodesFault.Refused refusal = cc is in c.in-Err.ensures.place refusal (cc same)

pub returns-in-Err-clause-refused : goal.returns-in-Err-clause-refused
returns-in-Err-clause-refused g c = λ refusal is. let same : c.in-Err.fault ≡ NodesFault.Refused refusal = cc is in c.in-Err.ensures.refused refusal (cc same)

pub returns-in-Err-clause-failed : goal.returns-in-Err-clause-failed
returns-in-Err-clause-failed g c = λ is. ⊎_elim
    (λ (rose : Rose (g.B.Bays.faults c.args.bays.now) (g.B.Bays.faults c.add_nodes.new.bays)). inl (subst (λ (n : ℕ). Rose (g.B.Bays.faults c.args.bays.now) n) (sym c.close_all.ensures.faults) rose))
    (λ (failed : g.B.Bays.tells → SomeFailed g.B.Disk.Disk.tells g.B.Disk.Disk.content g.B.Disk.Disk.size g.B.Disk.Disk.faults (has_replica c.args.shape.now) (slot_in None (g.B.Bays.home c.args.bays.now) (g.B.Bays.out c.args.bays.now) c.args.folder.now) (slot_in None (g.B.Bays.home c.add_nodes.new.bays) (g.B.Bays.out c.add_nodes.new.bays) c.args.folder.now)).
    inr (λ t.
    let one = failed t in
    let outs = are_out g (goal.at.returns-in-Err-clause-failed g c).After-add_nodes t in
    record {
      node = one.node;
      partition = one.partition;
      due_there = one.due_there;
      here = failed_stays g.B.Disk.Disk.tells g.B.Disk.Disk.content g.B.Disk.Disk.size (settings_of c.args.shape.now) g.B.Disk.Disk.faults (has_replica c.args.shape.now one.node one.partition) c.args.folder.now (port_in (ports_at c.add_nodes.new.nodes.items one.node) one.partition) one.node one.partition (g.B.Bays.home c.args.bays.now) (g.B.Bays.home c.add_nodes.new.bays) (g.B.Bays.home c.close_all.new.bays) (g.B.Bays.out c.args.bays.now) (g.B.Bays.out c.add_nodes.new.bays) (g.B.Bays.out c.close_all.new.bays)
          (c.add_nodes.ensures.slots t one.node one.partition) (c.close_all.ensures.slots t c.args.folder.now outs one.node one.partition) one.here;
    }))
    (let same : c.in-Err.fault ≡ NodesFault.Failed = cc is in c.in-Err.ensures.failed (cc same))

pub returns-in-Err-clause-same : goal.returns-in-Err-clause-same
returns-in-Err-clause-same g c = g.met.B.Bays.same_on c.args.bays.now c.add_nodes.new.bays c.close_all.new.bays c.add_nodes.ensures.same c.close_all.ensures.same
