use Rattle.std.proofs.Common.{◌≡◌, ℕ, ◌+◌, ◌<◌, arith, List, Option, Some, None, length, refl, sym, ◌∙◌, ap, subst}
use Rattle.std.specs.List.{slice_get}
use Rattle.std.proofs.lemmas.Option.{slice_get-get_or}
use Rattle.node_core.specs.Ports.{port_in}
use Rattle.replica_core.specs.State.{ReplicaState}
use Rattle.node_lab.specs.declared.state.NodeState.{NodeState}
use Rattle.node_lab.specs.Calls.{NodesOut, PortsOut}
use Rattle.node_lab.specs.Nodes.{ports_of}
use Rattle.node_lab.specs.Slots.{GoesHome, slot_in}
use Rattle.node_lab.proofs.NodeCloseLemmas.{ClosesTo, all_gone, all_home, next_out, none_closed, one_more}
use Rattle.node_lab.proofs.all_nodes.close_all.Goals as goal
use Rattle.node_lab.proofs.all_nodes.close_all.Goals.{After-index_mut}

-- the node in a place
within : (g : _) (c : After-index_mut g) → c.loop-place.place < length c.loop-place.nodes.items
within g c = let long = c.loop-place.invariant.so_far.long in omega (arith, long, c.loop-place-test.true, c.len-place-end.ensures, c.args.nodes.now.ok.0)

found : (g : _) (c : After-index_mut g) → ◌≡◌ {A = Option (NodeState (ReplicaState g.row.B-Disk.Denot))} (slice_get c.loop-place.nodes.items c.loop-place.place) (Some c.index_mut.result.now)
found g c = slice_get-get_or c.loop-place.nodes.items c.loop-place.place c.index_mut.result.now (within g c) ∙ ap (λ (s : NodeState (ReplicaState g.row.B-Disk.Denot)). Some s) (sym c.index_mut.ensures.value)

-- the disks of its replicas are out
are_out : (g : _) (c : After-index_mut g) → g.B.Bays.tells → (folder : List ℕ) → NodesOut folder c.args.nodes.now.items (g.B.Bays.out c.args.bays.now) → PortsOut folder (c.loop-place.place + 1) (ports_of (Some c.index_mut.result.now)) (g.B.Bays.out c.loop-place.bays)
are_out g c t folder outs = subst (λ (o : Option (NodeState (ReplicaState g.row.B-Disk.Denot))). PortsOut folder (c.loop-place.place + 1) (ports_of o) (g.B.Bays.out c.loop-place.bays)) (found g c)
    (next_out g.B.Bays.tells g.B.Disk.Disk.tells g.B.Disk.Disk.content g.B.Disk.Disk.size c.args.stops c.args.nodes.now.items (g.B.Bays.home c.args.bays.now) (g.B.Bays.out c.args.bays.now)
    c.loop-place.place c.loop-place.nodes.items (g.B.Bays.home c.loop-place.bays) (g.B.Bays.home c.loop-place.bays) (g.B.Bays.out c.loop-place.bays) (g.B.Bays.out c.loop-place.bays) c.loop-place.invariant.so_far t folder outs)

pub loop-place-init : goal.loop-place-init
loop-place-init g c = record {
  so_far = none_closed g.B.Bays.tells g.B.Disk.Disk.tells g.B.Disk.Disk.content g.B.Disk.Disk.size c.args.stops c.args.nodes.now.items (g.B.Bays.home c.args.bays.now) (g.B.Bays.out c.args.bays.now);
  faults = refl;
  same = g.met.B.Bays.same_self c.args.bays.now;
}

pub close_node-requires : goal.close_node-requires
close_node-requires g c = record {
  out = λ t.
      let known = c.requires.out t in
      (known.0, are_out g (goal.at.close_node-requires g c).After-index_mut t known.0 known.1);
}

pub loop-place-preserved : goal.loop-place-preserved
loop-place-preserved g c =
    let it = (goal.at.loop-place-preserved g c).After-index_mut in
    record {
      so_far = one_more g.B.Bays.tells g.B.Disk.Disk.tells g.B.Disk.Disk.content g.B.Disk.Disk.size c.args.stops c.args.nodes.now.items (g.B.Bays.home c.args.bays.now) (g.B.Bays.out c.args.bays.now)
          c.loop-place.place c.loop-place.nodes.items (g.B.Bays.home c.loop-place.bays) (g.B.Bays.home c.close_node.new.bays) (g.B.Bays.out c.loop-place.bays) (g.B.Bays.out c.close_node.new.bays) c.loop-place.invariant.so_far c.close_node.new.state (within g it) c.close_node.ensures.gone
          (λ t folder outs. subst (λ (o : Option (NodeState (ReplicaState g.row.B-Disk.Denot))). (p : ℕ) → GoesHome g.B.Disk.Disk.tells g.B.Disk.Disk.content g.B.Disk.Disk.size c.args.stops (port_in (ports_of o) p) (slot_in (port_in (ports_of o) p) (g.B.Bays.home c.loop-place.bays) (g.B.Bays.out c.loop-place.bays) folder (c.loop-place.place + 1) p)
          (slot_in None (g.B.Bays.home c.close_node.new.bays) (g.B.Bays.out c.close_node.new.bays) folder (c.loop-place.place + 1) p)) (sym (found g it)) (c.close_node.ensures.slots t folder (are_out g it t folder outs)))
          (λ t folder outs. c.close_node.ensures.others t folder (are_out g it t folder outs));
      faults = c.close_node.ensures.faults ∙ c.loop-place.invariant.faults;
      same = g.met.B.Bays.same_on c.args.bays.now c.loop-place.bays c.close_node.new.bays c.loop-place.invariant.same c.close_node.ensures.same;
    }

pub returns-clause-gone : goal.returns-clause-gone
returns-clause-gone g c =
    let end : c.loop-place.place ≡ length c.args.nodes.now.items = omega (arith, c.loop-place-test.false, c.loop-place.auto.place-end, c.len-place-end.ensures, c.args.nodes.now.ok.0) in
    all_gone g.B.Bays.tells g.B.Disk.Disk.tells g.B.Disk.Disk.content g.B.Disk.Disk.size c.args.stops c.args.nodes.now.items (g.B.Bays.home c.args.bays.now) (g.B.Bays.out c.args.bays.now) c.loop-place.nodes.items (g.B.Bays.home c.loop-place.bays) (g.B.Bays.out c.loop-place.bays)
    (subst (λ (k : ℕ). ClosesTo g.B.Bays.tells g.B.Disk.Disk.tells g.B.Disk.Disk.content g.B.Disk.Disk.size c.args.stops c.args.nodes.now.items (g.B.Bays.home c.args.bays.now) (g.B.Bays.out c.args.bays.now) k c.loop-place.nodes.items (g.B.Bays.home c.loop-place.bays) (g.B.Bays.out c.loop-place.bays)) end c.loop-place.invariant.so_far)

pub returns-clause-slots : goal.returns-clause-slots
returns-clause-slots g c =
    let end : c.loop-place.place ≡ length c.args.nodes.now.items = omega (arith, c.loop-place-test.false, c.loop-place.auto.place-end, c.len-place-end.ensures, c.args.nodes.now.ok.0) in
    all_home g.B.Bays.tells g.B.Disk.Disk.tells g.B.Disk.Disk.content g.B.Disk.Disk.size c.args.stops c.args.nodes.now.items (g.B.Bays.home c.args.bays.now) (g.B.Bays.out c.args.bays.now) c.loop-place.nodes.items (g.B.Bays.home c.loop-place.bays) (g.B.Bays.out c.loop-place.bays)
    (subst (λ (k : ℕ). ClosesTo g.B.Bays.tells g.B.Disk.Disk.tells g.B.Disk.Disk.content g.B.Disk.Disk.size c.args.stops c.args.nodes.now.items (g.B.Bays.home c.args.bays.now) (g.B.Bays.out c.args.bays.now) k c.loop-place.nodes.items (g.B.Bays.home c.loop-place.bays) (g.B.Bays.out c.loop-place.bays)) end c.loop-place.invariant.so_far)
