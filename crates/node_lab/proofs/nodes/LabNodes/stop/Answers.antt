use Rattle.std.proofs.Common.{◌≡◌, ℕ, suc, ◌+◌, ◌<◌, ◌==◌, arith, true, List, Option, Some, None, length, length-set, slice_set, sym, ◌∙◌, ap, subst}
use Rattle.std.specs.Prelude.{IsSome, string_bytes}
use Rattle.std.specs.List.{slice_get}
use Rattle.std.proofs.lemmas.Option.{slice_get-get_or}
use Rattle.replica_core.specs.State.{ReplicaState}
use Rattle.node_core.specs.Ports.{port_in}
use Rattle.world_model.specs.declared.shape.Shape.{Shape}
use Rattle.node_lab.specs.declared.state.NodeState.{NodeState}
use Rattle.node_lab.specs.Nodes.{IsNodes, NodesState, ports_at, ports_of}
use Rattle.node_lab.specs.Calls.{ClosesNodes, PortsOut}
use Rattle.node_lab.specs.Slots.{GoesHome, OtherNodesStay}
use Rattle.node_lab.proofs.StopLemmas.{nodes_closed, open_closed}
use Rattle.node_lab.proofs.nodes.LabNodes.stop.Goals as goal
use Rattle.node_lab.proofs.nodes.LabNodes.stop.Goals.{In-Some}

within : (g : _) (c : In-Some g) → (c.args.node ≡ c.in-Some.place + 1) × (c.in-Some.place < length c.self.inside.nodes.items)
within g c = subst (λ (s : NodesState g.row.B.Denot g.row.B-Disk.Denot). (c.args.node ≡ c.in-Some.place + 1) × (c.in-Some.place < length s.nodes)) (sym c.self.view_is) c.in-Some.ensures.some

-- the node that is stopped
module _ (g : _) (c : goal.After-self-1 g) where
  abbrev it : In-Some g
  it = (goal.at.invariant_of-self g c).In-Some

  found : ◌≡◌ {A = Option (NodeState (ReplicaState g.row.B-Disk.Denot))} (slice_get c.self.inside.nodes.items c.in-Some.place) (Some c.index_mut.result.now)
  found = slice_get-get_or c.self.inside.nodes.items c.in-Some.place c.index_mut.result.now (within g it).1 ∙ ap (λ (s : NodeState (ReplicaState g.row.B-Disk.Denot)). Some s) (sym c.index_mut.ensures.value)

  outs : g.B.Bays.tells → PortsOut (string_bytes c.self.inside.folder) c.args.node (ports_of (Some c.index_mut.result.now)) (g.B.Bays.out c.self.inside.bays)
  outs t p some = go c.self.inside.shape c.self.invariant
    where
      there : IsSome (port_in (ports_at c.self.inside.nodes.items c.args.node) p)
      there = subst (λ (n : ℕ). IsSome (port_in (ports_at c.self.inside.nodes.items n) p)) (let e : suc c.in-Some.place ≡ c.args.node = omega (arith, (within g it).0) in e)
          (subst (λ (o : Option (NodeState (ReplicaState g.row.B-Disk.Denot))). IsSome (port_in (ports_of o) p)) (sym found) some)

      go : (o : Option Shape) → IsNodes g.B.Bays.tells g.B.Disk.Disk.tells g.B.Disk.Disk.content g.B.Disk.Disk.size g.B.Bays.home g.B.Bays.out o (string_bytes c.self.inside.folder) c.self.inside.bays c.self.inside.nodes.items
          → g.B.Bays.out c.self.inside.bays c.args.node p ≡ Some (string_bytes c.self.inside.folder)
      go None none = absurd (let few : length c.self.inside.nodes.items ≡ 0 = ap (λ (l : List (NodeState (ReplicaState g.row.B-Disk.Denot))). length l) none.1 in omega (arith, (within g it).1, few))
      go (Some shape) here = here.outs t c.args.node p there

  slots : g.B.Bays.tells → (p : ℕ) → GoesHome g.B.Disk.Disk.tells g.B.Disk.Disk.content g.B.Disk.Disk.size true (port_in (ports_of (slice_get c.self.inside.nodes.items c.in-Some.place)) p)
      (record { replica = port_in (ports_of (slice_get c.self.inside.nodes.items c.in-Some.place)) p; home = g.B.Bays.home c.self.inside.bays (string_bytes c.self.inside.folder) c.args.node p; out = g.B.Bays.out c.self.inside.bays c.args.node p })
      (record { replica = None; home = g.B.Bays.home c.close_node.new.bays (string_bytes c.self.inside.folder) c.args.node p; out = g.B.Bays.out c.close_node.new.bays c.args.node p })
  slots t p = subst (λ (o : Option (NodeState (ReplicaState g.row.B-Disk.Denot))). GoesHome g.B.Disk.Disk.tells g.B.Disk.Disk.content g.B.Disk.Disk.size true (port_in (ports_of o) p)
      (record { replica = port_in (ports_of o) p; home = g.B.Bays.home c.self.inside.bays (string_bytes c.self.inside.folder) c.args.node p; out = g.B.Bays.out c.self.inside.bays c.args.node p })
      (record { replica = None; home = g.B.Bays.home c.close_node.new.bays (string_bytes c.self.inside.folder) c.args.node p; out = g.B.Bays.out c.close_node.new.bays c.args.node p })) (sym found)
      (c.close_node.ensures.slots t (string_bytes c.self.inside.folder) (outs t) p)

  others : g.B.Bays.tells → OtherNodesStay (string_bytes c.self.inside.folder) c.args.node (g.B.Bays.home c.self.inside.bays) (g.B.Bays.out c.self.inside.bays) (g.B.Bays.home c.close_node.new.bays) (g.B.Bays.out c.close_node.new.bays)
  others t = c.close_node.ensures.others t (string_bytes c.self.inside.folder) (outs t)

pub invariant_of-self : goal.invariant_of-self
invariant_of-self g c = go c.self.inside.shape (within g (it g c)).1 c.self.invariant
  where
    go : (o : Option Shape) → c.in-Some.place < length c.self.inside.nodes.items
        → IsNodes g.B.Bays.tells g.B.Disk.Disk.tells g.B.Disk.Disk.content g.B.Disk.Disk.size g.B.Bays.home g.B.Bays.out o (string_bytes c.self.inside.folder) c.self.inside.bays c.self.inside.nodes.items
        → IsNodes g.B.Bays.tells g.B.Disk.Disk.tells g.B.Disk.Disk.content g.B.Disk.Disk.size g.B.Bays.home g.B.Bays.out o (string_bytes c.self.inside.folder) c.close_node.new.bays (slice_set c.self.inside.nodes.items c.in-Some.place c.close_node.new.state)
    go None inside none = absurd (let few : length c.self.inside.nodes.items ≡ 0 = ap (λ (l : List (NodeState (ReplicaState g.row.B-Disk.Denot))). length l) none.1 in omega (arith, inside, few))
    go (Some shape) inside here = open_closed g.B.Bays.tells g.B.Disk.Disk.tells g.B.Disk.Disk.content g.B.Disk.Disk.size g.B.Bays.home g.B.Bays.out true (Some shape) (string_bytes c.self.inside.folder) c.self.inside.bays c.close_node.new.bays c.self.inside.nodes.items c.args.node c.in-Some.place c.close_node.new.state
        (within g (it g c)).0 inside c.close_node.ensures.gone (slots g c) (others g c) shape g.met.B.Bays.known (length-set c.self.inside.nodes.items c.in-Some.place c.close_node.new.state) here

pub returns-in-Some-clause-closes : goal.returns-in-Some-clause-closes
returns-in-Some-clause-closes g c =
    subst (λ (s : NodesState g.row.B.Denot g.row.B-Disk.Denot). ClosesNodes g.B.Bays.tells g.B.Disk.Disk.tells g.B.Disk.Disk.content g.B.Disk.Disk.size g.B.Bays.home g.B.Bays.out (λ n. n == c.args.node) true s
    (record { shape = c.self.inside.shape; folder = string_bytes c.self.inside.folder; bays = c.close_node.new.bays; nodes = slice_set c.self.inside.nodes.items c.in-Some.place c.close_node.new.state })) c.self.view_is
    (nodes_closed g.B.Bays.tells g.B.Disk.Disk.tells g.B.Disk.Disk.content g.B.Disk.Disk.size g.B.Bays.home g.B.Bays.out true c.self.inside.shape (string_bytes c.self.inside.folder) c.self.inside.bays c.close_node.new.bays c.self.inside.nodes.items c.args.node c.in-Some.place c.close_node.new.state
    (within g (it g c)).0 (within g (it g c)).1 c.close_node.ensures.gone (slots g c) (others g c))
