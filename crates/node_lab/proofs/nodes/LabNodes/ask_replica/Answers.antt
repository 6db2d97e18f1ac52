use Rattle.std.proofs.Common.{◌≡◌, ◌+◌, ◌<◌, arith, Option, Some, None, length, length-set, slice_set, refl, sym, ◌∙◌, ap, subst}
use Rattle.std.specs.Prelude.{string_bytes}
use Rattle.std.specs.List.{slice_get}
use Rattle.std.proofs.lemmas.Option.{slice_get-get_or}
use Rattle.replica_core.specs.State.{ReplicaState}
use Rattle.world_model.specs.declared.shape.Shape.{Shape}
use Rattle.node_lab.specs.declared.state.NodeState.{NodeState}
use Rattle.node_lab.specs.Nodes.{IsNodes, NodesState, ports_of}
use Rattle.node_lab.specs.Calls.{AsksNodes, AsksPorts}
use Rattle.node_lab.proofs.NodeAskLemmas.{nodes_asked, open_asked}
use Rattle.node_lab.proofs.nodes.LabNodes.ask_replica.Goals as goal
use Rattle.node_lab.proofs.nodes.LabNodes.ask_replica.Goals.{In-Some}

within : (g : _) (c : In-Some g) → (c.args.node ≡ c.in-Some.place + 1) × (c.in-Some.place < length c.self.inside.nodes.items)
within g c = subst (λ (s : NodesState g.row.B.Denot g.row.B-Disk.Denot). (c.args.node ≡ c.in-Some.place + 1) × (c.in-Some.place < length s.nodes)) (sym c.self.view_is) c.in-Some.ensures.some

found : (g : _) (c : goal.After-self-1 g) → ◌≡◌ {A = Option (NodeState (ReplicaState g.row.B-Disk.Denot))} (slice_get c.self.inside.nodes.items c.in-Some.place) (Some c.index_mut.result.now)
found g c =
    let it = (goal.at.invariant_of-self g c).In-Some in
    slice_get-get_or c.self.inside.nodes.items c.in-Some.place c.index_mut.result.now (within g it).1 ∙ ap (λ (s : NodeState (ReplicaState g.row.B-Disk.Denot)). Some s) (sym c.index_mut.ensures.value)

asked_at : (g : _) (c : goal.After-self-1 g) → AsksNodes g.B.Disk.Disk.tells g.B.Disk.Disk.content g.B.Disk.Disk.size g.B.Disk.Disk.faults {B = g.row.B.Denot}
    (record { shape = c.self.inside.shape; folder = string_bytes c.self.inside.folder; bays = c.self.inside.bays; nodes = c.self.inside.nodes.items }) c.args.node c.args.partition c.args.ask c.ask_state.result
    (record { shape = c.self.inside.shape; folder = string_bytes c.self.inside.folder; bays = c.self.inside.bays; nodes = slice_set c.self.inside.nodes.items c.in-Some.place c.ask_state.new.state })
asked_at g c =
    let it = (goal.at.invariant_of-self g c).In-Some in
    let at = within g it in
    nodes_asked g.B.Disk.Disk.tells g.B.Disk.Disk.content g.B.Disk.Disk.size g.B.Disk.Disk.faults c.args.ask c.ask_state.result c.self.inside.shape (string_bytes c.self.inside.folder) c.self.inside.bays c.self.inside.nodes.items c.args.node c.args.partition c.in-Some.place c.ask_state.new.state at.0 at.1
    (subst (λ (o : Option (NodeState (ReplicaState g.row.B-Disk.Denot))). AsksPorts g.B.Disk.Disk.tells g.B.Disk.Disk.content g.B.Disk.Disk.size g.B.Disk.Disk.faults (ports_of o) c.args.partition c.args.ask c.ask_state.result (ports_of (Some c.ask_state.new.state))) (sym (found g c)) c.ask_state.ensures.asked)

pub invariant_of-self : goal.invariant_of-self
invariant_of-self g c =
    let it = (goal.at.invariant_of-self g c).In-Some in
    go c.self.inside.shape refl (within g it).1 c.self.invariant (asked_at g c)
  where
    go : (o : Option Shape) → c.self.inside.shape ≡ o → c.in-Some.place < length c.self.inside.nodes.items
        → IsNodes g.B.Bays.tells g.B.Disk.Disk.tells g.B.Disk.Disk.content g.B.Disk.Disk.size g.B.Bays.home g.B.Bays.out o (string_bytes c.self.inside.folder) c.self.inside.bays c.self.inside.nodes.items
        → AsksNodes g.B.Disk.Disk.tells g.B.Disk.Disk.content g.B.Disk.Disk.size g.B.Disk.Disk.faults {B = g.row.B.Denot}
        (record { shape = o; folder = string_bytes c.self.inside.folder; bays = c.self.inside.bays; nodes = c.self.inside.nodes.items }) c.args.node c.args.partition c.args.ask c.ask_state.result
        (record { shape = o; folder = string_bytes c.self.inside.folder; bays = c.self.inside.bays; nodes = slice_set c.self.inside.nodes.items c.in-Some.place c.ask_state.new.state })
        → IsNodes g.B.Bays.tells g.B.Disk.Disk.tells g.B.Disk.Disk.content g.B.Disk.Disk.size g.B.Bays.home g.B.Bays.out o (string_bytes c.self.inside.folder) c.self.inside.bays (slice_set c.self.inside.nodes.items c.in-Some.place c.ask_state.new.state)
    go None is inside none asked = absurd (let few : length c.self.inside.nodes.items ≡ 0 = ap length none.1 in omega (arith, inside, few))
    go (Some shape) is inside it asked =
        open_asked g.B.Disk.Disk.tells g.B.Disk.Disk.content g.B.Disk.Disk.size g.B.Disk.Disk.faults c.args.ask c.ask_state.result g.B.Bays.tells g.B.Bays.home g.B.Bays.out shape (string_bytes c.self.inside.folder) c.self.inside.bays c.self.inside.nodes.items (slice_set c.self.inside.nodes.items c.in-Some.place c.ask_state.new.state) c.args.node c.args.partition
        asked (length-set c.self.inside.nodes.items c.in-Some.place c.ask_state.new.state) it

pub returns-in-Some-clause-asked : goal.returns-in-Some-clause-asked
returns-in-Some-clause-asked g c =
    subst (λ (s : NodesState g.row.B.Denot g.row.B-Disk.Denot). AsksNodes g.B.Disk.Disk.tells g.B.Disk.Disk.content g.B.Disk.Disk.size g.B.Disk.Disk.faults s c.args.node c.args.partition c.args.ask c.ask_state.result
    (record { shape = c.self.inside.shape; folder = string_bytes c.self.inside.folder; bays = c.self.inside.bays; nodes = slice_set c.self.inside.nodes.items c.in-Some.place c.ask_state.new.state })) c.self.view_is (asked_at g c)
