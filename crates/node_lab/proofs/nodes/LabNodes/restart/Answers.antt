use Rattle.std.proofs.Common.{rules, ◌≡◌, ◌⊎◌, ⊎_elim, inl, inr, ℕ, ◌<◌, false, List, Option, None, length, slice_set, refl, sym, subst}
use Rattle.std.specs.Prelude.{IsSome, Result, Ok, Err, OnErr}
use Rattle.std.specs.Option.{is_some}
use Rattle.std.specs.String.{string_bytes}
use Rattle.node_core.specs.Ports.{port_in}
use Rattle.outside.specs.Causes.{Rose}
use Rattle.replica_core.specs.State.{ReplicaState}
use Rattle.world_model.specs.declared.shape.Shape.{Shape}
use Rattle.node_lab.specs.declared.state.NodeState.TheVariants.{Up}
use Rattle.node_lab.specs.Calls.{OpensNodes, StayUnopened}
use Rattle.node_lab.specs.Nodes.{IsNodes, IsOpen, NodesState, has_replica, is_of_node, ports_at, slot_at}
use Rattle.node_lab.specs.Openings.{NodeFailed}
use Rattle.node_lab.specs.Refusals.{IsFirst}
use Rattle.node_lab.specs.Replicas.{settings_of}
use Rattle.node_lab.specs.Slots.{SomeFailed}
use Rattle.node_lab.proofs.CloseLemmas.{open_nodes}
use Rattle.node_lab.proofs.OpenNodesLemmas.{none_of}
use Rattle.node_lab.proofs.RefusalLemmas.{open_never}
use Rattle.node_lab.proofs.ReopenLemmas.{again_open, opens_node, opens_nothing, other_name, same_shape, some_failed, stays, still_open}
use Rattle.node_lab.proofs.nodes.LabNodes.restart.Goals as goal
use Rattle.node_lab.proofs.nodes.LabNodes.restart.Goals.{After-open_node}

anyway : {T E P : Type 0} (r : Result T E) → P → OnErr r P
anyway (Ok v) p = tt
anyway (Err e) p = p

-- the nodes are open for the shape
it_is : (g : _) (c : After-open_node g) → IsOpen g.B.Bays.tells g.B.Disk.Disk.tells g.B.Disk.Disk.content g.B.Disk.Disk.size g.B.Bays.home g.B.Bays.out c.in-Some-shape.shape c.as_str-folder.result.now c.self.inside.bays c.self.inside.nodes.items
it_is g c = subst (λ (f : List ℕ). IsOpen g.B.Bays.tells g.B.Disk.Disk.tells g.B.Disk.Disk.content g.B.Disk.Disk.size g.B.Bays.home g.B.Bays.out c.in-Some-shape.shape f c.self.inside.bays c.self.inside.nodes.items) (sym c.as_str-folder.ensures.value)
    (subst (λ (o : Option Shape). IsNodes g.B.Bays.tells g.B.Disk.Disk.tells g.B.Disk.Disk.content g.B.Disk.Disk.size g.B.Bays.home g.B.Bays.out o (string_bytes c.self.inside.folder) c.self.inside.bays c.self.inside.nodes.items) c.in-Some-shape.is c.self.invariant)

-- the node is stopped
stopped : (g : _) (c : After-open_node g) (p : ℕ) → ◌≡◌ {A = Option (ReplicaState g.row.B-Disk.Denot)} (port_in (ports_at c.self.inside.nodes.items c.args.node) p) None
stopped g c p = none_of (port_in (ports_at c.self.inside.nodes.items c.args.node) p)
    (subst (λ (s : NodesState g.row.B.Denot g.row.B-Disk.Denot). is_some (port_in (ports_at s.nodes c.args.node) p) ≡ false) (sym c.self.view_is) (c.requires.stopped p))

pub returns-in_default-clause-opened : goal.returns-in_default-clause-opened
returns-in_default-clause-opened g c =
    let it = open_nodes g.B.Bays.tells g.B.Disk.Disk.tells g.B.Disk.Disk.content g.B.Disk.Disk.size g.B.Bays.home g.B.Bays.out c.self.inside.shape (string_bytes c.self.inside.folder) c.self.inside.bays c.self.inside.nodes.items (subst (λ (s : NodesState g.row.B.Denot g.row.B-Disk.Denot). IsSome s.shape) (sym c.self.view_is) c.requires.open) c.self.invariant in
    let outside = subst (λ (s : NodesState g.row.B.Denot g.row.B-Disk.Denot). (c.args.node ≡ 0) ⊎ (length s.nodes < c.args.node)) (sym c.self.view_is) c.in_default.ensures.none in
    same_shape (λ (n : NodesState g.row.B.Denot g.row.B-Disk.Denot). n.shape) (record { shape = c.self.inside.shape; folder = (string_bytes c.self.inside.folder); bays = c.self.inside.bays; nodes = c.self.inside.nodes.items }) c.args.self.now c.self.view_is it.0 it.1 (λ s n. OpensNodes g.B.Bays.tells g.B.Disk.Disk.tells g.B.Disk.Disk.content g.B.Disk.Disk.size g.B.Bays.home g.B.Bays.out (is_of_node s c.args.node) (settings_of s) n.folder n n)
    (other_name (λ o f. OpensNodes g.B.Bays.tells g.B.Disk.Disk.tells g.B.Disk.Disk.content g.B.Disk.Disk.size g.B.Bays.home g.B.Bays.out (is_of_node it.0 c.args.node) (settings_of it.0) f (record { shape = o; folder = f; bays = c.self.inside.bays; nodes = c.self.inside.nodes.items }) (record { shape = o; folder = f; bays = c.self.inside.bays; nodes = c.self.inside.nodes.items })) c.self.inside.shape it.0 (string_bytes c.self.inside.folder) (string_bytes c.self.inside.folder) it.1 refl
    (opens_nothing g.B.Bays.tells g.B.Disk.Disk.tells g.B.Disk.Disk.content g.B.Disk.Disk.size g.B.Bays.home g.B.Bays.out it.0 (string_bytes c.self.inside.folder) c.self.inside.bays c.self.inside.nodes.items it.2 c.args.node outside))

pub invariant_of-self : goal.invariant_of-self
invariant_of-self g c =
    other_name (λ o f. IsNodes g.B.Bays.tells g.B.Disk.Disk.tells g.B.Disk.Disk.content g.B.Disk.Disk.size g.B.Bays.home g.B.Bays.out o f c.open_node.new.bays c.self.inside.nodes.items) c.self.inside.shape c.in-Some-shape.shape c.as_str-folder.result.now (string_bytes c.self.inside.folder) c.in-Some-shape.is c.as_str-folder.ensures.value
    (still_open g.B.Bays.tells g.B.Disk.Disk.tells g.B.Disk.Disk.content g.B.Disk.Disk.size g.B.Bays.home g.B.Bays.out c.in-Some-shape.shape c.as_str-folder.result.now c.self.inside.bays c.self.inside.nodes.items (it_is g (goal.at.invariant_of-self g c).After-open_node) c.args.node (stopped g (goal.at.invariant_of-self g c).After-open_node) c.open_node.new.bays c.open_node.ensures.others c.in_err-core.ensures.closed g.met.B.Bays.known)

pub invariant_of-self-2 : goal.invariant_of-self-2
invariant_of-self-2 g c =
    other_name (λ o f. IsNodes g.B.Bays.tells g.B.Disk.Disk.tells g.B.Disk.Disk.content g.B.Disk.Disk.size g.B.Bays.home g.B.Bays.out o f c.open_node.new.bays (slice_set c.self.inside.nodes.items c.in-Some.place (Up c.in_ok-core.core))) c.self.inside.shape c.in-Some-shape.shape c.as_str-folder.result.now (string_bytes c.self.inside.folder) c.in-Some-shape.is c.as_str-folder.ensures.value
    (again_open g.B.Bays.tells g.B.Disk.Disk.tells g.B.Disk.Disk.content g.B.Disk.Disk.size g.B.Bays.home g.B.Bays.out c.in-Some-shape.shape c.as_str-folder.result.now c.self.inside.bays c.self.inside.nodes.items (it_is g (goal.at.invariant_of-self-2 g c).After-open_node) c.args.node (stopped g (goal.at.invariant_of-self-2 g c).After-open_node) c.open_node.new.bays c.open_node.ensures.others c.in-Some.place (Up c.in_ok-core.core) c.in-Some.ensures.some.0 (subst (λ (s : NodesState g.row.B.Denot g.row.B-Disk.Denot). c.in-Some.place < length s.nodes) (sym c.self.view_is) c.in-Some.ensures.some.1) c.in_ok-core.ensures.opened g.met.B.Bays.known)

pub returns-clause-opened : goal.returns-clause-opened
returns-clause-opened g c =
    same_shape (λ (n : NodesState g.row.B.Denot g.row.B-Disk.Denot). n.shape) (record { shape = c.self.inside.shape; folder = (string_bytes c.self.inside.folder); bays = c.self.inside.bays; nodes = c.self.inside.nodes.items }) c.args.self.now c.self.view_is c.in-Some-shape.shape c.in-Some-shape.is (λ s n. OpensNodes g.B.Bays.tells g.B.Disk.Disk.tells g.B.Disk.Disk.content g.B.Disk.Disk.size g.B.Bays.home g.B.Bays.out (is_of_node s c.args.node) (settings_of s) n.folder n (record { shape = c.self.inside.shape; folder = (string_bytes c.self.inside.folder); bays = c.open_node.new.bays; nodes = (slice_set c.self.inside.nodes.items c.in-Some.place (Up c.in_ok-core.core)) }))
    (other_name (λ o f. OpensNodes g.B.Bays.tells g.B.Disk.Disk.tells g.B.Disk.Disk.content g.B.Disk.Disk.size g.B.Bays.home g.B.Bays.out (is_of_node c.in-Some-shape.shape c.args.node) (settings_of c.in-Some-shape.shape) f (record { shape = o; folder = f; bays = c.self.inside.bays; nodes = c.self.inside.nodes.items }) (record { shape = o; folder = f; bays = c.open_node.new.bays; nodes = (slice_set c.self.inside.nodes.items c.in-Some.place (Up c.in_ok-core.core)) })) c.self.inside.shape c.in-Some-shape.shape c.as_str-folder.result.now (string_bytes c.self.inside.folder) c.in-Some-shape.is c.as_str-folder.ensures.value
    (opens_node g.B.Bays.tells g.B.Disk.Disk.tells g.B.Disk.Disk.content g.B.Disk.Disk.size g.B.Bays.home g.B.Bays.out c.in-Some-shape.shape c.as_str-folder.result.now c.self.inside.bays c.self.inside.nodes.items (it_is g (goal.at.returns-clause-opened g c).After-open_node) c.args.node (stopped g (goal.at.returns-clause-opened g c).After-open_node) c.open_node.new.bays c.open_node.ensures.others c.in-Some.place (Up c.in_ok-core.core) c.in-Some.ensures.some.0 (subst (λ (s : NodesState g.row.B.Denot g.row.B-Disk.Denot). c.in-Some.place < length s.nodes) (sym c.self.view_is) c.in-Some.ensures.some.1) c.in_ok-core.ensures.opened))

pub returns-in_err-core-clause-closed : goal.returns-in_err-core-clause-closed
returns-in_err-core-clause-closed g c = anyway c.from_residual.result
    (same_shape (λ (n : NodesState g.row.B.Denot g.row.B-Disk.Denot). n.shape) (record { shape = c.self.inside.shape; folder = (string_bytes c.self.inside.folder); bays = c.self.inside.bays; nodes = c.self.inside.nodes.items }) c.args.self.now c.self.view_is c.in-Some-shape.shape c.in-Some-shape.is (λ s n. StayUnopened g.B.Bays.tells g.B.Disk.Disk.tells g.B.Disk.Disk.content g.B.Disk.Disk.size g.B.Bays.home g.B.Bays.out (is_of_node s c.args.node) (settings_of s) n.folder n (record { shape = c.self.inside.shape; folder = (string_bytes c.self.inside.folder); bays = c.open_node.new.bays; nodes = c.self.inside.nodes.items }))
    (other_name (λ o f. StayUnopened g.B.Bays.tells g.B.Disk.Disk.tells g.B.Disk.Disk.content g.B.Disk.Disk.size g.B.Bays.home g.B.Bays.out (is_of_node c.in-Some-shape.shape c.args.node) (settings_of c.in-Some-shape.shape) f (record { shape = o; folder = f; bays = c.self.inside.bays; nodes = c.self.inside.nodes.items }) (record { shape = o; folder = f; bays = c.open_node.new.bays; nodes = c.self.inside.nodes.items })) c.self.inside.shape c.in-Some-shape.shape c.as_str-folder.result.now (string_bytes c.self.inside.folder) c.in-Some-shape.is c.as_str-folder.ensures.value
    (stays g.B.Bays.tells g.B.Disk.Disk.tells g.B.Disk.Disk.content g.B.Disk.Disk.size g.B.Bays.home g.B.Bays.out c.in-Some-shape.shape c.as_str-folder.result.now c.self.inside.bays c.self.inside.nodes.items (it_is g (goal.at.returns-in_err-core-clause-closed g c).After-open_node) c.args.node (stopped g (goal.at.returns-in_err-core-clause-closed g c).After-open_node) c.open_node.new.bays c.open_node.ensures.others c.in_err-core.ensures.closed)))

pub returns-in_err-core-clause-refused : goal.returns-in_err-core-clause-refused
returns-in_err-core-clause-refused g c = λ refusal shape is at t.
    same_shape (λ (n : NodesState g.row.B.Denot g.row.B-Disk.Denot). n.shape) (record { shape = c.self.inside.shape; folder = (string_bytes c.self.inside.folder); bays = c.self.inside.bays; nodes = c.self.inside.nodes.items }) c.args.self.now c.self.view_is c.in-Some-shape.shape c.in-Some-shape.is (λ s n. IsFirst g.B.Disk.Disk.tells g.B.Disk.Disk.content g.B.Disk.Disk.size (is_of_node s c.args.node) (settings_of s) (g.B.Bays.home n.bays n.folder) refusal)
    (other_name (λ o f. IsFirst g.B.Disk.Disk.tells g.B.Disk.Disk.content g.B.Disk.Disk.size (is_of_node c.in-Some-shape.shape c.args.node) (settings_of c.in-Some-shape.shape) (g.B.Bays.home c.self.inside.bays f) refusal) c.self.inside.shape c.in-Some-shape.shape c.as_str-folder.result.now (string_bytes c.self.inside.folder) c.in-Some-shape.is c.as_str-folder.ensures.value
    (c.in_err-core.ensures.refused refusal (search rules) t)) shape at

pub returns-in_err-core-clause-never : goal.returns-in_err-core-clause-never
returns-in_err-core-clause-never g c = λ refusal is t.
    open_never g.B.Bays.tells g.B.Disk.Disk.tells g.B.Disk.Disk.content g.B.Disk.Disk.size g.B.Bays.home g.B.Bays.out c.in-Some-shape.shape c.as_str-folder.result.now c.self.inside.bays c.self.inside.nodes.items c.args.node refusal t (it_is g (goal.at.returns-in_err-core-clause-never g c).After-open_node) (stopped g (goal.at.returns-in_err-core-clause-never g c).After-open_node)
    (c.in_err-core.ensures.place refusal (search rules)).0 (c.in_err-core.ensures.refused refusal (search rules) (g.met.B.Bays.known t))

pub returns-in_err-core-clause-failed : goal.returns-in_err-core-clause-failed
returns-in_err-core-clause-failed g c = λ is. ⊎_elim
    (λ (rose : Rose (g.B.Bays.faults c.self.inside.bays) (g.B.Bays.faults c.open_node.new.bays)). inl (subst (λ (s : NodesState g.row.B.Denot g.row.B-Disk.Denot). Rose (g.B.Bays.faults s.bays) (g.B.Bays.faults c.open_node.new.bays)) c.self.view_is rose))
    (λ (failed : g.B.Bays.tells → NodeFailed g.B.Bays.tells g.B.Disk.Disk.tells g.B.Disk.Disk.content g.B.Disk.Disk.size (settings_of c.in-Some-shape.shape) c.as_str-folder.result.now c.args.node (g.B.Bays.home c.self.inside.bays) (g.B.Bays.out c.self.inside.bays) (g.B.Bays.home c.open_node.new.bays) (g.B.Bays.out c.open_node.new.bays) g.B.Disk.Disk.faults (has_replica c.in-Some-shape.shape c.args.node)).
    inr (λ t. same_shape (λ (n : NodesState g.row.B.Denot g.row.B-Disk.Denot). n.shape) (record { shape = c.self.inside.shape; folder = (string_bytes c.self.inside.folder); bays = c.self.inside.bays; nodes = c.self.inside.nodes.items }) c.args.self.now c.self.view_is c.in-Some-shape.shape c.in-Some-shape.is (λ s n. SomeFailed g.B.Disk.Disk.tells g.B.Disk.Disk.content g.B.Disk.Disk.size g.B.Disk.Disk.faults (is_of_node s c.args.node) (slot_at g.B.Bays.home g.B.Bays.out n.folder n) (slot_at g.B.Bays.home g.B.Bays.out n.folder (record { shape = c.self.inside.shape; folder = (string_bytes c.self.inside.folder); bays = c.open_node.new.bays; nodes = c.self.inside.nodes.items })))
    (other_name (λ o f. SomeFailed g.B.Disk.Disk.tells g.B.Disk.Disk.content g.B.Disk.Disk.size g.B.Disk.Disk.faults (is_of_node c.in-Some-shape.shape c.args.node) (slot_at g.B.Bays.home g.B.Bays.out f (record { shape = o; folder = f; bays = c.self.inside.bays; nodes = c.self.inside.nodes.items })) (slot_at g.B.Bays.home g.B.Bays.out f (record { shape = o; folder = f; bays = c.open_node.new.bays; nodes = c.self.inside.nodes.items }))) c.self.inside.shape c.in-Some-shape.shape c.as_str-folder.result.now (string_bytes c.self.inside.folder) c.in-Some-shape.is c.as_str-folder.ensures.value
    (some_failed g.B.Bays.tells g.B.Disk.Disk.tells g.B.Disk.Disk.content g.B.Disk.Disk.size g.B.Bays.home g.B.Bays.out c.in-Some-shape.shape c.as_str-folder.result.now c.self.inside.bays c.self.inside.nodes.items (it_is g (goal.at.returns-in_err-core-clause-failed g c).After-open_node) c.args.node (stopped g (goal.at.returns-in_err-core-clause-failed g c).After-open_node) c.open_node.new.bays c.open_node.ensures.others g.B.Disk.Disk.faults failed t))))
    (c.in_err-core.ensures.failed (search rules))
