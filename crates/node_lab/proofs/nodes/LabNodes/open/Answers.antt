use Rattle.std.proofs.Common.{rules, ◌≡◌, ⊎_elim, inl, inr, ℕ, List, Some, None, sym, ◌∙◌, ap, subst}
use Rattle.std.specs.Prelude.{Result, Ok, Err, OnErr}
use Rattle.std.specs.String.{string_bytes}
use Rattle.node_lab.specs.Calls.{OpensNodes, StayUnopened}
use Rattle.outside.specs.Causes.{Rose}
use Rattle.node_lab.specs.Nodes.{IsOpen, NodesState, has_replica, slot_at}
use Rattle.node_lab.specs.Refusals.{IsFirst}
use Rattle.node_lab.specs.Replicas.{settings_of}
use Rattle.node_lab.specs.Slots.{SomeFailed, slot_in}
use Rattle.node_lab.proofs.OpenNodesLemmas.{is_never_opened, is_open, opens_nodes, some_failed, stay_unopened}
use Rattle.node_lab.proofs.nodes.LabNodes.open.Goals as goal
use Rattle.node_lab.proofs.nodes.LabNodes.open.Goals.{After-copy_of}

anyway : {T E P : Type 0} (r : Result T E) → P → OnErr r P
anyway (Ok v) p = tt
anyway (Err e) p = p

-- they were never opened
closed : (g : _) (c : After-copy_of g) → c.self.inside.shape ≡ None
closed g c = ap (λ (s : NodesState g.row.B.Denot g.row.B-Disk.Denot). s.shape) c.self.view_is ∙ c.requires.closed

pub returns-in_err-nodes-clause-refused : goal.returns-in_err-nodes-clause-refused
returns-in_err-nodes-clause-refused g c = λ refusal is t.
    subst (λ (s : NodesState g.row.B.Denot g.row.B-Disk.Denot). IsFirst g.B.Disk.Disk.tells g.B.Disk.Disk.content g.B.Disk.Disk.size (has_replica c.args.shape.now) (settings_of c.args.shape.now) (g.B.Bays.home s.bays c.args.folder.now) refusal) c.self.view_is
    (c.in_err-nodes.ensures.refused refusal (search rules) t)

pub returns-in_err-nodes-clause-failed : goal.returns-in_err-nodes-clause-failed
returns-in_err-nodes-clause-failed g c = λ is.
    ⊎_elim (λ (rose : Rose (g.B.Bays.faults c.self.inside.bays) (g.B.Bays.faults c.open_all.new.bays)). inl (subst (λ (s : NodesState g.row.B.Denot g.row.B-Disk.Denot). Rose (g.B.Bays.faults s.bays) (g.B.Bays.faults c.open_all.new.bays)) c.self.view_is rose))
    (λ (failed : g.B.Bays.tells → SomeFailed g.B.Disk.Disk.tells g.B.Disk.Disk.content g.B.Disk.Disk.size g.B.Disk.Disk.faults (has_replica c.args.shape.now) (slot_in None (g.B.Bays.home c.self.inside.bays) (g.B.Bays.out c.self.inside.bays) c.args.folder.now) (slot_in None (g.B.Bays.home c.open_all.new.bays) (g.B.Bays.out c.open_all.new.bays) c.args.folder.now)).
    inr (λ t. subst (λ (s : NodesState g.row.B.Denot g.row.B-Disk.Denot). SomeFailed g.B.Disk.Disk.tells g.B.Disk.Disk.content g.B.Disk.Disk.size g.B.Disk.Disk.faults (has_replica c.args.shape.now) (slot_at g.B.Bays.home g.B.Bays.out c.args.folder.now s) (slot_at g.B.Bays.home g.B.Bays.out c.args.folder.now (record { shape = c.self.inside.shape; folder = string_bytes c.self.inside.folder; bays = c.open_all.new.bays; nodes = c.self.inside.nodes.items }))) c.self.view_is
    (some_failed g.B.Bays.tells g.B.Disk.Disk.tells g.B.Disk.Disk.content g.B.Disk.Disk.size g.B.Bays.home g.B.Bays.out c.args.shape.now c.args.folder.now (record { shape = c.self.inside.shape; folder = string_bytes c.self.inside.folder; bays = c.self.inside.bays; nodes = c.self.inside.nodes.items }) (closed g (goal.at.returns-in_err-nodes-clause-failed g c).After-copy_of) c.self.invariant c.open_all.new.bays g.B.Disk.Disk.faults (failed t))))
    (c.in_err-nodes.ensures.failed (search rules))

pub invariant_of-self-2 : goal.invariant_of-self-2
invariant_of-self-2 g c =
    subst (λ (f : List ℕ). IsOpen g.B.Bays.tells g.B.Disk.Disk.tells g.B.Disk.Disk.content g.B.Disk.Disk.size g.B.Bays.home g.B.Bays.out c.args.shape.now f c.open_all.new.bays c.in_ok-nodes.nodes.items) (sym c.in_ok-kept.ensures)
    (is_open g.B.Bays.tells g.B.Disk.Disk.tells g.B.Disk.Disk.content g.B.Disk.Disk.size g.B.Bays.home g.B.Bays.out c.args.shape.now c.args.folder.now (record { shape = c.self.inside.shape; folder = string_bytes c.self.inside.folder; bays = c.self.inside.bays; nodes = c.self.inside.nodes.items }) (closed g (goal.at.invariant_of-self-2 g c).After-copy_of) c.self.invariant c.open_all.new.bays c.in_ok-nodes.nodes.items c.in_ok-nodes.ensures.up c.in_ok-nodes.ensures.slots g.met.B.Bays.known c.requires.shape c.in_ok-nodes.ensures.length)

pub returns-clause-opened : goal.returns-clause-opened
returns-clause-opened g c =
    subst (λ (s : NodesState g.row.B.Denot g.row.B-Disk.Denot). OpensNodes g.B.Bays.tells g.B.Disk.Disk.tells g.B.Disk.Disk.content g.B.Disk.Disk.size g.B.Bays.home g.B.Bays.out (has_replica c.args.shape.now) (settings_of c.args.shape.now) c.args.folder.now s (record { shape = Some c.args.shape.now; folder = string_bytes c.in_ok-kept.kept; bays = c.open_all.new.bays; nodes = c.in_ok-nodes.nodes.items })) c.self.view_is
    (subst (λ (f : List ℕ). OpensNodes g.B.Bays.tells g.B.Disk.Disk.tells g.B.Disk.Disk.content g.B.Disk.Disk.size g.B.Bays.home g.B.Bays.out (has_replica c.args.shape.now) (settings_of c.args.shape.now) c.args.folder.now (record { shape = c.self.inside.shape; folder = string_bytes c.self.inside.folder; bays = c.self.inside.bays; nodes = c.self.inside.nodes.items }) (record { shape = Some c.args.shape.now; folder = f; bays = c.open_all.new.bays; nodes = c.in_ok-nodes.nodes.items })) (sym c.in_ok-kept.ensures)
    (opens_nodes g.B.Bays.tells g.B.Disk.Disk.tells g.B.Disk.Disk.content g.B.Disk.Disk.size g.B.Bays.home g.B.Bays.out c.args.shape.now c.args.folder.now (record { shape = c.self.inside.shape; folder = string_bytes c.self.inside.folder; bays = c.self.inside.bays; nodes = c.self.inside.nodes.items }) (closed g (goal.at.returns-clause-opened g c).After-copy_of) c.self.invariant c.open_all.new.bays c.in_ok-nodes.nodes.items c.in_ok-nodes.ensures.up c.in_ok-nodes.ensures.slots c.open_all.ensures.folders))

pub returns-in_err-nodes-clause-closed : goal.returns-in_err-nodes-clause-closed
returns-in_err-nodes-clause-closed g c = anyway c.from_residual-in_err-nodes.result
    (subst (λ (s : NodesState g.row.B.Denot g.row.B-Disk.Denot). StayUnopened g.B.Bays.tells g.B.Disk.Disk.tells g.B.Disk.Disk.content g.B.Disk.Disk.size g.B.Bays.home g.B.Bays.out (has_replica c.args.shape.now) (settings_of c.args.shape.now) c.args.folder.now s (record { shape = c.self.inside.shape; folder = string_bytes c.self.inside.folder; bays = c.open_all.new.bays; nodes = c.self.inside.nodes.items })) c.self.view_is
    (stay_unopened g.B.Bays.tells g.B.Disk.Disk.tells g.B.Disk.Disk.content g.B.Disk.Disk.size g.B.Bays.home g.B.Bays.out c.args.shape.now c.args.folder.now (record { shape = c.self.inside.shape; folder = string_bytes c.self.inside.folder; bays = c.self.inside.bays; nodes = c.self.inside.nodes.items }) (closed g (goal.at.returns-in_err-nodes-clause-closed g c).After-copy_of) c.self.invariant c.open_all.new.bays c.in_err-nodes.ensures.closed c.open_all.ensures.folders))

pub returns-in_err-nodes-clause-err : goal.returns-in_err-nodes-clause-err
returns-in_err-nodes-clause-err g c = anyway c.from_residual-in_err-nodes.result (is_never_opened g.B.Bays.tells g.B.Disk.Disk.tells g.B.Disk.Disk.content g.B.Disk.Disk.size g.B.Bays.home g.B.Bays.out c.args.shape.now c.args.folder.now (record { shape = c.self.inside.shape; folder = string_bytes c.self.inside.folder; bays = c.self.inside.bays; nodes = c.self.inside.nodes.items }) (closed g (goal.at.returns-in_err-nodes-clause-err g c).After-copy_of) c.self.invariant c.open_all.new.bays)
