use Rattle.std.proofs.Common.{◌≤◌}
use Rattle.node_lab.specs.Replicas.{settings_of}
use Rattle.node_lab.proofs.NodeWalkLemmas.{NodesTo}
use Rattle.node_lab.proofs.all_nodes.add_nodes.Given as goal

-- the nodes passed are open
abbrev pub invariant-loop-node : goal.invariant-loop-node
invariant-loop-node g l = record {
  so_far : NodesTo g.B.Bays.tells g.B.Disk.Disk.tells g.B.Disk.Disk.content g.B.Disk.Disk.size (settings_of l.shape) l.folder l.shape (g.B.Bays.home l.initial.bays) (g.B.Bays.out l.initial.bays) l.node l.nodes.items (g.B.Bays.home l.bays) (g.B.Bays.out l.bays);
  later : g.B.Bays.faults l.initial.bays ≤ g.B.Bays.faults l.bays;
  same : g.B.Bays.same l.initial.bays l.bays;
}
