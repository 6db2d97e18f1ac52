use Rattle.std.proofs.Common.{◌≤◌}
use Rattle.node_lab.specs.Replicas.{settings_of}
use Rattle.node_lab.proofs.PortWalkLemmas.{PortsTo}
use Rattle.node_lab.proofs.one_node.add_ports.Given as goal

-- the replicas of the partitions passed are open
abbrev pub invariant-loop-partition : goal.invariant-loop-partition
invariant-loop-partition g l = record {
  so_far : PortsTo g.B.Bays.tells g.B.Disk.Disk.tells g.B.Disk.Disk.content g.B.Disk.Disk.size (settings_of l.shape) l.folder l.shape l.node (g.B.Bays.home l.initial.bays) (g.B.Bays.out l.initial.bays) l.partition l.ports.items (g.B.Bays.home l.bays) (g.B.Bays.out l.bays);
  later : g.B.Bays.faults l.initial.bays ≤ g.B.Bays.faults l.bays;
  same : g.B.Bays.same l.initial.bays l.bays;
}
