use Rattle.std.proofs.Common.{◌≡◌}
use Rattle.node_lab.proofs.NodeCloseLemmas.{ClosesTo}
use Rattle.node_lab.proofs.all_nodes.close_all.Given as goal

-- the nodes passed are closed
abbrev pub invariant-loop-place : goal.invariant-loop-place
invariant-loop-place g l = record {
  so_far : ClosesTo g.B.Bays.tells g.B.Disk.Disk.tells g.B.Disk.Disk.content g.B.Disk.Disk.size l.stops l.initial.nodes.items (g.B.Bays.home l.initial.bays) (g.B.Bays.out l.initial.bays) l.place l.nodes.items (g.B.Bays.home l.bays) (g.B.Bays.out l.bays);
  faults : g.B.Bays.faults l.bays ≡ g.B.Bays.faults l.initial.bays;
  same : g.B.Bays.same l.initial.bays l.bays;
}
