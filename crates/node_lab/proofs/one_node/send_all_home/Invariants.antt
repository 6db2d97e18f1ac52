use Rattle.std.proofs.Common.{◌≡◌, ◌+◌, ℕ, nat_eq, List, length}
use Rattle.std.specs.List.{IsDistinct}
use Rattle.std.specs.Map.{keys_of}
use Rattle.node_lab.specs.Calls.{PortsOut}
use Rattle.node_lab.proofs.WalkHomeLemmas.{SendsRest}
use Rattle.node_lab.proofs.one_node.send_all_home.Given as goal

-- the replicas that were popped went home
abbrev pub invariant-loop : goal.invariant-loop
invariant-loop g l = record {
  count : length l.ports.items + l.counter ≡ l.end;
  distinct : IsDistinct nat_eq (keys_of l.ports.items);
  rest : g.B.Bays.tells → (folder : List ℕ) → PortsOut folder l.node l.initial.ports.items (g.B.Bays.out l.initial.bays) → SendsRest g.B.Disk.Disk.tells g.B.Disk.Disk.content g.B.Disk.Disk.size l.stops folder l.node l.initial.ports.items (g.B.Bays.home l.initial.bays) (g.B.Bays.out l.initial.bays) l.ports.items (g.B.Bays.home l.bays) (g.B.Bays.out l.bays);
  faults : g.B.Bays.faults l.bays ≡ g.B.Bays.faults l.initial.bays;
  same : g.B.Bays.same l.initial.bays l.bays;
}
