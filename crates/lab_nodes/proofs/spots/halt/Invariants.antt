use Rattle.std.proofs.Common.{◌≡◌, ℕ, List, length}
use Rattle.lab_nodes.specs.Spots.{AreOut, HaltsSpot, RestStays, is_meant, node_at, slot_at, spot_at}
use Rattle.lab_nodes.specs.Starting.{FirstChange, HaltsSlot}
use Rattle.lab_nodes.proofs.spots.halt.Given as goal

-- the places passed are closed
abbrev pub invariant-loop-place : goal.invariant-loop-place
invariant-loop-place g l = record {
  size : length l.slots.items ≡ length l.initial.slots.items;
  slots : FirstChange (λ place. HaltsSlot (is_meant l.which (node_at l.partitions place))) l.place (slot_at l.initial.slots.items) (slot_at l.slots.items);
  spots : g.B.Bays.tells → (folder : List ℕ) → AreOut l.partitions folder l.initial.slots.items (g.B.Bays.out l.initial.bays)
      → FirstChange (λ place. HaltsSpot g.B.Disk.Disk.tells g.B.Disk.Disk.content g.B.Disk.Disk.size (is_meant l.which (node_at l.partitions place)) l.stops) l.place
      (spot_at l.partitions folder l.initial.slots.items (g.B.Bays.home l.initial.bays) (g.B.Bays.out l.initial.bays))
      (spot_at l.partitions folder l.slots.items (g.B.Bays.home l.bays) (g.B.Bays.out l.bays));
  rest : g.B.Bays.tells → (folder : List ℕ) → AreOut l.partitions folder l.initial.slots.items (g.B.Bays.out l.initial.bays)
      → RestStays l.partitions folder (g.B.Bays.home l.initial.bays) (g.B.Bays.out l.initial.bays) (g.B.Bays.home l.bays) (g.B.Bays.out l.bays);
  faults : g.B.Bays.faults l.bays ≡ g.B.Bays.faults l.initial.bays;
  same : g.B.Bays.same l.initial.bays l.bays;
}
