use Rattle.std.proofs.Common.{◌≡◌, ◌≤◌, length}
use Rattle.lab_nodes.specs.Holding.{settings_of}
use Rattle.lab_nodes.specs.Spots.{RestStays, StartsSpot, slot_at, spot_at}
use Rattle.lab_nodes.specs.Starting.{FirstChange, StartsSlot, is_due}
use Rattle.lab_nodes.proofs.spots.open_places.Given as goal

-- the places passed are open, where a replica is due
abbrev pub invariant-loop-place : goal.invariant-loop-place
invariant-loop-place g l = record {
  size : length l.slots.items ≡ length l.initial.slots.items;
  slots : FirstChange (λ place. StartsSlot (is_due l.which l.shape place) (settings_of l.shape)) l.place (slot_at l.initial.slots.items) (slot_at l.slots.items);
  spots : g.B.Bays.tells → FirstChange (λ place. StartsSpot g.B.Disk.Disk.tells g.B.Disk.Disk.content g.B.Disk.Disk.size (is_due l.which l.shape place) (settings_of l.shape) l.folder) l.place
      (spot_at l.shape.partitions l.folder l.initial.slots.items (g.B.Bays.home l.initial.bays) (g.B.Bays.out l.initial.bays))
      (spot_at l.shape.partitions l.folder l.slots.items (g.B.Bays.home l.bays) (g.B.Bays.out l.bays));
  rest : g.B.Bays.tells → RestStays l.shape.partitions l.folder (g.B.Bays.home l.initial.bays) (g.B.Bays.out l.initial.bays) (g.B.Bays.home l.bays) (g.B.Bays.out l.bays);
  later : g.B.Bays.faults l.initial.bays ≤ g.B.Bays.faults l.bays;
  same : g.B.Bays.same l.initial.bays l.bays;
}
