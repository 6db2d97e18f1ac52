use Rattle.std.proofs.Common.{◌≡◌, ℕ, ◌<◌, List, length, slice_set, Option, Some, refl, sym, ◌∙◌, ap, subst, arith, length-set}
use Rattle.std.specs.Prelude.{IsSome}
use Rattle.replica_core.specs.State.{ReplicaState}
use Rattle.lab_nodes.specs.Spots.{AreOut, HaltsSpot, Spot, is_meant, node_at, partition_at, slot_at, spot_at}
use Rattle.lab_nodes.specs.Starting.{HaltsSlot}
use Rattle.lab_nodes.proofs.Walking.{other_spot, rest_on, slot_found, slot_set, slot_set_other, walk_on}
use Rattle.lab_nodes.proofs.spots.halt.Goals as goal
use Rattle.lab_nodes.proofs.spots.halt.Goals.{In-loop-place}

within : (g : _) (c : In-loop-place g) → c.loop-place.place < length c.loop-place.slots.items
within g c = omega (arith, c.loop-place-test.true, c.len-place-end.ensures, c.loop-place.invariant.size)

-- an open replica's disk is out still
still_out : (g : _) (c : In-loop-place g) (slot : Option (ReplicaState g.row.B-Disk.Denot)) → slot_at c.loop-place.slots.items c.loop-place.place ≡ slot → g.B.Bays.tells → (folder : List ℕ) → AreOut c.args.partitions folder c.args.slots.now.items (g.B.Bays.out c.args.bays.now) → IsSome slot
    → g.B.Bays.out c.loop-place.bays (node_at c.args.partitions c.loop-place.place) (partition_at c.args.partitions c.loop-place.place) ≡ Some folder
still_out g c slot is t folder out some =
    let place = c.loop-place.place in
    let same = (c.loop-place.invariant.spots t folder out place).1 (omega arith) in
    ap (λ (s : Spot g.row.B-Disk.Denot). s.out) same
    ∙ out place (subst (λ (s : Option (ReplicaState g.row.B-Disk.Denot)). IsSome s) (sym is ∙ ap (λ (s : Spot g.row.B-Disk.Denot). s.slot) same) some)

pub halt_place-requires-clause-out : goal.halt_place-requires-clause-out
halt_place-requires-clause-out g c = λ t some.
    let it = (goal.at.halt_place-requires-clause-out g c).In-loop-place in
    let known = c.requires.out t in
    let was = slot_found c.loop-place.slots.items c.loop-place.place c.index_mut.result.now (within g it) c.index_mut.ensures.value in
    subst (λ (o : Option (List ℕ)). IsSome o) (sym (still_out g it c.index_mut.result.now was t known.0 known.1 some)) refl

pub loop-place-preserved : goal.loop-place-preserved
loop-place-preserved g c =
    let it = (goal.at.loop-place-preserved g c).In-loop-place in
    let inv = c.loop-place.invariant in
    let place = c.loop-place.place in
    let slots = c.loop-place.slots.items in
    let x = c.halt_place.new.slot in
    let meant = is_meant c.args.which (node_at c.args.partitions place) in
    let was = slot_found slots place c.index_mut.result.now (within g it) c.index_mut.ensures.value in
    let set = slot_set slots place x (within g it) in
    record {
      size = length-set slots place x ∙ inv.size;
      slots = walk_on (λ k. HaltsSlot (is_meant c.args.which (node_at c.args.partitions k))) place (slot_at c.args.slots.now.items) (slot_at slots) (slot_at (slice_set slots place x)) inv.slots
          (subst (λ (s : Option (ReplicaState g.row.B-Disk.Denot)). HaltsSlot meant s (slot_at (slice_set slots place x) place)) (sym was)
          (subst (λ (s : Option (ReplicaState g.row.B-Disk.Denot)). HaltsSlot meant c.index_mut.result.now s) (sym set) c.halt_place.ensures.slot))
          (λ k other. slot_set_other slots place k x other);
      spots = λ t folder out.
          let old_home = g.B.Bays.home c.loop-place.bays in
          let old_out = g.B.Bays.out c.loop-place.bays in
          let new_home = g.B.Bays.home c.halt_place.new.bays in
          let new_out = g.B.Bays.out c.halt_place.new.bays in
          let n = node_at c.args.partitions place in
          let p = partition_at c.args.partitions place in
          walk_on (λ k. HaltsSpot g.B.Disk.Disk.tells g.B.Disk.Disk.content g.B.Disk.Disk.size (is_meant c.args.which (node_at c.args.partitions k)) c.args.stops) place
          (spot_at c.args.partitions folder c.args.slots.now.items (g.B.Bays.home c.args.bays.now) (g.B.Bays.out c.args.bays.now))
          (spot_at c.args.partitions folder slots old_home old_out)
          (spot_at c.args.partitions folder (slice_set slots place x) new_home new_out)
          (inv.spots t folder out)
          (subst (λ (s : Option (ReplicaState g.row.B-Disk.Denot)). HaltsSpot g.B.Disk.Disk.tells g.B.Disk.Disk.content g.B.Disk.Disk.size meant c.args.stops (record { slot = s; home = old_home folder n p; out = old_out n p }) (record { slot = slot_at (slice_set slots place x) place; home = new_home folder n p; out = new_out n p })) (sym was)
          (subst (λ (s : Option (ReplicaState g.row.B-Disk.Denot)). HaltsSpot g.B.Disk.Disk.tells g.B.Disk.Disk.content g.B.Disk.Disk.size meant c.args.stops (record { slot = c.index_mut.result.now; home = old_home folder n p; out = old_out n p }) (record { slot = s; home = new_home folder n p; out = new_out n p })) (sym set)
          (c.halt_place.ensures.spot t folder (still_out g it c.index_mut.result.now was t folder out))))
          (other_spot c.args.partitions folder slots place x old_home new_home old_out new_out (c.halt_place.ensures.others t folder (still_out g it c.index_mut.result.now was t folder out)));
      rest = λ t folder out. rest_on c.args.partitions folder place _ _ _ _ _ _ c.requires.some (inv.rest t folder out) (c.halt_place.ensures.others t folder (still_out g it c.index_mut.result.now was t folder out));
      faults = c.halt_place.ensures.faults ∙ inv.faults;
      same = g.met.B.Bays.same_on _ _ _ inv.same c.halt_place.ensures.same;
    }
