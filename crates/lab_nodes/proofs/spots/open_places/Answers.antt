use Rattle.std.proofs.Common.{◌≡◌, ℕ, ◌<◌, length, slice_set, Option, sym, ◌∙◌, ap, subst, arith, length-set}
use Rattle.std.proofs.lemmas.Bool.{cases_lt}
use Rattle.std.proofs.Common.{inl, inr}
use Rattle.replica_core.specs.State.{ReplicaState}
use Rattle.lab_nodes.specs.Holding.{settings_of}
use Rattle.lab_nodes.specs.Spots.{IsCause, Spot, StartsSpot, StaysClosed, node_at, partition_at, slot_at, spot_at}
use Rattle.lab_nodes.specs.Starting.{StartsSlot, is_due}
use Rattle.lab_nodes.proofs.Refusing.{due_at, first_is}
use Rattle.lab_nodes.proofs.Walking.{other_spot, rest_on, slot_found, slot_set, slot_set_other, walk_on}
use Rattle.lab_nodes.proofs.spots.open_places.Goals as goal
use Rattle.lab_nodes.proofs.spots.open_places.Goals.{In-loop-place}

within : (g : _) (c : In-loop-place g) → c.loop-place.place < length c.loop-place.slots.items
within g c = omega (arith, c.loop-place-test.true, c.len-place-end.ensures, c.loop-place.invariant.size)

-- the place is as it was
still : (g : _) (c : In-loop-place g) → g.B.Bays.tells → spot_at c.args.shape.now.partitions c.args.folder.now c.loop-place.slots.items (g.B.Bays.home c.loop-place.bays) (g.B.Bays.out c.loop-place.bays) c.loop-place.place
    ≡ spot_at c.args.shape.now.partitions c.args.folder.now c.args.slots.now.items (g.B.Bays.home c.args.bays.now) (g.B.Bays.out c.args.bays.now) c.loop-place.place
still g c t = (c.loop-place.invariant.spots t c.loop-place.place).1 (omega arith)

pub start_place-requires-clause-empty : goal.start_place-requires-clause-empty
start_place-requires-clause-empty g c = λ meant.
    let it = (goal.at.start_place-requires-clause-empty g c).In-loop-place in
    let place = c.loop-place.place in
    sym (slot_found c.loop-place.slots.items place c.index_mut-slot.result.now (within g it) c.index_mut-slot.ensures.value)
    ∙ (c.loop-place.invariant.slots place).1 (omega arith) ∙ c.requires.empty place meant

pub loop-place-preserved : goal.loop-place-preserved
loop-place-preserved g c =
    let it = (goal.at.loop-place-preserved g c).In-loop-place in
    let inv = c.loop-place.invariant in
    let place = c.loop-place.place in
    let slots = c.loop-place.slots.items in
    let x = c.start_place.new.slot in
    let shape = c.args.shape.now in
    let due = is_due c.args.which shape place in
    let was = slot_found slots place c.index_mut-slot.result.now (within g it) c.index_mut-slot.ensures.value in
    let set = slot_set slots place x (within g it) in
    record {
      size = length-set slots place x ∙ inv.size;
      slots = walk_on (λ k. StartsSlot (is_due c.args.which shape k) (settings_of shape)) place (slot_at c.args.slots.now.items) (slot_at slots) (slot_at (slice_set slots place x)) inv.slots
          (subst (λ (s : Option (ReplicaState g.row.B-Disk.Denot)). StartsSlot due (settings_of shape) s (slot_at (slice_set slots place x) place)) (sym was)
          (subst (λ (s : Option (ReplicaState g.row.B-Disk.Denot)). StartsSlot due (settings_of shape) c.index_mut-slot.result.now s) (sym set) c.in-Ok.ensures.slot))
          (λ k other. slot_set_other slots place k x other);
      spots = λ t.
          let old_home = g.B.Bays.home c.loop-place.bays in
          let old_out = g.B.Bays.out c.loop-place.bays in
          let new_home = g.B.Bays.home c.start_place.new.bays in
          let new_out = g.B.Bays.out c.start_place.new.bays in
          let folder = c.args.folder.now in
          let n = node_at shape.partitions place in
          let p = partition_at shape.partitions place in
          walk_on (λ k. StartsSpot g.B.Disk.Disk.tells g.B.Disk.Disk.content g.B.Disk.Disk.size (is_due c.args.which shape k) (settings_of shape) folder) place
          (spot_at shape.partitions folder c.args.slots.now.items (g.B.Bays.home c.args.bays.now) (g.B.Bays.out c.args.bays.now))
          (spot_at shape.partitions folder slots old_home old_out)
          (spot_at shape.partitions folder (slice_set slots place x) new_home new_out)
          (inv.spots t)
          (subst (λ (s : Option (ReplicaState g.row.B-Disk.Denot)). StartsSpot g.B.Disk.Disk.tells g.B.Disk.Disk.content g.B.Disk.Disk.size due (settings_of shape) folder (record { slot = s; home = old_home folder n p; out = old_out n p }) (record { slot = slot_at (slice_set slots place x) place; home = new_home folder n p; out = new_out n p })) (sym was)
          (subst (λ (s : Option (ReplicaState g.row.B-Disk.Denot)). StartsSpot g.B.Disk.Disk.tells g.B.Disk.Disk.content g.B.Disk.Disk.size due (settings_of shape) folder (record { slot = c.index_mut-slot.result.now; home = old_home folder n p; out = old_out n p }) (record { slot = s; home = new_home folder n p; out = new_out n p })) (sym set)
          (c.in-Ok.ensures.spot t)))
          (other_spot shape.partitions folder slots place x old_home new_home old_out new_out (c.start_place.ensures.others t));
      rest = λ t. rest_on shape.partitions c.args.folder.now place _ _ _ _ _ _ c.requires.shape.some_partitions (inv.rest t) (c.start_place.ensures.others t);
      later = omega (arith, c.start_place.ensures.later, inv.later);
      same = g.met.B.Bays.same_on _ _ _ inv.same c.start_place.ensures.same;
    }

pub returns-in-Err-clause-stopped : goal.returns-in-Err-clause-stopped
returns-in-Err-clause-stopped g c =
    let it = (goal.at.returns-in-Err-clause-stopped g c).In-loop-place in
    let inv = c.loop-place.invariant in
    let place = c.loop-place.place in
    let slots = c.loop-place.slots.items in
    let x = c.start_place.new.slot in
    let shape = c.args.shape.now in
    let was = slot_found slots place c.index_mut-slot.result.now (within g it) c.index_mut-slot.ensures.value in
    let set = slot_set slots place x (within g it) in
    let same = set ∙ c.in-Err.ensures.closed ∙ sym was in (
      place,
      omega (arith, within g it, inv.size),
      record {
        due = c.in-Err.ensures.due;
        before = λ k less. subst (λ (s : Option (ReplicaState g.row.B-Disk.Denot)). StartsSlot (is_due c.args.which shape k) (settings_of shape) (slot_at c.args.slots.now.items k) s) (sym (slot_set_other slots place k x (omega (arith, less)))) ((inv.slots k).0 less);
        others = λ k past. elim (cases_lt place k) [
          | inl less ↦ slot_set_other slots place k x (omega (arith, less)) ∙ (inv.slots k).1 past
          | inr more ↦ (let here : k ≡ place = omega (arith, past, more) in subst (λ (i : ℕ). slot_at (slice_set slots place x) i ≡ slot_at c.args.slots.now.items i) (sym here) (same ∙ (inv.slots place).1 (omega arith)))
        ];
      },
      (λ t.
          let old_home = g.B.Bays.home c.loop-place.bays in
          let old_out = g.B.Bays.out c.loop-place.bays in
          let new_home = g.B.Bays.home c.start_place.new.bays in
          let new_out = g.B.Bays.out c.start_place.new.bays in
          let folder = c.args.folder.now in
          let n = node_at shape.partitions place in
          let p = partition_at shape.partitions place in
          let others = other_spot shape.partitions folder slots place x old_home new_home old_out new_out (c.start_place.ensures.others t) in
          let before = spot_at shape.partitions folder c.args.slots.now.items (g.B.Bays.home c.args.bays.now) (g.B.Bays.out c.args.bays.now) in
          record {
            before = λ k less. subst (λ (s : Spot g.row.B-Disk.Denot). StartsSpot g.B.Disk.Disk.tells g.B.Disk.Disk.content g.B.Disk.Disk.size (is_due c.args.which shape k) (settings_of shape) folder (before k) s) (sym (others k (omega (arith, less)))) ((inv.spots t k).0 less);
            here = subst (λ (s : Spot g.row.B-Disk.Denot). StaysClosed g.B.Disk.Disk.tells g.B.Disk.Disk.content g.B.Disk.Disk.size (settings_of shape) s (record { slot = slot_at (slice_set slots place x) place; home = new_home folder n p; out = new_out n p })) (still g it t)
                (subst (λ (s : Option (ReplicaState g.row.B-Disk.Denot)). StaysClosed g.B.Disk.Disk.tells g.B.Disk.Disk.content g.B.Disk.Disk.size (settings_of shape) (record { slot = s; home = old_home folder n p; out = old_out n p }) (record { slot = slot_at (slice_set slots place x) place; home = new_home folder n p; out = new_out n p })) (sym was)
                (subst (λ (s : Option (ReplicaState g.row.B-Disk.Denot)). StaysClosed g.B.Disk.Disk.tells g.B.Disk.Disk.content g.B.Disk.Disk.size (settings_of shape) (record { slot = c.index_mut-slot.result.now; home = old_home folder n p; out = old_out n p }) (record { slot = s; home = new_home folder n p; out = new_out n p })) (sym set)
                (c.in-Err.ensures.closed_spot t)));
            behind = λ k past. others k (omega (arith, past)) ∙ (inv.spots t k).1 (omega (arith, past));
          }),
    )

pub returns-in-Err-clause-refused : goal.returns-in-Err-clause-refused
returns-in-Err-clause-refused g c = λ refusal is t.
    let it = (goal.at.returns-in-Err-clause-refused g c).In-loop-place in
    let shape = c.args.shape.now in
    let place = c.loop-place.place in
    let why = c.start_place.ensures.refused refusal (c.in-Err.is ∙ is) in
    first_is g.B.Disk.Disk.tells g.B.Disk.Disk.content g.B.Disk.Disk.size c.args.which shape c.args.folder.now (g.B.Bays.home c.args.bays.now) place refusal c.requires.shape.some_partitions c.in-Err.ensures.due why.0 why.1
    (subst (λ (h : Option g.row.B-Disk.Denot). IsCause g.B.Disk.Disk.tells g.B.Disk.Disk.content g.B.Disk.Disk.size (settings_of shape) h refusal.what) (ap (λ (s : Spot g.row.B-Disk.Denot). s.home) (still g it t)) (why.2 t))
    c.args.slots.now.items (g.B.Bays.out c.args.bays.now) (spot_at shape.partitions c.args.folder.now c.loop-place.slots.items (g.B.Bays.home c.loop-place.bays) (g.B.Bays.out c.loop-place.bays))
    (λ k less. (c.loop-place.invariant.spots t k).0 less)

pub returns-in-Err-clause-refused_place : goal.returns-in-Err-clause-refused_place
returns-in-Err-clause-refused_place g c = λ refusal is.
    let why = c.start_place.ensures.refused refusal (c.in-Err.is ∙ is) in
    due_at c.args.which c.args.shape.now c.loop-place.place refusal c.requires.shape.some_partitions c.in-Err.ensures.due why.0 why.1
