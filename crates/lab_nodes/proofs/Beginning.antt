-- Nodes that are opened for the first time.
use Rattle.std.proofs.Common.{◌≡◌, inl, inr, ℕ, ◌*◌, ◌<◌, true, false, ◌||◌, List, length, Option, Some, None, refl, sym, ◌∙◌, ap, subst}
use Rattle.std.specs.Prelude.{IsSome}
use Rattle.std.specs.Option.{is_some}
use Rattle.disk_core.specs.Content.{Content}
use Rattle.disk_core.specs.Homes.{Home, Out}
use Rattle.replica_core.specs.State.{ReplicaState}
use Rattle.world_model.specs.declared.shape.Shape.{Shape}
use Rattle.world_model.specs.Shape.{IsShape}
use Rattle.world_model.specs.World.{Cells}
use Rattle.lab_nodes.specs.declared.places.Which.{Which}
use Rattle.lab_nodes.specs.Holding.{settings_of}
use Rattle.lab_nodes.specs.Layouts.{HasLayoutAt, HaveLayouts, Layouts}
use Rattle.lab_nodes.specs.Nodes.{Holds, HoldsAt, HoldsSome, IsFor, IsOpen, IsOutAs, NodesState, OnlyOwnOut, has_replica, replica_in}
use Rattle.lab_nodes.specs.Spots.{AreOut, RestStays, StartsSpot, StaysClosed, node_at, partition_at, slot_at, spot_at}
use Rattle.lab_nodes.specs.Starting.{AreEmpty, FirstChange, StartsSlot, is_due}
use Rattle.lab_nodes.proofs.Placing.{slot_here, slot_out, where_is}
use Rattle.lab_nodes.proofs.Starting.{started_layouts, started_open, started_out, started_places, started_up, stopped_layouts, stopped_outs, stopped_places, stopped_slot}

-- nodes that were never opened
module _ {B D : Type 0} (content : D → Content) (home : B → Home D) (out : B → Out) (nodes : NodesState B D) (shut : nodes.shape ≡ None) where
  closed_places : (shape : Shape) (folder : List ℕ) (cells : Cells) → Holds content home shape folder cells nodes → (n p : ℕ) → HoldsAt content home (has_replica shape n p) (settings_of shape) None (home nodes.bays folder n p) (cells n p)
  closed_places shape folder cells holds = subst (λ (o : Option Shape). (n p : ℕ) → HoldsAt content home (has_replica shape n p) (settings_of shape) (replica_in o nodes.slots n p) (home nodes.bays folder n p) (cells n p)) shut holds.places

  closed_layouts : (shape : Shape) (folder : List ℕ) (layouts : Layouts) → HaveLayouts content home shape folder layouts nodes → (n p : ℕ) → HasLayoutAt content (has_replica shape n p) (settings_of shape) None (home nodes.bays folder n p) (layouts n p)
  closed_layouts shape folder layouts have = subst (λ (o : Option Shape). (n p : ℕ) → HasLayoutAt content (has_replica shape n p) (settings_of shape) (replica_in o nodes.slots n p) (home nodes.bays folder n p) (layouts n p)) shut have.places

  closed_outs : (before : Out) → OnlyOwnOut out before nodes → (n p : ℕ) → out nodes.bays n p ≡ before n p
  closed_outs before own = subst (λ (o : Option Shape). (n p : ℕ) → IsOutAs (is_some (replica_in o nodes.slots n p)) nodes.folder (before n p) (out nodes.bays n p)) shut own

  -- nodes that stay closed
  holds_closed : (shape : Shape) (folder : List ℕ) (cells : Cells) (new : NodesState B D) → new.shape ≡ None → ((n p : ℕ) → HoldsAt content home (has_replica shape n p) (settings_of shape) None (home new.bays folder n p) (cells n p)) → Holds content home shape folder cells new
  holds_closed shape folder cells new still places = record {
    named = subst (λ (o : Option Shape). IsFor shape folder o new.folder) (sym still) tt;
    places = subst (λ (o : Option Shape). (n p : ℕ) → HoldsAt content home (has_replica shape n p) (settings_of shape) (replica_in o new.slots n p) (home new.bays folder n p) (cells n p)) (sym still) places;
  }

  have_closed : (shape : Shape) (folder : List ℕ) (layouts : Layouts) (new : NodesState B D) → new.shape ≡ None → ((n p : ℕ) → HasLayoutAt content (has_replica shape n p) (settings_of shape) None (home new.bays folder n p) (layouts n p)) → HaveLayouts content home shape folder layouts new
  have_closed shape folder layouts new still places = record {
    named = subst (λ (o : Option Shape). IsFor shape folder o new.folder) (sym still) tt;
    places = subst (λ (o : Option Shape). (n p : ℕ) → HasLayoutAt content (has_replica shape n p) (settings_of shape) (replica_in o new.slots n p) (home new.bays folder n p) (layouts n p)) (sym still) places;
  }

-- slots that are empty
module _ {D : Type 0} (shape : Shape) (slots : List (Option (ReplicaState D))) (none : (k : ℕ) → slot_at slots k ≡ None) where
  none_in : (n p : ℕ) → replica_in (Some shape) slots n p ≡ None
  none_in n p = elim (where_is shape n p) [
    | inl outside ↦ slot_out shape slots n p outside
    | inr found ↦ slot_here shape slots n p found ∙ none found.place
  ]

  pub none_open : {P : Type 0} (k : ℕ) → IsSome (slot_at slots k) → P
  none_open k some = absurd (let shut : is_some (slot_at slots k) ≡ false = ap is_some (none k) in cc)

module _ {B D : Type 0} (bays_tell tells : Type 0) (content : D → Content) (size : D → ℕ) (home : B → Home D) (out : B → Out) (known : tells → bays_tell) (shape : Shape) (folder : List ℕ) (nodes : NodesState B D) (new_bays : B) (slots new_slots : List (Option (ReplicaState D)))
    (shut : nodes.shape ≡ None)
    (ranges : IsShape shape)
    (long : length slots ≡ shape.nodes * shape.partitions)
    (longer : length new_slots ≡ length slots)
    (none : (k : ℕ) → slot_at slots k ≡ None)
    (starts : (k : ℕ) → k < length slots → StartsSlot (is_due Which.All shape k) (settings_of shape) (slot_at slots k) (slot_at new_slots k))
    (spots : bays_tell → FirstChange (λ k. StartsSpot tells content size (is_due Which.All shape k) (settings_of shape) folder) (length slots)
    (spot_at shape.partitions folder slots (home nodes.bays) (out nodes.bays)) (spot_at shape.partitions folder new_slots (home new_bays) (out new_bays)))
    (rest : bays_tell → RestStays shape.partitions folder (home nodes.bays) (out nodes.bays) (home new_bays) (out new_bays)) where
  all_in : (k : ℕ) → IsSome (slot_at slots k) → is_due Which.All shape k ≡ true
  all_in k some = none_open shape slots none k some

  outs : bays_tell → AreOut shape.partitions folder slots (out nodes.bays)
  outs t k some = none_open shape slots none k some

  empty : AreEmpty Which.All shape.partitions slots
  empty k meant = none k

  kept : tells → (k : ℕ) → is_due Which.All shape k ≡ false → is_due Which.All shape k ≡ true → HoldsSome content (settings_of shape) (slot_at slots k) (home nodes.bays folder (node_at shape.partitions k) (partition_at shape.partitions k))
  kept t k undue due = absurd (cc)

  pub opened_open : IsOpen bays_tell tells content home out shape folder new_bays new_slots
  opened_open = started_open bays_tell tells content size home out known Which.All shape folder nodes.bays new_bays slots new_slots ranges long longer all_in outs empty kept starts spots rest

  pub opened_up : (n p : ℕ) → is_some (replica_in (Some shape) new_slots n p) ≡ has_replica shape n p
  opened_up n p = started_up Which.All shape slots new_slots ranges long longer starts n p ∙ ap (λ (s : Option (ReplicaState D)). is_some s || has_replica shape n p) (none_in shape slots none n p)

  pub opened_holds : tells → (cells : Cells) → Holds content home shape folder cells nodes → Holds content home shape folder cells (record { shape = Some shape; folder = folder; bays = new_bays; slots = new_slots })
  opened_holds t cells holds = record {
    named = (refl, refl);
    places = started_places bays_tell tells content size home out known Which.All shape folder nodes.bays new_bays slots new_slots ranges long longer all_in outs empty kept starts spots rest t cells
        (λ n p. subst (λ (s : Option (ReplicaState D)). HoldsAt content home (has_replica shape n p) (settings_of shape) s (home nodes.bays folder n p) (cells n p)) (sym (none_in shape slots none n p)) (closed_places content home out nodes shut shape folder cells holds n p));
  }

  pub opened_layouts : tells → (layouts : Layouts) → HaveLayouts content home shape folder layouts nodes → HaveLayouts content home shape folder layouts (record { shape = Some shape; folder = folder; bays = new_bays; slots = new_slots })
  opened_layouts t layouts have = record {
    named = (refl, refl);
    places = started_layouts bays_tell tells content size home out known Which.All shape folder nodes.bays new_bays slots new_slots ranges long longer all_in outs empty kept starts spots rest t layouts
        (λ n p. subst (λ (s : Option (ReplicaState D)). HasLayoutAt content (has_replica shape n p) (settings_of shape) s (home nodes.bays folder n p) (layouts n p)) (sym (none_in shape slots none n p)) (closed_layouts content home out nodes shut shape folder layouts have n p));
  }

  pub opened_out : bays_tell → (before : Out) → OnlyOwnOut out before nodes → OnlyOwnOut out before (record { shape = Some shape; folder = folder; bays = new_bays; slots = new_slots })
  opened_out t before own =
      started_out bays_tell tells content size home out known Which.All shape folder nodes.bays new_bays slots new_slots ranges long longer all_in outs empty kept starts spots rest t before
      (λ n p. subst (λ (s : Option (ReplicaState D)). IsOutAs (is_some s) folder (before n p) (out nodes.bays n p)) (sym (none_in shape slots none n p)) (closed_outs content home out nodes shut before own n p))

module _ {B D : Type 0} (bays_tell tells : Type 0) (content : D → Content) (size : D → ℕ) (home : B → Home D) (out : B → Out) (known : tells → bays_tell) (shape : Shape) (folder : List ℕ) (nodes new : NodesState B D) (slots new_slots : List (Option (ReplicaState D)))
    (shut : nodes.shape ≡ None)
    (still : new.shape ≡ None)
    (none : (k : ℕ) → slot_at slots k ≡ None)
    (closed : (k : ℕ) → slot_at new_slots k ≡ slot_at slots k)
    (closed_spots : bays_tell → (k : ℕ) → StaysClosed tells content size (settings_of shape) (spot_at shape.partitions folder slots (home nodes.bays) (out nodes.bays) k) (spot_at shape.partitions folder new_slots (home new.bays) (out new.bays) k))
    (rest : bays_tell → RestStays shape.partitions folder (home nodes.bays) (out nodes.bays) (home new.bays) (out new.bays)) where
  -- after an opening that ended early
  pub unopened_holds : tells → (cells : Cells) → Holds content home shape folder cells nodes → Holds content home shape folder cells new
  unopened_holds t cells holds = holds_closed content home out nodes shut shape folder cells new still (λ n p.
      subst (λ (s : Option (ReplicaState D)). HoldsAt content home (has_replica shape n p) (settings_of shape) s (home new.bays folder n p) (cells n p)) (stopped_slot shape slots new_slots closed n p ∙ none_in shape slots none n p)
      (stopped_places bays_tell tells content size home out known shape folder nodes.bays new.bays slots new_slots closed closed_spots rest t cells
      (λ m q. subst (λ (s : Option (ReplicaState D)). HoldsAt content home (has_replica shape m q) (settings_of shape) s (home nodes.bays folder m q) (cells m q)) (sym (none_in shape slots none m q)) (closed_places content home out nodes shut shape folder cells holds m q)) n p))

  pub unopened_layouts : tells → (layouts : Layouts) → HaveLayouts content home shape folder layouts nodes → HaveLayouts content home shape folder layouts new
  unopened_layouts t layouts have = have_closed content home out nodes shut shape folder layouts new still (λ n p.
      subst (λ (s : Option (ReplicaState D)). HasLayoutAt content (has_replica shape n p) (settings_of shape) s (home new.bays folder n p) (layouts n p)) (stopped_slot shape slots new_slots closed n p ∙ none_in shape slots none n p)
      (stopped_layouts bays_tell tells content size home out known shape folder nodes.bays new.bays slots new_slots closed closed_spots rest t layouts
      (λ m q. subst (λ (s : Option (ReplicaState D)). HasLayoutAt content (has_replica shape m q) (settings_of shape) s (home nodes.bays folder m q) (layouts m q)) (sym (none_in shape slots none m q)) (closed_layouts content home out nodes shut shape folder layouts have m q)) n p))

  pub unopened_out : bays_tell → (before : Out) → OnlyOwnOut out before nodes → OnlyOwnOut out before new
  unopened_out t before own = subst (λ (o : Option Shape). (n p : ℕ) → IsOutAs (is_some (replica_in o new.slots n p)) new.folder (before n p) (out new.bays n p)) (sym still)
      (λ n p. stopped_outs bays_tell tells content size home out known shape folder nodes.bays new.bays slots new_slots closed closed_spots rest t n p ∙ closed_outs content home out nodes shut before own n p)
