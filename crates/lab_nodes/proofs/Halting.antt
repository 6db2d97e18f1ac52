-- Nodes some of which were closed.
use Rattle.std.proofs.Common.{◌≡◌, inl, inr, ℕ, ◌<◌, arith, Bool, true, false, ◌&&◌, not, List, length, Option, Some, None, refl, sym, ◌∙◌, ap, subst}
use Rattle.std.specs.Prelude.{IsSome}
use Rattle.std.specs.Option.{is_some}
use Rattle.std.proofs.lemmas.Bool.{and_right, cases_lt}
use Rattle.blob_id.specs.declared.id.BlobId.{BlobId}
use Rattle.cell_model.specs.declared.cell.Cell.{Cell}
use Rattle.disk_core.specs.Content.{Content}
use Rattle.disk_core.specs.Homes.{Home, Out}
use Rattle.log_manifest.specs.declared.manifest.LogSettings.{LogSettings}
use Rattle.replica_core.specs.State.{ReplicaState}
use Rattle.world_model.specs.declared.shape.Shape.{Shape}
use Rattle.world_model.specs.World.{Cells, Change}
use Rattle.lab_nodes.specs.declared.places.Which.{Which}
use Rattle.lab_nodes.specs.Holding.{HoldsPlace, PlaceHasLayout, settings_of}
use Rattle.lab_nodes.specs.Layouts.{HasLayoutAt, Layouts}
use Rattle.lab_nodes.specs.Nodes.{Holds, HoldsAt, IsOpen, IsOutAs, OnlyOwnOut, has_replica, replica_in}
use Rattle.lab_nodes.specs.Spots.{GoesHome, HaltsSpot, KeepsLayout, RestStays, Spot, WentHome, is_meant, node_at, slot_at, spot_at}
use Rattle.lab_nodes.specs.Starting.{FirstChange, HaltsSlot}
use Rattle.lab_nodes.proofs.Placing.{slot_here, slot_out, view, view_here, where_is}
use Rattle.lab_nodes.proofs.Packing.{PlacesHaveLayouts}
use Rattle.lab_nodes.proofs.Sending.{same_spot}
use Rattle.lab_nodes.proofs.Walking.{slot_past}

and_true : (b : Bool) → (b && true) ≡ b
and_true true = refl
and_true false = refl

-- a slot that is closed
module _ {D : Type 0} where
  pub halts_none : (meant : Bool) (old new : Option (ReplicaState D)) → old ≡ None → new ≡ None → HaltsSlot meant old new
  halts_none false old new was is = is ∙ sym was
  halts_none true old new was is = is

  pub halts_some : (meant : Bool) (old new : Option (ReplicaState D)) → HaltsSlot meant old new → IsSome new → IsSome old
  halts_some false old new same some = subst (λ (s : Option (ReplicaState D)). IsSome s) same some
  halts_some true old new none some = absurd (let no : is_some new ≡ false = ap is_some none in cc)

  pub halts_up : (meant : Bool) (old new : Option (ReplicaState D)) → HaltsSlot meant old new → is_some new ≡ (is_some old && not meant)
  halts_up false old new same = ap is_some same ∙ sym (and_true (is_some old))
  halts_up true old new none = ap is_some none ∙ sym (and_right (is_some old) false refl)

module _ {D : Type 0} (tells : Type 0) (content : D → Content) (size : D → ℕ) (stops : Bool) where
  -- a spot without a replica that stays is closed
  pub halts_same : (meant : Bool) (old new : Spot D) → old.slot ≡ None → new ≡ old → HaltsSpot tells content size meant stops old new
  halts_same false old new none same = same
  halts_same true old new none same = subst (λ (s : Option (ReplicaState D)). GoesHome tells content size stops s old new) (sym none) same

  pub halts_keeps : (settings : LogSettings) (meant : Bool) (old new : Spot D) → HaltsSpot tells content size meant stops old new → tells
      → (cells : BlobId → Cell) (doubt : Option Change) → HoldsPlace content settings old.slot old.home cells doubt → HoldsPlace content settings new.slot new.home cells doubt
  halts_keeps settings false old new same t cells doubt holds = subst (λ (s : Spot D). HoldsPlace content settings s.slot s.home cells doubt) (sym same) holds
  halts_keeps settings true old new goes t cells doubt holds = go old.slot goes
    where
      go : (s : Option (ReplicaState D)) → GoesHome tells content size stops s old new → HoldsPlace content settings new.slot new.home cells doubt
      go None same = subst (λ (s : Spot D). HoldsPlace content settings s.slot s.home cells doubt) (sym same) holds
      go (Some replica) went = (went.1 t settings).0 cells doubt holds

  pub halts_keeps_layout : (settings : LogSettings) (meant : Bool) (old new : Spot D) → HaltsSpot tells content size meant stops old new → tells → KeepsLayout tells content size settings old new
  halts_keeps_layout settings false old new same t layout laid = subst (λ (s : Spot D). PlaceHasLayout content settings s.slot s.home layout) (sym same) laid
  halts_keeps_layout settings true old new goes t layout laid = go old.slot goes
    where
      go : (s : Option (ReplicaState D)) → GoesHome tells content size stops s old new → PlaceHasLayout content settings new.slot new.home layout
      go None same = subst (λ (s : Spot D). PlaceHasLayout content settings s.slot s.home layout) (sym same) laid
      go (Some replica) went = (went.1 t settings).1 layout laid

  -- a replica that was open went home
  pub halts_went : (replica : ReplicaState D) (meant : Bool) (old new : Spot D) → HaltsSpot tells content size meant stops old new → meant ≡ true → old.slot ≡ Some replica → WentHome tells content size stops replica new
  halts_went replica false old new same is stood = absurd (cc is)
  halts_went replica true old new goes is stood = (subst (λ (s : Option (ReplicaState D)). GoesHome tells content size stops s old new) stood goes).0

  -- where a replica is open still, nothing was done
  pub halts_open : (meant : Bool) (old new : Spot D) → HaltsSpot tells content size meant stops old new → IsSome new.slot → new ≡ old
  halts_open false old new same some = same
  halts_open true old new goes some = go old.slot goes
    where
      go : (s : Option (ReplicaState D)) → GoesHome tells content size stops s old new → new ≡ old
      go None same = same
      go (Some replica) went = absurd (let no : is_some new.slot ≡ false = ap (λ (s : Spot D). is_some s.slot) went.0.is in cc)

  pub halts_out : (folder : List ℕ) (before : Option (List ℕ)) (meant : Bool) (old new : Spot D) → HaltsSpot tells content size meant stops old new → IsOutAs (is_some old.slot) folder before old.out → IsOutAs (is_some new.slot) folder before new.out
  halts_out folder before false old new same holds = subst (λ (s : Spot D). IsOutAs (is_some s.slot) folder before s.out) (sym same) holds
  halts_out folder before true old new goes holds = go old.slot refl goes
    where
      go : (s : Option (ReplicaState D)) → old.slot ≡ s → GoesHome tells content size stops s old new → IsOutAs (is_some new.slot) folder before new.out
      go None is same = subst (λ (s : Spot D). IsOutAs (is_some s.slot) folder before s.out) (sym same) holds
      go (Some replica) is went =
          let was = subst (λ (s : Option (ReplicaState D)). IsOutAs (is_some s) folder before old.out) is holds in
          subst (λ (s : Spot D). IsOutAs (is_some s.slot) folder before s.out) (sym went.0.is) (sym was.0)

module _ {B D : Type 0} (content : D → Content) (home : B → Home D) (shape : Shape) where
  -- the places of open nodes hold these cells
  abbrev pub PlacesHold : List ℕ → B → List (Option (ReplicaState D)) → Cells → Type 0
  PlacesHold folder bays slots cells = (n p : ℕ) → HoldsAt content home (has_replica shape n p) (settings_of shape) (replica_in (Some shape) slots n p) (home bays folder n p) (cells n p)

  -- nodes that are open for a shape and a folder hold what their places hold
  pub places_of : (folder : List ℕ) (bays : B) (slots : List (Option (ReplicaState D))) (other : Shape) (place : List ℕ) (cells : Cells)
      → Holds content home other place cells (record { shape = Some shape; folder = folder; bays = bays; slots = slots }) → PlacesHold folder bays slots cells
  places_of folder bays slots other place cells holds =
      let at : Shape → List ℕ → Type 0 = λ s f. (n p : ℕ) → HoldsAt content home (has_replica s n p) (settings_of s) (replica_in (Some shape) slots n p) (home bays f n p) (cells n p) in
      subst (λ (f : List ℕ). at shape f) (sym holds.named.1) (subst (λ (s : Shape). at s place) (sym holds.named.0) holds.places)

  -- what the places hold on, the nodes do
  pub holds_for : (folder : List ℕ) (bays new_bays : B) (slots new_slots : List (Option (ReplicaState D))) (other : Shape) (place : List ℕ) (cells new_cells : Cells)
      → (PlacesHold folder bays slots cells → PlacesHold folder new_bays new_slots new_cells)
      → Holds content home other place cells (record { shape = Some shape; folder = folder; bays = bays; slots = slots }) → Holds content home other place new_cells (record { shape = Some shape; folder = folder; bays = new_bays; slots = new_slots })
  holds_for folder bays new_bays slots new_slots other place cells new_cells keeps holds =
      let at : Shape → List ℕ → Type 0 = λ s f. (n p : ℕ) → HoldsAt content home (has_replica s n p) (settings_of s) (replica_in (Some shape) new_slots n p) (home new_bays f n p) (new_cells n p) in
      record {
        named = holds.named;
        places = subst (λ (s : Shape). at s place) holds.named.0 (subst (λ (f : List ℕ). at shape f) holds.named.1 (keeps (places_of folder bays slots other place cells holds)));
      }

module _ {B D : Type 0} (bays_tell tells : Type 0) (content : D → Content) (size : D → ℕ) (home : B → Home D) (out : B → Out) (known : tells → bays_tell) (which : Which) (stops : Bool) (shape : Shape) (folder : List ℕ) (bays new_bays : B) (slots new_slots : List (Option (ReplicaState D)))
    (it : IsOpen bays_tell tells content home out shape folder bays slots)
    (long : length new_slots ≡ length slots)
    (halts : (k : ℕ) → k < length slots → HaltsSlot (is_meant which (node_at shape.partitions k)) (slot_at slots k) (slot_at new_slots k))
    (spots : bays_tell → FirstChange (λ k. HaltsSpot tells content size (is_meant which (node_at shape.partitions k)) stops) (length slots)
    (spot_at shape.partitions folder slots (home bays) (out bays)) (spot_at shape.partitions folder new_slots (home new_bays) (out new_bays)))
    (rest : bays_tell → RestStays shape.partitions folder (home bays) (out bays) (home new_bays) (out new_bays)) where
  each_slot : (k : ℕ) → HaltsSlot (is_meant which (node_at shape.partitions k)) (slot_at slots k) (slot_at new_slots k)
  each_slot k = elim (cases_lt k (length slots)) [
    | inl less ↦ halts k less
    | inr past ↦ halts_none (is_meant which (node_at shape.partitions k)) (slot_at slots k) (slot_at new_slots k) (slot_past slots k past) (slot_past new_slots k (omega (arith, past, long)))
  ]

  each_spot : bays_tell → (k : ℕ) → HaltsSpot tells content size (is_meant which (node_at shape.partitions k)) stops (spot_at shape.partitions folder slots (home bays) (out bays) k) (spot_at shape.partitions folder new_slots (home new_bays) (out new_bays) k)
  each_spot t k = elim (cases_lt k (length slots)) [
    | inl less ↦ (spots t k).0 less
    | inr past ↦ halts_same tells content size stops (is_meant which (node_at shape.partitions k)) (spot_at shape.partitions folder slots (home bays) (out bays) k) (spot_at shape.partitions folder new_slots (home new_bays) (out new_bays) k) (slot_past slots k past) ((spots t k).1 past)
  ]

  -- they are open nodes still
  pub halted_open : IsOpen bays_tell tells content home out shape folder new_bays new_slots
  halted_open = record {
    ranges = it.ranges;
    long = long ∙ it.long;
    due = λ k some. it.due k (halts_some (is_meant which (node_at shape.partitions k)) (slot_at slots k) (slot_at new_slots k) (each_slot k) some);
    outs = λ t k some.
        let same = halts_open tells content size stops (is_meant which (node_at shape.partitions k)) (spot_at shape.partitions folder slots (home bays) (out bays) k) (spot_at shape.partitions folder new_slots (home new_bays) (out new_bays) k) (each_spot t k) some in
        ap (λ (s : Spot D). s.out) same ∙ it.outs t k (subst (λ (s : Spot D). IsSome s.slot) same some);
    places = λ t k due.
        let held = it.places t k due in
        record {
          cells = held.cells;
          doubt = held.doubt;
          holds = halts_keeps tells content size stops (settings_of shape) (is_meant which (node_at shape.partitions k)) (spot_at shape.partitions folder slots (home bays) (out bays) k) (spot_at shape.partitions folder new_slots (home new_bays) (out new_bays) k) (each_spot (known t) k) t held.cells held.doubt held.holds;
        };
  }

  pub halted_slot : (n p : ℕ) → HaltsSlot (is_meant which n) (replica_in (Some shape) slots n p) (replica_in (Some shape) new_slots n p)
  halted_slot n p = elim (where_is shape n p) [
    | inl outside ↦ halts_none (is_meant which n) (replica_in (Some shape) slots n p) (replica_in (Some shape) new_slots n p) (slot_out shape slots n p outside) (slot_out shape new_slots n p outside)
    | inr inside ↦
        subst (λ (s : Option (ReplicaState D)). HaltsSlot (is_meant which n) s (replica_in (Some shape) new_slots n p)) (sym (slot_here shape slots n p inside))
        (subst (λ (s : Option (ReplicaState D)). HaltsSlot (is_meant which n) (slot_at slots inside.place) s) (sym (slot_here shape new_slots n p inside))
        (subst (λ (k : ℕ). HaltsSlot (is_meant which k) (slot_at slots inside.place) (slot_at new_slots inside.place)) inside.node (each_slot inside.place)))
  ]

  halted_spot : bays_tell → (n p : ℕ) → HaltsSpot tells content size (is_meant which n) stops (view shape slots folder (home bays) (out bays) n p) (view shape new_slots folder (home new_bays) (out new_bays) n p)
  halted_spot t n p = elim (where_is shape n p) [
    | inl outside ↦
        halts_same tells content size stops (is_meant which n) (view shape slots folder (home bays) (out bays) n p) (view shape new_slots folder (home new_bays) (out new_bays) n p) (slot_out shape slots n p outside)
        (same_spot (replica_in (Some shape) slots n p) (replica_in (Some shape) new_slots n p) (home bays folder n p) (home new_bays folder n p) (out bays n p) (out new_bays n p)
        (slot_out shape new_slots n p outside ∙ sym (slot_out shape slots n p outside)) ((rest t).homes folder n p (inr outside)) ((rest t).outs n p outside))
    | inr inside ↦
        subst (λ (s : Spot D). HaltsSpot tells content size (is_meant which n) stops s (view shape new_slots folder (home new_bays) (out new_bays) n p)) (sym (view_here shape slots folder (home bays) (out bays) n p inside))
        (subst (λ (s : Spot D). HaltsSpot tells content size (is_meant which n) stops (spot_at shape.partitions folder slots (home bays) (out bays) inside.place) s) (sym (view_here shape new_slots folder (home new_bays) (out new_bays) n p inside))
        (subst (λ (k : ℕ). HaltsSpot tells content size (is_meant which k) stops (spot_at shape.partitions folder slots (home bays) (out bays) inside.place) (spot_at shape.partitions folder new_slots (home new_bays) (out new_bays) inside.place)) inside.node (each_spot t inside.place)))
  ]

  -- what they held they hold on
  pub halted_places : tells → (cells : Cells) → PlacesHold content home shape folder bays slots cells → PlacesHold content home shape folder new_bays new_slots cells
  halted_places t cells holds n p = go (has_replica shape n p) (holds n p)
    where
      go : (due : Bool) → HoldsAt content home due (settings_of shape) (replica_in (Some shape) slots n p) (home bays folder n p) (cells n p) → HoldsAt content home due (settings_of shape) (replica_in (Some shape) new_slots n p) (home new_bays folder n p) (cells n p)
      go false none = none
      go true held = halts_keeps tells content size stops (settings_of shape) (is_meant which n) (view shape slots folder (home bays) (out bays) n p) (view shape new_slots folder (home new_bays) (out new_bays) n p) (halted_spot (known t) n p) t (cells n p) None held

  -- their layouts stay
  pub halted_layouts : tells → (layouts : Layouts) → PlacesHaveLayouts content home shape folder bays slots layouts → PlacesHaveLayouts content home shape folder new_bays new_slots layouts
  halted_layouts t layouts laid n p = go (has_replica shape n p) (laid n p)
    where
      go : (due : Bool) → HasLayoutAt content due (settings_of shape) (replica_in (Some shape) slots n p) (home bays folder n p) (layouts n p) → HasLayoutAt content due (settings_of shape) (replica_in (Some shape) new_slots n p) (home new_bays folder n p) (layouts n p)
      go false none = none
      go true here = halts_keeps_layout tells content size stops (settings_of shape) (is_meant which n) (view shape slots folder (home bays) (out bays) n p) (view shape new_slots folder (home new_bays) (out new_bays) n p) (halted_spot (known t) n p) t (layouts n p) here

  -- a replica that was open went home
  pub halted_went : bays_tell → (n p : ℕ) (replica : ReplicaState D) → is_meant which n ≡ true → replica_in (Some shape) slots n p ≡ Some replica
      → WentHome tells content size stops replica (record { slot = None; home = home new_bays folder n p; out = out new_bays n p })
  halted_went t n p replica meant stood =
      let none = subst (λ (b : Bool). HaltsSlot b (replica_in (Some shape) slots n p) (replica_in (Some shape) new_slots n p)) meant (halted_slot n p) in
      subst (λ (s : Option (ReplicaState D)). WentHome tells content size stops replica (record { slot = s; home = home new_bays folder n p; out = out new_bays n p })) none
      (halts_went tells content size stops replica (is_meant which n) (view shape slots folder (home bays) (out bays) n p) (view shape new_slots folder (home new_bays) (out new_bays) n p) (halted_spot t n p) meant stood)

  pub halted_out : bays_tell → (before : Out) → OnlyOwnOut out before (record { shape = Some shape; folder = folder; bays = bays; slots = slots }) → OnlyOwnOut out before (record { shape = Some shape; folder = folder; bays = new_bays; slots = new_slots })
  halted_out t before own n p = halts_out tells content size stops folder (before n p) (is_meant which n) (view shape slots folder (home bays) (out bays) n p) (view shape new_slots folder (home new_bays) (out new_bays) n p) (halted_spot t n p) (own n p)
