-- Nodes some of which were opened.
use Rattle.std.proofs.Common.{◌≡◌, inl, inr, ℕ, ◌*◌, ◌<◌, ◌≤◌, arith, Bool, true, false, ◌&&◌, ◌||◌, List, length, Option, Some, None, Result, Ok, Err, refl, sym, ◌∙◌, ap, subst}
use Rattle.std.specs.Prelude.{IsSome, OnErr, OnOk}
use Rattle.std.specs.Option.{is_some}
use Rattle.std.proofs.lemmas.Bool.{and_parts, and_right, cases_lt, or_right}
use Rattle.std.proofs.lemmas.Nat.{mod_below}
use Rattle.blob_id.specs.declared.id.BlobId.{BlobId}
use Rattle.cell_model.specs.declared.cell.Cell.{Cell}
use Rattle.cell_model.specs.Cells.{cell_in}
use Rattle.disk_core.specs.Content.{Content}
use Rattle.disk_core.specs.Homes.{Home, Out}
use Rattle.log_manifest.specs.declared.manifest.LogSettings.{LogSettings}
use Rattle.replica_core.specs.State.{ReplicaState}
use Rattle.world_model.specs.declared.order.Refusal.{Refusal}
use Rattle.world_model.specs.declared.shape.Shape.{Shape}
use Rattle.world_model.proofs.CellLaws.{number_true}
use Rattle.world_model.specs.Shape.{IsShape}
use Rattle.world_model.specs.World.{Cells}
use Rattle.lab_nodes.specs.declared.places.Which.{Which}
use Rattle.lab_nodes.specs.Holding.{HoldsPlace, PlaceHasLayout, settings_of, settled}
use Rattle.lab_nodes.specs.Layouts.{HasLayoutAt, Layouts}
use Rattle.lab_nodes.specs.Nodes.{HoldsAt, HoldsSome, IsOpen, IsOutAs, OnlyOwnOut, has_replica, replica_in}
use Rattle.lab_nodes.specs.Spots.{AreOut, KeepsLayout, OpensSpot, RestStays, Spot, StartsSpot, StaysClosed, is_meant, node_at, partition_at, place_of, slot_at, spot_at, stands_on}
use Rattle.lab_nodes.specs.Starting.{AreEmpty, FirstChange, IsDueAt, StartsSlot, is_due}
use Rattle.lab_nodes.proofs.Asking.{place_same}
use Rattle.lab_nodes.proofs.Halting.{PlacesHold}
use Rattle.lab_nodes.proofs.Holding.{held_up, opened_settles, settled_sure}
use Rattle.lab_nodes.proofs.Packing.{PlacesHaveLayouts, opened_log}
use Rattle.lab_nodes.proofs.Placing.{Outside, due_here, has_out, inside, slot_here, slot_out, undue_past, view, view_here, where_is}
use Rattle.lab_nodes.proofs.Refusing.{place_again, stays_same}
use Rattle.lab_nodes.proofs.Sending.{same_spot}
use Rattle.lab_nodes.proofs.Walking.{slot_past}

or_false : (b : Bool) → (b || false) ≡ b
or_false true = refl
or_false false = refl

-- what is due somewhere is due where all are meant
pub all_due : (which : Which) (shape : Shape) (k : ℕ) → is_due which shape k ≡ true → is_due Which.All shape k ≡ true
all_due which shape k due = (and_parts (is_meant which (node_at shape.partitions k)) (stands_on shape (node_at shape.partitions k) (partition_at shape.partitions k)) due).1

pub empty_slot : {D : Type 0} (which : Which) (shape : Shape) (slots : List (Option (ReplicaState D))) → AreEmpty which shape.partitions slots → (k : ℕ) → is_due which shape k ≡ true → slot_at slots k ≡ None
empty_slot which shape slots empty k due = empty k ((and_parts (is_meant which (node_at shape.partitions k)) (stands_on shape (node_at shape.partitions k) (partition_at shape.partitions k)) due).0)

module _ {D : Type 0} (settings : LogSettings) where
  starts_up : (due : Bool) (old new : Option (ReplicaState D)) → StartsSlot due settings old new → is_some new ≡ (is_some old || due)
  starts_up false old new same = ap is_some same ∙ sym (or_false (is_some old))
  starts_up true old new fresh = ap is_some fresh.is ∙ sym (or_right (is_some old) true refl)

module _ {D : Type 0} (tells : Type 0) (content : D → Content) (size : D → ℕ) (settings : LogSettings) (folder : List ℕ) where
  -- a place that was opened holds what it held
  opens_keeps : (old new : Spot D) (cells : BlobId → Cell) → tells → old.slot ≡ None → OpensSpot tells content size settings folder old new → HoldsPlace content settings old.slot old.home cells None → HoldsPlace content settings new.slot new.home cells None
  opens_keeps old new cells t none opens holds =
      let settles = opened_settles content settings tells old.home opens.replica cells None t opens.opened (subst (λ (s : Option (ReplicaState D)). HoldsPlace content settings s old.home cells None) none holds) in
      subst (λ (s : Spot D). HoldsPlace content settings s.slot s.home cells None) (sym opens.is)
      (place_same content settings (Some opens.replica) None (settled settles.0 cells None) cells (λ id. sym (settled_sure settles.0 cells id)) settles.1)

  opens_layout : (old new : Spot D) → tells → old.slot ≡ None → OpensSpot tells content size settings folder old new → KeepsLayout tells content size settings old new
  opens_layout old new t none opens layout laid =
      subst (λ (s : Spot D). PlaceHasLayout content settings s.slot s.home layout) (sym opens.is)
      (opened_log content settings tells old.home opens.replica layout t opens.opened (subst (λ (s : Option (ReplicaState D)). PlaceHasLayout content settings s old.home layout) none laid))

  opens_some : (old new : Spot D) → OpensSpot tells content size settings folder old new → HoldsSome content settings new.slot new.home
  opens_some old new opens =
      subst (λ (s : Spot D). HoldsSome content settings s.slot s.home) (sym opens.is) (record {
        cells = cell_in opens.replica.cells;
        doubt = None;
        holds = held_up content settings opens.replica (cell_in opens.replica.cells) None opens.opened.up (record { sure = refl; named = opens.opened.named; held = λ id. refl });
      })

  opens_out : (old new : Spot D) (before : Option (List ℕ)) → old.slot ≡ None → OpensSpot tells content size settings folder old new → IsOutAs (is_some old.slot) folder before old.out → IsOutAs (is_some new.slot) folder before new.out
  opens_out old new before none opens holds =
      let was : old.out ≡ before = subst (λ (s : Option (ReplicaState D)). IsOutAs (is_some s) folder before old.out) none holds in
      subst (λ (s : Spot D). IsOutAs (is_some s.slot) folder before s.out) (sym opens.is) (sym was ∙ opens.was_in, refl)

-- where nothing is due
undue_out : (which : Which) (shape : Shape) → IsShape shape → (n p : ℕ) → Outside shape n p → (is_meant which n && has_replica shape n p) ≡ false
undue_out which shape ranges n p outside = ap (λ (b : Bool). is_meant which n && b) (has_out shape n p ranges.some_nodes outside) ∙ and_right (is_meant which n) false refl

module _ {D : Type 0} (which : Which) (shape : Shape) (slots new_slots : List (Option (ReplicaState D))) (ranges : IsShape shape) (long : length slots ≡ shape.nodes * shape.partitions) (longer : length new_slots ≡ length slots)
    (starts : (k : ℕ) → k < length slots → StartsSlot (is_due which shape k) (settings_of shape) (slot_at slots k) (slot_at new_slots k)) where
  each_slot : (k : ℕ) → StartsSlot (is_due which shape k) (settings_of shape) (slot_at slots k) (slot_at new_slots k)
  each_slot k = elim (cases_lt k (length slots)) [
    | inl less ↦ starts k less
    | inr past ↦
        subst (λ (b : Bool). StartsSlot b (settings_of shape) (slot_at slots k) (slot_at new_slots k)) (sym (undue_past which shape k ranges (omega (arith, past, long))))
        (slot_past new_slots k (omega (arith, past, longer)) ∙ sym (slot_past slots k past))
  ]

  started_slot : (n p : ℕ) → StartsSlot (is_meant which n && has_replica shape n p) (settings_of shape) (replica_in (Some shape) slots n p) (replica_in (Some shape) new_slots n p)
  started_slot n p = elim (where_is shape n p) [
    | inl outside ↦
        subst (λ (b : Bool). StartsSlot b (settings_of shape) (replica_in (Some shape) slots n p) (replica_in (Some shape) new_slots n p)) (sym (undue_out which shape ranges n p outside))
        (slot_out shape new_slots n p outside ∙ sym (slot_out shape slots n p outside))
    | inr found ↦
        subst (λ (s : Option (ReplicaState D)). StartsSlot (is_meant which n && has_replica shape n p) (settings_of shape) s (replica_in (Some shape) new_slots n p)) (sym (slot_here shape slots n p found))
        (subst (λ (s : Option (ReplicaState D)). StartsSlot (is_meant which n && has_replica shape n p) (settings_of shape) (slot_at slots found.place) s) (sym (slot_here shape new_slots n p found))
        (subst (λ (b : Bool). StartsSlot b (settings_of shape) (slot_at slots found.place) (slot_at new_slots found.place)) (due_here which shape n p found) (each_slot found.place)))
  ]

  -- which replicas are open
  pub started_up : (n p : ℕ) → is_some (replica_in (Some shape) new_slots n p) ≡ (is_some (replica_in (Some shape) slots n p) || (is_meant which n && has_replica shape n p))
  started_up n p = starts_up (settings_of shape) (is_meant which n && has_replica shape n p) (replica_in (Some shape) slots n p) (replica_in (Some shape) new_slots n p) (started_slot n p)

module _ {B D : Type 0} (bays_tell tells : Type 0) (content : D → Content) (size : D → ℕ) (home : B → Home D) (out : B → Out) (known : tells → bays_tell) (which : Which) (shape : Shape) (folder : List ℕ) (bays new_bays : B) (slots new_slots : List (Option (ReplicaState D)))
    (ranges : IsShape shape)
    (long : length slots ≡ shape.nodes * shape.partitions)
    (longer : length new_slots ≡ length slots)
    (all_in : (k : ℕ) → IsSome (slot_at slots k) → is_due Which.All shape k ≡ true)
    (outs : bays_tell → AreOut shape.partitions folder slots (out bays))
    (empty : AreEmpty which shape.partitions slots)
    (kept : tells → (k : ℕ) → is_due which shape k ≡ false → is_due Which.All shape k ≡ true → HoldsSome content (settings_of shape) (slot_at slots k) (home bays folder (node_at shape.partitions k) (partition_at shape.partitions k)))
    (starts : (k : ℕ) → k < length slots → StartsSlot (is_due which shape k) (settings_of shape) (slot_at slots k) (slot_at new_slots k))
    (spots : bays_tell → FirstChange (λ k. StartsSpot tells content size (is_due which shape k) (settings_of shape) folder) (length slots)
    (spot_at shape.partitions folder slots (home bays) (out bays)) (spot_at shape.partitions folder new_slots (home new_bays) (out new_bays)))
    (rest : bays_tell → RestStays shape.partitions folder (home bays) (out bays) (home new_bays) (out new_bays)) where
  each_spot : bays_tell → (k : ℕ) → StartsSpot tells content size (is_due which shape k) (settings_of shape) folder (spot_at shape.partitions folder slots (home bays) (out bays) k) (spot_at shape.partitions folder new_slots (home new_bays) (out new_bays) k)
  each_spot t k = elim (cases_lt k (length slots)) [
    | inl less ↦ (spots t k).0 less
    | inr past ↦
        subst (λ (b : Bool). StartsSpot tells content size b (settings_of shape) folder (spot_at shape.partitions folder slots (home bays) (out bays) k) (spot_at shape.partitions folder new_slots (home new_bays) (out new_bays) k)) (sym (undue_past which shape k ranges (omega (arith, past, long))))
        ((spots t k).1 past)
  ]

  -- the nodes are open
  pub started_open : IsOpen bays_tell tells content home out shape folder new_bays new_slots
  started_open = record {
    ranges = ranges;
    long = longer ∙ long;
    due = λ k some. in_shape k some (is_due which shape k) refl (each_slot which shape slots new_slots ranges long longer starts k);
    outs = λ t k some. is_out t k some (is_due which shape k) (each_spot t k);
    places = λ t k due. holds_some t k due (is_due which shape k) refl (each_spot (known t) k);
  }
    where
      in_shape : (k : ℕ) → IsSome (slot_at new_slots k) → (b : Bool) → is_due which shape k ≡ b → StartsSlot b (settings_of shape) (slot_at slots k) (slot_at new_slots k) → is_due Which.All shape k ≡ true
      in_shape k some true due fresh = all_due which shape k due
      in_shape k some false due same = all_in k (subst (λ (s : Option (ReplicaState D)). IsSome s) same some)

      is_out : bays_tell → (k : ℕ) → IsSome (slot_at new_slots k) → (b : Bool) → StartsSpot tells content size b (settings_of shape) folder (spot_at shape.partitions folder slots (home bays) (out bays) k) (spot_at shape.partitions folder new_slots (home new_bays) (out new_bays) k)
          → out new_bays (node_at shape.partitions k) (partition_at shape.partitions k) ≡ Some folder
      is_out t k some true opens = ap (λ (s : Spot D). s.out) opens.is
      is_out t k some false same = ap (λ (s : Spot D). s.out) same ∙ outs t k (subst (λ (s : Spot D). IsSome s.slot) same some)

      holds_some : tells → (k : ℕ) → is_due Which.All shape k ≡ true → (b : Bool) → is_due which shape k ≡ b → StartsSpot tells content size b (settings_of shape) folder (spot_at shape.partitions folder slots (home bays) (out bays) k) (spot_at shape.partitions folder new_slots (home new_bays) (out new_bays) k)
          → HoldsSome content (settings_of shape) (slot_at new_slots k) (home new_bays folder (node_at shape.partitions k) (partition_at shape.partitions k))
      holds_some t k due true is opens = opens_some tells content size (settings_of shape) folder (spot_at shape.partitions folder slots (home bays) (out bays) k) (spot_at shape.partitions folder new_slots (home new_bays) (out new_bays) k) opens
      holds_some t k due false is same = subst (λ (s : Spot D). HoldsSome content (settings_of shape) s.slot s.home) (sym same) (kept t k is due)

  empty_here : (n p : ℕ) → is_meant which n ≡ true → replica_in (Some shape) slots n p ≡ None
  empty_here n p meant = elim (where_is shape n p) [
    | inl outside ↦ slot_out shape slots n p outside
    | inr found ↦ slot_here shape slots n p found ∙ empty found.place (subst (λ (k : ℕ). is_meant which k ≡ true) (sym found.node) meant)
  ]

  started_spot : bays_tell → (n p : ℕ) → StartsSpot tells content size (is_meant which n && has_replica shape n p) (settings_of shape) folder (view shape slots folder (home bays) (out bays) n p) (view shape new_slots folder (home new_bays) (out new_bays) n p)
  started_spot t n p = elim (where_is shape n p) [
    | inl outside ↦
        subst (λ (b : Bool). StartsSpot tells content size b (settings_of shape) folder (view shape slots folder (home bays) (out bays) n p) (view shape new_slots folder (home new_bays) (out new_bays) n p)) (sym (undue_out which shape ranges n p outside))
        (same_spot (replica_in (Some shape) slots n p) (replica_in (Some shape) new_slots n p) (home bays folder n p) (home new_bays folder n p) (out bays n p) (out new_bays n p)
        (slot_out shape new_slots n p outside ∙ sym (slot_out shape slots n p outside)) ((rest t).homes folder n p (inr outside)) ((rest t).outs n p outside))
    | inr found ↦
        subst (λ (s : Spot D). StartsSpot tells content size (is_meant which n && has_replica shape n p) (settings_of shape) folder s (view shape new_slots folder (home new_bays) (out new_bays) n p)) (sym (view_here shape slots folder (home bays) (out bays) n p found))
        (subst (λ (s : Spot D). StartsSpot tells content size (is_meant which n && has_replica shape n p) (settings_of shape) folder (spot_at shape.partitions folder slots (home bays) (out bays) found.place) s) (sym (view_here shape new_slots folder (home new_bays) (out new_bays) n p found))
        (subst (λ (b : Bool). StartsSpot tells content size b (settings_of shape) folder (spot_at shape.partitions folder slots (home bays) (out bays) found.place) (spot_at shape.partitions folder new_slots (home new_bays) (out new_bays) found.place)) (due_here which shape n p found) (each_spot t found.place)))
  ]

  -- what they held they hold on
  pub started_places : tells → (cells : Cells) → PlacesHold content home shape folder bays slots cells → PlacesHold content home shape folder new_bays new_slots cells
  started_places t cells holds n p = go (has_replica shape n p) (holds n p)
    where
      spot : (b : Bool) → (is_meant which n && has_replica shape n p) ≡ b → StartsSpot tells content size b (settings_of shape) folder (view shape slots folder (home bays) (out bays) n p) (view shape new_slots folder (home new_bays) (out new_bays) n p)
          → HoldsPlace content (settings_of shape) (replica_in (Some shape) slots n p) (home bays folder n p) (cells n p) None → HoldsPlace content (settings_of shape) (replica_in (Some shape) new_slots n p) (home new_bays folder n p) (cells n p) None
      spot false is same held = subst (λ (s : Spot D). HoldsPlace content (settings_of shape) s.slot s.home (cells n p) None) (sym same) held
      spot true is opens held = opens_keeps tells content size (settings_of shape) folder (view shape slots folder (home bays) (out bays) n p) (view shape new_slots folder (home new_bays) (out new_bays) n p) (cells n p) t (empty_here n p ((and_parts (is_meant which n) (has_replica shape n p) is).0)) opens held

      go : (due : Bool) → HoldsAt content home due (settings_of shape) (replica_in (Some shape) slots n p) (home bays folder n p) (cells n p) → HoldsAt content home due (settings_of shape) (replica_in (Some shape) new_slots n p) (home new_bays folder n p) (cells n p)
      go false none = none
      go true held = spot (is_meant which n && has_replica shape n p) refl (started_spot (known t) n p) held

  -- their layouts stay
  pub started_layouts : tells → (layouts : Layouts) → PlacesHaveLayouts content home shape folder bays slots layouts → PlacesHaveLayouts content home shape folder new_bays new_slots layouts
  started_layouts t layouts laid n p = go (has_replica shape n p) (laid n p)
    where
      spot : (b : Bool) → (is_meant which n && has_replica shape n p) ≡ b → StartsSpot tells content size b (settings_of shape) folder (view shape slots folder (home bays) (out bays) n p) (view shape new_slots folder (home new_bays) (out new_bays) n p)
          → PlaceHasLayout content (settings_of shape) (replica_in (Some shape) slots n p) (home bays folder n p) (layouts n p) → PlaceHasLayout content (settings_of shape) (replica_in (Some shape) new_slots n p) (home new_bays folder n p) (layouts n p)
      spot false is same here = subst (λ (s : Spot D). PlaceHasLayout content (settings_of shape) s.slot s.home (layouts n p)) (sym same) here
      spot true is opens here = opens_layout tells content size (settings_of shape) folder (view shape slots folder (home bays) (out bays) n p) (view shape new_slots folder (home new_bays) (out new_bays) n p) t (empty_here n p ((and_parts (is_meant which n) (has_replica shape n p) is).0)) opens (layouts n p) here

      go : (due : Bool) → HasLayoutAt content due (settings_of shape) (replica_in (Some shape) slots n p) (home bays folder n p) (layouts n p) → HasLayoutAt content due (settings_of shape) (replica_in (Some shape) new_slots n p) (home new_bays folder n p) (layouts n p)
      go false none = none
      go true here = spot (is_meant which n && has_replica shape n p) refl (started_spot (known t) n p) here

  pub started_out : bays_tell → (before : Out) → ((n p : ℕ) → IsOutAs (is_some (replica_in (Some shape) slots n p)) folder (before n p) (out bays n p)) → OnlyOwnOut out before (record { shape = Some shape; folder = folder; bays = new_bays; slots = new_slots })
  started_out t before own n p = go (is_meant which n && has_replica shape n p) refl (started_spot t n p)
    where
      go : (b : Bool) → (is_meant which n && has_replica shape n p) ≡ b → StartsSpot tells content size b (settings_of shape) folder (view shape slots folder (home bays) (out bays) n p) (view shape new_slots folder (home new_bays) (out new_bays) n p)
          → IsOutAs (is_some (replica_in (Some shape) new_slots n p)) folder (before n p) (out new_bays n p)
      go false is same = subst (λ (s : Spot D). IsOutAs (is_some s.slot) folder (before n p) s.out) (sym same) (own n p)
      go true is opens = opens_out tells content size (settings_of shape) folder (view shape slots folder (home bays) (out bays) n p) (view shape new_slots folder (home new_bays) (out new_bays) n p) (before n p) (empty_here n p ((and_parts (is_meant which n) (has_replica shape n p) is).0)) opens (own n p)

-- slots that an opening leaves that ended early
pub stopped_slot : {D : Type 0} (shape : Shape) (slots new_slots : List (Option (ReplicaState D))) → ((k : ℕ) → slot_at new_slots k ≡ slot_at slots k) → (n p : ℕ) → replica_in (Some shape) new_slots n p ≡ replica_in (Some shape) slots n p
stopped_slot shape slots new_slots closed n p = elim (where_is shape n p) [
  | inl outside ↦ slot_out shape new_slots n p outside ∙ sym (slot_out shape slots n p outside)
  | inr found ↦ slot_here shape new_slots n p found ∙ closed found.place ∙ sym (slot_here shape slots n p found)
]

pub out_as : {D : Type 0} (folder : List ℕ) (before : Option (List ℕ)) (old new : Option (ReplicaState D)) (was now : Option (List ℕ)) → new ≡ old → now ≡ was → IsOutAs (is_some old) folder before was → IsOutAs (is_some new) folder before now
out_as {D} folder before old new was now slot out own = subst (λ (s : Option (ReplicaState D)). IsOutAs (is_some s) folder before now) (sym slot) (subst (λ (o : Option (List ℕ)). IsOutAs (is_some old) folder before o) (sym out) own)

-- the places of a node that is stopped are empty
pub empty_node : {D : Type 0} (shape : Shape) (slots : List (Option (ReplicaState D))) (node : ℕ) → 1 ≤ shape.partitions → ((p : ℕ) → is_some (replica_in (Some shape) slots node p) ≡ false) → AreEmpty (Which.Node node) shape.partitions slots
empty_node {D} shape slots node some none k meant =
    let n = node_at shape.partitions k in
    let p = partition_at shape.partitions k in
    let is : n ≡ node = number_true n node meant in
    let at = inside shape n p (omega arith) (mod_below k shape.partitions (omega (arith, some))) in
    let same : at.place ≡ k = at.is ∙ place_again shape.partitions k in
    let shut : is_some (slot_at slots k) ≡ false =
    ap (λ (i : ℕ). is_some (slot_at slots i)) (sym same) ∙ ap is_some (sym (slot_here shape slots n p at)) ∙ ap (λ (i : ℕ). is_some (replica_in (Some shape) slots i p)) is ∙ none p in
    nothing (slot_at slots k) shut
  where
    nothing : (o : Option (ReplicaState D)) → is_some o ≡ false → o ≡ None
    nothing None shut = refl
    nothing (Some replica) shut = absurd (cc shut)

-- a refusal of a node's opening names that node
pub refused_node : (shape : Shape) (node : ℕ) (refusal : Refusal) → IsDueAt (Which.Node node) shape refusal → refusal.node ≡ node
refused_node shape node refusal due =
    let at = inside shape refusal.node refusal.partition due.node due.partition in
    let place = place_of shape.partitions refusal.node refusal.partition in
    let meant = (and_parts (is_meant (Which.Node node) (node_at shape.partitions place)) (stands_on shape (node_at shape.partitions place) (partition_at shape.partitions place)) due.due).0 in
    sym at.node ∙ ap (λ (k : ℕ). node_at shape.partitions k) at.is ∙ number_true (node_at shape.partitions place) node meant

-- what follows where it ended well and where it didn't
pub either_way : {T E : Type 0} (result : Result T E) (A C F H P : Type 0) → OnOk result A → OnOk result C → OnErr result F → OnErr result H → (A → C → P) → (F → H → P) → P
either_way (Ok value) A C F H P a c f h well badly = well a c
either_way (Err fault) A C F H P a c f h well badly = badly f h

-- nodes as an opening leaves them that ended early
module _ {B D : Type 0} (bays_tell tells : Type 0) (content : D → Content) (size : D → ℕ) (home : B → Home D) (out : B → Out) (known : tells → bays_tell) (shape : Shape) (folder : List ℕ) (bays new_bays : B) (slots new_slots : List (Option (ReplicaState D)))
    (closed : (k : ℕ) → slot_at new_slots k ≡ slot_at slots k)
    (closed_spots : bays_tell → (k : ℕ) → StaysClosed tells content size (settings_of shape) (spot_at shape.partitions folder slots (home bays) (out bays) k) (spot_at shape.partitions folder new_slots (home new_bays) (out new_bays) k))
    (rest : bays_tell → RestStays shape.partitions folder (home bays) (out bays) (home new_bays) (out new_bays)) where
  pub stopped_open : IsOpen bays_tell tells content home out shape folder bays slots → length new_slots ≡ length slots → IsOpen bays_tell tells content home out shape folder new_bays new_slots
  stopped_open it long = record {
    ranges = it.ranges;
    long = long ∙ it.long;
    due = λ k some. it.due k (subst (λ (s : Option (ReplicaState D)). IsSome s) (closed k) some);
    outs = λ t k some. (closed_spots t k).out ∙ it.outs t k (subst (λ (s : Option (ReplicaState D)). IsSome s) (closed k) some);
    places = λ t k due.
        let held = it.places t k due in
        record { cells = held.cells; doubt = held.doubt; holds = (closed_spots (known t) k).keeps t held.cells held.doubt held.holds };
  }

  stopped_spot : bays_tell → (n p : ℕ) → StaysClosed tells content size (settings_of shape) (view shape slots folder (home bays) (out bays) n p) (view shape new_slots folder (home new_bays) (out new_bays) n p)
  stopped_spot t n p = elim (where_is shape n p) [
    | inl outside ↦
        stays_same tells content size (settings_of shape) (view shape slots folder (home bays) (out bays) n p) (view shape new_slots folder (home new_bays) (out new_bays) n p)
        (same_spot (replica_in (Some shape) slots n p) (replica_in (Some shape) new_slots n p) (home bays folder n p) (home new_bays folder n p) (out bays n p) (out new_bays n p)
        (slot_out shape new_slots n p outside ∙ sym (slot_out shape slots n p outside)) ((rest t).homes folder n p (inr outside)) ((rest t).outs n p outside))
    | inr found ↦
        subst (λ (s : Spot D). StaysClosed tells content size (settings_of shape) s (view shape new_slots folder (home new_bays) (out new_bays) n p)) (sym (view_here shape slots folder (home bays) (out bays) n p found))
        (subst (λ (s : Spot D). StaysClosed tells content size (settings_of shape) (spot_at shape.partitions folder slots (home bays) (out bays) found.place) s) (sym (view_here shape new_slots folder (home new_bays) (out new_bays) n p found))
        (closed_spots t found.place))
  ]

  pub stopped_places : tells → (cells : Cells) → PlacesHold content home shape folder bays slots cells → PlacesHold content home shape folder new_bays new_slots cells
  stopped_places t cells holds n p = go (has_replica shape n p) (holds n p)
    where
      go : (due : Bool) → HoldsAt content home due (settings_of shape) (replica_in (Some shape) slots n p) (home bays folder n p) (cells n p) → HoldsAt content home due (settings_of shape) (replica_in (Some shape) new_slots n p) (home new_bays folder n p) (cells n p)
      go false none = none
      go true held = (stopped_spot (known t) n p).keeps t (cells n p) None held

  pub stopped_layouts : tells → (layouts : Layouts) → PlacesHaveLayouts content home shape folder bays slots layouts → PlacesHaveLayouts content home shape folder new_bays new_slots layouts
  stopped_layouts t layouts laid n p = go (has_replica shape n p) (laid n p)
    where
      go : (due : Bool) → HasLayoutAt content due (settings_of shape) (replica_in (Some shape) slots n p) (home bays folder n p) (layouts n p) → HasLayoutAt content due (settings_of shape) (replica_in (Some shape) new_slots n p) (home new_bays folder n p) (layouts n p)
      go false none = none
      go true here = (stopped_spot (known t) n p).layout t (layouts n p) here

  pub stopped_outs : bays_tell → (n p : ℕ) → out new_bays n p ≡ out bays n p
  stopped_outs t n p = (stopped_spot t n p).out
