-- Nodes one of whose places was asked.
use Rattle.std.proofs.Common.{◌≡◌, ◌≢◌, ◌⊎◌, inl, inr, ⊎_elim, ℕ, ◌<◌, ◌≤◌, Bool, true, false, ◌&&◌, ◌==◌, cond, List, length, length-set, slice_set, Option, Some, refl, sym, ◌∙◌, ap, subst}
use Rattle.std.specs.Prelude.{IsSome}
use Rattle.std.specs.Option.{is_some}
use Rattle.std.proofs.lemmas.Bool.{cases_eq}
use Rattle.blob_id.specs.declared.id.BlobId.{BlobId}
use Rattle.cell_model.specs.declared.ask.Ask.{Ask}
use Rattle.cell_model.specs.declared.ask.Reply.{Reply}
use Rattle.cell_model.specs.declared.cell.Cell.{Cell}
use Rattle.cell_model.specs.declared.cell.Cell.TheVariants.{Absent}
use Rattle.cell_model.specs.Asks.{Answers, IsRefusal, id_of, landed}
use Rattle.cell_model.specs.Cells.{join}
use Rattle.cell_model.specs.Pages.{PagesCells}
use Rattle.disk_core.specs.Content.{Content}
use Rattle.disk_core.specs.Homes.{Home, Out}
use Rattle.log_manifest.specs.declared.manifest.LogSettings.{LogSettings}
use Rattle.part_log.specs.Layout.{Layout}
use Rattle.replica_core.specs.State.{IsPacked, ReplicaState, packed_by}
use Rattle.replica_core.proofs.Maps.{join_absent}
use Rattle.world_model.specs.declared.shape.Shape.{Shape}
use Rattle.world_model.specs.World.{Cells, same_id}
use Rattle.world_model.proofs.CellLaws.{number_true, same_number}
use Rattle.lab_nodes.specs.declared.places.Which.{Which}
use Rattle.lab_nodes.specs.Holding.{PlaceHasLayout, settings_of}
use Rattle.lab_nodes.specs.Layouts.{HasLayoutAt, HaveLayouts, Layouts, asked_layouts}
use Rattle.lab_nodes.specs.Nodes.{AsksReplica, Holds, HoldsAt, HoldsSome, IsOpen, NodesState, asked_cells, has_replica, replica_in}
use Rattle.lab_nodes.specs.Spots.{node_at, partition_at, place_of, slot_at}
use Rattle.lab_nodes.specs.Starting.{is_due}
use Rattle.lab_nodes.proofs.Asking.{absent_either, asks_answered, asks_holds, asks_layout, asks_none, asks_packed, asks_pages, asks_some_held, asks_up, landed_cells, place_same}
use Rattle.lab_nodes.proofs.Halting.{PlacesHold}
use Rattle.lab_nodes.proofs.Packing.{PlacesHaveLayouts}
use Rattle.lab_nodes.proofs.Placing.{Inside, has_here, inside, slot_here, slot_out, where_is}
use Rattle.lab_nodes.proofs.Walking.{slot_set, slot_set_other}

-- another node or another partition
same_or_apart : (n p node partition : ℕ) → ((n ≡ node) × (p ≡ partition)) ⊎ ((n ≢ node) ⊎ (p ≢ partition))
same_or_apart n p node partition = elim (cases_eq n node) [
  | inr other ↦ inr (inl other)
  | inl one ↦ elim (cases_eq p partition) [
    | inl two ↦ inl (one, two)
    | inr other ↦ inr (inr other)
  ]
]

-- nothing comes to another place
asked_apart : (cells : Cells) (node partition : ℕ) (ask : Ask) (reply : Reply) (n p : ℕ) (id : BlobId) → (n ≢ node) ⊎ (p ≢ partition) → asked_cells cells node partition ask reply n p id ≡ cells n p id
asked_apart cells node partition ask reply n p id apart =
    ap (λ (b : Bool). join (cells n p id) (cond b (landed ask reply) Absent)) (go (n == node) refl (p == partition) refl) ∙ join_absent (cells n p id)
  where
    go : (a : Bool) → (n == node) ≡ a → (b : Bool) → (p == partition) ≡ b → ((n == node) && (p == partition) && same_id id (id_of ask)) ≡ false
    go false one b two = ap (λ (a : Bool). a && (p == partition) && same_id id (id_of ask)) one
    go true one false two = ap (λ (a : Bool). a && (p == partition) && same_id id (id_of ask)) one ∙ ap (λ (b : Bool). b && same_id id (id_of ask)) two
    go true one true two = absurd (⊎_elim (λ (other : n ≢ node). other (number_true n node one)) (λ (other : p ≢ partition). other (number_true p partition two)) apart)

asked_here : (cells : Cells) (node partition : ℕ) (ask : Ask) (reply : Reply) (id : BlobId) → asked_cells cells node partition ask reply node partition id ≡ landed_cells (cells node partition) ask reply id
asked_here cells node partition ask reply id =
    ap (λ (b : Bool). join (cells node partition id) (cond b (landed ask reply) Absent))
    (ap (λ (a : Bool). a && (partition == partition) && same_id id (id_of ask)) (same_number node) ∙ ap (λ (b : Bool). b && same_id id (id_of ask)) (same_number partition))

-- where no replica is asked nothing comes
pub asked_none : (cells : Cells) (node partition : ℕ) (ask : Ask) (n p : ℕ) (id : BlobId) → asked_cells cells node partition ask Reply.NoPartition n p id ≡ cells n p id
asked_none cells node partition ask n p id =
    ap (λ (c : Cell). join (cells n p id) c) (absent_either ((n == node) && (p == partition) && same_id id (id_of ask))) ∙ join_absent (cells n p id)

-- the layout of another place stays
layout_apart : (settings : LogSettings) (cells : Cells) (layouts : Layouts) (node partition : ℕ) (ask : Ask) (reply : Reply) (n p : ℕ) → (n ≢ node) ⊎ (p ≢ partition) → asked_layouts settings cells layouts node partition ask reply n p ≡ layouts n p
layout_apart settings cells layouts node partition ask reply n p apart =
    ap (λ (b : Bool). cond b (packed_by settings (layouts n p) (cells n p (id_of ask)) ask reply) (layouts n p)) (go (n == node) refl (p == partition) refl)
  where
    go : (a : Bool) → (n == node) ≡ a → (b : Bool) → (p == partition) ≡ b → ((n == node) && (p == partition)) ≡ false
    go false one b two = ap (λ (a : Bool). a && (p == partition)) one
    go true one false two = ap (λ (a : Bool). a && (p == partition)) one ∙ two
    go true one true two = absurd (⊎_elim (λ (other : n ≢ node). other (number_true n node one)) (λ (other : p ≢ partition). other (number_true p partition two)) apart)

layout_here : (settings : LogSettings) (cells : Cells) (layouts : Layouts) (node partition : ℕ) (ask : Ask) (reply : Reply) → asked_layouts settings cells layouts node partition ask reply node partition ≡ packed_by settings (layouts node partition) (cells node partition (id_of ask)) ask reply
layout_here settings cells layouts node partition ask reply =
    ap (λ (b : Bool). cond b (packed_by settings (layouts node partition) (cells node partition (id_of ask)) ask reply) (layouts node partition)) (ap (λ (a : Bool). a && (partition == partition)) (same_number node) ∙ same_number partition)

-- where no replica is asked nothing is packed
layout_none : (settings : LogSettings) (cells : Cells) (layouts : Layouts) (node partition : ℕ) (ask : Ask) (n p : ℕ) → asked_layouts settings cells layouts node partition ask Reply.NoPartition n p ≡ layouts n p
layout_none settings cells layouts node partition ask n p = go ((n == node) && (p == partition))
  where
    go : (b : Bool) → cond b (layouts n p) (layouts n p) ≡ layouts n p
    go true = refl
    go false = refl

module _ {B D : Type 0} (content : D → Content) (home : B → Home D) (shape : Shape) where
  -- the cells of a node and a partition under another name
  pub at_same : (due : Bool) (slot : Option (ReplicaState D)) (kept : Option D) (f h : BlobId → Cell) → ((id : BlobId) → h id ≡ f id) → HoldsAt content home due (settings_of shape) slot kept f → HoldsAt content home due (settings_of shape) slot kept h
  at_same false slot kept f h same none = λ id. same id ∙ none id
  at_same true slot kept f h same holds = place_same content (settings_of shape) slot kept f h same holds

-- nodes of which none was asked
pub unasked_holds : {B D : Type 0} (content : D → Content) (home : B → Home D) (shape : Shape) (folder : List ℕ) (cells : Cells) (node partition : ℕ) (ask : Ask) (nodes : NodesState B D) → Holds content home shape folder cells nodes
    → Holds content home shape folder (asked_cells cells node partition ask Reply.NoPartition) nodes
unasked_holds content home shape folder cells node partition ask nodes holds = record {
  named = holds.named;
  places = λ n p. at_same content home shape (has_replica shape n p) (replica_in nodes.shape nodes.slots n p) (home nodes.bays folder n p) (cells n p) (asked_cells cells node partition ask Reply.NoPartition n p) (λ id. asked_none cells node partition ask n p id) (holds.places n p);
}

pub unasked_layouts : {B D : Type 0} (content : D → Content) (home : B → Home D) (shape : Shape) (folder : List ℕ) (cells : Cells) (layouts : Layouts) (node partition : ℕ) (ask : Ask) (nodes : NodesState B D) → HaveLayouts content home shape folder layouts nodes
    → HaveLayouts content home shape folder (asked_layouts (settings_of shape) cells layouts node partition ask Reply.NoPartition) nodes
unasked_layouts content home shape folder cells layouts node partition ask nodes have = record {
  named = have.named;
  places = λ n p. subst (λ (l : Layout). HasLayoutAt content (has_replica shape n p) (settings_of shape) (replica_in nodes.shape nodes.slots n p) (home nodes.bays folder n p) l) (sym (layout_none (settings_of shape) cells layouts node partition ask n p)) (have.places n p);
}

module _ {B D : Type 0} (bays_tell tells : Type 0) (content : D → Content) (size faults : D → ℕ) (home : B → Home D) (out : B → Out) (shape : Shape) (folder : List ℕ) (bays : B) (slots : List (Option (ReplicaState D))) (node partition place : ℕ) (x : Option (ReplicaState D)) (ask : Ask) (reply : Reply)
    (it : IsOpen bays_tell tells content home out shape folder bays slots)
    (row : 1 ≤ node) (column : partition < shape.partitions) (is : place ≡ place_of shape.partitions node partition) (within : place < length slots)
    (asked : AsksReplica tells content size faults (slot_at slots place) ask reply x) where
  here : Inside shape node partition
  here = inside shape node partition row column

  same_place : here.place ≡ place
  same_place = here.is ∙ sym is

  -- the slot that is asked, and the others
  pub old_here : replica_in (Some shape) slots node partition ≡ slot_at slots place
  old_here = slot_here shape slots node partition here ∙ ap (λ (k : ℕ). slot_at slots k) same_place

  pub new_here : replica_in (Some shape) (slice_set slots place x) node partition ≡ x
  new_here = slot_here shape (slice_set slots place x) node partition here ∙ ap (λ (k : ℕ). slot_at (slice_set slots place x) k) same_place ∙ slot_set slots place x within

  pub asked_state : AsksReplica tells content size faults (replica_in (Some shape) slots node partition) ask reply (replica_in (Some shape) (slice_set slots place x) node partition)
  asked_state =
      subst (λ (s : Option (ReplicaState D)). AsksReplica tells content size faults s ask reply (replica_in (Some shape) (slice_set slots place x) node partition)) (sym old_here)
      (subst (λ (s : Option (ReplicaState D)). AsksReplica tells content size faults (slot_at slots place) ask reply s) (sym new_here) asked)

  pub asked_others : (n p : ℕ) → (n ≢ node) ⊎ (p ≢ partition) → replica_in (Some shape) (slice_set slots place x) n p ≡ replica_in (Some shape) slots n p
  asked_others n p apart = elim (where_is shape n p) [
    | inl outside ↦ slot_out shape (slice_set slots place x) n p outside ∙ sym (slot_out shape slots n p outside)
    | inr found ↦
        let other : found.place ≢ place = λ same. ⊎_elim
        (λ (o : n ≢ node). o (sym found.node ∙ ap (λ (k : ℕ). node_at shape.partitions k) (same ∙ sym same_place) ∙ here.node))
        (λ (o : p ≢ partition). o (sym found.column ∙ ap (λ (k : ℕ). partition_at shape.partitions k) (same ∙ sym same_place) ∙ here.column)) apart in
        slot_here shape (slice_set slots place x) n p found ∙ slot_set_other slots place found.place x other ∙ sym (slot_here shape slots n p found)
  ]

  pub asked_up : (n p : ℕ) → is_some (replica_in (Some shape) (slice_set slots place x) n p) ≡ is_some (replica_in (Some shape) slots n p)
  asked_up n p = elim (same_or_apart n p node partition) [
    | inl same ↦
        subst (λ (k : ℕ). is_some (replica_in (Some shape) (slice_set slots place x) k p) ≡ is_some (replica_in (Some shape) slots k p)) (sym same.0)
        (subst (λ (q : ℕ). is_some (replica_in (Some shape) (slice_set slots place x) node q) ≡ is_some (replica_in (Some shape) slots node q)) (sym same.1)
        (asks_up tells content size faults ask reply (replica_in (Some shape) slots node partition) (replica_in (Some shape) (slice_set slots place x) node partition) asked_state))
    | inr apart ↦ ap is_some (asked_others n p apart)
  ]

  -- a place is the one that is asked, or its slot stays
  each_place : (P : Option (ReplicaState D) → ℕ → Type 0) → P x place → ((k : ℕ) → P (slot_at slots k) k) → (k : ℕ) → P (slot_at (slice_set slots place x) k) k
  each_place P one others k = elim (cases_eq k place) [
    | inl same ↦ subst (λ (i : ℕ). P (slot_at (slice_set slots place x) i) i) (sym same) (subst (λ (s : Option (ReplicaState D)). P s place) (sym (slot_set slots place x within)) one)
    | inr other ↦ subst (λ (s : Option (ReplicaState D)). P s k) (sym (slot_set_other slots place k x other)) (others k)
  ]

  was_some : IsSome x → IsSome (slot_at slots place)
  was_some some = sym (asks_up tells content size faults ask reply (slot_at slots place) x asked) ∙ some

  -- they are open nodes still
  pub asked_open : IsOpen bays_tell tells content home out shape folder bays (slice_set slots place x)
  asked_open = record {
    ranges = it.ranges;
    long = length-set slots place x ∙ it.long;
    due = each_place (λ s k. IsSome s → is_due Which.All shape k ≡ true) (λ some. it.due place (was_some some)) it.due;
    outs = λ t. each_place (λ s k. IsSome s → out bays (node_at shape.partitions k) (partition_at shape.partitions k) ≡ Some folder) (λ some. it.outs t place (was_some some)) (it.outs t);
    places = λ t. each_place (λ s k. is_due Which.All shape k ≡ true → HoldsSome content (settings_of shape) s (home bays folder (node_at shape.partitions k) (partition_at shape.partitions k)))
        (λ due. asks_some_held tells content size faults ask reply (settings_of shape) (slot_at slots place) x (home bays folder (node_at shape.partitions place) (partition_at shape.partitions place)) asked t (it.places t place due)) (it.places t);
  }

  -- where a replica is open the shape has one
  due_up : is_some (replica_in (Some shape) slots node partition) ≡ true → has_replica shape node partition ≡ true
  due_up some = sym (has_here shape node partition here) ∙ it.due here.place (subst (λ (s : Option (ReplicaState D)). IsSome s) (slot_here shape slots node partition here) some)

  pub asked_answered : tells → (cells : Cells) → PlacesHold content home shape folder bays slots cells → is_some (replica_in (Some shape) slots node partition) ≡ true → Answers (cells node partition (id_of ask)) ask reply ⊎ IsRefusal ask reply
  asked_answered t cells holds some =
      asks_answered tells content size faults ask reply (settings_of shape) (replica_in (Some shape) slots node partition) (replica_in (Some shape) (slice_set slots place x) node partition) (home bays folder node partition) (cells node partition) asked_state t some
      (subst (λ (b : Bool). HoldsAt content home b (settings_of shape) (replica_in (Some shape) slots node partition) (home bays folder node partition) (cells node partition)) (due_up some) (holds node partition))

  pub asked_pages : tells → (cells : Cells) → PlacesHold content home shape folder bays slots cells → PagesCells (cells node partition) reply
  asked_pages t cells holds =
      asks_pages tells content size faults ask reply (settings_of shape) (replica_in (Some shape) slots node partition) (replica_in (Some shape) (slice_set slots place x) node partition) (home bays folder node partition) (cells node partition) asked_state t
      (λ some. subst (λ (b : Bool). HoldsAt content home b (settings_of shape) (replica_in (Some shape) slots node partition) (home bays folder node partition) (cells node partition)) (due_up some) (holds node partition))

  holds_here : tells → reply ≢ Reply.Fault → (cells : Cells) → PlacesHold content home shape folder bays slots cells
      → HoldsAt content home (has_replica shape node partition) (settings_of shape) (replica_in (Some shape) (slice_set slots place x) node partition) (home bays folder node partition) (asked_cells cells node partition ask reply node partition)
  holds_here t calm cells holds = go (has_replica shape node partition) refl (holds node partition)
    where
      go : (due : Bool) → has_replica shape node partition ≡ due → HoldsAt content home due (settings_of shape) (replica_in (Some shape) slots node partition) (home bays folder node partition) (cells node partition)
          → HoldsAt content home due (settings_of shape) (replica_in (Some shape) (slice_set slots place x) node partition) (home bays folder node partition) (asked_cells cells node partition ask reply node partition)
      go true due held =
          at_same content home shape true (replica_in (Some shape) (slice_set slots place x) node partition) (home bays folder node partition) (landed_cells (cells node partition) ask reply) (asked_cells cells node partition ask reply node partition)
          (λ id. asked_here cells node partition ask reply id)
          (asks_holds tells content size faults ask reply (settings_of shape) (replica_in (Some shape) slots node partition) (replica_in (Some shape) (slice_set slots place x) node partition) (home bays folder node partition) (cells node partition) asked_state t calm held)
      go false undue none = closed (is_some (replica_in (Some shape) slots node partition)) refl
        where
          closed : (b : Bool) → is_some (replica_in (Some shape) slots node partition) ≡ b → (id : BlobId) → asked_cells cells node partition ask reply node partition id ≡ Absent
          closed true some id = absurd (let due = due_up some in cc)
          closed false shut id =
              let said : reply ≡ Reply.NoPartition = asks_none tells content size faults ask reply (replica_in (Some shape) slots node partition) (replica_in (Some shape) (slice_set slots place x) node partition) asked_state shut in
              ap (λ (r : Reply). asked_cells cells node partition ask r node partition id) said ∙ asked_none cells node partition ask node partition id ∙ none id

  -- what was joined is held
  pub asked_holds : tells → reply ≢ Reply.Fault → (cells : Cells) → PlacesHold content home shape folder bays slots cells → PlacesHold content home shape folder bays (slice_set slots place x) (asked_cells cells node partition ask reply)
  asked_holds t calm cells holds n p = elim (same_or_apart n p node partition) [
    | inl same ↦
        let at : ℕ → ℕ → Type 0 = λ k q. HoldsAt content home (has_replica shape k q) (settings_of shape) (replica_in (Some shape) (slice_set slots place x) k q) (home bays folder k q) (asked_cells cells node partition ask reply k q) in
        subst (λ (k : ℕ). at k p) (sym same.0) (subst (λ (q : ℕ). at node q) (sym same.1) (holds_here t calm cells holds))
    | inr apart ↦
        subst (λ (s : Option (ReplicaState D)). HoldsAt content home (has_replica shape n p) (settings_of shape) s (home bays folder n p) (asked_cells cells node partition ask reply n p)) (sym (asked_others n p apart))
        (at_same content home shape (has_replica shape n p) (replica_in (Some shape) slots n p) (home bays folder n p) (cells n p) (asked_cells cells node partition ask reply n p) (λ id. asked_apart cells node partition ask reply n p id apart) (holds n p))
  ]

  -- it is full exactly where its record has no place
  pub asked_is_packed : tells → (cells : Cells) (layouts : Layouts) → PlacesHold content home shape folder bays slots cells → PlacesHaveLayouts content home shape folder bays slots layouts → is_some (replica_in (Some shape) slots node partition) ≡ true
      → IsPacked (settings_of shape) (layouts node partition) (cells node partition (id_of ask)) ask reply
  asked_is_packed t cells layouts holds laid some =
      asks_packed tells content size faults ask reply (settings_of shape) (replica_in (Some shape) slots node partition) (replica_in (Some shape) (slice_set slots place x) node partition) (home bays folder node partition) (cells node partition) (layouts node partition) asked_state t some
      (subst (λ (b : Bool). HoldsAt content home b (settings_of shape) (replica_in (Some shape) slots node partition) (home bays folder node partition) (cells node partition)) (due_up some) (holds node partition))
      (subst (λ (b : Bool). HasLayoutAt content b (settings_of shape) (replica_in (Some shape) slots node partition) (home bays folder node partition) (layouts node partition)) (due_up some) (laid node partition))

  laid_here : tells → reply ≢ Reply.Fault → (cells : Cells) (layouts : Layouts) → PlacesHold content home shape folder bays slots cells → PlacesHaveLayouts content home shape folder bays slots layouts
      → HasLayoutAt content (has_replica shape node partition) (settings_of shape) (replica_in (Some shape) (slice_set slots place x) node partition) (home bays folder node partition) (asked_layouts (settings_of shape) cells layouts node partition ask reply node partition)
  laid_here t calm cells layouts holds laid = go (has_replica shape node partition) (holds node partition) (laid node partition)
    where
      go : (due : Bool) → HoldsAt content home due (settings_of shape) (replica_in (Some shape) slots node partition) (home bays folder node partition) (cells node partition) → HasLayoutAt content due (settings_of shape) (replica_in (Some shape) slots node partition) (home bays folder node partition) (layouts node partition)
          → HasLayoutAt content due (settings_of shape) (replica_in (Some shape) (slice_set slots place x) node partition) (home bays folder node partition) (asked_layouts (settings_of shape) cells layouts node partition ask reply node partition)
      go false held laid = tt
      go true held laid =
          subst (λ (l : Layout). PlaceHasLayout content (settings_of shape) (replica_in (Some shape) (slice_set slots place x) node partition) (home bays folder node partition) l) (sym (layout_here (settings_of shape) cells layouts node partition ask reply))
          (asks_layout tells content size faults ask reply (settings_of shape) (replica_in (Some shape) slots node partition) (replica_in (Some shape) (slice_set slots place x) node partition) (home bays folder node partition) (cells node partition) (layouts node partition) asked_state t calm held laid)

  -- a record that was put is packed behind the others of its place
  pub asked_laid : tells → reply ≢ Reply.Fault → (cells : Cells) (layouts : Layouts) → PlacesHold content home shape folder bays slots cells → PlacesHaveLayouts content home shape folder bays slots layouts
      → PlacesHaveLayouts content home shape folder bays (slice_set slots place x) (asked_layouts (settings_of shape) cells layouts node partition ask reply)
  asked_laid t calm cells layouts holds laid n p = elim (same_or_apart n p node partition) [
    | inl same ↦
        let at : ℕ → ℕ → Type 0 = λ k q. HasLayoutAt content (has_replica shape k q) (settings_of shape) (replica_in (Some shape) (slice_set slots place x) k q) (home bays folder k q) (asked_layouts (settings_of shape) cells layouts node partition ask reply k q) in
        subst (λ (k : ℕ). at k p) (sym same.0) (subst (λ (q : ℕ). at node q) (sym same.1) (laid_here t calm cells layouts holds laid))
    | inr apart ↦
        subst (λ (s : Option (ReplicaState D)). HasLayoutAt content (has_replica shape n p) (settings_of shape) s (home bays folder n p) (asked_layouts (settings_of shape) cells layouts node partition ask reply n p)) (sym (asked_others n p apart))
        (subst (λ (l : Layout). HasLayoutAt content (has_replica shape n p) (settings_of shape) (replica_in (Some shape) slots n p) (home bays folder n p) l) (sym (layout_apart (settings_of shape) cells layouts node partition ask reply n p apart)) (laid n p))
  ]
