-- Opening the places of nodes one after the other.
use Rattle.std.specs.Prelude.{◌≡◌, ℕ, ◌<◌, ◌≤◌, Bool, true, false, ◌&&◌, List, Option, Some, None}
use Rattle.cell_model.specs.declared.cell.Cell.{Cell}
use Rattle.blob_id.specs.declared.id.BlobId.{BlobId}
use Rattle.disk_core.specs.Content.{Content}
use Rattle.disk_core.specs.Homes.{Home}
use Rattle.lab_nodes.specs.declared.places.Which.{Which}
use Rattle.lab_nodes.specs.Holding.{found, settings_of}
use Rattle.lab_nodes.specs.Spots.{IsCause, Spot, StartsSpot, StaysClosed, is_meant, node_at, partition_at, place_of, slot_at, stands_on}
use Rattle.log_manifest.specs.declared.manifest.LogSettings.{LogSettings}
use Rattle.replica_core.specs.Maps.{StandsForCells}
use Rattle.replica_core.specs.State.{ReplicaState}
use Rattle.world_model.specs.declared.order.Refusal.{Refusal}
use Rattle.world_model.specs.declared.shape.Shape.{Shape}

-- each of the first places was changed so, and all others stay
abbrev pub FirstChange : {S : Type 0} → (ℕ → S → S → Type 0) → ℕ → (old new : ℕ → S) → Type 0
FirstChange R count old new = (place : ℕ) → (place < count → R place (old place) (new place)) × (count ≤ place → new place ≡ old place)

-- whether a replica is to be opened in a place
abbrev pub is_due : Which → Shape → ℕ → Bool
is_due which shape place = is_meant which (node_at shape.partitions place) && stands_on shape (node_at shape.partitions place) (partition_at shape.partitions place)

-- no replica is open in the places that are meant
abbrev pub AreEmpty : {D : Type 0} → Which → ℕ → List (Option (ReplicaState D)) → Type 0
AreEmpty which partitions slots = (place : ℕ) → is_meant which (node_at partitions place) ≡ true → slot_at slots place ≡ None

-- a slot is emptied
abbrev pub HaltsSlot : {D : Type 0} → Bool → Option (ReplicaState D) → Option (ReplicaState D) → Type 0
HaltsSlot false old new = new ≡ old
HaltsSlot true old new = new ≡ None

-- A replica stands in a slot that isn't down and has these settings.
pub record IsFresh {D : Type 0} (settings : LogSettings) (slot : Option (ReplicaState D)) : Type 0 where
  pub replica : ReplicaState D
  pub is : slot ≡ Some replica
  pub up : replica.down ≡ false
  pub named : replica.log.table.settings ≡ settings

-- a slot is filled
abbrev pub StartsSlot : {D : Type 0} → Bool → LogSettings → Option (ReplicaState D) → Option (ReplicaState D) → Type 0
StartsSlot false settings old new = new ≡ old
StartsSlot true settings old new = IsFresh settings new

-- The refusal names a place that was to be opened.
pub record IsDueAt (which : Which) (shape : Shape) (refusal : Refusal) : Type 0 where
  pub due : is_due which shape (place_of shape.partitions refusal.node refusal.partition) ≡ true
  pub node : 1 ≤ refusal.node
  pub partition : refusal.partition < shape.partitions

-- What disks of a type tell, and their size.
module _ {D : Type 0} (tells : Type 0) (content : D → Content) (size : D → ℕ) where
  -- The disk of a place stands for a log.
  pub record CanOpen (settings : LogSettings) (home : Option D) : Type 0 where
    pub cells : BlobId → Cell
    pub end : ℕ
    pub stands : StandsForCells settings (found content settings home) cells end

  -- The refusal names the first place whose disk isn't opened, by node and then by partition, and why.
  pub record IsFirst (which : Which) (shape : Shape) (folder : List ℕ) (home : Home D) (refusal : Refusal) : Type 0 where
    pub due : is_due which shape (place_of shape.partitions refusal.node refusal.partition) ≡ true
    pub node : 1 ≤ refusal.node
    pub partition : refusal.partition < shape.partitions
    pub cause : IsCause tells content size (settings_of shape) (home folder refusal.node refusal.partition) refusal.what
    pub earlier : tells → (place : ℕ) → place < place_of shape.partitions refusal.node refusal.partition → is_due which shape place ≡ true
        → CanOpen (settings_of shape) (home folder (node_at shape.partitions place) (partition_at shape.partitions place))

  -- The places before this one were opened, this one wasn't, and those behind it stay.
  pub record OpensTo (which : Which) (shape : Shape) (folder : List ℕ) (at : ℕ) (old new : ℕ → Spot D) : Type 0 where
    pub before : (place : ℕ) → place < at → StartsSpot tells content size (is_due which shape place) (settings_of shape) folder (old place) (new place)
    pub here : StaysClosed tells content size (settings_of shape) (old at) (new at)
    pub behind : (place : ℕ) → at < place → new place ≡ old place

-- The place whose disk wasn't opened, with the slots before it filled and the others as they were.
pub record StopsAt {D : Type 0} (which : Which) (shape : Shape) (old new : List (Option (ReplicaState D))) (at : ℕ) : Type 0 where
  pub due : is_due which shape at ≡ true
  pub before : (place : ℕ) → place < at → StartsSlot (is_due which shape place) (settings_of shape) (slot_at old place) (slot_at new place)
  pub others : (place : ℕ) → at ≤ place → slot_at new place ≡ slot_at old place
