-- The places of replicas, and how they are opened and closed.
use Rattle.std.specs.Prelude.{◌≡◌, ◌≢◌, ◌⊎◌, ℕ, ◌+◌, ◌-◌, ◌*◌, ◌/◌, ◌%◌, ◌≤◌, nat_eq, Bool, true, false, List, Option, Some, None, IsSome, slice_get}
use Rattle.std.specs.Option.{is_some}
use Rattle.blob_id.specs.declared.id.BlobId.{BlobId}
use Rattle.cell_model.specs.declared.cell.Cell.{Cell}
use Rattle.disk_core.specs.Content.{Content}
use Rattle.disk_core.specs.Homes.{Home, Out, HasOtherSize}
use Rattle.log_manifest.specs.declared.manifest.LogSettings.{LogSettings}
use Rattle.outside.specs.Causes.{Rose}
use Rattle.part_log.specs.Images.{IsDamaged, NamesOther}
use Rattle.part_log.specs.Layout.{Layout}
use Rattle.part_log.specs.Log.{disk_size}
use Rattle.replica_core.specs.State.{ReplicaState}
use Rattle.lab_nodes.specs.declared.places.Which.{Which}
use Rattle.lab_nodes.specs.Holding.{HoldsPlace, IsOpened, Left, PlaceHasLayout, found}
use Rattle.world_model.specs.declared.order.What.{What}
use Rattle.world_model.specs.declared.shape.Shape.{Shape}
use Rattle.world_model.specs.Shape.{replica_of}
use Rattle.world_model.specs.World.{Change}

-- the node and the partition of a place, where each node has so many partitions, and the place of both
abbrev pub node_at : ℕ → ℕ → ℕ
node_at partitions place = place / partitions + 1

abbrev pub partition_at : ℕ → ℕ → ℕ
partition_at partitions place = place % partitions

abbrev pub place_of : ℕ → ℕ → ℕ → ℕ
place_of partitions node partition = (node - 1) * partitions + partition

-- whether the node is one of those that are meant
abbrev pub is_meant : Which → ℕ → Bool
is_meant Which.All node = true
is_meant (Which.Node other) node = nat_eq node other

-- whether the shape has a replica of the partition on the node
abbrev pub stands_on : Shape → ℕ → ℕ → Bool
stands_on shape node partition = is_some (replica_of shape partition node)

-- the replica that is open in a place
abbrev pub slot_in : {D : Type 0} → Option (Option (ReplicaState D)) → Option (ReplicaState D)
slot_in None = None
slot_in (Some slot) = slot

abbrev pub slot_at : {D : Type 0} → List (Option (ReplicaState D)) → ℕ → Option (ReplicaState D)
slot_at slots place = slot_in (slice_get slots place)

-- A place: the replica that is open there, the disk that is at home under a folder, and the folder of the one that is out.
pub record Spot (D : Type 0) : Type 0 where
  pub slot : Option (ReplicaState D)
  pub home : Option D
  pub out : Option (List ℕ)

abbrev pub spot_at : {D : Type 0} → ℕ → List ℕ → List (Option (ReplicaState D)) → Home D → Out → ℕ → Spot D
spot_at partitions folder slots home out place = record {
  slot = slot_at slots place;
  home = home folder (node_at partitions place) (partition_at partitions place);
  out = out (node_at partitions place) (partition_at partitions place);
}

-- each open replica's disk is out under this folder
abbrev pub AreOut : {D : Type 0} → ℕ → List ℕ → List (Option (ReplicaState D)) → Out → Type 0
AreOut partitions folder slots out = (place : ℕ) → IsSome (slot_at slots place) → out (node_at partitions place) (partition_at partitions place) ≡ Some folder

-- All that lies in other folders, and in no place of these partitions, stays.
pub record RestStays {D : Type 0} (partitions : ℕ) (folder : List ℕ) (home : Home D) (out : Out) (new_home : Home D) (new_out : Out) : Type 0 where
  pub homes : (f : List ℕ) (n p : ℕ) → (f ≢ folder) ⊎ (n ≡ 0) ⊎ (partitions ≤ p) → new_home f n p ≡ home f n p
  pub outs : (n p : ℕ) → (n ≡ 0) ⊎ (partitions ≤ p) → new_out n p ≡ out n p

-- What disks of a type tell, and their size.
module _ {D : Type 0} (tells : Type 0) (content : D → Content) (size : D → ℕ) where
  -- what a spot holds it holds on
  abbrev pub Keeps : LogSettings → Spot D → Spot D → Type 0
  Keeps settings old new = (cells : BlobId → Cell) (doubt : Option Change)
      → HoldsPlace content settings old.slot old.home cells doubt → HoldsPlace content settings new.slot new.home cells doubt

  -- its layout stays
  abbrev pub KeepsLayout : LogSettings → Spot D → Spot D → Type 0
  KeepsLayout settings old new = (layout : Layout) → PlaceHasLayout content settings old.slot old.home layout → PlaceHasLayout content settings new.slot new.home layout

  -- The disk of a replica is at home, as it is or as a stop leaves it.
  pub record WentHome (stops : Bool) (replica : ReplicaState D) (new : Spot D) : Type 0 where
    pub kept : D
    pub is : new ≡ record { slot = None; home = Some kept; out = None }
    pub bytes : size kept ≡ size replica.log.disk
    pub left : tells → Left content stops replica.log.disk kept

  -- a spot is closed, where a replica is open in it
  abbrev pub GoesHome : (stops : Bool) → Option (ReplicaState D) → Spot D → Spot D → Type 0
  GoesHome stops None old new = new ≡ old
  GoesHome stops (Some replica) old new = WentHome stops replica new × (tells → (settings : LogSettings) → Keeps settings old new × KeepsLayout settings old new)

  abbrev pub HaltsSpot : (meant stops : Bool) → Spot D → Spot D → Type 0
  HaltsSpot false stops old new = new ≡ old
  HaltsSpot true stops old new = GoesHome stops old.slot old new

  -- A spot is opened: its disk is out under this folder.
  pub record OpensSpot (settings : LogSettings) (folder : List ℕ) (old new : Spot D) : Type 0 where
    pub was_in : old.out ≡ None
    pub replica : ReplicaState D
    pub is : new ≡ record { slot = Some replica; home = None; out = Some folder }
    pub opened : IsOpened content tells settings old.home replica

  abbrev pub StartsSpot : (meant : Bool) → LogSettings → List ℕ → Spot D → Spot D → Type 0
  StartsSpot false settings folder old new = new ≡ old
  StartsSpot true settings folder old new = OpensSpot settings folder old new

  -- A spot is as it was, but maybe for a disk that is new or was given a manifest; what it holds stays.
  pub record StaysClosed (settings : LogSettings) (old new : Spot D) : Type 0 where
    pub slot : new.slot ≡ old.slot
    pub out : new.out ≡ old.out
    pub keeps : tells → Keeps settings old new
    pub layout : tells → KeepsLayout settings old new

  -- why the disk of a place isn't opened
  abbrev pub IsCause : LogSettings → Option D → What → Type 0
  IsCause settings home (What.Damaged place) = tells → IsDamaged settings (found content settings home) place
  IsCause settings home What.OtherShape = tells → (other : LogSettings) × NamesOther settings other (found content settings home)
  IsCause settings home (What.OtherSize bytes) = HasOtherSize tells content size home (disk_size settings) bytes

-- A disk failed in the call.
pub record DiskFailed {D : Type 0} (faults : D → ℕ) : Type 0 where
  pub before : D
  pub after : D
  pub rose : Rose (faults before) (faults after)

-- the outside failed: the bays, or a disk
abbrev pub HasFailed : {D : Type 0} → (D → ℕ) → ℕ → ℕ → Type 0
HasFailed faults before now = Rose before now ⊎ DiskFailed faults
