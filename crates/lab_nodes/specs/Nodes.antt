-- The nodes of a cluster whose disks lie in bays: which replicas are open, what they hold, and which disks are out.
use Rattle.std.specs.Prelude.{◌≡◌, ℕ, zero, suc, ◌+◌, ◌*◌, ◌<◌, ◌≤◌, nat_lt, Bool, true, false, ◌&&◌, cond, List, [], length, Option, Some, None, IsSome}
use Rattle.std.specs.Option.{is_some}
use Rattle.blob_id.specs.declared.id.BlobId.{BlobId}
use Rattle.cell_model.specs.declared.ask.Ask.{Ask}
use Rattle.cell_model.specs.declared.ask.Reply.{Reply}
use Rattle.cell_model.specs.declared.cell.Cell.{Cell}
use Rattle.cell_model.specs.declared.cell.Cell.TheVariants.{Absent}
use Rattle.cell_model.specs.Cells.{join}
use Rattle.disk_core.specs.Content.{Content}
use Rattle.disk_core.specs.Homes.{Home, Out}
use Rattle.lab_nodes.specs.declared.places.Which.{Which}
use Rattle.lab_nodes.specs.Holding.{HoldsPlace, settings_of}
use Rattle.lab_nodes.specs.Spots.{AreOut, node_at, partition_at, place_of, slot_at, stands_on}
use Rattle.lab_nodes.specs.Starting.{is_due}
use Rattle.log_manifest.specs.declared.manifest.LogSettings.{LogSettings}
use Rattle.replica_core.specs.State.{IsAsked, ReplicaState}
use Rattle.world_model.specs.declared.shape.Shape.{Shape}
use Rattle.world_model.specs.Shape.{IsShape}
use Rattle.world_model.specs.World.{Cells, Change, arriving_call}

-- what the nodes were opened for, the bays, and the replicas that are open, by their places
pub record NodesState (B D : Type 0) : Type 0 where
  pub shape : Option Shape
  pub folder : List ℕ
  pub bays : B
  pub slots : List (Option (ReplicaState D))

abbrev pub never_opened : {B D : Type 0} → B → NodesState B D
never_opened bays = record { shape = None; folder = []; bays = bays; slots = [] }

-- the replica of a node and a partition that is open
abbrev pub replica_in : {D : Type 0} → Option Shape → List (Option (ReplicaState D)) → ℕ → ℕ → Option (ReplicaState D)
replica_in None slots node partition = None
replica_in (Some shape) slots zero partition = None
replica_in (Some shape) slots (suc node) partition = cond (nat_lt partition shape.partitions) (slot_at slots (node * shape.partitions + partition)) None

abbrev pub replica_at : {B D : Type 0} → NodesState B D → ℕ → ℕ → Option (ReplicaState D)
replica_at nodes node partition = replica_in nodes.shape nodes.slots node partition

abbrev pub is_up : {B D : Type 0} → NodesState B D → ℕ → ℕ → Bool
is_up nodes node partition = is_some (replica_at nodes node partition)

-- The slot of a node and a partition that the nodes were opened for.
pub record IsPlaceOf {B D : Type 0} (nodes : NodesState B D) (node partition place : ℕ) : Type 0 where
  pub shape : Shape
  pub is_open : nodes.shape ≡ Some shape
  pub some_node : 1 ≤ node
  pub column : partition < shape.partitions
  pub is : place ≡ place_of shape.partitions node partition
  pub within : place < length nodes.slots

-- whether the shape has a replica of a partition on a node
abbrev pub has_replica : Shape → ℕ → ℕ → Bool
has_replica shape node partition = nat_lt partition shape.partitions && stands_on shape node partition

abbrev pub stands : Option Shape → ℕ → ℕ → Bool
stands None node partition = false
stands (Some shape) node partition = has_replica shape node partition

-- nodes that are open are so for this shape and this folder
abbrev pub IsFor : Shape → List ℕ → Option Shape → List ℕ → Type 0
IsFor shape folder None other_folder = Unit {0}
IsFor shape folder (Some other) other_folder = (other ≡ shape) × (other_folder ≡ folder)

-- what an ask joins to the cells
abbrev pub asked_cells : Cells → (node partition : ℕ) → Ask → Reply → Cells
asked_cells cells node partition ask reply n p id = join (cells n p id) (arriving_call (Some (record { node = node; partition = partition; ask = ask })) reply n p id)

-- What a replica was asked, and what it is then: where none is open, that is said and stays so.
module _ {D : Type 0} (tells : Type 0) (content : D → Content) (size faults : D → ℕ) where
  abbrev pub AsksReplica : Option (ReplicaState D) → Ask → Reply → Option (ReplicaState D) → Type 0
  AsksReplica None ask reply new = (reply ≡ Reply.NoPartition) × (new ≡ None)
  AsksReplica (Some replica) ask reply None = ⊥
  AsksReplica (Some replica) ask reply (Some new) = IsAsked tells content size faults replica ask reply new

-- What disks of a type tell, and where bays keep them.
module _ {B D : Type 0} (content : D → Content) (home : B → Home D) where
  -- A place of the shape holds these cells, and nothing of it is in doubt. Another place holds nothing.
  abbrev pub HoldsAt : (due : Bool) → LogSettings → Option (ReplicaState D) → Option D → (BlobId → Cell) → Type 0
  HoldsAt false settings replica kept cells = (id : BlobId) → cells id ≡ Absent
  HoldsAt true settings replica kept cells = HoldsPlace content settings replica kept cells None

  -- The nodes of a shape, whose disks lie in a folder, hold these cells.
  pub record Holds (shape : Shape) (folder : List ℕ) (cells : Cells) (nodes : NodesState B D) : Type 0 where
    pub named : IsFor shape folder nodes.shape nodes.folder
    pub places : (n p : ℕ) → HoldsAt (has_replica shape n p) (settings_of shape) (replica_at nodes n p) (home nodes.bays folder n p) (cells n p)

  -- What the disks at home of a shape stand for, in a folder.
  abbrev pub HomeHolds : Shape → List ℕ → B → Cells → Type 0
  HomeHolds shape folder bays cells = (n p : ℕ) → HoldsAt (has_replica shape n p) (settings_of shape) None (home bays folder n p) (cells n p)

-- a replica's disk is out under the nodes' folder where it is open, and else as it was before they were opened
abbrev pub IsOutAs : Bool → List ℕ → (before now : Option (List ℕ)) → Type 0
IsOutAs false folder before now = now ≡ before
IsOutAs true folder before now = (before ≡ None) × (now ≡ Some folder)

-- Beside the disks of the open replicas those are out that were when the nodes were made.
abbrev pub OnlyOwnOut : {B D : Type 0} → (out : B → Out) → (before : Out) → NodesState B D → Type 0
OnlyOwnOut out before nodes = (n p : ℕ) → IsOutAs (is_up nodes n p) nodes.folder (before n p) (out nodes.bays n p)

-- A place holds some cells, and maybe something is in doubt.
pub record HoldsSome {D : Type 0} (content : D → Content) (settings : LogSettings) (replica : Option (ReplicaState D)) (kept : Option D) : Type 0 where
  pub cells : BlobId → Cell
  pub doubt : Option Change
  pub holds : HoldsPlace content settings replica kept cells doubt

-- What bays and disks of their type tell.
module _ {B D : Type 0} (bays_tell tells : Type 0) (content : D → Content) (home : B → Home D) (out : B → Out) where
  -- The nodes of a shape have a slot for each place. A replica is open only where the shape has one, and its disk is out. Each place of the
  -- shape holds some cells.
  pub record IsOpen (shape : Shape) (folder : List ℕ) (bays : B) (slots : List (Option (ReplicaState D))) : Type 0 where
    pub ranges : IsShape shape
    pub long : length slots ≡ shape.nodes * shape.partitions
    pub due : (place : ℕ) → IsSome (slot_at slots place) → is_due Which.All shape place ≡ true
    pub outs : bays_tell → AreOut shape.partitions folder slots (out bays)
    pub places : tells → (place : ℕ) → is_due Which.All shape place ≡ true → HoldsSome content (settings_of shape) (slot_at slots place) (home bays folder (node_at shape.partitions place) (partition_at shape.partitions place))

  -- nodes between two calls: those that were never opened have nothing
  abbrev pub IsNodes : Option Shape → List ℕ → B → List (Option (ReplicaState D)) → Type 0
  IsNodes None folder bays slots = (folder ≡ []) × (slots ≡ [])
  IsNodes (Some shape) folder bays slots = IsOpen shape folder bays slots
