-- The nodes of a cluster whose disks lie in bays: which replicas are open, and what they hold.
use Rattle.std.specs.Prelude.{◌≡◌, ℕ, zero, suc, nat_lt, Bool, true, ◌&&◌, ◌==◌, cond, List, [], length, Option, Some, None, IsSome, slice_get}
use Rattle.std.specs.Option.{is_some}
use Rattle.blob_id.specs.declared.id.BlobId.{BlobId}
use Rattle.cell_model.specs.declared.ask.Ask.{Ask}
use Rattle.cell_model.specs.declared.ask.Reply.{Reply}
use Rattle.cell_model.specs.declared.cell.Cell.{Cell}
use Rattle.disk_core.specs.Content.{Content}
use Rattle.disk_core.specs.Homes.{Home, Out}
use Rattle.log_manifest.specs.declared.manifest.LogSettings.{LogSettings}
use Rattle.node_core.specs.Ports.{port_in}
use Rattle.node_lab.specs.declared.state.NodeState.{NodeState}
use Rattle.node_lab.specs.declared.state.NodeState.TheVariants.{Up, Stopped}
use Rattle.node_lab.specs.Replicas.{HoldsPlace, settings_of}
use Rattle.node_lab.specs.Places.{HoldsAt, Places, asked_place, settled_place}
use Rattle.node_lab.specs.Slots.{HasLogSize, ReplicaSlot, slot_in}
use Rattle.part_log.specs.Log.{disk_size}
use Rattle.replica_core.specs.State.{ReplicaState}
use Rattle.world_model.specs.declared.shape.Shape.{Shape}
use Rattle.world_model.specs.Shape.{IsShape, replica_of}
use Rattle.world_model.specs.World.{Change}

-- what the nodes were opened for, the bays, and the nodes, node 1 first
pub record NodesState (B D : Type 0) : Type 0 where
  pub shape : Option Shape
  pub folder : List ℕ
  pub bays : B
  pub nodes : List (NodeState (ReplicaState D))

abbrev pub never_opened : {B D : Type 0} → B → NodesState B D
never_opened bays = record { shape = None; folder = []; bays = bays; nodes = [] }

-- the ports of a node; one that is stopped has none
abbrev pub ports_of : {P : Type 0} → Option (NodeState P) → List (ℕ × P)
ports_of None = []
ports_of (Some (Up node)) = node.ports
ports_of (Some Stopped) = []

-- those of a node by its number, from 1
abbrev pub ports_at : {P : Type 0} → List (NodeState P) → ℕ → List (ℕ × P)
ports_at nodes zero = []
ports_at nodes (suc n) = ports_of (slice_get nodes n)

-- the replica of a node and a partition that is open
abbrev pub replica_at : {B D : Type 0} → NodesState B D → ℕ → ℕ → Option (ReplicaState D)
replica_at nodes node partition = port_in (ports_at nodes.nodes node) partition

abbrev pub is_up : {B D : Type 0} → NodesState B D → ℕ → ℕ → Bool
is_up nodes node partition = is_some (replica_at nodes node partition)

-- the slot of a node and a partition, whose disk lies in a folder
abbrev pub slot_at : {B D : Type 0} → (B → Home D) → (B → Out) → List ℕ → NodesState B D → ℕ → ℕ → ReplicaSlot D
slot_at home out folder nodes n p = slot_in (replica_at nodes n p) (home nodes.bays) (out nodes.bays) folder n p

-- whether the shape has a replica of a partition on a node
abbrev pub has_replica : Shape → ℕ → ℕ → Bool
has_replica shape node partition = nat_lt partition shape.partitions && is_some (replica_of shape partition node)

-- whether a replica of the shape is one of this node
abbrev pub is_of_node : Shape → (node : ℕ) → ℕ → ℕ → Bool
is_of_node shape node n p = (n == node) && has_replica shape n p

-- nodes that are open are so for this shape and this folder
abbrev pub IsFor : Shape → List ℕ → Option Shape → List ℕ → Type 0
IsFor shape folder None other_folder = Unit {0}
IsFor shape folder (Some other) other_folder = (other ≡ shape) × (other_folder ≡ folder)

-- the places behind an ask of one of them
abbrev pub asked_places : LogSettings → Places → (node partition : ℕ) → Ask → Reply → Places
asked_places settings places node partition ask reply n p = cond ((n == node) && (p == partition)) (asked_place settings ask reply (places n p)) (places n p)

-- the places of the nodes that are meant, with their doubts settled by these choices
abbrev pub settled_places : (meant : ℕ → Bool) → (landed : ℕ → ℕ → Bool) → Places → Places
settled_places meant landed places n p = cond (meant n) (settled_place (landed n p) (places n p)) (places n p)

-- What disks of a type tell, and where bays keep them.
module _ {B D : Type 0} (content : D → Content) (home : B → Home D) where
  -- The nodes of a shape, whose disks lie in a folder, hold what these places say.
  pub record Holds (shape : Shape) (folder : List ℕ) (places : Places) (nodes : NodesState B D) : Type 0 where
    pub named : IsFor shape folder nodes.shape nodes.folder
    pub each : (n p : ℕ) → HoldsAt content (has_replica shape n p) (settings_of shape) (replica_at nodes n p) (home nodes.bays folder n p) (places n p)

  -- what the disks at home of a shape stand for, in a folder
  abbrev pub HomeHolds : Shape → List ℕ → B → Places → Type 0
  HomeHolds shape folder bays places = (n p : ℕ) → HoldsAt content (has_replica shape n p) (settings_of shape) None (home bays folder n p) (places n p)

-- A replica's slot that was opened once, and is open or has its disk at home: it holds some cells, maybe with something in doubt, and its disk has the size.
pub record HoldsSome {D : Type 0} (content : D → Content) (size : D → ℕ) (settings : LogSettings) (replica : Option (ReplicaState D)) (home : Option D) : Type 0 where
  pub cells : BlobId → Cell
  pub doubt : Option Change
  pub holds : HoldsPlace content settings replica home cells doubt
  pub open_size : (opened : ReplicaState D) → replica ≡ Some opened → size opened.log.disk ≡ disk_size settings
  pub home_size : HasLogSize size settings home

-- What bays and disks of their type tell.
module _ {B D : Type 0} (bays_tell tells : Type 0) (content : D → Content) (size : D → ℕ) (home : B → Home D) (out : B → Out) where
  -- The nodes of a shape. A replica is open only where the shape has one, and its disk is out. Each replica of the shape was opened once.
  pub record IsOpen (shape : Shape) (folder : List ℕ) (bays : B) (nodes : List (NodeState (ReplicaState D))) : Type 0 where
    pub ranges : IsShape shape
    pub long : length nodes ≡ shape.nodes
    pub due : (n p : ℕ) → IsSome (port_in (ports_at nodes n) p) → has_replica shape n p ≡ true
    pub outs : bays_tell → (n p : ℕ) → IsSome (port_in (ports_at nodes n) p) → out bays n p ≡ Some folder
    pub places : tells → (n p : ℕ) → has_replica shape n p ≡ true → HoldsSome content size (settings_of shape) (port_in (ports_at nodes n) p) (home bays folder n p)

  -- nodes between two calls: those that were never opened have nothing
  abbrev pub IsNodes : Option Shape → List ℕ → B → List (NodeState (ReplicaState D)) → Type 0
  IsNodes None folder bays nodes = (folder ≡ []) × (nodes ≡ [])
  IsNodes (Some shape) folder bays nodes = IsOpen shape folder bays nodes
