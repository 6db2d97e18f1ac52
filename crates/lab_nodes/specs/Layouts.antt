-- How the records of each place are packed: by its open replica, or by the disk that is at home.
use Rattle.std.specs.Prelude.{ℕ, Bool, true, false, ◌&&◌, ◌==◌, cond, List, Option, None}
use Rattle.cell_model.specs.declared.ask.Ask.{Ask}
use Rattle.cell_model.specs.declared.ask.Reply.{Reply}
use Rattle.cell_model.specs.Asks.{id_of}
use Rattle.disk_core.specs.Content.{Content}
use Rattle.disk_core.specs.Homes.{Home}
use Rattle.lab_nodes.specs.Holding.{PlaceHasLayout, settings_of}
use Rattle.lab_nodes.specs.Nodes.{IsFor, NodesState, has_replica, replica_at}
use Rattle.log_manifest.specs.declared.manifest.LogSettings.{LogSettings}
use Rattle.part_log.specs.Layout.{Layout}
use Rattle.replica_core.specs.State.{ReplicaState, packed_by}
use Rattle.world_model.specs.declared.shape.Shape.{Shape}
use Rattle.world_model.specs.World.{Cells}

-- a layout for each node and partition
abbrev pub Layouts : Type 0
Layouts = (node partition : ℕ) → Layout

-- the layouts behind an ask of the replica of a node and a partition
abbrev pub asked_layouts : LogSettings → Cells → Layouts → (node partition : ℕ) → Ask → Reply → Layouts
asked_layouts settings cells layouts node partition ask reply n p =
    cond ((n == node) && (p == partition)) (packed_by settings (layouts n p) (cells n p (id_of ask)) ask reply) (layouts n p)

-- What disks of a type tell.
module _ {D : Type 0} (content : D → Content) where
  -- nothing is said of places that the shape doesn't have
  abbrev pub HasLayoutAt : (due : Bool) → LogSettings → Option (ReplicaState D) → Option D → Layout → Type 0
  HasLayoutAt false settings replica kept layout = Unit {0}
  HasLayoutAt true settings replica kept layout = PlaceHasLayout content settings replica kept layout

-- What disks of a type tell, and where bays keep them.
module _ {B D : Type 0} (content : D → Content) (home : B → Home D) where
  -- The nodes of a shape, whose disks lie in a folder, have these layouts, and none of the open replicas is down.
  pub record HaveLayouts (shape : Shape) (folder : List ℕ) (layouts : Layouts) (nodes : NodesState B D) : Type 0 where
    pub named : IsFor shape folder nodes.shape nodes.folder
    pub places : (n p : ℕ) → HasLayoutAt content (has_replica shape n p) (settings_of shape) (replica_at nodes n p) (home nodes.bays folder n p) (layouts n p)

  -- What the disks at home of a shape are laid out as, in a folder.
  abbrev pub HomeHasLayouts : Shape → List ℕ → B → Layouts → Type 0
  HomeHasLayouts shape folder bays layouts = (n p : ℕ) → HasLayoutAt content (has_replica shape n p) (settings_of shape) None (home bays folder n p) (layouts n p)
