-- Which asks are full: those whose record has no place in the log that the changes before them left.
use Rattle.std.specs.Prelude.{◌≡◌, ℕ, Bool, true, false, List, [], ◌∷◌, Option, Some, None, IsSome}
use Rattle.cell_model.specs.declared.ask.Reply.{Reply}
use Rattle.cell_model.specs.Asks.{id_of}
use Rattle.disk_core.specs.Content.{Content}
use Rattle.disk_core.specs.Homes.{Home}
use Rattle.lab_nodes.specs.Holding.{settings_of}
use Rattle.lab_nodes.specs.Layouts.{HaveLayouts, Layouts, asked_layouts}
use Rattle.lab_nodes.specs.Nodes.{NodesState, has_replica}
use Rattle.log_manifest.specs.declared.manifest.LogSettings.{LogSettings}
use Rattle.mem_fabric.specs.Runs.{LeadsTo}
use Rattle.mem_fabric.specs.Torn.{has_torn}
use Rattle.replica_core.specs.State.{IsPacked}
use Rattle.world_model.specs.declared.shape.Shape.{Shape}
use Rattle.world_model.specs.declared.step.Called.{Called}
use Rattle.world_model.specs.declared.step.Step.TheVariants as steps
use Rattle.world_model.specs.Record.{Item, Record, Took}
use Rattle.world_model.specs.Told.{told}
use Rattle.world_model.specs.World.{Call, Cells, World, call_at, world}

-- the layouts behind a call that was given this reply
abbrev pub called_layouts : LogSettings → Cells → Layouts → Option Call → Reply → Layouts
called_layouts settings cells layouts None reply = layouts
called_layouts settings cells layouts (Some call) reply = asked_layouts settings cells layouts call.node call.partition call.ask reply

-- the layouts behind an item of a record
abbrev pub item_layouts : LogSettings → World → Layouts → Item → Layouts
item_layouts settings w layouts (Took (steps.Exec send reply)) = called_layouts settings w.cells layouts (call_at w send) reply
item_layouts settings w layouts _ = layouts

-- the layouts behind a record that began with these cells and these layouts
abbrev pub layouts_after : LogSettings → Cells → Layouts → Record → Layouts
layouts_after settings opening first [] = first
layouts_after settings opening first (item ∷ before) = item_layouts settings (world opening before) (layouts_after settings opening first before) item

-- what a replica that the shape has answers by its layout
abbrev pub IsPackedAt : (due : Bool) → LogSettings → Cells → Layouts → Call → Reply → Type 0
IsPackedAt false settings cells layouts call reply = Unit {0}
IsPackedAt true settings cells layouts call reply = IsPacked settings (layouts call.node call.partition) (cells call.node call.partition (id_of call.ask)) call.ask reply

abbrev pub IsCalledPacked : Shape → Cells → Layouts → Option Call → Reply → Type 0
IsCalledPacked shape cells layouts None reply = Unit {0}
IsCalledPacked shape cells layouts (Some call) reply = IsPackedAt (has_replica shape call.node call.partition) (settings_of shape) cells layouts call reply

abbrev pub IsItemPacked : Shape → World → Layouts → Item → Type 0
IsItemPacked shape w layouts (Took (steps.Exec send reply)) = IsCalledPacked shape w.cells layouts (call_at w send) reply
IsItemPacked shape w layouts _ = Unit {0}

-- Each replica of a shape was full just where the packing of its records says so, from these layouts on.
abbrev pub AllPacked : Shape → Cells → Layouts → Record → Type 0
AllPacked shape opening first [] = Unit {0}
AllPacked shape opening first (item ∷ before) = AllPacked shape opening first before × IsItemPacked shape (world opening before) (layouts_after (settings_of shape) opening first before) item

-- Whether disks tell, what they tell, and where bays keep them.
module _ {B D : Type 0} (tells : Type 0) (content : D → Content) (home : B → Home D) where
  -- what was told is a run from these cells, each replica was full by its layout, and the nodes hold and are laid out as it says
  pub record PacksTo (shape : Shape) (folder : List ℕ) (opening : Cells) (first : Layouts) (calls : List Called) (nodes : NodesState B D) : Type 0 where
    pub leads : LeadsTo tells content home shape folder opening calls nodes
    pub packed : AllPacked shape opening first (told calls)
    pub layouts : HaveLayouts content home shape folder (layouts_after (settings_of shape) opening first (told calls)) nodes

  -- Where disks tell, it is so, unless what was told leaves something in doubt.
  abbrev pub PacksFrom : List Called → NodesState B D → Shape → List ℕ → Cells → Layouts → Type 0
  PacksFrom calls nodes shape folder opening first = tells → has_torn calls ≡ false → PacksTo shape folder opening first calls nodes

  -- where it was so of nodes that are open, it still is, and they stay open
  abbrev pub KeepsPacking : List Called → NodesState B D → List Called → NodesState B D → Type 0
  KeepsPacking calls nodes calls' nodes' = IsSome nodes.shape → IsSome nodes'.shape × ((shape : Shape) (folder : List ℕ) (opening : Cells) (first : Layouts) → PacksFrom calls nodes shape folder opening first → PacksFrom calls' nodes' shape folder opening first)
