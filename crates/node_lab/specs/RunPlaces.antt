-- What a record of the network leads to: what each replica holds and has in doubt, and how it is laid out.
use Rattle.std.specs.Prelude.{◌≡◌, ℕ, true, ◌&&◌, ◌==◌, cond, List, [], ◌∷◌, Option, Some, None}
use Rattle.std.specs.Option.{option_map}
use Rattle.cell_model.specs.declared.ask.Reply.{Reply}
use Rattle.cell_model.specs.Asks.{id_of}
use Rattle.disk_core.specs.Content.{Content}
use Rattle.disk_core.specs.Homes.{Home}
use Rattle.log_manifest.specs.declared.manifest.LogSettings.{LogSettings}
use Rattle.node_lab.specs.Replicas.{settings_of}
use Rattle.node_lab.specs.Nodes.{Holds, NodesState, has_replica}
use Rattle.node_lab.specs.Places.{IsPackedBy, Places}
use Rattle.part_log.specs.Layout.{Layout}
use Rattle.replica_core.specs.State.{packed_by}
use Rattle.world_model.specs.declared.shape.Shape.{Shape}
use Rattle.world_model.specs.declared.step.Step.TheVariants as steps
use Rattle.world_model.specs.Record.{Item, Record, Took}
use Rattle.world_model.specs.World.{Call, Cells, Run, World, call_at, is_call_at, world}

-- the layouts of logs that are known
abbrev pub Known : Type 0
Known = (node partition : ℕ) → Option Layout

abbrev pub called_layouts : LogSettings → Cells → Known → Option Call → Reply → Known
called_layouts settings cells known None reply n p = known n p
called_layouts settings cells known (Some call) reply n p =
    cond ((n == call.node) && (p == call.partition)) (option_map (λ layout. packed_by settings layout (cells n p (id_of call.ask)) call.ask reply) (known n p)) (known n p)

-- The layouts behind an item of a record: a fault leaves open what that replica's is, from then on, and so does what a replica merges.
abbrev pub item_layouts : LogSettings → World → Known → Item → Known
item_layouts settings w known (Took (steps.Exec send reply)) n p = called_layouts settings w.cells known (call_at w send) reply n p
item_layouts settings w known (Took (steps.Torn send)) n p = cond (is_call_at (call_at w send) n p) None (known n p)
item_layouts settings w known (Took (steps.Merge node partition reply place torn)) n p = cond ((n == node) && (p == partition)) None (known n p)
item_layouts settings w known _ n p = known n p

-- the layouts behind a record that began with these cells and these layouts
abbrev pub layouts_after : LogSettings → Cells → Known → Record → Known
layouts_after settings opening first [] = first
layouts_after settings opening first (item ∷ before) = item_layouts settings (world opening before) (layouts_after settings opening first before) item

-- a world's places, with these layouts
abbrev pub places_of : World → Known → Places
places_of w known n p = record { cells = w.cells n p; doubt = w.doubts n p; layout = known n p }

-- the places that a record leads to
abbrev pub places_after : LogSettings → Cells → Known → Record → Places
places_after settings opening first record' = places_of (world opening record') (layouts_after settings opening first record')

-- a replica of the shape was full just where its layout says so, where that is known
abbrev pub IsCallPacked : Shape → Places → Option Call → Reply → Type 0
IsCallPacked shape places None reply = Unit {0}
IsCallPacked shape places (Some call) reply = has_replica shape call.node call.partition ≡ true → IsPackedBy (settings_of shape) (places call.node call.partition) call.ask reply

abbrev pub IsItemPacked : Shape → World → Places → Item → Type 0
IsItemPacked shape w places (Took (steps.Exec send reply)) = IsCallPacked shape places (call_at w send) reply
IsItemPacked shape w places _ = Unit {0}

abbrev pub AllPacked : Shape → Cells → Known → Record → Type 0
AllPacked shape opening first [] = Unit {0}
AllPacked shape opening first (item ∷ before) = AllPacked shape opening first before × IsItemPacked shape (world opening before) (places_after (settings_of shape) opening first before) item

-- What disks of a type tell, and where bays keep them.
module _ {B D : Type 0} (content : D → Content) (home : B → Home D) where
  -- A record is a run from these cells, each replica was full by its layout, and the nodes hold what it leads to: without a word on faults.
  pub record LeadsTo (shape : Shape) (folder : List ℕ) (opening : Cells) (first : Known) (record' : Record) (nodes : NodesState B D) : Type 0 where
    pub run : Run opening record'
    pub packed : AllPacked shape opening first record'
    pub holds : Holds content home shape folder (places_after (settings_of shape) opening first record') nodes
