-- What each replica holds: the cells, a change in doubt, and the layout of its log.
use Rattle.std.specs.Prelude.{◌≡◌, ◌≢◌, ℕ, Bool, true, false, cond, Option, Some, None, IsSome}
use Rattle.std.specs.Option.{option_map}
use Rattle.blob_id.specs.declared.id.BlobId.{BlobId}
use Rattle.cell_model.specs.declared.ask.Ask.{Ask}
use Rattle.cell_model.specs.declared.ask.Reply.{Reply}
use Rattle.cell_model.specs.declared.ask.Reply.TheVariants as replied
use Rattle.cell_model.specs.declared.cell.Cell.{Cell}
use Rattle.cell_model.specs.declared.cell.Cell.TheVariants.{Absent, Held, Gone}
use Rattle.cell_model.specs.Asks.{brought, id_of, landed}
use Rattle.cell_model.specs.Cells.{cell_in, join}
use Rattle.cell_model.specs.Pages.{PagesCells}
use Rattle.disk_core.specs.Content.{Content}
use Rattle.log_manifest.specs.declared.manifest.LogSettings.{LogSettings}
use Rattle.node_lab.specs.Replicas.{HoldsPlace, PlaceHasLayout, settled}
use Rattle.part_log.specs.Layout.{Layout}
use Rattle.replica_core.specs.State.{IsPacked, ReplicaState, packed_by}
use Rattle.world_model.specs.World.{Change, MayReply, same_id}

-- What a replica holds: its cells, what may have been joined to them beside, and the layout of its log, as long as it is known: a fault leaves it open.
pub record Place : Type 0 where
  pub cells : BlobId → Cell
  pub doubt : Option Change
  pub layout : Option Layout

-- one for each node and partition
abbrev pub Places : Type 0
Places = (node partition : ℕ) → Place

-- a place that was never written
abbrev pub IsBlank : Place → Type 0
IsBlank place = ((id : BlobId) → place.cells id ≡ Absent) × (place.doubt ≡ None)

-- whether a reply says that the replica's device failed
abbrev pub is_fault : Reply → Bool
is_fault replied.Fault = true
is_fault _ = false

-- what an ask joins to the cells of its place
abbrev pub landed_cells : (BlobId → Cell) → Ask → Reply → BlobId → Cell
landed_cells cells ask reply id = join (cells id) (cond (same_id id (id_of ask)) (landed ask reply) Absent)

-- A place behind an ask: what the ask brought is joined, or, where the device failed, it is in doubt.
abbrev pub asked_place : LogSettings → Ask → Reply → Place → Place
asked_place settings ask reply place = cond (is_fault reply)
    (record { cells = place.cells; doubt = Some (record { id = id_of ask; cell = brought ask }); layout = None })
    (record {
      cells = landed_cells place.cells ask reply;
      doubt = place.doubt;
      layout = option_map (λ layout. packed_by settings layout (place.cells (id_of ask)) ask reply) place.layout;
    })

-- a place whose doubt is settled so
abbrev pub settled_place : Bool → Place → Place
settled_place landed place = record { cells = settled landed place.cells place.doubt; doubt = None; layout = place.layout }

-- whether a cell has what a change brings
abbrev pub has_brought : Cell → Cell → Bool
has_brought Absent cell = true
has_brought (Held b) Absent = false
has_brought (Held b) cell = true
has_brought Gone Gone = true
has_brought Gone cell = false

-- whether a replica has what was in doubt
abbrev pub has_change : {D : Type 0} → Option Change → ReplicaState D → Bool
has_change None replica = false
has_change (Some change) replica = has_brought change.cell (cell_in replica.cells change.id)

-- whether the replica that is open in a place has it
abbrev pub landed_at : {D : Type 0} → Option Change → Option (ReplicaState D) → Bool
landed_at doubt None = false
landed_at doubt (Some replica) = has_change doubt replica

-- What disks of a type tell.
module _ {D : Type 0} (content : D → Content) where
  abbrev pub KnowsLayout : LogSettings → Option (ReplicaState D) → Option D → Option Layout → Type 0
  KnowsLayout settings slot home None = Unit {0}
  KnowsLayout settings slot home (Some layout) = PlaceHasLayout content settings slot home layout

  -- What the replica of a place holds: open, or by what its disk stands for.
  pub record HoldsHere (settings : LogSettings) (slot : Option (ReplicaState D)) (home : Option D) (place : Place) : Type 0 where
    pub cells : HoldsPlace content settings slot home place.cells place.doubt
    pub layout : KnowsLayout settings slot home place.layout

  -- in a place of the shape; another one has no replica, and was never written
  abbrev pub HoldsAt : (due : Bool) → LogSettings → Option (ReplicaState D) → Option D → Place → Type 0
  HoldsAt false settings slot home place = (slot ≡ None) × IsBlank place
  HoldsAt true settings slot home place = HoldsHere settings slot home place

-- An ask of a place is full exactly where its record has no place in the layout, where that is known, unless memory runs out.
abbrev pub IsPackedBy : LogSettings → Place → Ask → Reply → Type 0
IsPackedBy settings place ask reply = (layout : Layout) → place.layout ≡ Some layout → IsPacked settings layout (place.cells (id_of ask)) ask reply

-- What a replica that is open answers. One with something in doubt is down, and no other; a device fails only where nothing is in doubt.
pub record AnswersBy (settings : LogSettings) (place : Place) (ask : Ask) (reply : Reply) : Type 0 where
  pub says : reply ≢ Reply.Fault → MayReply place.doubt (place.cells (id_of ask)) ask reply
  pub sure : reply ≡ Reply.Fault → place.doubt ≡ None
  pub down : reply ≡ Reply.Down → IsSome place.doubt
  pub there : reply ≢ Reply.NoPartition
  pub pages : PagesCells place.cells reply
  pub packed : IsPackedBy settings place ask reply
