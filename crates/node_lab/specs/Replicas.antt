-- What the replica of a place holds: open, or by what its disk stands for.
use Rattle.std.specs.Prelude.{◌≡◌, ℕ, List, Bool, true, false, Option, Some, None, IsSome, replicate}
use Rattle.blob_id.specs.declared.id.BlobId.{BlobId}
use Rattle.cell_model.specs.declared.cell.Cell.{Cell}
use Rattle.cell_model.specs.declared.cell.Cell.TheVariants.{Absent}
use Rattle.cell_model.specs.Cells.{join, cell_in}
use Rattle.disk_core.specs.Content.{Content, Stops}
use Rattle.disk_core.specs.Homes.{SameContent}
use Rattle.log_manifest.specs.declared.manifest.LogSettings.{LogSettings}
use Rattle.part_log.specs.Images.{IsLaidOut}
use Rattle.part_log.specs.Layout.{Layout}
use Rattle.part_log.specs.Log.{disk_size, layout_of}
use Rattle.replica_core.specs.Maps.{StandsForCells}
use Rattle.replica_core.specs.State.{ReplicaState}
use Rattle.world_model.specs.declared.shape.Shape.{Shape}
use Rattle.world_model.specs.World.{Change, arriving_change}

-- the settings of the logs of a shape
abbrev pub settings_of : Shape → LogSettings
settings_of shape = record { segment = shape.log.segment; segments = shape.log.segments; index = shape.log.index }

-- the cells with what is in doubt joined
abbrev pub joined : (BlobId → Cell) → Option Change → BlobId → Cell
joined cells doubt id = join (cells id) (arriving_change doubt id)

-- the cells where what was in doubt was joined, or wasn't
abbrev pub settled : Bool → (BlobId → Cell) → Option Change → BlobId → Cell
settled true cells doubt = joined cells doubt
settled false cells doubt = cells

-- These bytes stand for these cells, or for those with what is in doubt.
pub record RepresentsEither (settings : LogSettings) (bytes : List ℕ) (cells : BlobId → Cell) (doubt : Option Change) : Type 0 where
  pub landed : Bool
  pub end : ℕ
  pub stands : StandsForCells settings bytes (settled landed cells doubt) end

-- whatever a crash leaves stands for them
abbrev pub AllRepresentEither : LogSettings → Content → (BlobId → Cell) → Option Change → Type 0
AllRepresentEither settings content cells doubt = (c : List ℕ) → content.images c → RepresentsEither settings c cells doubt

-- A replica that isn't down holds these very cells, and nothing of it is in doubt.
pub record HoldsUp {D : Type 0} (settings : LogSettings) (replica : ReplicaState D) (cells : BlobId → Cell) (doubt : Option Change) : Type 0 where
  pub sure : doubt ≡ None
  pub named : replica.log.table.settings ≡ settings
  pub held : (id : BlobId) → cell_in replica.cells id ≡ cells id

-- An open replica that isn't down has a log of these settings and this layout.
pub record LogHasLayout {D : Type 0} (settings : LogSettings) (replica : ReplicaState D) (layout : Layout) : Type 0 where
  pub up : replica.down ≡ false
  pub named : replica.log.table.settings ≡ settings
  pub is : layout_of replica.log.table ≡ layout

-- What disks of a type tell.
module _ {D : Type 0} (content : D → Content) where
  -- An open replica, by whether it is down: one that is has something in doubt.
  abbrev pub HoldsOpen : LogSettings → Bool → ReplicaState D → (BlobId → Cell) → Option Change → Type 0
  HoldsOpen settings false replica cells doubt = HoldsUp settings replica cells doubt
  HoldsOpen settings true replica cells doubt = IsSome doubt × AllRepresentEither settings (content replica.log.disk) cells doubt

  -- A place holds these cells, and this is in doubt: by its open replica, or by the disk that is at home. Where it has no disk yet it holds nothing.
  abbrev pub HoldsPlace : LogSettings → Option (ReplicaState D) → Option D → (BlobId → Cell) → Option Change → Type 0
  HoldsPlace settings (Some replica) home cells doubt = HoldsOpen settings replica.down replica cells doubt
  HoldsPlace settings None (Some disk) cells doubt = AllRepresentEither settings (content disk) cells doubt
  HoldsPlace settings None None cells doubt = (id : BlobId) → cells id ≡ Absent

  -- the bytes that an opening finds in a place: those of the disk at home, or zeros
  abbrev pub found : LogSettings → Option D → List ℕ
  found settings None = replicate (disk_size settings) 0
  found settings (Some disk) = (content disk).seen

  -- where no replica is open, the layout is that of the bytes that an opening finds
  abbrev pub PlaceHasLayout : LogSettings → Option (ReplicaState D) → Option D → Layout → Type 0
  PlaceHasLayout settings (Some replica) home layout = LogHasLayout settings replica layout
  PlaceHasLayout settings None home layout = IsLaidOut settings (found settings home) layout

  -- A replica as an opening of its place makes it: it holds what the disk stood for, in its layout.
  pub record IsOpened (tells : Type 0) (settings : LogSettings) (home : Option D) (replica : ReplicaState D) : Type 0 where
    pub up : replica.down ≡ false
    pub named : replica.log.table.settings ≡ settings
    pub stood : tells → StandsForCells settings (found settings home) (cell_in replica.cells) replica.log.table.end
    pub laid_out : tells → IsLaidOut settings (found settings home) (layout_of replica.log.table)

  -- what is left of a disk that goes home: all of it, or what a stop of the machine leaves
  abbrev pub Left : (stops : Bool) → D → D → Type 0
  Left true old new = Stops (content old) (content new)
  Left false old new = SameContent (content old) (content new)
