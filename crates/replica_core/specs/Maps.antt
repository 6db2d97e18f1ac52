-- The map of a log: the cell of each id is the join of its records.
use Rattle.std.specs.Prelude.{◌≡◌, ◌⊎◌, ℕ, ◌+◌, List, [], ◌∷◌, Bool, true, if◌then◌else◌}
use Rattle.std.specs.Ordering.{nat_cmp}
use Rattle.std.specs.Cmp.Lexicographic.{slice_cmp}
use Rattle.std.specs.BTreeMap.{is_at}
use Rattle.disk_core.specs.Content.{Content}
use Rattle.cell_model.specs.declared.cell.Cell.{Cell}
use Rattle.cell_model.specs.declared.cell.Cell.TheVariants.{Absent, Held, Gone}
use Rattle.cell_model.specs.Cells.{join}
use Rattle.log_manifest.specs.declared.manifest.LogSettings.{LogSettings}
use Rattle.msg_format.specs.declared.record.Record.{Record}
use Rattle.msg_format.specs.declared.record.Record.TheVariants.{Put, Delete}
use Rattle.msg_format.specs.Records.{id_of, is_gone}
use Rattle.part_log.specs.Images.{StandsFor}

-- whether two ids are one, by the order of ids
abbrev pub is_same : List ℕ → List ℕ → Bool
is_same id other = is_at (slice_cmp nat_cmp id) other

-- what a record brings to the cell of its id
abbrev pub cell_of : Record → Cell
cell_of (Put lsn id blob) = Held blob
cell_of (Delete lsn id created) = Gone

-- what a cell of the second id is to the first one: this cell, where they are one
abbrev pub cell_for : List ℕ → List ℕ → Cell → Cell
cell_for id other cell = if is_same other id then cell else Absent

-- the cell that records give to an id: the join of what they bring to it
abbrev pub cell_from : List Record → List ℕ → Cell
cell_from [] id = Absent
cell_from (r ∷ records) id = join (cell_for id (id_of r) (cell_of r)) (cell_from records id)

-- A record that changes a cell: any one where there is none, and a delete where a blob is held.
abbrev pub MayCome : Cell → Record → Type 0
MayCome Absent entry = Unit {0}
MayCome (Held blob) entry = is_gone entry ≡ true
MayCome Gone entry = ⊥

-- These records give each id this cell.
abbrev pub GiveCells : List Record → (List ℕ → Cell) → Type 0
GiveCells records cells = (id : List ℕ) → cells id ≡ cell_from records id

-- These bytes stand for records that give each id this cell, and for this end lsn.
pub record StandsForCells (settings : LogSettings) (bytes : List ℕ) (cells : List ℕ → Cell) (end : ℕ) : Type 0 where
  pub records : List Record
  pub stands : StandsFor settings bytes records end
  pub give : GiveCells records cells

-- Whatever a crash leaves of this content, it stands for these records and this end lsn.
abbrev pub AllStandFor : LogSettings → Content → List Record → ℕ → Type 0
AllStandFor settings content records end = (c : List ℕ) → content.images c → StandsFor settings c records end

-- And the records give each id this cell.
pub record AllStandForCells (settings : LogSettings) (content : Content) (cells : List ℕ → Cell) (end : ℕ) : Type 0 where
  pub records : List Record
  pub stand : AllStandFor settings content records end
  pub give : GiveCells records cells

-- the cells with one joined to that of an id
abbrev pub with_joined : (List ℕ → Cell) → List ℕ → Cell → List ℕ → Cell
with_joined cells id cell other = join (cells other) (cell_for other id cell)

-- At each moment of a call that may join a cell to that of an id: bytes that stand for the cells from before, or for those with it.
abbrev pub JoinsCell : LogSettings → (List ℕ → Cell) → ℕ → List ℕ → Cell → List ℕ → List ℕ → Type 0
JoinsCell settings cells end id cell old new = StandsForCells settings new cells end ⊎ StandsForCells settings new (with_joined cells id cell) (end + 1)
