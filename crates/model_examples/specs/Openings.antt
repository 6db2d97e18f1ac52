-- What replicas hold at first, written out.
use Rattle.std.specs.Prelude.{ℕ, cond, List, [], ◌∷◌}
use Rattle.blob_id.specs.declared.id.BlobId.{BlobId}
use Rattle.cell_model.specs.declared.cell.Cell.{Cell}
use Rattle.world_model.specs.World.{Cells, is_at}

-- a replica's cell of an id
pub record Holding : Type 0 where
  pub node : ℕ
  pub partition : ℕ
  pub id : BlobId
  pub cell : Cell

-- the cells that are listed, the first of a replica and an id; all others are absent
abbrev pub cells_of : List Holding → Cells
cells_of [] n p id = Cell.Absent
cells_of (h ∷ rest) n p id = cond (is_at h.node h.partition h.id n p id) h.cell (cells_of rest n p id)

abbrev pub nothing : Cells
nothing = cells_of []
