-- Which disk of those that were to be opened a refusal names.
use Rattle.std.specs.Prelude.{◌≡◌, ◌⊎◌, ℕ, ◌<◌, Bool, true, Option}
use Rattle.blob_id.specs.declared.id.BlobId.{BlobId}
use Rattle.cell_model.specs.declared.cell.Cell.{Cell}
use Rattle.disk_core.specs.Content.{Content}
use Rattle.log_manifest.specs.declared.manifest.LogSettings.{LogSettings}
use Rattle.node_lab.specs.Replicas.{found}
use Rattle.node_lab.specs.Slots.{HasLogSize, IsCause}
use Rattle.replica_core.specs.Maps.{StandsForCells}
use Rattle.world_model.specs.declared.order.Refusal.{Refusal}

-- A disk that can be opened: it has the size, and stands for some cells.
pub record CanOpen {D : Type 0} (tells : Type 0) (content : D → Content) (size : D → ℕ) (settings : LogSettings) (home : Option D) : Type 0 where
  pub bytes : HasLogSize size settings home
  pub cells : BlobId → Cell
  pub end : ℕ
  pub stands : StandsForCells settings (found content settings home) cells end

-- an earlier place, by node and then by partition
abbrev pub IsEarlier : (node partition : ℕ) → (n p : ℕ) → Type 0
IsEarlier node partition n p = (n < node) ⊎ ((n ≡ node) × (p < partition))

-- The refusal names the first place of those that are due whose disk isn't opened, by node and then by partition, and why.
pub record IsFirst {D : Type 0} (tells : Type 0) (content : D → Content) (size : D → ℕ) (due : ℕ → ℕ → Bool) (settings : LogSettings) (home : ℕ → ℕ → Option D) (refusal : Refusal) : Type 0 where
  pub due_there : due refusal.node refusal.partition ≡ true
  pub cause : IsCause tells content size settings (home refusal.node refusal.partition) refusal.what
  pub earlier : tells → (n p : ℕ) → IsEarlier refusal.node refusal.partition n p → due n p ≡ true → CanOpen tells content size settings (home n p)
