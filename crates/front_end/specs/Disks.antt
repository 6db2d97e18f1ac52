-- The disks of a run: what they held before it, and what they hold after it.
use Rattle.std.specs.Prelude.{◌≡◌, ℕ, true, false, List, ◌++◌}
use Rattle.disk_core.specs.Content.{Content}
use Rattle.disk_core.specs.Homes.{Home}
use Rattle.lab_nodes.specs.Layouts.{HomeHasLayouts, Layouts}
use Rattle.lab_nodes.specs.Nodes.{HomeHolds}
use Rattle.lab_nodes.specs.Spots.{DiskFailed}
use Rattle.lab_nodes.specs.Starting.{IsFirst}
use Rattle.lab_nodes.specs.declared.places.Which.{Which}
use Rattle.mem_fabric.specs.Network.{nothing}
use Rattle.mem_fabric.specs.Packing.{AllPacked}
use Rattle.mem_fabric.specs.Played.{Act, AllMay, all_acted, moves_of}
use Rattle.mem_fabric.specs.Torn.{has_torn}
use Rattle.world_model.specs.declared.offers.GivenMove.{GivenMove}
use Rattle.world_model.specs.declared.order.Refusal.{Refusal}
use Rattle.world_model.specs.declared.shape.Shape.{Shape}
use Rattle.world_model.specs.declared.step.Called.{Called}
use Rattle.world_model.specs.Told.{told}
use Rattle.world_model.specs.World.{Cells, world}

-- What is said of the disks of a run, by the calls that were told.
pub record Disks : Type 1 where
  -- these calls left nothing in doubt, and the disks that were handed in are known to stand for these cells
  pub opens : List Called → Cells → Type 0
  -- what holds of the disks behind these calls
  pub leaves : List Called → Type 0
  -- the disks stand for what they stood for
  pub stay : Type 0
  -- this disk is the first one that can't be opened
  pub refuses : Refusal → Type 0

-- Whether bays and disks tell, what they tell, how large they are, how often they failed, and where bays keep them.
module _ {B D : Type 0} (bays_tell tells : Type 0) (content : D → Content) (size faults : D → ℕ) (home : B → Home D) where
  -- disks that tell stand for these cells of a shape in a folder, and no call left anything in doubt
  abbrev pub Opens : Shape → List ℕ → B → List Called → Cells → Type 0
  Opens shape folder bays calls opening = tells × (has_torn calls ≡ false) × HomeHolds content home shape folder bays opening

  -- The disks are at home and stand for the last cells of what was told, also what a crash leaves of them. Something is in doubt only where a
  -- disk failed. Each replica was full just where the packing of its records says so, from the layouts of the disks that were handed in.
  abbrev pub Leaves : Shape → List ℕ → (old new : B) → List Called → Type 0
  Leaves shape folder old new calls =
      ((opening : Cells) → Opens shape folder old calls opening → HomeHolds content home shape folder new (world opening (told calls)).cells)
      × (has_torn calls ≡ true → tells → ∥ DiskFailed faults ∥₁)
      × ((opening : Cells) (first : Layouts) → Opens shape folder old calls opening → HomeHasLayouts content home shape folder old first → AllPacked shape opening first (told calls))

  abbrev pub Stay : Shape → List ℕ → B → B → Type 0
  Stay shape folder old new = tells → (cells : Cells) → HomeHolds content home shape folder old cells → HomeHolds content home shape folder new cells

  abbrev pub Refuses : Shape → List ℕ → B → Refusal → Type 0
  Refuses shape folder bays refusal = bays_tell → IsFirst tells content size Which.All shape folder (home bays) refusal

  -- the disks of a shape in a folder, where bays became these
  abbrev pub disks_of : Shape → List ℕ → B → B → Disks
  disks_of shape folder old new =
      record { opens = Opens shape folder old; leaves = Leaves shape folder old new; stay = Stay shape folder old new; refuses = Refuses shape folder old }

-- Further calls were told, by acts that took these moves from the beginning, of which some may have found no memory, and this holds behind them.
pub record LeavesLater (leaves : List Called → Type 0) (moves : List GivenMove) (calls : List Called) : Type 0 where
  pub since : List Called
  pub acts : List Act
  pub may : AllMay nothing acts
  pub took : moves ≡ moves_of nothing acts
  pub told : since ++ calls ≡ (all_acted nothing acts).calls
  pub left : leaves (since ++ calls)
