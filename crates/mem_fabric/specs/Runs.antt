-- Runs that lead to what the nodes hold.
use Rattle.std.specs.Prelude.{◌≡◌, ℕ, false, List}
use Rattle.disk_core.specs.Content.{Content}
use Rattle.disk_core.specs.Homes.{Home}
use Rattle.lab_nodes.specs.Nodes.{Holds, NodesState}
use Rattle.mem_fabric.specs.Torn.{has_torn}
use Rattle.world_model.specs.declared.shape.Shape.{Shape}
use Rattle.world_model.specs.declared.step.Called.{Called}
use Rattle.world_model.specs.Told.{told}
use Rattle.world_model.specs.World.{Cells, world, Run}

-- Whether disks tell, what they tell, and where bays keep them.
module _ {B D : Type 0} (tells : Type 0) (content : D → Content) (home : B → Home D) where
  -- what was told is a run from these cells, and leads to what the nodes hold
  pub record LeadsTo (shape : Shape) (folder : List ℕ) (opening : Cells) (calls : List Called) (nodes : NodesState B D) : Type 0 where
    pub run : Run opening (told calls)
    pub holds : Holds content home shape folder ((world opening (told calls)).cells) nodes

  -- Where disks tell, what was told is such a run, unless it leaves something in doubt.
  abbrev pub RunsFrom : List Called → NodesState B D → Shape → List ℕ → Cells → Type 0
  RunsFrom calls nodes shape folder opening = tells → has_torn calls ≡ false → LeadsTo shape folder opening calls nodes
