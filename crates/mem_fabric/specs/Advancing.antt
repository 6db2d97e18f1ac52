-- What calls make of the network in memory: of its bays, its disks and its schedule.
use Rattle.std.specs.Prelude.{◌≡◌, ℕ, Bool, List}
use Rattle.disk_core.specs.Content.{Content}
use Rattle.disk_core.specs.Homes.{Home, Out}
use Rattle.lab_nodes.specs.Nodes.{NodesState}
use Rattle.mem_fabric.specs.Going.{KeepsBays}
use Rattle.mem_fabric.specs.Packing.{KeepsPacking}
use Rattle.mem_fabric.specs.Past.{calls_of}
use Rattle.mem_fabric.specs.Played.{Plays}
use Rattle.mem_fabric.specs.Sound.{State, network_of}
use Rattle.world_model.specs.declared.offers.GivenMove.{GivenMove}

-- Whether bays and disks tell, and what bays, disks and moves tell.
module _ {B D M : Type 0} (bays_tell disks_tell : Type 0) (content : D → Content) (home : B → Home D) (out : B → Out) (same_bays : B → B → Type 0) (given : M → List GivenMove) (seeds : M → List ℕ) (same_moves : M → M → Type 0) where
  -- The moves that were given meanwhile were played, the schedule is the same and wasn't begun anew, the bays are the same, and what was
  -- packed still is.
  pub record PlaysOver (moves : M) (s : State) (nodes : NodesState B D) (moves' : M) (s' : State) (nodes' : NodesState B D) (whole : Bool) : Type 0 where
    pub played : Plays (given moves) (network_of s) (given moves') (network_of s') whole
    pub same : same_moves moves moves'
    pub begun : seeds moves' ≡ seeds moves
    pub bays : KeepsBays bays_tell out same_bays nodes nodes'
    pub packing : KeepsPacking disks_tell content home (calls_of s.past) nodes (calls_of s'.past) nodes'
