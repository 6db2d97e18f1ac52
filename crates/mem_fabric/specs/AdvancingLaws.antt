-- What calls make of the network in memory adds up.
use Rattle.std.specs.Prelude.{ℕ, Bool, true, false, ◌&&◌, List, refl}
use Rattle.std.proofs.Common.{◌∙◌}
use Rattle.disk_core.specs.Content.{Content}
use Rattle.disk_core.specs.Homes.{Home, Out}
use Rattle.lab_nodes.specs.Nodes.{NodesState}
use Rattle.mem_fabric.specs.Advancing.{PlaysOver}
use Rattle.mem_fabric.specs.GoingLaws.{bays_stay, bays_on, packing_stays, packing_on}
use Rattle.mem_fabric.specs.Past.{calls_of}
use Rattle.mem_fabric.specs.PlayedLaws.{plays_nothing, plays_on, plays_anyhow}
use Rattle.mem_fabric.specs.Sound.{State, network_of}
use Rattle.world_model.specs.declared.offers.GivenMove.{GivenMove}

module _ {B D M : Type 0} (bays_tell disks_tell : Type 0) (content : D → Content) (home : B → Home D) (out : B → Out) (same_bays : B → B → Type 0) (given : M → List GivenMove) (seeds : M → List ℕ) (same_moves : M → M → Type 0) where
  abbrev Over : M → State → NodesState B D → M → State → NodesState B D → Bool → Type 0
  Over = PlaysOver bays_tell disks_tell content home out same_bays given seeds same_moves

  pub over_nothing : (moves : M) (s : State) (nodes : NodesState B D) → same_moves moves moves → same_bays nodes.bays nodes.bays → Over moves s nodes moves s nodes true
  over_nothing moves s nodes same kept = record {
    played = plays_nothing (given moves) (network_of s) true;
    same = same;
    begun = refl;
    bays = bays_stay bays_tell out same_bays nodes kept;
    packing = packing_stays disks_tell content home (calls_of s.past) nodes;
  }

  pub over_on : (m1 : M) (s1 : State) (n1 : NodesState B D) (m2 : M) (s2 : State) (n2 : NodesState B D) (m3 : M) (s3 : State) (n3 : NodesState B D) (x y : Bool)
      → (same_moves m1 m2 → same_moves m2 m3 → same_moves m1 m3) → (same_bays n1.bays n2.bays → same_bays n2.bays n3.bays → same_bays n1.bays n3.bays)
      → Over m1 s1 n1 m2 s2 n2 x → Over m2 s2 n2 m3 s3 n3 y → Over m1 s1 n1 m3 s3 n3 (x && y)
  over_on m1 s1 n1 m2 s2 n2 m3 s3 n3 x y moves_join bays_join p q = record {
    played = plays_on (given m1) (network_of s1) (given m2) (network_of s2) (given m3) (network_of s3) x y p.played q.played;
    same = moves_join p.same q.same;
    begun = q.begun ∙ p.begun;
    bays = bays_on bays_tell out same_bays n1 n2 n3 bays_join p.bays q.bays;
    packing = packing_on disks_tell content home (calls_of s1.past) n1 (calls_of s2.past) n2 (calls_of s3.past) n3 p.packing q.packing;
  }

  pub over_anyhow : (m1 : M) (s1 : State) (n1 : NodesState B D) (m2 : M) (s2 : State) (n2 : NodesState B D) (x : Bool) → Over m1 s1 n1 m2 s2 n2 x → Over m1 s1 n1 m2 s2 n2 false
  over_anyhow m1 s1 n1 m2 s2 n2 x p =
      record { played = plays_anyhow (given m1) (network_of s1) (given m2) (network_of s2) x p.played; same = p.same; begun = p.begun; bays = p.bays; packing = p.packing }
