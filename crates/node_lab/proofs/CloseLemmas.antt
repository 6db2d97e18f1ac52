-- What nodes are when all of them were closed.
use Rattle.std.proofs.Common.{◌≡◌, ℕ, Bool, true, List, [], length, Option, Some, None, refl, sym, ◌∙◌, ap, subst}
use Rattle.std.specs.Prelude.{IsSome}
use Rattle.disk_core.specs.Content.{Content}
use Rattle.disk_core.specs.Homes.{Home, Out}
use Rattle.node_core.specs.Ports.{port_in}
use Rattle.replica_core.specs.State.{ReplicaState}
use Rattle.world_model.specs.declared.shape.Shape.{Shape}
use Rattle.node_lab.specs.declared.state.NodeState.{NodeState}
use Rattle.node_lab.specs.Calls.{ClosesNodes}
use Rattle.node_lab.specs.Nodes.{HoldsSome, IsNodes, IsOpen, ports_at}
use Rattle.node_lab.specs.Replicas.{settings_of}
use Rattle.node_lab.specs.Slots.{GoesHome, OtherFoldersStay, slot_in}
use Rattle.node_lab.proofs.StopLemmas.{some_on}

pub no_none : (T : Type 0) → IsSome {T = T} None → ⊥
no_none T some = absurd (cc some)

-- nodes that are open are so for a shape
pub open_nodes : {B D : Type 0} (bays_tell tells : Type 0) (content : D → Content) (size : D → ℕ) (home : B → Home D) (out : B → Out) (o : Option Shape) (folder : List ℕ) (bays : B) (nodes : List (NodeState (ReplicaState D))) → IsSome o
    → IsNodes bays_tell tells content size home out o folder bays nodes → (shape : Shape) × (o ≡ Some shape) × IsOpen bays_tell tells content size home out shape folder bays nodes
open_nodes bays_tell tells content size home out None folder bays nodes some it = absurd (cc some)
open_nodes bays_tell tells content size home out (Some shape) folder bays nodes some it = (shape, refl, it)

module _ {B D : Type 0} (bays_tell tells : Type 0) (content : D → Content) (size : D → ℕ) (home : B → Home D) (out : B → Out) (stops : Bool) (folder : List ℕ) (bays new_bays : B) (nodes new_nodes : List (NodeState (ReplicaState D)))
    (gone : (n : ℕ) → ports_at new_nodes n ≡ [])
    (goes : bays_tell → (n p : ℕ) → GoesHome tells content size stops (port_in (ports_at nodes n) p) (slot_in (port_in (ports_at nodes n) p) (home bays) (out bays) folder n p) (slot_in None (home new_bays) (out new_bays) folder n p)) where
  nobody : (n p : ℕ) → port_in (ports_at new_nodes n) p ≡ None
  nobody n p = ap (λ (l : List (ℕ × ReplicaState D)). port_in l p) (gone n)

  -- all replicas are closed
  pub all_closed : (shape : Option Shape) → (bays_tell → OtherFoldersStay folder (home bays) (home new_bays))
      → ClosesNodes bays_tell tells content size home out (λ n. true) stops (record { shape = shape; folder = folder; bays = bays; nodes = nodes }) (record { shape = shape; folder = folder; bays = new_bays; nodes = new_nodes })
  all_closed shape folders = record {
    replicas = nobody;
    slots = λ t n p. subst (λ (o : Option (ReplicaState D)). GoesHome tells content size stops (port_in (ports_at nodes n) p) (slot_in (port_in (ports_at nodes n) p) (home bays) (out bays) folder n p) (slot_in o (home new_bays) (out new_bays) folder n p)) (sym (nobody n p)) (goes t n p);
    folders = folders;
    shape = refl;
    same_folder = refl;
  }

  -- nodes that are open still are
  pub still_open : (shape : Shape) → (tells → bays_tell) → length new_nodes ≡ length nodes → IsOpen bays_tell tells content size home out shape folder bays nodes → IsOpen bays_tell tells content size home out shape folder new_bays new_nodes
  still_open shape known long it = record {
    ranges = it.ranges;
    long = long ∙ it.long;
    due = λ n p some. absurd (no_none (ReplicaState D) (subst (λ (o : Option (ReplicaState D)). IsSome o) (nobody n p) some));
    outs = λ t n p some. absurd (no_none (ReplicaState D) (subst (λ (o : Option (ReplicaState D)). IsSome o) (nobody n p) some));
    places = λ t n p due. subst (λ (o : Option (ReplicaState D)). HoldsSome content size (settings_of shape) o (home new_bays folder n p)) (sym (nobody n p))
        (some_on tells content size stops (settings_of shape) (slot_in (port_in (ports_at nodes n) p) (home bays) (out bays) folder n p) (slot_in None (home new_bays) (out new_bays) folder n p) t (goes (known t) n p) (it.places t n p due));
  }
