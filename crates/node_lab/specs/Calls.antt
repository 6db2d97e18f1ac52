-- What each call makes of the nodes: exactly the replicas and the disks that it is about change.
use Rattle.std.specs.Prelude.{◌≡◌, ◌≢◌, ◌⊎◌, ℕ, Bool, true, false, cond, List, Option, Some, None, IsSome}
use Rattle.cell_model.specs.declared.ask.Ask.{Ask}
use Rattle.cell_model.specs.declared.ask.Reply.{Reply}
use Rattle.disk_core.specs.Content.{Content}
use Rattle.disk_core.specs.Homes.{Home, Out}
use Rattle.log_manifest.specs.declared.manifest.LogSettings.{LogSettings}
use Rattle.node_core.specs.Ports.{port_in}
use Rattle.node_lab.specs.declared.state.NodeState.{NodeState}
use Rattle.node_lab.specs.Nodes.{NodesState, is_up, ports_at, replica_at, slot_at}
use Rattle.node_lab.specs.Slots.{ClosesWhere, EachSlot, OpensWhere, OtherFoldersStay, StaysClosedWhere}
use Rattle.outside.specs.Causes.{Rose}
use Rattle.replica_core.specs.State.{IsAsked, ReplicaState}

-- What a replica was asked, and what it is then: where none is open, that is said and stays so.
module _ {D : Type 0} (tells : Type 0) (content : D → Content) (size faults : D → ℕ) where
  abbrev pub AsksReplica : Option (ReplicaState D) → Ask → Reply → Option (ReplicaState D) → Type 0
  AsksReplica None ask reply new = (reply ≡ Reply.NoPartition) × (new ≡ None)
  AsksReplica (Some replica) ask reply None = ⊥
  AsksReplica (Some replica) ask reply (Some new) = IsAsked tells content size faults replica ask reply new

  -- The port of a partition was asked, and all others of its node stay.
  pub record AsksPorts (old : List (ℕ × ReplicaState D)) (partition : ℕ) (ask : Ask) (reply : Reply) (new : List (ℕ × ReplicaState D)) : Type 0 where
    pub here : AsksReplica (port_in old partition) ask reply (port_in new partition)
    pub others : (p : ℕ) → p ≢ partition → port_in new p ≡ port_in old p

  -- The replica of a node and a partition was asked, and all else stays.
  pub record AsksNodes {B : Type 0} (old : NodesState B D) (node partition : ℕ) (ask : Ask) (reply : Reply) (new : NodesState B D) : Type 0 where
    pub here : AsksReplica (replica_at old node partition) ask reply (replica_at new node partition)
    pub others : (n p : ℕ) → (n ≢ node) ⊎ (p ≢ partition) → replica_at new n p ≡ replica_at old n p
    pub same_bays : new.bays ≡ old.bays
    pub shape : new.shape ≡ old.shape
    pub folder : new.folder ≡ old.folder

  -- the device of an open replica failed in this call
  abbrev pub FailedIn : Option (ReplicaState D) → Option (ReplicaState D) → Type 0
  FailedIn None new = ⊥
  FailedIn (Some replica) None = ⊥
  FailedIn (Some replica) (Some after) = Rose (faults replica.log.disk) (faults after.log.disk)

-- the disks of these replicas of a node are out under this folder
abbrev pub PortsOut : {D : Type 0} → List ℕ → ℕ → List (ℕ × ReplicaState D) → Out → Type 0
PortsOut folder node ports out = (p : ℕ) → IsSome (port_in ports p) → out node p ≡ Some folder

-- and those of all nodes
abbrev pub NodesOut : {D : Type 0} → List ℕ → List (NodeState (ReplicaState D)) → Out → Type 0
NodesOut folder nodes out = (n : ℕ) → PortsOut folder n (ports_at nodes n) out

-- a replica's disk is out under the nodes' folder where it is open, and else as it was before they were opened
abbrev pub IsOutAs : Bool → List ℕ → (before now : Option (List ℕ)) → Type 0
IsOutAs false folder before now = now ≡ before
IsOutAs true folder before now = (before ≡ None) × (now ≡ Some folder)

-- Beside the disks of the open replicas those are out that were when the nodes were made.
abbrev pub OnlyOwnOut : {B D : Type 0} → (out : B → Out) → (before : Out) → NodesState B D → Type 0
OnlyOwnOut out before nodes = (n p : ℕ) → IsOutAs (is_up nodes n p) nodes.folder (before n p) (out nodes.bays n p)

-- What bays and disks of their type tell.
module _ {B D : Type 0} (bays_tell tells : Type 0) (content : D → Content) (size : D → ℕ) (home : B → Home D) (out : B → Out) where
  -- The nodes that are meant are closed: their disks go home, and all other nodes, with their disks, stay.
  pub record ClosesNodes (meant : ℕ → Bool) (stops : Bool) (old new : NodesState B D) : Type 0 where
    pub replicas : (n p : ℕ) → replica_at new n p ≡ cond (meant n) None (replica_at old n p)
    pub slots : bays_tell → EachSlot (λ n p. ClosesWhere tells content size (meant n) stops) (slot_at home out old.folder old) (slot_at home out old.folder new)
    pub folders : bays_tell → OtherFoldersStay old.folder (home old.bays) (home new.bays)
    pub shape : new.shape ≡ old.shape
    pub same_folder : new.folder ≡ old.folder

  -- The replicas that are due are opened over the disks of a folder, and all others, with their disks, stay.
  pub record OpensNodes (due : ℕ → ℕ → Bool) (settings : LogSettings) (folder : List ℕ) (old new : NodesState B D) : Type 0 where
    pub up : (n p : ℕ) → due n p ≡ true → is_up new n p ≡ true
    pub others : (n p : ℕ) → due n p ≡ false → replica_at new n p ≡ replica_at old n p
    pub slots : bays_tell → EachSlot (λ n p. OpensWhere tells content size (due n p) settings folder) (slot_at home out folder old) (slot_at home out folder new)
    pub folders : bays_tell → OtherFoldersStay folder (home old.bays) (home new.bays)

  -- None of the replicas that are due is opened: the disks are at home, and what they hold stays.
  pub record StayUnopened (due : ℕ → ℕ → Bool) (settings : LogSettings) (folder : List ℕ) (old new : NodesState B D) : Type 0 where
    pub replicas : (n p : ℕ) → replica_at new n p ≡ replica_at old n p
    pub slots : bays_tell → EachSlot (λ n p. StaysClosedWhere tells content size (due n p) settings) (slot_at home out folder old) (slot_at home out folder new)
    pub folders : bays_tell → OtherFoldersStay folder (home old.bays) (home new.bays)
    pub shape : new.shape ≡ old.shape
    pub same_folder : new.folder ≡ old.folder
