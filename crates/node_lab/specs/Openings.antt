-- One step of opening: a replica more of a node, and a node more.
use Rattle.std.specs.Prelude.{◌≡◌, ℕ, Bool, true, List, [], ◌∷◌, ◌++◌, Option, Some, None}
use Rattle.std.specs.Option.{is_some}
use Rattle.disk_core.specs.Content.{Content}
use Rattle.disk_core.specs.Homes.{Home, Out}
use Rattle.log_manifest.specs.declared.manifest.LogSettings.{LogSettings}
use Rattle.node_core.specs.Ports.{port_in}
use Rattle.node_lab.specs.declared.state.NodeState.{NodeState}
use Rattle.node_lab.specs.Nodes.{ports_of}
use Rattle.node_lab.specs.Slots.{FailedAt, OpensWhere, slot_in}
use Rattle.replica_core.specs.State.{ReplicaState}

-- the ports of a node, with this replica of a partition behind them, if there is one
abbrev pub AddsPort : {D : Type 0} → Option (ReplicaState D) → ℕ → (old new : List (ℕ × ReplicaState D)) → Type 0
AddsPort None partition old new = new ≡ old
AddsPort (Some replica) partition old new = new ≡ old ++ (partition, replica) ∷ []

-- What disks of a type tell, and their size, and where the disks were and are.
module _ {D : Type 0} (bays_tell tells : Type 0) (content : D → Content) (size : D → ℕ) (settings : LogSettings) (folder : List ℕ) (node : ℕ) (home : Home D) (out : Out) (new_home : Home D) (new_out : Out) where
  -- Where a replica of the partition is due it is opened, and stands behind the others.
  pub record OpensPort (due : Bool) (partition : ℕ) (old new : List (ℕ × ReplicaState D)) : Type 0 where
    pub opened : Option (ReplicaState D)
    pub up : is_some opened ≡ due
    pub adds : AddsPort opened partition old new
    pub slot : bays_tell → OpensWhere tells content size due settings folder (slot_in None home out folder node partition) (slot_in opened new_home new_out folder node partition)

  -- These are the ports of the node: the replicas that are due, and no other, are open.
  pub record OpensPorts (due : ℕ → Bool) (ports : List (ℕ × ReplicaState D)) : Type 0 where
    pub up : (p : ℕ) → is_some (port_in ports p) ≡ due p
    pub slots : bays_tell → (p : ℕ) → OpensWhere tells content size (due p) settings folder (slot_in None home out folder node p) (slot_in (port_in ports p) new_home new_out folder node p)

  -- The node stands behind the others, with its replicas open.
  pub record OpensNode (due : ℕ → Bool) (old new : List (NodeState (ReplicaState D))) : Type 0 where
    pub state : NodeState (ReplicaState D)
    pub adds : new ≡ old ++ state ∷ []
    pub opens : OpensPorts due (ports_of (Some state))

  -- The disk of a replica of this node that was to be opened failed.
  pub record NodeFailed (faults : D → ℕ) (due : ℕ → Bool) : Type 0 where
    pub partition : ℕ
    pub due_there : due partition ≡ true
    pub here : FailedAt tells content size faults (slot_in None home out folder node partition) (slot_in None new_home new_out folder node partition)
