-- What nodes are when they were opened, or weren't.
use Rattle.std.proofs.Common.{◌≡◌, ℕ, zero, suc, Bool, false, List, [], length, Option, Some, None, refl, sym, ◌∙◌, ap, subst}
use Rattle.std.specs.Option.{is_some}
use Rattle.cell_model.specs.Cells.{cell_in}
use Rattle.disk_core.specs.Content.{Content}
use Rattle.disk_core.specs.Homes.{Home, Out}
use Rattle.log_manifest.specs.declared.manifest.LogSettings.{LogSettings}
use Rattle.node_core.specs.Ports.{port_in}
use Rattle.part_log.specs.Log.{disk_size}
use Rattle.replica_core.specs.State.{ReplicaState}
use Rattle.world_model.specs.declared.shape.Shape.{Shape}
use Rattle.world_model.specs.Shape.{IsShape}
use Rattle.node_lab.specs.declared.state.NodeState.{NodeState}
use Rattle.node_lab.specs.Calls.{OpensNodes, StayUnopened}
use Rattle.node_lab.specs.Nodes.{HoldsSome, IsNodes, IsOpen, NodesState, has_replica, never_opened, ports_at, replica_at, slot_at}
use Rattle.node_lab.specs.Replicas.{settings_of}
use Rattle.node_lab.specs.Slots.{FailedAt, OpensAs, OpensSlot, OpensWhere, OtherFoldersStay, ReplicaSlot, SomeFailed, StaysClosedWhere, slot_in}
use Rattle.node_lab.proofs.ReplicaLemmas.{held_up}
use Rattle.node_lab.proofs.SlotLemmas.{opened_out, opens_where}

-- a slot that was opened holds what its replica does
pub opened_some : {D : Type 0} (tells : Type 0) (content : D → Content) (size : D → ℕ) (settings : LogSettings) (folder : List ℕ) (old new : ReplicaSlot D) → OpensSlot tells content size settings folder old new → HoldsSome content size settings new.replica new.home
opened_some {D} tells content size settings folder old new opens =
    subst (λ (s : ReplicaSlot D). HoldsSome content size settings s.replica s.home) (sym opens.is) (record {
      cells = cell_in opens.replica.cells;
      doubt = None;
      holds = held_up content settings opens.replica (cell_in opens.replica.cells) None opens.opened.up (record { sure = refl; named = opens.opened.named; held = λ id. refl });
      open_size = λ opened is.
          let same : opens.replica ≡ opened = cc is in
          subst (λ (r : ReplicaState D). size r.log.disk ≡ disk_size settings) same opens.bytes;
      home_size = λ disk at. absurd (let no : ◌≡◌ {A = Option D} None (Some disk) = at in cc);
    })

pub none_of : {T : Type 0} (o : Option T) → is_some o ≡ false → o ≡ None
none_of None is = refl
none_of (Some x) is = absurd (cc is)

-- nobody is open in an empty list
pub nobody : {B D : Type 0} (nodes : NodesState B D) → nodes.nodes ≡ [] → (n p : ℕ) → replica_at nodes n p ≡ None
nobody {B} {D} nodes none n p = ap (λ (l : List (NodeState (ReplicaState D))). port_in (ports_at l n) p) none ∙ at n
  where
    at : (n : ℕ) → port_in (ports_at {P = ReplicaState D} [] n) p ≡ None
    at zero = refl
    at (suc n) = refl

module _ {B D : Type 0} (bays_tell tells : Type 0) (content : D → Content) (size : D → ℕ) (home : B → Home D) (out : B → Out) (shape : Shape) (folder : List ℕ) (old : NodesState B D) (closed : old.shape ≡ None)
    (was : IsNodes bays_tell tells content size home out old.shape old.folder old.bays old.nodes) (new_bays : B) where
  empty : (old.folder ≡ []) × (old.nodes ≡ [])
  empty = subst (λ (o : Option Shape). IsNodes bays_tell tells content size home out o old.folder old.bays old.nodes) closed was

  none_old : (n p : ℕ) → replica_at old n p ≡ None
  none_old = nobody old empty.1

  module _ (nodes : List (NodeState (ReplicaState D))) (up : (n p : ℕ) → is_some (port_in (ports_at nodes n) p) ≡ has_replica shape n p)
      (slots : bays_tell → (n p : ℕ) → OpensAs tells content size (port_in (ports_at nodes n) p) (has_replica shape n p) (settings_of shape) folder (slot_in None (home old.bays) (out old.bays) folder n p) (slot_in (port_in (ports_at nodes n) p) (home new_bays) (out new_bays) folder n p)) where
    opened_at : bays_tell → (n p : ℕ) → OpensWhere tells content size (has_replica shape n p) (settings_of shape) folder (slot_in None (home old.bays) (out old.bays) folder n p) (slot_in (port_in (ports_at nodes n) p) (home new_bays) (out new_bays) folder n p)
    opened_at t n p = opens_where tells content size (settings_of shape) (has_replica shape n p) folder (slot_in None (home old.bays) (out old.bays) folder n p) (slot_in (port_in (ports_at nodes n) p) (home new_bays) (out new_bays) folder n p) (up n p) (slots t n p)

    -- all replicas of the shape are open
    pub is_open : (tells → bays_tell) → IsShape shape → length nodes ≡ shape.nodes → IsOpen bays_tell tells content size home out shape folder new_bays nodes
    is_open known ranges long = record {
      ranges = ranges;
      long = long;
      due = λ n p some. sym (up n p) ∙ some;
      outs = λ t n p some. opened_out tells content size (settings_of shape) (has_replica shape n p) folder (slot_in None (home old.bays) (out old.bays) folder n p) (slot_in (port_in (ports_at nodes n) p) (home new_bays) (out new_bays) folder n p) (slots t n p) some;
      places = λ t n p due. opened_some tells content size (settings_of shape) folder (slot_in None (home old.bays) (out old.bays) folder n p) (slot_in (port_in (ports_at nodes n) p) (home new_bays) (out new_bays) folder n p)
          (subst (λ (b : Bool). OpensWhere tells content size b (settings_of shape) folder (slot_in None (home old.bays) (out old.bays) folder n p) (slot_in (port_in (ports_at nodes n) p) (home new_bays) (out new_bays) folder n p)) due (opened_at (known t) n p));
    }

    pub opens_nodes : (bays_tell → OtherFoldersStay folder (home old.bays) (home new_bays)) → OpensNodes bays_tell tells content size home out (has_replica shape) (settings_of shape) folder old (record { shape = Some shape; folder = folder; bays = new_bays; nodes = nodes })
    opens_nodes folders = record {
      up = λ n p due. up n p ∙ due;
      others = λ n p due. none_of (port_in (ports_at nodes n) p) (up n p ∙ due) ∙ sym (none_old n p);
      slots = λ t n p. subst (λ (o : Option (ReplicaState D)). OpensWhere tells content size (has_replica shape n p) (settings_of shape) folder (slot_in o (home old.bays) (out old.bays) folder n p) (slot_in (port_in (ports_at nodes n) p) (home new_bays) (out new_bays) folder n p)) (sym (none_old n p)) (opened_at t n p);
      folders = folders;
    }

  -- none is opened
  pub stay_unopened : (bays_tell → (n p : ℕ) → StaysClosedWhere tells content size (has_replica shape n p) (settings_of shape) (slot_in None (home old.bays) (out old.bays) folder n p) (slot_in None (home new_bays) (out new_bays) folder n p))
      → (bays_tell → OtherFoldersStay folder (home old.bays) (home new_bays)) → StayUnopened bays_tell tells content size home out (has_replica shape) (settings_of shape) folder old (record { shape = old.shape; folder = old.folder; bays = new_bays; nodes = old.nodes })
  stay_unopened stays folders = record {
    replicas = λ n p. refl;
    slots = λ t n p. subst (λ (o : Option (ReplicaState D)). StaysClosedWhere tells content size (has_replica shape n p) (settings_of shape) (slot_in o (home old.bays) (out old.bays) folder n p) (slot_in o (home new_bays) (out new_bays) folder n p)) (sym (none_old n p)) (stays t n p);
    folders = folders;
    shape = refl;
    same_folder = refl;
  }

  pub is_never_opened : ◌≡◌ {A = NodesState B D} (record { shape = old.shape; folder = old.folder; bays = new_bays; nodes = old.nodes }) (never_opened new_bays)
  is_never_opened =
      ap (λ (s : Option Shape). with_all s old.folder old.nodes) closed ∙ ap (λ (f : List ℕ). with_all None f old.nodes) empty.0 ∙ ap (λ (l : List (NodeState (ReplicaState D))). with_all None [] l) empty.1
    where
      with_all : Option Shape → List ℕ → List (NodeState (ReplicaState D)) → NodesState B D
      with_all s f l = record { shape = s; folder = f; bays = new_bays; nodes = l }

  pub some_failed : (faults : D → ℕ) → SomeFailed tells content size faults (has_replica shape) (slot_in None (home old.bays) (out old.bays) folder) (slot_in None (home new_bays) (out new_bays) folder)
      → SomeFailed tells content size faults (has_replica shape) (slot_at home out folder old) (slot_at home out folder (record { shape = old.shape; folder = old.folder; bays = new_bays; nodes = old.nodes }))
  some_failed faults failed =
      let n = failed.node in
      let p = failed.partition in
      record {
        node = n;
        partition = p;
        due_there = failed.due_there;
        here = subst (λ (o : Option (ReplicaState D)). FailedAt tells content size faults (slot_in o (home old.bays) (out old.bays) folder n p) (slot_in o (home new_bays) (out new_bays) folder n p)) (sym (none_old n p)) failed.here;
      }
