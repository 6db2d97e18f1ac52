-- A node is stopped: its disks go home, and all other nodes stay.
use Rattle.std.proofs.Common.{◌≡◌, ◌≢◌, inl, inr, ℕ, zero, suc, ◌+◌, ◌<◌, ◌==◌, arith, Bool, true, false, cond, List, [], length, slice_set, Option, Some, None, refl, sym, ◌∙◌, ap, subst}
use Rattle.std.specs.List.{slice_get}
use Rattle.std.specs.Prelude.{IsSome}
use Rattle.std.proofs.lemmas.Bool.{cases_eq}
use Rattle.disk_core.specs.Content.{Content}
use Rattle.disk_core.specs.Homes.{Home, Out}
use Rattle.log_manifest.specs.declared.manifest.LogSettings.{LogSettings}
use Rattle.node_core.specs.Ports.{port_in}
use Rattle.part_log.specs.Log.{disk_size}
use Rattle.replica_core.specs.State.{ReplicaState}
use Rattle.world_model.specs.declared.shape.Shape.{Shape}
use Rattle.world_model.proofs.CellLaws.{number_true, same_number}
use Rattle.node_lab.specs.declared.state.NodeState.{NodeState}
use Rattle.node_lab.specs.Replicas.{settings_of}
use Rattle.node_lab.specs.Nodes.{HoldsSome, IsOpen, NodesState, ports_of, replica_at, slot_at}
use Rattle.node_lab.specs.Calls.{ClosesNodes}
use Rattle.node_lab.specs.Slots.{ClosesWhere, GoesHome, OtherNodesStay, ReplicaSlot}
use Rattle.node_lab.proofs.NodeAskLemmas.{ports_other, ports_set}
use Rattle.node_lab.proofs.SlotLemmas.{same_slot}

no_none : (T : Type 0) → IsSome {T = T} None → ⊥
no_none T some = absurd (cc some)

pub not_same : (n node : ℕ) → n ≢ node → (n == node) ≡ false
not_same n node other = go (n == node) refl
  where
    go : (b : Bool) → (n == node) ≡ b → (n == node) ≡ false
    go true is = absurd (other (number_true n node is))
    go false is = is

-- what was held by a place that is closed is held on
pub some_on : {D : Type 0} (tells : Type 0) (content : D → Content) (size : D → ℕ) (stops : Bool) (settings : LogSettings) (old new : ReplicaSlot D) → tells → GoesHome tells content size stops old.replica old new → HoldsSome content size settings old.replica old.home → HoldsSome content size settings new.replica new.home
some_on {D} tells content size stops settings old new t goes some = go old.replica refl goes
  where
    go : (o : Option (ReplicaState D)) → old.replica ≡ o → GoesHome tells content size stops o old new → HoldsSome content size settings new.replica new.home
    go None none same = subst (λ (s : ReplicaSlot D). HoldsSome content size settings s.replica s.home) (sym same) some
    go (Some replica) has goes =
        let went = goes.0 in
        record {
          cells = some.cells;
          doubt = some.doubt;
          holds = (goes.1 t settings).0 some.cells some.doubt some.holds;
          open_size = λ r at. absurd (let no : ◌≡◌ {A = Option (ReplicaState D)} None (Some r) = sym (ap (λ (s : ReplicaSlot D). s.replica) went.is) ∙ at in cc);
          home_size = λ disk at.
              let both : ◌≡◌ {A = Option D} (Some went.kept) (Some disk) = sym (ap (λ (s : ReplicaSlot D). s.home) went.is) ∙ at in
              let same : went.kept ≡ disk = cc both in
              subst (λ (d : D). size d ≡ disk_size settings) same (went.bytes ∙ some.open_size replica has);
        }

module _ {B D : Type 0} (bays_tell tells : Type 0) (content : D → Content) (size : D → ℕ) (home : B → Home D) (out : B → Out) (stops : Bool) (shape : Option Shape) (folder : List ℕ) (bays new_bays : B) (nodes : List (NodeState (ReplicaState D))) (node place : ℕ) (x : NodeState (ReplicaState D))
    (is : node ≡ place + 1) (within : place < length nodes) (gone : ports_of (Some x) ≡ [])
    (slots : bays_tell → (p : ℕ) → GoesHome tells content size stops (port_in (ports_of (slice_get nodes place)) p)
    (record { replica = port_in (ports_of (slice_get nodes place)) p; home = home bays folder node p; out = out bays node p })
    (record { replica = None; home = home new_bays folder node p; out = out new_bays node p }))
    (others : bays_tell → OtherNodesStay folder node (home bays) (out bays) (home new_bays) (out new_bays)) where
  abbrev at_first : NodesState B D
  at_first = record { shape = shape; folder = folder; bays = bays; nodes = nodes }

  abbrev at_last : NodesState B D
  at_last = record { shape = shape; folder = folder; bays = new_bays; nodes = slice_set nodes place x }

  next : node ≡ suc place
  next = omega (arith, is)

  pub here_none : (p : ℕ) → replica_at at_last node p ≡ None
  here_none p = subst (λ (n : ℕ). replica_at at_last n p ≡ None) (sym next) (ap (λ (l : List (ℕ × ReplicaState D)). port_in l p) (ports_set nodes place x within ∙ gone))

  pub others_same : (n p : ℕ) → n ≢ node → replica_at at_last n p ≡ replica_at at_first n p
  others_same zero p other = refl
  others_same (suc k) p other = ap (λ (o : Option (NodeState (ReplicaState D))). port_in (ports_of o) p) (ports_other nodes place k x (λ same. other (omega (arith, same, next))))

  -- the slot of the node itself
  pub slot_here : bays_tell → (p : ℕ) → GoesHome tells content size stops (replica_at at_first node p) (slot_at home out folder at_first node p) (slot_at home out folder at_last node p)
  slot_here t p =
      subst (λ (s : Option (ReplicaState D)). GoesHome tells content size stops (replica_at at_first node p) (slot_at home out folder at_first node p) (record { replica = s; home = home new_bays folder node p; out = out new_bays node p })) (sym (here_none p))
      (subst (λ (n : ℕ). GoesHome tells content size stops (replica_at at_first n p) (record { replica = replica_at at_first n p; home = home bays folder node p; out = out bays node p }) (record { replica = None; home = home new_bays folder node p; out = out new_bays node p })) (sym next) (slots t p))

  pub slot_other : bays_tell → (n p : ℕ) → n ≢ node → slot_at home out folder at_last n p ≡ slot_at home out folder at_first n p
  slot_other t n p other =
      same_slot (replica_at at_first n p) (replica_at at_last n p) (home bays folder n p) (home new_bays folder n p) (out bays n p) (out new_bays n p) (others_same n p other) ((others t).homes folder n p (inr other)) ((others t).outs n p other)

  pub nodes_closed : ClosesNodes bays_tell tells content size home out (λ n. n == node) stops at_first at_last
  nodes_closed = record {
    replicas = λ n p. elim (cases_eq n node) [
      | inl same ↦
          subst (λ (i : ℕ). replica_at at_last i p ≡ cond (i == node) None (replica_at at_first i p)) (sym same) (here_none p ∙ ap (λ (b : Bool). cond b None (replica_at at_first node p)) (sym (same_number node)))
      | inr other ↦ others_same n p other ∙ ap (λ (b : Bool). cond b None (replica_at at_first n p)) (sym (not_same n node other))
    ];
    slots = λ t n p. elim (cases_eq n node) [
      | inl same ↦ subst (λ (i : ℕ). ClosesWhere tells content size (i == node) stops (slot_at home out folder at_first i p) (slot_at home out folder at_last i p)) (sym same)
          (subst (λ (b : Bool). ClosesWhere tells content size b stops (slot_at home out folder at_first node p) (slot_at home out folder at_last node p)) (sym (same_number node)) (slot_here t p))
      | inr other ↦ subst (λ (b : Bool). ClosesWhere tells content size b stops (slot_at home out folder at_first n p) (slot_at home out folder at_last n p)) (sym (not_same n node other)) (slot_other t n p other)
    ];
    folders = λ t f n p other. (others t).homes f n p (inl other);
    shape = refl;
    same_folder = refl;
  }

  -- nodes that are open still are
  pub open_closed : (s : Shape) (known : tells → bays_tell) → length (slice_set nodes place x) ≡ length nodes → IsOpen bays_tell tells content size home out s folder bays nodes → IsOpen bays_tell tells content size home out s folder new_bays (slice_set nodes place x)
  open_closed s known long it = record {
    ranges = it.ranges;
    long = long ∙ it.long;
    due = λ n p some. elim (cases_eq n node) [
      | inl same ↦ absurd (no_none (ReplicaState D) (subst (λ (o : Option (ReplicaState D)). IsSome o) (subst (λ (i : ℕ). replica_at at_last i p ≡ None) (sym same) (here_none p)) some))
      | inr other ↦ it.due n p (subst (λ (o : Option (ReplicaState D)). IsSome o) (others_same n p other) some)
    ];
    outs = λ t n p some. elim (cases_eq n node) [
      | inl same ↦ absurd (no_none (ReplicaState D) (subst (λ (o : Option (ReplicaState D)). IsSome o) (subst (λ (i : ℕ). replica_at at_last i p ≡ None) (sym same) (here_none p)) some))
      | inr other ↦ (others t).outs n p other ∙ it.outs t n p (subst (λ (o : Option (ReplicaState D)). IsSome o) (others_same n p other) some)
    ];
    places = λ t n p due. elim (cases_eq n node) [
      | inl same ↦ subst (λ (i : ℕ). HoldsSome content size (settings_of s) (replica_at at_last i p) (home new_bays folder i p)) (sym same)
          (some_on tells content size stops (settings_of s) (slot_at home out folder at_first node p) (slot_at home out folder at_last node p) t (slot_here (known t) p)
          (subst (λ (i : ℕ). HoldsSome content size (settings_of s) (replica_at at_first i p) (home bays folder i p)) same (it.places t n p due)))
      | inr other ↦ subst (λ (q : ReplicaSlot D). HoldsSome content size (settings_of s) q.replica q.home) (sym (slot_other (known t) n p other)) (it.places t n p due)
    ];
  }
