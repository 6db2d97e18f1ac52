-- A node that was stopped is opened again, or isn't: all other nodes stay.
use Rattle.std.proofs.Common.{◌≡◌, ◌≢◌, ◌⊎◌, inl, inr, ⊎_elim, ℕ, zero, suc, ◌+◌, ◌<◌, ◌&&◌, arith, Bool, true, false, List, length, length-set, slice_set, Option, Some, None, refl, sym, ◌∙◌, ap, subst}
use Rattle.std.specs.Option.{is_some}
use Rattle.std.specs.Prelude.{IsSome}
use Rattle.std.proofs.lemmas.Bool.{cases_eq}
use Rattle.disk_core.specs.Content.{Content}
use Rattle.disk_core.specs.Homes.{Home, Out}
use Rattle.node_core.specs.Ports.{port_in}
use Rattle.replica_core.specs.State.{ReplicaState}
use Rattle.world_model.specs.declared.shape.Shape.{Shape}
use Rattle.world_model.proofs.CellLaws.{same_number}
use Rattle.node_lab.specs.declared.state.NodeState.{NodeState}
use Rattle.node_lab.specs.Calls.{OpensNodes, StayUnopened}
use Rattle.node_lab.specs.Nodes.{HoldsSome, IsOpen, NodesState, has_replica, is_of_node, ports_at, ports_of, slot_at}
use Rattle.node_lab.specs.Openings.{NodeFailed, OpensPorts}
use Rattle.node_lab.specs.Replicas.{settings_of}
use Rattle.node_lab.specs.Slots.{FailedAt, OpensWhere, OtherNodesStay, ReplicaSlot, SomeFailed, StaysClosed, StaysClosedWhere, slot_in}
use Rattle.node_lab.proofs.CloseLemmas.{no_none}
use Rattle.node_lab.proofs.NodeAskLemmas.{ports_other, ports_set}
use Rattle.node_lab.proofs.NodeListLemmas.{unhosted}
use Rattle.node_lab.proofs.OpenNodesLemmas.{none_of, opened_some}
use Rattle.node_lab.proofs.SlotLemmas.{same_slot}
use Rattle.node_lab.proofs.StopLemmas.{not_same}

-- What holds of nodes for the shape that they are open for holds of the same nodes under another name.
pub same_shape : {N : Type 0} (shape_of : N → Option Shape) (v w : N) → v ≡ w → (shape : Shape) → shape_of v ≡ Some shape → (P : Shape → N → Type 0) → P shape v → (s : Shape) → shape_of w ≡ Some s → P s w
same_shape {N} shape_of v w same shape is P holds s at =
    let both : ◌≡◌ {A = Option Shape} (Some shape) (Some s) = sym is ∙ ap shape_of same ∙ at in
    let one : shape ≡ s = cc both in
    subst (λ (n : N). P s n) same (subst (λ (x : Shape). P x v) one holds)

pub other_name : (Q : Option Shape → List ℕ → Type 0) (o : Option Shape) (shape : Shape) (f g : List ℕ) → o ≡ Some shape → f ≡ g → Q (Some shape) f → Q o g
other_name Q o shape f g is same holds = subst (λ (x : Option Shape). Q x g) (sym is) (subst (λ (h : List ℕ). Q (Some shape) h) same holds)

module _ (shape : Shape) (node : ℕ) where
  -- whether a replica is one of the node
  of_here : (p : ℕ) → is_of_node shape node node p ≡ has_replica shape node p
  of_here p = ap (λ (b : Bool). b && has_replica shape node p) (same_number node)

  of_other : (n p : ℕ) → n ≢ node → is_of_node shape node n p ≡ false
  of_other n p other = ap (λ (b : Bool). b && has_replica shape n p) (not_same n node other)

module _ {B D : Type 0} (bays_tell tells : Type 0) (content : D → Content) (size : D → ℕ) (home : B → Home D) (out : B → Out) (shape : Shape) (folder : List ℕ) (bays : B) (nodes : List (NodeState (ReplicaState D)))
    (it : IsOpen bays_tell tells content size home out shape folder bays nodes) (node : ℕ) where
  abbrev pub before : NodesState B D
  before = record { shape = Some shape; folder = folder; bays = bays; nodes = nodes }

  -- the shape has no such node
  pub nothing_due : (node ≡ 0) ⊎ (length nodes < node) → (n p : ℕ) → is_of_node shape node n p ≡ false
  nothing_due outside n p = elim (cases_eq n node) [
    | inr other ↦ of_other shape node n p other
    | inl same ↦ subst (λ (i : ℕ). is_of_node shape node i p ≡ false) (sym same) (of_here shape node p
        ∙ unhosted shape node p it.ranges (⊎_elim (λ (a : node ≡ 0). inl a) (λ (b : length nodes < node). inr (let long = it.long in omega (arith, b, long))) outside))
  ]

  pub opens_nothing : (node ≡ 0) ⊎ (length nodes < node) → OpensNodes bays_tell tells content size home out (is_of_node shape node) (settings_of shape) folder before before
  opens_nothing outside = record {
    up = λ n p due. absurd (let no = nothing_due outside n p in cc);
    others = λ n p due. refl;
    slots = λ t n p. subst (λ (b : Bool). OpensWhere tells content size b (settings_of shape) folder (slot_at home out folder before n p) (slot_at home out folder before n p)) (sym (nothing_due outside n p)) refl;
    folders = λ t f n p other. refl;
  }

  module _ (stopped : (p : ℕ) → port_in (ports_at nodes node) p ≡ None) (new_bays : B) (others : bays_tell → OtherNodesStay folder node (home bays) (out bays) (home new_bays) (out new_bays)) where
    -- the slot of another node
    slot_other : bays_tell → (n p : ℕ) (r : Option (ReplicaState D)) → n ≢ node → slot_in r (home new_bays) (out new_bays) folder n p ≡ slot_in r (home bays) (out bays) folder n p
    slot_other t n p r other = same_slot r r (home bays folder n p) (home new_bays folder n p) (out bays n p) (out new_bays n p) refl ((others t).homes folder n p (inr other)) ((others t).outs n p other)

    -- the node isn't opened
    module _ (closed : bays_tell → (p : ℕ) → StaysClosedWhere tells content size (has_replica shape node p) (settings_of shape) (slot_in None (home bays) (out bays) folder node p) (slot_in None (home new_bays) (out new_bays) folder node p)) where
      abbrev pub unopened : NodesState B D
      unopened = record { shape = Some shape; folder = folder; bays = new_bays; nodes = nodes }

      pub stays : StayUnopened bays_tell tells content size home out (is_of_node shape node) (settings_of shape) folder before unopened
      stays = record {
        replicas = λ n p. refl;
        slots = λ t n p. elim (cases_eq n node) [
          | inl same ↦ subst (λ (i : ℕ). StaysClosedWhere tells content size (is_of_node shape node i p) (settings_of shape) (slot_at home out folder before i p) (slot_at home out folder unopened i p)) (sym same)
              (subst (λ (b : Bool). StaysClosedWhere tells content size b (settings_of shape) (slot_at home out folder before node p) (slot_at home out folder unopened node p)) (sym (of_here shape node p))
              (subst (λ (o : Option (ReplicaState D)). StaysClosedWhere tells content size (has_replica shape node p) (settings_of shape) (slot_in o (home bays) (out bays) folder node p) (slot_in o (home new_bays) (out new_bays) folder node p)) (sym (stopped p)) (closed t p)))
          | inr other ↦ subst (λ (b : Bool). StaysClosedWhere tells content size b (settings_of shape) (slot_at home out folder before n p) (slot_at home out folder unopened n p)) (sym (of_other shape node n p other)) (slot_other t n p (port_in (ports_at nodes n) p) other)
        ];
        folders = λ t f n p other. (others t).homes f n p (inl other);
        shape = refl;
        same_folder = refl;
      }

      -- what a slot that stays closed holds
      some_stays : (p : ℕ) → bays_tell → tells → has_replica shape node p ≡ true → HoldsSome content size (settings_of shape) None (home bays folder node p) → HoldsSome content size (settings_of shape) None (home new_bays folder node p)
      some_stays p b t due some =
          let stay : StaysClosed tells content size (settings_of shape) (slot_in None (home bays) (out bays) folder node p) (slot_in None (home new_bays) (out new_bays) folder node p) =
          subst (λ (d : Bool). StaysClosedWhere tells content size d (settings_of shape) (slot_in None (home bays) (out bays) folder node p) (slot_in None (home new_bays) (out new_bays) folder node p)) due (closed b p) in
          record {
            cells = some.cells;
            doubt = some.doubt;
            holds = stay.keeps t some.cells some.doubt some.holds;
            open_size = λ opened is. absurd (let no : ◌≡◌ {A = Option (ReplicaState D)} None (Some opened) = is in cc);
            home_size = stay.bytes some.home_size;
          }

      pub still_open : (tells → bays_tell) → IsOpen bays_tell tells content size home out shape folder new_bays nodes
      still_open known = record {
        ranges = it.ranges;
        long = it.long;
        due = it.due;
        outs = λ t n p some. elim (cases_eq n node) [
          | inl same ↦ absurd (no_none (ReplicaState D) (subst (λ (o : Option (ReplicaState D)). IsSome o) (stopped p) (subst (λ (i : ℕ). IsSome (port_in (ports_at nodes i) p)) same some)))
          | inr other ↦ (others t).outs n p other ∙ it.outs t n p some
        ];
        places = λ t n p due. elim (cases_eq n node) [
          | inl same ↦
              subst (λ (i : ℕ). HoldsSome content size (settings_of shape) (port_in (ports_at nodes i) p) (home new_bays folder i p)) (sym same)
              (subst (λ (o : Option (ReplicaState D)). HoldsSome content size (settings_of shape) o (home new_bays folder node p)) (sym (stopped p))
              (some_stays p (known t) t (subst (λ (i : ℕ). has_replica shape i p ≡ true) same due)
              (subst (λ (o : Option (ReplicaState D)). HoldsSome content size (settings_of shape) o (home bays folder node p)) (stopped p)
              (subst (λ (i : ℕ). HoldsSome content size (settings_of shape) (port_in (ports_at nodes i) p) (home bays folder i p)) same (it.places t n p due)))))
          | inr other ↦ subst (λ (h : Option D). HoldsSome content size (settings_of shape) (port_in (ports_at nodes n) p) h) (sym ((others (known t)).homes folder n p (inr other))) (it.places t n p due)
        ];
      }

    -- the disk of one of its replicas failed
    pub some_failed : (faults : D → ℕ) → (bays_tell → NodeFailed bays_tell tells content size (settings_of shape) folder node (home bays) (out bays) (home new_bays) (out new_bays) faults (has_replica shape node))
        → bays_tell → SomeFailed tells content size faults (is_of_node shape node) (slot_at home out folder before) (slot_at home out folder (record { shape = Some shape; folder = folder; bays = new_bays; nodes = nodes }))
    some_failed faults failed t =
        let one = failed t in
        record {
          node = node;
          partition = one.partition;
          due_there = of_here shape node one.partition ∙ one.due_there;
          here = subst (λ (o : Option (ReplicaState D)). FailedAt tells content size faults (slot_in o (home bays) (out bays) folder node one.partition) (slot_in o (home new_bays) (out new_bays) folder node one.partition)) (sym (stopped one.partition)) one.here;
        }

    -- the node is opened
    module _ (place : ℕ) (x : NodeState (ReplicaState D)) (is : node ≡ place + 1) (within : place < length nodes)
        (opens : OpensPorts bays_tell tells content size (settings_of shape) folder node (home bays) (out bays) (home new_bays) (out new_bays) (has_replica shape node) (ports_of (Some x))) where
      abbrev pub behind : NodesState B D
      behind = record { shape = Some shape; folder = folder; bays = new_bays; nodes = slice_set nodes place x }

      next : node ≡ suc place
      next = omega (arith, is)

      at_here : (p : ℕ) → port_in (ports_at (slice_set nodes place x) node) p ≡ port_in (ports_of (Some x)) p
      at_here p = subst (λ (n : ℕ). port_in (ports_at (slice_set nodes place x) n) p ≡ port_in (ports_of (Some x)) p) (sym next) (ap (λ (l : List (ℕ × ReplicaState D)). port_in l p) (ports_set nodes place x within))

      at_other : (n p : ℕ) → n ≢ node → port_in (ports_at (slice_set nodes place x) n) p ≡ port_in (ports_at nodes n) p
      at_other zero p other = refl
      at_other (suc k) p other = ap (λ (o : Option (NodeState (ReplicaState D))). port_in (ports_of o) p) (ports_other nodes place k x (λ same. other (omega (arith, same, next))))

      slot_new : bays_tell → (p : ℕ) → OpensWhere tells content size (has_replica shape node p) (settings_of shape) folder (slot_at home out folder before node p) (slot_at home out folder behind node p)
      slot_new t p =
          subst (λ (o : Option (ReplicaState D)). OpensWhere tells content size (has_replica shape node p) (settings_of shape) folder (slot_in o (home bays) (out bays) folder node p) (slot_at home out folder behind node p)) (sym (stopped p))
          (subst (λ (o : Option (ReplicaState D)). OpensWhere tells content size (has_replica shape node p) (settings_of shape) folder (slot_in None (home bays) (out bays) folder node p) (slot_in o (home new_bays) (out new_bays) folder node p)) (sym (at_here p)) (opens.slots t p))

      slot_old : bays_tell → (n p : ℕ) → n ≢ node → slot_at home out folder behind n p ≡ slot_at home out folder before n p
      slot_old t n p other = same_slot (port_in (ports_at nodes n) p) (port_in (ports_at (slice_set nodes place x) n) p) (home bays folder n p) (home new_bays folder n p) (out bays n p) (out new_bays n p) (at_other n p other) ((others t).homes folder n p (inr other)) ((others t).outs n p other)

      pub opens_node : OpensNodes bays_tell tells content size home out (is_of_node shape node) (settings_of shape) folder before behind
      opens_node = record {
        up = λ n p due. elim (cases_eq n node) [
          | inl same ↦ subst (λ (i : ℕ). is_some (port_in (ports_at (slice_set nodes place x) i) p) ≡ true) (sym same)
              (ap is_some (at_here p) ∙ opens.up p ∙ sym (of_here shape node p) ∙ subst (λ (i : ℕ). is_of_node shape node i p ≡ true) same due)
          | inr other ↦ absurd (let no = of_other shape node n p other in cc)
        ];
        others = λ n p due. elim (cases_eq n node) [
          | inl same ↦ subst (λ (i : ℕ). port_in (ports_at (slice_set nodes place x) i) p ≡ port_in (ports_at nodes i) p) (sym same)
              (at_here p ∙ none_of (port_in (ports_of (Some x)) p) (opens.up p ∙ sym (of_here shape node p) ∙ subst (λ (i : ℕ). is_of_node shape node i p ≡ false) same due) ∙ sym (stopped p))
          | inr other ↦ at_other n p other
        ];
        slots = λ t n p. elim (cases_eq n node) [
          | inl same ↦ subst (λ (i : ℕ). OpensWhere tells content size (is_of_node shape node i p) (settings_of shape) folder (slot_at home out folder before i p) (slot_at home out folder behind i p)) (sym same)
              (subst (λ (b : Bool). OpensWhere tells content size b (settings_of shape) folder (slot_at home out folder before node p) (slot_at home out folder behind node p)) (sym (of_here shape node p)) (slot_new t p))
          | inr other ↦ subst (λ (b : Bool). OpensWhere tells content size b (settings_of shape) folder (slot_at home out folder before n p) (slot_at home out folder behind n p)) (sym (of_other shape node n p other)) (slot_old t n p other)
        ];
        folders = λ t f n p other. (others t).homes f n p (inl other);
      }

      -- its disks are out, and the others' still
      out_there : bays_tell → (p : ℕ) → IsSome (port_in (ports_at (slice_set nodes place x) node) p) → out new_bays node p ≡ Some folder
      out_there t p some =
          let due : has_replica shape node p ≡ true = sym (opens.up p) ∙ subst (λ (o : Option (ReplicaState D)). IsSome o) (at_here p) some in
          let opened = subst (λ (b : Bool). OpensWhere tells content size b (settings_of shape) folder (slot_at home out folder before node p) (slot_at home out folder behind node p)) due (slot_new t p) in
          ap (λ (s : ReplicaSlot D). s.out) opened.is

      pub again_open : (tells → bays_tell) → IsOpen bays_tell tells content size home out shape folder new_bays (slice_set nodes place x)
      again_open known = record {
        ranges = it.ranges;
        long = length-set nodes place x ∙ it.long;
        due = λ n p some. elim (cases_eq n node) [
          | inl same ↦ subst (λ (i : ℕ). has_replica shape i p ≡ true) (sym same) (sym (opens.up p) ∙ subst (λ (o : Option (ReplicaState D)). IsSome o) (at_here p) (subst (λ (i : ℕ). IsSome (port_in (ports_at (slice_set nodes place x) i) p)) same some))
          | inr other ↦ it.due n p (subst (λ (o : Option (ReplicaState D)). IsSome o) (at_other n p other) some)
        ];
        outs = λ t n p some. elim (cases_eq n node) [
          | inl same ↦ subst (λ (i : ℕ). out new_bays i p ≡ Some folder) (sym same) (out_there t p (subst (λ (i : ℕ). IsSome (port_in (ports_at (slice_set nodes place x) i) p)) same some))
          | inr other ↦ (others t).outs n p other ∙ it.outs t n p (subst (λ (o : Option (ReplicaState D)). IsSome o) (at_other n p other) some)
        ];
        places = λ t n p due. elim (cases_eq n node) [
          | inl same ↦ subst (λ (i : ℕ). HoldsSome content size (settings_of shape) (port_in (ports_at (slice_set nodes place x) i) p) (home new_bays folder i p)) (sym same)
              (opened_some tells content size (settings_of shape) folder (slot_at home out folder before node p) (slot_at home out folder behind node p)
              (subst (λ (b : Bool). OpensWhere tells content size b (settings_of shape) folder (slot_at home out folder before node p) (slot_at home out folder behind node p)) (subst (λ (i : ℕ). has_replica shape i p ≡ true) same due) (slot_new (known t) p)))
          | inr other ↦ subst (λ (s : ReplicaSlot D). HoldsSome content size (settings_of shape) s.replica s.home) (sym (slot_old (known t) n p other)) (it.places t n p due)
        ];
      }
