-- All nodes are closed one by one.
use Rattle.std.proofs.Common.{◌≡◌, ◌≢◌, inl, inr, ℕ, zero, suc, ◌+◌, ◌<◌, ◌≤◌, arith, Bool, List, [], length, length-set, slice_set, Option, Some, None, refl, sym, ◌∙◌, ap, subst}
use Rattle.std.specs.List.{slice_get}
use Rattle.std.specs.Prelude.{IsSome}
use Rattle.std.proofs.lemmas.Bool.{cases_eq, cases_lt}
use Rattle.disk_core.specs.Content.{Content}
use Rattle.disk_core.specs.Homes.{Home, Out}
use Rattle.node_core.specs.Ports.{port_in}
use Rattle.replica_core.specs.State.{ReplicaState}
use Rattle.node_lab.specs.declared.state.NodeState.{NodeState}
use Rattle.node_lab.specs.Calls.{NodesOut, PortsOut}
use Rattle.node_lab.specs.Nodes.{ports_at, ports_of}
use Rattle.node_lab.specs.Slots.{GoesHome, OtherFoldersStay, OtherNodesStay, ReplicaSlot, slot_in}
use Rattle.node_lab.proofs.NodeAskLemmas.{ports_other, ports_set}
use Rattle.node_lab.proofs.NodeListLemmas.{ports_past}
use Rattle.node_lab.proofs.SlotLemmas.{same_slot}

-- What is said where bays tell, of nodes whose disks are out under a folder.
abbrev pub WhereOut : {D : Type 0} → Type 0 → List (NodeState (ReplicaState D)) → Out → (List ℕ → Type 0) → Type 0
WhereOut bays_tell nodes out R = bays_tell → (folder : List ℕ) → NodesOut folder nodes out → R folder

module _ {D : Type 0} (bays_tell tells : Type 0) (content : D → Content) (size : D → ℕ) (stops : Bool) (whole : List (NodeState (ReplicaState D))) (home : Home D) (out : Out) where
  -- As many nodes are closed, and the others are as they were.
  pub record ClosesTo (k : ℕ) (nodes : List (NodeState (ReplicaState D))) (new_home : Home D) (new_out : Out) : Type 0 where
    pub long : length nodes ≡ length whole
    pub gone : (n : ℕ) → n ≤ k → ports_at nodes n ≡ []
    pub kept : (n : ℕ) → k < n → ports_at nodes n ≡ ports_at whole n
    pub slots : WhereOut bays_tell whole out (λ folder. (n p : ℕ) → n ≤ k → GoesHome tells content size stops (port_in (ports_at whole n) p) (slot_in (port_in (ports_at whole n) p) home out folder n p) (slot_in None new_home new_out folder n p))
    pub rest : WhereOut bays_tell whole out (λ folder. (n p : ℕ) → k < n → (new_home folder n p ≡ home folder n p) × (new_out n p ≡ out n p))
    pub folders : WhereOut bays_tell whole out (λ folder. OtherFoldersStay folder home new_home)

  pub none_closed : ClosesTo 0 whole home out
  none_closed = record {
    long = refl;
    gone = λ n less. first n (omega (arith, less));
    kept = λ n past. refl;
    slots = λ t folder outs n p less. unopened folder n p (omega (arith, less));
    rest = λ t folder outs n p past. (refl, refl);
    folders = λ t folder outs f n p other. refl;
  }
    where
      first : (n : ℕ) → n ≡ 0 → ports_at whole n ≡ []
      first n is = subst (λ (i : ℕ). ports_at whole i ≡ []) (sym is) refl

      unopened : (folder : List ℕ) (n p : ℕ) → n ≡ 0 → GoesHome tells content size stops (port_in (ports_at whole n) p) (slot_in (port_in (ports_at whole n) p) home out folder n p) (slot_in None home out folder n p)
      unopened folder n p is = subst (λ (i : ℕ). GoesHome tells content size stops (port_in (ports_at whole i) p) (slot_in (port_in (ports_at whole i) p) home out folder i p) (slot_in None home out folder i p)) (sym is) refl

  module _ (k : ℕ) (nodes : List (NodeState (ReplicaState D))) (mid_home new_home : Home D) (mid_out new_out : Out) (so : ClosesTo k nodes mid_home mid_out) where
    -- the ports of the next node are as they were
    next_ports : ports_of (slice_get nodes k) ≡ ports_at whole (k + 1)
    next_ports =
        let next : k + 1 ≡ suc k = omega arith in
        subst (λ (n : ℕ). ports_at nodes n ≡ ports_at whole (k + 1)) next (so.kept (k + 1) (omega arith))

    -- their disks are out
    pub next_out : WhereOut bays_tell whole out (λ folder. PortsOut folder (k + 1) (ports_of (slice_get nodes k)) mid_out)
    next_out t folder outs p some =
        (so.rest t folder outs (k + 1) p (omega arith)).1 ∙ outs (k + 1) p (subst (λ (l : List (ℕ × ReplicaState D)). IsSome (port_in l p)) next_ports some)

    module _ (x : NodeState (ReplicaState D)) (within : k < length nodes) (gone : ports_of (Some x) ≡ [])
        (goes : WhereOut bays_tell whole out (λ folder. (p : ℕ) → GoesHome tells content size stops (port_in (ports_of (slice_get nodes k)) p) (slot_in (port_in (ports_of (slice_get nodes k)) p) mid_home mid_out folder (k + 1) p) (slot_in None new_home new_out folder (k + 1) p)))
        (stay : WhereOut bays_tell whole out (λ folder. OtherNodesStay folder (k + 1) mid_home mid_out new_home new_out)) where
      new_here : ports_at (slice_set nodes k x) (k + 1) ≡ []
      new_here =
          let next : k + 1 ≡ suc k = omega arith in
          subst (λ (n : ℕ). ports_at (slice_set nodes k x) n ≡ []) (sym next) (ports_set nodes k x within ∙ gone)

      new_other : (n : ℕ) → n ≢ k + 1 → ports_at (slice_set nodes k x) n ≡ ports_at nodes n
      new_other zero other = refl
      new_other (suc n) other = ap (λ (o : Option (NodeState (ReplicaState D))). ports_of o) (ports_other nodes k n x (λ same. other (omega (arith, same))))

      slot_new : WhereOut bays_tell whole out (λ folder. (p : ℕ) → GoesHome tells content size stops (port_in (ports_at whole (k + 1)) p) (slot_in (port_in (ports_at whole (k + 1)) p) home out folder (k + 1) p) (slot_in None new_home new_out folder (k + 1) p))
      slot_new t folder outs p =
          let was = so.rest t folder outs (k + 1) p (omega arith) in
          let r = port_in (ports_at whole (k + 1)) p in
          subst (λ (s : ReplicaSlot D). GoesHome tells content size stops (port_in (ports_at whole (k + 1)) p) s (slot_in None new_home new_out folder (k + 1) p))
          (same_slot r r (home folder (k + 1) p) (mid_home folder (k + 1) p) (out (k + 1) p) (mid_out (k + 1) p) refl was.0 was.1)
          (subst (λ (l : List (ℕ × ReplicaState D)). GoesHome tells content size stops (port_in l p) (slot_in (port_in l p) mid_home mid_out folder (k + 1) p) (slot_in None new_home new_out folder (k + 1) p)) next_ports (goes t folder outs p))

      -- one more is closed
      pub one_more : ClosesTo (k + 1) (slice_set nodes k x) new_home new_out
      one_more = record {
        long = length-set nodes k x ∙ so.long;
        gone = λ n less. elim (cases_eq n (k + 1)) [
          | inl same ↦ subst (λ (i : ℕ). ports_at (slice_set nodes k x) i ≡ []) (sym same) new_here
          | inr other ↦ new_other n other ∙ so.gone n (omega (arith, less, other))
        ];
        kept = λ n past. new_other n (λ same. omega (arith, past, same)) ∙ so.kept n (omega (arith, past));
        slots = λ t folder outs n p less. elim (cases_eq n (k + 1)) [
          | inl same ↦ subst (λ (i : ℕ). GoesHome tells content size stops (port_in (ports_at whole i) p) (slot_in (port_in (ports_at whole i) p) home out folder i p) (slot_in None new_home new_out folder i p)) (sym same) (slot_new t folder outs p)
          | inr other ↦ subst (λ (s : ReplicaSlot D). GoesHome tells content size stops (port_in (ports_at whole n) p) (slot_in (port_in (ports_at whole n) p) home out folder n p) s)
              (same_slot None None (new_home folder n p) (mid_home folder n p) (new_out n p) (mid_out n p) refl (sym ((stay t folder outs).homes folder n p (inr other))) (sym ((stay t folder outs).outs n p other)))
              (so.slots t folder outs n p (omega (arith, less, other)))
        ];
        rest = λ t folder outs n p past.
            let other : n ≢ k + 1 = (λ same. omega (arith, past, same)) in
            let was = so.rest t folder outs n p (omega (arith, past)) in
            ((stay t folder outs).homes folder n p (inr other) ∙ was.0, (stay t folder outs).outs n p other ∙ was.1);
        folders = λ t folder outs f n p other. (stay t folder outs).homes f n p (inl other) ∙ so.folders t folder outs f n p other;
      }

  -- all are closed
  module _ (nodes : List (NodeState (ReplicaState D))) (new_home : Home D) (new_out : Out) (so : ClosesTo (length whole) nodes new_home new_out) where
    pub all_gone : (n : ℕ) → ports_at nodes n ≡ []
    all_gone n = elim (cases_lt (length whole) n) [
      | inr less ↦ so.gone n less
      | inl past ↦ so.kept n past ∙ ports_past whole n (inr past)
    ]

    pub all_home : WhereOut bays_tell whole out (λ folder. (n p : ℕ) → GoesHome tells content size stops (port_in (ports_at whole n) p) (slot_in (port_in (ports_at whole n) p) home out folder n p) (slot_in None new_home new_out folder n p))
    all_home t folder outs n p = elim (cases_lt (length whole) n) [
      | inr less ↦ so.slots t folder outs n p less
      | inl past ↦
          let was = so.rest t folder outs n p past in
          subst (λ (l : List (ℕ × ReplicaState D)). GoesHome tells content size stops (port_in l p) (slot_in (port_in l p) home out folder n p) (slot_in None new_home new_out folder n p)) (sym (ports_past whole n (inr past)))
          (same_slot None None (home folder n p) (new_home folder n p) (out n p) (new_out n p) refl was.0 was.1)
    ]
