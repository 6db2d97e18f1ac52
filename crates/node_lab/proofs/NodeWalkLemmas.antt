-- The nodes of a shape are opened one by one.
use Rattle.std.proofs.Common.{◌≡◌, ◌≢◌, inl, inr, ⊎_elim, ℕ, ◌+◌, ◌<◌, ◌≤◌, ◌==◌, ◌&&◌, arith, Bool, true, false, List, [], ◌∷◌, length, length-append, Option, Some, None, refl, sym, ◌∙◌, ap, subst}
use Rattle.std.specs.Option.{is_some}
use Rattle.std.proofs.lemmas.Bool.{cases_eq, cases_lt}
use Rattle.disk_core.specs.Content.{Content}
use Rattle.disk_core.specs.Homes.{Home, Out}
use Rattle.log_manifest.specs.declared.manifest.LogSettings.{LogSettings}
use Rattle.node_core.specs.Ports.{port_in}
use Rattle.replica_core.specs.State.{ReplicaState}
use Rattle.world_model.specs.declared.order.Refusal.{Refusal}
use Rattle.world_model.specs.declared.shape.Shape.{Shape}
use Rattle.world_model.specs.Shape.{IsShape}
use Rattle.world_model.proofs.CellLaws.{same_number}
use Rattle.node_lab.specs.declared.state.NodeState.{NodeState}
use Rattle.node_lab.specs.Nodes.{has_replica, is_of_node, ports_at, ports_of}
use Rattle.node_lab.specs.Openings.{NodeFailed, OpensNode}
use Rattle.node_lab.specs.Refusals.{CanOpen, IsFirst}
use Rattle.node_lab.specs.Slots.{FailedAt, IsCause, OpensAs, OpensWhere, OtherFoldersStay, OtherNodesStay, ReplicaSlot, SomeFailed, StaysClosedWhere, slot_in}
use Rattle.node_lab.proofs.NodeListLemmas.{last_ports, other_ports, ports_past, unhosted}
use Rattle.node_lab.proofs.PortWalkLemmas.{can_open}
use Rattle.node_lab.proofs.SlotLemmas.{opens_as, same_slot, stays_where}

module _ {D : Type 0} (bays_tell tells : Type 0) (content : D → Content) (size : D → ℕ) (settings : LogSettings) (folder : List ℕ) (shape : Shape) (home : Home D) (out : Out) where
  -- As many nodes are open, with all replicas that are due.
  pub record NodesTo (k : ℕ) (nodes : List (NodeState (ReplicaState D))) (new_home : Home D) (new_out : Out) : Type 0 where
    pub long : length nodes ≡ k
    pub up : (n p : ℕ) → n ≤ k → is_some (port_in (ports_at nodes n) p) ≡ has_replica shape n p
    pub slots : bays_tell → (n p : ℕ) → n ≤ k → OpensWhere tells content size (has_replica shape n p) settings folder (slot_in None home out folder n p) (slot_in (port_in (ports_at nodes n) p) new_home new_out folder n p)
    pub rest : bays_tell → (n p : ℕ) → k < n → (new_home folder n p ≡ home folder n p) × (new_out n p ≡ out n p)
    pub folders : bays_tell → OtherFoldersStay folder home new_home

  pub no_nodes : IsShape shape → NodesTo 0 [] home out
  no_nodes ranges = record {
    long = refl;
    up = λ n p less. first n p (omega (arith, less));
    slots = λ t n p less. unopened n p (omega (arith, less));
    rest = λ t n p past. (refl, refl);
    folders = λ t f n p other. refl;
  }
    where
      first : (n p : ℕ) → n ≡ 0 → is_some (port_in (ports_at {P = ReplicaState D} [] n) p) ≡ has_replica shape n p
      first n p zero_is = subst (λ (i : ℕ). is_some (port_in (ports_at {P = ReplicaState D} [] i) p) ≡ has_replica shape i p) (sym zero_is) (sym (unhosted shape 0 p ranges (inl refl)))

      unopened : (n p : ℕ) → n ≡ 0 → OpensWhere tells content size (has_replica shape n p) settings folder (slot_in None home out folder n p) (slot_in (port_in (ports_at {P = ReplicaState D} [] n) p) home out folder n p)
      unopened n p zero_is = subst (λ (i : ℕ). OpensWhere tells content size (has_replica shape i p) settings folder (slot_in None home out folder i p) (slot_in (port_in (ports_at {P = ReplicaState D} [] i) p) home out folder i p)) (sym zero_is)
          (subst (λ (b : Bool). OpensWhere tells content size b settings folder (slot_in None home out folder 0 p) (slot_in None home out folder 0 p)) (sym (unhosted shape 0 p ranges (inl refl))) refl)

  module _ (k : ℕ) (nodes : List (NodeState (ReplicaState D))) (mid_home new_home : Home D) (mid_out new_out : Out) (so : NodesTo k nodes mid_home mid_out) (stay : bays_tell → OtherNodesStay folder (k + 1) mid_home mid_out new_home new_out) where
    -- the slot of another node
    slot_stays : bays_tell → (n p : ℕ) (r : Option (ReplicaState D)) → n ≢ k + 1 → slot_in r new_home new_out folder n p ≡ slot_in r mid_home mid_out folder n p
    slot_stays t n p r other = same_slot r r (mid_home folder n p) (new_home folder n p) (mid_out n p) (new_out n p) refl ((stay t).homes folder n p (inr other)) ((stay t).outs n p other)

    -- the slot of a node whose turn hasn't come
    slot_before : bays_tell → (n p : ℕ) (r : Option (ReplicaState D)) → k < n → slot_in r mid_home mid_out folder n p ≡ slot_in r home out folder n p
    slot_before t n p r past = same_slot r r (home folder n p) (mid_home folder n p) (out n p) (mid_out n p) refl (so.rest t n p past).0 (so.rest t n p past).1

    none_there : (n p : ℕ) → k < n → port_in (ports_at nodes n) p ≡ None
    none_there n p past = ap (λ (l : List (ℕ × ReplicaState D)). port_in l p) (ports_past nodes n (inr (let long = so.long in omega (arith, past, long))))

    pub folders_on : bays_tell → OtherFoldersStay folder home new_home
    folders_on t f n p other = (stay t).homes f n p (inl other) ∙ so.folders t f n p other

    module _ (new_nodes : List (NodeState (ReplicaState D))) (one : OpensNode bays_tell tells content size settings folder (k + 1) mid_home mid_out new_home new_out (has_replica shape (k + 1)) nodes new_nodes) where
      at_last : (p : ℕ) → port_in (ports_at new_nodes (k + 1)) p ≡ port_in (ports_of (Some one.state)) p
      at_last p = ap (λ (l : List (NodeState (ReplicaState D))). port_in (ports_at l (k + 1)) p) one.adds ∙ ap (λ (l : List (ℕ × ReplicaState D)). port_in l p) (last_ports nodes one.state k so.long)

      at_other : (n p : ℕ) → n ≢ k + 1 → port_in (ports_at new_nodes n) p ≡ port_in (ports_at nodes n) p
      at_other n p other = ap (λ (l : List (NodeState (ReplicaState D))). port_in (ports_at l n) p) one.adds ∙ ap (λ (l : List (ℕ × ReplicaState D)). port_in l p) (other_ports nodes one.state k n so.long other)

      slot_new : bays_tell → (p : ℕ) → OpensWhere tells content size (has_replica shape (k + 1) p) settings folder (slot_in None home out folder (k + 1) p) (slot_in (port_in (ports_at new_nodes (k + 1)) p) new_home new_out folder (k + 1) p)
      slot_new t p =
          subst (λ (o : Option (ReplicaState D)). OpensWhere tells content size (has_replica shape (k + 1) p) settings folder (slot_in None home out folder (k + 1) p) (slot_in o new_home new_out folder (k + 1) p)) (sym (at_last p))
          (subst (λ (s : ReplicaSlot D). OpensWhere tells content size (has_replica shape (k + 1) p) settings folder s (slot_in (port_in (ports_of (Some one.state)) p) new_home new_out folder (k + 1) p)) (slot_before t (k + 1) p None (omega arith)) (one.opens.slots t p))

      slot_old : bays_tell → (n p : ℕ) → n ≤ k → OpensWhere tells content size (has_replica shape n p) settings folder (slot_in None home out folder n p) (slot_in (port_in (ports_at new_nodes n) p) new_home new_out folder n p)
      slot_old t n p less =
          let other : n ≢ k + 1 = (λ same. omega (arith, less, same)) in
          subst (λ (o : Option (ReplicaState D)). OpensWhere tells content size (has_replica shape n p) settings folder (slot_in None home out folder n p) (slot_in o new_home new_out folder n p)) (sym (at_other n p other))
          (subst (λ (s : ReplicaSlot D). OpensWhere tells content size (has_replica shape n p) settings folder (slot_in None home out folder n p) s) (sym (slot_stays t n p (port_in (ports_at nodes n) p) other)) (so.slots t n p less))

      -- one more node is open
      pub one_more : NodesTo (k + 1) new_nodes new_home new_out
      one_more = record {
        long = ap (λ (l : List (NodeState (ReplicaState D))). length l) one.adds ∙ length-append nodes (one.state ∷ []) ∙ ap (λ (n : ℕ). n + 1) so.long;
        up = λ n p less. elim (cases_eq n (k + 1)) [
          | inl same ↦ subst (λ (i : ℕ). is_some (port_in (ports_at new_nodes i) p) ≡ has_replica shape i p) (sym same) (ap is_some (at_last p) ∙ one.opens.up p)
          | inr other ↦ ap is_some (at_other n p other) ∙ so.up n p (omega (arith, less, other))
        ];
        slots = λ t n p less. elim (cases_eq n (k + 1)) [
          | inl same ↦ subst (λ (i : ℕ). OpensWhere tells content size (has_replica shape i p) settings folder (slot_in None home out folder i p) (slot_in (port_in (ports_at new_nodes i) p) new_home new_out folder i p)) (sym same) (slot_new t p)
          | inr other ↦ slot_old t n p (omega (arith, less, other))
        ];
        rest = λ t n p past.
            let other : n ≢ k + 1 = (λ same. omega (arith, past, same)) in
            ((stay t).homes folder n p (inr other) ∙ (so.rest t n p (omega (arith, past))).0, (stay t).outs n p other ∙ (so.rest t n p (omega (arith, past))).1);
        folders = folders_on;
      }

    -- the node isn't opened
    pub ends_here : (bays_tell → (p : ℕ) → StaysClosedWhere tells content size (has_replica shape (k + 1) p) settings (slot_in None mid_home mid_out folder (k + 1) p) (slot_in None new_home new_out folder (k + 1) p))
        → bays_tell → (n p : ℕ) → OpensAs tells content size (port_in (ports_at nodes n) p) (has_replica shape n p) settings folder (slot_in None home out folder n p) (slot_in (port_in (ports_at nodes n) p) new_home new_out folder n p)
    ends_here closed t n p = elim (cases_lt k n) [
      | inr less ↦
          let other : n ≢ k + 1 = (λ same. omega (arith, less, same)) in
          opens_as tells content size settings (has_replica shape n p) folder (slot_in None home out folder n p) (slot_in (port_in (ports_at nodes n) p) new_home new_out folder n p) refl
          (subst (λ (s : ReplicaSlot D). OpensWhere tells content size (has_replica shape n p) settings folder (slot_in None home out folder n p) s) (sym (slot_stays t n p (port_in (ports_at nodes n) p) other)) (so.slots t n p less))
      | inl past ↦
          subst (λ (o : Option (ReplicaState D)). OpensAs tells content size o (has_replica shape n p) settings folder (slot_in None home out folder n p) (slot_in o new_home new_out folder n p)) (sym (none_there n p past))
          (elim (cases_eq n (k + 1)) [
            | inl same ↦ subst (λ (i : ℕ). StaysClosedWhere tells content size (has_replica shape i p) settings (slot_in None home out folder i p) (slot_in None new_home new_out folder i p)) (sym same)
                (subst (λ (s : ReplicaSlot D). StaysClosedWhere tells content size (has_replica shape (k + 1) p) settings s (slot_in None new_home new_out folder (k + 1) p)) (slot_before t (k + 1) p None (omega arith)) (closed t p))
            | inr other ↦ stays_where tells content size settings (has_replica shape n p) (slot_in None home out folder n p) (slot_in None new_home new_out folder n p) (slot_stays t n p None other ∙ slot_before t n p None past)
          ])
    ]

    -- the refusal names the first one of all
    pub first_here : (refusal : Refusal) → refusal.node ≡ k + 1 → (bays_tell → IsFirst tells content size (is_of_node shape (k + 1)) settings (mid_home folder) refusal) → bays_tell → IsFirst tells content size (has_replica shape) settings (home folder) refusal
    first_here refusal named first t =
        let one = first t in
        let here : k < refusal.node = omega (arith, named) in
        record {
          due_there = second_true (refusal.node == k + 1) (has_replica shape refusal.node refusal.partition) one.due_there;
          cause = subst (λ (h : Option D). IsCause tells content size settings h refusal.what) (so.rest t refusal.node refusal.partition here).0 one.cause;
          earlier = λ told n p before due. ⊎_elim
              (λ (less : n < refusal.node). can_open tells content size settings folder (has_replica shape n p) (slot_in None home out folder n p) (slot_in (port_in (ports_at nodes n) p) mid_home mid_out folder n p) told due (so.slots t n p (omega (arith, less, named))))
              (λ (same : (n ≡ refusal.node) × (p < refusal.partition)).
              let is : n ≡ k + 1 = same.0 ∙ named in
              let past : k < n = omega (arith, is) in
              let mine : is_of_node shape (k + 1) n p ≡ true = subst (λ (i : ℕ). ((i == k + 1) && has_replica shape n p) ≡ true) (sym is) (ap (λ (b : Bool). b && has_replica shape n p) (same_number (k + 1)) ∙ due) in
              subst (λ (h : Option D). CanOpen tells content size settings h) (so.rest t n p past).0 (one.earlier told n p (inr same) mine))
              before;
        }
      where
        second_true : (a b : Bool) → (a && b) ≡ true → b ≡ true
        second_true true b is = is
        second_true false b is = absurd (cc is)

    pub failed_here : (faults : D → ℕ) → (bays_tell → NodeFailed bays_tell tells content size settings folder (k + 1) mid_home mid_out new_home new_out faults (has_replica shape (k + 1)))
        → bays_tell → SomeFailed tells content size faults (has_replica shape) (slot_in None home out folder) (slot_in None new_home new_out folder)
    failed_here faults failed t =
        let one = failed t in
        record {
          node = k + 1;
          partition = one.partition;
          due_there = one.due_there;
          here = subst (λ (s : ReplicaSlot D). FailedAt tells content size faults s (slot_in None new_home new_out folder (k + 1) one.partition)) (slot_before t (k + 1) one.partition None (omega arith)) one.here;
        }

  -- all nodes are open
  module _ (nodes : List (NodeState (ReplicaState D))) (new_home : Home D) (new_out : Out) (ranges : IsShape shape) (so : NodesTo shape.nodes nodes new_home new_out) where
    nobody : (n p : ℕ) → shape.nodes < n → port_in (ports_at nodes n) p ≡ None
    nobody n p past = ap (λ (l : List (ℕ × ReplicaState D)). port_in l p) (ports_past nodes n (inr (let long = so.long in omega (arith, past, long))))

    pub all_up : (n p : ℕ) → is_some (port_in (ports_at nodes n) p) ≡ has_replica shape n p
    all_up n p = elim (cases_lt shape.nodes n) [
      | inr less ↦ so.up n p less
      | inl past ↦ ap is_some (nobody n p past) ∙ sym (unhosted shape n p ranges (inr past))
    ]

    pub all_opened : bays_tell → (n p : ℕ) → OpensAs tells content size (port_in (ports_at nodes n) p) (has_replica shape n p) settings folder (slot_in None home out folder n p) (slot_in (port_in (ports_at nodes n) p) new_home new_out folder n p)
    all_opened t n p = elim (cases_lt shape.nodes n) [
      | inr less ↦ opens_as tells content size settings (has_replica shape n p) folder (slot_in None home out folder n p) (slot_in (port_in (ports_at nodes n) p) new_home new_out folder n p) refl (so.slots t n p less)
      | inl past ↦ subst (λ (o : Option (ReplicaState D)). OpensAs tells content size o (has_replica shape n p) settings folder (slot_in None home out folder n p) (slot_in o new_home new_out folder n p)) (sym (nobody n p past))
          (stays_where tells content size settings (has_replica shape n p) (slot_in None home out folder n p) (slot_in None new_home new_out folder n p)
          (same_slot None None (home folder n p) (new_home folder n p) (out n p) (new_out n p) refl (so.rest t n p past).0 (so.rest t n p past).1))
    ]
