-- The replicas of a node are opened one by one.
use Rattle.std.proofs.Common.{◌≡◌, ◌≢◌, inl, inr, ⊎_elim, ℕ, zero, suc, ◌+◌, ◌<◌, ◌≤◌, ◌^◌, ◌==◌, ◌&&◌, nat_eq, arith, Bool, true, false, cond, List, [], ◌∷◌, ◌++◌, Option, Some, None, refl, sym, ◌∙◌, ap, subst}
use Rattle.std.specs.List.{All, AllByRecursion, IsDistinct}
use Rattle.std.specs.Map.{keys_of, values_of}
use Rattle.std.specs.Option.{is_some}
use Rattle.std.specs.Prelude.{nat_lt}
use Rattle.std.proofs.lemmas.Bool.{cases_eq, cases_lt}
use Rattle.cell_model.specs.Cells.{cell_in}
use Rattle.disk_core.specs.Content.{Content}
use Rattle.disk_core.specs.Homes.{Home, Out, OthersStay}
use Rattle.log_manifest.specs.declared.manifest.LogSettings.{LogSettings}
use Rattle.node_core.specs.Ports.{ArePorts, port_in}
use Rattle.replica_core.specs.State.{ReplicaState}
use Rattle.world_model.specs.declared.order.Refusal.{Refusal}
use Rattle.world_model.specs.declared.shape.Shape.{Shape}
use Rattle.world_model.specs.Shape.{replica_of}
use Rattle.world_model.proofs.CellLaws.{number_true, same_number}
use Rattle.node_lab.specs.Nodes.{has_replica, is_of_node}
use Rattle.node_lab.specs.Openings.{AddsPort, NodeFailed, OpensPort, OpensPorts}
use Rattle.node_lab.specs.Refusals.{CanOpen, IsFirst}
use Rattle.node_lab.specs.Slots.{FailedAt, IsCause, OpensAs, OpensWhere, OtherNodesStay, ReplicaSlot, StaysClosed, StaysClosedWhere, slot_in}
use Rattle.node_lab.proofs.SlotLemmas.{opens_as, same_slot, stays_where}
use Rattle.node_lab.proofs.StopLemmas.{not_same}
use Rattle.node_lab.proofs.WalkHomeLemmas.{found_last, other_last}

all_from : {X : Type 0} (P : X → Type 0) (xs : List X) → AllByRecursion P xs → All P xs
all_from P [] all k d within = absurd (omega (arith, within))
all_from P (x ∷ xs) all zero d within = all.0
all_from P (x ∷ xs) all (suc k) d within = all_from P xs all.1 k d (omega (arith, within))

module _ {P : Type 0} where
  -- a port behind all that there are isn't there
  pub none_behind : (ports : List (ℕ × P)) (k p : ℕ) → AllByRecursion (λ q. q < k) (keys_of ports) → k ≤ p → port_in ports p ≡ None
  none_behind [] k p below past = refl
  none_behind (y ∷ ys) k p below past = ap (λ (b : Bool). cond b (Some y.1) (port_in ys p)) (not_same y.0 p (λ same. (let less = below.0 in omega (arith, less, past, same)))) ∙ none_behind ys k p below.1 past

  below_more : (ports : List (ℕ × P)) (k : ℕ) → AllByRecursion (λ q. q < k) (keys_of ports) → AllByRecursion (λ q. q < k + 1) (keys_of ports)
  below_more [] k below = tt
  below_more (y ∷ ys) k below = (omega (arith, below.0), below_more ys k below.1)

  below_last : (ports : List (ℕ × P)) (k : ℕ) (r : P) → AllByRecursion (λ q. q < k) (keys_of ports) → AllByRecursion (λ q. q < k + 1) (keys_of (ports ++ (k, r) ∷ []))
  below_last [] k r below = (omega arith, tt)
  below_last (y ∷ ys) k r below = (omega (arith, below.0), below_last ys k r below.1)

  apart_last : (n : ℕ) (ports : List (ℕ × P)) (k : ℕ) (r : P) → AllByRecursion (λ q. nat_eq n q ≡ false) (keys_of ports) → nat_eq n k ≡ false → AllByRecursion (λ q. nat_eq n q ≡ false) (keys_of (ports ++ (k, r) ∷ []))
  apart_last n [] k r all last = (last, tt)
  apart_last n (y ∷ ys) k r all last = (all.0, apart_last n ys k r all.1 last)

  distinct_last : (ports : List (ℕ × P)) (k : ℕ) (r : P) → AllByRecursion (λ q. q < k) (keys_of ports) → IsDistinct nat_eq (keys_of ports) → IsDistinct nat_eq (keys_of (ports ++ (k, r) ∷ []))
  unfolding IsDistinct
  distinct_last [] k r below apart = (tt, tt)
  distinct_last (y ∷ ys) k r below apart = (apart_last y.0 ys k r apart.0 (not_same y.0 k (λ same. (let less = below.0 in omega (arith, less, same)))), distinct_last ys k r below.1 apart.1)

  named_from : (ports : List (ℕ × P)) (k : ℕ) → k ≤ 64 → AllByRecursion (λ q. q < k) (keys_of ports) → AllByRecursion (λ q. q < 2 ^ 16) (keys_of ports)
  named_from [] k most below = tt
  named_from (y ∷ ys) k most below = (omega (arith, most, below.0), named_from ys k most below.1)

  units : (xs : List P) → AllByRecursion (λ x. Unit {0}) xs
  units [] = tt
  units (x ∷ xs) = (tt, units xs)

  -- they are ports that a node can have
  pub are_ports : (ports : List (ℕ × P)) (k : ℕ) → k ≤ 64 → AllByRecursion (λ q. q < k) (keys_of ports) → IsDistinct nat_eq (keys_of ports) → ArePorts (λ (x : P). Unit {0}) ports
  are_ports ports k most below apart = record {
    distinct = apart;
    named = all_from (λ q. q < 2 ^ 16) (keys_of ports) (named_from ports k most below);
    each = all_from (λ x. Unit {0}) (values_of ports) (units (values_of ports));
  }

-- no replica of a partition that the shape doesn't have
pub past_shape : (shape : Shape) (node p : ℕ) → shape.partitions ≤ p → has_replica shape node p ≡ false
past_shape shape node p past = ap (λ (b : Bool). b && is_some (replica_of shape p node)) (go (nat_lt p shape.partitions) refl)
  where
    go : (b : Bool) → nat_lt p shape.partitions ≡ b → nat_lt p shape.partitions ≡ false
    go false is = is
    go true is = absurd (grind (arith, is, past))

-- a slot that was opened has a disk that can be
pub can_open : {D : Type 0} (tells : Type 0) (content : D → Content) (size : D → ℕ) (settings : LogSettings) (folder : List ℕ) (due : Bool) (old new : ReplicaSlot D) → tells → due ≡ true → OpensWhere tells content size due settings folder old new → CanOpen tells content size settings old.home
can_open tells content size settings folder false old new t is opens = absurd (cc is)
can_open tells content size settings folder true old new t is opens = record { bytes = opens.fits; cells = cell_in opens.replica.cells; end = opens.replica.log.table.end; stands = opens.opened.stood t }

module _ {D : Type 0} (bays_tell tells : Type 0) (content : D → Content) (size : D → ℕ) (settings : LogSettings) (folder : List ℕ) (shape : Shape) (node : ℕ) (home : Home D) (out : Out) where
  -- The replicas of the partitions below this one are open, where they are due.
  pub record PortsTo (k : ℕ) (ports : List (ℕ × ReplicaState D)) (new_home : Home D) (new_out : Out) : Type 0 where
    pub below : AllByRecursion (λ q. q < k) (keys_of ports)
    pub apart : IsDistinct nat_eq (keys_of ports)
    pub up : (p : ℕ) → p < k → is_some (port_in ports p) ≡ has_replica shape node p
    pub slots : bays_tell → (p : ℕ) → p < k → OpensWhere tells content size (has_replica shape node p) settings folder (slot_in None home out folder node p) (slot_in (port_in ports p) new_home new_out folder node p)
    pub rest : bays_tell → (p : ℕ) → k ≤ p → (new_home folder node p ≡ home folder node p) × (new_out node p ≡ out node p)
    pub others : bays_tell → OtherNodesStay folder node home out new_home new_out

  pub none_opened : PortsTo 0 [] home out
  unfolding IsDistinct
  none_opened = record {
    below = tt;
    apart = tt;
    up = λ p less. absurd (omega (arith, less));
    slots = λ t p less. absurd (omega (arith, less));
    rest = λ t p past. (refl, refl);
    others = λ t. record { homes = λ f n p apart. refl; outs = λ n p apart. refl };
  }

  module _ (k : ℕ) (ports : List (ℕ × ReplicaState D)) (mid_home new_home : Home D) (mid_out new_out : Out) (so : PortsTo k ports mid_home mid_out) (stay : bays_tell → OthersStay folder node k mid_home mid_out new_home new_out) where
    none_here : (p : ℕ) → k ≤ p → port_in ports p ≡ None
    none_here p past = none_behind ports k p so.below past

    -- the slot of another partition
    slot_stays : bays_tell → (p : ℕ) (r : Option (ReplicaState D)) → p ≢ k → slot_in r new_home new_out folder node p ≡ slot_in r mid_home mid_out folder node p
    slot_stays t p r other = same_slot r r (mid_home folder node p) (new_home folder node p) (mid_out node p) (new_out node p) refl ((stay t).homes folder node p (inr (inr other))) ((stay t).outs node p (inr other))

    -- the slot of a partition whose turn hasn't come
    slot_before : bays_tell → (p : ℕ) (r : Option (ReplicaState D)) → k ≤ p → slot_in r mid_home mid_out folder node p ≡ slot_in r home out folder node p
    slot_before t p r past = same_slot r r (home folder node p) (mid_home folder node p) (out node p) (mid_out node p) refl (so.rest t p past).0 (so.rest t p past).1

    pub others_on : bays_tell → OtherNodesStay folder node home out new_home new_out
    others_on t = record {
      homes = λ f n p away. (stay t).homes f n p (⊎_elim (λ (a : f ≢ folder). inl a) (λ (b : n ≢ node). inr (inl b)) away) ∙ (so.others t).homes f n p away;
      outs = λ n p away. (stay t).outs n p (inl away) ∙ (so.others t).outs n p away;
    }

    module _ (new_ports : List (ℕ × ReplicaState D)) (one : OpensPort bays_tell tells content size settings folder node mid_home mid_out new_home new_out (has_replica shape node k) k ports new_ports) where
      new_here : port_in new_ports k ≡ one.opened
      new_here = go one.opened one.adds
        where
          go : (o : Option (ReplicaState D)) → AddsPort o k ports new_ports → port_in new_ports k ≡ o
          go None same = ap (λ (l : List (ℕ × ReplicaState D)). port_in l k) same ∙ none_here k (omega arith)
          go (Some r) more = ap (λ (l : List (ℕ × ReplicaState D)). port_in l k) more ∙ found_last ports k r (none_here k (omega arith))

      new_other : (p : ℕ) → p ≢ k → port_in new_ports p ≡ port_in ports p
      new_other p other = go one.opened one.adds
        where
          go : (o : Option (ReplicaState D)) → AddsPort o k ports new_ports → port_in new_ports p ≡ port_in ports p
          go None same = ap (λ (l : List (ℕ × ReplicaState D)). port_in l p) same
          go (Some r) more = ap (λ (l : List (ℕ × ReplicaState D)). port_in l p) more ∙ other_last ports k p r other

      new_below : AllByRecursion (λ q. q < k + 1) (keys_of new_ports)
      new_below = go one.opened one.adds
        where
          go : (o : Option (ReplicaState D)) → AddsPort o k ports new_ports → AllByRecursion (λ q. q < k + 1) (keys_of new_ports)
          go None same = subst (λ (l : List (ℕ × ReplicaState D)). AllByRecursion (λ q. q < k + 1) (keys_of l)) (sym same) (below_more ports k so.below)
          go (Some r) more = subst (λ (l : List (ℕ × ReplicaState D)). AllByRecursion (λ q. q < k + 1) (keys_of l)) (sym more) (below_last ports k r so.below)

      new_apart : IsDistinct nat_eq (keys_of new_ports)
      new_apart = go one.opened one.adds
        where
          go : (o : Option (ReplicaState D)) → AddsPort o k ports new_ports → IsDistinct nat_eq (keys_of new_ports)
          go None same = subst (λ (l : List (ℕ × ReplicaState D)). IsDistinct nat_eq (keys_of l)) (sym same) so.apart
          go (Some r) more = subst (λ (l : List (ℕ × ReplicaState D)). IsDistinct nat_eq (keys_of l)) (sym more) (distinct_last ports k r so.below so.apart)

      slot_new : bays_tell → OpensWhere tells content size (has_replica shape node k) settings folder (slot_in None home out folder node k) (slot_in (port_in new_ports k) new_home new_out folder node k)
      slot_new t =
          subst (λ (o : Option (ReplicaState D)). OpensWhere tells content size (has_replica shape node k) settings folder (slot_in None home out folder node k) (slot_in o new_home new_out folder node k)) (sym new_here)
          (subst (λ (s : ReplicaSlot D). OpensWhere tells content size (has_replica shape node k) settings folder s (slot_in one.opened new_home new_out folder node k)) (slot_before t k None (omega arith)) (one.slot t))

      slot_old : bays_tell → (p : ℕ) → p < k → OpensWhere tells content size (has_replica shape node p) settings folder (slot_in None home out folder node p) (slot_in (port_in new_ports p) new_home new_out folder node p)
      slot_old t p less =
          let other : p ≢ k = (λ same. omega (arith, less, same)) in
          subst (λ (o : Option (ReplicaState D)). OpensWhere tells content size (has_replica shape node p) settings folder (slot_in None home out folder node p) (slot_in o new_home new_out folder node p)) (sym (new_other p other))
          (subst (λ (s : ReplicaSlot D). OpensWhere tells content size (has_replica shape node p) settings folder (slot_in None home out folder node p) s) (sym (slot_stays t p (port_in ports p) other)) (so.slots t p less))

      -- one more is open
      pub one_more : PortsTo (k + 1) new_ports new_home new_out
      one_more = record {
        below = new_below;
        apart = new_apart;
        up = λ p less. elim (cases_eq p k) [
          | inl same ↦ subst (λ (i : ℕ). is_some (port_in new_ports i) ≡ has_replica shape node i) (sym same) (ap is_some new_here ∙ one.up)
          | inr other ↦ ap is_some (new_other p other) ∙ so.up p (omega (arith, less, other))
        ];
        slots = λ t p less. elim (cases_eq p k) [
          | inl same ↦ subst (λ (i : ℕ). OpensWhere tells content size (has_replica shape node i) settings folder (slot_in None home out folder node i) (slot_in (port_in new_ports i) new_home new_out folder node i)) (sym same) (slot_new t)
          | inr other ↦ slot_old t p (omega (arith, less, other))
        ];
        rest = λ t p past.
            let other : p ≢ k = (λ same. omega (arith, past, same)) in
            ((stay t).homes folder node p (inr (inr other)) ∙ (so.rest t p (omega (arith, past))).0, (stay t).outs node p (inr other) ∙ (so.rest t p (omega (arith, past))).1);
        others = others_on;
      }

    -- the one of this partition isn't opened
    module _ (due : has_replica shape node k ≡ true) where
      pub ends_here : (bays_tell → StaysClosed tells content size settings (slot_in None mid_home mid_out folder node k) (slot_in None new_home new_out folder node k))
          → bays_tell → (p : ℕ) → OpensAs tells content size (port_in ports p) (has_replica shape node p) settings folder (slot_in None home out folder node p) (slot_in (port_in ports p) new_home new_out folder node p)
      ends_here closed t p = elim (cases_lt p k) [
        | inl less ↦
            let other : p ≢ k = (λ same. omega (arith, less, same)) in
            opens_as tells content size settings (has_replica shape node p) folder (slot_in None home out folder node p) (slot_in (port_in ports p) new_home new_out folder node p) refl
            (subst (λ (s : ReplicaSlot D). OpensWhere tells content size (has_replica shape node p) settings folder (slot_in None home out folder node p) s) (sym (slot_stays t p (port_in ports p) other)) (so.slots t p less))
        | inr past ↦
            subst (λ (o : Option (ReplicaState D)). OpensAs tells content size o (has_replica shape node p) settings folder (slot_in None home out folder node p) (slot_in o new_home new_out folder node p)) (sym (none_here p past))
            (elim (cases_eq p k) [
              | inl same ↦ subst (λ (i : ℕ). StaysClosedWhere tells content size (has_replica shape node i) settings (slot_in None home out folder node i) (slot_in None new_home new_out folder node i)) (sym same)
                  (subst (λ (b : Bool). StaysClosedWhere tells content size b settings (slot_in None home out folder node k) (slot_in None new_home new_out folder node k)) (sym due)
                  (subst (λ (s : ReplicaSlot D). StaysClosed tells content size settings s (slot_in None new_home new_out folder node k)) (slot_before t k None (omega arith)) (closed t)))
              | inr other ↦ stays_where tells content size settings (has_replica shape node p) (slot_in None home out folder node p) (slot_in None new_home new_out folder node p) (slot_stays t p None other ∙ slot_before t p None past)
            ])
      ]

      -- the refusal names it as the first one
      pub first_here : (refusal : Refusal) → refusal.node ≡ node → refusal.partition ≡ k → (bays_tell → IsCause tells content size settings (mid_home folder node k) refusal.what) → bays_tell → IsFirst tells content size (is_of_node shape node) settings (home folder) refusal
      first_here refusal one two cause t = record {
        due_there = subst (λ (i : ℕ). is_of_node shape node i refusal.partition ≡ true) (sym one) (ap (λ (b : Bool). b && has_replica shape node refusal.partition) (same_number node) ∙ subst (λ (i : ℕ). has_replica shape node i ≡ true) (sym two) due);
        cause = subst (λ (i : ℕ). IsCause tells content size settings (home folder i refusal.partition) refusal.what) (sym one)
            (subst (λ (i : ℕ). IsCause tells content size settings (home folder node i) refusal.what) (sym two)
            (subst (λ (h : Option D). IsCause tells content size settings h refusal.what) (so.rest t k (omega arith)).0 (cause t)));
        earlier = λ told n p before is.
            let of_node : (n == node) ≡ true = first_true (n == node) (has_replica shape n p) is in
            let here : n ≡ node = number_true n node of_node in
            let less : p < k = ⊎_elim (λ (a : n < refusal.node). absurd (omega (arith, a, one, here))) (λ (b : (n ≡ refusal.node) × (p < refusal.partition)). (let c = b.1 in omega (arith, c, two))) before in
            let at : has_replica shape node p ≡ true = subst (λ (i : ℕ). has_replica shape i p ≡ true) here (second_true (n == node) (has_replica shape n p) is) in
            subst (λ (i : ℕ). CanOpen tells content size settings (home folder i p)) (sym here)
            (can_open tells content size settings folder (has_replica shape node p) (slot_in None home out folder node p) (slot_in (port_in ports p) mid_home mid_out folder node p) told at (so.slots t p less));
      }
        where
          first_true : (a b : Bool) → (a && b) ≡ true → a ≡ true
          first_true true b is = refl
          first_true false b is = absurd (cc is)

          second_true : (a b : Bool) → (a && b) ≡ true → b ≡ true
          second_true true b is = is
          second_true false b is = absurd (cc is)

      -- its disk failed
      pub failed_here : (faults : D → ℕ) → (bays_tell → FailedAt tells content size faults (slot_in None mid_home mid_out folder node k) (slot_in None new_home new_out folder node k))
          → bays_tell → NodeFailed bays_tell tells content size settings folder node home out new_home new_out faults (has_replica shape node)
      failed_here faults failed t = record {
        partition = k;
        due_there = due;
        here = subst (λ (s : ReplicaSlot D). FailedAt tells content size faults s (slot_in None new_home new_out folder node k)) (slot_before t k None (omega arith)) (failed t);
      }

  -- all of them are open
  module _ (ports : List (ℕ × ReplicaState D)) (new_home : Home D) (new_out : Out) (so : PortsTo shape.partitions ports new_home new_out) where
    pub all_opened : OpensPorts bays_tell tells content size settings folder node home out new_home new_out (has_replica shape node) ports
    all_opened = record {
      up = λ p. elim (cases_lt p shape.partitions) [
        | inl less ↦ so.up p less
        | inr past ↦ ap is_some (none_behind ports shape.partitions p so.below past) ∙ sym (past_shape shape node p past)
      ];
      slots = λ t p. elim (cases_lt p shape.partitions) [
        | inl less ↦ so.slots t p less
        | inr past ↦ subst (λ (b : Bool). OpensWhere tells content size b settings folder (slot_in None home out folder node p) (slot_in (port_in ports p) new_home new_out folder node p)) (sym (past_shape shape node p past))
            (same_slot None (port_in ports p) (home folder node p) (new_home folder node p) (out node p) (new_out node p) (none_behind ports shape.partitions p so.below past) (so.rest t p past).0 (so.rest t p past).1)
      ];
    }

    pub opened_so_far : bays_tell → (p : ℕ) → OpensAs tells content size (port_in ports p) (has_replica shape node p) settings folder (slot_in None home out folder node p) (slot_in (port_in ports p) new_home new_out folder node p)
    opened_so_far t p = opens_as tells content size settings (has_replica shape node p) folder (slot_in None home out folder node p) (slot_in (port_in ports p) new_home new_out folder node p) refl (all_opened.slots t p)
