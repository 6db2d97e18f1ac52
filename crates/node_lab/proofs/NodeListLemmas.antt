-- The ports of a node in a list of nodes, and which nodes a shape has.
use Rattle.std.proofs.Common.{◌≡◌, ◌≢◌, ◌⊎◌, ⊎_elim, ℕ, zero, suc, ◌+◌, ◌%◌, ◌<◌, ◌≤◌, ◌==◌, ◌&&◌, arith, Bool, true, false, List, [], ◌∷◌, ◌++◌, length, Option, Some, None, refl, sym, ap, subst}
use Rattle.std.specs.List.{slice_get}
use Rattle.std.specs.Option.{is_some}
use Rattle.std.specs.Prelude.{nat_lt}
use Rattle.world_model.specs.Lists.{first_below}
use Rattle.world_model.specs.Shape.{IsShape, node_of, replica_of}
use Rattle.world_model.specs.declared.shape.Shape.{Shape}
use Rattle.node_lab.specs.declared.state.NodeState.{NodeState}
use Rattle.node_lab.specs.Nodes.{has_replica, ports_at, ports_of}
use Rattle.node_lab.proofs.StopLemmas.{not_same}

module _ {P : Type 0} where
  get_last : (nodes : List (NodeState P)) (x : NodeState P) → ◌≡◌ {A = Option (NodeState P)} (slice_get (nodes ++ x ∷ []) (length nodes)) (Some x)
  get_last [] x = refl
  get_last (y ∷ ys) x = get_last ys x

  get_other : (nodes : List (NodeState P)) (x : NodeState P) (k : ℕ) → k ≢ length nodes → ◌≡◌ {A = Option (NodeState P)} (slice_get (nodes ++ x ∷ []) k) (slice_get nodes k)
  get_other [] x zero other = absurd (other refl)
  get_other [] x (suc k) other = refl
  get_other (y ∷ ys) x zero other = refl
  get_other (y ∷ ys) x (suc k) other = get_other ys x k (λ same. other (ap suc same))

  get_past : (nodes : List (NodeState P)) (k : ℕ) → length nodes ≤ k → ◌≡◌ {A = Option (NodeState P)} (slice_get nodes k) None
  get_past [] k past = refl
  get_past (y ∷ ys) zero past = absurd (omega (arith, past))
  get_past (y ∷ ys) (suc k) past = get_past ys k (omega (arith, past))

  -- the node that stands behind the others
  pub last_ports : (nodes : List (NodeState P)) (x : NodeState P) (k : ℕ) → length nodes ≡ k → ports_at (nodes ++ x ∷ []) (k + 1) ≡ ports_of (Some x)
  last_ports nodes x k long =
      let next : k + 1 ≡ suc k = omega arith in
      subst (λ (n : ℕ). ports_at (nodes ++ x ∷ []) n ≡ ports_of (Some x)) (sym next)
      (subst (λ (i : ℕ). ports_of (slice_get (nodes ++ x ∷ []) i) ≡ ports_of (Some x)) long (ap (λ (o : Option (NodeState P)). ports_of o) (get_last nodes x)))

  pub other_ports : (nodes : List (NodeState P)) (x : NodeState P) (k n : ℕ) → length nodes ≡ k → n ≢ k + 1 → ports_at (nodes ++ x ∷ []) n ≡ ports_at nodes n
  other_ports nodes x k zero long other = refl
  other_ports nodes x k (suc n) long other = ap (λ (o : Option (NodeState P)). ports_of o) (get_other nodes x n (λ same. other (omega (arith, same, long))))

  -- no node stands there
  pub ports_past : (nodes : List (NodeState P)) (n : ℕ) → (n ≡ 0) ⊎ (length nodes < n) → ports_at nodes n ≡ []
  ports_past nodes zero outside = refl
  ports_past nodes (suc n) outside = ap (λ (o : Option (NodeState P)). ports_of o) (get_past nodes n (⊎_elim (λ (a : suc n ≡ 0). absurd (omega (arith, a))) (λ (b : length nodes < suc n). omega (arith, b)) outside))

none_below : (test : ℕ → Bool) (n : ℕ) → ((k : ℕ) → test k ≡ false) → first_below n test ≡ None
none_below test zero none = refl
none_below test (suc n) none = rw (none_below test n none, none n) refl

-- the shape has no such node
pub unhosted : (shape : Shape) (n p : ℕ) → IsShape shape → (n ≡ 0) ⊎ (shape.nodes < n) → has_replica shape n p ≡ false
unhosted shape n p ranges outside = go (nat_lt p shape.partitions)
  where
    nowhere : (r : ℕ) → (node_of shape p r == n) ≡ false
    nowhere r =
        let below : (p + r) % shape.nodes < shape.nodes = omega (arith, ranges.some_nodes) in
        not_same (node_of shape p r) n (λ same. ⊎_elim (λ (a : n ≡ 0). omega (arith, same, a)) (λ (b : shape.nodes < n). omega (arith, same, b, below)) outside)

    none : is_some (replica_of shape p n) ≡ false
    none = ap is_some (none_below (λ r. node_of shape p r == n) shape.replicas nowhere)

    go : (b : Bool) → (b && is_some (replica_of shape p n)) ≡ false
    go true = none
    go false = refl
