-- The place of a node and a partition, and what stands there.
use Rattle.std.proofs.Common.{◌≡◌, ◌⊎◌, inl, inr, ⊎_elim, ℕ, zero, suc, ◌+◌, ◌-◌, ◌*◌, ◌<◌, ◌≤◌, arith, Bool, true, false, ◌&&◌, ◌==◌, cond, nat_lt, List, Option, Some, None, refl, sym, ◌∙◌, ap}
use Rattle.std.specs.Option.{is_some}
use Rattle.std.proofs.lemmas.Bool.{and_right, cases_lt}
use Rattle.std.proofs.lemmas.Bool.Decides.{nat_tests}
use Rattle.std.proofs.lemmas.Nat.{div-mul-add, le-div, mod-mul-add, mod_below, mul-le}
use Rattle.disk_core.specs.Homes.{Home, Out}
use Rattle.replica_core.specs.State.{ReplicaState}
use Rattle.world_model.specs.declared.shape.Shape.{Shape}
use Rattle.world_model.specs.Lists.{first_below}
use Rattle.world_model.specs.Shape.{IsShape, node_of}
use Rattle.lab_nodes.specs.declared.places.Which.{Which}
use Rattle.lab_nodes.specs.Nodes.{has_replica, replica_in}
use Rattle.lab_nodes.specs.Spots.{Spot, is_meant, node_at, partition_at, place_of, slot_at, spot_at, stands_on}
use Rattle.lab_nodes.specs.Starting.{is_due}
use Rattle.lab_nodes.proofs.Sending.{same_spot}

-- A node and a partition that have a place.
pub record Inside (shape : Shape) (n p : ℕ) : Type 0 where
  pub place : ℕ
  pub is : place ≡ place_of shape.partitions n p
  pub node : node_at shape.partitions place ≡ n
  pub column : partition_at shape.partitions place ≡ p
  pub row : 1 ≤ n
  pub below : p < shape.partitions

-- those that have none
abbrev pub Outside : Shape → ℕ → ℕ → Type 0
Outside shape n p = (n ≡ 0) ⊎ (shape.partitions ≤ p)

pub inside : (shape : Shape) (n p : ℕ) → 1 ≤ n → p < shape.partitions → Inside shape n p
inside shape n p row below = record {
  place = (n - 1) * shape.partitions + p;
  is = refl;
  node = ap (λ (q : ℕ). q + 1) (div-mul-add (n - 1) shape.partitions p below) ∙ omega (arith, row);
  column = mod-mul-add (n - 1) shape.partitions p below;
  row = row;
  below = below;
}

pub where_is : (shape : Shape) (n p : ℕ) → Outside shape n p ⊎ Inside shape n p
where_is shape zero p = inl (inl refl)
where_is shape (suc n) p = elim (cases_lt p shape.partitions) [
  | inl less ↦ inr (inside shape (suc n) p (omega arith) less)
  | inr past ↦ inl (inr past)
]

-- nothing passes a test that all fail
none_below : (test : ℕ → Bool) (n : ℕ) → ((k : ℕ) → test k ≡ false) → first_below n test ≡ None
none_below test zero fails = refl
none_below test (suc n) fails = rw (none_below test n fails, fails n) refl

-- a node outside the shape has no replica
pub stands_past : (shape : Shape) (n p : ℕ) → 1 ≤ shape.nodes → (n ≡ 0) ⊎ (shape.nodes < n) → stands_on shape n p ≡ false
stands_past shape n p some outside = ap is_some (none_below (λ replica. node_of shape p replica == n) shape.replicas (λ replica.
    let below = mod_below (p + replica) shape.nodes (omega (arith, some)) in
    ⊎_elim (λ (none : n ≡ 0). grind (arith, nat_tests, none)) (λ (past : shape.nodes < n). grind (arith, nat_tests, past, below)) outside))

pub has_out : (shape : Shape) (n p : ℕ) → 1 ≤ shape.nodes → Outside shape n p → has_replica shape n p ≡ false
has_out shape n p some outside = ⊎_elim
    (λ (none : n ≡ 0). ap (λ (b : Bool). nat_lt p shape.partitions && b) (stands_past shape n p some (inl none)) ∙ and_right (nat_lt p shape.partitions) false refl)
    (λ (past : shape.partitions ≤ p). (let test : nat_lt p shape.partitions ≡ false = grind (arith, nat_tests, past) in ap (λ (b : Bool). b && stands_on shape n p) test)) outside

-- a place has a replica where its node and its partition have one
pub due_here : (which : Which) (shape : Shape) (n p : ℕ) (it : Inside shape n p) → is_due which shape it.place ≡ (is_meant which n && has_replica shape n p)
due_here which shape n p it =
    let below = it.below in
    let test : nat_lt p shape.partitions ≡ true = grind (arith, nat_tests, below) in
    let stands = ap (λ (k : ℕ). stands_on shape k (partition_at shape.partitions it.place)) it.node ∙ ap (λ (q : ℕ). stands_on shape n q) it.column in
    ap (λ (k : ℕ). is_meant which k && stands_on shape (node_at shape.partitions it.place) (partition_at shape.partitions it.place)) it.node
    ∙ ap (λ (b : Bool). is_meant which n && b) (stands ∙ sym (ap (λ (b : Bool). b && stands_on shape n p) test))

pub has_here : (shape : Shape) (n p : ℕ) (it : Inside shape n p) → is_due Which.All shape it.place ≡ has_replica shape n p
has_here shape n p it = due_here Which.All shape n p it

pub few_places : (shape : Shape) → IsShape shape → shape.nodes * shape.partitions ≤ 1024
few_places shape ranges = omega (arith, mul-le shape.nodes shape.partitions 9 64 ranges.nodes ranges.partitions)

-- no replica is due behind the last place
pub undue_past : (which : Which) (shape : Shape) (place : ℕ) → IsShape shape → shape.nodes * shape.partitions ≤ place → is_due which shape place ≡ false
undue_past which shape place ranges past =
    let rows = le-div shape.nodes place shape.partitions (omega (arith, ranges.some_partitions)) past in
    let beyond : shape.nodes < node_at shape.partitions place = omega (arith, rows) in
    ap (λ (b : Bool). is_meant which (node_at shape.partitions place) && b) (stands_past shape (node_at shape.partitions place) (partition_at shape.partitions place) ranges.some_nodes (inr beyond)) ∙ and_right (is_meant which (node_at shape.partitions place)) false refl

module _ {D : Type 0} (shape : Shape) (slots : List (Option (ReplicaState D))) where
  pub slot_here : (n p : ℕ) (it : Inside shape n p) → replica_in (Some shape) slots n p ≡ slot_at slots it.place
  slot_here zero p it = absurd (omega (arith, it.row))
  slot_here (suc n) p it =
      let below = it.below in
      let test : nat_lt p shape.partitions ≡ true = grind (arith, nat_tests, below) in
      let before : suc n - 1 ≡ n = omega arith in
      let same : it.place ≡ n * shape.partitions + p = it.is ∙ ap (λ (q : ℕ). q * shape.partitions + p) before in
      ap (λ (b : Bool). cond b (slot_at slots (n * shape.partitions + p)) None) test ∙ ap (λ (k : ℕ). slot_at slots k) (sym same)

  pub slot_out : (n p : ℕ) → Outside shape n p → replica_in (Some shape) slots n p ≡ None
  slot_out zero p outside = refl
  slot_out (suc n) p outside = ⊎_elim
      (λ (none : suc n ≡ 0). absurd (omega (arith, none)))
      (λ (past : shape.partitions ≤ p). (let test : nat_lt p shape.partitions ≡ false = grind (arith, nat_tests, past) in ap (λ (b : Bool). cond b (slot_at slots (n * shape.partitions + p)) None) test)) outside

  -- what stands at a node and a partition
  abbrev pub view : List ℕ → Home D → Out → ℕ → ℕ → Spot D
  view folder home out n p = record { slot = replica_in (Some shape) slots n p; home = home folder n p; out = out n p }

  pub view_here : (folder : List ℕ) (home : Home D) (out : Out) (n p : ℕ) (it : Inside shape n p) → view folder home out n p ≡ spot_at shape.partitions folder slots home out it.place
  view_here folder home out n p it =
      same_spot (slot_at slots it.place) (replica_in (Some shape) slots n p) (home folder (node_at shape.partitions it.place) (partition_at shape.partitions it.place)) (home folder n p) (out (node_at shape.partitions it.place) (partition_at shape.partitions it.place)) (out n p)
      (slot_here n p it)
      (ap (λ (k : ℕ). home folder k p) (sym it.node) ∙ ap (λ (q : ℕ). home folder (node_at shape.partitions it.place) q) (sym it.column))
      (ap (λ (k : ℕ). out k p) (sym it.node) ∙ ap (λ (q : ℕ). out (node_at shape.partitions it.place) q) (sym it.column))
