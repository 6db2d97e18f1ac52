-- Going over places one after the other.
use Rattle.std.proofs.Common.{◌≡◌, ◌≢◌, ◌⊎◌, inl, inr, ⊎_elim, ℕ, zero, suc, ◌+◌, ◌*◌, ◌/◌, ◌%◌, ◌<◌, ◌≤◌, arith, Bool, true, ◌&&◌, List, [], ◌∷◌, ◌++◌, length, slice_set, Option, None, refl, sym, ◌∙◌, ap, subst}
use Rattle.std.proofs.lemmas.Bool.{cases_lt}
use Rattle.std.proofs.lemmas.Nat.{div-add-mod'}
use Rattle.std.proofs.lemmas.Option.{slice_get-get_or, slice_get_past}
use Rattle.std.specs.List.{slice_index_or}
use Rattle.disk_core.specs.Homes.{Home, Out, OthersStay}
use Rattle.replica_core.specs.State.{ReplicaState}
use Rattle.world_model.specs.declared.shape.Shape.{Shape}
use Rattle.lab_nodes.specs.declared.places.Which.{Which}
use Rattle.lab_nodes.specs.Spots.{RestStays, is_meant, node_at, partition_at, slot_at, slot_in, spot_at, stands_on}
use Rattle.lab_nodes.specs.Starting.{FirstChange, is_due}
use Rattle.lab_nodes.proofs.Sending.{same_spot}

-- one place more
pub walk_on : {S : Type 0} (R : ℕ → S → S → Type 0) (count : ℕ) (old mid new : ℕ → S) → FirstChange R count old mid → R count (mid count) (new count) → ((k : ℕ) → k ≢ count → new k ≡ mid k) → FirstChange R (count + 1) old new
walk_on {S} R count old mid new walked here others = λ k. (
  (λ less. elim (cases_lt k count) [
    | inl lt ↦ subst (λ (s : S). R k (old k) s) (sym (others k (omega (arith, lt)))) ((walked k).0 lt)
    | inr past ↦
        let same : k ≡ count = omega (arith, less, past) in
        subst (λ (i : ℕ). R i (old i) (new i)) (sym same) (subst (λ (s : S). R count s (new count)) ((walked count).1 (omega arith)) here)
  ]),
  (λ past. others k (omega (arith, past)) ∙ (walked k).1 (omega (arith, past))),
)

-- two places differ in their node or in their partition
pub apart_places : (partitions k i : ℕ) → k ≢ i → (node_at partitions k ≢ node_at partitions i) ⊎ (partition_at partitions k ≢ partition_at partitions i)
apart_places partitions k i other = elim (cases_lt (k % partitions) (i % partitions)) [
  | inl less ↦ inr (omega (arith, less))
  | inr past ↦ elim (cases_lt (i % partitions) (k % partitions)) [
    | inl more ↦ inr (omega (arith, more))
    | inr same ↦ inl (λ node.
        let rows : k / partitions ≡ i / partitions = omega (arith, node) in
        let columns : k % partitions ≡ i % partitions = omega (arith, past, same) in
        other (sym (div-add-mod' k partitions) ∙ ap (λ (q : ℕ). q * partitions + k % partitions) rows ∙ ap (λ (r : ℕ). i / partitions * partitions + r) columns ∙ div-add-mod' i partitions))
  ]
]

module _ {D : Type 0} where
  -- the slot that an index finds, and the slots with another one there
  pub slot_found : (slots : List (Option (ReplicaState D))) (place : ℕ) (x : Option (ReplicaState D)) → place < length slots → x ≡ slice_index_or slots place x → slot_at slots place ≡ x
  slot_found slots place x within is = ap slot_in (slice_get-get_or slots place x within) ∙ sym is

  pub slot_set : (slots : List (Option (ReplicaState D))) (place : ℕ) (x : Option (ReplicaState D)) → place < length slots → slot_at (slice_set slots place x) place ≡ x
  slot_set [] place x within = absurd (omega (arith, within))
  slot_set (y ∷ ys) zero x within = refl
  slot_set (y ∷ ys) (suc place) x within = slot_set ys place x (omega (arith, within))

  pub slot_set_other : (slots : List (Option (ReplicaState D))) (place k : ℕ) (x : Option (ReplicaState D)) → k ≢ place → slot_at (slice_set slots place x) k ≡ slot_at slots k
  slot_set_other [] place k x other = refl
  slot_set_other (y ∷ ys) zero zero x other = absurd (other refl)
  slot_set_other (y ∷ ys) zero (suc k) x other = refl
  slot_set_other (y ∷ ys) (suc place) zero x other = refl
  slot_set_other (y ∷ ys) (suc place) (suc k) x other = slot_set_other ys place k x (omega (arith, other))

  pub slot_past : (slots : List (Option (ReplicaState D))) (place : ℕ) → length slots ≤ place → slot_at slots place ≡ None
  slot_past slots place past = ap slot_in (slice_get_past slots place past)

  -- one empty slot more
  pub none_on : (slots : List (Option (ReplicaState D))) → ((k : ℕ) → slot_at slots k ≡ None) → (k : ℕ) → slot_at (slots ++ None ∷ []) k ≡ None
  none_on [] none zero = refl
  none_on [] none (suc k) = refl
  none_on (y ∷ ys) none zero = none zero
  none_on (y ∷ ys) none (suc k) = none_on ys (λ i. none (suc i)) k

  -- a step at one place leaves the others
  pub other_spot : (partitions : ℕ) (folder : List ℕ) (slots : List (Option (ReplicaState D))) (place : ℕ) (x : Option (ReplicaState D)) (home new_home : Home D) (out new_out : Out) → OthersStay folder (node_at partitions place) (partition_at partitions place) home out new_home new_out
      → (k : ℕ) → k ≢ place → spot_at partitions folder (slice_set slots place x) new_home new_out k ≡ spot_at partitions folder slots home out k
  other_spot partitions folder slots place x home new_home out new_out others k other =
      same_spot (slot_at slots k) (slot_at (slice_set slots place x) k) (home folder (node_at partitions k) (partition_at partitions k)) (new_home folder (node_at partitions k) (partition_at partitions k)) (out (node_at partitions k) (partition_at partitions k)) (new_out (node_at partitions k) (partition_at partitions k))
      (slot_set_other slots place k x other)
      (others.homes folder (node_at partitions k) (partition_at partitions k) (inr (apart_places partitions k place other)))
      (others.outs (node_at partitions k) (partition_at partitions k) (apart_places partitions k place other))

  pub rest_on : (partitions : ℕ) (folder : List ℕ) (place : ℕ) (home mid_home new_home : Home D) (out mid_out new_out : Out) → 1 ≤ partitions → RestStays partitions folder home out mid_home mid_out → OthersStay folder (node_at partitions place) (partition_at partitions place) mid_home mid_out new_home new_out
      → RestStays partitions folder home out new_home new_out
  rest_on partitions folder place home mid_home new_home out mid_out new_out some rest others =
      let below : place % partitions < partitions = omega (arith, some) in
      let apart : (n p : ℕ) → (n ≡ 0) ⊎ (partitions ≤ p) → (n ≢ node_at partitions place) ⊎ (p ≢ partition_at partitions place) =
      λ n p outside. ⊎_elim (λ (none : n ≡ 0). inl (omega (arith, none))) (λ (past : partitions ≤ p). inr (omega (arith, past, below))) outside in
      record {
        homes = λ f n p outside. others.homes f n p (⊎_elim (λ (other : f ≢ folder). inl other) (λ (o : (n ≡ 0) ⊎ (partitions ≤ p)). inr (apart n p o)) outside) ∙ rest.homes f n p outside;
        outs = λ n p outside. others.outs n p (apart n p outside) ∙ rest.outs n p outside;
      }

-- what two tests say of a place
pub due_from : (which : Which) (shape : Shape) (place n p : ℕ) (a b : Bool) → n ≡ node_at shape.partitions place → p ≡ partition_at shape.partitions place → a ≡ is_meant which n → a ≡ true → b ≡ stands_on shape n p → b ≡ true → is_due which shape place ≡ true
due_from which shape place n p a b node partition meant first stands also =
    let m : is_meant which (node_at shape.partitions place) ≡ true = ap (λ (k : ℕ). is_meant which k) (sym node) ∙ sym meant ∙ first in
    let s : stands_on shape (node_at shape.partitions place) (partition_at shape.partitions place) ≡ true =
    ap (λ (k : ℕ). stands_on shape k (partition_at shape.partitions place)) (sym node) ∙ ap (λ (q : ℕ). stands_on shape n q) (sym partition) ∙ sym stands ∙ also in
    ap (λ (x : Bool). x && stands_on shape (node_at shape.partitions place) (partition_at shape.partitions place)) m ∙ s
