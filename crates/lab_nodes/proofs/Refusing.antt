-- What is left where an opening ends early.
use Rattle.std.proofs.Common.{◌≡◌, inl, inr, ℕ, ◌+◌, ◌-◌, ◌*◌, ◌/◌, ◌%◌, ◌<◌, ◌≤◌, arith, Bool, true, false, ◌&&◌, List, length, Option, Some, None, refl, sym, ◌∙◌, ap, subst}
use Rattle.std.proofs.lemmas.Bool.{cases_lt}
use Rattle.std.proofs.lemmas.Nat.{div-add-mod'}
use Rattle.cell_model.specs.Cells.{cell_in}
use Rattle.disk_core.specs.Content.{Content}
use Rattle.disk_core.specs.Homes.{Home, Out}
use Rattle.log_manifest.specs.declared.manifest.LogSettings.{LogSettings}
use Rattle.replica_core.specs.State.{ReplicaState}
use Rattle.world_model.specs.declared.order.Refusal.{Refusal}
use Rattle.world_model.specs.declared.shape.Shape.{Shape}
use Rattle.lab_nodes.specs.declared.places.Which.{Which}
use Rattle.lab_nodes.specs.Holding.{HoldsPlace, PlaceHasLayout, settings_of, settled}
use Rattle.lab_nodes.specs.Spots.{GoesHome, HaltsSpot, IsCause, OpensSpot, RestStays, Spot, StartsSpot, StaysClosed, is_meant, node_at, partition_at, place_of, slot_at, spot_at, stands_on}
use Rattle.lab_nodes.specs.Starting.{AreEmpty, CanOpen, FirstChange, HaltsSlot, IsDueAt, IsFirst, OpensTo, StartsSlot, StopsAt, is_due}
use Rattle.lab_nodes.proofs.Holding.{either_settled, held_up, opened_settles}
use Rattle.lab_nodes.proofs.Packing.{opened_log}
use Rattle.lab_nodes.proofs.Walking.{slot_past}
use Rattle.std.specs.Prelude.{IsSome}

-- the place of the node and the partition of a place
pub place_again : (partitions place : ℕ) → place_of partitions (node_at partitions place) (partition_at partitions place) ≡ place
place_again partitions place =
    let row : place / partitions + 1 - 1 ≡ place / partitions = omega arith in
    ap (λ (q : ℕ). q * partitions + place % partitions) row ∙ div-add-mod' place partitions

module _ {D : Type 0} (tells : Type 0) (content : D → Content) (size : D → ℕ) (settings : LogSettings) where
  pub stays_same : (old new : Spot D) → new ≡ old → StaysClosed tells content size settings old new
  stays_same old new same = record {
    slot = ap (λ (s : Spot D). s.slot) same;
    out = ap (λ (s : Spot D). s.out) same;
    keeps = λ t cells doubt holds. subst (λ (s : Spot D). HoldsPlace content settings s.slot s.home cells doubt) (sym same) holds;
    layout = λ t layout laid. subst (λ (s : Spot D). PlaceHasLayout content settings s.slot s.home layout) (sym same) laid;
  }

  -- a place without a replica is closed already
  pub closes_none : (stops : Bool) (mid new : Spot D) → mid.slot ≡ None → GoesHome tells content size stops mid.slot mid new → new ≡ mid
  closes_none stops mid new none goes = subst (λ (s : Option (ReplicaState D)). GoesHome tells content size stops s mid new) none goes

  -- a place that was opened, and then closed
  pub closes_opened : (folder : List ℕ) (old mid new : Spot D) → old.slot ≡ None → OpensSpot tells content size settings folder old mid → GoesHome tells content size false mid.slot mid new → StaysClosed tells content size settings old new
  closes_opened folder old mid new none opens goes =
      let slot_is : mid.slot ≡ Some opens.replica = ap (λ (s : Spot D). s.slot) opens.is in
      let went = subst (λ (s : Option (ReplicaState D)). GoesHome tells content size false s mid new) slot_is goes in
      record {
        slot = ap (λ (s : Spot D). s.slot) went.0.is ∙ sym none;
        out = ap (λ (s : Spot D). s.out) went.0.is ∙ sym opens.was_in;
        keeps = λ t cells doubt holds.
            let settles = opened_settles content settings tells old.home opens.replica cells doubt t opens.opened (subst (λ (s : Option (ReplicaState D)). HoldsPlace content settings s old.home cells doubt) none holds) in
            let held = subst (λ (s : Spot D). HoldsPlace content settings s.slot s.home (settled settles.0 cells doubt) None) (sym opens.is) settles.1 in
            let after = subst (λ (s : Spot D). HoldsPlace content settings s.slot s.home (settled settles.0 cells doubt) None) went.0.is ((went.1 t settings).0 (settled settles.0 cells doubt) None held) in
            subst (λ (s : Spot D). HoldsPlace content settings s.slot s.home cells doubt) (sym went.0.is) (either_settled settings (content went.0.kept) settles.0 cells doubt after);
        layout = λ t layout laid.
            let log = opened_log content settings tells old.home opens.replica layout t opens.opened (subst (λ (s : Option (ReplicaState D)). PlaceHasLayout content settings s old.home layout) none laid) in
            (went.1 t settings).1 layout (subst (λ (s : Spot D). PlaceHasLayout content settings s.slot s.home layout) (sym opens.is) log);
      }

module _ {D : Type 0} (tells : Type 0) (content : D → Content) (size : D → ℕ) (which : Which) (shape : Shape) (folder : List ℕ) (at count : ℕ) (old mid new : ℕ → Spot D) (within : at < count)
    (empty : (k : ℕ) → is_meant which (node_at shape.partitions k) ≡ true → (old k).slot ≡ None) (due : is_due which shape at ≡ true)
    (opens : OpensTo tells content size which shape folder at old mid)
    (halts : FirstChange (λ k. HaltsSpot tells content size (is_meant which (node_at shape.partitions k)) false) count mid new) where
  not_meant : (k : ℕ) → is_meant which (node_at shape.partitions k) ≡ false → is_due which shape k ≡ false
  not_meant k is = ap (λ (b : Bool). b && stands_on shape (node_at shape.partitions k) (partition_at shape.partitions k)) is

  -- a place that was closed before, and stayed as it was until the others were closed again
  closes_same : (k : ℕ) → mid k ≡ old k → k < count → StaysClosed tells content size (settings_of shape) (old k) (new k)
  closes_same k same less = go (is_meant which (node_at shape.partitions k)) refl ((halts k).0 less)
    where
      go : (b : Bool) → is_meant which (node_at shape.partitions k) ≡ b → HaltsSpot tells content size b false (mid k) (new k) → StaysClosed tells content size (settings_of shape) (old k) (new k)
      go false is halted = stays_same tells content size (settings_of shape) (old k) (new k) (halted ∙ same)
      go true is halted = stays_same tells content size (settings_of shape) (old k) (new k) (closes_none tells content size (settings_of shape) false (mid k) (new k) (ap (λ (s : Spot D). s.slot) same ∙ empty k is) halted ∙ same)

  closes_before : (k : ℕ) → k < at → StaysClosed tells content size (settings_of shape) (old k) (new k)
  closes_before k less = go (is_due which shape k) refl (opens.before k less)
    where
      meant : (b : Bool) → is_meant which (node_at shape.partitions k) ≡ b → is_due which shape k ≡ true → HaltsSpot tells content size b false (mid k) (new k) → OpensSpot tells content size (settings_of shape) folder (old k) (mid k) → StaysClosed tells content size (settings_of shape) (old k) (new k)
      meant false is so halted opened = absurd (let no : is_due which shape k ≡ false = not_meant k is in cc)
      meant true is so halted opened = closes_opened tells content size (settings_of shape) folder (old k) (mid k) (new k) (empty k is) opened halted

      go : (b : Bool) → is_due which shape k ≡ b → StartsSpot tells content size b (settings_of shape) folder (old k) (mid k) → StaysClosed tells content size (settings_of shape) (old k) (new k)
      go false is same = closes_same k same (omega (arith, less, within))
      go true is opened = meant (is_meant which (node_at shape.partitions k)) refl is ((halts k).0 (omega (arith, less, within))) opened

  closes_here : (k : ℕ) → k ≡ at → StaysClosed tells content size (settings_of shape) (old k) (new k)
  closes_here k here = subst (λ (i : ℕ). StaysClosed tells content size (settings_of shape) (old i) (new i)) (sym here) (go (is_meant which (node_at shape.partitions at)) refl ((halts at).0 within))
    where
      go : (b : Bool) → is_meant which (node_at shape.partitions at) ≡ b → HaltsSpot tells content size b false (mid at) (new at) → StaysClosed tells content size (settings_of shape) (old at) (new at)
      go false is halted = absurd (let no : is_due which shape at ≡ false = not_meant at is in cc)
      go true is halted =
          let same = closes_none tells content size (settings_of shape) false (mid at) (new at) (opens.here.slot ∙ empty at is) halted in
          subst (λ (s : Spot D). StaysClosed tells content size (settings_of shape) (old at) s) (sym same) opens.here

  -- after a refusal each place is closed as before
  pub all_closed : (k : ℕ) → StaysClosed tells content size (settings_of shape) (old k) (new k)
  all_closed k = elim (cases_lt k at) [
    | inl less ↦ closes_before k less
    | inr past ↦ elim (cases_lt at k) [
      | inr same ↦ closes_here k (omega (arith, past, same))
      | inl behind ↦ elim (cases_lt k count) [
        | inl less ↦ closes_same k (opens.behind k behind) less
        | inr beyond ↦ stays_same tells content size (settings_of shape) (old k) (new k) ((halts k).1 beyond ∙ opens.behind k behind)
      ]
    ]
  ]

-- a place that was opened stands for a log
pub can_open : {D : Type 0} (tells : Type 0) (content : D → Content) (size : D → ℕ) (settings : LogSettings) (folder : List ℕ) (due : Bool) (old new : Spot D) → tells → due ≡ true → StartsSpot tells content size due settings folder old new → CanOpen tells content size settings old.home
can_open tells content size settings folder false old new t is starts = absurd (cc is)
can_open tells content size settings folder true old new t is opens = record { cells = cell_in opens.replica.cells; end = opens.replica.log.table.end; stands = opens.opened.stood t }

-- the refusal of a place that was to be opened
pub due_at : (which : Which) (shape : Shape) (place : ℕ) (refusal : Refusal) → 1 ≤ shape.partitions → is_due which shape place ≡ true → refusal.node ≡ node_at shape.partitions place → refusal.partition ≡ partition_at shape.partitions place → IsDueAt which shape refusal
due_at which shape place refusal some due node partition =
    let again : place_of shape.partitions refusal.node refusal.partition ≡ place =
    ap (λ (n : ℕ). place_of shape.partitions n refusal.partition) node ∙ ap (λ (p : ℕ). place_of shape.partitions (node_at shape.partitions place) p) partition ∙ place_again shape.partitions place in
    let below : place % shape.partitions < shape.partitions = omega (arith, some) in
    record { due = subst (λ (k : ℕ). is_due which shape k ≡ true) (sym again) due; node = omega (arith, node); partition = omega (arith, partition, below) }

-- the refusal of a place is that of the first one, where those before it were opened
pub first_is : {D : Type 0} (tells : Type 0) (content : D → Content) (size : D → ℕ) (which : Which) (shape : Shape) (folder : List ℕ) (home : Home D) (place : ℕ) (refusal : Refusal) → 1 ≤ shape.partitions → is_due which shape place ≡ true
    → refusal.node ≡ node_at shape.partitions place → refusal.partition ≡ partition_at shape.partitions place → IsCause tells content size (settings_of shape) (home folder (node_at shape.partitions place) (partition_at shape.partitions place)) refusal.what
    → (slots : List (Option (ReplicaState D))) (out : Out) (new : ℕ → Spot D) → ((k : ℕ) → k < place → StartsSpot tells content size (is_due which shape k) (settings_of shape) folder (spot_at shape.partitions folder slots home out k) (new k))
    → IsFirst tells content size which shape folder home refusal
first_is {D} tells content size which shape folder home place refusal some due node partition cause slots out new before =
    let again : place_of shape.partitions refusal.node refusal.partition ≡ place =
    ap (λ (n : ℕ). place_of shape.partitions n refusal.partition) node ∙ ap (λ (p : ℕ). place_of shape.partitions (node_at shape.partitions place) p) partition ∙ place_again shape.partitions place in
    let at : IsDueAt which shape refusal = due_at which shape place refusal some due node partition in
    record {
      due = at.due;
      node = at.node;
      partition = at.partition;
      cause = subst (λ (h : Option D). IsCause tells content size (settings_of shape) h refusal.what)
          (ap (λ (n : ℕ). home folder n (partition_at shape.partitions place)) (sym node) ∙ ap (λ (p : ℕ). home folder refusal.node p) (sym partition)) cause;
      earlier = λ t k less is. can_open tells content size (settings_of shape) folder (is_due which shape k) (spot_at shape.partitions folder slots home out k) (new k) t is (before k (subst (λ (q : ℕ). k < q) again less));
    }

pub rest_chain : {D : Type 0} (partitions : ℕ) (folder : List ℕ) (home mid_home new_home : Home D) (out mid_out new_out : Out) → RestStays partitions folder home out mid_home mid_out → RestStays partitions folder mid_home mid_out new_home new_out → RestStays partitions folder home out new_home new_out
rest_chain partitions folder home mid_home new_home out mid_out new_out one two = record {
  homes = λ f n p outside. two.homes f n p outside ∙ one.homes f n p outside;
  outs = λ n p outside. two.outs n p outside ∙ one.outs n p outside;
}

-- the disks of the replicas that are open when an opening ends early are out
pub opened_out : {D : Type 0} (tells : Type 0) (content : D → Content) (size : D → ℕ) (which : Which) (shape : Shape) (folder : List ℕ) (at : ℕ) (old mid : ℕ → Spot D) → ((k : ℕ) → IsSome (old k).slot → (old k).out ≡ Some folder)
    → OpensTo tells content size which shape folder at old mid → (k : ℕ) → IsSome (mid k).slot → (mid k).out ≡ Some folder
opened_out {D} tells content size which shape folder at old mid out opens k some = elim (cases_lt k at) [
  | inl less ↦ go (is_due which shape k) (opens.before k less)
  | inr past ↦ elim (cases_lt at k) [
    | inl behind ↦ same (opens.behind k behind)
    | inr here ↦
        let is : k ≡ at = omega (arith, past, here) in
        let closed : StaysClosed tells content size (settings_of shape) (old k) (mid k) = subst (λ (i : ℕ). StaysClosed tells content size (settings_of shape) (old i) (mid i)) (sym is) opens.here in
        closed.out ∙ out k (subst (λ (s : Option (ReplicaState D)). IsSome s) closed.slot some)
  ]
]
  where
    same : mid k ≡ old k → (mid k).out ≡ Some folder
    same is = ap (λ (s : Spot D). s.out) is ∙ out k (subst (λ (s : Spot D). IsSome s.slot) is some)

    go : (b : Bool) → StartsSpot tells content size b (settings_of shape) folder (old k) (mid k) → (mid k).out ≡ Some folder
    go false is = same is
    go true opened = ap (λ (s : Spot D). s.out) opened.is

-- the slots are as before
pub slots_closed : {D : Type 0} (which : Which) (shape : Shape) (at : ℕ) (old mid new : List (Option (ReplicaState D))) → length mid ≡ length old → length new ≡ length mid → AreEmpty which shape.partitions old → StopsAt which shape old mid at
    → ((k : ℕ) → k < length mid → HaltsSlot (is_meant which (node_at shape.partitions k)) (slot_at mid k) (slot_at new k)) → (k : ℕ) → slot_at new k ≡ slot_at old k
slots_closed {D} which shape at old mid new long longer empty stops halts k = elim (cases_lt k (length mid)) [
  | inr past ↦ slot_past new k (omega (arith, past, longer)) ∙ sym (slot_past old k (omega (arith, past, long)))
  | inl less ↦ go (is_meant which (node_at shape.partitions k)) refl (halts k less)
]
  where
    kept : is_meant which (node_at shape.partitions k) ≡ false → slot_at mid k ≡ slot_at old k
    kept is = elim (cases_lt k at) [
      | inr past ↦ stops.others k past
      | inl before ↦
          let undue : is_due which shape k ≡ false = ap (λ (b : Bool). b && stands_on shape (node_at shape.partitions k) (partition_at shape.partitions k)) is in
          subst (λ (b : Bool). StartsSlot b (settings_of shape) (slot_at old k) (slot_at mid k)) undue (stops.before k before)
    ]

    go : (b : Bool) → is_meant which (node_at shape.partitions k) ≡ b → HaltsSlot b (slot_at mid k) (slot_at new k) → slot_at new k ≡ slot_at old k
    go false is halted = halted ∙ kept is
    go true is halted = halted ∙ sym (empty k is)
