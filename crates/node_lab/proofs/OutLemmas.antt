-- Which disks are out stays in step with which replicas are open.
use Rattle.std.proofs.Common.{◌≡◌, ℕ, Bool, true, false, List, Option, Some, None, refl, sym, ◌∙◌, ap, subst}
use Rattle.std.specs.Option.{is_some}
use Rattle.disk_core.specs.Content.{Content}
use Rattle.disk_core.specs.Homes.{Home, Out}
use Rattle.log_manifest.specs.declared.manifest.LogSettings.{LogSettings}
use Rattle.replica_core.specs.State.{ReplicaState}
use Rattle.node_lab.specs.Calls.{ClosesNodes, IsOutAs, OnlyOwnOut, OpensNodes, StayUnopened}
use Rattle.node_lab.specs.Nodes.{NodesState, is_up, slot_at}
use Rattle.node_lab.specs.Slots.{ClosesWhere, GoesHome, OpensWhere, ReplicaSlot, StaysClosedWhere}

module _ {D : Type 0} (tells : Type 0) (content : D → Content) (size : D → ℕ) (before : Option (List ℕ)) where
  -- a slot whose disk is out exactly where its replica is open, and else as before
  abbrev OwnOut : List ℕ → ReplicaSlot D → Type 0
  OwnOut folder slot = IsOutAs (is_some slot.replica) folder before slot.out

  closes_own : (meant stops : Bool) (folder : List ℕ) (old new : ReplicaSlot D) → ClosesWhere tells content size meant stops old new → OwnOut folder old → OwnOut folder new
  closes_own false stops folder old new same own = subst (λ (s : ReplicaSlot D). IsOutAs (is_some s.replica) folder before s.out) (sym same) own
  closes_own true stops folder old new goes own = go old.replica refl goes
    where
      go : (o : Option (ReplicaState D)) → old.replica ≡ o → GoesHome tells content size stops o old new → OwnOut folder new
      go None none same = subst (λ (s : ReplicaSlot D). IsOutAs (is_some s.replica) folder before s.out) (sym same) own
      go (Some replica) has went =
          let was = subst (λ (x : Option (ReplicaState D)). IsOutAs (is_some x) folder before old.out) has own in
          subst (λ (s : ReplicaSlot D). IsOutAs (is_some s.replica) folder before s.out) (sym went.0.is) (sym was.0)

  opens_own : (due : Bool) (settings : LogSettings) (folder : List ℕ) (old new : ReplicaSlot D) → OpensWhere tells content size due settings folder old new → OwnOut folder old → OwnOut folder new
  opens_own false settings folder old new same own = subst (λ (s : ReplicaSlot D). IsOutAs (is_some s.replica) folder before s.out) (sym same) own
  opens_own true settings folder old new opens own =
      subst (λ (s : ReplicaSlot D). IsOutAs (is_some s.replica) folder before s.out) (sym opens.is) (was_in (is_some old.replica) own, refl)
    where
      was_in : (up : Bool) → IsOutAs up folder before old.out → before ≡ None
      was_in false own = sym own ∙ opens.was_in
      was_in true own = own.0

  stays_own : (due : Bool) (settings : LogSettings) (folder : List ℕ) (old new : ReplicaSlot D) → StaysClosedWhere tells content size due settings old new → OwnOut folder old → OwnOut folder new
  stays_own false settings folder old new same own = subst (λ (s : ReplicaSlot D). IsOutAs (is_some s.replica) folder before s.out) (sym same) own
  stays_own true settings folder old new stays own =
      subst (λ (x : Option (ReplicaState D)). IsOutAs (is_some x) folder before new.out) (sym stays.replica) (subst (λ (o : Option (List ℕ)). IsOutAs (is_some old.replica) folder before o) (sym stays.out) own)

  -- where a replica isn't open, no folder is spoken of
  other_folder : (folder other : List ℕ) (slot : ReplicaSlot D) → (is_some slot.replica ≡ true → other ≡ folder) → OwnOut folder slot → OwnOut other slot
  other_folder folder other slot same own = go (is_some slot.replica) same own
    where
      go : (up : Bool) → (up ≡ true → other ≡ folder) → IsOutAs up folder before slot.out → IsOutAs up other before slot.out
      go false same own = own
      go true same own = (own.0, own.1 ∙ ap (λ (f : List ℕ). Some f) (sym (same refl)))

module _ {B D : Type 0} (bays_tell tells : Type 0) (content : D → Content) (size : D → ℕ) (home : B → Home D) (out : B → Out) (t : bays_tell) (before : Out) (old new : NodesState B D) (own : OnlyOwnOut out before old) where
  pub closed_out : (meant : ℕ → Bool) (stops : Bool) → ClosesNodes bays_tell tells content size home out meant stops old new → OnlyOwnOut out before new
  closed_out meant stops closes n p =
      subst (λ (f : List ℕ). IsOutAs (is_up new n p) f (before n p) (out new.bays n p)) (sym closes.same_folder)
      (closes_own tells content size (before n p) (meant n) stops old.folder (slot_at home out old.folder old n p) (slot_at home out old.folder new n p) (closes.slots t n p) (own n p))

  pub opened_out : (due : ℕ → ℕ → Bool) (settings : LogSettings) → ((n p : ℕ) → is_up old n p ≡ true → new.folder ≡ old.folder) → OpensNodes bays_tell tells content size home out due settings new.folder old new → OnlyOwnOut out before new
  opened_out due settings same opens n p =
      opens_own tells content size (before n p) (due n p) settings new.folder (slot_at home out new.folder old n p) (slot_at home out new.folder new n p) (opens.slots t n p)
      (other_folder tells content size (before n p) old.folder new.folder (slot_at home out new.folder old n p) (same n p) (own n p))

  pub unopened_out : (due : ℕ → ℕ → Bool) (settings : LogSettings) (folder : List ℕ) → StayUnopened bays_tell tells content size home out due settings folder old new → OnlyOwnOut out before new
  unopened_out due settings folder stay n p =
      subst (λ (f : List ℕ). IsOutAs (is_up new n p) f (before n p) (out new.bays n p)) (sym stay.same_folder)
      (stays_own tells content size (before n p) (due n p) settings old.folder (slot_at home out folder old n p) (slot_at home out folder new n p) (stay.slots t n p) (own n p))
