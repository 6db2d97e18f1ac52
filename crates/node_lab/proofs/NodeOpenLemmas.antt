-- A node whose opening ended early is closed again.
use Rattle.std.proofs.Common.{◌≡◌, ℕ, Bool, false, List, Option, Some, None, refl, sym, ◌∙◌, ap, subst}
use Rattle.disk_core.specs.Content.{Content}
use Rattle.disk_core.specs.Homes.{Home, Out}
use Rattle.log_manifest.specs.declared.manifest.LogSettings.{LogSettings}
use Rattle.node_core.specs.Ports.{port_in}
use Rattle.replica_core.specs.State.{ReplicaState}
use Rattle.node_lab.specs.Calls.{PortsOut}
use Rattle.node_lab.specs.Openings.{NodeFailed}
use Rattle.node_lab.specs.Slots.{FailedAt, GoesHome, OpensAs, OtherNodesStay, ReplicaSlot, StaysClosedWhere, slot_in}
use Rattle.node_lab.proofs.SlotLemmas.{closes_again, opened_out}

pub others_chain : {D : Type 0} (folder : List ℕ) (node : ℕ) (home mid_home new_home : Home D) (out mid_out new_out : Out) → OtherNodesStay folder node home out mid_home mid_out → OtherNodesStay folder node mid_home mid_out new_home new_out → OtherNodesStay folder node home out new_home new_out
others_chain folder node home mid_home new_home out mid_out new_out one two = record {
  homes = λ f n p away. two.homes f n p away ∙ one.homes f n p away;
  outs = λ n p away. two.outs n p away ∙ one.outs n p away;
}

module _ {D : Type 0} (tells : Type 0) (content : D → Content) (size : D → ℕ) (settings : LogSettings) where
  -- a disk that failed and is at home stays there where the others go home
  pub failed_stays : (faults : D → ℕ) (due : Bool) (folder : List ℕ) (replica : Option (ReplicaState D)) (node p : ℕ) (home mid_home new_home : Home D) (out mid_out new_out : Out)
      → OpensAs tells content size replica due settings folder (slot_in None home out folder node p) (slot_in replica mid_home mid_out folder node p)
      → GoesHome tells content size false replica (slot_in replica mid_home mid_out folder node p) (slot_in None new_home new_out folder node p)
      → FailedAt tells content size faults (slot_in None home out folder node p) (slot_in None mid_home mid_out folder node p) → FailedAt tells content size faults (slot_in None home out folder node p) (slot_in None new_home new_out folder node p)
  failed_stays faults due folder None node p home mid_home new_home out mid_out new_out opens goes failed = subst (λ (s : ReplicaSlot D). FailedAt tells content size faults (slot_in None home out folder node p) s) (sym goes) failed
  failed_stays faults due folder (Some replica) node p home mid_home new_home out mid_out new_out opens goes failed = absurd (
      let gone : mid_home folder node p ≡ None = ap (λ (s : ReplicaSlot D). s.home) opens.1.is in
      let no : ◌≡◌ {A = Option D} None (Some failed.kept) = sym gone ∙ failed.at_home in cc)

  module _ (bays_tell : Type 0) (folder : List ℕ) (node : ℕ) (due : ℕ → Bool) (ports : List (ℕ × ReplicaState D)) (home mid_home new_home : Home D) (out mid_out new_out : Out)
      (slots : bays_tell → (p : ℕ) → OpensAs tells content size (port_in ports p) (due p) settings folder (slot_in None home out folder node p) (slot_in (port_in ports p) mid_home mid_out folder node p)) where
    -- the disks of those that are open are out
    pub ports_out : bays_tell → PortsOut folder node ports mid_out
    ports_out t p some = opened_out tells content size settings (due p) folder (slot_in None home out folder node p) (slot_in (port_in ports p) mid_home mid_out folder node p) (slots t p) some

    module _ (goes : bays_tell → (p : ℕ) → GoesHome tells content size false (port_in ports p) (slot_in (port_in ports p) mid_home mid_out folder node p) (slot_in None new_home new_out folder node p)) where
      pub node_closed : bays_tell → (p : ℕ) → StaysClosedWhere tells content size (due p) settings (slot_in None home out folder node p) (slot_in None new_home new_out folder node p)
      node_closed t p = closes_again tells content size settings (due p) folder (slot_in None home out folder node p) (slot_in (port_in ports p) mid_home mid_out folder node p) (slot_in None new_home new_out folder node p) refl (slots t p) (goes t p)

      pub node_failed : (faults : D → ℕ) → (bays_tell → NodeFailed bays_tell tells content size settings folder node home out mid_home mid_out faults due) → bays_tell → NodeFailed bays_tell tells content size settings folder node home out new_home new_out faults due
      node_failed faults failed t =
          let one = failed t in
          record {
            partition = one.partition;
            due_there = one.due_there;
            here = failed_stays faults (due one.partition) folder (port_in ports one.partition) node one.partition home mid_home new_home out mid_out new_out (slots t one.partition) (goes t one.partition) one.here;
          }
