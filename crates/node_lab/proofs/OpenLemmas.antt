-- How the replica of a place is opened, or isn't.
use Rattle.std.proofs.Common.{◌≡◌, ℕ, List, Option, Some, None, refl, sym, ◌∙◌, subst}
use Rattle.blob_id.specs.declared.id.BlobId.{BlobId}
use Rattle.cell_model.specs.declared.cell.Cell.{Cell}
use Rattle.disk_core.specs.Content.{Content, ChangesBy}
use Rattle.disk_core.specs.Homes.{Home, Out, OthersStay, PutsHome, Stays, TakesOut}
use Rattle.log_manifest.specs.declared.manifest.LogSettings.{LogSettings}
use Rattle.part_log.specs.declared.fault.OpenFault.{OpenFault}
use Rattle.part_log.specs.Images.{IsDamaged, IsLaidOut, NamesOther, OpensLog}
use Rattle.part_log.specs.Log.{disk_size}
use Rattle.replica_core.specs.State.{ReplicaState}
use Rattle.world_model.specs.World.{Change}
use Rattle.node_lab.specs.Replicas.{AllRepresentEither, HoldsPlace, IsOpened, found}
use Rattle.world_model.specs.declared.order.Refusal.{Refusal}
use Rattle.world_model.specs.declared.order.What.{What}
use Rattle.node_lab.specs.declared.fault.NodesFault.{NodesFault}
use Rattle.node_lab.specs.Faults.{open_fault}
use Rattle.node_lab.specs.Slots.{IsCause, OpensSlot, StaysClosed}
use Rattle.node_lab.proofs.ReplicaLemmas.{either_new, either_opened, either_same, image_back}
use Rattle.node_lab.proofs.LayoutLemmas.{place_laid}
use Rattle.node_lab.proofs.SlotLemmas.{same_slot, stays_same}

-- places stay where each of two steps leaves them
pub others_on : {D : Type 0} (folder : List ℕ) (node partition : ℕ) (home mid_home new_home : Home D) (out mid_out new_out : Out) → OthersStay folder node partition home out mid_home mid_out → OthersStay folder node partition mid_home mid_out new_home new_out → OthersStay folder node partition home out new_home new_out
others_on folder node partition home mid_home new_home out mid_out new_out one two = record {
  homes = λ f n p apart. two.homes f n p apart ∙ one.homes f n p apart;
  outs = λ n p apart. two.outs n p apart ∙ one.outs n p apart;
}

module _ {D : Type 0} (tells : Type 0) (content : D → Content) (size : D → ℕ) (settings : LogSettings) (folder : List ℕ) (node partition : ℕ) (disk : D) (home : Home D) (out : Out) (mid_home : Home D) (mid_out : Out) (takes : TakesOut tells content size folder node partition (disk_size settings) disk home out mid_home mid_out) (t : tells) where
  -- the disk that was taken out has the bytes that the opening finds
  pub taken_found : (content disk).seen ≡ found content settings (home folder node partition)
  taken_found = go (home folder node partition) refl
    where
      go : (h : Option D) → home folder node partition ≡ h → (content disk).seen ≡ found content settings h
      go None is = (takes.fresh is t).zeros
      go (Some kept) is = ((takes.same kept is).told t).seen

  -- what the place holds stands on the disk that was taken out
  pub taken_stands : (cells : BlobId → Cell) (doubt : Option Change) → HoldsPlace content settings None (home folder node partition) cells doubt → AllRepresentEither settings (content disk) cells doubt
  taken_stands cells doubt = go (home folder node partition) refl
    where
      go : (h : Option D) → home folder node partition ≡ h → HoldsPlace content settings None h cells doubt → AllRepresentEither settings (content disk) cells doubt
      go None is = λ none. either_new settings (content disk) cells doubt (takes.fresh is t) none
      go (Some kept) is = λ all. either_same settings (content kept) (content disk) cells doubt (image_back (content kept) (content disk) ((takes.same kept is).told t)) all

module _ {D : Type 0} (tells : Type 0) (content : D → Content) (size : D → ℕ) (settings : LogSettings) (folder : List ℕ) (node partition : ℕ) (disk : D) (home : Home D) (out : Out) (mid_home : Home D) (mid_out : Out) (takes : TakesOut tells content size folder node partition (disk_size settings) disk home out mid_home mid_out) where
  -- a replica is open
  pub opens : size disk ≡ disk_size settings → (replica : ReplicaState D) → size replica.log.disk ≡ disk_size settings → IsOpened content tells settings (home folder node partition) replica
      → OpensSlot tells content size settings folder (record { replica = None; home = home folder node partition; out = out node partition }) (record { replica = Some replica; home = mid_home folder node partition; out = mid_out node partition })
  opens asked replica bytes opened = record {
    was_in = takes.was_in;
    fits = λ kept at. sym (takes.same kept at).bytes ∙ asked;
    replica = replica;
    is = same_slot (Some replica) (Some replica) None (mid_home folder node partition) (Some folder) (mid_out node partition) refl takes.left takes.is_out;
    bytes = bytes;
    opened = opened;
  }

  -- the disk went home again
  pub goes_back : (left : D) → size left ≡ disk_size settings → (new_home : Home D) (new_out : Out) → PutsHome tells content size folder node partition left mid_home mid_out new_home new_out → (tells → ChangesBy (OpensLog settings) (content disk) (content left)) → (tells → OpensLog settings (content disk).seen (content left).seen)
      → StaysClosed tells content size settings (record { replica = None; home = home folder node partition; out = out node partition }) (record { replica = None; home = new_home folder node partition; out = new_out node partition })
  goes_back left sized new_home new_out puts changes sees = record {
    replica = refl;
    out = puts.is_in ∙ sym takes.was_in;
    bytes = λ was kept at.
        let both : ◌≡◌ {A = Option D} (Some puts.kept) (Some kept) = sym puts.at_home ∙ at in
        let same : puts.kept ≡ kept = cc both in
        subst (λ (d : D). size d ≡ disk_size settings) same (puts.same.bytes ∙ sized);
    keeps = λ t cells doubt holds.
        subst (λ (h : Option D). HoldsPlace content settings None h cells doubt) (sym puts.at_home)
        (either_same settings (content left) (content puts.kept) cells doubt (image_back (content left) (content puts.kept) (puts.same.told t))
        (either_opened settings (content disk) (content left) cells doubt (changes t)
        (taken_stands tells content size settings folder node partition disk home out mid_home mid_out takes t cells doubt holds)));
    layout = λ t layout laid.
        let taken = taken_found tells content size settings folder node partition disk home out mid_home mid_out takes t in
        place_laid content settings left puts.kept (new_home folder node partition) layout puts.at_home (puts.same.told t).seen
        ((sees t).layout layout (subst (λ (l : List ℕ). IsLaidOut settings l layout) (sym taken) laid));
  }

-- the bays refused
pub refused_stays : {D : Type 0} (tells : Type 0) (content : D → Content) (size : D → ℕ) (settings : LogSettings) (folder : List ℕ) (node partition : ℕ) (home new_home : Home D) (out new_out : Out) → Stays home out new_home new_out
    → StaysClosed tells content size settings (record { replica = None; home = home folder node partition; out = out node partition }) (record { replica = None; home = new_home folder node partition; out = new_out node partition })
refused_stays tells content size settings folder node partition home new_home out new_out stays =
    stays_same tells content size settings (record { replica = None; home = home folder node partition; out = out node partition }) (record { replica = None; home = new_home folder node partition; out = new_out node partition })
    (same_slot None None (home folder node partition) (new_home folder node partition) (out node partition) (new_out node partition) refl (stays.homes folder node partition) (stays.outs node partition))

-- why a disk wasn't opened
pub cause_of : {D : Type 0} (tells : Type 0) (content : D → Content) (size : D → ℕ) (settings : LogSettings) (home : Option D) (fault : OpenFault) (node partition : ℕ) (refusal : Refusal) → open_fault fault node partition ≡ NodesFault.Refused refusal
    → ((at : ℕ) → fault ≡ OpenFault.Damaged at → tells → IsDamaged settings (found content settings home) at)
    → ((other : LogSettings) → fault ≡ OpenFault.OtherShape other → tells → NamesOther settings other (found content settings home))
    → (refusal.node ≡ node) × (refusal.partition ≡ partition) × IsCause tells content size settings home refusal.what
cause_of tells content size settings home OpenFault.Failed node partition refusal is damaged other = absurd (cc is)
cause_of tells content size settings home OpenFault.Memory node partition refusal is damaged other = absurd (cc is)
cause_of tells content size settings home (OpenFault.Damaged place) node partition refusal is damaged other =
    let same : ◌≡◌ {A = Refusal} (record { node = node; partition = partition; what = What.Damaged place }) refusal = cc is in
    subst (λ (r : Refusal). (r.node ≡ node) × (r.partition ≡ partition) × IsCause tells content size settings home r.what) same (refl, refl, damaged place refl)
cause_of tells content size settings home (OpenFault.OtherShape shape) node partition refusal is damaged other =
    let same : ◌≡◌ {A = Refusal} (record { node = node; partition = partition; what = What.OtherShape }) refusal = cc is in
    subst (λ (r : Refusal). (r.node ≡ node) × (r.partition ≡ partition) × IsCause tells content size settings home r.what) same (refl, refl, (λ t. (shape, other shape refl t)))

-- only a disk that failed is told so
pub failed_by : (fault : OpenFault) (node partition : ℕ) → open_fault fault node partition ≡ NodesFault.Failed → fault ≡ OpenFault.Failed
failed_by OpenFault.Failed node partition is = refl
failed_by OpenFault.Memory node partition is = absurd (cc is)
failed_by (OpenFault.Damaged place) node partition is = absurd (cc is)
failed_by (OpenFault.OtherShape shape) node partition is = absurd (cc is)
