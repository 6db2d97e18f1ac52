-- A replica's slot: whether the replica is open, and where its disk is. How slots are opened and closed.
use Rattle.std.specs.Prelude.{◌≡◌, ◌≢◌, ◌⊎◌, ℕ, Bool, true, false, List, Option, Some, None}
use Rattle.blob_id.specs.declared.id.BlobId.{BlobId}
use Rattle.cell_model.specs.declared.cell.Cell.{Cell}
use Rattle.disk_core.specs.Content.{Content}
use Rattle.disk_core.specs.Homes.{Home, HasOtherSize, Out, SameDisk}
use Rattle.log_manifest.specs.declared.manifest.LogSettings.{LogSettings}
use Rattle.outside.specs.Causes.{Rose}
use Rattle.part_log.specs.Images.{IsDamaged, NamesOther}
use Rattle.part_log.specs.Layout.{Layout}
use Rattle.part_log.specs.Log.{disk_size}
use Rattle.replica_core.specs.State.{ReplicaState}
use Rattle.node_lab.specs.Replicas.{HoldsPlace, IsOpened, Left, PlaceHasLayout, found}
use Rattle.world_model.specs.declared.order.What.{What}
use Rattle.world_model.specs.World.{Change}

-- The replica that is open, the disk that is at home under a folder, and the folder of the one that is out.
pub record ReplicaSlot (D : Type 0) : Type 0 where
  pub replica : Option (ReplicaState D)
  pub home : Option D
  pub out : Option (List ℕ)

-- the slot of a node and a partition with this replica, whose disk lies in a folder
abbrev pub slot_in : {D : Type 0} → Option (ReplicaState D) → Home D → Out → List ℕ → (node partition : ℕ) → ReplicaSlot D
slot_in replica home out folder n p = record { replica = replica; home = home folder n p; out = out n p }

-- each slot is changed so
abbrev pub EachSlot : {D : Type 0} → ((node partition : ℕ) → ReplicaSlot D → ReplicaSlot D → Type 0) → (old new : ℕ → ℕ → ReplicaSlot D) → Type 0
EachSlot R old new = (n p : ℕ) → R n p (old n p) (new n p)

-- the disks at home under other folders stay
abbrev pub OtherFoldersStay : {D : Type 0} → List ℕ → (old new : Home D) → Type 0
OtherFoldersStay folder old new = (f : List ℕ) (n p : ℕ) → f ≢ folder → new f n p ≡ old f n p

-- All that lies in other folders, or with other nodes, stays.
pub record OtherNodesStay {D : Type 0} (folder : List ℕ) (node : ℕ) (home : Home D) (out : Out) (new_home : Home D) (new_out : Out) : Type 0 where
  pub homes : (f : List ℕ) (n p : ℕ) → (f ≢ folder) ⊎ (n ≢ node) → new_home f n p ≡ home f n p
  pub outs : (n p : ℕ) → n ≢ node → new_out n p ≡ out n p

-- the disk at home, where there is one, is as large as a log's
abbrev pub HasLogSize : {D : Type 0} → (D → ℕ) → LogSettings → Option D → Type 0
HasLogSize {D} size settings home = (disk : D) → home ≡ Some disk → size disk ≡ disk_size settings

-- What disks of a type tell, and their size.
module _ {D : Type 0} (tells : Type 0) (content : D → Content) (size : D → ℕ) where
  -- what a slot holds it holds on
  abbrev pub Keeps : LogSettings → ReplicaSlot D → ReplicaSlot D → Type 0
  Keeps settings old new = (cells : BlobId → Cell) (doubt : Option Change)
      → HoldsPlace content settings old.replica old.home cells doubt → HoldsPlace content settings new.replica new.home cells doubt

  -- its layout stays
  abbrev pub KeepsLayout : LogSettings → ReplicaSlot D → ReplicaSlot D → Type 0
  KeepsLayout settings old new = (layout : Layout) → PlaceHasLayout content settings old.replica old.home layout → PlaceHasLayout content settings new.replica new.home layout

  -- The disk of a replica is at home, as it is or as a stop leaves it.
  pub record WentHome (stops : Bool) (replica : ReplicaState D) (new : ReplicaSlot D) : Type 0 where
    pub kept : D
    pub is : new ≡ record { replica = None; home = Some kept; out = None }
    pub bytes : size kept ≡ size replica.log.disk
    pub left : tells → Left content stops replica.log.disk kept

  -- a slot is closed, where this replica is open in it
  abbrev pub GoesHome : (stops : Bool) → Option (ReplicaState D) → ReplicaSlot D → ReplicaSlot D → Type 0
  GoesHome stops None old new = new ≡ old
  GoesHome stops (Some replica) old new = WentHome stops replica new × (tells → (settings : LogSettings) → Keeps settings old new × KeepsLayout settings old new)

  -- a slot is closed, where it is meant, and else stays
  abbrev pub ClosesWhere : (meant stops : Bool) → ReplicaSlot D → ReplicaSlot D → Type 0
  ClosesWhere false stops old new = new ≡ old
  ClosesWhere true stops old new = GoesHome stops old.replica old new

  -- A slot is opened: its disk is out under this folder, and no other was.
  pub record OpensSlot (settings : LogSettings) (folder : List ℕ) (old new : ReplicaSlot D) : Type 0 where
    pub was_in : old.out ≡ None
    pub fits : HasLogSize size settings old.home
    pub replica : ReplicaState D
    pub is : new ≡ record { replica = Some replica; home = None; out = Some folder }
    pub bytes : size replica.log.disk ≡ disk_size settings
    pub opened : IsOpened content tells settings old.home replica

  -- a slot is opened, where it is due, and else stays
  abbrev pub OpensWhere : (due : Bool) → LogSettings → List ℕ → ReplicaSlot D → ReplicaSlot D → Type 0
  OpensWhere false settings folder old new = new ≡ old
  OpensWhere true settings folder old new = OpensSlot settings folder old new

  -- A slot is as it was, but maybe for a disk that is new or was given a manifest; what it holds stays.
  pub record StaysClosed (settings : LogSettings) (old new : ReplicaSlot D) : Type 0 where
    pub replica : new.replica ≡ old.replica
    pub out : new.out ≡ old.out
    pub bytes : HasLogSize size settings old.home → HasLogSize size settings new.home
    pub keeps : tells → Keeps settings old new
    pub layout : tells → KeepsLayout settings old new

  -- a slot that is due isn't opened, and any other stays
  abbrev pub StaysClosedWhere : (due : Bool) → LogSettings → ReplicaSlot D → ReplicaSlot D → Type 0
  StaysClosedWhere false settings old new = new ≡ old
  StaysClosedWhere true settings old new = StaysClosed settings old new

  -- where opening went on: a slot with a replica was due and was opened, and one without isn't open
  abbrev pub OpensAs : Option (ReplicaState D) → (due : Bool) → LogSettings → List ℕ → ReplicaSlot D → ReplicaSlot D → Type 0
  OpensAs None due settings folder old new = StaysClosedWhere due settings old new
  OpensAs (Some replica) due settings folder old new = (due ≡ true) × OpensSlot settings folder old new

  -- why the disk of a slot isn't opened
  abbrev pub IsCause : LogSettings → Option D → What → Type 0
  IsCause settings home (What.Damaged place) = tells → IsDamaged settings (found content settings home) place
  IsCause settings home What.OtherShape = tells → (other : LogSettings) × NamesOther settings other (found content settings home)
  IsCause settings home (What.OtherSize bytes) = HasOtherSize tells content size home (disk_size settings) bytes

  -- The disk of a slot was taken out, failed in this very call, and went home again.
  pub record FailedAt (faults : D → ℕ) (old new : ReplicaSlot D) : Type 0 where
    pub taken : D
    pub was : (kept : D) → old.home ≡ Some kept → SameDisk tells content size kept taken
    pub failed : D
    pub rose : Rose (faults taken) (faults failed)
    pub kept : D
    pub at_home : new.home ≡ Some kept
    pub is : SameDisk tells content size failed kept

-- The disk of one of the slots that were to be opened failed.
pub record SomeFailed {D : Type 0} (tells : Type 0) (content : D → Content) (size faults : D → ℕ) (due : ℕ → ℕ → Bool) (old new : ℕ → ℕ → ReplicaSlot D) : Type 0 where
  pub node : ℕ
  pub partition : ℕ
  pub due_there : due node partition ≡ true
  pub here : FailedAt tells content size faults (old node partition) (new node partition)
