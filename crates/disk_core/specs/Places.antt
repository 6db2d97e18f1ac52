-- The places of bays in memory.
use Rattle.std.specs.Prelude.{◌≡◌, ◌≢◌, ℕ, ◌≤◌, List, Bool, cond, ◌&&◌, nat_eq, is_none, Option, Some, None}
use Rattle.std.specs.List.{find, sum_by}
use Rattle.std.specs.Str.{bytes_eq}
use Rattle.std.specs.String.{string_bytes}
use Rattle.disk_core.specs.declared.places.Place.{Place}
use Rattle.disk_core.specs.declared.mem_disk.MemDisk.{MemDisk}
use Rattle.disk_core.specs.declared.bays.BayFault.{BayFault}
use Rattle.disk_core.specs.declared.bays.BayFault.TheVariants.{OtherSize}
use Rattle.disk_core.specs.MemDisk.{size_of}
use Rattle.disk_core.specs.Homes.{Home, Out}

-- the place of this folder, node and partition
abbrev pub is_at : List ℕ → ℕ → ℕ → Place → Bool
is_at folder node partition place = (nat_eq place.node node && nat_eq place.partition partition) && bytes_eq (string_bytes place.folder) folder

-- a place of this node and this partition whose disk is out
abbrev pub is_out : ℕ → ℕ → Place → Bool
is_out node partition place = (nat_eq place.node node && nat_eq place.partition partition) && is_none place.disk

-- the disk that stands at a place
abbrev pub disk_at : Option Place → Option MemDisk
disk_at None = None
disk_at (Some place) = place.disk

-- the folder of a place
abbrev pub folder_at : Option Place → Option (List ℕ)
folder_at None = None
folder_at (Some place) = Some (string_bytes place.folder)

-- the disks at home
abbrev pub home_of : List Place → Home MemDisk
home_of places folder node partition = disk_at (find (is_at folder node partition) places)

-- the folders of the disks that are out
abbrev pub out_of : List Place → Out
out_of places node partition = folder_at (find (is_out node partition) places)

-- how many places pass the test
abbrev pub count_of : (Place → Bool) → List Place → ℕ
count_of test places = sum_by (λ place. cond (test place) 1 0) places

-- A folder, a node and a partition have one place at most.
abbrev pub AreApart : List Place → Type 0
AreApart places = (folder : List ℕ) (node partition : ℕ) → count_of (is_at folder node partition) places ≤ 1

-- Of a node and a partition one disk at most is out.
abbrev pub OneIsOut : List Place → Type 0
OneIsOut places = (node partition : ℕ) → count_of (is_out node partition) places ≤ 1

-- A disk of this size was taken from its place.
pub record TakenFrom (bytes : ℕ) (disk : MemDisk) (old new : Place) : Type 0 where
  pub held : old.disk ≡ Some disk
  pub size : size_of disk ≡ bytes
  pub left : new ≡ record old { disk = None }

-- The disk at a place has other bytes than are asked for, and stays.
pub record KeepsOther (asked other : ℕ) (old new : Place) : Type 0 where
  pub disk : MemDisk
  pub held : old.disk ≡ Some disk
  pub size : size_of disk ≡ other
  pub differs : other ≢ asked
  pub stays : new ≡ old

-- The fault names the size of the disk that is kept, which is another than is asked for.
pub record IsOther (kept : Option MemDisk) (asked : ℕ) (fault : BayFault) : Type 0 where
  pub disk : MemDisk
  pub at_home : kept ≡ Some disk
  pub differs : size_of disk ≢ asked
  pub answered : fault ≡ OtherSize (size_of disk)
