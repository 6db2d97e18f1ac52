-- What bays with a fuse show of themselves.
use Rattle.std.specs.Prelude.{◌≡◌, ℕ, List, filter, Bool, not, ◌&&◌, nat_eq, Option, Some, None, Result, OnOk, OnErr}
use Rattle.std.specs.List.{find}
use Rattle.disk_core.specs.declared.fuse_bays.FuseBays.{FuseBays}
use Rattle.disk_core.specs.declared.fuse_bays.PlacedFuse.{PlacedFuse}
use Rattle.disk_core.specs.declared.fuse_disk.FuseDisk.{FuseDisk}
use Rattle.disk_core.specs.declared.fuse_disk.Fuse.{Fuse}
use Rattle.disk_core.specs.declared.fuse_disk.Fuse.TheVariants.{Absent, Passes}
use Rattle.disk_core.specs.declared.mem_bays.MemBays.{MemBays}
use Rattle.disk_core.specs.declared.mem_disk.MemDisk.{MemDisk}
use Rattle.disk_core.specs.Content.{Content}
use Rattle.disk_core.specs.declared.unsynced.Pick.{Pick}
use Rattle.disk_core.specs.MemDisk.{content_of, size_of, pick_of, with_pick}
use Rattle.disk_core.specs.Homes.{Home}

-- the bays below
abbrev pub bays_of : FuseBays → MemBays
bays_of bays = bays.bays

abbrev pub content_in : FuseDisk MemDisk → Content
content_in disk = content_of disk.disk

abbrev pub size_in : FuseDisk MemDisk → ℕ
size_in disk = size_of disk.disk

-- a disk at home passes all calls
abbrev pub fused : Option MemDisk → Option (FuseDisk MemDisk)
fused None = None
fused (Some disk) = Some (record { disk = disk; fuse = Absent; faults = 0 })

abbrev pub fused_home : Home MemDisk → Home (FuseDisk MemDisk)
fused_home home folder node partition = fused (home folder node partition)

-- the fuses that weren't handed out
abbrev pub fuses_of : FuseBays → List PlacedFuse
fuses_of bays = bays.fuses.items

-- the fuse is for the disk of this node and this partition
abbrev pub is_placed : ℕ → ℕ → PlacedFuse → Bool
is_placed node partition fuse = nat_eq fuse.node node && nat_eq fuse.partition partition

-- the fuse that is placed for this disk
abbrev pub fuse_at : FuseBays → ℕ → ℕ → Option PlacedFuse
fuse_at bays node partition = find (is_placed node partition) (fuses_of bays)

-- the fuses for other disks
abbrev pub without : ℕ → ℕ → List PlacedFuse → List PlacedFuse
without node partition fuses = filter (λ fuse. not (is_placed node partition fuse)) fuses

-- which calls of a disk fail that is handed out with this fuse, or with none
abbrev pub fuse_for : Option PlacedFuse → Fuse
fuse_for None = Absent
fuse_for (Some placed) = Passes placed.passes

-- the disk as it is handed out with this fuse, or with none
abbrev pub picked : Option PlacedFuse → MemDisk → MemDisk
picked None disk = disk
picked (Some placed) disk = with_pick placed.pick disk

-- what a stop leaves of it: what its fuse says, else what it was made with; a new one is made as the bays were
abbrev pub pick_at : Option PlacedFuse → Option MemDisk → Pick → Pick
pick_at (Some placed) kept new = placed.pick
pick_at None (Some disk) new = pick_of disk
pick_at None None new = new

-- Only an opening that succeeds uses the fuse of its disk up.
pub record UsesUp {T E : Type 0} (node partition : ℕ) (result : Result T E) (old new : List PlacedFuse) : Type 0 where
  pub opened : OnOk result (new ≡ without node partition old)
  pub refused : OnErr result (new ≡ old)
