-- What a disk with a fuse shows of itself.
use Rattle.std.specs.Prelude.{ℕ, ◌+◌}
use Rattle.disk_core.specs.declared.fuse_disk.Fuse.{Fuse}
use Rattle.disk_core.specs.declared.fuse_disk.FuseDisk.{FuseDisk}

module _ {D : Type 0} where
  -- the disk below
  abbrev pub disk_of : FuseDisk D → D
  disk_of f = f.disk

  -- which of the coming calls fail
  abbrev pub fuse_of : FuseDisk D → Fuse
  fuse_of f = f.fuse

  -- the faults of the disk below, and those of the fuse
  abbrev pub faults_of : (D → ℕ) → FuseDisk D → ℕ
  faults_of faults f = faults f.disk + f.faults
