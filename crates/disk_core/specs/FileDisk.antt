-- What a disk in a file shows of itself.
use Rattle.std.specs.Prelude.{ℕ, Option}
use Rattle.disk_core.specs.declared.dirty_range.DirtyRange.{DirtyRange}
use Rattle.disk_core.specs.declared.file_disk.FileDisk.{FileDisk}
use Rattle.disk_core.specs.declared.file_fault.FileFault.{FileFault}

module _ {F : Type 0} where
  -- how many bytes it has
  abbrev pub size_of : FileDisk F → ℕ
  size_of disk = disk.size

  -- how often it has failed
  abbrev pub faults_of : FileDisk F → ℕ
  faults_of disk = disk.faults

  -- what of it may not have been synced
  abbrev pub dirty_of : FileDisk F → DirtyRange
  dirty_of disk = disk.dirty

  -- why the last call that failed did
  abbrev pub reason_of : FileDisk F → Option FileFault
  reason_of disk = disk.fault
