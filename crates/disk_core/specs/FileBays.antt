-- What bays over files show of themselves.
use Rattle.std.specs.Prelude.{ℕ, Option, None}
use Rattle.disk_core.specs.declared.file_bays.FileBays.{FileBays}
use Rattle.disk_core.specs.declared.file_disk.FileDisk.{FileDisk}
use Rattle.disk_core.specs.declared.file_fault.FileFault.{FileFault}
use Rattle.disk_core.specs.Content.{Content}
use Rattle.disk_core.specs.Homes.{Home, Out}
use Rattle.disk_core.specs.Silent.{silent}

-- files tell nothing of what is kept
abbrev pub untold_content : {F : Type 0} → FileDisk F → Content
untold_content disk = silent

module _ {R F D : Type 0} where
  abbrev pub untold_home : FileBays R F D → Home (FileDisk F)
  untold_home bays folder node partition = None

  abbrev pub untold_out : FileBays R F D → Out
  untold_out bays node partition = None

  -- how often an opening failed
  abbrev pub faults_of : FileBays R F D → ℕ
  faults_of bays = bays.faults

  -- why the last opening that failed did, or the last disk that failed and was put home since
  abbrev pub reason_of : FileBays R F D → Option FileFault
  reason_of bays = bays.fault
