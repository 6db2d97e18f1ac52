-- Why disks aren't opened.
use Rattle.std.specs.Prelude.{ℕ}
use Rattle.disk_core.specs.declared.bays.BayFault.{BayFault}
use Rattle.part_log.specs.declared.fault.OpenFault.{OpenFault}
use Rattle.lab_nodes.specs.declared.fault.NodesFault.{NodesFault}
use Rattle.world_model.specs.declared.order.What.{What}

-- the disk of this node and this partition isn't opened
abbrev pub refused : ℕ → ℕ → What → NodesFault
refused node partition what = NodesFault.Refused (record { node = node; partition = partition; what = what })

abbrev pub bay_fault : BayFault → ℕ → ℕ → NodesFault
bay_fault BayFault.Failed node partition = NodesFault.Failed
bay_fault (BayFault.OtherSize bytes) node partition = refused node partition (What.OtherSize bytes)
bay_fault BayFault.Memory node partition = NodesFault.Memory

abbrev pub open_fault : OpenFault → ℕ → ℕ → NodesFault
open_fault OpenFault.Failed node partition = NodesFault.Failed
open_fault (OpenFault.Damaged place) node partition = refused node partition (What.Damaged place)
open_fault (OpenFault.OtherShape other) node partition = refused node partition What.OtherShape
open_fault OpenFault.Memory node partition = NodesFault.Memory
