-- What an opening makes of a disk.
use Rattle.std.specs.Prelude.{◌≡◌, ℕ, List}
use Rattle.disk_core.specs.Content.{Content}
use Rattle.log_manifest.specs.declared.manifest.LogSettings.{LogSettings}
use Rattle.part_log.specs.declared.opening.Opened.{Opened}
use Rattle.part_log.specs.Records.{Placed, records_of}
use Rattle.part_log.specs.Images.{IsLaidOut, StandsFor}
use Rattle.part_log.specs.Log.{LogTable, IsLog, layout_of}
use Rattle.part_log.specs.Marks.{AreMarks}

abbrev pub opened_table : LogSettings → Opened → LogTable
opened_table settings opened = record { settings = settings; segments = opened.segments.items; next_generation = opened.next_generation; end = opened.end; slots = opened.slots; tokens = opened.tokens }

-- The log that was opened has these records, which the disk stood for, in their layout.
pub record IsOpened (settings : LogSettings) (before : List ℕ) (opened : Opened) (content : Content) (placed : List Placed) : Type 0 where
  pub log : IsLog (opened_table settings opened) content placed
  pub stands : StandsFor settings before (records_of placed) opened.end
  pub laid_out : IsLaidOut settings before (layout_of (opened_table settings opened))
  pub marks : AreMarks opened.marks.list.items placed
