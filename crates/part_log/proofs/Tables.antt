-- The table of a log, made of its fields.
use Rattle.std.proofs.Common.{ℕ, List}
use Rattle.gate_slots.specs.Slots.{CurrentSlot}
use Rattle.log_manifest.specs.declared.manifest.LogSettings.{LogSettings}
use Rattle.part_log.specs.declared.segment.SegmentInfo.{SegmentInfo}
use Rattle.part_log.specs.Log.{LogTable}

abbrev pub table_of : LogSettings → List SegmentInfo → ℕ → ℕ → CurrentSlot → CurrentSlot → LogTable
table_of settings segments next_generation end slots tokens = record { settings = settings; segments = segments; next_generation = next_generation; end = end; slots = slots; tokens = tokens }
