-- What a log with its index stands for.
use Rattle.std.proofs.Common.{◌≡◌, inl, ℕ, List, [], ◌∷◌, Option, sym, ◌∙◌, ap, subst}
use Rattle.disk_core.specs.Content.{Content}
use Rattle.cell_model.specs.declared.cell.Cell.{Cell}
use Rattle.cell_model.specs.Cells.{cell_in}
use Rattle.log_manifest.specs.declared.manifest.LogSettings.{LogSettings}
use Rattle.msg_format.specs.declared.record.Record.{Record}
use Rattle.part_log.specs.declared.segment.Found.{Found}
use Rattle.part_log.specs.Images.{HasLog}
use Rattle.part_log.specs.Records.{Placed, records_of}
use Rattle.part_log.specs.Log.{LogTable, IsTable, IsLog, AllVisible}
use Rattle.part_log.specs.Scan.{TakesAll}
use Rattle.part_log.proofs.Fronts.{its_records, shown_stands}
use Rattle.part_log.proofs.Meaning.{one_log}
use Rattle.part_log.proofs.Visible.{visible}
use Rattle.replica_core.specs.declared.index.Index.{Index}
use Rattle.replica_core.specs.declared.index.IndexEntry.{IndexEntry}
use Rattle.replica_core.specs.Maps.{cell_from, AllStandFor, AllStandForCells, StandsForCells}
use Rattle.replica_core.specs.Index.{cells_of, IsIndexed, IsReady, Notes, noted_or, entry_at}
use Rattle.replica_core.proofs.IndexLemmas.{index_cells}

-- whatever a crash leaves of a log, it has the records
pub log_stands : (table : LogTable) (content : Content) (placed : List Placed) → IsTable table → IsLog table content placed → AllStandFor table.settings content (records_of placed) table.end
log_stands table content placed good log c image = inl (subst (λ (l : List Record). HasLog table.settings c l table.end) (sym (its_records table log.parts placed log.sized log.all)) (shown_stands table log.floor log.parts c good log.sized log.rises log.ends (log.shown c image)))

-- what an index notes that took these records
pub all_noted : (old : Index) (found : List Found) (new : Index) → TakesAll (λ (a : Index) (one : Found) (b : Index). Notes a.by_id.entries one b.by_id.entries) old found new
    → (id : List ℕ) → entry_at new.by_id.entries id ≡ noted_or (entry_at old.by_id.entries id) found id
all_noted old [] new all id = ap (λ (a : Index). entry_at a.by_id.entries id) all
all_noted old (one ∷ found) new all id = all_noted all.0 found new all.2 id ∙ ap (λ (b : Option IndexEntry). noted_or b found id) (all.1 id)

-- bytes stand for one map, and one end lsn
pub same_cells : (settings : LogSettings) (bytes : List ℕ) (f h : List ℕ → Cell) (m n : ℕ) → StandsForCells settings bytes f m → StandsForCells settings bytes h n → (m ≡ n) × ((id : List ℕ) → f id ≡ h id)
same_cells settings bytes f h m n one two =
    let same = one_log settings bytes one.records two.records m n one.stands two.stands in
    (same.end, (λ id. one.give id ∙ ap (λ (l : List Record). cell_from l id) same.records ∙ sym (two.give id)))

pub one_stands : (settings : LogSettings) (content : Content) (cells : List ℕ → Cell) (end : ℕ) → AllStandForCells settings content cells end → (c : List ℕ) → content.images c → StandsForCells settings c cells end
one_stands settings content cells end all c image = record { records = all.records; stands = all.stand c image; give = all.give }

module _ (table : LogTable) (content : Content) (lists : List (List (List ℕ × IndexEntry))) (good : IsTable table) (indexed : IsIndexed table content lists) where
  -- each record can be read
  pub its_visible : AllVisible table.settings content.seen indexed.placed
  its_visible p there = visible table content indexed.placed p good indexed.log there

  -- the cells are those of the records
  pub its_cells : (id : List ℕ) → cell_in (cells_of content.seen lists) id ≡ cell_from (records_of indexed.placed) id
  its_cells = index_cells table.settings content.seen lists indexed.placed indexed.index its_visible

  -- whatever a crash leaves stands for the records, and for the cells
  pub all_stand : AllStandForCells table.settings content (cell_in (cells_of content.seen lists)) table.end
  all_stand = record { records = records_of indexed.placed; stand = log_stands table content indexed.placed good indexed.log; give = its_cells }

  pub stands_cells : (c : List ℕ) → content.images c → StandsForCells table.settings c (cell_in (cells_of content.seen lists)) table.end
  stands_cells c image = one_stands table.settings content (cell_in (cells_of content.seen lists)) table.end all_stand c image

-- a read leaves it ready
pub read_ready : (tells : Type 0) (table after : LogTable) (old new : Content) (lists : List (List (List ℕ × IndexEntry))) → after ≡ table → (tells → (placed : List Placed) → IsLog table old placed → IsLog after new placed)
    → IsReady tells table old lists → IsReady tells after new lists
read_ready tells table after old new lists same kept ready = record {
  good = subst (λ (l : LogTable). IsTable l) (sym same) ready.good;
  indexed = λ t.
      let indexed = ready.indexed t in
      record { placed = indexed.placed; log = kept t indexed.placed indexed.log; index = indexed.index };
}
