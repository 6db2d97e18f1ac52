-- A record more, and its entry in the index.
use Rattle.std.proofs.Common.{◌≡◌, inl, inr, ⊎_elim, ℕ, ◌+◌, List, [], ◌∷◌, ◌++◌, Bool, true, false, if◌then◌else◌, Some, None, Result, Ok, Err, OnOk, OnErr, sym, ◌∙◌, ap, subst}
use Rattle.std.proofs.lemmas.Bool.{cases_Bool}
use Rattle.disk_core.specs.Content.{Content, ChangesBy}
use Rattle.disk_core.proofs.Changes.{widen}
use Rattle.cell_model.specs.declared.cell.Cell.{Cell}
use Rattle.cell_model.specs.Cells.{join, cell_in}
use Rattle.msg_format.specs.declared.record.Record.{Record}
use Rattle.msg_format.specs.Records.{id_of, head_of, spelling_of}
use Rattle.part_log.specs.declared.segment.Found.{Found}
use Rattle.part_log.specs.Images.{PutsLast, StandsFor}
use Rattle.part_log.specs.Records.{Placed, placed_at, records_of}
use Rattle.part_log.specs.Scan.{found_of}
use Rattle.part_log.specs.Log.{LogTable, IsTable, IsLog, AllVisible}
use Rattle.part_log.proofs.Records.{records_of-append}
use Rattle.replica_core.specs.declared.index.IndexEntry.{IndexEntry}
use Rattle.replica_core.specs.Maps.{is_same, cell_of, cell_for, cell_from, MayCome, JoinsCell, with_joined}
use Rattle.replica_core.specs.Index.{entry_in, entry_set, entry_for, entry_of, noted, cells_of, IsIndexed}
use Rattle.replica_core.proofs.Maps.{cell_from-one}
use Rattle.replica_core.proofs.Ids.{same_one}
use Rattle.replica_core.proofs.IndexLemmas.{noted-one, found_of-one, index_cells, cell_at_entry, cell_in-cells, IsClear, noted_clear, comes_noted, entry_for-here, entry_for-apart}
use Rattle.replica_core.proofs.Standing.{its_cells, its_visible}

module _ (table : LogTable) (old : Content) (lists : List (List (List ℕ × IndexEntry))) (entry : Record) (good : IsTable table) (indexed : IsIndexed table old lists) where
  -- the cells with what the record brings
  joined_cells : (other : List ℕ) → cell_from (records_of indexed.placed ++ entry ∷ []) other ≡ with_joined (cell_in (cells_of old.seen lists)) (id_of entry) (cell_of entry) other
  joined_cells other =
      cell_from-one (records_of indexed.placed) entry other
      ∙ ap (λ (c : Cell). join c (cell_for other (id_of entry) (cell_of entry))) (sym (its_cells table old lists good indexed other))

  module _ (may : MayCome (cell_in (cells_of old.seen lists) (id_of entry)) entry) where
    -- while it is put
    pub joins : (new : Content) (target : ℕ) → ChangesBy (PutsLast table.settings target (records_of indexed.placed) table.end entry) old new
        → ChangesBy (JoinsCell table.settings (cell_in (cells_of old.seen lists)) table.end (id_of entry) (cell_of entry)) old new
    joins new target puts =
        widen (PutsLast table.settings target (records_of indexed.placed) table.end entry) (JoinsCell table.settings (cell_in (cells_of old.seen lists)) table.end (id_of entry) (cell_of entry)) old new puts (λ d c image by. ⊎_elim
        (λ (before : StandsFor table.settings c (records_of indexed.placed) table.end). inl (record {
          records = records_of indexed.placed;
          stands = before;
          give = its_cells table old lists good indexed;
        }))
        (λ (after : StandsFor table.settings c (records_of indexed.placed ++ entry ∷ []) (table.end + 1)). inr (record {
          records = records_of indexed.placed ++ entry ∷ [];
          stands = after;
          give = λ other. sym (joined_cells other);
        }))
        by.stands)

    module _ (after : LogTable) (new : Content) (more : List (List (List ℕ × IndexEntry))) (place : ℕ) (log : IsLog after new (indexed.placed ++ placed_at entry place ∷ []))
        (sets : (other : List ℕ) → entry_in more other ≡ entry_set (record { place = place; head = head_of entry (spelling_of entry) }) other (entry_in lists other)) where
      -- what is set for it is what is noted
      set_noted : (id : List ℕ) → entry_set (record { place = place; head = head_of entry (spelling_of entry) }) id (entry_in lists id) ≡ entry_for (record { place = place; head = head_of entry (spelling_of entry) }) id (entry_in lists id)
      set_noted id = ⊎_elim
          (λ (is : is_same (id_of entry) id ≡ true).
          let at : entry_in lists id ≡ entry_in lists (id_of entry) = ap (entry_in lists) (sym (same_one (id_of entry) id is)) in
          let one : Found = record { place = place; head = head_of entry (spelling_of entry) } in
          let cell : cell_in (cells_of old.seen lists) (id_of entry) ≡ cell_at_entry old.seen (entry_in lists id) = cell_in-cells old.seen lists (id_of entry) ∙ ap (cell_at_entry old.seen) (sym at) in
          let clear : IsClear old.seen (entry_in lists id) = subst (IsClear old.seen) (sym (indexed.index id)) (noted_clear table.settings old.seen indexed.placed id (its_visible table old lists good indexed)) in
          ap (λ (b : Bool). if b then Some (entry_of one) else entry_in lists id) is
          ∙ sym (comes_noted old.seen (entry_in lists id) entry (spelling_of entry) place clear (subst (λ (c : Cell). MayCome c entry) cell may))
          ∙ sym (entry_for-here one id (entry_in lists id) is))
          (λ (is : is_same (id_of entry) id ≡ false).
          let one : Found = record { place = place; head = head_of entry (spelling_of entry) } in
          ap (λ (b : Bool). if b then Some (entry_of one) else entry_in lists id) is ∙ sym (entry_for-apart one id (entry_in lists id) is))
          (cases_Bool (is_same (id_of entry) id))

      -- when it was put
      pub added_index : IsIndexed after new more
      added_index =
          let p : Placed = placed_at entry place in
          let one : Found = record { place = place; head = head_of entry (spelling_of entry) } in
          record {
            placed = indexed.placed ++ p ∷ [];
            log = log;
            index = λ id. sets id
                ∙ set_noted id
                ∙ ap (entry_for one id) (indexed.index id)
                ∙ sym (noted-one None (found_of indexed.placed) one id)
                ∙ ap (λ (l : List Found). noted l id) (sym (found_of-one indexed.placed p));
          }

      pub added_cells : IsTable after → (other : List ℕ) → cell_in (cells_of new.seen more) other ≡ with_joined (cell_in (cells_of old.seen lists)) (id_of entry) (cell_of entry) other
      unfolding added_index
      added_cells fine other =
          its_cells after new more fine added_index other
          ∙ ap (λ (l : List Record). cell_from l other) (records_of-append indexed.placed (placed_at entry place ∷ []))
          ∙ joined_cells other

  -- where it wasn't put, and each record from before can be read still
  pub kept_cells : (new : List ℕ) → AllVisible table.settings new indexed.placed → (other : List ℕ) → cell_in (cells_of new lists) other ≡ cell_in (cells_of old.seen lists) other
  kept_cells new visible other = index_cells table.settings new lists indexed.placed indexed.index visible other ∙ sym (its_cells table old lists good indexed other)

-- an answer that is no refusal
pub ok_since : {T E P Q : Type 0} (result : Result T E) → OnOk result P → OnErr result Q → (Q → ⊥) → P
ok_since (Ok value) p q never = p
ok_since (Err error) p q never = absurd (never q)
