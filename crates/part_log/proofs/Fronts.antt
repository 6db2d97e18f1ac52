-- The records in front of each segment.
use Rattle.std.proofs.Common.{◌≡◌, ℕ, ◌≤◌, max, List, [], ◌∷◌, ◌++◌, get_or, take, drop, Option, refl, sym, ◌∙◌, ap, subst, arith}
use Rattle.std.proofs.lemmas.List.{take-take}
use Rattle.disk_core.specs.Content.{range}
use Rattle.disk_core.proofs.Ranges.{get_or-range, range_in}
use Rattle.gate_slots.specs.Cell.{Cell, cell_at}
use Rattle.gate_slots.specs.Slots.{CurrentSlot, IsLoaded}
use Rattle.gate_slots.proofs.OtherSlot.{cell_same}
use Rattle.msg_format.specs.declared.record.Record.{Record}
use Rattle.part_log.specs.declared.segment.SegmentInfo.{SegmentInfo}
use Rattle.part_log.specs.Records.{Written, entries_of, RisesFrom, next_after, Placed, placed_from, records_of}
use Rattle.part_log.specs.Segments.{place_of, lives_of, ChangesIn}
use Rattle.part_log.specs.Images.{AllHold, joined, HasLog}
use Rattle.part_log.specs.Log.{LogTable, manifest_of, AllFit, IsTable, IsFront, AllFront, AllSized, placed_in, IsShown}
use Rattle.part_log.proofs.Records.{holds_records, records_of-append, records_of-placed, entries_of-append}
use Rattle.part_log.proofs.Manifests.{Without, lower_floor}

-- the same bytes in a segment have the same records in front
pub front_same : (segment : ℕ) (info : SegmentInfo) (part : List Written) (d c : List ℕ) → info.used ≤ segment → range (place_of segment info.segment) segment c ≡ range (place_of segment info.segment) segment d → IsFront segment info part d → IsFront segment info part c
front_same segment info part d c fits same was =
    let start : ℕ = place_of segment info.segment in
    record {
      front = sym (take-take info.used segment (drop start c) fits) ∙ ap (λ (l : List ℕ). take info.used l) same ∙ take-take info.used segment (drop start d) fits ∙ was.front;
      shut = λ room is. was.shut room (sym (get_or-range start segment d info.used (omega arith)) ∙ sym (ap (λ (l : List ℕ). get_or l info.used 0) same) ∙ get_or-range start segment c info.used (omega arith) ∙ is);
    }

-- a change in another segment leaves the records in front of these
pub fronts_stay : (segment target : ℕ) (infos : List SegmentInfo) (parts : List (List Written)) (d c : List ℕ) → ChangesIn segment target d c → Without target infos → AllFit segment infos → AllFront segment infos parts d → AllFront segment infos parts c
fronts_stay segment target [] [] d c changes apart fit fronts = tt
fronts_stay segment target [] (part ∷ parts) d c changes apart fit fronts = absurd fronts
fronts_stay segment target (info ∷ infos) [] d c changes apart fit fronts = absurd fronts
fronts_stay segment target (info ∷ infos) (part ∷ parts) d c changes apart fit fronts = (
  front_same segment info part d c fit.0 (changes.others info.segment (λ same. apart.0 (sym same))) fronts.0,
  fronts_stay segment target infos parts d c changes apart.1 fit.1 fronts.1,
)

pub all_hold : (segment : ℕ) (infos : List SegmentInfo) (parts : List (List Written)) (c : List ℕ) → AllFit segment infos → AllSized infos parts → AllFront segment infos parts c → AllHold segment c (lives_of infos) parts
all_hold segment [] [] c fit sized fronts = tt
all_hold segment [] (part ∷ parts) c fit sized fronts = absurd fronts
all_hold segment (info ∷ infos) [] c fit sized fronts = absurd fronts
all_hold segment (info ∷ infos) (part ∷ parts) c fit sized fronts = (
  holds_records (place_of segment info.segment) segment info.used c part fit.0 sized.1 fronts.0.front fronts.0.shut,
  all_hold segment infos parts c fit.1 sized.2 fronts.1,
)

pub records_of-placed_in : (segment : ℕ) (infos : List SegmentInfo) (parts : List (List Written)) → AllSized infos parts → records_of (placed_in segment infos parts) ≡ entries_of (joined parts)
records_of-placed_in segment [] [] sized = refl
records_of-placed_in segment [] (part ∷ parts) sized = absurd sized
records_of-placed_in segment (info ∷ infos) [] sized = absurd sized
records_of-placed_in segment (info ∷ infos) (part ∷ parts) sized =
    records_of-append (placed_from (place_of segment info.segment) part) (placed_in segment infos parts)
    ∙ ap (λ (l : List Record). l ++ records_of (placed_in segment infos parts)) (records_of-placed (place_of segment info.segment) part)
    ∙ ap (λ (l : List Record). entries_of part ++ l) (records_of-placed_in segment infos parts sized.2)
    ∙ sym (entries_of-append part (joined parts))

-- bytes that show a table's records stand for them
pub shown_stands : (table : LogTable) (floor : ℕ) (parts : List (List Written)) (c : List ℕ) → IsTable table → AllSized table.segments parts → RisesFrom 0 (joined parts)
    → table.end ≡ max floor (next_after 0 (joined parts)) → IsShown table floor parts c → HasLog table.settings c (entries_of (joined parts)) table.end
shown_stands table floor parts c good sized rises ends shown = record {
  manifest = manifest_of table floor;
  has = record { value = shown.value; good = lower_floor table table.end floor (omega (arith, ends)) good.manifest };
  same = refl;
  parts = parts;
  hold = all_hold table.settings.segment table.segments parts c good.fit sized shown.fronts;
  all = refl;
  rises = rises;
  ends = ends;
}

-- the records of a log's list
pub its_records : (table : LogTable) (parts : List (List Written)) (placed : List Placed) → AllSized table.segments parts → placed ≡ placed_in table.settings.segment table.segments parts → records_of placed ≡ entries_of (joined parts)
its_records table parts placed sized all = ap records_of all ∙ records_of-placed_in table.settings.segment table.segments parts sized

-- the manifest's cell is the same
pub value_same : (c d : List ℕ) (value : Option (List ℕ)) → range 0 2048 c ≡ range 0 2048 d → (cell_at 0 d).value ≡ value → (cell_at 0 c).value ≡ value
value_same c d value same was = ap (λ (x : Cell). x.value) (cell_same 0 c d same) ∙ was

-- and so is what was loaded of a cell that is the same
pub loaded_same : (place : ℕ) (slots : CurrentSlot) (old new : List ℕ) → slots.base ≡ place → range place 2048 new ≡ range place 2048 old → IsLoaded slots old → IsLoaded slots new
loaded_same place slots old new base same was =
    let cells : cell_at slots.base new ≡ cell_at slots.base old = subst (λ (b : ℕ). cell_at b new ≡ cell_at b old) (sym base) (cell_same place new old same) in
    record { sequence = ap (λ (x : Cell). x.sequence) cells ∙ was.sequence; second = ap (λ (x : Cell). x.second) cells ∙ was.second }

-- both cells are the same
pub record BothSame (old new : List ℕ) : Type 0 where
  pub manifest : range 0 2048 new ≡ range 0 2048 old
  pub tokens : range 2048 2048 new ≡ range 2048 2048 old

pub both_same : (old new : List ℕ) → range 0 4096 new ≡ range 0 4096 old → BothSame old new
both_same old new same = record { manifest = range_in 0 4096 0 2048 new old same (omega arith); tokens = range_in 0 4096 2048 2048 new old same (omega arith) }
