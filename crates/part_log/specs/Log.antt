-- A log between two calls.
use Rattle.std.specs.Prelude.{◌≡◌, ◌≢◌, ℕ, ◌+◌, ◌<◌, ◌≤◌, ◌^◌, max, List, [], ◌∷◌, ◌++◌, Some, length, slice_index, Bool, if◌then◌else◌, ◌||◌}
use Rattle.disk_core.specs.Content.{Content, IsSettled, range}
use Rattle.gate_slots.specs.Gate.{open_gate}
use Rattle.gate_slots.specs.Cell.{cell_at}
use Rattle.gate_slots.specs.Slots.{CurrentSlot, IsLoaded}
use Rattle.log_manifest.specs.declared.manifest.LogSettings.{LogSettings}
use Rattle.log_manifest.specs.declared.manifest.Manifest.{Manifest}
use Rattle.log_manifest.specs.Manifests.{IsManifest, manifest_text}
use Rattle.msg_format.specs.declared.record.Record.{Record}
use Rattle.msg_format.specs.Records.{IsRecord, Spells, spelling_of, lsn_of}
use Rattle.part_log.specs.declared.segment.SegmentInfo.{SegmentInfo}
use Rattle.part_log.specs.Records.{Written, laid, AreWritten, RisesFrom, next_after, first_lsn, Placed, placed_from, IsPlaced, HasPlace}
use Rattle.part_log.specs.Segments.{place_of, lives_of, is_among, free_from, last_segment, last_used, with_more}
use Rattle.part_log.specs.Images.{joined}
use Rattle.part_log.specs.Layout.{Layout, fits_behind, has_no_room, has_no_segment, is_worn_out}

-- which settings a log can have
pub record AreInRange (settings : LogSettings) : Type 0 where
  pub least : 4096 ≤ settings.segment
  pub greatest : settings.segment ≤ 16777216
  pub fewest : 2 ≤ settings.segments
  pub most : settings.segments ≤ 64
  pub index_least : 2 ≤ settings.index
  pub index_most : settings.index ≤ 4096

-- how many bytes the disk of such a log has
abbrev pub disk_size : LogSettings → ℕ
disk_size settings = place_of settings.segment settings.segments

-- What is kept in memory of a log: its live segments in log order, the next generation and the next lsn, and the current slots of its manifest's
-- cell and of the token cell.
pub record LogTable : Type 0 where
  pub settings : LogSettings
  pub segments : List SegmentInfo
  pub next_generation : ℕ
  pub end : ℕ
  pub slots : CurrentSlot
  pub tokens : CurrentSlot

-- What callers see of a log. Once its disk failed it is down.
pub record LogState (D : Type 0) : Type 0 where
  pub disk : D
  pub table : LogTable
  pub down : Bool

-- the manifest that names these segments
abbrev pub manifest_of : LogTable → ℕ → Manifest
manifest_of table floor = record { settings = table.settings; next_generation = table.next_generation; floor = floor; live = lives_of table.segments }

-- no segment has more bytes than fit
abbrev pub AllFit : ℕ → List SegmentInfo → Type 0
AllFit segment [] = Unit {0}
AllFit segment (info ∷ infos) = (info.used ≤ segment) × AllFit segment infos

-- A slot of the token cell, which stands behind the manifest's.
pub record IsTokenSlot (tokens : CurrentSlot) : Type 0 where
  pub base : tokens.base ≡ 2048
  pub below : tokens.sequence < 2 ^ 63

-- What holds of the table, whatever the disk tells.
pub record IsTable (table : LogTable) : Type 0 where
  pub settings : AreInRange table.settings
  pub manifest : IsManifest (manifest_of table table.end)
  pub fit : AllFit table.settings.segment table.segments
  pub base : table.slots.base ≡ 0
  pub sequence : table.slots.sequence < 2 ^ 63
  pub tokens : IsTokenSlot table.tokens

-- These records stand in front of the segment, and a closed gate behind them.
pub record IsFront (segment : ℕ) (info : SegmentInfo) (part : List Written) (bytes : List ℕ) : Type 0 where
  pub front : range (place_of segment info.segment) info.used bytes ≡ laid part
  pub shut : info.used + 2 ≤ segment → slice_index bytes (place_of segment info.segment + info.used) ≢ open_gate

abbrev pub AllFront : ℕ → List SegmentInfo → List (List Written) → List ℕ → Type 0
AllFront segment [] [] bytes = Unit {0}
AllFront segment [] (part ∷ parts) bytes = ⊥
AllFront segment (info ∷ infos) [] bytes = ⊥
AllFront segment (info ∷ infos) (part ∷ parts) bytes = IsFront segment info part bytes × AllFront segment infos parts bytes

-- each segment has as many used bytes as its records
abbrev pub AllSized : List SegmentInfo → List (List Written) → Type 0
AllSized [] [] = Unit {0}
AllSized [] (part ∷ parts) = ⊥
AllSized (info ∷ infos) [] = ⊥
AllSized (info ∷ infos) (part ∷ parts) = (info.used ≡ length (laid part)) × AreWritten part × AllSized infos parts

-- The first lsn of a segment is that of the next record from its start on, or the end lsn where there is none.
abbrev pub AllFirst : List SegmentInfo → List (List Written) → ℕ → Type 0
AllFirst [] parts end = Unit {0}
AllFirst (info ∷ infos) [] end = ⊥
AllFirst (info ∷ infos) (part ∷ parts) end = (info.first ≡ first_lsn (part ++ joined parts) end) × AllFirst infos parts end

-- the records of segments, each with its place
abbrev pub placed_in : ℕ → List SegmentInfo → List (List Written) → List Placed
placed_in segment [] parts = []
placed_in segment (info ∷ infos) [] = []
placed_in segment (info ∷ infos) (part ∷ parts) = placed_from (place_of segment info.segment) part ++ placed_in segment infos parts

-- These bytes have the manifest and the records that the table names.
pub record IsShown (table : LogTable) (floor : ℕ) (parts : List (List Written)) (bytes : List ℕ) : Type 0 where
  pub value : (cell_at 0 bytes).value ≡ Some (manifest_text (manifest_of table floor))
  pub fronts : AllFront table.settings.segment table.segments parts bytes

-- Whatever a crash leaves of this content, it has these records and both cells as they are, and the log can go on from its table.
pub record IsLog (table : LogTable) (content : Content) (placed : List Placed) : Type 0 where
  pub floor : ℕ
  pub parts : List (List Written)
  pub sized : AllSized table.segments parts
  pub all : placed ≡ placed_in table.settings.segment table.segments parts
  pub rises : RisesFrom 0 (joined parts)
  pub firsts : AllFirst table.segments parts table.end
  pub ends : table.end ≡ max floor (next_after 0 (joined parts))
  pub shown : (c : List ℕ) → content.images c → IsShown table floor parts c
  pub loaded : IsLoaded table.slots content.seen
  pub tokens : IsLoaded table.tokens content.seen
  pub settled : IsSettled 0 4096 content

-- the room that its records take
abbrev pub layout_of : LogTable → Layout
layout_of table = record { in_use = length table.segments; used = last_used table.segments; end = table.end; next_generation = table.next_generation; sequence = table.slots.sequence; tokens = table.tokens.sequence }

-- worn: a number that only rises is too near to its end
abbrev pub is_worn : LogTable → Bool
is_worn table = is_worn_out (layout_of table)

-- a record of so many bytes fits into the last segment, with a closed gate behind it
abbrev pub fits_last : LogTable → ℕ → Bool
fits_last table size = fits_behind table.settings (layout_of table) size

-- no segment is free but the one that is kept for compaction
abbrev pub is_packed : LogTable → Bool
is_packed table = has_no_segment table.settings (layout_of table)

-- no segment can be added: none is free but the kept one, or the log is worn
abbrev pub takes_no_segment : LogTable → Bool
takes_no_segment table = is_packed table || is_worn table

-- the free segment with the least number
abbrev pub least_free : LogTable → ℕ
least_free table = free_from table.settings.segments 0 table.segments

-- the segment that a record of so many bytes goes into
abbrev pub target_of : LogTable → ℕ → ℕ
target_of table size = if fits_last table size then last_segment table.segments else least_free table

-- a record of so many bytes has no place: it is longer than a segment, or there is no room for it, or the log is worn
abbrev pub is_full : LogTable → ℕ → Bool
is_full table size = has_no_room table.settings (layout_of table) size

-- a segment that becomes the last one
abbrev pub new_info : LogTable → ℕ → SegmentInfo
new_info table target = record { segment = target; generation = table.next_generation; used = 0; first = table.end }

abbrev pub with_segment : LogTable → ℕ → LogTable
with_segment table target = record table { segments = table.segments ++ new_info table target ∷ []; next_generation = table.next_generation + 1 }

-- the table after a roll
abbrev pub rolled_table : LogTable → ℕ → CurrentSlot → LogTable
rolled_table table target slots = record (with_segment table target) { slots = slots }

-- the table when there is room for a record of so many bytes
abbrev pub roomy_table : LogTable → ℕ → CurrentSlot → LogTable
roomy_table table size slots = if fits_last table size then table else rolled_table table (least_free table) slots

-- the table with a record of so many bytes more
abbrev pub grown : LogTable → ℕ → LogTable
grown table size = record table { segments = with_more table.segments size; end = table.end + 1 }

-- This text is the manifest in which a free segment is the last live one.
pub record IsRolling (table : LogTable) (slots : CurrentSlot) (target : ℕ) (text : List ℕ) : Type 0 where
  pub slots_are : table.slots ≡ slots
  pub good : IsTable table
  pub small : target < table.settings.segments
  pub apart : is_among target table.segments ≡ Bool.false
  pub below : table.next_generation < 2 ^ 63
  pub room : length table.segments + 1 < table.settings.segments
  pub text_is : text ≡ manifest_text (manifest_of (with_segment table target) table.end)

-- This record comes next, and this is what stands behind its gate, with a closed gate behind it.
pub record Follows (table : LogTable) (entry : Record) (rest : List ℕ) : Type 0 where
  pub fields : IsRecord entry
  pub next : lsn_of entry ≡ table.end
  pub whole : open_gate ∷ rest ≡ spelling_of entry ++ 0 ∷ []

-- the place behind the last record
abbrev pub next_place : LogTable → ℕ
next_place table = place_of table.settings.segment (last_segment table.segments) + last_used table.segments

-- the table of a new log
abbrev pub first_table : LogSettings → CurrentSlot → CurrentSlot → LogTable
first_table settings slots tokens = record { settings = settings; segments = record { segment = 0; generation = 0; used = 0; first = 0 } ∷ []; next_generation = 1; end = 0; slots = slots; tokens = tokens }

-- A record that can be read: it stands whole in one of the segments.
pub record IsVisible (settings : LogSettings) (bytes : List ℕ) (p : Placed) : Type 0 where
  pub number : ℕ
  pub small : number < settings.segments
  pub offset : ℕ
  pub at : p.place ≡ place_of settings.segment number + offset
  pub fits : offset + length p.text ≤ settings.segment
  pub here : range p.place (length p.text) bytes ≡ p.text
  pub spelled : Spells p.text p.entry

-- Each of these records can be read.
abbrev pub AllVisible : LogSettings → List ℕ → List Placed → Type 0
AllVisible settings bytes placed = (p : Placed) → IsPlaced p placed → IsVisible settings bytes p

-- One of the log's records stands at this place, and its text has this length.
pub record HasRecordAt (table : LogTable) (content : Content) (place len : ℕ) : Type 0 where
  pub placed : List Placed
  pub log : IsLog table content placed
  pub entry : Record
  pub there : HasPlace entry place len placed
