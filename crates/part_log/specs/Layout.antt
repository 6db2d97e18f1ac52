-- How much room the records of a log take: what decides which record still has a place.
use Rattle.std.specs.Prelude.{ℕ, ◌+◌, ◌^◌, List, [], ◌∷◌, Bool, nat_le, nat_lt, not, if◌then◌else◌, ◌||◌, ◌&&◌}
use Rattle.log_manifest.specs.declared.manifest.LogSettings.{LogSettings}
use Rattle.msg_format.specs.declared.record.Record.{Record}
use Rattle.msg_format.specs.Records.{record_size}

-- How many segments are in use, how many bytes of the last one hold records, and the four numbers that only rise: the end lsn, the next
-- generation, and the sequences of the manifest's cell and of the token cell.
pub record Layout : Type 0 where
  pub in_use : ℕ
  pub used : ℕ
  pub end : ℕ
  pub next_generation : ℕ
  pub sequence : ℕ
  pub tokens : ℕ

-- that of a new log on a disk whose token cell has this sequence
abbrev pub first_layout : ℕ → Layout
first_layout tokens = record { in_use = 1; used = 0; end = 0; next_generation = 1; sequence = 1; tokens = tokens }

-- worn: a number that only rises is too near to its end
abbrev pub is_worn_out : Layout → Bool
is_worn_out layout = nat_le (2 ^ 62) layout.end || nat_le (2 ^ 62) layout.next_generation || nat_le (2 ^ 62) layout.sequence || nat_le (2 ^ 62) layout.tokens

-- a record of so many bytes fits into the last segment, with a closed gate behind it
abbrev pub fits_behind : LogSettings → Layout → ℕ → Bool
fits_behind settings layout size = nat_le (layout.used + size + 1) settings.segment

-- no segment is free but the one that is kept for compaction
abbrev pub has_no_segment : LogSettings → Layout → Bool
has_no_segment settings layout = nat_le settings.segments (layout.in_use + 1)

-- a record of so many bytes has no place: it is longer than a segment, or there is no room for it, or the log is worn
abbrev pub has_no_room : LogSettings → Layout → ℕ → Bool
has_no_room settings layout size = nat_lt settings.segment (size + 1) || (not (fits_behind settings layout size) && has_no_segment settings layout) || is_worn_out layout

-- with a segment more, which the manifest names
abbrev pub with_new_segment : Layout → Layout
with_new_segment layout = record layout { in_use = layout.in_use + 1; used = 0; next_generation = layout.next_generation + 1; sequence = layout.sequence + 1 }

-- with a record of so many bytes more, in the last segment
abbrev pub with_size : Layout → ℕ → Layout
with_size layout size = record layout { used = layout.used + size; end = layout.end + 1 }

-- with a record of so many bytes more, in a new segment where it doesn't fit into the last one
abbrev pub packed_with : LogSettings → Layout → ℕ → Layout
packed_with settings layout size = with_size (if fits_behind settings layout size then layout else with_new_segment layout) size

-- with these records more, each as it is written, one after the other
abbrev pub packed_with_all : LogSettings → Layout → List Record → Layout
packed_with_all settings layout [] = layout
packed_with_all settings layout (r ∷ records) = packed_with_all settings (packed_with settings layout (record_size r)) records
