-- The index of a log: which record of each id is noted, and where it stands.
use Rattle.std.specs.Prelude.{◌≡◌, ℕ, min, List, [], ◌∷◌, ◌++◌, true, false, Option, Some, None, if◌then◌else◌, map, drop}
use Rattle.std.specs.Ordering.{nat_cmp}
use Rattle.std.specs.Cmp.Lexicographic.{slice_cmp}
use Rattle.std.specs.Map.{lookup}
use Rattle.std.specs.Option.{option_or}
use Rattle.std.specs.BTreeMap.{is_at}
use Rattle.disk_core.specs.Content.{Content}
use Rattle.blob_id.specs.declared.blob.Blob.{Blob}
use Rattle.cell_model.specs.declared.cell.Cell.{Cell}
use Rattle.cell_model.specs.declared.cell.Cell.TheVariants.{Absent, Held, Gone}
use Rattle.msg_format.specs.declared.record.Record.{Record}
use Rattle.msg_format.specs.declared.record.Record.TheVariants.{Put, Delete}
use Rattle.msg_format.specs.Reading.{record_at}
use Rattle.part_log.specs.declared.segment.Found.{Found}
use Rattle.part_log.specs.Records.{Placed, HasPlace, IsSpelledIn}
use Rattle.part_log.specs.Scan.{found_of}
use Rattle.part_log.specs.Log.{LogTable, IsTable, IsLog}
use Rattle.replica_core.specs.declared.index.IndexEntry.{IndexEntry}
use Rattle.replica_core.specs.Maps.{is_same}

-- what a list of entries has for an id
abbrev pub entry_at : List (List ℕ × IndexEntry) → List ℕ → Option IndexEntry
entry_at entries id = lookup (is_at (slice_cmp nat_cmp id)) entries

-- What an index has for an id. It has lists of entries, newest first, and the first one that has the id decides.
abbrev pub entry_in : List (List (List ℕ × IndexEntry)) → List ℕ → Option IndexEntry
entry_in [] id = None
entry_in (entries ∷ lists) id = option_or (entry_at entries id) (entry_in lists id)

-- the length of a record as an index keeps it, in 4 bytes: no record of a log is as long as 2^32 bytes
abbrev pub kept_len : ℕ → ℕ
kept_len len = min len 4294967295

abbrev pub entry_of : Found → IndexEntry
entry_of found = record { place = found.place; len = kept_len found.head.len; gone = found.head.gone }

-- the entry of this record for its own id, and this one for others
abbrev pub entry_set : Found → List ℕ → Option IndexEntry → Option IndexEntry
entry_set found id other = if is_same found.head.id id then Some (entry_of found) else other

-- What is noted of the id of a record behind what was noted: the record, but that a put leaves what stands in front of it.
abbrev pub noted_behind : Found → Option IndexEntry → Option IndexEntry
noted_behind found None = Some (entry_of found)
noted_behind found (Some entry) = Some (if found.head.gone then entry_of found else entry)

-- what is noted of an id behind a record
abbrev pub entry_for : Found → List ℕ → Option IndexEntry → Option IndexEntry
entry_for found id before = if is_same found.head.id id then noted_behind found before else before

-- A list that a record was noted in, behind those from before.
abbrev pub Notes : List (List ℕ × IndexEntry) → Found → List (List ℕ × IndexEntry) → Type 0
Notes old found new = (id : List ℕ) → entry_at new id ≡ entry_for found id (entry_at old id)

-- A list with this entry, or none, for one id, and else as it was.
abbrev pub SetsEntry : List ℕ → Option IndexEntry → List (List ℕ × IndexEntry) → List (List ℕ × IndexEntry) → Type 0
SetsEntry id entry old new = (other : List ℕ) → entry_at new other ≡ (if is_same id other then entry else entry_at old other)

-- what is noted of an id behind these records: the newest delete, or else the first put
abbrev pub noted_or : Option IndexEntry → List Found → List ℕ → Option IndexEntry
noted_or before [] id = before
noted_or before (one ∷ found) id = noted_or (entry_for one id before) found id

abbrev pub noted : List Found → List ℕ → Option IndexEntry
noted found id = noted_or None found id

-- the blob of a record that was read
abbrev pub blob_cell : Option (Record × List ℕ) → Cell
blob_cell None = Absent
blob_cell (Some (Put lsn id blob, rest)) = Held blob
blob_cell (Some (Delete lsn id created, rest)) = Absent

-- the cell that a record stands for which is noted so
abbrev pub entry_cell : List ℕ → IndexEntry → Cell
entry_cell bytes entry = if entry.gone then Gone else blob_cell (record_at (drop entry.place bytes))

-- the cells that the noted records stand for, where the first one of an id counts
abbrev pub cells_of : List ℕ → List (List (List ℕ × IndexEntry)) → List (List ℕ × Cell)
cells_of bytes [] = []
cells_of bytes (entries ∷ lists) = map (λ e. (e.0, entry_cell bytes e.1)) entries ++ cells_of bytes lists

-- A log and its index: each id has the entry that its records leave.
pub record IsIndexed (table : LogTable) (content : Content) (lists : List (List (List ℕ × IndexEntry))) : Type 0 where
  pub placed : List Placed
  pub log : IsLog table content placed
  pub index : (id : List ℕ) → entry_in lists id ≡ noted (found_of placed) id

-- What holds of a replica that isn't down.
pub record IsReady (tells : Type 0) (table : LogTable) (content : Content) (lists : List (List (List ℕ × IndexEntry))) : Type 0 where
  pub good : IsTable table
  pub indexed : tells → IsIndexed table content lists

-- This record is the put of this blob under this id.
abbrev pub IsPutOf : List ℕ → Blob → Record → Type 0
IsPutOf id blob entry = (lsn : ℕ) × (entry ≡ Put lsn id blob)

-- A record of this length was read which is a put of this blob under this id.
abbrev pub IsReadAs : List ℕ → ℕ → Blob → Type 0
IsReadAs id len blob = (entry : Record) × IsSpelledIn len entry × IsPutOf id blob entry

-- The record of this entry is the put of this blob under this id.
pub record HasPut (table : LogTable) (content : Content) (id : List ℕ) (entry : IndexEntry) (blob : Blob) : Type 0 where
  pub placed : List Placed
  pub log : IsLog table content placed
  pub lsn : ℕ
  pub there : HasPlace (Put lsn id blob) entry.place entry.len placed

-- What an index notes of an id, beside the cell: nothing, a delete, or its put.
abbrev pub NotedAs : LogTable → Content → List ℕ → Cell → Option IndexEntry → Type 0
NotedAs table content id cell None = cell ≡ Absent
NotedAs table content id cell (Some entry) = (entry.gone ≡ true → cell ≡ Gone) × (entry.gone ≡ false → (blob : Blob) × (cell ≡ Held blob) × HasPut table content id entry blob)
