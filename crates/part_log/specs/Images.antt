-- What the bytes of a disk stand for: a list of records and an end lsn.
use Rattle.std.specs.Prelude.{◌≡◌, ◌⊎◌, ℕ, ◌+◌, ◌≤◌, max, List, [], ◌∷◌, ◌++◌, Some, None, length, if◌then◌else◌}
use Rattle.disk_core.specs.Content.{range}
use Rattle.gate_slots.specs.Cell.{cell_at}
use Rattle.log_manifest.specs.declared.manifest.LogSettings.{LogSettings}
use Rattle.log_manifest.specs.declared.manifest.Live.{Live}
use Rattle.log_manifest.specs.declared.manifest.Manifest.{Manifest}
use Rattle.log_manifest.specs.Manifests.{IsManifest, manifest_text}
use Rattle.msg_format.specs.declared.record.Record.{Record}
use Rattle.msg_format.specs.Records.{BeginsWith, lsn_of}
use Rattle.part_log.specs.Records.{Written, entries_of, laid, AreWritten, EndsHere, HoldsRecords, RisesFrom, next_after}
use Rattle.part_log.specs.Segments.{place_of, ChangesIn}
use Rattle.part_log.specs.Layout.{Layout, first_layout}

-- the live segments hold these records, segment by segment
abbrev pub AllHold : ℕ → List ℕ → List Live → List (List Written) → Type 0
AllHold segment bytes [] [] = Unit {0}
AllHold segment bytes [] (part ∷ parts) = ⊥
AllHold segment bytes (live ∷ lives) [] = ⊥
AllHold segment bytes (live ∷ lives) (part ∷ parts) = HoldsRecords (range (place_of segment live.segment) segment bytes) part × AllHold segment bytes lives parts

abbrev pub joined : List (List Written) → List Written
joined [] = []
joined (part ∷ parts) = part ++ joined parts

-- The manifest's cell holds this manifest.
pub record HasManifest (manifest : Manifest) (bytes : List ℕ) : Type 0 where
  pub value : (cell_at 0 bytes).value ≡ Some (manifest_text manifest)
  pub good : IsManifest manifest

-- The live segments in the manifest's order have these records, with rising lsns. The end lsn lies behind them and behind the floor.
pub record HasLog (settings : LogSettings) (bytes : List ℕ) (records : List Record) (end : ℕ) : Type 0 where
  pub manifest : Manifest
  pub has : HasManifest manifest bytes
  pub same : manifest.settings ≡ settings
  pub parts : List (List Written)
  pub hold : AllHold settings.segment bytes manifest.live parts
  pub all : records ≡ entries_of (joined parts)
  pub rises : RisesFrom 0 (joined parts)
  pub ends : end ≡ max manifest.floor (next_after 0 (joined parts))

-- A disk without a manifest is new, and stands for the empty log.
pub record IsNew (bytes : List ℕ) (records : List Record) (end : ℕ) : Type 0 where
  pub none : (cell_at 0 bytes).value ≡ None
  pub empty : records ≡ []
  pub first : end ≡ 0

abbrev pub StandsFor : LogSettings → List ℕ → List Record → ℕ → Type 0
StandsFor settings bytes records end = HasLog settings bytes records end ⊎ IsNew bytes records end

-- how many bytes hold the records of the last segment
abbrev pub last_size : List (List Written) → ℕ
last_size [] = 0
last_size (part ∷ []) = length (laid part)
last_size (part ∷ other ∷ parts) = last_size (other ∷ parts)

-- These bytes have a log of this layout.
pub record HasLayout (settings : LogSettings) (bytes : List ℕ) (layout : Layout) : Type 0 where
  pub records : List Record
  pub log : HasLog settings bytes records layout.end
  pub in_use : layout.in_use ≡ length log.manifest.live
  pub used : layout.used ≡ last_size log.parts
  pub next_generation : layout.next_generation ≡ log.manifest.next_generation
  pub sequence : layout.sequence ≡ (cell_at 0 bytes).sequence
  pub tokens : layout.tokens ≡ (cell_at 2048 bytes).sequence

-- A disk without a manifest is new, and has the layout that an opening gives it.
abbrev pub IsLaidOut : LogSettings → List ℕ → Layout → Type 0
IsLaidOut settings bytes layout = HasLayout settings bytes layout ⊎ (((cell_at 0 bytes).value ≡ None) × (layout ≡ first_layout (cell_at 2048 bytes).sequence))

-- The manifest names other settings.
pub record NamesOther (settings other : LogSettings) (bytes : List ℕ) : Type 0 where
  pub manifest : Manifest
  pub has : HasManifest manifest bytes
  pub names : manifest.settings ≡ other
  pub differs : other ≡ settings → ⊥

-- the place of the current slot's gate in the manifest's cell
abbrev pub manifest_gate : List ℕ → ℕ
manifest_gate bytes = if (cell_at 0 bytes).second then 1024 else 0

-- The current slot of the manifest's cell holds no manifest. The place is that of its gate.
pub record HasBadManifest (bytes : List ℕ) (place : ℕ) : Type 0 where
  pub held : List ℕ
  pub value : (cell_at 0 bytes).value ≡ Some held
  pub none : (manifest : Manifest) → IsManifest manifest → held ≡ manifest_text manifest → ⊥
  pub at : place ≡ manifest_gate bytes

-- Whole records with rising lsns, and then at this offset an open gate with no record behind it, or with one whose lsn doesn't rise.
pub record EndsBadly (low : ℕ) (bytes : List ℕ) (offset : ℕ) : Type 0 where
  pub written : List Written
  pub rest : List ℕ
  pub split : bytes ≡ laid written ++ rest
  pub good : AreWritten written
  pub rises : RisesFrom low written
  pub size : length (laid written) ≡ offset
  pub goes_on : EndsHere rest → ⊥
  pub none : (entry : Record) → BeginsWith rest entry → next_after low written ≤ lsn_of entry → ⊥

-- Of these live segments one ends badly, and all that stands in front of that place is whole.
pub record EndBadly (segment : ℕ) (bytes : List ℕ) (lives : List Live) (place : ℕ) : Type 0 where
  pub before : List Live
  pub live : Live
  pub after : List Live
  pub split : lives ≡ before ++ live ∷ after
  pub parts : List (List Written)
  pub hold : AllHold segment bytes before parts
  pub rises : RisesFrom 0 (joined parts)
  pub offset : ℕ
  pub bad : EndsBadly (next_after 0 (joined parts)) (range (place_of segment live.segment) segment bytes) offset
  pub at : place ≡ place_of segment live.segment + offset

-- The place is that of an open gate in a live segment, with no record behind it or with one whose lsn doesn't rise.
pub record HasBadRecord (settings : LogSettings) (bytes : List ℕ) (place : ℕ) : Type 0 where
  pub manifest : Manifest
  pub has : HasManifest manifest bytes
  pub same : manifest.settings ≡ settings
  pub bad : EndBadly settings.segment bytes manifest.live place

abbrev pub IsDamaged : LogSettings → List ℕ → ℕ → Type 0
IsDamaged settings bytes place = HasBadManifest bytes place ⊎ HasBadRecord settings bytes place

-- At each moment of a call that changes nothing of the log: changed in the manifest's cell and in one segment alone, and still with these records.
pub record KeepsLog (settings : LogSettings) (target : ℕ) (records : List Record) (end : ℕ) (old new : List ℕ) : Type 0 where
  pub changes : ChangesIn settings.segment target old new
  pub stands : StandsFor settings new records end

-- At each moment of a call that puts a record last: with the records from before, or with that record behind them.
pub record PutsLast (settings : LogSettings) (target : ℕ) (records : List Record) (end : ℕ) (entry : Record) (old new : List ℕ) : Type 0 where
  pub changes : ChangesIn settings.segment target old new
  pub stands : StandsFor settings new records end ⊎ StandsFor settings new (records ++ entry ∷ []) (end + 1)

-- At each moment of an opening: what the disk stood for it stands for still, in the same layout. A new disk is given a manifest, which names
-- segment 0.
pub record OpensLog (settings : LogSettings) (old new : List ℕ) : Type 0 where
  pub changes : ChangesIn settings.segment 0 old new
  pub stands : (records : List Record) (end : ℕ) → StandsFor settings old records end → StandsFor settings new records end
  pub layout : (layout : Layout) → IsLaidOut settings old layout → IsLaidOut settings new layout
