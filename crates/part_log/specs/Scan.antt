-- What is found while a segment is read.
use Rattle.std.specs.Prelude.{◌≡◌, ℕ, ◌+◌, ◌≤◌, ◌==◌, List, [], ◌∷◌, ◌++◌, length, if◌then◌else◌}
use Rattle.disk_core.specs.Content.{range}
use Rattle.msg_format.specs.declared.record.Record.{Record}
use Rattle.msg_format.specs.Records.{BeginsWith, head_of, lsn_of}
use Rattle.part_log.specs.declared.piece.Beginning.{Beginning}
use Rattle.part_log.specs.declared.piece.Beginning.TheVariants.{Closed, Entry, Broken}
use Rattle.part_log.specs.declared.scan.Extent.{Extent}
use Rattle.part_log.specs.declared.segment.Found.{Found}
use Rattle.part_log.specs.declared.segment.SegmentInfo.{SegmentInfo}
use Rattle.part_log.specs.Images.{joined}
use Rattle.part_log.specs.Log.{AllSized, AllFront}
use Rattle.part_log.specs.Records.{Written, laid, AreWritten, EndsHere, RisesFrom, next_after, first_lsn, Placed}

-- these bytes stand at this place
abbrev pub IsHeld : ℕ → List ℕ → List ℕ → Type 0
IsHeld from bytes seen = bytes ≡ range from (length bytes) seen

-- what begins in front of the bytes
abbrev pub BeginsAs : List ℕ → Beginning → Type 0
BeginsAs bytes Closed = EndsHere bytes
BeginsAs bytes (Entry head) = (entry : Record) × (begins : BeginsWith bytes entry) × (head ≡ head_of entry begins.text)
BeginsAs bytes Broken = (EndsHere bytes → ⊥) × ((entry : Record) → BeginsWith bytes entry → ⊥)

-- what an opening hands out of records
abbrev pub found_of : List Placed → List Found
found_of [] = []
found_of (p ∷ placed) = record { place = p.place; head = head_of p.entry p.text } ∷ found_of placed

-- Taking these records one after the other can make the second collector of the first.
abbrev pub TakesAll : {C : Type 0} → (C → Found → C → Type 0) → C → List Found → C → Type 0
TakesAll takes old [] new = new ≡ old
TakesAll {C} takes old (one ∷ found) new = (between : C) × takes old one between × TakesAll takes between found new

-- A record was read at a place: the one that begins there, whose lsn rises.
pub record ReadsOn (bytes : List ℕ) (place low : ℕ) (one : Found) (next : ℕ) : Type 0 where
  pub entry : Record
  pub begins : BeginsWith bytes entry
  pub rises : low ≤ lsn_of entry
  pub next_is : next ≡ lsn_of entry + 1
  pub one_is : one ≡ record { place = place; head = head_of entry begins.text }

-- an open gate with no record behind it, or with one whose lsn doesn't rise
pub record IsBroken (low : ℕ) (bytes : List ℕ) : Type 0 where
  pub goes_on : EndsHere bytes → ⊥
  pub none : (entry : Record) → BeginsWith bytes entry → low ≤ lsn_of entry → ⊥

-- how far the records of a segment reach with this one behind them
abbrev pub with_found : Extent → Found → Extent
with_found extent one = record { used = extent.used + one.head.len; first = if extent.used == 0 then one.head.lsn else extent.first }

-- These records stand in front of a segment, and reach so far.
pub record IsRead (start low : ℕ) (seen : List ℕ) (extent : Extent) (next : ℕ) (written : List Written) : Type 0 where
  pub good : AreWritten written
  pub rises : RisesFrom low written
  pub size : length (laid written) ≡ extent.used
  pub front : range start extent.used seen ≡ laid written
  pub first_is : extent.first ≡ first_lsn written 0
  pub next_is : next ≡ next_after low written

-- the first lsn of each segment that has records
abbrev pub AllKnown : List SegmentInfo → List (List Written) → Type 0
AllKnown [] parts = Unit {0}
AllKnown (info ∷ infos) [] = ⊥
AllKnown (info ∷ infos) (part ∷ parts) = (1 ≤ info.used → info.first ≡ first_lsn part 0) × AllKnown infos parts

-- These segments have these records, and no other ones.
pub record AreRead (segment : ℕ) (seen : List ℕ) (infos : List SegmentInfo) (next : ℕ) (parts : List (List Written)) : Type 0 where
  pub sized : AllSized infos parts
  pub known : AllKnown infos parts
  pub fronts : AllFront segment infos parts seen
  pub rises : RisesFrom 0 (joined parts)
  pub next_is : next ≡ next_after 0 (joined parts)
