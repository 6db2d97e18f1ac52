-- Records in bytes. They stand one after the other, and end at the first closed gate or where fewer than two bytes are left.
use Rattle.std.specs.Prelude.{◌≡◌, ◌≢◌, ◌⊎◌, ℕ, ◌+◌, ◌<◌, ◌≤◌, List, [], ◌∷◌, ◌++◌, length, slice_index}
use Rattle.gate_slots.specs.Gate.{open_gate}
use Rattle.msg_format.specs.declared.record.Record.{Record}
use Rattle.msg_format.specs.Records.{Spells, spelling_of, lsn_of}

-- A record, and the text that spells it.
pub record Written : Type 0 where
  pub entry : Record
  pub text : List ℕ

-- a text of this length spells the record
abbrev pub IsSpelledIn : ℕ → Record → Type 0
IsSpelledIn len entry = (text : List ℕ) × (length text ≡ len) × Spells text entry

-- a record as it is written
abbrev pub written_of : Record → Written
written_of entry = record { entry = entry; text = spelling_of entry }

-- the records that were written
abbrev pub entries_of : List Written → List Record
entries_of [] = []
entries_of (w ∷ written) = w.entry ∷ entries_of written

-- their texts, one after the other
abbrev pub laid : List Written → List ℕ
laid [] = []
laid (w ∷ written) = w.text ++ laid written

-- each text spells its record
abbrev pub AreWritten : List Written → Type 0
AreWritten [] = Unit {0}
AreWritten (w ∷ written) = Spells w.text w.entry × AreWritten written

-- no record begins here
abbrev pub EndsHere : List ℕ → Type 0
EndsHere bytes = (length bytes < 2) ⊎ (slice_index bytes 0 ≢ open_gate)

-- These bytes are the texts of those records, and then no record begins.
pub record HoldsRecords (bytes : List ℕ) (written : List Written) : Type 0 where
  pub rest : List ℕ
  pub split : bytes ≡ laid written ++ rest
  pub good : AreWritten written
  pub ends : EndsHere rest

-- the lsns rise, from this one on
abbrev pub RisesFrom : ℕ → List Written → Type 0
RisesFrom low [] = Unit {0}
RisesFrom low (w ∷ written) = (low ≤ lsn_of w.entry) × RisesFrom (lsn_of w.entry + 1) written

-- one more than the last lsn, or this one where there is no record
abbrev pub next_after : ℕ → List Written → ℕ
next_after low [] = low
next_after low (w ∷ written) = next_after (lsn_of w.entry + 1) written

-- the lsn of the first record, or this one where there is none
abbrev pub first_lsn : List Written → ℕ → ℕ
first_lsn [] end = end
first_lsn (w ∷ written) end = lsn_of w.entry

-- A record, the text that spells it, and the place on the disk where that text stands.
pub record Placed : Type 0 where
  pub entry : Record
  pub text : List ℕ
  pub place : ℕ

-- a record as it is written, at a place
abbrev pub placed_at : Record → ℕ → Placed
placed_at entry place = record { entry = entry; text = spelling_of entry; place = place }

-- records from a place on, one after the other
abbrev pub placed_from : ℕ → List Written → List Placed
placed_from place [] = []
placed_from place (w ∷ written) = record { entry = w.entry; text = w.text; place = place } ∷ placed_from (place + length w.text) written

abbrev pub records_of : List Placed → List Record
records_of [] = []
records_of (p ∷ placed) = p.entry ∷ records_of placed

-- this record is one of these, at its place
abbrev pub IsPlaced : Placed → List Placed → Type 0
IsPlaced p [] = ⊥
IsPlaced p (q ∷ placed) = (p ≡ q) ⊎ IsPlaced p placed

-- one of these stands at this place and has this record, whatever text of this length spells it
abbrev pub HasPlace : Record → ℕ → ℕ → List Placed → Type 0
HasPlace entry place len placed = (text : List ℕ) × (length text ≡ len) × IsPlaced (record { entry = entry; text = text; place = place }) placed
