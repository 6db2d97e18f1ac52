-- Marks of a log: the places of some of its records.
use Rattle.std.specs.Prelude.{◌≡◌, ◌⊎◌, ℕ, List, [], ◌∷◌, ◌++◌}
use Rattle.msg_format.specs.declared.record.Record.{Record}
use Rattle.msg_format.specs.Records.{lsn_of}
use Rattle.part_log.specs.declared.marks.Mark.{Mark}
use Rattle.part_log.specs.Records.{Placed, IsPlaced}

-- this mark is one of these
abbrev pub IsOneOf : Mark → List Mark → Type 0
IsOneOf mark [] = ⊥
IsOneOf mark (other ∷ marks) = (mark ≡ other) ⊎ IsOneOf mark marks

-- The marks as they were, or with one more, of this record.
abbrev pub NotesMark : ℕ → ℕ → List Mark → List Mark → Type 0
NotesMark lsn place old new = (new ≡ old) ⊎ (new ≡ old ++ record { lsn = lsn; place = place } ∷ [])

-- one of these records has the lsn of the mark and stands at its place
abbrev pub IsMark : Mark → List Placed → Type 0
IsMark mark placed = (entry : Record) × (lsn_of entry ≡ mark.lsn) × ((text : List ℕ) × IsPlaced (record { entry = entry; text = text; place = mark.place }) placed)

-- each of these marks is one of a record
abbrev pub AreMarks : List Mark → List Placed → Type 0
AreMarks [] placed = Unit {0}
AreMarks (mark ∷ marks) placed = IsMark mark placed × AreMarks marks placed

-- Marks of records are still such with those that were noted of these, which come next.
abbrev pub MarksOn : List Mark → List Placed → List Mark → Type 0
MarksOn old placed new = (before : List Placed) → AreMarks old before → AreMarks new (before ++ placed)
