-- The index of a log, and the cells that its entries stand for.
use Rattle.std.proofs.Common.{◌≡◌, ◌⊎◌, inl, inr, ⊎_elim, ℕ, List, [], ◌∷◌, ◌++◌, length, map, drop, Bool, true, false, if◌then◌else◌, Option, Some, None, refl, sym, ◌∙◌, ap, subst, take-append-drop}
use Rattle.std.specs.Ordering.{nat_cmp}
use Rattle.std.specs.Cmp.Lexicographic.{slice_cmp}
use Rattle.std.specs.Map.{lookup}
use Rattle.std.specs.Option.{option_or}
use Rattle.std.specs.BTreeMap.{is_at}
use Rattle.std.proofs.lemmas.Bool.{cases_Bool}
use Rattle.blob_id.specs.declared.blob.Blob.{Blob}
use Rattle.cell_model.specs.declared.cell.Cell.{Cell}
use Rattle.cell_model.specs.declared.cell.Cell.TheVariants.{Absent, Held, Gone}
use Rattle.cell_model.specs.Cells.{join, cell_in, cell_or_absent}
use Rattle.log_manifest.specs.declared.manifest.LogSettings.{LogSettings}
use Rattle.msg_format.specs.declared.record.Record.{Record}
use Rattle.msg_format.specs.declared.record.Record.TheVariants.{Put, Delete}
use Rattle.msg_format.specs.Records.{id_of, is_gone, head_of, spelling_of}
use Rattle.msg_format.specs.Reading.{record_at}
use Rattle.msg_format.proofs.Spelled.{text_read}
use Rattle.part_log.specs.declared.segment.Found.{Found}
use Rattle.part_log.specs.Records.{Placed, IsPlaced, records_of}
use Rattle.part_log.specs.Scan.{found_of}
use Rattle.part_log.specs.Log.{IsVisible, AllVisible}
use Rattle.replica_core.specs.declared.index.IndexEntry.{IndexEntry}
use Rattle.replica_core.specs.Maps.{is_same, cell_of, cell_for, cell_from, MayCome}
use Rattle.replica_core.specs.Index.{entry_at, entry_in, entry_set, entry_for, kept_len, noted_behind, noted_or, noted, blob_cell, entry_cell, cells_of}
use Rattle.replica_core.proofs.Ids.{same_one, cell_for-here, cell_for-apart}
use Rattle.replica_core.proofs.Maps.{join_absent, join_assoc, join_gone}

-- one record more is noted last
pub noted-one : (before : Option IndexEntry) (found : List Found) (one : Found) (id : List ℕ) → noted_or before (found ++ one ∷ []) id ≡ entry_for one id (noted_or before found id)
noted-one before [] one id = refl
noted-one before (x ∷ found) one id = noted-one (entry_for x id before) found one id

pub found_of-one : (placed : List Placed) (p : Placed) → found_of (placed ++ p ∷ []) ≡ found_of placed ++ record { place = p.place; head = head_of p.entry p.text } ∷ []
found_of-one [] p = refl
found_of-one (q ∷ placed) p = ap (λ (l : List Found). record { place = q.place; head = head_of q.entry q.text } ∷ l) (found_of-one placed p)

pub entry_for-here : (one : Found) (id : List ℕ) (before : Option IndexEntry) → is_same one.head.id id ≡ true → entry_for one id before ≡ noted_behind one before
entry_for-here one id before is = ap (λ (b : Bool). if b then noted_behind one before else before) is

pub entry_for-apart : (one : Found) (id : List ℕ) (before : Option IndexEntry) → is_same one.head.id id ≡ false → entry_for one id before ≡ before
entry_for-apart one id before is = ap (λ (b : Bool). if b then noted_behind one before else before) is

-- what is noted of a record with this text at this place
abbrev pub own_entry : Record → List ℕ → ℕ → IndexEntry
own_entry r text place = record { place = place; len = kept_len (length text); gone = is_gone r }

-- the cell that an entry stands for, or absent where there is none
abbrev pub cell_at_entry : List ℕ → Option IndexEntry → Cell
cell_at_entry bytes None = Absent
cell_at_entry bytes (Some entry) = entry_cell bytes entry

found_or : (bytes : List ℕ) (b : Bool) (entry : IndexEntry) (cell : Option Cell) (other rest : Option IndexEntry) → cell_or_absent cell ≡ cell_at_entry bytes (option_or other rest)
    → cell_or_absent (if b then Some (entry_cell bytes entry) else cell) ≡ cell_at_entry bytes (option_or (if b then Some entry else other) rest)
found_or bytes true entry cell other rest is = refl
found_or bytes false entry cell other rest is = is

-- the cells of one list, in front of others
cell_in-front : (bytes : List ℕ) (entries : List (List ℕ × IndexEntry)) (cells : List (List ℕ × Cell)) (rest : Option IndexEntry) (id : List ℕ) → cell_in cells id ≡ cell_at_entry bytes rest
    → cell_in (map (λ e. (e.0, entry_cell bytes e.1)) entries ++ cells) id ≡ cell_at_entry bytes (option_or (entry_at entries id) rest)
cell_in-front bytes [] cells rest id is = is
cell_in-front bytes (e ∷ entries) cells rest id is =
    found_or bytes (is_same id e.0) e.1 (lookup (is_at (slice_cmp nat_cmp id)) (map (λ e. (e.0, entry_cell bytes e.1)) entries ++ cells)) (entry_at entries id) rest (cell_in-front bytes entries cells rest id is)

-- the cells of an index, by its entries
pub cell_in-cells : (bytes : List ℕ) (lists : List (List (List ℕ × IndexEntry))) (id : List ℕ) → cell_in (cells_of bytes lists) id ≡ cell_at_entry bytes (entry_in lists id)
cell_in-cells bytes [] id = refl
cell_in-cells bytes (entries ∷ lists) id = cell_in-front bytes entries (cells_of bytes lists) (entry_in lists id) id (cell_in-cells bytes lists id)

-- an index of one list
or_none : (found : Option IndexEntry) → option_or found None ≡ found
or_none None = refl
or_none (Some entry) = refl

pub entry_in-one : (entries : List (List ℕ × IndexEntry)) (id : List ℕ) → entry_in (entries ∷ []) id ≡ entry_at entries id
entry_in-one entries id = or_none (entry_at entries id)

-- what is set in the newest list is set in the index
or_set : (b : Bool) (entry : IndexEntry) (other rest : Option IndexEntry) → option_or (if b then Some entry else other) rest ≡ (if b then Some entry else option_or other rest)
or_set true entry other rest = refl
or_set false entry other rest = refl

pub set_newest : (r : Record) (place : ℕ) (old new : List (List ℕ × IndexEntry)) (lists : List (List (List ℕ × IndexEntry)))
    → ((other : List ℕ) → entry_at new other ≡ entry_set (record { place = place; head = head_of r (spelling_of r) }) other (entry_at old other))
    → (other : List ℕ) → entry_in (new ∷ lists) other ≡ entry_set (record { place = place; head = head_of r (spelling_of r) }) other (entry_in (old ∷ lists) other)
set_newest r place old new lists sets other =
    ap (λ (o : Option IndexEntry). option_or o (entry_in lists other)) (sets other)
    ∙ or_set (is_same (id_of r) other) (own_entry r (spelling_of r) place) (entry_at old other) (entry_in lists other)

-- a record that can be read is found at its place
pub read_there : (settings : LogSettings) (bytes : List ℕ) (p : Placed) → IsVisible settings bytes p → record_at (drop p.place bytes) ≡ Some (p.entry, drop (length p.text) (drop p.place bytes))
read_there settings bytes p visible =
    let n : ℕ = length p.text in
    let rest : List ℕ = drop p.place bytes in
    let parts : rest ≡ p.text ++ drop n rest = sym (take-append-drop n rest) ∙ ap (λ (l : List ℕ). l ++ drop n rest) visible.here in
    ap record_at parts ∙ text_read p.text p.entry (drop n rest) visible.spelled

cell_read : (r : Record) (text : List ℕ) (place : ℕ) (bytes rest : List ℕ) → record_at (drop place bytes) ≡ Some (r, rest) → entry_cell bytes (own_entry r text place) ≡ cell_of r
cell_read (Put lsn id blob) text place bytes rest is = ap blob_cell is
cell_read (Delete lsn id created) text place bytes rest is = refl

-- its entry stands for what it brings
pub entry_brings : (settings : LogSettings) (bytes : List ℕ) (p : Placed) → IsVisible settings bytes p → entry_cell bytes (own_entry p.entry p.text p.place) ≡ cell_of p.entry
entry_brings settings bytes p visible = cell_read p.entry p.text p.place bytes (drop (length p.text) (drop p.place bytes)) (read_there settings bytes p visible)

-- what is noted as a put stands for a blob
abbrev pub IsClear : List ℕ → Option IndexEntry → Type 0
IsClear bytes None = Unit {0}
IsClear bytes (Some entry) = entry.gone ≡ false → (blob : Blob) × (entry_cell bytes entry ≡ Held blob)

gone_entry : (bytes : List ℕ) (entry : IndexEntry) → entry.gone ≡ true → entry_cell bytes entry ≡ Gone
gone_entry bytes entry gone = ap (λ (b : Bool). if b then Gone else blob_cell (record_at (drop entry.place bytes))) gone

-- what is noted of a record that stands behind others
abbrev behind : Record → List ℕ → ℕ → Option IndexEntry → Option IndexEntry
behind r text place before = noted_behind (record { place = place; head = head_of r text }) before

own_clear : (bytes : List ℕ) (r : Record) (text : List ℕ) (place : ℕ) → entry_cell bytes (own_entry r text place) ≡ cell_of r → IsClear bytes (Some (own_entry r text place))
own_clear bytes (Put lsn id blob) text place brings = λ up. (blob, brings)
own_clear bytes (Delete lsn id created) text place brings = λ up. absurd (cc up)

-- a put behind what is noted leaves it
put_leaves : (bytes : List ℕ) (entry : IndexEntry) (blob : Blob) → IsClear bytes (Some entry) → entry_cell bytes entry ≡ join (entry_cell bytes entry) (Held blob)
put_leaves bytes entry blob clear = ⊎_elim
    (λ (gone : entry.gone ≡ true). subst (λ (c : Cell). c ≡ join c (Held blob)) (sym (gone_entry bytes entry gone)) refl)
    (λ (up : entry.gone ≡ false). subst (λ (c : Cell). c ≡ join c (Held blob)) (sym ((clear up).1)) refl)
    (cases_Bool entry.gone)

-- what is noted behind a record stands for the join of the cell before it and what it brings
behind_joins : (bytes : List ℕ) (r : Record) (text : List ℕ) (place : ℕ) (before : Option IndexEntry) → entry_cell bytes (own_entry r text place) ≡ cell_of r → IsClear bytes before
    → (cell_at_entry bytes (behind r text place before) ≡ join (cell_at_entry bytes before) (cell_of r)) × IsClear bytes (behind r text place before)
behind_joins bytes r text place None brings clear = (brings, own_clear bytes r text place brings)
behind_joins bytes (Put lsn id blob) text place (Some entry) brings clear = (put_leaves bytes entry blob clear, clear)
behind_joins bytes (Delete lsn id created) text place (Some entry) brings clear = (sym (join_gone (entry_cell bytes entry)), own_clear bytes (Delete lsn id created) text place brings)

all_behind : (settings : LogSettings) (bytes : List ℕ) (p : Placed) (placed : List Placed) → AllVisible settings bytes (p ∷ placed) → AllVisible settings bytes placed
all_behind settings bytes p placed visible q there = visible q (inr there)

-- one record more, for any id
one_joins : (settings : LogSettings) (bytes : List ℕ) (before : Option IndexEntry) (p : Placed) (id : List ℕ) → IsVisible settings bytes p → IsClear bytes before
    → (cell_at_entry bytes (entry_for (record { place = p.place; head = head_of p.entry p.text }) id before) ≡ join (cell_at_entry bytes before) (cell_for id (id_of p.entry) (cell_of p.entry)))
    × IsClear bytes (entry_for (record { place = p.place; head = head_of p.entry p.text }) id before)
one_joins settings bytes before p id visible clear =
    let r : Record = p.entry in
    let found : Found = record { place = p.place; head = head_of r p.text } in
    let by = behind_joins bytes r p.text p.place before (entry_brings settings bytes p visible) clear in
    ⊎_elim
    (λ (is : is_same (id_of r) id ≡ true).
    let noted : entry_for found id before ≡ behind r p.text p.place before = entry_for-here found id before is in (
      ap (cell_at_entry bytes) noted ∙ by.0 ∙ ap (λ (c : Cell). join (cell_at_entry bytes before) c) (sym (cell_for-here id (id_of r) (cell_of r) is)),
      subst (IsClear bytes) (sym noted) by.1,
    ))
    (λ (is : is_same (id_of r) id ≡ false).
    let noted : entry_for found id before ≡ before = entry_for-apart found id before is in (
      ap (cell_at_entry bytes) noted ∙ sym (join_absent (cell_at_entry bytes before)) ∙ ap (λ (c : Cell). join (cell_at_entry bytes before) c) (sym (cell_for-apart id (id_of r) (cell_of r) is)),
      subst (IsClear bytes) (sym noted) clear,
    ))
    (cases_Bool (is_same (id_of r) id))

-- what is noted stands for the join of all
noted_joins : (settings : LogSettings) (bytes : List ℕ) (before : Option IndexEntry) (placed : List Placed) (id : List ℕ) → AllVisible settings bytes placed → IsClear bytes before
    → (cell_at_entry bytes (noted_or before (found_of placed) id) ≡ join (cell_at_entry bytes before) (cell_from (records_of placed) id)) × IsClear bytes (noted_or before (found_of placed) id)
noted_joins settings bytes before [] id visible clear = (sym (join_absent (cell_at_entry bytes before)), clear)
noted_joins settings bytes before (p ∷ placed) id visible clear =
    let one = one_joins settings bytes before p id (visible p (inl refl)) clear in
    let first : Option IndexEntry = entry_for (record { place = p.place; head = head_of p.entry p.text }) id before in
    let rest = noted_joins settings bytes first placed id (all_behind settings bytes p placed visible) one.1 in (
      rest.0
          ∙ ap (λ (c : Cell). join c (cell_from (records_of placed) id)) one.0
          ∙ join_assoc (cell_at_entry bytes before) (cell_for id (id_of p.entry) (cell_of p.entry)) (cell_from (records_of placed) id),
      rest.1,
    )

pub noted_clear : (settings : LogSettings) (bytes : List ℕ) (placed : List Placed) (id : List ℕ) → AllVisible settings bytes placed → IsClear bytes (noted (found_of placed) id)
noted_clear settings bytes placed id visible = (noted_joins settings bytes None placed id visible tt).1

-- so the index of a log stands for the cells of its records
pub index_cells : (settings : LogSettings) (bytes : List ℕ) (lists : List (List (List ℕ × IndexEntry))) (placed : List Placed) → ((id : List ℕ) → entry_in lists id ≡ noted (found_of placed) id)
    → AllVisible settings bytes placed → (id : List ℕ) → cell_in (cells_of bytes lists) id ≡ cell_from (records_of placed) id
index_cells settings bytes lists placed index visible id =
    cell_in-cells bytes lists id
    ∙ ap (cell_at_entry bytes) (index id)
    ∙ (noted_joins settings bytes None placed id visible tt).0

-- a record that changes its cell is noted as it is
pub comes_noted : (bytes : List ℕ) (before : Option IndexEntry) (r : Record) (text : List ℕ) (place : ℕ) → IsClear bytes before → MayCome (cell_at_entry bytes before) r → behind r text place before ≡ Some (own_entry r text place)
comes_noted bytes None r text place clear may = refl
comes_noted bytes (Some entry) (Delete lsn id created) text place clear may = refl
comes_noted bytes (Some entry) (Put lsn id blob) text place clear may = absurd (⊎_elim
    (λ (gone : entry.gone ≡ true). subst (λ (c : Cell). MayCome c (Put lsn id blob)) (gone_entry bytes entry gone) may)
    (λ (up : entry.gone ≡ false). let no = subst (λ (c : Cell). MayCome c (Put lsn id blob)) ((clear up).1) may in absurd (cc no))
    (cases_Bool entry.gone))

-- A record whose entry this is.
pub record HasEntry (placed : List Placed) (id : List ℕ) (entry : IndexEntry) : Type 0 where
  pub p : Placed
  pub there : IsPlaced p placed
  pub id_is : id ≡ id_of p.entry
  pub noted_is : entry ≡ own_entry p.entry p.text p.place

entry_or : IndexEntry → Option IndexEntry → IndexEntry
entry_or other (Some entry) = entry
entry_or other None = other

one_entry : (a b : IndexEntry) → ◌≡◌ {A = Option IndexEntry} (Some a) (Some b) → a ≡ b
unfolding entry_or
one_entry a b is = ap (entry_or a) is

from_behind : (before : Option IndexEntry) (p : Placed) (id : List ℕ) (entry : IndexEntry) → is_same (id_of p.entry) id ≡ true → behind p.entry p.text p.place before ≡ Some entry → (before ≡ Some entry) ⊎ HasEntry (p ∷ []) id entry
from_behind before p id entry same is = go before p.entry refl is
  where
    own : Some (own_entry p.entry p.text p.place) ≡ Some entry → HasEntry (p ∷ []) id entry
    own was = record { p = p; there = inl refl; id_is = sym (same_one (id_of p.entry) id same); noted_is = sym (one_entry (own_entry p.entry p.text p.place) entry was) }

    go : (o : Option IndexEntry) (r : Record) → p.entry ≡ r → behind r p.text p.place o ≡ Some entry → (o ≡ Some entry) ⊎ HasEntry (p ∷ []) id entry
    go None r e was = inr (own (ap (λ (x : Record). Some (own_entry x p.text p.place)) e ∙ was))
    go (Some s) (Put lsn other blob) e was = inl was
    go (Some s) (Delete lsn other created) e was = inr (own (ap (λ (x : Record). Some (own_entry x p.text p.place)) e ∙ was))

more_entries : (p : Placed) (placed : List Placed) (id : List ℕ) (entry : IndexEntry) → HasEntry (p ∷ []) id entry → HasEntry (p ∷ placed) id entry
more_entries p placed id entry has = record { p = has.p; there = ⊎_elim (λ (here : has.p ≡ p). inl here) (λ (none : ⊥). absurd none) has.there; id_is = has.id_is; noted_is = has.noted_is }

entry_from : (before : Option IndexEntry) (placed : List Placed) (id : List ℕ) (entry : IndexEntry) → noted_or before (found_of placed) id ≡ Some entry → (before ≡ Some entry) ⊎ HasEntry placed id entry
entry_from before [] id entry is = inl is
entry_from before (p ∷ placed) id entry is =
    let found : Found = record { place = p.place; head = head_of p.entry p.text } in
    ⊎_elim
    (λ (was : entry_for found id before ≡ Some entry). ⊎_elim
    (λ (same : is_same (id_of p.entry) id ≡ true). ⊎_elim
    (λ (old : before ≡ Some entry). inl old)
    (λ (own : HasEntry (p ∷ []) id entry). inr (more_entries p placed id entry own))
    (from_behind before p id entry same (sym (entry_for-here found id before same) ∙ was)))
    (λ (apart : is_same (id_of p.entry) id ≡ false). inl (sym (entry_for-apart found id before apart) ∙ was))
    (cases_Bool (is_same (id_of p.entry) id)))
    (λ (later : HasEntry placed id entry). inr (record { p = later.p; there = inr later.there; id_is = later.id_is; noted_is = later.noted_is }))
    (entry_from (entry_for found id before) placed id entry is)

pub has_entry : (placed : List Placed) (id : List ℕ) (entry : IndexEntry) → noted (found_of placed) id ≡ Some entry → HasEntry placed id entry
has_entry placed id entry is = ⊎_elim (λ (none : ◌≡◌ {A = Option IndexEntry} None (Some entry)). absurd (cc none)) (λ (has : HasEntry placed id entry). has) (entry_from None placed id entry is)
