-- Cells that records give, and one record more.
use Rattle.std.proofs.Common.{◌≡◌, ℕ, List, [], ◌∷◌, ◌++◌, refl, sym, ◌∙◌, ap}
use Rattle.cell_model.specs.declared.cell.Cell.{Cell}
use Rattle.cell_model.specs.declared.cell.Cell.TheVariants.{Absent, Held, Gone}
use Rattle.cell_model.specs.Cells.{join}
use Rattle.msg_format.specs.declared.record.Record.{Record}
use Rattle.msg_format.specs.Records.{id_of}
use Rattle.replica_core.specs.Maps.{cell_of, cell_for, cell_from}

pub join_absent : (c : Cell) → join c Absent ≡ c
join_absent Absent = refl
join_absent (Held b) = refl
join_absent Gone = refl

pub join_assoc : (a b c : Cell) → join (join a b) c ≡ join a (join b c)
join_assoc Absent b c = refl
join_assoc (Held x) Absent c = refl
join_assoc (Held x) (Held y) Absent = refl
join_assoc (Held x) (Held y) (Held z) = refl
join_assoc (Held x) (Held y) Gone = refl
join_assoc (Held x) Gone c = refl
join_assoc Gone b c = refl

-- one record more joins what it brings
pub cell_from-one : (records : List Record) (entry : Record) (id : List ℕ) → cell_from (records ++ entry ∷ []) id ≡ join (cell_from records id) (cell_for id (id_of entry) (cell_of entry))
cell_from-one [] entry id = join_absent (cell_for id (id_of entry) (cell_of entry))
cell_from-one (r ∷ records) entry id =
    ap (λ (c : Cell). join (cell_for id (id_of r) (cell_of r)) c) (cell_from-one records entry id)
    ∙ sym (join_assoc (cell_for id (id_of r) (cell_of r)) (cell_from records id) (cell_for id (id_of entry) (cell_of entry)))

pub join_gone : (c : Cell) → join c Gone ≡ Gone
join_gone Absent = refl
join_gone (Held b) = refl
join_gone Gone = refl
