-- What ends deleted was deleted, or given up.
use Rattle.std.proofs.Common.{◌≡◌, ℕ, ◌<◌, ◌⊎◌, true, ◌∷◌, Option, Some, None, refl, ap, ◌∙◌, subst, inl, inr, arith}
use Rattle.blob_id.specs.declared.blob.Blob.{Blob}
use Rattle.blob_id.specs.declared.id.BlobId.{BlobId}
use Rattle.cell_model.specs.declared.cell.Cell.{Cell}
use Rattle.cell_model.specs.declared.cell.Cell.TheVariants.{Absent, Held, Gone}
use Rattle.quorum_op.specs.declared.cause.Finding.{Finding}
use Rattle.quorum_op.specs.declared.cause.Verdict.{Verdict}
use Rattle.quorum_op.specs.declared.outcome.Outcome.{Outcome}
use Rattle.quorum_op.specs.Tally
use Rattle.quorum_op.specs.Tally.{standing, is_failed}
use Rattle.req_frame.specs.declared.frame.Body.{Body}
use Rattle.world_model.specs.declared.history.Begun.{Begun}
use Rattle.world_model.specs.declared.history.HistoryMark.TheVariants.{End}
use Rattle.world_model.specs.declared.shape.Shape.{Shape}
use Rattle.world_model.specs.Lists.{Has, Earlier, Each}
use Rattle.world_model.specs.Notes.{Aim, Learnt, ends_of, verdict_of, map_notes}
use Rattle.world_model.specs.Outcomes.{Began, put_piece, read_piece, named, IsChunkAt, IsPartOf}
use Rattle.world_model.specs.Pieces.{listed}
use Rattle.world_model.specs.Record.{Part, Top, Chunk, Item, Marked, Drawn, Decided, Record, turns_in}
use Rattle.world_model.specs.Router.{DeletesPart, GaveUp, MayDelete, MaySend, is_delete, part_blob, Keeps, IsKept}
use Rattle.world_model.specs.Rules.{Rules}
use Rattle.world_model.specs.Safe.{DrawsNew, IsPieceOf, IsLicensed, DeletedByLicense}
use Rattle.world_model.specs.World.{Cells, Run}
use Rattle.world_model.proofs.KeptLaws.{drawn_lists}
use Rattle.world_model.proofs.ListLaws.{at_has, count_some, each_earlier, each_from, earlier_tail, earlier_trans, has_at, has_later}
use Rattle.world_model.proofs.RouterLaws.{began_later, deleted_follows, drawn_once, end_decided}
use Rattle.world_model.proofs.SettledLaws.{verdict_lasts}
use Rattle.world_model.proofs.SourceLaws.{Sourced, sources}
use Rattle.world_model.proofs.StoredLaws.{sent_may, brought_stored, new_earlier, stored_later}
use Rattle.world_model.proofs.TallyLaws.{ended_so, gone_is, get_gone}
use Rattle.world_model.proofs.WitnessLaws.{read_noted, get_learns, peek_learns}
use Rattle.world_model.proofs.WorldLaws.{run_earlier, turns_rise}

-- a read that found the id gone saw a cell that is gone
found_gone : (c : Cell) (id : BlobId) (body : Body) (blob : Option Blob) → (body ≡ Body.Get id) × (get_learns c ≡ record { finding = Finding.Gone; blob = blob }) ⊎ (body ≡ Body.Peek id) × (peek_learns c ≡ record { finding = Finding.Gone; blob = blob }) → c ≡ Gone
found_gone Absent id body blob l = elim l [ inl x ↦ absurd (cc (ap (λ (w : Learnt). w.finding) x.1)) | inr x ↦ absurd (cc (ap (λ (w : Learnt). w.finding) x.1)) ]
found_gone (Held b) id body blob l = elim l [ inl x ↦ absurd (cc (ap (λ (w : Learnt). w.finding) x.1)) | inr x ↦ absurd (cc (ap (λ (w : Learnt). w.finding) x.1)) ]
found_gone Gone id body blob l = refl

-- a part of what was read is a piece
piece_of : (rules : Rules) (opening : Cells) (d before : Record) (operation : ℕ) (id : BlobId) (part : Part) (piece : BlobId) → Run opening d → IsKept rules d → Earlier d before → IsPartOf rules.shape d operation id part piece → IsPieceOf opening before id piece
piece_of rules opening d before operation id Top piece run kept e p = inl p
piece_of rules opening d before operation id (Chunk k) piece run kept e p =
    inr (p.blob, stored_later opening d before id p.blob e (brought_stored rules opening d operation Top id p.blob run kept p.read.1), at_has _ k piece p.at)

deleted_part : (shape : Shape) (before : Record) (operation : ℕ) (top : BlobId) (part : Part) (id : BlobId) → DeletesPart shape before operation top part id → IsPartOf shape before operation top part id
deleted_part shape before operation top Top id d = d.0
deleted_part shape before operation top (Chunk k) id d = d.0

is_delete_of : (begun : Begun) (top : BlobId) → is_delete begun ≡ true → named begun ≡ Some top → begun ≡ Begun.Delete (Some top)
is_delete_of (Begun.Put file body ttl ctype meta) top d n = absurd cc
is_delete_of (Begun.Get id range file) top d n = absurd cc
is_delete_of (Begun.Info id) top d n = absurd cc
is_delete_of (Begun.Delete id) top d n = ap Begun.Delete n

-- why a delete could be sent: its operation deletes, or a put gave its id up
sent_delete : (shape : Shape) (before : Record) (operation : ℕ) (aim : Option Aim) (id : BlobId) (at : ℕ) → MaySend shape before operation aim (Body.Delete id at) → ((part : Part) × MayDelete shape before operation part id at) ⊎ GaveUp shape before operation id
sent_delete shape before operation None id at m = inr m.1
sent_delete shape before operation (Some aim) id at m = inl (aim.part, m.1)

-- ---- what a put gave up

-- a get of an id, whose piece a put had given up by the state `s`
record GivenUp (rules : Rules) (opening : Cells) (before d s : Record) (reading operation : ℕ) (id piece : BlobId) : Type 0 where
  run : Run opening d
  kept : IsKept rules d
  new : DrawsNew opening d
  sent : Earlier s d
  back : Earlier d before
  gave : GaveUp rules.shape s operation piece
  ended : (how : Outcome) → Has s (Decided operation how) → Has before (Marked (End operation how))

drew_later : (rules : Rules) (opening : Cells) (before d s : Record) (reading operation : ℕ) (id piece : BlobId) → (u : GivenUp rules opening before d s reading operation id piece) → Has d (Drawn operation u.gave.part u.gave.attempt piece u.gave.blob)
drew_later rules opening before d s reading operation id piece u = has_later s d _ u.sent u.gave.drew

top_licensed : (rules : Rules) (opening : Cells) (before d s : Record) (reading operation : ℕ) (id piece : BlobId) → GivenUp rules opening before d s reading operation id piece → piece ≡ id → IsLicensed opening before id
top_licensed rules opening before d s reading operation id piece u q =
    let g = u.gave in
    elim g.why [
      | inl w ↦ (
          let v = w.1 in
          inr (inl (operation, g.part, g.attempt, g.blob, v.0, v.1, v.2, v.3, v.4, earlier_trans _ s before v.5 (earlier_trans s d before u.sent u.back), subst (λ (i : BlobId). Has v.4 (Drawn operation g.part g.attempt i g.blob)) q v.6)))
      | inr w ↦ (
          let drew : Has before (Drawn operation g.part g.attempt id g.blob) = subst (λ (i : BlobId). Has before (Drawn operation g.part g.attempt i g.blob)) q (has_later d before _ u.back (drew_later rules opening before d s reading operation id piece u)) in
          inr (inr (inl (operation, g.part, g.attempt, g.blob, w.0, drew, u.ended w.0 w.1, w.2))))
    ]

chunk_licensed : (rules : Rules) (opening : Cells) (before d s : Record) (reading operation : ℕ) (id piece : BlobId) (k : ℕ) → GivenUp rules opening before d s reading operation id piece → IsChunkAt rules.shape d reading id k piece → IsLicensed opening before id
chunk_licensed rules opening before d s reading operation id piece k u c =
    let g = u.gave in
    let mine : Has d (Drawn operation g.part g.attempt piece g.blob) = drew_later rules opening before d s reading operation id piece u in
    let lists : Has (listed id c.blob) piece = at_has _ k piece c.at in
    elim (brought_stored rules opening d reading Top id c.blob u.run u.kept c.read.1) [
      | inl o ↦ (
          let l = drawn_lists rules d o.0 o.1 o.2 id c.blob piece u.kept o.3 lists in
          let one = drawn_once d o.0 operation (Chunk l.k) g.part l.attempt g.attempt piece (part_blob l.then l.part) g.blob u.new.once l.drew mine in
          let op : o.0 ≡ operation = cc one in
          let part : Chunk l.k ≡ g.part = cc one in
          let attempt : l.attempt ≡ g.attempt = cc one in
          elim g.why [
            | inl w ↦ absurd (
                let x = verdict_lasts rules.shape (put_piece operation g.part g.attempt piece) s d Verdict.Unavailable u.sent w.0 refl in
                let y = verdict_lasts rules.shape (put_piece o.0 (Chunk l.k) l.attempt piece) l.at d Verdict.Ok l.back l.ok refl in
                let z : verdict_of rules.shape (put_piece operation g.part g.attempt piece) d ≡ Verdict.Ok =
                subst (λ (n : ℕ). verdict_of rules.shape (put_piece n g.part g.attempt piece) d ≡ Verdict.Ok) op
                (subst (λ (p : Part). verdict_of rules.shape (put_piece o.0 p g.attempt piece) d ≡ Verdict.Ok) part
                (subst (λ (a : ℕ). verdict_of rules.shape (put_piece o.0 (Chunk l.k) a piece) d ≡ Verdict.Ok) attempt y)) in
                cc (x, z))
            | inr w ↦ inr (inr (inl (operation, o.1, o.2, c.blob, w.0, subst (λ (n : ℕ). Has before (Drawn n o.1 o.2 id c.blob)) op (has_later d before _ u.back o.3), u.ended w.0 w.1, w.2)))
          ])
      | inr o ↦ absurd (u.new.listed piece (operation, g.part, g.attempt, g.blob, mine) o.0 o.1 id c.blob o.2 lists)
    ]

part_licensed : (rules : Rules) (opening : Cells) (before d s : Record) (reading operation : ℕ) (id : BlobId) (part : Part) (piece : BlobId) → GivenUp rules opening before d s reading operation id piece → IsPartOf rules.shape d reading id part piece → IsLicensed opening before id
part_licensed rules opening before d s reading operation id Top piece u p = top_licensed rules opening before d s reading operation id piece u p
part_licensed rules opening before d s reading operation id (Chunk k) piece u p = chunk_licensed rules opening before d s reading operation id piece k u p

-- ---- the law

pub licensed_law : (rules : Rules) (opening : Cells) (record' : Record) → Run opening record' → IsKept rules record' → DrawsNew opening record' → Each (DeletedByLicense opening) record'
licensed_law rules opening record' run kept new = each_from (DeletedByLicense opening) record' at
  where
    ok : (before : Record) (operation : ℕ) → Earlier (Marked (End operation Outcome.Deleted) ∷ before) record' → DeletedByLicense opening (Marked (End operation Outcome.Deleted)) before
    ok before operation e =
        let back : Earlier before record' = earlier_tail _ before record' e in
        let d = end_decided rules record' before operation Outcome.Deleted kept e in
        let f = deleted_follows rules d.then operation d.begun d.follows in
        let id : BlobId = f.top in
        let piece : BlobId = f.id in
        let to : Earlier d.then before = earlier_tail _ d.then before d.at in
        let d_back : Earlier d.then record' = earlier_trans d.then before record' to back in
        let d_run : Run opening d.then = run_earlier opening record' d.then run d_back in
        let d_kept : IsKept rules d.then = each_earlier (Keeps rules) record' d.then kept d_back in
        let notes = map_notes (ends_of rules.shape (read_piece operation f.part piece) d.then) in
        let some = count_some rules.shape.replicas (λ r. Tally.is_gone (standing notes r)) (get_gone rules.shape.replicas rules.shape.get notes f.verdict) in
        let n = ended_so rules.shape (read_piece operation f.part piece) d.then some.0 Finding.Gone (gone_is _ some.2) in
        let r = read_noted rules opening d.then operation f.part piece n.ended d_run d_kept n.has (ap (λ (w : Finding). is_failed (Some w)) n.finding_is) n.fits in
        let gone : r.cell ≡ Gone = found_gone r.cell piece n.ended.asked.body n.ended.blob
        (subst (λ (w : Finding). (n.ended.asked.body ≡ Body.Get piece) × (get_learns r.cell ≡ record { finding = w; blob = n.ended.blob }) ⊎ (n.ended.asked.body ≡ Body.Peek piece) × (peek_learns r.cell ≡ record { finding = w; blob = n.ended.blob })) n.finding_is r.reads) in
        let r_run : Run opening r.then = run_earlier opening d.then r.then d_run r.at in
        let r_kept : IsKept rules r.then = each_earlier (Keeps rules) d.then r.then d_kept r.at in
        let source = subst (λ (c : Cell). Sourced opening r.then piece c) (r.is ∙ gone) ((sources opening r.then r_run).cells _ _ piece) in
        let mine : IsPieceOf opening before id piece = piece_of rules opening d.then before operation id f.part piece d_run d_kept to f.is in (
          d.begun,
          id,
          began_later d.then before operation d.begun to d.began,
          f.reads,
          elim source [
            | inl o ↦ inr (inr (inr (o.0, o.1, piece, mine, o.2)))
            | inr s ↦ (
                let m = sent_may rules r.then (Body.Delete piece s.0) r_kept s.1 in
                let s_back : Earlier s.1.then r.then = earlier_tail _ s.1.then r.then s.1.at in
                let s_d : Earlier s.1.then d.then = earlier_trans s.1.then r.then d.then s_back r.at in
                elim (sent_delete rules.shape s.1.then m.operation m.aim piece s.0 m.may) [
                  | inl w ↦ (
                      let asks = w.1.asks in
                      let begun : asks.begun ≡ Begun.Delete (Some w.1.top) = is_delete_of asks.begun w.1.top w.1.delete asks.names in
                      let began : Began s.1.then m.operation (Begun.Delete (Some w.1.top)) = subst (λ (b : Begun). Began s.1.then m.operation b) begun (asks.then, asks.began) in
                      inl (
                        m.operation,
                        w.1.top,
                        piece,
                        began_later s.1.then before m.operation (Begun.Delete (Some w.1.top)) (earlier_trans s.1.then d.then before s_d to) began,
                        piece_of rules opening s.1.then before m.operation w.1.top w.0 piece (run_earlier opening r.then s.1.then r_run s_back) (each_earlier (Keeps rules) r.then s.1.then r_kept s_back) (earlier_trans s.1.then d.then before s_d to)
                            (deleted_part rules.shape s.1.then m.operation w.1.top w.0 piece w.1.deletes),
                        mine,
                      ))
                  | inr g ↦ part_licensed rules opening before d.then s.1.then operation m.operation id f.part piece (record {
                    run = d_run;
                    kept = d_kept;
                    new = new_earlier opening d.then record' d_back new;
                    sent = s_d;
                    back = to;
                    gave = g;
                    ended = λ how h.
                        let at = has_at s.1.then (Decided m.operation how) h in
                        let q : Earlier at.0 r.then = earlier_trans at.0 s.1.then r.then (earlier_tail _ at.0 s.1.then at.1) s_back in
                        let first : turns_in at.0 < turns_in d.then = omega (arith, turns_rise at.0 r.then q, r.later) in
                        d.order (λ c. cc c) m.operation how at.0 (earlier_trans _ d.then before (earlier_trans _ s.1.then d.then at.1 s_d) to) (inl first);
                  }) f.is
                ])
          ],
        )

    at : (item : Item) (before : Record) → Earlier (item ∷ before) record' → DeletedByLicense opening item before
    at (Marked (End operation Outcome.Deleted)) before e = ok before operation e
    at _ before e = tt
