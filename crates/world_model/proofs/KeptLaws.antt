-- What was stored and removed is kept at enough replicas.
use Rattle.std.proofs.Common.{◌≡◌, ℕ, suc, ◌≤◌, ◌⊎◌, true, List, [], ◌∷◌, length, Some, sym, ap, ◌∙◌, subst, inl, inr, arith}
use Rattle.blob_id.specs.declared.blob.Blob.{Blob}
use Rattle.blob_id.specs.declared.id.BlobId.{BlobId}
use Rattle.quorum_op.specs.declared.cause.Finding.{Finding}
use Rattle.quorum_op.specs.declared.cause.Verdict.{Verdict}
use Rattle.quorum_op.specs.declared.outcome.Outcome.{Outcome}
use Rattle.quorum_op.specs.Tally.{standing, standing_so, is_yes, is_failed}
use Rattle.world_model.specs.declared.history.Begun.{Begun}
use Rattle.world_model.specs.declared.history.HistoryMark.TheVariants.{End}
use Rattle.world_model.specs.declared.shape.Shape.{Shape}
use Rattle.world_model.specs.Lists.{Has, Earlier}
use Rattle.world_model.specs.Notes.{ends_of, verdict_of, map_notes}
use Rattle.world_model.specs.Outcomes.{Began, put_piece, delete_piece, DeletesParts}
use Rattle.world_model.specs.Pieces.{Metadata, listed, parts}
use Rattle.world_model.specs.Record.{Part, Top, Chunk, Marked, Drawn, Record}
use Rattle.world_model.specs.Router.{part_blob, IsStoredIn, PutsPart, Keeps, IsKept}
use Rattle.world_model.specs.Rules.{Rules}
use Rattle.world_model.specs.Safe.{is_held, is_gone, replicas_so}
use Rattle.world_model.specs.World.{Cells, world, Run}
use Rattle.world_model.proofs.CellLaws.{held_rises, gone_rises}
use Rattle.world_model.proofs.ListLaws.{earlier_tail, earlier_trans, has_later, has_place, at_has, each_earlier, count_more}
use Rattle.world_model.proofs.RouterLaws.{began_once, drawn_at, simple_not_composite, chunk_not_whole, listed_in, ended_in, put_follows, removed_follows}
use Rattle.world_model.proofs.SourceLaws.{some_same}
use Rattle.world_model.proofs.TallyLaws.{ended_so, yes_is, put_ok, delete_ok}
use Rattle.world_model.proofs.WitnessLaws.{cell_at, put_noted, delete_noted}
use Rattle.world_model.proofs.WorldLaws.{rises, run_earlier}

-- what a put had stored is held at enough replicas, from then on
pub piece_kept : (rules : Rules) (opening : Cells) (older record' : Record) (operation : ℕ) (part : Part) (attempt : ℕ) (id : BlobId) → Run opening record' → IsKept rules record' → Earlier older record'
    → verdict_of rules.shape (put_piece operation part attempt id) older ≡ Verdict.Ok → rules.shape.put ≤ replicas_so rules.shape (world opening record').cells id is_held
piece_kept rules opening older record' operation part attempt id run kept back ok =
    let notes = map_notes (ends_of rules.shape (put_piece operation part attempt id) older) in
    let enough : rules.shape.put ≤ standing_so rules.shape.replicas notes is_yes = put_ok rules.shape.replicas rules.shape.put notes ok in
    let more : standing_so rules.shape.replicas notes is_yes ≤ replicas_so rules.shape (world opening record').cells id is_held =
    count_more rules.shape.replicas (λ r. is_yes (standing notes r)) (λ r. is_held (cell_at rules.shape (world opening record').cells id r))
    (λ r y. let e = ended_so rules.shape (put_piece operation part attempt id) older r Finding.Yes (yes_is _ y) in
    let held = put_noted rules opening older operation part attempt id e.ended (run_earlier opening record' older run back) (each_earlier (Keeps rules) record' older kept back) e.has
    (ap (λ (f : Finding). is_failed (Some f)) e.finding_is) e.fits in
    let here : is_held (cell_at rules.shape (world opening older).cells id r) ≡ true = subst (λ (k : ℕ). is_held (cell_at rules.shape (world opening older).cells id k) ≡ true) e.replica_is held in
    held_rises _ _ (rises opening older record' _ _ id back) here) in
    omega (arith, enough, more)

-- what a delete had removed is gone at enough replicas, from then on
pub delete_kept : (rules : Rules) (opening : Cells) (older record' : Record) (operation : ℕ) (part : Part) (id : BlobId) → Run opening record' → IsKept rules record' → Earlier older record'
    → verdict_of rules.shape (delete_piece operation part id) older ≡ Verdict.Ok → rules.shape.delete ≤ replicas_so rules.shape (world opening record').cells id is_gone
delete_kept rules opening older record' operation part id run kept back ok =
    let notes = map_notes (ends_of rules.shape (delete_piece operation part id) older) in
    let enough : rules.shape.delete ≤ standing_so rules.shape.replicas notes is_yes = delete_ok rules.shape.replicas rules.shape.delete notes ok in
    let more : standing_so rules.shape.replicas notes is_yes ≤ replicas_so rules.shape (world opening record').cells id is_gone =
    count_more rules.shape.replicas (λ r. is_yes (standing notes r)) (λ r. is_gone (cell_at rules.shape (world opening record').cells id r))
    (λ r y. let e = ended_so rules.shape (delete_piece operation part id) older r Finding.Yes (yes_is _ y) in
    let gone = delete_noted rules opening older operation part id e.ended (run_earlier opening record' older run back) (each_earlier (Keeps rules) record' older kept back) e.has
    (ap (λ (k : Finding). is_failed (Some k)) e.finding_is) e.fits in
    let here : is_gone (cell_at rules.shape (world opening older).cells id r) ≡ true = subst (λ (k : ℕ). is_gone (cell_at rules.shape (world opening older).cells id k) ≡ true) e.replica_is gone in
    gone_rises _ _ (rises opening older record' _ _ id back) here) in
    omega (arith, enough, more)

-- ---- the chunks of a drawn blob

-- a chunk that was stored
pub record StoredChunk (shape : Shape) (before : Record) (operation : ℕ) (then : Record) (chunk : BlobId) : Type 0 where
  pub k : ℕ
  pub part : List ℕ
  pub attempt : ℕ
  pub drew : Has before (Drawn operation (Chunk k) attempt chunk (part_blob then part))
  pub ok : verdict_of shape (put_piece operation (Chunk k) attempt chunk) before ≡ Verdict.Ok

stored_chunk : (shape : Shape) (before : Record) (operation : ℕ) (then : Record) (k : ℕ) (ids : List BlobId) (ps : List (List ℕ)) (chunk : BlobId) → IsStoredIn shape before operation then k ids ps → Has ids chunk
    → StoredChunk shape before operation then chunk
stored_chunk shape before operation then k [] ps chunk s h = absurd h
stored_chunk shape before operation then k (id ∷ ids) [] chunk s h = absurd s
stored_chunk shape before operation then k (id ∷ ids) (part ∷ ps) chunk s h = elim h [
  | inl e ↦ record {
    k = k;
    part = part;
    attempt = s.0.0;
    drew = subst (λ (i : BlobId). Has before (Drawn operation (Chunk k) s.0.0 i (part_blob then part))) (sym e) s.0.1;
    ok = subst (λ (i : BlobId). verdict_of shape (put_piece operation (Chunk k) s.0.0 i) before ≡ Verdict.Ok) (sym e) s.0.2;
  }
  | inr t ↦ stored_chunk shape before operation then (suc k) ids ps chunk s.1 t
]

-- a chunk that a drawn blob lists was stored when the blob's id was drawn
pub record StoredPart (shape : Shape) (record' : Record) (operation : ℕ) (chunk : BlobId) : Type 0 where
  pub at : Record
  pub back : Earlier at record'
  pub then : Record
  pub k : ℕ
  pub part : List ℕ
  pub attempt : ℕ
  pub drew : Has record' (Drawn operation (Chunk k) attempt chunk (part_blob then part))
  pub ok : verdict_of shape (put_piece operation (Chunk k) attempt chunk) at ≡ Verdict.Ok

pub drawn_lists : (rules : Rules) (record' : Record) (operation : ℕ) (part : Part) (attempt : ℕ) (id : BlobId) (blob : Blob) (chunk : BlobId) → IsKept rules record' → Has record' (Drawn operation part attempt id blob) → Has (listed id blob) chunk
    → StoredPart rules.shape record' operation chunk
drawn_lists rules record' operation part attempt id blob chunk k h l =
    let d = drawn_at rules record' operation part attempt id blob k h in
    in_part part d.at d.back d.draws.then d.draws.body d.draws.ctype d.draws.meta d.draws.puts
  where
    in_part : (p : Part) (at : Record) → Earlier at record' → (then : Record) (body ctype meta : List ℕ) → PutsPart rules.shape at operation then body ctype meta p id blob → StoredPart rules.shape record' operation chunk
    in_part Top at back then body ctype meta puts =
        let place = has_place (listed id blob) chunk l in
        let i = listed_in id blob place.0 chunk place.1 in
        elim puts [
          | inl s ↦ absurd (simple_not_composite id s.1 i.kind)
          | inr w ↦ (
              let lists = w.3 in
              let same : i.metadata ≡ lists.metadata = some_same _ _ (sym i.reads ∙ lists.reads) in
              let c = stored_chunk rules.shape at operation then 0 lists.metadata.ids (parts (length lists.metadata.ids) lists.metadata.chunk body) chunk lists.stored
              (subst (λ (m : Metadata). Has m.ids chunk) same (at_has i.metadata.ids place.0 chunk i.at)) in
              record { at = at; back = back; then = then; k = c.k; part = c.part; attempt = c.attempt; drew = has_later at record' _ back c.drew; ok = c.ok })
        ]
    in_part (Chunk n) at back then body ctype meta puts =
        let place = has_place (listed id blob) chunk l in
        absurd (chunk_not_whole id puts.2 (inr (listed_in id blob place.0 chunk place.1).kind))

pub stored_kept : (rules : Rules) (opening : Cells) (record' : Record) → Run opening record' → IsKept rules record' → (operation attempt : ℕ) (id : BlobId) (blob : Blob) (piece : BlobId) → Has record' (Marked (End operation (Outcome.Put id)))
    → Has record' (Drawn operation Top attempt id blob) → (piece ≡ id) ⊎ Has (listed id blob) piece → rules.shape.put ≤ replicas_so rules.shape (world opening record').cells piece is_held
stored_kept rules opening record' run kept operation attempt id blob piece h drew p =
    let d = ended_in rules record' operation (Outcome.Put id) kept h in
    let f = put_follows rules d.then operation d.begun id d.follows in
    elim p [
      | inl e ↦ subst (λ (i : BlobId). rules.shape.put ≤ replicas_so rules.shape (world opening record').cells i is_held) (sym e)
          (piece_kept rules opening d.then record' operation Top f.0 id run kept (earlier_tail _ d.then record' d.at) f.3)
      | inr l ↦ (let s = drawn_lists rules record' operation Top attempt id blob piece kept drew l in
          piece_kept rules opening s.at record' operation (Chunk s.k) s.attempt piece run kept s.back s.ok)
    ]

-- ---- what deletes removed

-- how a delete of an id that ended ok was decided
pub record RemovedAt (shape : Shape) (record' : Record) (operation : ℕ) (id : BlobId) : Type 0 where
  pub then : Record
  pub back : Earlier then record'
  pub ok : verdict_of shape (delete_piece operation Top id) then ≡ Verdict.Ok
  pub parts : DeletesParts shape then operation id

pub removed_at : (rules : Rules) (record' : Record) (operation : ℕ) (id : BlobId) → IsKept rules record' → Began record' operation (Begun.Delete (Some id)) → Has record' (Marked (End operation Outcome.Deleted2)) → RemovedAt rules.shape record' operation id
removed_at rules record' operation id kept began h =
    let d = ended_in rules record' operation Outcome.Deleted2 kept h in
    let back : Earlier d.then record' = earlier_tail _ d.then record' d.at in
    let f = removed_follows rules d.then operation d.begun d.follows in
    let same : Begun.Delete (Some f.0) ≡ Begun.Delete (Some id) =
    sym f.1 ∙ (began_once rules record' operation d.begun (Begun.Delete (Some id)) d.began.0 began.0 kept (earlier_trans _ d.then record' d.began.1 back) began.1).0 in
    let id_is : f.0 ≡ id = cc same in
    record {
      then = d.then;
      back = back;
      ok = subst (λ (i : BlobId). verdict_of rules.shape (delete_piece operation Top i) d.then ≡ Verdict.Ok) id_is f.2;
      parts = subst (λ (i : BlobId). DeletesParts rules.shape d.then operation i) id_is f.3;
    }

pub removed_kept : (rules : Rules) (opening : Cells) (record' : Record) → Run opening record' → IsKept rules record' → (operation : ℕ) (id : BlobId) → Began record' operation (Begun.Delete (Some id)) → Has record' (Marked (End operation Outcome.Deleted2))
    → rules.shape.delete ≤ replicas_so rules.shape (world opening record').cells id is_gone
removed_kept rules opening record' run kept operation id began h =
    let d = removed_at rules record' operation id kept began h in
    delete_kept rules opening d.then record' operation Top id run kept d.back d.ok
