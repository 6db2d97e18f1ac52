-- What is held was stored: by a put, or before the record began.
use Rattle.std.proofs.Common.{◌≡◌, ℕ, ◌≤◌, ◌⊎◌, Option, Some, None, refl, sym, ap, ◌∙◌, subst, inl, inr}
use Rattle.blob_id.specs.declared.blob.Blob.{Blob}
use Rattle.blob_id.specs.declared.id.BlobId.{BlobId}
use Rattle.cell_model.specs.declared.cell.Cell.{Cell}
use Rattle.cell_model.specs.declared.cell.Cell.TheVariants.{Absent, Held, Gone}
use Rattle.quorum_op.specs.declared.cause.Finding.{Finding}
use Rattle.quorum_op.specs.declared.cause.Verdict.{Verdict}
use Rattle.quorum_op.specs.declared.outcome.Outcome.{Outcome}
use Rattle.quorum_op.specs.Tally.{is_failed}
use Rattle.req_frame.specs.declared.frame.Body.{Body}
use Rattle.req_frame.specs.declared.frame.Frame.{Frame}
use Rattle.world_model.specs.declared.history.Begun.{Begun}
use Rattle.world_model.specs.declared.history.HistoryMark.TheVariants.{End}
use Rattle.world_model.specs.declared.shape.Shape.{Shape}
use Rattle.world_model.specs.declared.step.Step.TheVariants.{Send}
use Rattle.world_model.specs.Lists.{Has, Earlier, At}
use Rattle.world_model.specs.Notes.{Aim, Learnt, aim_of, operation_of}
use Rattle.world_model.specs.Outcomes.{Brought, Began, IsRead, read_piece}
use Rattle.world_model.specs.Pieces.{listed}
use Rattle.world_model.specs.Record.{Part, Top, Chunk, Marked, Drawn, Took, Record}
use Rattle.world_model.specs.Router.{MaySend, SendsSome, Keeps, IsKept}
use Rattle.world_model.specs.Rules.{Rules}
use Rattle.world_model.specs.Safe.{WasDrawn, DrawsFresh, DrawsNew, IsSound, IsStored, is_gone, replicas_so}
use Rattle.world_model.specs.World.{Cells, world, Run}
use Rattle.world_model.proofs.ListLaws.{earlier_tail, has_later, has_place, each_at, each_earlier}
use Rattle.world_model.proofs.KeptLaws.{delete_kept, removed_at}
use Rattle.world_model.proofs.RouterLaws.{drawn_once, listed_in, simple_not_composite}
use Rattle.world_model.proofs.SettledLaws.{verdict_lasts}
use Rattle.world_model.proofs.SourceLaws.{some_same, Sourced, SentBody, sources}
use Rattle.world_model.proofs.TallyLaws.{ended_of}
use Rattle.world_model.proofs.WitnessLaws.{read_noted, get_learns, peek_learns}
use Rattle.world_model.proofs.WorldLaws.{run_earlier}

-- what a body that the router sent means
pub record SentMay (shape : Shape) (before : Record) (body : Body) : Type 0 where
  pub operation : ℕ
  pub aim : Option Aim
  pub may : MaySend shape before operation aim body

pub sent_may : (rules : Rules) (record' : Record) (body : Body) → IsKept rules record' → (s : SentBody record' body) → SentMay rules.shape s.then body
sent_may rules record' body kept s =
    let k : Keeps rules (Took (Send 0 s.node s.bytes)) s.then = each_at (Keeps rules) record' (Took (Send 0 s.node s.bytes)) s.then kept s.at in
    let f = subst (λ (o : Option Frame). SendsSome rules.shape s.then s.node o) s.reads (k refl) in
    record {
      operation = operation_of s.f.correlation;
      aim = aim_of s.f.correlation s.then;
      may = subst (λ (b : Body). MaySend rules.shape s.then (operation_of s.f.correlation) (aim_of s.f.correlation s.then) b) s.is f.0.may;
    }

-- a put that may be sent is of a drawn id
put_drawn : (shape : Shape) (before : Record) (operation : ℕ) (aim : Option Aim) (id : BlobId) (blob : Blob) → MaySend shape before operation aim (Body.Put id blob) → (part : Part) × (attempt : ℕ) × Has before (Drawn operation part attempt id blob)
put_drawn shape before operation None id blob m = absurd m
put_drawn shape before operation (Some aim) id blob m = (aim.part, aim.attempt, m.drew)

-- a held cell is what was stored under its id
pub held_stored : (rules : Rules) (opening : Cells) (record' : Record) (n p : ℕ) (id : BlobId) (blob : Blob) → Run opening record' → IsKept rules record' → (world opening record').cells n p id ≡ Held blob → IsStored opening record' id blob
held_stored rules opening record' n p id blob run kept h =
    elim (subst (λ (c : Cell). Sourced opening record' id c) h ((sources opening record' run).cells n p id)) [
      | inl o ↦ inr o
      | inr s ↦ (
          let m = sent_may rules record' (Body.Put id blob) kept s in
          let d = put_drawn rules.shape s.then m.operation m.aim id blob m.may in
          inl (m.operation, d.0, d.1, has_later s.then record' _ (earlier_tail _ s.then record' s.at) d.2))
    ]

pub stored_later : (opening : Cells) (older record' : Record) (id : BlobId) (blob : Blob) → Earlier older record' → IsStored opening older id blob → IsStored opening record' id blob
stored_later opening older record' id blob e c = elim c [
  | inl d ↦ inl (d.0, d.1, d.2, has_later older record' _ e d.3)
  | inr o ↦ inr o
]

-- a reply that brought a blob showed a held cell
brought_held : (c : Cell) (id : BlobId) (body : Body) (finding : Finding) (brought : Option Blob) (blob : Blob) → brought ≡ Some blob
    → (body ≡ Body.Get id) × (get_learns c ≡ record { finding = finding; blob = brought }) ⊎ (body ≡ Body.Peek id) × (peek_learns c ≡ record { finding = finding; blob = brought }) → c ≡ Held blob
brought_held Absent id body finding brought blob e l = elim l [ inl x ↦ absurd (cc (ap (λ (w : Learnt). w.blob) x.1)) | inr x ↦ absurd (cc (ap (λ (w : Learnt). w.blob) x.1)) ]
brought_held (Held b) id body finding brought blob e l = elim l [ inl x ↦ ap Held (some_same _ _ (ap (λ (w : Learnt). w.blob) x.1 ∙ e)) | inr x ↦ absurd (cc (ap (λ (w : Learnt). w.blob) x.1)) ]
brought_held Gone id body finding brought blob e l = elim l [ inl x ↦ absurd (cc (ap (λ (w : Learnt). w.blob) x.1)) | inr x ↦ absurd (cc (ap (λ (w : Learnt). w.blob) x.1)) ]

-- a blob that a read brought was stored under its id
pub brought_stored : (rules : Rules) (opening : Cells) (d : Record) (operation : ℕ) (part : Part) (id : BlobId) (blob : Blob) → Run opening d → IsKept rules d → Brought rules.shape d (read_piece operation part id) blob → IsStored opening d id blob
brought_stored rules opening d operation part id blob run kept b =
    let n = ended_of rules.shape (read_piece operation part id) d b.0 b.1 in
    let r = read_noted rules opening d operation part id b.0 run kept n.0 (ap (λ (w : Finding). is_failed (Some w)) b.2) n.1 in
    let held : r.cell ≡ Held blob = brought_held r.cell id b.0.asked.body b.0.finding b.0.blob blob b.3 r.reads in
    stored_later opening r.then d id blob r.at
    (held_stored rules opening r.then _ _ id blob (run_earlier opening d r.then run r.at) (each_earlier (Keeps rules) d r.then kept r.at) (r.is ∙ held))

was_later : (older record' : Record) (id : BlobId) → Earlier older record' → WasDrawn older id → WasDrawn record' id
was_later older record' id e w = (w.0, w.1, w.2, w.3, has_later older record' _ e w.4)

pub new_earlier : (opening : Cells) (older record' : Record) → Earlier older record' → DrawsNew opening record' → DrawsNew opening older
new_earlier opening older record' e d = record {
  once = each_earlier DrawsFresh record' older d.once e;
  cells = λ id w n p. d.cells id (was_later older record' id e w) n p;
  listed = λ id w n p top held o l. d.listed id (was_later older record' id e w) n p top held o l;
}

-- an id has one blob stored under it
pub stored_once : (opening : Cells) (record' : Record) (id : BlobId) (x y : Blob) → IsSound opening → DrawsNew opening record' → IsStored opening record' id x → IsStored opening record' id y → x ≡ y
stored_once opening record' id x y s n c d = elim c [
  | inl a ↦ elim d [
    | inl b ↦ (let q = drawn_once record' a.0 b.0 a.1 b.1 a.2 b.2 id x y n.once a.3 b.3 in cc q)
    | inr o ↦ absurd (let q : Absent ≡ Held y = sym (n.cells id (a.0, a.1, a.2, x, a.3) o.0 o.1) ∙ o.2 in cc q)
  ]
  | inr o ↦ elim d [
    | inl b ↦ absurd (let q : Absent ≡ Held x = sym (n.cells id (b.0, b.1, b.2, y, b.3) o.0 o.1) ∙ o.2 in cc q)
    | inr p ↦ s o.0 o.1 p.0 p.1 id x y o.2 p.2
  ]
]

-- soundness lasts
pub sound_law : (rules : Rules) (opening : Cells) (record' : Record) → Run opening record' → IsKept rules record' → IsSound opening → DrawsNew opening record' → IsSound (world opening record').cells
sound_law rules opening record' run k s d n p m q id b c x y =
    stored_once opening record' id b c s d (held_stored rules opening record' n p id b run k x) (held_stored rules opening record' m q id c run k y)

-- each chunk that a delete's read listed is gone
pub removed_chunks : (rules : Rules) (opening : Cells) (record' : Record) → Run opening record' → IsKept rules record' → IsSound opening → DrawsNew opening record' → (operation : ℕ) (id : BlobId) (blob : Blob) (chunk : BlobId)
    → Began record' operation (Begun.Delete (Some id)) → Has record' (Marked (End operation Outcome.Deleted2)) → IsRead rules.shape record' operation Top id blob → Has (listed id blob) chunk
    → rules.shape.delete ≤ replicas_so rules.shape (world opening record').cells chunk is_gone
removed_chunks rules opening record' run kept sound new operation id blob chunk began h read l =
    let d = removed_at rules record' operation id kept began h in
    let place = has_place (listed id blob) chunk l in
    let i = listed_in id blob place.0 chunk place.1 in
    elim d.parts [
      | inl s ↦ absurd (simple_not_composite id s i.kind)
      | inr rest ↦ elim rest [
        | inl g ↦ absurd (let v = verdict_lasts rules.shape (read_piece operation Top id) d.then record' Verdict.Gone d.back g refl in let w = read.0 in cc (v, w))
        | inr more ↦ elim more [
          | inl g ↦ absurd (let v = verdict_lasts rules.shape (read_piece operation Top id) d.then record' Verdict.NotFound d.back g refl in let w = read.0 in cc (v, w))
          | inr r ↦ (
              let stored : IsStored opening record' id r.0 = stored_later opening d.then record' id r.0 d.back
              (brought_stored rules opening d.then operation Top id r.0 (run_earlier opening record' d.then run d.back) (each_earlier (Keeps rules) record' d.then kept d.back) r.1.1) in
              let same : blob ≡ r.0 = stored_once opening record' id blob r.0 sound new (brought_stored rules opening record' operation Top id blob run kept read.1) stored in
              delete_kept rules opening d.then record' operation (Chunk place.0) chunk run kept d.back (r.2 place.0 chunk (subst (λ (b : Blob). At (listed id b) place.0 chunk) same place.1)))
        ]
      ]
    ]
