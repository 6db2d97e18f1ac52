-- What followed from the notes follows from them later too.
use Rattle.std.proofs.Common.{ℕ, suc, ◌-◌, ◌⊎◌, List, [], ◌∷◌, length, Option, Some, None, refl, sym, ap, ◌∙◌, inl, inr}
use Rattle.blob_id.specs.declared.blob.Blob.{Blob}
use Rattle.blob_id.specs.declared.id.BlobId.{BlobId}
use Rattle.quorum_op.specs.declared.cause.Cause.{Cause}
use Rattle.quorum_op.specs.declared.cause.Verdict.{Verdict}
use Rattle.quorum_op.specs.declared.outcome.Outcome.{Outcome}
use Rattle.quorum_op.specs.Tally.{is_pending}
use Rattle.world_model.specs.declared.history.Begun.{Begun}
use Rattle.world_model.specs.declared.shape.Shape.{Shape}
use Rattle.world_model.specs.Lists.{Earlier}
use Rattle.world_model.specs.Notes.{Ended, Piece, map_notes}
use Rattle.world_model.specs.Outcomes.{IsRead, IsReadIn, IsChunkAt, ReadsChunk, IsPartOf, ReadsInfo, IsUnavailable, failures, ReadFails, ChunkFails, GetFollows, InfoFollows, DeletesParts, DeleteFollows, DrewNothing, PutFollows, OfRequest, Follows, read_piece, put_piece, delete_piece}
use Rattle.world_model.specs.Pieces.{Window, past}
use Rattle.world_model.specs.Record.{Part, Top, Chunk, Drawn, Decided, Record}
use Rattle.world_model.specs.Router.{DrawsPart, Keeps, IsKept}
use Rattle.world_model.specs.Rules.{Rules}
use Rattle.world_model.proofs.ListLaws.{earlier_either, earlier_tail, each_at, has_at, has_later, head_has}
use Rattle.world_model.proofs.SettledLaws.{settled, verdict_lasts, ends_keep}

read_later : (shape : Shape) (older record' : Record) (operation : ℕ) (part : Part) (id : BlobId) (blob : Blob) → Earlier older record' → IsRead shape older operation part id blob → IsRead shape record' operation part id blob
read_later shape older record' operation part id blob e r =
    (verdict_lasts shape (read_piece operation part id) older record' Verdict.Ok e r.0 refl, (r.1.0, ends_keep shape (read_piece operation part id) older record' r.1.0 e r.1.1, r.1.2, r.1.3))

unavailable_later : (shape : Shape) (older record' : Record) (piece : Piece) (failed : List (ℕ × Cause)) → Earlier older record' → IsUnavailable shape older piece failed → IsUnavailable shape record' piece failed
unavailable_later shape older record' piece failed e u = (
  verdict_lasts shape piece older record' Verdict.Unavailable e u.0 refl,
  u.1 ∙ ap (λ (es : List Ended). failures shape piece.id (map_notes es)) (sym (settled shape piece older record' e (ap is_pending u.0))),
)

parts_later : (shape : Shape) (older record' : Record) (operation chunk left : ℕ) (w : Window) (k : ℕ) (ids : List BlobId) (ps : List (List ℕ)) → Earlier older record' → IsReadIn shape older operation chunk left w k ids ps → IsReadIn shape record' operation chunk left w k ids ps
parts_later shape older record' operation chunk left w k [] [] e r = tt
parts_later shape older record' operation chunk left w k [] (p ∷ ps) e r = absurd r
parts_later shape older record' operation chunk left w k (id ∷ ids) [] e r = absurd r
parts_later shape older record' operation chunk left w k (id ∷ ids) (p ∷ ps) e r =
    (r.0, λ t. (let b = r.1 t in (b.0, read_later shape older record' operation (Chunk k) id b.0 e b.1, b.2)), parts_later shape older record' operation chunk (left - chunk) (past w (length p)) (suc k) ids ps e r.2)

chunk_later : (shape : Shape) (older record' : Record) (operation : ℕ) (id : BlobId) (k : ℕ) (chunk : BlobId) → Earlier older record' → IsChunkAt shape older operation id k chunk → IsChunkAt shape record' operation id k chunk
chunk_later shape older record' operation id k chunk e c = record { blob = c.blob; read = read_later shape older record' operation Top id c.blob e c.read; at = c.at }

touched_later : (shape : Shape) (older record' : Record) (operation : ℕ) (id : BlobId) (range : Option (ℕ × ℕ)) (k : ℕ) (chunk : BlobId) → Earlier older record' → ReadsChunk shape older operation id range k chunk → ReadsChunk shape record' operation id range k chunk
unfolding chunk_later
touched_later shape older record' operation id range k chunk e c = record { listed = chunk_later shape older record' operation id k chunk e c.listed; metadata = c.metadata; reads = c.reads; touched = c.touched }

part_later : (shape : Shape) (older record' : Record) (operation : ℕ) (top : BlobId) (part : Part) (id : BlobId) → Earlier older record' → IsPartOf shape older operation top part id → IsPartOf shape record' operation top part id
part_later shape older record' operation top Top id e p = p
part_later shape older record' operation top (Chunk k) id e p = chunk_later shape older record' operation top k id e p

info_later : (shape : Shape) (older record' : Record) (operation : ℕ) (id : BlobId) (size : ℕ) (blob : Blob) → Earlier older record' → ReadsInfo shape older operation id size blob → ReadsInfo shape record' operation id size blob
info_later shape older record' operation id size blob e r = record { read = read_later shape older record' operation Top id blob e r.read; sized = r.sized }

read_fails_later : (shape : Shape) (older record' : Record) (operation : ℕ) (id : BlobId) (outcome : Outcome) → Earlier older record' → ReadFails shape older operation id outcome → ReadFails shape record' operation id outcome
read_fails_later shape older record' operation id Outcome.Deleted e f = verdict_lasts shape (read_piece operation Top id) older record' Verdict.Gone e f refl
read_fails_later shape older record' operation id Outcome.NotFound e f = verdict_lasts shape (read_piece operation Top id) older record' Verdict.NotFound e f refl
read_fails_later shape older record' operation id (Outcome.Unavailable other failed) e f = (f.0, unavailable_later shape older record' (read_piece operation Top id) failed e f.1)
read_fails_later shape older record' operation id (Outcome.Corrupt other) e f = (f.0, f.1, (f.2.0, read_later shape older record' operation Top id f.2.0 e f.2.1, f.2.2))
read_fails_later shape older record' operation id _ e f = absurd f

chunk_fails_later : (shape : Shape) (older record' : Record) (operation : ℕ) (id : BlobId) (range : Option (ℕ × ℕ)) (outcome : Outcome) → Earlier older record' → ChunkFails shape older operation id range outcome → ChunkFails shape record' operation id range outcome
unfolding touched_later chunk_later
chunk_fails_later shape older record' operation id range Outcome.Deleted e f =
    (f.0, f.1, touched_later shape older record' operation id range f.0 f.1 e f.2, verdict_lasts shape (read_piece operation (Chunk f.0) f.1) older record' Verdict.Gone e f.3 refl)
chunk_fails_later shape older record' operation id range (Outcome.Missing chunk) e f =
    (f.0, touched_later shape older record' operation id range f.0 chunk e f.1, verdict_lasts shape (read_piece operation (Chunk f.0) chunk) older record' Verdict.NotFound e f.2 refl)
chunk_fails_later shape older record' operation id range (Outcome.Unavailable chunk failed) e f =
    (f.0, touched_later shape older record' operation id range f.0 chunk e f.1, unavailable_later shape older record' (read_piece operation (Chunk f.0) chunk) failed e f.2)
chunk_fails_later shape older record' operation id range (Outcome.Corrupt chunk) e f =
    (f.0, touched_later shape older record' operation id range f.0 chunk e f.1, f.2, read_later shape older record' operation (Chunk f.0) chunk f.2 e f.3, f.4)
chunk_fails_later shape older record' operation id range _ e f = absurd f

both_later : (shape : Shape) (older record' : Record) (operation : ℕ) (id : BlobId) (range : Option (ℕ × ℕ)) (outcome : Outcome) → Earlier older record' → ReadFails shape older operation id outcome ⊎ ChunkFails shape older operation id range outcome
    → ReadFails shape record' operation id outcome ⊎ ChunkFails shape record' operation id range outcome
both_later shape older record' operation id range outcome e f = elim f [
  | inl x ↦ inl (read_fails_later shape older record' operation id outcome e x)
  | inr x ↦ inr (chunk_fails_later shape older record' operation id range outcome e x)
]

bytes_later : (shape : Shape) (older record' : Record) (operation : ℕ) (id : BlobId) (range : Option (ℕ × ℕ)) (bytes : List ℕ) → Earlier older record' → GetFollows shape older operation id range (Outcome.Bytes bytes) → GetFollows shape record' operation id range (Outcome.Bytes bytes)
bytes_later shape older record' operation id range bytes e f = elim f [
  | inl r ↦ inl (record { kind = r.kind; blob = r.blob; read = read_later shape older record' operation Top id r.blob e r.read; within = r.within; shows = r.shows })
  | inr r ↦ inr (record {
    kind = r.kind;
    blob = r.blob;
    read = read_later shape older record' operation Top id r.blob e r.read;
    metadata = r.metadata;
    reads = r.reads;
    within = r.within;
    contents = r.contents;
    parts = parts_later shape older record' operation r.metadata.chunk r.metadata.total _ 0 r.metadata.ids r.contents e r.parts;
    shows = r.shows;
  })
]

get_later : (shape : Shape) (older record' : Record) (operation : ℕ) (id : BlobId) (range : Option (ℕ × ℕ)) (outcome : Outcome) → Earlier older record' → GetFollows shape older operation id range outcome → GetFollows shape record' operation id range outcome
get_later shape older record' operation id range (Outcome.Bytes bytes) e f = bytes_later shape older record' operation id range bytes e f
get_later shape older record' operation id range (Outcome.BadRange size) e f = (f.0, info_later shape older record' operation id size f.0 e f.1, f.2)
get_later shape older record' operation id range (Outcome.Put x) e f = both_later shape older record' operation id range (Outcome.Put x) e f
get_later shape older record' operation id range Outcome.Deleted2 e f = both_later shape older record' operation id range Outcome.Deleted2 e f
get_later shape older record' operation id range (Outcome.Info s c t m) e f = both_later shape older record' operation id range (Outcome.Info s c t m) e f
get_later shape older record' operation id range Outcome.Deleted e f = both_later shape older record' operation id range Outcome.Deleted e f
get_later shape older record' operation id range Outcome.NotFound e f = both_later shape older record' operation id range Outcome.NotFound e f
get_later shape older record' operation id range (Outcome.Unavailable x l) e f = both_later shape older record' operation id range (Outcome.Unavailable x l) e f
get_later shape older record' operation id range Outcome.Cancelled e f = both_later shape older record' operation id range Outcome.Cancelled e f
get_later shape older record' operation id range (Outcome.TooLarge n) e f = both_later shape older record' operation id range (Outcome.TooLarge n) e f
get_later shape older record' operation id range Outcome.NotWhole e f = both_later shape older record' operation id range Outcome.NotWhole e f
get_later shape older record' operation id range Outcome.NoFile e f = both_later shape older record' operation id range Outcome.NoFile e f
get_later shape older record' operation id range Outcome.NoId e f = both_later shape older record' operation id range Outcome.NoId e f
get_later shape older record' operation id range Outcome.NoPartition e f = both_later shape older record' operation id range Outcome.NoPartition e f
get_later shape older record' operation id range (Outcome.Missing c) e f = both_later shape older record' operation id range (Outcome.Missing c) e f
get_later shape older record' operation id range (Outcome.Corrupt c) e f = both_later shape older record' operation id range (Outcome.Corrupt c) e f
get_later shape older record' operation id range Outcome.Memory e f = both_later shape older record' operation id range Outcome.Memory e f

info_follows_later : (shape : Shape) (older record' : Record) (operation : ℕ) (id : BlobId) (outcome : Outcome) → Earlier older record' → InfoFollows shape older operation id outcome → InfoFollows shape record' operation id outcome
info_follows_later shape older record' operation id (Outcome.Info s c t m) e f = (f.0, info_later shape older record' operation id s f.0 e f.1, f.2, f.3, f.4)
info_follows_later shape older record' operation id Outcome.Deleted e f = read_fails_later shape older record' operation id Outcome.Deleted e f
info_follows_later shape older record' operation id Outcome.NotFound e f = read_fails_later shape older record' operation id Outcome.NotFound e f
info_follows_later shape older record' operation id (Outcome.Unavailable x l) e f = read_fails_later shape older record' operation id (Outcome.Unavailable x l) e f
info_follows_later shape older record' operation id (Outcome.Corrupt c) e f = read_fails_later shape older record' operation id (Outcome.Corrupt c) e f
info_follows_later shape older record' operation id _ e f = absurd f

deletes_later : (shape : Shape) (older record' : Record) (operation : ℕ) (id : BlobId) → Earlier older record' → DeletesParts shape older operation id → DeletesParts shape record' operation id
deletes_later shape older record' operation id e d = elim d [
  | inl s ↦ inl s
  | inr r ↦ elim r [
    | inl g ↦ inr (inl (verdict_lasts shape (read_piece operation Top id) older record' Verdict.Gone e g refl))
    | inr q ↦ elim q [
      | inl n ↦ inr (inr (inl (verdict_lasts shape (read_piece operation Top id) older record' Verdict.NotFound e n refl)))
      | inr b ↦ inr (inr (inr (b.0, read_later shape older record' operation Top id b.0 e b.1, λ k c h. verdict_lasts shape (delete_piece operation (Chunk k) c) older record' Verdict.Ok e (b.2 k c h) refl)))
    ]
  ]
]

delete_later : (shape : Shape) (older record' : Record) (operation : ℕ) (id : BlobId) (outcome : Outcome) → Earlier older record' → DeleteFollows shape older operation id outcome → DeleteFollows shape record' operation id outcome
delete_later shape older record' operation id Outcome.Deleted2 e f = (verdict_lasts shape (delete_piece operation Top id) older record' Verdict.Ok e f.0 refl, deletes_later shape older record' operation id e f.1)
delete_later shape older record' operation id (Outcome.Unavailable other failed) e f = elim f [
  | inl x ↦ inl (x.0, part_later shape older record' operation id x.0 other e x.1, unavailable_later shape older record' (delete_piece operation x.0 other) failed e x.2)
  | inr x ↦ inr (x.0, unavailable_later shape older record' (read_piece operation Top id) failed e x.1)
]
delete_later shape older record' operation id _ e f = absurd f

-- a put that became done without an id draws none later
nothing_later : (rules : Rules) (older record' : Record) (operation : ℕ) (outcome : Outcome) → IsKept rules record' → Earlier (Decided operation outcome ∷ older) record' → DrewNothing older operation → DrewNothing record' operation
nothing_later rules older record' operation outcome kept e n part attempt id blob h =
    let a = has_at record' (Drawn operation part attempt id blob) h in
    let d : DrawsPart rules a.0 operation part attempt id blob = each_at (Keeps rules) record' (Drawn operation part attempt id blob) a.0 kept a.1 in
    elim (earlier_either (Drawn operation part attempt id blob ∷ a.0) (Decided operation outcome ∷ older) record' a.1 e) [
      | inl x ↦ elim x [
        | inl q ↦ cc q
        | inr t ↦ n part attempt id blob (head_has _ a.0 older t)
      ]
      | inr x ↦ elim x [
        | inl q ↦ cc q
        | inr t ↦ d.live (outcome, head_has _ older a.0 t)
      ]
    ]

put_later : (rules : Rules) (older record' : Record) (operation : ℕ) (file body : List ℕ) (outcome : Outcome) → IsKept rules record' → Earlier (Decided operation outcome ∷ older) record' → PutFollows rules older operation file body outcome → PutFollows rules record' operation file body outcome
put_later rules older record' operation file body (Outcome.Put id) k e f =
    let t : Earlier older record' = earlier_tail _ older record' e in
    (f.0, f.1, has_later older record' _ t f.2, verdict_lasts rules.shape (put_piece operation Top f.0 id) older record' Verdict.Ok t f.3 refl)
put_later rules older record' operation file body (Outcome.Unavailable id failed) k e f =
    let t : Earlier older record' = earlier_tail _ older record' e in
    (f.0, f.1, f.2, has_later older record' _ t f.3, f.4, unavailable_later rules.shape older record' (put_piece operation f.0 f.1 id) failed t f.5)
put_later rules older record' operation file body (Outcome.TooLarge n) k e f = (f.0, f.1, nothing_later rules older record' operation (Outcome.TooLarge n) k e f.2)
put_later rules older record' operation file body Outcome.NoFile k e f = (f.0, nothing_later rules older record' operation Outcome.NoFile k e f.1)
put_later rules older record' operation file body _ k e f = absurd f

of_request_later : (rules : Rules) (older record' : Record) (operation : ℕ) (begun : Begun) (outcome : Outcome) → IsKept rules record' → Earlier (Decided operation outcome ∷ older) record' → OfRequest rules older operation begun outcome → OfRequest rules record' operation begun outcome
of_request_later rules older record' operation (Begun.Put file body ttl ctype meta) outcome k e f = put_later rules older record' operation file body outcome k e f
of_request_later rules older record' operation (Begun.Get (Some id) range file) outcome k e f = get_later rules.shape older record' operation id range outcome (earlier_tail _ older record' e) f
of_request_later rules older record' operation (Begun.Info (Some id)) outcome k e f = info_follows_later rules.shape older record' operation id outcome (earlier_tail _ older record' e) f
of_request_later rules older record' operation (Begun.Delete (Some id)) outcome k e f = delete_later rules.shape older record' operation id outcome (earlier_tail _ older record' e) f
of_request_later rules older record' operation (Begun.Get None range file) outcome k e f = absurd f
of_request_later rules older record' operation (Begun.Info None) outcome k e f = absurd f
of_request_later rules older record' operation (Begun.Delete None) outcome k e f = absurd f

-- what followed when the operation became done follows ever after
pub follows_later : (rules : Rules) (older record' : Record) (operation : ℕ) (begun : Begun) (outcome : Outcome) → IsKept rules record' → Earlier (Decided operation outcome ∷ older) record' → Follows rules older operation begun outcome → Follows rules record' operation begun outcome
follows_later rules older record' operation begun Outcome.Cancelled k e f = has_later older record' _ (earlier_tail _ older record' e) f
follows_later rules older record' operation begun Outcome.Memory k e f = tt
follows_later rules older record' operation begun Outcome.NoId k e f = f
follows_later rules older record' operation begun Outcome.NotWhole k e f = f
follows_later rules older record' operation begun Outcome.NoPartition k e f = f
follows_later rules older record' operation begun (Outcome.Put x) k e f = of_request_later rules older record' operation begun (Outcome.Put x) k e f
follows_later rules older record' operation begun Outcome.Deleted2 k e f = of_request_later rules older record' operation begun Outcome.Deleted2 k e f
follows_later rules older record' operation begun (Outcome.Bytes b) k e f = of_request_later rules older record' operation begun (Outcome.Bytes b) k e f
follows_later rules older record' operation begun (Outcome.Info s c t m) k e f = of_request_later rules older record' operation begun (Outcome.Info s c t m) k e f
follows_later rules older record' operation begun Outcome.Deleted k e f = of_request_later rules older record' operation begun Outcome.Deleted k e f
follows_later rules older record' operation begun Outcome.NotFound k e f = of_request_later rules older record' operation begun Outcome.NotFound k e f
follows_later rules older record' operation begun (Outcome.Unavailable x l) k e f = of_request_later rules older record' operation begun (Outcome.Unavailable x l) k e f
follows_later rules older record' operation begun (Outcome.TooLarge n) k e f = of_request_later rules older record' operation begun (Outcome.TooLarge n) k e f
follows_later rules older record' operation begun (Outcome.BadRange n) k e f = of_request_later rules older record' operation begun (Outcome.BadRange n) k e f
follows_later rules older record' operation begun Outcome.NoFile k e f = of_request_later rules older record' operation begun Outcome.NoFile k e f
follows_later rules older record' operation begun (Outcome.Missing c) k e f = of_request_later rules older record' operation begun (Outcome.Missing c) k e f
follows_later rules older record' operation begun (Outcome.Corrupt c) k e f = of_request_later rules older record' operation begun (Outcome.Corrupt c) k e f
