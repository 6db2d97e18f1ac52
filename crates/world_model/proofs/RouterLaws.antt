-- What a kept record shows of its operations.
use Rattle.std.proofs.Common.{◌≡◌, ◌≢◌, ℕ, ◌≤◌, ◌⊎◌, Bool, true, false, cond, List, [], ◌∷◌, Option, Some, None, refl, sym, ◌∙◌, subst, inl, inr, arith}
use Rattle.blob_id.specs.declared.blob.Blob.{Blob}
use Rattle.blob_id.specs.declared.id.BlobId.{BlobId}
use Rattle.blob_id.specs.declared.id.Kind.{Kind}
use Rattle.blob_id.specs.Id.{kind_of}
use Rattle.quorum_op.specs.declared.cause.Verdict.{Verdict}
use Rattle.quorum_op.specs.declared.outcome.Outcome.{Outcome}
use Rattle.world_model.specs.declared.history.Begun.{Begun}
use Rattle.world_model.specs.declared.history.HistoryMark.TheVariants.{Begin, End}
use Rattle.world_model.specs.Lists.{Has, Earlier, Each, At}
use Rattle.world_model.specs.Notes.{verdict_of}
use Rattle.world_model.specs.Outcomes.{BeganAt, Began, put_piece, read_piece, delete_piece, IsChunkAt, IsPartOf, ReadsSimple, ReadsParts, ReadsInfo, DeletesParts, IsWhole, Follows}
use Rattle.world_model.specs.Pieces.{is_simple, is_composite, is_chunk, same_kind, Metadata, metadata_of, ids_in, listed}
use Rattle.world_model.specs.Record.{Part, Top, Chunk, Item, Marked, Drawn, Decided, Record}
use Rattle.world_model.specs.Router.{BeginsNext, begun_in, DrawsPart, GoesFirst, Ends, Keeps, IsKept}
use Rattle.world_model.specs.Rules.{Rules}
use Rattle.world_model.specs.Safe.{DrawsFresh, is_ok_read, ReadsId, is_missing}
use Rattle.world_model.proofs.ListLaws.{earlier_tail, earlier_trans, head_has, has_at, each_at, each_earlier}
use Rattle.world_model.proofs.SourceLaws.{some_same}

-- ---- beginnings

pub began_later : (older record' : Record) (operation : ℕ) (begun : Begun) → Earlier older record' → Began older operation begun → Began record' operation begun
began_later older record' operation begun e b = (b.0, earlier_trans _ older record' b.1 e)

begun_more : (item : Item) (before : Record) → begun_in before ≤ begun_in (item ∷ before)
begun_more (Marked (Begin operation begun)) before = omega arith
begun_more _ before = omega arith

-- no operation has a number above the number of those begun
pub begun_most : (rules : Rules) (record' : Record) (operation : ℕ) (begun : Begun) → IsKept rules record' → Has record' (Marked (Begin operation begun)) → operation ≤ begun_in record'
begun_most rules [] operation begun k h = absurd h
begun_most rules (item ∷ before) operation begun k h = elim h [
  | inl e ↦ (
      let n : BeginsNext before operation = subst (λ w. Keeps rules w before) (sym e) k.1 in
      subst (λ (w : Item). operation ≤ begun_in (w ∷ before)) e (omega (arith, n.next)))
  | inr t ↦ omega (arith, begun_most rules before operation begun k.0 t, begun_more item before)
]

-- an operation has one beginning
pub began_once : (rules : Rules) (record' : Record) (operation : ℕ) (a b : Begun) (s t : Record) → IsKept rules record' → BeganAt record' operation a s → BeganAt record' operation b t → (a ≡ b) × (s ≡ t)
began_once rules [] operation a b s t k h g = absurd (cc h)
began_once rules (item ∷ before) operation a b s t k h g = elim h [
  | inl e ↦ elim g [
    | inl d ↦ (let q : Marked (Begin operation a) ∷ s ≡ Marked (Begin operation b) ∷ t = e ∙ sym d in (cc q, cc q))
    | inr u ↦ absurd (again a item b (cc e) k.1 (head_has _ t before u))
  ]
  | inr u ↦ elim g [
    | inl d ↦ absurd (again b item a (cc d) k.1 (head_has _ s before u))
    | inr v ↦ began_once rules before operation a b s t k.0 u v
  ]
]
  where
    again : (begun : Begun) (w : Item) (other : Begun) → Marked (Begin operation begun) ≡ w → Keeps rules w before → Has before (Marked (Begin operation other)) → ⊥
    again begun w other e n h =
        let next : BeginsNext before operation = subst (λ v. Keeps rules v before) (sym e) n in
        let most : operation ≤ begun_in before = begun_most rules before operation other k.0 h in
        omega (arith, next.next, most)

-- ---- drawn ids

-- an id is drawn once
pub drawn_once : (record' : Record) (a b : ℕ) (p q : Part) (s t : ℕ) (id : BlobId) (x y : Blob) → Each DrawsFresh record' → Has record' (Drawn a p s id x) → Has record' (Drawn b q t id y) → Drawn a p s id x ≡ Drawn b q t id y
drawn_once [] a b p q s t id x y k h g = absurd h
drawn_once (item ∷ before) a b p q s t id x y k h g = elim h [
  | inl e ↦ elim g [
    | inl d ↦ e ∙ sym d
    | inr u ↦ (let n : DrawsFresh (Drawn a p s id x) before = subst (λ w. DrawsFresh w before) (sym e) k.1 in absurd (n (b, q, t, y, u)))
  ]
  | inr u ↦ elim g [
    | inl d ↦ (let n : DrawsFresh (Drawn b q t id y) before = subst (λ w. DrawsFresh w before) (sym d) k.1 in absurd (n (a, p, s, x, u)))
    | inr v ↦ drawn_once before a b p q s t id x y k.0 u v
  ]
]

-- what a put drew an id for
pub record DrawnAt (rules : Rules) (record' : Record) (operation : ℕ) (part : Part) (attempt : ℕ) (id : BlobId) (blob : Blob) : Type 0 where
  pub at : Record
  pub back : Earlier at record'
  pub draws : DrawsPart rules at operation part attempt id blob

pub drawn_at : (rules : Rules) (record' : Record) (operation : ℕ) (part : Part) (attempt : ℕ) (id : BlobId) (blob : Blob) → IsKept rules record' → Has record' (Drawn operation part attempt id blob) → DrawnAt rules record' operation part attempt id blob
drawn_at rules record' operation part attempt id blob k h =
    let a = has_at record' (Drawn operation part attempt id blob) h in
    record { at = a.0; back = earlier_tail _ a.0 record' a.1; draws = each_at (Keeps rules) record' (Drawn operation part attempt id blob) a.0 k a.1 }

-- ---- kinds of ids

pub simple_not_composite : (id : BlobId) → is_simple id ≡ true → is_composite id ≡ true → ⊥
simple_not_composite id h g = go (kind_of id) h g
  where
    go : (k : Kind) → same_kind k Kind.Simple ≡ true → same_kind k Kind.Composite ≡ true → ⊥
    go Kind.Simple h g = cc
    go Kind.Composite h g = cc
    go Kind.Chunk h g = cc

pub chunk_not_whole : (id : BlobId) → is_chunk id ≡ true → IsWhole id → ⊥
chunk_not_whole id h w = elim w [ inl g ↦ go (kind_of id) h (inl g) | inr g ↦ go (kind_of id) h (inr g) ]
  where
    go : (k : Kind) → same_kind k Kind.Chunk ≡ true → (same_kind k Kind.Simple ≡ true) ⊎ (same_kind k Kind.Composite ≡ true) → ⊥
    go Kind.Simple h g = cc
    go Kind.Composite h g = cc
    go Kind.Chunk h g = elim g [ inl x ↦ cc | inr x ↦ cc ]

-- what lists a chunk
pub record ListedIn (id : BlobId) (blob : Blob) (k : ℕ) (chunk : BlobId) : Type 0 where
  pub kind : is_composite id ≡ true
  pub metadata : Metadata
  pub reads : metadata_of blob.body ≡ Some metadata
  pub at : At metadata.ids k chunk

pub listed_in : (id : BlobId) (blob : Blob) (k : ℕ) (chunk : BlobId) → At (listed id blob) k chunk → ListedIn id blob k chunk
listed_in id blob k chunk h = go (is_composite id) (metadata_of blob.body) refl refl h
  where
    go : (b : Bool) (o : Option Metadata) → is_composite id ≡ b → metadata_of blob.body ≡ o → At (cond b (ids_in o) []) k chunk → ListedIn id blob k chunk
    go false o e m h = absurd h
    go true None e m h = absurd h
    go true (Some metadata) e m h = record { kind = e; metadata = metadata; reads = m; at = h }

-- the ids that metadata of a composite lists
pub metadata_listed : (id : BlobId) (blob : Blob) (metadata : Metadata) (chunk : BlobId) → is_composite id ≡ true → metadata_of blob.body ≡ Some metadata → Has metadata.ids chunk → Has (listed id blob) chunk
metadata_listed id blob metadata chunk k m h =
    subst (λ (b : Bool). Has (cond b (ids_in (metadata_of blob.body)) []) chunk) (sym k) (subst (λ (o : Option Metadata). Has (ids_in o) chunk) (sym m) h)

-- ---- ends

-- how an end was decided
pub record DecidedAt (rules : Rules) (before : Record) (operation : ℕ) (outcome : Outcome) : Type 0 where
  pub then : Record
  pub at : Earlier (Decided operation outcome ∷ then) before
  pub begun : Begun
  pub began : Began then operation begun
  pub follows : Follows rules then operation begun outcome
  pub order : outcome ≢ Outcome.Cancelled → (other : ℕ) (how : Outcome) (s : Record) → Earlier (Decided other how ∷ s) before → GoesFirst s other then operation → Has before (Marked (End other how))

pub decided_at : (rules : Rules) (before : Record) (operation : ℕ) (outcome : Outcome) → IsKept rules before → Ends before operation outcome → DecidedAt rules before operation outcome
decided_at rules before operation outcome k o =
    let d = each_at (Keeps rules) before (Decided operation outcome) o.at k o.decided in
    record { then = o.at; at = o.decided; begun = d.begun; began = d.began; follows = d.follows; order = o.order }

-- how the end of a record's head was decided
pub end_decided : (rules : Rules) (record' before : Record) (operation : ℕ) (outcome : Outcome) → IsKept rules record' → Earlier (Marked (End operation outcome) ∷ before) record' → DecidedAt rules before operation outcome
end_decided rules record' before operation outcome kept e =
    decided_at rules before operation outcome (each_earlier (Keeps rules) record' before kept (earlier_tail _ before record' e))
    (each_at (Keeps rules) record' (Marked (End operation outcome)) before kept e)

-- how an end in a record was decided, and where it stands
pub record EndedIn (rules : Rules) (record' : Record) (operation : ℕ) (outcome : Outcome) : Type 0 where
  pub then : Record
  pub at : Earlier (Decided operation outcome ∷ then) record'
  pub begun : Begun
  pub began : Began then operation begun
  pub follows : Follows rules then operation begun outcome

pub ended_in : (rules : Rules) (record' : Record) (operation : ℕ) (outcome : Outcome) → IsKept rules record' → Has record' (Marked (End operation outcome)) → EndedIn rules record' operation outcome
ended_in rules record' operation outcome k h =
    let a = has_at record' (Marked (End operation outcome)) h in
    let d = end_decided rules record' a.0 operation outcome k a.1 in
    record { then = d.then; at = earlier_trans _ a.0 record' d.at (earlier_tail _ a.0 record' a.1); begun = d.begun; began = d.began; follows = d.follows }

-- ---- what follows, by the outcome

pub put_follows : (rules : Rules) (before : Record) (operation : ℕ) (begun : Begun) (id : BlobId) → Follows rules before operation begun (Outcome.Put id)
    → (attempt : ℕ) × (blob : Blob) × Has before (Drawn operation Top attempt id blob) × (verdict_of rules.shape (put_piece operation Top attempt id) before ≡ Verdict.Ok)
put_follows rules before operation (Begun.Put file body ttl ctype meta) id f = f
put_follows rules before operation (Begun.Get (Some other) range file) id f = elim f [ inl x ↦ absurd x | inr x ↦ absurd x ]
put_follows rules before operation (Begun.Info (Some other)) id f = absurd f
put_follows rules before operation (Begun.Delete (Some other)) id f = absurd f
put_follows rules before operation (Begun.Get None range file) id f = absurd f
put_follows rules before operation (Begun.Info None) id f = absurd f
put_follows rules before operation (Begun.Delete None) id f = absurd f

pub removed_follows : (rules : Rules) (before : Record) (operation : ℕ) (begun : Begun) → Follows rules before operation begun Outcome.Deleted2
    → (id : BlobId) × (begun ≡ Begun.Delete (Some id)) × (verdict_of rules.shape (delete_piece operation Top id) before ≡ Verdict.Ok) × DeletesParts rules.shape before operation id
removed_follows rules before operation (Begun.Put file body ttl ctype meta) f = absurd f
removed_follows rules before operation (Begun.Get (Some other) range file) f = elim f [ inl x ↦ absurd x | inr x ↦ absurd x ]
removed_follows rules before operation (Begun.Info (Some other)) f = absurd f
removed_follows rules before operation (Begun.Delete (Some id)) f = (id, refl, f.0, f.1)
removed_follows rules before operation (Begun.Get None range file) f = absurd f
removed_follows rules before operation (Begun.Info None) f = absurd f
removed_follows rules before operation (Begun.Delete None) f = absurd f

-- the bytes that a get gives
pub bytes_follows : (rules : Rules) (before : Record) (operation : ℕ) (begun : Begun) (bytes : List ℕ) → Follows rules before operation begun (Outcome.Bytes bytes)
    → (id : BlobId) × (range : Option (ℕ × ℕ)) × (file : List ℕ) × (begun ≡ Begun.Get (Some id) range file) × (ReadsSimple rules.shape before operation id range bytes ⊎ ReadsParts rules.shape before operation id range bytes)
bytes_follows rules before operation (Begun.Put file body ttl ctype meta) bytes f = absurd f
bytes_follows rules before operation (Begun.Get (Some id) range file) bytes f = (id, range, file, refl, f)
bytes_follows rules before operation (Begun.Info (Some id)) bytes f = absurd f
bytes_follows rules before operation (Begun.Delete (Some id)) bytes f = absurd f
bytes_follows rules before operation (Begun.Get None range file) bytes f = absurd f
bytes_follows rules before operation (Begun.Info None) bytes f = absurd f
bytes_follows rules before operation (Begun.Delete None) bytes f = absurd f

pub info_follows : (rules : Rules) (before : Record) (operation : ℕ) (begun : Begun) (size created : ℕ) (ctype meta : List ℕ) → Follows rules before operation begun (Outcome.Info size created ctype meta)
    → (id : BlobId) × (begun ≡ Begun.Info (Some id)) × ((blob : Blob) × ReadsInfo rules.shape before operation id size blob × (created ≡ blob.created) × (ctype ≡ blob.ctype) × (meta ≡ blob.meta))
info_follows rules before operation (Begun.Put file body ttl t m) size created ctype meta f = absurd f
info_follows rules before operation (Begun.Get (Some id) range file) size created ctype meta f = elim f [ inl x ↦ absurd x | inr x ↦ absurd x ]
info_follows rules before operation (Begun.Info (Some id)) size created ctype meta f = (id, refl, f)
info_follows rules before operation (Begun.Delete (Some id)) size created ctype meta f = absurd f
info_follows rules before operation (Begun.Get None range file) size created ctype meta f = absurd f
info_follows rules before operation (Begun.Info None) size created ctype meta f = absurd f
info_follows rules before operation (Begun.Delete None) size created ctype meta f = absurd f

-- a get or info that ended ok read its id
pub ok_follows : (rules : Rules) (before : Record) (operation : ℕ) (begun : Begun) (outcome : Outcome) → is_ok_read outcome ≡ true → Follows rules before operation begun outcome
    → (id : BlobId) × ReadsId begun id × (verdict_of rules.shape (read_piece operation Top id) before ≡ Verdict.Ok)
ok_follows rules before operation begun (Outcome.Bytes bytes) o f =
    let b = bytes_follows rules before operation begun bytes f in
    (b.0, subst (λ (w : Begun). ReadsId w b.0) (sym b.3) refl, elim b.4 [ inl x ↦ x.read.0 | inr x ↦ x.read.0 ])
ok_follows rules before operation begun (Outcome.Info size created t m) o f =
    let b = info_follows rules before operation begun size created t m f in
    (b.0, subst (λ (w : Begun). ReadsId w b.0) (sym b.1) refl, b.2.1.read.0)
ok_follows rules before operation begun _ o f = absurd cc

-- the part that a read found so
pub record FoundSo (rules : Rules) (before : Record) (operation : ℕ) (begun : Begun) (v : Verdict) : Type 0 where
  pub top : BlobId
  pub part : Part
  pub id : BlobId
  pub reads : ReadsId begun top
  pub is : IsPartOf rules.shape before operation top part id
  pub verdict : verdict_of rules.shape (read_piece operation part id) before ≡ v

top_found : (rules : Rules) (before : Record) (operation : ℕ) (begun : Begun) (v : Verdict) (id : BlobId) → ReadsId begun id → verdict_of rules.shape (read_piece operation Top id) before ≡ v → FoundSo rules before operation begun v
top_found rules before operation begun v id r e = record { top = id; part = Top; id = id; reads = r; is = refl; verdict = e }

chunk_found : (rules : Rules) (before : Record) (operation : ℕ) (begun : Begun) (v : Verdict) (top : BlobId) (k : ℕ) (chunk : BlobId) → ReadsId begun top → IsChunkAt rules.shape before operation top k chunk → verdict_of rules.shape (read_piece operation (Chunk k) chunk) before ≡ v
    → FoundSo rules before operation begun v
chunk_found rules before operation begun v top k chunk r c e = record { top = top; part = Chunk k; id = chunk; reads = r; is = c; verdict = e }

pub missing_follows : (rules : Rules) (before : Record) (operation : ℕ) (begun : Begun) (outcome : Outcome) → is_missing outcome ≡ true → Follows rules before operation begun outcome → FoundSo rules before operation begun Verdict.NotFound
missing_follows rules before operation (Begun.Put file body ttl ctype meta) Outcome.NotFound o f = absurd f
missing_follows rules before operation (Begun.Get (Some id) range file) Outcome.NotFound o f = elim f [ inl x ↦ top_found rules before operation _ _ id refl x | inr x ↦ absurd x ]
missing_follows rules before operation (Begun.Info (Some id)) Outcome.NotFound o f = top_found rules before operation _ _ id refl f
missing_follows rules before operation (Begun.Delete (Some id)) Outcome.NotFound o f = absurd f
missing_follows rules before operation (Begun.Get None range file) Outcome.NotFound o f = absurd f
missing_follows rules before operation (Begun.Info None) Outcome.NotFound o f = absurd f
missing_follows rules before operation (Begun.Delete None) Outcome.NotFound o f = absurd f
missing_follows rules before operation (Begun.Put file body ttl ctype meta) (Outcome.Missing chunk) o f = absurd f
missing_follows rules before operation (Begun.Get (Some id) range file) (Outcome.Missing chunk) o f = elim f [ inl x ↦ absurd x | inr x ↦ chunk_found rules before operation _ _ id x.0 chunk refl x.1.listed x.2 ]
missing_follows rules before operation (Begun.Info (Some id)) (Outcome.Missing chunk) o f = absurd f
missing_follows rules before operation (Begun.Delete (Some id)) (Outcome.Missing chunk) o f = absurd f
missing_follows rules before operation (Begun.Get None range file) (Outcome.Missing chunk) o f = absurd f
missing_follows rules before operation (Begun.Info None) (Outcome.Missing chunk) o f = absurd f
missing_follows rules before operation (Begun.Delete None) (Outcome.Missing chunk) o f = absurd f
missing_follows rules before operation begun _ o f = absurd cc

pub deleted_follows : (rules : Rules) (before : Record) (operation : ℕ) (begun : Begun) → Follows rules before operation begun Outcome.Deleted → FoundSo rules before operation begun Verdict.Gone
deleted_follows rules before operation (Begun.Put file body ttl ctype meta) f = absurd f
deleted_follows rules before operation (Begun.Get (Some id) range file) f = elim f [ inl x ↦ top_found rules before operation _ _ id refl x | inr x ↦ chunk_found rules before operation _ _ id x.0 x.1 refl x.2.listed x.3 ]
deleted_follows rules before operation (Begun.Info (Some id)) f = top_found rules before operation _ _ id refl f
deleted_follows rules before operation (Begun.Delete (Some id)) f = absurd f
deleted_follows rules before operation (Begun.Get None range file) f = absurd f
deleted_follows rules before operation (Begun.Info None) f = absurd f
deleted_follows rules before operation (Begun.Delete None) f = absurd f

-- a get or info reads one id
pub same_read : (begun : Begun) (a b : BlobId) → ReadsId begun a → ReadsId begun b → a ≡ b
same_read (Begun.Put file body ttl ctype meta) a b h g = absurd h
same_read (Begun.Get id range file) a b h g = some_same a b (sym h ∙ g)
same_read (Begun.Info id) a b h g = some_same a b (sym h ∙ g)
same_read (Begun.Delete id) a b h g = absurd h
