-- Which outcome of an operation follows from the notes that the record shows.
use Rattle.std.specs.Prelude.{◌≡◌, ◌≢◌, ℕ, suc, ◌+◌, ◌-◌, ◌<◌, ◌≤◌, Bool, true, false, ◌⊎◌, List, [], ◌∷◌, length, map, min, Option, Some, None}
use Rattle.blob_id.specs.declared.blob.Blob.{Blob}
use Rattle.blob_id.specs.declared.id.BlobId.{BlobId}
use Rattle.blob_id.specs.Id.{partition_of}
use Rattle.quorum_op.specs.declared.cause.Cause.{Cause}
use Rattle.quorum_op.specs.declared.cause.Finding.{Finding}
use Rattle.quorum_op.specs.declared.cause.TallyKind.{TallyKind}
use Rattle.quorum_op.specs.declared.cause.Verdict.{Verdict}
use Rattle.quorum_op.specs.declared.outcome.Outcome.{Outcome}
use Rattle.quorum_op.specs.Tally.{Note, failed_replicas}
use Rattle.world_model.specs.declared.history.Begun.{Begun}
use Rattle.world_model.specs.declared.history.HistoryMark.TheVariants.{Begin, Cancel}
use Rattle.world_model.specs.declared.shape.Shape.{Shape}
use Rattle.world_model.specs.Lists.{Has, Earlier, At}
use Rattle.world_model.specs.Notes.{Ended, Piece, ends_of, notes_of, verdict_of}
use Rattle.world_model.specs.Pieces.{is_simple, is_composite, is_chunk, Metadata, metadata_of, listed, joined_parts, Window, window_of, seen, size_at, touches, touches_chunk, past}
use Rattle.world_model.specs.Record.{Part, Top, Chunk, Marked, Drawn, Record}
use Rattle.world_model.specs.Rules.{Rules}
use Rattle.world_model.specs.Shape.{node_of}

-- the operation was begun so, when the record was `then`
abbrev pub BeganAt : Record → ℕ → Begun → Record → Type 0
BeganAt record' operation begun then = Earlier (Marked (Begin operation begun) ∷ then) record'

abbrev pub Began : Record → ℕ → Begun → Type 0
Began record' operation begun = (then : Record) × BeganAt record' operation begun then

-- an attempt of a put at a part, under an id
abbrev pub put_piece : ℕ → Part → ℕ → BlobId → Piece
put_piece operation part attempt id = record { operation = operation; kind = TallyKind.Put; part = part; attempt = attempt; id = id }

abbrev pub read_piece : ℕ → Part → BlobId → Piece
read_piece operation part id = record { operation = operation; kind = TallyKind.Get; part = part; attempt = 0; id = id }

abbrev pub delete_piece : ℕ → Part → BlobId → Piece
delete_piece operation part id = record { operation = operation; kind = TallyKind.Delete; part = part; attempt = 0; id = id }

-- a reply with this blob counted for the piece
abbrev pub Brought : Shape → Record → Piece → Blob → Type 0
Brought shape record' piece blob =
    (ended : Ended) × Has (ends_of shape piece record') ended × (ended.finding ≡ Finding.Yes) × (ended.blob ≡ Some blob)

-- a read part is Ok, with this blob
abbrev pub IsRead : Shape → Record → ℕ → Part → BlobId → Blob → Type 0
IsRead shape before operation part id blob = (verdict_of shape (read_piece operation part id) before ≡ Verdict.Ok) × Brought shape before (read_piece operation part id) blob

-- the failed replicas of an id, by their nodes
abbrev pub failures : Shape → BlobId → List Note → List (ℕ × Cause)
failures shape id notes = map (λ failure. (node_of shape (partition_of id) failure.0, failure.1)) (failed_replicas shape.replicas notes)

-- a piece is unavailable, with just these failures
abbrev pub IsUnavailable : Shape → Record → Piece → List (ℕ × Cause) → Type 0
IsUnavailable shape before piece failed =
    (verdict_of shape piece before ≡ Verdict.Unavailable) × (failed ≡ failures shape piece.id (notes_of shape piece before))

-- the id that an operation names
abbrev pub named : Begun → Option BlobId
named (Begun.Put file body ttl ctype meta) = None
named (Begun.Get id range file) = id
named (Begun.Info id) = id
named (Begun.Delete id) = id

-- the operation is to name an id
abbrev pub names_id : Begun → Bool
names_id (Begun.Put file body ttl ctype meta) = false
names_id _ = true

-- a chunk that the operation's read of an id listed, and its place
pub record IsChunkAt (shape : Shape) (before : Record) (operation : ℕ) (id : BlobId) (k : ℕ) (chunk : BlobId) : Type 0 where
  pub blob : Blob
  pub read : IsRead shape before operation Top id blob
  pub at : At (listed id blob) k chunk

-- The parts have the listed sizes, and each one that the window touches was read at its place; k is the place of the first one, and `left` is
-- how many bytes are left there.
abbrev pub IsReadIn : Shape → Record → ℕ → (chunk left : ℕ) → Window → (k : ℕ) → List BlobId → List (List ℕ) → Type 0
IsReadIn shape before operation chunk left w k [] [] = Unit {0}
IsReadIn shape before operation chunk left w k (id ∷ ids) (part ∷ rest) =
    (length part ≡ min chunk left)
    × (touches w (length part) ≡ true → (blob : Blob) × IsRead shape before operation (Chunk k) id blob × (blob.body ≡ part))
    × IsReadIn shape before operation chunk (left - chunk) (past w (length part)) (suc k) ids rest
IsReadIn shape before operation chunk left w k _ _ = ⊥

-- the window ends within so many bytes
abbrev pub IsWithin : Window → ℕ → Type 0
IsWithin w size = w.from + w.len ≤ size

-- a get gives these bytes: those that its window shows of a simple blob
pub record ReadsSimple (shape : Shape) (before : Record) (operation : ℕ) (id : BlobId) (range : Option (ℕ × ℕ)) (bytes : List ℕ) : Type 0 where
  pub kind : is_simple id ≡ true
  pub blob : Blob
  pub read : IsRead shape before operation Top id blob
  pub within : IsWithin (window_of range (length blob.body)) (length blob.body)
  pub shows : bytes ≡ seen (window_of range (length blob.body)) blob.body

-- or of the joined chunks of a composite one
pub record ReadsParts (shape : Shape) (before : Record) (operation : ℕ) (id : BlobId) (range : Option (ℕ × ℕ)) (bytes : List ℕ) : Type 0 where
  pub kind : is_composite id ≡ true
  pub blob : Blob
  pub read : IsRead shape before operation Top id blob
  pub metadata : Metadata
  pub reads : metadata_of blob.body ≡ Some metadata
  pub within : IsWithin (window_of range metadata.total) metadata.total
  pub contents : List (List ℕ)
  pub parts : IsReadIn shape before operation metadata.chunk metadata.total (window_of range metadata.total) 0 metadata.ids contents
  pub shows : bytes ≡ seen (window_of range metadata.total) (joined_parts contents)

-- the read of the id itself fails
abbrev pub ReadFails : Shape → Record → ℕ → BlobId → Outcome → Type 0
ReadFails shape before operation id Outcome.Deleted = verdict_of shape (read_piece operation Top id) before ≡ Verdict.Gone
ReadFails shape before operation id Outcome.NotFound = verdict_of shape (read_piece operation Top id) before ≡ Verdict.NotFound
ReadFails shape before operation id (Outcome.Unavailable other failed) = (other ≡ id) × IsUnavailable shape before (read_piece operation Top id) failed
ReadFails shape before operation id (Outcome.Corrupt other) =
    (other ≡ id) × (is_composite id ≡ true) × ((blob : Blob) × IsRead shape before operation Top id blob × (metadata_of blob.body ≡ None))
ReadFails shape before operation id _ = ⊥

-- a chunk that the range touches, by the metadata that was read
pub record ReadsChunk (shape : Shape) (before : Record) (operation : ℕ) (id : BlobId) (range : Option (ℕ × ℕ)) (k : ℕ) (chunk : BlobId) : Type 0 where
  pub listed : IsChunkAt shape before operation id k chunk
  pub metadata : Metadata
  pub reads : metadata_of listed.blob.body ≡ Some metadata
  pub touched : touches_chunk metadata (window_of range metadata.total) k ≡ true

-- the read of such a chunk fails
abbrev pub ChunkFails : Shape → Record → ℕ → BlobId → Option (ℕ × ℕ) → Outcome → Type 0
ChunkFails shape before operation id range Outcome.Deleted =
    (k : ℕ) × (chunk : BlobId) × ReadsChunk shape before operation id range k chunk × (verdict_of shape (read_piece operation (Chunk k) chunk) before ≡ Verdict.Gone)
ChunkFails shape before operation id range (Outcome.Missing chunk) =
    (k : ℕ) × ReadsChunk shape before operation id range k chunk × (verdict_of shape (read_piece operation (Chunk k) chunk) before ≡ Verdict.NotFound)
ChunkFails shape before operation id range (Outcome.Unavailable chunk failed) =
    (k : ℕ) × ReadsChunk shape before operation id range k chunk × IsUnavailable shape before (read_piece operation (Chunk k) chunk) failed
ChunkFails shape before operation id range (Outcome.Corrupt chunk) =
    (k : ℕ) × (reads : ReadsChunk shape before operation id range k chunk) × (blob : Blob) × IsRead shape before operation (Chunk k) chunk blob × (length blob.body ≢ size_at reads.metadata k)
ChunkFails shape before operation id range _ = ⊥

-- the size and properties of an id that was read
pub record ReadsInfo (shape : Shape) (before : Record) (operation : ℕ) (id : BlobId) (size : ℕ) (blob : Blob) : Type 0 where
  pub read : IsRead shape before operation Top id blob
  pub sized : (is_simple id ≡ true) × (size ≡ length blob.body)
      ⊎ (is_composite id ≡ true) × ((m : Metadata) × (metadata_of blob.body ≡ Some m) × (size ≡ m.total))

abbrev pub GetFollows : Shape → Record → ℕ → BlobId → Option (ℕ × ℕ) → Outcome → Type 0
GetFollows shape before operation id range (Outcome.Bytes bytes) = ReadsSimple shape before operation id range bytes ⊎ ReadsParts shape before operation id range bytes
GetFollows shape before operation id range (Outcome.BadRange size) =
    (blob : Blob) × ReadsInfo shape before operation id size blob × (size < (window_of range size).from + (window_of range size).len)
GetFollows shape before operation id range outcome = ReadFails shape before operation id outcome ⊎ ChunkFails shape before operation id range outcome

abbrev pub InfoFollows : Shape → Record → ℕ → BlobId → Outcome → Type 0
InfoFollows shape before operation id (Outcome.Info size created ctype meta) =
    (blob : Blob) × ReadsInfo shape before operation id size blob × (created ≡ blob.created) × (ctype ≡ blob.ctype) × (meta ≡ blob.meta)
InfoFollows shape before operation id outcome = ReadFails shape before operation id outcome

-- the id, or a chunk that the operation's read of it listed
abbrev pub IsPartOf : Shape → Record → ℕ → BlobId → Part → BlobId → Type 0
IsPartOf shape before operation top Top id = id ≡ top
IsPartOf shape before operation top (Chunk k) id = IsChunkAt shape before operation top k id

-- how a delete took its id: alone, or with the chunks that its read listed
abbrev pub DeletesParts : Shape → Record → ℕ → BlobId → Type 0
DeletesParts shape before operation id =
    (is_simple id ≡ true)
    ⊎ (verdict_of shape (read_piece operation Top id) before ≡ Verdict.Gone)
    ⊎ (verdict_of shape (read_piece operation Top id) before ≡ Verdict.NotFound)
    ⊎ ((blob : Blob) × IsRead shape before operation Top id blob × ((k : ℕ) (chunk : BlobId) → At (listed id blob) k chunk → verdict_of shape (delete_piece operation (Chunk k) chunk) before ≡ Verdict.Ok))

abbrev pub DeleteFollows : Shape → Record → ℕ → BlobId → Outcome → Type 0
DeleteFollows shape before operation id Outcome.Deleted2 = (verdict_of shape (delete_piece operation Top id) before ≡ Verdict.Ok) × DeletesParts shape before operation id
DeleteFollows shape before operation id (Outcome.Unavailable other failed) =
    ((part : Part) × IsPartOf shape before operation id part other × IsUnavailable shape before (delete_piece operation part other) failed)
    ⊎ (other ≡ id) × IsUnavailable shape before (read_piece operation Top id) failed
DeleteFollows shape before operation id _ = ⊥

-- the put drew no id
abbrev pub DrewNothing : Record → ℕ → Type 0
DrewNothing before operation = (part : Part) (attempt : ℕ) (id : BlobId) (blob : Blob) → Has before (Drawn operation part attempt id blob) → ⊥

-- A put answers the id under which its whole blob is stored, or its metadata. It is unavailable by the last attempt at a part. What is too
-- large is never sent; a file that is too large is never read, and its size is the shelf's answer.
abbrev pub PutFollows : Rules → Record → ℕ → List ℕ → List ℕ → Outcome → Type 0
PutFollows rules before operation file body (Outcome.Put id) =
    (attempt : ℕ) × (blob : Blob) × Has before (Drawn operation Top attempt id blob) × (verdict_of rules.shape (put_piece operation Top attempt id) before ≡ Verdict.Ok)
PutFollows rules before operation file body (Outcome.Unavailable id failed) =
    (part : Part) × (attempt : ℕ) × (blob : Blob) × Has before (Drawn operation part attempt id blob) × (rules.attempts ≡ suc attempt) × IsUnavailable rules.shape before (put_piece operation part attempt id) failed
PutFollows rules before operation file body (Outcome.TooLarge size) = (file ≡ [] → size ≡ length body) × (rules.limit < size) × DrewNothing before operation
PutFollows rules before operation file body Outcome.NoFile = (file ≢ []) × DrewNothing before operation
PutFollows rules before operation file body _ = ⊥

abbrev pub OfRequest : Rules → Record → ℕ → Begun → Outcome → Type 0
OfRequest rules before operation (Begun.Put file body ttl ctype meta) outcome = PutFollows rules before operation file body outcome
OfRequest rules before operation (Begun.Get (Some id) range file) outcome = GetFollows rules.shape before operation id range outcome
OfRequest rules before operation (Begun.Info (Some id)) outcome = InfoFollows rules.shape before operation id outcome
OfRequest rules before operation (Begun.Delete (Some id)) outcome = DeleteFollows rules.shape before operation id outcome
OfRequest rules before operation _ outcome = ⊥

-- the id is of a whole blob
abbrev pub IsWhole : BlobId → Type 0
IsWhole id = (is_simple id ≡ true) ⊎ (is_composite id ≡ true)

-- The outcome follows from what was asked and from the notes that the record shows. An id that names no whole blob, or no partition, is
-- refused by itself.
abbrev pub Follows : Rules → Record → ℕ → Begun → Outcome → Type 0
Follows rules before operation begun Outcome.Cancelled = Has before (Marked (Cancel operation))
Follows rules before operation begun Outcome.Memory = Unit {0}
Follows rules before operation begun Outcome.NoId = (names_id begun ≡ true) × (named begun ≡ None)
Follows rules before operation begun Outcome.NotWhole = (id : BlobId) × (named begun ≡ Some id) × (is_chunk id ≡ true)
Follows rules before operation begun Outcome.NoPartition = (id : BlobId) × (named begun ≡ Some id) × IsWhole id × (rules.shape.partitions ≤ partition_of id)
Follows rules before operation begun outcome = OfRequest rules before operation begun outcome
