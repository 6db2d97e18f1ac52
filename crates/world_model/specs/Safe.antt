-- What is safe.
use Rattle.std.specs.Prelude.{◌≡◌, ◌≢◌, ℕ, ◌+◌, ◌-◌, ◌<◌, ◌≤◌, Bool, true, false, ◌⊎◌, List, [], ◌∷◌, length, min, Option, Some}
use Rattle.blob_id.specs.declared.blob.Blob.{Blob}
use Rattle.blob_id.specs.declared.id.BlobId.{BlobId}
use Rattle.blob_id.specs.Id.{partition_of}
use Rattle.cell_model.specs.declared.cell.Cell.{Cell}
use Rattle.quorum_op.specs.declared.outcome.Outcome.{Outcome}
use Rattle.quorum_op.specs.Counts.{count_below}
use Rattle.world_model.specs.declared.history.Begun.{Begun}
use Rattle.world_model.specs.declared.history.HistoryMark.TheVariants.{End}
use Rattle.world_model.specs.declared.shape.Shape.{Shape}
use Rattle.world_model.specs.Lists.{Has, Earlier, Each}
use Rattle.world_model.specs.Notes.{clock_of}
use Rattle.world_model.specs.Outcomes.{Began, BeganAt, Follows, IsRead, IsWhole, IsWithin}
use Rattle.world_model.specs.Pieces.{is_simple, is_composite, Metadata, metadata_of, listed, joined_parts, Window, window_of, seen, touches, past}
use Rattle.world_model.specs.Record.{Part, Top, Item, Marked, Drawn, Record}
use Rattle.world_model.specs.Rules.{Rules}
use Rattle.world_model.specs.Shape.{node_of}
use Rattle.world_model.specs.World.{Cells, world}

-- Held cells of one id are equal, in all replicas
abbrev pub IsSound : Cells → Type 0
IsSound cells = (n p m q : ℕ) (id : BlobId) (b c : Blob) → cells n p id ≡ Cell.Held b → cells m q id ≡ Cell.Held c → b ≡ c

-- the id was drawn in this record, by some put for some part
abbrev pub WasDrawn : Record → BlobId → Type 0
WasDrawn record' id = (operation : ℕ) × (part : Part) × (attempt : ℕ) × (blob : Blob) × Has record' (Drawn operation part attempt id blob)

-- the id is drawn for the first time
abbrev pub DrawsFresh : Item → Record → Type 0
DrawsFresh (Drawn operation part attempt id blob) before = WasDrawn before id → ⊥
DrawsFresh _ before = Unit {0}

-- no id is drawn twice, and none that is drawn is named at opening, by a cell or in metadata
pub record DrawsNew (opening : Cells) (record' : Record) : Type 0 where
  pub once : Each DrawsFresh record'
  pub cells : (id : BlobId) → WasDrawn record' id → (n p : ℕ) → opening n p id ≡ Cell.Absent
  pub listed : (id : BlobId) → WasDrawn record' id → (n p : ℕ) (top : BlobId) (held : Blob) → opening n p top ≡ Cell.Held held → Has (listed top held) id → ⊥

-- what is stored under an id: what a put drew it for, or what was held at opening
abbrev pub IsStored : Cells → Record → BlobId → Blob → Type 0
IsStored opening record' id blob =
    ((operation : ℕ) × (part : Part) × (attempt : ℕ) × Has record' (Drawn operation part attempt id blob)) ⊎ ((n : ℕ) × (p : ℕ) × (opening n p id ≡ Cell.Held blob))

-- the put that drew the id for its whole blob, and what it was begun with
pub record PutUnder (record' : Record) (id : BlobId) (body ctype meta : List ℕ) (created : ℕ) : Type 0 where
  pub operation : ℕ
  pub attempt : ℕ
  pub blob : Blob
  pub drew : Has record' (Drawn operation Top attempt id blob)
  pub kind : IsWhole id
  pub file : List ℕ
  pub ttl : ℕ
  pub then : Record
  pub began : BeganAt record' operation (Begun.Put file body ttl ctype meta) then
  pub clock : created ≡ clock_of then

-- the parts have the listed sizes, and each one that the window touches was held at opening under its id
abbrev pub IsHeldIn : Cells → ℕ → ℕ → Window → List BlobId → List (List ℕ) → Type 0
IsHeldIn opening chunk left w [] [] = Unit {0}
IsHeldIn opening chunk left w (id ∷ ids) (part ∷ rest) =
    (length part ≡ min chunk left)
    × (touches w (length part) ≡ true → (n : ℕ) × (p : ℕ) × (blob : Blob) × (opening n p id ≡ Cell.Held blob) × (blob.body ≡ part))
    × IsHeldIn opening chunk (left - chunk) (past w (length part)) ids rest
IsHeldIn opening chunk left w _ _ = ⊥

-- the bytes are those that a range shows of what a put put under the id
abbrev pub ShowsPut : Record → BlobId → Option (ℕ × ℕ) → List ℕ → Type 0
ShowsPut record' id range bytes =
    (body : List ℕ) × (ctype : List ℕ) × (meta : List ℕ) × (created : ℕ) × PutUnder record' id body ctype meta created
    × IsWithin (window_of range (length body)) (length body) × (bytes ≡ seen (window_of range (length body)) body)

-- or of what was held under the id at opening
abbrev pub ShowsHeld : Cells → BlobId → Option (ℕ × ℕ) → List ℕ → Type 0
ShowsHeld opening id range bytes =
    (n : ℕ) × (p : ℕ) × (blob : Blob) × (opening n p id ≡ Cell.Held blob)
    × ((is_simple id ≡ true) × IsWithin (window_of range (length blob.body)) (length blob.body) × (bytes ≡ seen (window_of range (length blob.body)) blob.body)
    ⊎ (is_composite id ≡ true) × ((m : Metadata) × (contents : List (List ℕ)) × (metadata_of blob.body ≡ Some m) × IsWithin (window_of range m.total) m.total
    × IsHeldIn opening m.chunk m.total (window_of range m.total) m.ids contents × (bytes ≡ seen (window_of range m.total) (joined_parts contents))))

-- the size and properties of what a put put under the id
abbrev pub InfoOfPut : Record → BlobId → ℕ → ℕ → List ℕ → List ℕ → Type 0
InfoOfPut record' id size created ctype meta = (body : List ℕ) × PutUnder record' id body ctype meta created × (size ≡ length body)

-- or of what was held under the id at opening
abbrev pub InfoOfHeld : Cells → BlobId → ℕ → ℕ → List ℕ → List ℕ → Type 0
InfoOfHeld opening id size created ctype meta =
    (n : ℕ) × (p : ℕ) × (blob : Blob) × (opening n p id ≡ Cell.Held blob) × (created ≡ blob.created) × (ctype ≡ blob.ctype) × (meta ≡ blob.meta)
    × ((is_simple id ≡ true) × (size ≡ length blob.body) ⊎ (is_composite id ≡ true) × ((m : Metadata) × (metadata_of blob.body ≡ Some m) × (size ≡ m.total)))

abbrev pub is_held : Cell → Bool
is_held Cell.Absent = false
is_held _ = true

abbrev pub is_gone : Cell → Bool
is_gone Cell.Gone = true
is_gone _ = false

-- how many replicas of an id pass
abbrev pub replicas_so : Shape → Cells → BlobId → (Cell → Bool) → ℕ
replicas_so shape cells id test = count_below shape.replicas (λ replica. test (cells (node_of shape (partition_of id) replica) (partition_of id) id))

-- a piece of an id: itself, or a chunk that the blob stored under it lists
abbrev pub IsPieceOf : Cells → Record → BlobId → BlobId → Type 0
IsPieceOf opening record' id piece = (piece ≡ id) ⊎ ((blob : Blob) × IsStored opening record' id blob × Has (listed id blob) piece)

-- a get or info that is ok gives the content of its id
abbrev pub GivesContent : Cells → Item → Record → Type 0
GivesContent opening (Marked (End operation (Outcome.Bytes bytes))) before =
    (id : BlobId) × (range : Option (ℕ × ℕ)) × (file : List ℕ) × Began before operation (Begun.Get (Some id) range file) × (ShowsPut before id range bytes ⊎ ShowsHeld opening id range bytes)
GivesContent opening (Marked (End operation (Outcome.Info size created ctype meta))) before =
    (id : BlobId) × Began before operation (Begun.Info (Some id)) × (InfoOfPut before id size created ctype meta ⊎ InfoOfHeld opening id size created ctype meta)
GivesContent opening _ before = Unit {0}

abbrev pub is_ok_read : Outcome → Bool
is_ok_read (Outcome.Bytes bytes) = true
is_ok_read (Outcome.Info size created ctype meta) = true
is_ok_read _ = false

-- the get or info reads this id
abbrev pub ReadsId : Begun → BlobId → Type 0
ReadsId (Begun.Get other range file) id = other ≡ Some id
ReadsId (Begun.Info other) id = other ≡ Some id
ReadsId _ id = ⊥

-- no get or info begun after the ok of a delete of its id ends ok
abbrev pub StaysDeleted : Item → Record → Type 0
StaysDeleted (Marked (End operation outcome)) before =
    is_ok_read outcome ≡ true → (begun : Begun) (id : BlobId) (then : Record) (earlier : ℕ) → BeganAt before operation begun then → ReadsId begun id
    → Began then earlier (Begun.Delete (Some id)) → Has then (Marked (End earlier Outcome.Deleted2)) → ⊥
StaysDeleted _ before = Unit {0}

-- no get or info of an id that was Gone at more than R - G replicas at opening ends ok
abbrev pub StaysGone : Shape → Cells → Item → Record → Type 0
StaysGone shape opening (Marked (End operation outcome)) before =
    is_ok_read outcome ≡ true → (begun : Begun) (id : BlobId) → Began before operation begun → ReadsId begun id
    → replicas_so shape opening id is_gone + shape.get ≤ shape.replicas
StaysGone shape opening _ before = Unit {0}

-- the outcome says that something isn't there
abbrev pub is_missing : Outcome → Bool
is_missing Outcome.NotFound = true
is_missing (Outcome.Missing chunk) = true
is_missing _ = false

-- no get or info begun after the ok of the put that answered its id ends as not found or missing
abbrev pub StaysFound : Item → Record → Type 0
StaysFound (Marked (End operation outcome)) before =
    is_missing outcome ≡ true → (begun : Begun) (id : BlobId) (then : Record) (earlier : ℕ) → BeganAt before operation begun then → ReadsId begun id
    → Has then (Marked (End earlier (Outcome.Put id))) → ⊥
StaysFound _ before = Unit {0}

-- a delete was begun of an id that shares a piece with this one
abbrev pub DeleteBegan : Cells → Record → BlobId → Type 0
DeleteBegan opening before id =
    (operation : ℕ) × (top : BlobId) × (piece : BlobId) × Began before operation (Begun.Delete (Some top)) × IsPieceOf opening before top piece × IsPieceOf opening before id piece

-- the put that drew the id has drawn a further id since
abbrev pub DrewSince : Record → BlobId → Type 0
DrewSince before id =
    (operation : ℕ) × (part : Part) × (attempt : ℕ) × (blob : Blob) × (p : Part) × (a : ℕ) × (other : BlobId) × (b : Blob) × (then : Record)
    × Earlier (Drawn operation p a other b ∷ then) before × Has then (Drawn operation part attempt id blob)

-- the put that drew the id has ended otherwise than ok
abbrev pub PutFailed : Record → BlobId → Type 0
PutFailed before id =
    (operation : ℕ) × (part : Part) × (attempt : ℕ) × (blob : Blob) × (outcome : Outcome)
    × Has before (Drawn operation part attempt id blob) × Has before (Marked (End operation outcome)) × ((id' : BlobId) → outcome ≢ Outcome.Put id')

-- a piece of the id was gone at some replica at opening
abbrev pub WasGone : Cells → Record → BlobId → Type 0
WasGone opening before id = (n : ℕ) × (p : ℕ) × (piece : BlobId) × IsPieceOf opening before id piece × (opening n p piece ≡ Cell.Gone)

-- why an id may be gone
abbrev pub IsLicensed : Cells → Record → BlobId → Type 0
IsLicensed opening before id = DeleteBegan opening before id ⊎ DrewSince before id ⊎ PutFailed before id ⊎ WasGone opening before id

-- a get or info ends deleted only where its id may be gone
abbrev pub DeletedByLicense : Cells → Item → Record → Type 0
DeletedByLicense opening (Marked (End operation Outcome.Deleted)) before =
    (begun : Begun) × (id : BlobId) × Began before operation begun × ReadsId begun id × IsLicensed opening before id
DeletedByLicense opening _ before = Unit {0}

-- what a put stored and a delete removed is so at enough replicas, from the ok on
pub record Kept (shape : Shape) (opening : Cells) (record' : Record) : Type 0 where
  pub stored : (operation attempt : ℕ) (id : BlobId) (blob : Blob) (piece : BlobId) → Has record' (Marked (End operation (Outcome.Put id))) → Has record' (Drawn operation Top attempt id blob)
      → (piece ≡ id) ⊎ Has (listed id blob) piece → shape.put ≤ replicas_so shape (world opening record').cells piece is_held
  pub removed : (operation : ℕ) (id : BlobId) → Began record' operation (Begun.Delete (Some id)) → Has record' (Marked (End operation Outcome.Deleted2))
      → shape.delete ≤ replicas_so shape (world opening record').cells id is_gone
  pub removed_chunks : (operation : ℕ) (id : BlobId) (blob : Blob) (chunk : BlobId) → Began record' operation (Begun.Delete (Some id)) → Has record' (Marked (End operation Outcome.Deleted2))
      → IsRead shape record' operation Top id blob → Has (listed id blob) chunk → shape.delete ≤ replicas_so shape (world opening record').cells chunk is_gone

-- a put that is ok answers an id that it drew itself, for its whole blob
abbrev pub AnswersDrawn : Item → Record → Type 0
AnswersDrawn (Marked (End operation (Outcome.Put id))) before = IsWhole id × ((attempt : ℕ) × (blob : Blob) × Has before (Drawn operation Top attempt id blob))
AnswersDrawn _ before = Unit {0}

-- each end follows from the notes that the record shows
abbrev pub EndFollows : Rules → Item → Record → Type 0
EndFollows rules (Marked (End operation outcome)) before = (begun : Begun) × Began before operation begun × Follows rules before operation begun outcome
EndFollows rules _ before = Unit {0}

pub record Safe (rules : Rules) (opening : Cells) (record' : Record) : Type 0 where
  pub content : Each (GivesContent opening) record'
  pub deleted : rules.shape.replicas < rules.shape.get + rules.shape.delete → Each StaysDeleted record'
  pub gone : Each (StaysGone rules.shape opening) record'
  pub found : rules.shape.replicas < rules.shape.get + rules.shape.put → Each StaysFound record'
  pub licensed : Each (DeletedByLicense opening) record'
  pub answers : Each AnswersDrawn record'
  pub follows : Each (EndFollows rules) record'
  pub kept : Kept rules.shape opening record'
  pub sound : IsSound (world opening record').cells
