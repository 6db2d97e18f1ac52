-- The words that the records are written in.
use Rattle.std.specs.Prelude.{ℕ, ◌+◌, ◌*◌, List, [], ◌∷◌}
pub use Rattle.blob_id.specs.declared.blob.Blob.{Blob}
pub use Rattle.blob_id.specs.declared.id.BlobId.{BlobId}
pub use Rattle.cell_model.specs.declared.ask.Reply.{Reply}
pub use Rattle.cell_model.specs.declared.cell.Cell.{Cell}
pub use Rattle.find_token.specs.declared.page.Page.{Page}
pub use Rattle.find_token.specs.declared.token.FindToken.{FindToken}
pub use Rattle.quorum_op.specs.declared.cause.Cause.{Cause}
pub use Rattle.quorum_op.specs.declared.outcome.Outcome.{Outcome}
pub use Rattle.req_frame.specs.declared.frame.Body.{Body}
pub use Rattle.req_frame.specs.declared.frame.Frame.{Frame}
pub use Rattle.req_frame.specs.Spelling.{frame_text}
pub use Rattle.world_model.specs.declared.history.Begun.{Begun}
pub use Rattle.world_model.specs.declared.history.HistoryMark.TheVariants.{Begin, End, Cancel, Drain, Wait}
pub use Rattle.world_model.specs.declared.shape.Shape.{Shape}
pub use Rattle.world_model.specs.declared.step.Event.{Event}
pub use Rattle.world_model.specs.declared.step.Step.TheVariants.{Send, Refused, Exec, Torn, Hand, Cut, Stop, Restart, Merge}
pub use Rattle.world_model.specs.Pieces.{Metadata, spell_metadata}
pub use Rattle.world_model.specs.World.{Answered}
pub use Rattle.world_model.specs.Record.{Top, Chunk, Marked, Drawn, Aimed, Took, Given, Withheld, Decided, Record}

-- small clusters
abbrev pub shape_of : (nodes replicas partitions put get delete : ℕ) → Shape
shape_of nodes replicas partitions put get delete =
    record { nodes = nodes; replicas = replicas; partitions = partitions; put = put; get = get; delete = delete; chunk = 64; log = record { segment = 1048576; segments = 8; index = 256 } }

-- the id of a kind, in a partition below 256, with the last byte of its UUID
abbrev pub id_of : (kind partition last : ℕ) → BlobId
id_of kind partition last = 1 ∷ kind ∷ 0 ∷ partition ∷ 0 ∷ 0 ∷ 0 ∷ 0 ∷ 0 ∷ 0 ∷ 64 ∷ 0 ∷ 128 ∷ 0 ∷ 0 ∷ 0 ∷ 0 ∷ 0 ∷ 0 ∷ last ∷ []

abbrev pub blob_of : List ℕ → Blob
blob_of body = record { created = 0; ctype = []; meta = []; body = body }

-- the correlation of a request of an operation, and that of a pull
abbrev pub request : (operation number : ℕ) → ℕ
request operation number = 4294967296 * operation + number

abbrev pub pull : ℕ
pull = 9223372036854776064

abbrev pub frame_of : (correlation partition : ℕ) → Body → Frame
frame_of correlation partition body = record { correlation = correlation; partition = partition; body = body }
