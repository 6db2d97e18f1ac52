-- The record of a session: what was written, what was done, and what was given, the newest first.
use Rattle.std.specs.Prelude.{ℕ, ◌+◌, Bool, true, false, cond, List, [], ◌∷◌}
use Rattle.blob_id.specs.declared.blob.Blob.{Blob}
use Rattle.blob_id.specs.declared.id.BlobId.{BlobId}
use Rattle.quorum_op.specs.declared.outcome.Outcome.{Outcome}
use Rattle.req_frame.specs.declared.frame.Frame.{Frame}
use Rattle.world_model.specs.declared.history.HistoryMark.{HistoryMark}
use Rattle.world_model.specs.declared.step.Event.{Event}
use Rattle.world_model.specs.declared.step.Step.{Step}

-- A part of a blob: the blob that has its id, which lists the chunks where there are some, or the chunk at a place of the list. It is a
-- place and not an id, since a list may name one id twice.
pub data Part : Type 0 where
  Top : Part
  Chunk : ℕ → Part

pub data Item : Type 0 where
  Marked : HistoryMark → Item  -- a mark other than Drew
  Drawn : (operation : ℕ) → Part → (attempt : ℕ) → BlobId → Blob → Item  -- the mark Drew, with the attempt that it is for and the blob to be put under the id
  Aimed : (correlation : ℕ) → Part → (attempt : ℕ) → Item  -- which part the request of this correlation, not yet sent, is for
  Took : Step → Item
  Given : Event → Item
  Withheld : (node : ℕ) → Frame → Item  -- a request that wasn't sent, since its node is drained
  Decided : (operation : ℕ) → Outcome → Item  -- the operation became done so

abbrev pub Record : Type 0
Record = List Item

-- a line of the script, and no answer to one
abbrev pub is_line : HistoryMark → Bool
is_line (HistoryMark.Drew operation id) = false
is_line (HistoryMark.End operation outcome) = false
is_line _ = true

-- how many events and script lines there were
abbrev pub turns_in : Record → ℕ
turns_in [] = 0
turns_in (Given event ∷ before) = 1 + turns_in before
turns_in (Marked mark ∷ before) = cond (is_line mark) (1 + turns_in before) (turns_in before)
turns_in (_ ∷ before) = turns_in before
