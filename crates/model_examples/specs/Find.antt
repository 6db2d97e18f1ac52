-- A node asks another one what it hasn't seen, and merges the entry of the page that is gone. The entry that is held there carries nothing.
use Rattle.model_examples.specs.Openings.{Holding}
use Rattle.std.specs.Prelude.{true, false, List, [], ◌∷◌, Some}
use Rattle.model_examples.specs.Words.{Blob, BlobId, Reply, Cell, Page, FindToken, Body, Frame, frame_text, Answered, Shape, Send, Exec, Hand, Merge, Took, Record, shape_of, id_of, blob_of, pull, frame_of}

abbrev pub shape : Shape
shape = shape_of 2 2 1 1 2 1

abbrev pub gone_id : BlobId
gone_id = id_of 0 0 0

abbrev pub held_id : BlobId
held_id = id_of 0 0 1

abbrev pub stored : Blob
stored = blob_of (97 ∷ [])

-- node 1 has a delete and a blob that node 2 hasn't seen
abbrev pub opening : List Holding
opening =
    record { node = 1; partition = 0; id = gone_id; cell = Cell.Gone }
    ∷ record { node = 1; partition = 0; id = held_id; cell = Cell.Held stored }
    ∷ []

abbrev pub find : Frame
find = frame_of pull 0 (Body.Find 64 FindToken.Start)

abbrev pub page : Page
page = record { entries = record { id = gone_id; gone = true } ∷ record { id = held_id; gone = false } ∷ []; next = FindToken.Journal 2 }

abbrev pub answered : Answered
answered = record { request = record { from = 2; node = 1; frame = Some find }; reply = Reply.Page page }

-- the newest first
abbrev pub lines : Record
lines =
    Took (Merge 2 0 0 0 false)
    ∷ Took (Hand 0)
    ∷ Took (Exec 0 (Reply.Page page))
    ∷ Took (Send 2 1 (frame_text find))
    ∷ []
