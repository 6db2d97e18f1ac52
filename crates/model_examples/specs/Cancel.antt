-- A get of a chunk is refused, and a put is cancelled, whose end stands while the get has none. The put gives its id up behind its end.
use Rattle.std.specs.Prelude.{[], ◌∷◌, Some, None}
use Rattle.model_examples.specs.Words.{Blob, BlobId, Outcome, Body, Frame, frame_text, Begun, Begin, End, Cancel, Wait, Shape, Send, Top, Marked, Drawn, Aimed, Took, Decided, Record, shape_of, id_of, blob_of, request, frame_of}

abbrev pub shape : Shape
shape = shape_of 1 1 1 1 1 1

abbrev pub chunk_id : BlobId
chunk_id = id_of 2 0 7

abbrev pub put_id : BlobId
put_id = id_of 0 0 0

abbrev pub stored : Blob
stored = blob_of (0 ∷ [])

abbrev pub get : Begun
get = Begun.Get (Some chunk_id) None []

abbrev pub put : Begun
put = Begun.Put [] (0 ∷ []) 0 [] []

abbrev pub put_frame : Frame
put_frame = frame_of (request 2 1) 0 (Body.Put put_id stored)

abbrev pub delete_frame : Frame
delete_frame = frame_of (request 2 2) 0 (Body.Delete put_id 0)

-- the newest first
abbrev pub lines : Record
lines =
    Marked (End 1 Outcome.NotWhole)
    ∷ Marked (Wait None)
    ∷ Took (Send 0 1 (frame_text delete_frame))
    ∷ Marked (End 2 Outcome.Cancelled)
    ∷ Decided 2 Outcome.Cancelled
    ∷ Marked (Cancel 2)
    ∷ Took (Send 0 1 (frame_text put_frame))
    ∷ Aimed (request 2 1) Top 0
    ∷ Drawn 2 Top 0 put_id stored
    ∷ Marked (Begin 2 put)
    ∷ Decided 1 Outcome.NotWhole
    ∷ Marked (Begin 1 get)
    ∷ []
