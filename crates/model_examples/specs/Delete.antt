-- A blob is put and deleted, and a get of it then ends as deleted.
use Rattle.std.specs.Prelude.{[], ◌∷◌, Some, None}
use Rattle.model_examples.specs.Words.{Blob, BlobId, Reply, Outcome, Body, Frame, frame_text, Begun, Begin, End, Wait, Shape, Event, Send, Exec, Hand, Top, Marked, Drawn, Aimed, Took, Given, Decided, Record, shape_of, id_of, blob_of, request, frame_of}

abbrev pub shape : Shape
shape = shape_of 1 1 1 1 1 1

abbrev pub id : BlobId
id = id_of 0 0 0

abbrev pub stored : Blob
stored = blob_of (97 ∷ [])

abbrev pub put : Begun
put = Begun.Put [] (97 ∷ []) 0 [] []

abbrev pub delete : Begun
delete = Begun.Delete (Some id)

abbrev pub get : Begun
get = Begun.Get (Some id) None []

abbrev pub put_frame : Frame
put_frame = frame_of (request 1 1) 0 (Body.Put id stored)

abbrev pub delete_frame : Frame
delete_frame = frame_of (request 2 1) 0 (Body.Delete id 0)

abbrev pub get_frame : Frame
get_frame = frame_of (request 3 1) 0 (Body.Get id)

abbrev pub stored_frame : Frame
stored_frame = frame_of (request 1 1) 0 (Body.Answer Reply.Stored)

abbrev pub done_frame : Frame
done_frame = frame_of (request 2 1) 0 (Body.Answer Reply.Done)

abbrev pub gone_frame : Frame
gone_frame = frame_of (request 3 1) 0 (Body.Answer Reply.Gone)

-- the newest first
abbrev pub lines : Record
lines =
    Marked (End 3 Outcome.Deleted)
    ∷ Marked (Wait None)
    ∷ Decided 3 Outcome.Deleted
    ∷ Given (Event.Reply 1 (frame_text gone_frame))
    ∷ Took (Hand 2)
    ∷ Took (Exec 2 Reply.Gone)
    ∷ Took (Send 0 1 (frame_text get_frame))
    ∷ Aimed (request 3 1) Top 0
    ∷ Marked (Begin 3 get)
    ∷ Marked (End 2 Outcome.Deleted2)
    ∷ Marked (Wait None)
    ∷ Decided 2 Outcome.Deleted2
    ∷ Given (Event.Reply 1 (frame_text done_frame))
    ∷ Took (Hand 1)
    ∷ Took (Exec 1 Reply.Done)
    ∷ Took (Send 0 1 (frame_text delete_frame))
    ∷ Aimed (request 2 1) Top 0
    ∷ Marked (Begin 2 delete)
    ∷ Marked (End 1 (Outcome.Put id))
    ∷ Marked (Wait None)
    ∷ Decided 1 (Outcome.Put id)
    ∷ Given (Event.Reply 1 (frame_text stored_frame))
    ∷ Took (Hand 0)
    ∷ Took (Exec 0 Reply.Stored)
    ∷ Took (Send 0 1 (frame_text put_frame))
    ∷ Aimed (request 1 1) Top 0
    ∷ Drawn 1 Top 0 id stored
    ∷ Marked (Begin 1 put)
    ∷ []
