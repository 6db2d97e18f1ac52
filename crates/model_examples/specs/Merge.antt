-- A put is in doubt at its second node, which is stopped and loses it, and then fetches the blob and merges it; once more in doubt, the next restart has it.
use Rattle.std.specs.Prelude.{ℕ, true, List, [], ◌∷◌, None}
use Rattle.model_examples.specs.Words.{Blob, BlobId, Reply, Outcome, Body, Frame, frame_text, Begun, Begin, End, Wait, Shape, Event, Send, Exec, Torn, Hand, Stop, Restart, Merge, Top, Marked, Drawn, Aimed, Took, Given, Decided, Record, shape_of, id_of, blob_of, request, pull, frame_of}

abbrev pub shape : Shape
shape = shape_of 2 2 1 1 2 2

abbrev pub id : BlobId
id = id_of 0 0 0

abbrev pub body : List ℕ
body = 97 ∷ 97 ∷ []

abbrev pub stored : Blob
stored = blob_of body

abbrev pub put : Begun
put = Begun.Put [] body 0 [] []

abbrev pub put_first : Frame
put_first = frame_of (request 1 1) 0 (Body.Put id stored)

abbrev pub put_second : Frame
put_second = frame_of (request 1 2) 0 (Body.Put id stored)

abbrev pub answer : Frame
answer = frame_of (request 1 1) 0 (Body.Answer Reply.Stored)

abbrev pub fetch : Frame
fetch = frame_of pull 0 (Body.Fetch id)

-- the newest first
abbrev pub lines : Record
lines =
    Took (Restart 2 (0 ∷ []))
    ∷ Given (Event.Broken 2)
    ∷ Took (Stop 2)
    ∷ Took (Merge 2 0 2 0 true)
    ∷ Took (Hand 2)
    ∷ Took (Exec 2 (Reply.Blob stored))
    ∷ Took (Send 2 1 (frame_text fetch))
    ∷ Took (Restart 2 [])
    ∷ Given (Event.Broken 2)
    ∷ Took (Stop 2)
    ∷ Marked (End 1 (Outcome.Put id))
    ∷ Marked (Wait None)
    ∷ Decided 1 (Outcome.Put id)
    ∷ Given (Event.Reply 1 (frame_text answer))
    ∷ Took (Hand 0)
    ∷ Took (Torn 1)
    ∷ Took (Exec 0 Reply.Stored)
    ∷ Took (Send 0 2 (frame_text put_second))
    ∷ Aimed (request 1 2) Top 0
    ∷ Took (Send 0 1 (frame_text put_first))
    ∷ Aimed (request 1 1) Top 0
    ∷ Drawn 1 Top 0 id stored
    ∷ Marked (Begin 1 put)
    ∷ []
