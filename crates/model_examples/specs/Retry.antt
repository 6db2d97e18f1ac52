-- A put finds its first node stopped, gives its first id up, and is stored by its second attempt.
use Rattle.std.specs.Prelude.{ℕ, List, [], ◌∷◌, None}
use Rattle.model_examples.specs.Words.{Blob, BlobId, Reply, Outcome, Body, Frame, frame_text, Begun, Begin, End, Wait, Shape, Event, Send, Refused, Exec, Hand, Stop, Top, Marked, Drawn, Aimed, Took, Given, Decided, Record, shape_of, id_of, blob_of, request, frame_of}

abbrev pub shape : Shape
shape = shape_of 2 1 2 1 1 1

abbrev pub first_id : BlobId
first_id = id_of 0 0 0

abbrev pub second_id : BlobId
second_id = id_of 0 1 1

abbrev pub body : List ℕ
body = 97 ∷ 97 ∷ []

abbrev pub stored : Blob
stored = blob_of body

abbrev pub put : Begun
put = Begun.Put [] body 0 [] []

abbrev pub put_first : Frame
put_first = frame_of (request 1 1) 0 (Body.Put first_id stored)

abbrev pub put_second : Frame
put_second = frame_of (request 1 2) 1 (Body.Put second_id stored)

abbrev pub delete_first : Frame
delete_first = frame_of (request 1 3) 0 (Body.Delete first_id 0)

abbrev pub answer : Frame
answer = frame_of (request 1 2) 1 (Body.Answer Reply.Stored)

-- the newest first
abbrev pub lines : Record
lines =
    Marked (End 1 (Outcome.Put second_id))
    ∷ Marked (Wait None)
    ∷ Decided 1 (Outcome.Put second_id)
    ∷ Given (Event.Reply 2 (frame_text answer))
    ∷ Took (Hand 0)
    ∷ Took (Exec 0 Reply.Stored)
    ∷ Took (Refused 1 (frame_text delete_first))
    ∷ Took (Send 0 2 (frame_text put_second))
    ∷ Aimed (request 1 2) Top 1
    ∷ Drawn 1 Top 1 second_id stored
    ∷ Took (Refused 1 (frame_text put_first))
    ∷ Aimed (request 1 1) Top 0
    ∷ Drawn 1 Top 0 first_id stored
    ∷ Marked (Begin 1 put)
    ∷ Given (Event.Broken 1)
    ∷ Took (Stop 1)
    ∷ []
