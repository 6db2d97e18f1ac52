-- A get is withheld, since its node is drained, and a second one breaks with the connection.
use Rattle.std.specs.Prelude.{true, false, [], ◌∷◌, Some, None}
use Rattle.model_examples.specs.Words.{BlobId, Cause, Outcome, Body, Frame, frame_text, Begun, Begin, End, Drain, Wait, Shape, Event, Send, Cut, Top, Marked, Aimed, Took, Given, Withheld, Decided, Record, shape_of, id_of, request, frame_of}

abbrev pub shape : Shape
shape = shape_of 1 1 1 1 1 1

abbrev pub id : BlobId
id = id_of 0 0 0

abbrev pub get : Begun
get = Begun.Get (Some id) None []

abbrev pub get_first : Frame
get_first = frame_of (request 1 1) 0 (Body.Get id)

abbrev pub get_second : Frame
get_second = frame_of (request 2 1) 0 (Body.Get id)

-- the newest first
abbrev pub lines : Record
lines =
    Marked (End 2 (Outcome.Unavailable id ((1, Cause.Broken) ∷ [])))
    ∷ Marked (End 1 (Outcome.Unavailable id ((1, Cause.Cancelled) ∷ [])))
    ∷ Marked (Wait None)
    ∷ Decided 2 (Outcome.Unavailable id ((1, Cause.Broken) ∷ []))
    ∷ Given (Event.Broken 1)
    ∷ Took (Cut 1)
    ∷ Took (Send 0 1 (frame_text get_second))
    ∷ Aimed (request 2 1) Top 0
    ∷ Marked (Begin 2 get)
    ∷ Marked (Drain 1 false)
    ∷ Decided 1 (Outcome.Unavailable id ((1, Cause.Cancelled) ∷ []))
    ∷ Withheld 1 get_first
    ∷ Aimed (request 1 1) Top 0
    ∷ Marked (Begin 1 get)
    ∷ Marked (Drain 1 true)
    ∷ []
