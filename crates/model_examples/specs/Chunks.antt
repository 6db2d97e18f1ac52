-- A blob of two chunks is put, and then two bytes across its chunks are read.
use Rattle.std.specs.Prelude.{ℕ, List, [], ◌∷◌, take, drop, Some, None}
use Rattle.model_examples.specs.Words.{Blob, BlobId, Reply, Outcome, Body, Frame, frame_text, Begun, Begin, End, Wait, Shape, Event, Send, Exec, Hand, Metadata, spell_metadata, Top, Chunk, Marked, Drawn, Aimed, Took, Given, Decided, Record, shape_of, id_of, blob_of, request, frame_of}

abbrev pub shape : Shape
shape = shape_of 1 1 1 1 1 1

abbrev pub first_id : BlobId
first_id = id_of 2 0 0

abbrev pub second_id : BlobId
second_id = id_of 2 0 1

abbrev pub top_id : BlobId
top_id = id_of 1 0 2

abbrev pub body : List ℕ
body = 0 ∷ 1 ∷ 2 ∷ 3 ∷ 4 ∷ 5 ∷ 6 ∷ 7 ∷ 8 ∷ 9 ∷ 10 ∷ 11 ∷ 12 ∷ 13 ∷ 14 ∷ 15 ∷ 16 ∷ 17 ∷ 18 ∷ 19 ∷ 20 ∷ 21 ∷ 22 ∷ 23 ∷ 24 ∷ 25 ∷ 26 ∷ 27 ∷ 28 ∷ 29 ∷ 30 ∷ 31 ∷ 32 ∷ 33 ∷ 34 ∷ 35 ∷ 36 ∷ 37 ∷ 38 ∷ 39 ∷ 40 ∷ 41 ∷ 42 ∷ 43 ∷ 44 ∷ 45 ∷ 46 ∷ 47 ∷ 48 ∷ 49 ∷ 50 ∷ 51 ∷ 52 ∷ 53 ∷ 54 ∷ 55 ∷ 56 ∷ 57 ∷ 58 ∷ 59 ∷ 60 ∷ 61 ∷ 62 ∷ 63 ∷ 64 ∷ []

abbrev pub first : Blob
first = blob_of (take 64 body)

abbrev pub second : Blob
second = blob_of (drop 64 body)

abbrev pub metadata : Metadata
metadata = record { total = 65; chunk = 64; ids = first_id ∷ second_id ∷ [] }

abbrev pub top : Blob
top = blob_of (spell_metadata metadata)

abbrev pub put : Begun
put = Begun.Put [] body 0 [] []

abbrev pub get : Begun
get = Begun.Get (Some top_id) (Some (63, 2)) []

abbrev pub put_first : Frame
put_first = frame_of (request 1 1) 0 (Body.Put first_id first)

abbrev pub put_second : Frame
put_second = frame_of (request 1 2) 0 (Body.Put second_id second)

abbrev pub put_top : Frame
put_top = frame_of (request 1 3) 0 (Body.Put top_id top)

abbrev pub stored_first : Frame
stored_first = frame_of (request 1 1) 0 (Body.Answer Reply.Stored)

abbrev pub stored_second : Frame
stored_second = frame_of (request 1 2) 0 (Body.Answer Reply.Stored)

abbrev pub stored_top : Frame
stored_top = frame_of (request 1 3) 0 (Body.Answer Reply.Stored)

abbrev pub get_top : Frame
get_top = frame_of (request 2 1) 0 (Body.Get top_id)

abbrev pub get_first : Frame
get_first = frame_of (request 2 2) 0 (Body.Get first_id)

abbrev pub get_second : Frame
get_second = frame_of (request 2 3) 0 (Body.Get second_id)

abbrev pub blob_top : Frame
blob_top = frame_of (request 2 1) 0 (Body.Answer (Reply.Blob top))

abbrev pub blob_first : Frame
blob_first = frame_of (request 2 2) 0 (Body.Answer (Reply.Blob first))

abbrev pub blob_second : Frame
blob_second = frame_of (request 2 3) 0 (Body.Answer (Reply.Blob second))

-- the newest first
abbrev pub lines : Record
lines =
    Marked (End 2 (Outcome.Bytes (63 ∷ 64 ∷ [])))
    ∷ Marked (Wait None)
    ∷ Decided 2 (Outcome.Bytes (63 ∷ 64 ∷ []))
    ∷ Given (Event.Reply 1 (frame_text blob_second))
    ∷ Took (Hand 5)
    ∷ Given (Event.Reply 1 (frame_text blob_first))
    ∷ Took (Hand 4)
    ∷ Took (Exec 5 (Reply.Blob second))
    ∷ Took (Exec 4 (Reply.Blob first))
    ∷ Took (Send 0 1 (frame_text get_second))
    ∷ Aimed (request 2 3) (Chunk 1) 0
    ∷ Took (Send 0 1 (frame_text get_first))
    ∷ Aimed (request 2 2) (Chunk 0) 0
    ∷ Given (Event.Reply 1 (frame_text blob_top))
    ∷ Took (Hand 3)
    ∷ Took (Exec 3 (Reply.Blob top))
    ∷ Took (Send 0 1 (frame_text get_top))
    ∷ Aimed (request 2 1) Top 0
    ∷ Marked (Begin 2 get)
    ∷ Marked (End 1 (Outcome.Put top_id))
    ∷ Marked (Wait None)
    ∷ Decided 1 (Outcome.Put top_id)
    ∷ Given (Event.Reply 1 (frame_text stored_top))
    ∷ Took (Hand 2)
    ∷ Took (Exec 2 Reply.Stored)
    ∷ Took (Send 0 1 (frame_text put_top))
    ∷ Aimed (request 1 3) Top 0
    ∷ Drawn 1 Top 0 top_id top
    ∷ Given (Event.Reply 1 (frame_text stored_second))
    ∷ Took (Hand 1)
    ∷ Given (Event.Reply 1 (frame_text stored_first))
    ∷ Took (Hand 0)
    ∷ Took (Exec 1 Reply.Stored)
    ∷ Took (Exec 0 Reply.Stored)
    ∷ Took (Send 0 1 (frame_text put_second))
    ∷ Aimed (request 1 2) (Chunk 1) 0
    ∷ Took (Send 0 1 (frame_text put_first))
    ∷ Aimed (request 1 1) (Chunk 0) 0
    ∷ Drawn 1 (Chunk 1) 0 second_id second
    ∷ Drawn 1 (Chunk 0) 0 first_id first
    ∷ Marked (Begin 1 put)
    ∷ []
