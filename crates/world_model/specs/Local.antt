-- One piece's requests, apart from all others.
use Rattle.std.specs.Prelude.{ℕ, Bool, true, false, ◌&&◌, List, filter, Option, Some, None}
use Rattle.quorum_op.specs.Tally.{Note, is_state, standing}
use Rattle.world_model.specs.declared.shape.Shape.{Shape}
use Rattle.world_model.specs.Record.{Item, Record}
use Rattle.world_model.specs.Notes.{Asked, asked, Ended, Piece, ends, end_with, entry_of, is_of, is_open, events_in, notes_of, says}
use Rattle.world_model.specs.Shape.{replica_of}

-- a piece's ends, also those behind its verdict
abbrev pub all_of : Shape → Piece → Record → List Ended
all_of shape piece record' = filter (λ ended. is_of piece ended.asked) (ends shape record')

-- a piece's requests that have not ended
abbrev pub open_of : Shape → Piece → Record → List Asked
open_of shape piece record' = filter (λ a. is_of piece a && is_open (all_of shape piece record') a) (asked record')

-- what an item does to an open request of a piece, by the piece's own notes
abbrev pub end_here : List Note → Item → Record → Asked → Option ℕ → Option Ended
end_here notes item before a None = None
end_here notes item before a (Some replica) = end_with a replica (says (is_state (standing notes replica)) item (events_in before) (entry_of a))

abbrev pub piece_end : Shape → Piece → Item → Record → Asked → Option Ended
piece_end shape piece item before a = end_here (notes_of shape piece before) item before a (replica_of shape a.partition a.node)

abbrev pub is_silent : Option Ended → Bool
is_silent None = true
is_silent (Some ended) = false
