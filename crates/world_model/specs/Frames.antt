-- Frames on the network.
use Rattle.std.specs.Prelude.{ℕ, List, Option, Some, None}
use Rattle.cell_model.specs.declared.ask.Ask.{Ask}
use Rattle.req_frame.specs.declared.frame.Body.{Body}
use Rattle.req_frame.specs.declared.frame.Body.TheVariants.{Put, Get, Peek, Delete, Find, Fetch, Answer}
use Rattle.req_frame.specs.declared.frame.Frame.{Frame}
use Rattle.req_frame.specs.Reading.{frame_of}

-- the frame that bytes on the network are, of the router or of a node
abbrev pub frame_in : List ℕ → Option Frame
frame_in bytes = frame_of bytes

-- what a replica is asked by a frame
abbrev pub ask_of : Body → Option Ask
ask_of (Put id b) = Some (Ask.Put id b)
ask_of (Get id) = Some (Ask.Get id)
ask_of (Peek id) = Some (Ask.Peek id)
ask_of (Delete id at) = Some (Ask.Delete id at)
ask_of (Find max token) = Some (Ask.Find token max)
ask_of (Fetch id) = Some (Ask.Get id)
ask_of (Answer r) = None
