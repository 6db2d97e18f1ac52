-- What a frame asks of a replica, as the code reads it.
use Rattle.std.specs.Prelude.{◌≡◌, Option, Some, None}
use Rattle.cell_model.specs.Asks.{AsksInRange}
use Rattle.node_core.specs.Requests.{IsRequested}
use Rattle.req_frame.specs.declared.frame.Frame.{Frame}
use Rattle.req_frame.specs.Spelling.{IsFrame}
use Rattle.mem_fabric.specs.declared.asking.Question.{Question}
use Rattle.world_model.specs.Frames.{ask_of}

-- the question that a frame asks
pub record IsQuestion (asked : Frame) (question : Question) : Type 0 where
  pub ask : ask_of asked.body ≡ Some question.ask
  pub range : AsksInRange question.ask
  pub requested : IsRequested question.ask
  pub correlation : question.correlation ≡ asked.correlation
  pub partition : question.partition ≡ asked.partition

-- a frame that asks nothing of a replica, or no frame
abbrev pub AsksNothing : Option Frame → Type 0
AsksNothing None = Unit {0}
AsksNothing (Some f) = ask_of f.body ≡ None

-- what bytes ask, by the frame that they are
abbrev pub Reads : Option Frame → Option Question → Type 0
Reads frame None = AsksNothing frame
Reads frame (Some question) = (asked : Frame) × (frame ≡ Some asked) × IsFrame asked × IsQuestion asked question
