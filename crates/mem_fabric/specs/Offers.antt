-- What a schedule is asked: the numbers of the shape, and how much is in flight.
use Rattle.std.specs.Prelude.{ℕ, List, [], ◌∷◌, ◌++◌, length, Option, Some, None}
use Rattle.world_model.specs.declared.moves.Move.{Move}
use Rattle.world_model.specs.declared.offers.GivenMove.{GivenMove}
use Rattle.world_model.specs.declared.shape.Shape.{Shape}
use Rattle.world_model.specs.Offers.{given_move}
use Rattle.mem_fabric.specs.Network.{Network}

abbrev pub nodes_in : Option Shape → ℕ
nodes_in None = 0
nodes_in (Some shape) = shape.nodes

abbrev pub partitions_in : Option Shape → ℕ
partitions_in None = 0
partitions_in (Some shape) = shape.partitions

-- the move, as it is picked from what is there
abbrev pub picked_in : Network → Move → GivenMove
picked_in n chosen = given_move (nodes_in n.shape) (partitions_in n.shape) (length n.requests) (length n.replies) chosen
