-- What a schedule is asked.
use Rattle.std.specs.Prelude.{ℕ}
use Rattle.world_model.specs.declared.moves.Move.{Move}
use Rattle.world_model.specs.declared.offers.Offer.{Offer}
use Rattle.world_model.specs.declared.offers.GivenMove.{GivenMove}

-- the move that was picked from so many nodes and partitions, and so many requests and replies in flight
abbrev pub given_move : (nodes partitions requests replies : ℕ) → Move → GivenMove
given_move nodes partitions requests replies chosen = record {
  offer = record { nodes = nodes; partitions = partitions; requests = requests; replies = replies };
  chosen = chosen;
}
