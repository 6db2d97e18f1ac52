-- Nodes and partitions, as words name them, and which node holds which partition.
use Rattle.std.specs.Prelude.{ℕ, List, Bool, not, ◌&&◌, ◌==◌, nat_le, nat_lt, Option, None, Some, option_and_then, if◌then◌else◌}
use Rattle.std.specs.List.{list_any, range_with_len}
use Rattle.session_text.specs.Texts.{number_at}
use Rattle.world_model.specs.declared.shape.Shape.{Shape}
use Rattle.world_model.specs.Shape as world

-- x where the test holds
abbrev pub when : {A : Type 0} → Bool → A → Option A
when test x = if test then Some x else None

abbrev pub node_within : Shape → ℕ → Option ℕ
node_within shape number = when (nat_le 1 number && nat_le number shape.nodes) number

-- the node of the shape that a word names; nodes are numbered from 1
abbrev pub node_of : Shape → List ℕ → Option ℕ
node_of shape word = option_and_then (node_within shape) (number_at word)

abbrev pub partition_within : Shape → ℕ → Option ℕ
partition_within shape number = when (nat_lt number shape.partitions) number

-- the partition of the shape that a word names; partitions are numbered from 0
abbrev pub partition_of : Shape → List ℕ → Option ℕ
partition_of shape word = option_and_then (partition_within shape) (number_at word)

-- a replica of the partition stands on the node
abbrev pub holds : Shape → ℕ → ℕ → Bool
holds shape partition node = list_any (λ replica. world.node_of shape partition replica == node) (range_with_len 0 shape.replicas)

-- the nodes differ and hold the partition
abbrev pub are_peers : Shape → ℕ → ℕ → ℕ → Bool
are_peers shape partition a b = not (a == b) && (holds shape partition a && holds shape partition b)
