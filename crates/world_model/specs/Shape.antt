-- The shape of a cluster, and where replicas stand.
use Rattle.std.specs.Prelude.{ℕ, ◌+◌, ◌≤◌, ◌%◌, ◌==◌, Option}
use Rattle.world_model.specs.declared.shape.Shape.{Shape}
use Rattle.world_model.specs.Lists.{first_below}

-- how many replicas an operation may need
pub record IsNeed (shape : Shape) (need : ℕ) : Type 0 where
  pub some : 1 ≤ need
  pub most : need ≤ shape.replicas

-- A cluster has 1 to 9 nodes, 1 to 64 partitions, and as many replicas of each as nodes at most. Chunks have 64 to 4,194,304 bytes,
-- and a segment of a log 4,096 to 16,777,216, with room for a chunk and its record.
pub record IsShape (shape : Shape) : Type 0 where
  pub some_nodes : 1 ≤ shape.nodes
  pub nodes : shape.nodes ≤ 9
  pub some_replicas : 1 ≤ shape.replicas
  pub replicas : shape.replicas ≤ shape.nodes
  pub some_partitions : 1 ≤ shape.partitions
  pub partitions : shape.partitions ≤ 64
  pub put : IsNeed shape shape.put
  pub get : IsNeed shape shape.get
  pub delete : IsNeed shape shape.delete
  pub least_chunk : 64 ≤ shape.chunk
  pub chunk : shape.chunk ≤ 4194304
  pub least_segment : 4096 ≤ shape.log.segment
  pub room : shape.chunk + 1200 ≤ shape.log.segment
  pub segment : shape.log.segment ≤ 16777216
  pub some_segments : 2 ≤ shape.log.segments
  pub segments : shape.log.segments ≤ 64
  pub some_index : 2 ≤ shape.log.index
  pub index : shape.log.index ≤ 4096

-- the node of a partition's replica
abbrev pub node_of : Shape → ℕ → ℕ → ℕ
node_of shape partition replica = 1 + (partition + replica) % shape.nodes

-- the replica of a partition that stands on a node
abbrev pub replica_of : Shape → ℕ → ℕ → Option ℕ
replica_of shape partition node = first_below shape.replicas (λ replica. node_of shape partition replica == node)
