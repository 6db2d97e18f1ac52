use Rattle.std.proofs.Common.{◌≡◌, None, ◌==◌}
use Rattle.world_model.specs.Lists.{first_below}
use Rattle.world_model.specs.Shape.{node_of}
use Rattle.node_lab.proofs.one_node.has_replica.Given as goal

-- none of the replicas passed stands on the node
abbrev pub invariant-loop-replica : goal.invariant-loop-replica
invariant-loop-replica l = first_below l.replica (λ replica. node_of l.shape l.partition replica == l.node) ≡ None
