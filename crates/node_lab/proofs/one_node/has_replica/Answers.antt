use Rattle.std.proofs.Common.{◌≡◌, true, ◌==◌, arith}
use Rattle.std.proofs.lemmas.Bool.Decides.{nat_tests}
use Rattle.std.specs.Prelude.{nat_lt}
use Rattle.world_model.specs.Shape.{node_of}
use Rattle.node_lab.proofs.HostLemmas.{found_below}
use Rattle.node_lab.proofs.one_node.has_replica.Goals as goal

pub returns-then-node_of-node : goal.returns-then-node_of-node
returns-then-node_of-node c =
    let is : (node_of c.args.shape.now c.args.partition c.loop-replica.replica == c.args.node) ≡ true = grind (arith, nat_tests, c.node_of.ensures, c.if-node_of-node.true) in
    let within : nat_lt c.args.partition c.args.shape.now.partitions ≡ true = grind (arith, nat_tests, c.requires.partition) in
    let found = found_below (λ replica. node_of c.args.shape.now c.args.partition replica == c.args.node) c.args.shape.now.replicas c.loop-replica.replica c.loop-replica-test.true is in
    rw within found
