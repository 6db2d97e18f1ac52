use Rattle.std.proofs.Common.{◌≡◌, true, ◌==◌, arith}
use Rattle.std.proofs.lemmas.Bool.Decides.{nat_tests}
use Rattle.world_model.specs.Shape.{node_of}
use Rattle.lab_nodes.proofs.Standing.{found_below}
use Rattle.lab_nodes.proofs.places.stands_on.Goals as goal

pub returns-then-node_of-node : goal.returns-then-node_of-node
returns-then-node_of-node c =
    let is : (node_of c.args.shape.now c.args.partition c.loop-replica.replica == c.args.node) ≡ true = grind (arith, nat_tests, c.node_of.ensures, c.if-node_of-node.true) in
    found_below (λ replica. node_of c.args.shape.now c.args.partition replica == c.args.node) c.args.shape.now.replicas c.loop-replica.replica c.loop-replica-test.true is
