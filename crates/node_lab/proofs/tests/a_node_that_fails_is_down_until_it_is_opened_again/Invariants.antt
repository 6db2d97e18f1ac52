use Rattle.std.proofs.Common.{IsSome}
use Rattle.node_lab.proofs.tests.a_node_that_fails_is_down_until_it_is_opened_again.Given as goal

-- the nodes stay open
abbrev pub invariant-loop-at : goal.invariant-loop-at
invariant-loop-at g l = IsSome l.nodes.shape
