use Rattle.std.proofs.Common.{rules}
use Rattle.node_lab.proofs.all_nodes.add_node.Goals as goal

pub returns-in_err-core-clause-place : goal.returns-in_err-core-clause-place
returns-in_err-core-clause-place g c = λ refusal is. c.in_err-core.ensures.place refusal (search rules)

pub returns-in_err-core-clause-refused : goal.returns-in_err-core-clause-refused
returns-in_err-core-clause-refused g c = λ refusal is. c.in_err-core.ensures.refused refusal (search rules)

pub returns-in_err-core-clause-failed : goal.returns-in_err-core-clause-failed
returns-in_err-core-clause-failed g c = λ is. c.in_err-core.ensures.failed (search rules)
