use Rattle.put_op.proofs.StepLaws.{wants_first}
use Rattle.put_op.proofs.put.PutOp.new.Goals as goal

pub returns-clause-wanted : goal.returns-clause-wanted
returns-clause-wanted c = λ task calls same h. wants_first _ task _ 1 _ calls same h
