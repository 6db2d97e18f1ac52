use Rattle.std.proofs.Common.{ℕ, List, ap, length, ◌∙◌}
use Rattle.operation.proofs.AskingLaws.{numbers_upto}
use Rattle.operation.proofs.EachLaws.{upto_long}
use Rattle.operation.proofs.asking.replicas_below.Goals as goal

pub returns-clause-numbers : goal.returns-clause-numbers
returns-clause-numbers c = numbers_upto c.args.replicas c.requires.few

pub returns-clause-len : goal.returns-clause-len
returns-clause-len c = ap (λ (l : List ℕ). length l) (numbers_upto c.args.replicas c.requires.few) ∙ upto_long c.args.replicas
