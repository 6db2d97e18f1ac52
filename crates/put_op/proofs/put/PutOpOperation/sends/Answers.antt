use Rattle.std.proofs.Common.{sym, ◌∙◌}
use Rattle.put_op.proofs.put.PutOpOperation.sends.Goals as goal

pub returns-in-Pending-clause-adds : goal.returns-in-Pending-clause-adds
returns-in-Pending-clause-adds c = λ calls h. c.store.ensures.adds calls c.args.order.now (sym (c.course.ensures calls h) ∙ c.in-Pending.is) h

pub returns-in-Pending-clause-goes_on : goal.returns-in-Pending-clause-goes_on
returns-in-Pending-clause-goes_on c = λ calls h. c.store.ensures.goes_on calls c.args.order.now (sym (c.course.ensures calls h) ∙ c.in-Pending.is) h

pub returns-in-Failed-clause-adds : goal.returns-in-Failed-clause-adds
returns-in-Failed-clause-adds c = λ calls h. c.give_up.ensures.adds calls c.args.order.now (sym (c.course.ensures calls h) ∙ c.in-Failed.is) h

pub returns-in-Failed-clause-goes_on : goal.returns-in-Failed-clause-goes_on
returns-in-Failed-clause-goes_on c = λ calls h. c.give_up.ensures.goes_on calls c.args.order.now (sym (c.course.ensures calls h) ∙ c.in-Failed.is) h
