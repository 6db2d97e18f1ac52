use Rattle.std.proofs.Common.{Option, subst, sym}
use Rattle.quorum_op.specs.declared.outcome.Outcome.{Outcome}
use Rattle.operation.specs.Giving.{Gives}
use Rattle.operation.proofs.GivingLaws.{given_done}
use Rattle.put_op.specs.Puts.{PutTask, put_plan}
use Rattle.put_op.proofs.PutLaws.{polled}
use Rattle.put_op.proofs.put.PutOpOperation.poll.Goals as goal

pub returns-in-Some-clause-goes_on : goal.returns-in-Some-clause-goes_on
returns-in-Some-clause-goes_on c = λ calls h.
    let s = c.args.self.now in
    let task : PutTask = record { total = s.total; replicas = s.replicas; need = s.need; created = s.blob.created; ctype = s.blob.ctype; meta = s.blob.meta } in
    polled task s.drawn s.blob.body s.next s.stage s.course c.course-course.result calls
    (given_done (put_plan task) calls c.in-Some.outcome (subst (λ (o : Option Outcome). Gives (put_plan task) calls o) c.in-Some.is (c.outcome.ensures calls h)))
    (sym (c.course-course.ensures calls h)) h
