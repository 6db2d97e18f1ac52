use Rattle.std.proofs.Common.{refl}
use Rattle.operation.specs.Calls.{Replied}
use Rattle.put_op.specs.Puts.{PutTask}
use Rattle.put_op.proofs.StepLaws.{hears}
use Rattle.put_op.proofs.put.PutOpOperation.on_reply.Goals as goal

pub returns-in-Some-clause-goes_on : goal.returns-in-Some-clause-goes_on
returns-in-Some-clause-goes_on c = λ calls h.
    let s = c.args.self.now in
    let task : PutTask = record { total = s.total; replicas = s.replicas; need = s.need; created = s.blob.created; ctype = s.blob.ctype; meta = s.blob.meta } in
    hears task s.drawn c.in-Some.drawn c.on_reply.new.self s.blob.body s.next s.stage s.course (Replied c.args.request c.args.reply) calls c.in-Some.is refl refl refl c.on_reply.ensures.same (λ t piece. c.on_reply.ensures.goes_on t calls piece) h
