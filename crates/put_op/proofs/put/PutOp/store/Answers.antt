use Rattle.put_op.specs.Puts.{PutTask}
use Rattle.put_op.proofs.StepLaws.{stores_now, was_stored}
use Rattle.put_op.proofs.put.PutOp.store.Goals as goal

pub returns-then-drawn-clause-adds : goal.returns-then-drawn-clause-adds
returns-then-drawn-clause-adds c = λ calls order pending h.
    let s = c.args.self.now in
    let task : PutTask = record { total = s.total; replicas = s.replicas; need = s.need; created = s.blob.created; ctype = s.blob.ctype; meta = s.blob.meta } in
    (was_stored task s.drawn c.in-Some.drawn s.blob.body s.next s.stage s.course calls order c.args.out.now.items c.in-Some.is c.if-drawn.true pending h).0

pub returns-then-drawn-clause-goes_on : goal.returns-then-drawn-clause-goes_on
returns-then-drawn-clause-goes_on c = λ calls order pending h.
    let s = c.args.self.now in
    let task : PutTask = record { total = s.total; replicas = s.replicas; need = s.need; created = s.blob.created; ctype = s.blob.ctype; meta = s.blob.meta } in
    (was_stored task s.drawn c.in-Some.drawn s.blob.body s.next s.stage s.course calls order c.args.out.now.items c.in-Some.is c.if-drawn.true pending h).1

pub returns-else-is_err-clause-goes_on : goal.returns-else-is_err-clause-goes_on
returns-else-is_err-clause-goes_on c = λ calls order pending h.
    let s = c.args.self.now in
    let task : PutTask = record { total = s.total; replicas = s.replicas; need = s.need; created = s.blob.created; ctype = s.blob.ctype; meta = s.blob.meta } in
    (stores_now task s.drawn c.in-Some.drawn c.send_along-self.new.asker s.blob.body s.next c.send_along-self.result s.stage s.course calls order c.replicas_below-replicas.result.now c.make_room.new.out.items c.send_along-self.new.out.items
    c.in-Some.is c.if-drawn.false c.replicas_below-replicas.ensures.numbers pending c.send_along-self.ensures.same (λ t piece numbers. c.send_along-self.ensures.sent t calls piece numbers) h).1
