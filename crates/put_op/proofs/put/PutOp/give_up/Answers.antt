use Rattle.put_op.specs.Puts.{PutTask}
use Rattle.put_op.proofs.StepLaws.{gives_up_now, was_given_up}
use Rattle.put_op.proofs.put.PutOp.give_up.Goals as goal

pub returns-then-drawn-clause-adds : goal.returns-then-drawn-clause-adds
returns-then-drawn-clause-adds c = λ calls order failed h.
    let s = c.args.self.now in
    let task : PutTask = record { total = s.total; replicas = s.replicas; need = s.need; created = s.blob.created; ctype = s.blob.ctype; meta = s.blob.meta } in
    (was_given_up task s.drawn c.in-Some.drawn s.blob.body s.next s.stage s.course calls order c.args.out.now.items c.in-Some.is c.if-drawn.true failed h).0

pub returns-then-drawn-clause-goes_on : goal.returns-then-drawn-clause-goes_on
returns-then-drawn-clause-goes_on c = λ calls order failed h.
    let s = c.args.self.now in
    let task : PutTask = record { total = s.total; replicas = s.replicas; need = s.need; created = s.blob.created; ctype = s.blob.ctype; meta = s.blob.meta } in
    (was_given_up task s.drawn c.in-Some.drawn s.blob.body s.next s.stage s.course calls order c.args.out.now.items c.in-Some.is c.if-drawn.true failed h).1

pub returns-in_ok-make_room-in-Some-clause-adds : goal.returns-in_ok-make_room-in-Some-clause-adds
returns-in_ok-make_room-in-Some-clause-adds c = λ calls order failed h.
    let s = c.args.self.now in
    let task : PutTask = record { total = s.total; replicas = s.replicas; need = s.need; created = s.blob.created; ctype = s.blob.ctype; meta = s.blob.meta } in
    (gives_up_now task s.drawn c.in-Some.drawn s.blob.body s.next s.stage s.course calls order c.args.out.now.items c.make_room.new.out.items c.ask_removal.new.out.items c.in-Some.is c.if-drawn.false failed c.make_room.ensures.items c.ask_removal.ensures h).0

pub returns-in_ok-make_room-in-Some-clause-goes_on : goal.returns-in_ok-make_room-in-Some-clause-goes_on
returns-in_ok-make_room-in-Some-clause-goes_on c = λ calls order failed h.
    let s = c.args.self.now in
    let task : PutTask = record { total = s.total; replicas = s.replicas; need = s.need; created = s.blob.created; ctype = s.blob.ctype; meta = s.blob.meta } in
    (gives_up_now task s.drawn c.in-Some.drawn s.blob.body s.next s.stage s.course calls order c.args.out.now.items c.make_room.new.out.items c.ask_removal.new.out.items c.in-Some.is c.if-drawn.false failed c.make_room.ensures.items c.ask_removal.ensures h).1
