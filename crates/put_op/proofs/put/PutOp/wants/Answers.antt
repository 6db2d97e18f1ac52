use Rattle.put_op.specs.Puts.{PutTask}
use Rattle.put_op.proofs.StepLaws.{wants_none_drawn, wants_none_over, wants_whole}
use Rattle.put_op.proofs.put.PutOp.wants.Goals as goal

pub returns-in-None : goal.returns-in-None
returns-in-None c = λ task' calls same h.
    let s = c.args.self.now in
    let task : PutTask = record { total = s.total; replicas = s.replicas; need = s.need; created = s.blob.created; ctype = s.blob.ctype; meta = s.blob.meta } in
    wants_whole task task' s.drawn s.blob.body s.next s.stage s.course c.course.result calls same c.in-None.is (c.course.ensures calls h) c.in-Pending.is h

pub returns-in-Some : goal.returns-in-Some
returns-in-Some c = λ task' calls same h.
    let s = c.args.self.now in
    let task : PutTask = record { total = s.total; replicas = s.replicas; need = s.need; created = s.blob.created; ctype = s.blob.ctype; meta = s.blob.meta } in
    wants_none_drawn task task' s.drawn c.in-Some.field-0 s.blob.body s.next s.stage s.course calls same c.in-Some.is h

pub returns-in-Stored : goal.returns-in-Stored
returns-in-Stored c = λ task' calls same h.
    let s = c.args.self.now in
    let task : PutTask = record { total = s.total; replicas = s.replicas; need = s.need; created = s.blob.created; ctype = s.blob.ctype; meta = s.blob.meta } in
    wants_none_over task task' c.course.result calls same (c.course.ensures calls h) c.in-Stored.is
