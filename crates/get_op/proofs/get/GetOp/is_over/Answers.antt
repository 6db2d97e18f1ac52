use Rattle.get_op.specs.Gets.{GetTask, get_decides, get_plan}
use Rattle.get_op.proofs.get.GetOp.is_over.Goals as goal

pub returns : goal.returns
returns c = λ calls h.
    let s = c.args.self.now in
    let task : GetTask = record { id = s.id; replicas = s.replicas; need = s.need } in
    c.is_over.ensures.over (get_plan task) (get_decides task) calls (λ e. c.is_read.ensures task calls (h.piece e)) h.at
