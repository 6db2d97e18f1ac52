use Rattle.std.proofs.Common.{refl}
use Rattle.operation.specs.declared.sending.Errand.{Errand}
use Rattle.operation.specs.Calls.{Replied}
use Rattle.operation.proofs.StageLaws.{single_still}
use Rattle.get_op.specs.Gets.{GetTask, get_decides, get_plan, get_target}
use Rattle.get_op.proofs.GetLaws.{get_first, get_stays}
use Rattle.get_op.proofs.get.GetOpOperation.on_reply.Goals as goal

pub returns-clause-goes_on : goal.returns-clause-goes_on
returns-clause-goes_on c = λ calls h.
    let s = c.args.self.now in
    let task : GetTask = record { id = s.id; replicas = s.replicas; need = s.need } in
    single_still (get_plan task) (get_decides task) (get_target task) (Errand.Get s.id) s.piece c.on_reply.new.self s.next s.stage (Replied c.args.request c.args.reply) calls (get_first task) refl
    (get_stays task (Replied c.args.request c.args.reply) calls) refl c.on_reply.ensures.same (c.on_reply.ensures.goes_on (get_target task) calls) h
