use Rattle.std.proofs.Common.{refl}
use Rattle.operation.specs.Calls.{Replied}
use Rattle.delete_op.specs.Deletes.{DeleteTask, delete_target}
use Rattle.delete_op.proofs.DeleteLaws.{goes_by}
use Rattle.delete_op.proofs.delete.DelOpOperation.on_reply.Goals as goal

pub returns-clause-goes_on : goal.returns-clause-goes_on
returns-clause-goes_on c = λ calls h.
    let s = c.args.self.now in
    let task : DeleteTask = record { id = s.id; at = s.at; replicas = s.replicas; need = s.need } in
    goes_by task s.piece c.on_reply.new.self s.next s.asked s.stage (Replied c.args.request c.args.reply) calls refl refl c.on_reply.ensures.same (c.on_reply.ensures.goes_on (delete_target task) calls h.piece) h
