use Rattle.std.proofs.Common.{sym, ◌∙◌}
use Rattle.get_op.specs.Gets.{GetTask, get_target}
use Rattle.get_op.proofs.GetLaws.{asks_along}
use Rattle.get_op.proofs.get.GetOpOperation.sends.Goals as goal

pub returns-clause-goes_on : goal.returns-clause-goes_on
returns-clause-goes_on c = λ calls h.
    let s = c.args.self.now in
    let task : GetTask = record { id = s.id; replicas = s.replicas; need = s.need } in
    (asks_along task s.piece c.send_along-self.new.asker s.next c.send_along-self.result s.stage c.args.order.now calls c.make_room.new.out.items c.send_along-self.new.out.items h (sym (c.is_over.ensures calls h) ∙ c.if-is_over.false)
    c.send_along-self.ensures.same (λ owns. c.send_along-self.ensures.sent (get_target task) calls owns h.numbers)).1
