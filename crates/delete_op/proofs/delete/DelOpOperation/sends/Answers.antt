use Rattle.std.proofs.Common.{◌≡◌, ℕ, List, [], ◌++◌, sym, ap, ◌∙◌, subst, append-nil}
use Rattle.operation.specs.Calls.{Call, sent_all}
use Rattle.operation.specs.Pieces.{IsPieceOf}
use Rattle.operation.specs.Wants.{HasSent, asks, part_of, sends_along, upto}
use Rattle.operation.specs.declared.sending.Errand.{Errand}
use Rattle.operation.specs.declared.sending.Sending.{Sending}
use Rattle.delete_op.specs.Deletes.{DeleteTask, delete_target, delete_wants}
use Rattle.delete_op.specs.Standing.{IsDelete}
use Rattle.delete_op.proofs.DeleteLaws.{asked_each, wants_nothing, wants_no_more}
use Rattle.delete_op.proofs.delete.DelOpOperation.sends.Goals.{then-self-via-then-self, then-self-via-else-self+then-is_over}
use Rattle.delete_op.proofs.delete.DelOpOperation.sends.Goals as goal

quiet : (c : goal.Joined-then-self) (calls : List Call) → IsDelete (record { id = c.args.self.now.id; at = c.args.self.now.at; replicas = c.args.self.now.replicas; need = c.args.self.now.need }) c.args.self.now.piece c.args.self.now.next c.args.self.now.asked c.args.self.now.stage calls
    → delete_wants (record { id = c.args.self.now.id; at = c.args.self.now.at; replicas = c.args.self.now.replicas; need = c.args.self.now.need }) calls c.args.order.now ≡ []
quiet c calls h =
    let s = c.args.self.now in
    let task : DeleteTask = record { id = s.id; at = s.at; replicas = s.replicas; need = s.need } in
    elim c.then-self.branch [
      | then-self-via-then-self w ↦ wants_no_more task s.piece s.next s.asked s.stage calls c.args.order.now w.if-self.true h
      | then-self-via-else-self+then-is_over w ↦ wants_nothing task calls c.args.order.now (sym (w.is_over.ensures calls h) ∙ w.if-is_over.true)
    ]

pub returns-then-self-clause-adds : goal.returns-then-self-clause-adds
returns-then-self-clause-adds c = λ calls h. sym (append-nil c.args.out.now.items) ∙ ap (λ (l : List Sending). c.args.out.now.items ++ l) (sym (quiet c calls h))

pub returns-then-self-clause-goes_on : goal.returns-then-self-clause-goes_on
returns-then-self-clause-goes_on c = λ calls h.
    let s = c.args.self.now in
    let task : DeleteTask = record { id = s.id; at = s.at; replicas = s.replicas; need = s.need } in
    subst (λ (l : List Sending). IsDelete task s.piece s.next s.asked s.stage (sent_all l calls)) (sym (quiet c calls h)) h

pub returns-clause-goes_on : goal.returns-clause-goes_on
returns-clause-goes_on c = λ calls h.
    let s = c.args.self.now in
    let task : DeleteTask = record { id = s.id; at = s.at; replicas = s.replicas; need = s.need } in
    (asked_each task s.piece c.send_along-self.new.asker s.next c.send_along-self.result s.asked s.stage calls c.args.order.now c.make_room.new.out.items c.send_along-self.new.out.items c.if-self.false
    (sym (c.is_over.ensures calls h) ∙ c.if-is_over.false) c.send_along-self.ensures.same
    (subst (λ (e : Errand). HasSent (IsPieceOf (delete_target task) c.send_along-self.new.asker) (sends_along (asks (delete_target task)) (part_of (delete_target task)) e calls (upto s.replicas)) calls c.make_room.new.out.items c.send_along-self.new.out.items c.send_along-self.result) h.errand
    (subst (λ (l : List ℕ). HasSent (IsPieceOf (delete_target task) c.send_along-self.new.asker) (sends_along (asks (delete_target task)) (part_of (delete_target task)) s.piece.errand calls l) calls c.make_room.new.out.items c.send_along-self.new.out.items c.send_along-self.result) c.replicas_below-replicas.ensures.numbers
    (c.send_along-self.ensures.sent (delete_target task) calls h.piece h.numbers))) h).1
