use Rattle.std.proofs.Common.{◌∷◌, Some, refl, sym}
use Rattle.operation.specs.Calls.{Drew}
use Rattle.put_op.specs.Puts.{PutTask, put_target}
use Rattle.put_op.proofs.WantLaws.{drew}
use Rattle.put_op.proofs.put.PutOp.begin_piece.Goals as goal

pub returns-clause-goes_on : goal.returns-clause-goes_on
returns-clause-goes_on c = λ calls h.
    let s = c.args.self.now in
    let task : PutTask = record { total = s.total; replicas = s.replicas; need = s.need; created = s.blob.created; ctype = s.blob.ctype; meta = s.blob.meta } in
    drew task s.drawn c.args.id c.new.result s.blob.body c.args.body s.next s.stage s.course calls (c.requires.wanted task calls refl h) c.new.ensures.errand
    (λ none. c.new.ensures.fresh (put_target task c.args.id) (Drew c.args.id (Some c.args.body) ∷ calls) none (sym c.new.ensures.target) refl) h
