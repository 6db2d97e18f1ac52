use Rattle.std.proofs.Common.{[], refl, sym}
use Rattle.delete_op.specs.Deletes.{delete_target}
use Rattle.delete_op.proofs.delete.DelOp.new.Goals as goal

pub returns-clause-stands : goal.returns-clause-stands
returns-clause-stands c = record {
  errand = c.new.ensures.errand;
  piece = c.new.ensures.fresh (delete_target (record { id = c.args.id; at = c.args.at; replicas = c.args.replicas; need = c.args.need })) [] refl (sym c.new.ensures.target) refl;
  numbers = refl;
  reached = λ replica. refl;
  at = record { outcome = refl; given = refl };
}
