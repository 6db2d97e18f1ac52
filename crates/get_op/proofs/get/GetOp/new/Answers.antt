use Rattle.std.proofs.Common.{[], refl, sym}
use Rattle.get_op.specs.Gets.{get_target}
use Rattle.get_op.proofs.get.GetOp.new.Goals as goal

pub returns-clause-stands : goal.returns-clause-stands
returns-clause-stands c = record {
  at = record { outcome = refl; given = refl };
  numbers = refl;
  asks = c.new.ensures.errand;
  piece = λ e. c.new.ensures.fresh (get_target (record { id = c.args.id; replicas = c.args.replicas; need = c.args.need })) [] refl (sym c.new.ensures.target) refl;
}
