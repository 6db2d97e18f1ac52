use Rattle.std.proofs.Common.{Some, None, refl}
use Rattle.node_lab.proofs.SlotLemmas.{sent}
use Rattle.node_lab.proofs.opening.send_home.Goals as goal

pub returns-clause-home : goal.returns-clause-home
returns-clause-home g c = λ t folder out.
    sent g.B.Disk.Disk.tells g.B.Disk.Disk.content g.B.Disk.Disk.size c.args.stops folder c.args.node c.args.partition c.args.replica c.close_replica.result _ _ _ _ (Some c.args.replica) None
    refl refl (c.give_back.ensures.home t folder out) c.close_replica.ensures.size c.close_replica.ensures.left c.close_replica.ensures.stands c.close_replica.ensures.laid_out

pub returns-clause-others : goal.returns-clause-others
returns-clause-others g c = λ t folder out. (c.give_back.ensures.home t folder out).others
