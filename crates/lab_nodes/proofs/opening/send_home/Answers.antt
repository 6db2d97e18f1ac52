use Rattle.std.proofs.Common.{◌≡◌, Option, Some, refl, sym, ◌∙◌, subst}
use Rattle.std.specs.Prelude.{IsSome}
use Rattle.replica_core.specs.State.{ReplicaState}
use Rattle.lab_nodes.proofs.Sending.{sent}
use Rattle.lab_nodes.proofs.opening.send_home.Goals as goal
use Rattle.lab_nodes.proofs.opening.send_home.Goals.{In-Some}

was : (g : _) (c : In-Some g) → c.args.slot.now ≡ Some c.in-Some.replica
was g c = sym c.take.ensures.value ∙ c.in-Some.is

there : (g : _) (c : In-Some g) → IsSome c.args.slot.now
there g c = subst (λ (s : Option (ReplicaState g.row.B-Disk.Denot)). IsSome s) (sym (was g c)) refl

pub returns-in-Some-clause-home : goal.returns-in-Some-clause-home
returns-in-Some-clause-home g c = λ t folder out.
    let it = (goal.at.returns-in-Some-clause-home g c).In-Some in
    sent g.B.Disk.Disk.tells g.B.Disk.Disk.content g.B.Disk.Disk.size c.args.stops folder c.args.node c.args.partition c.in-Some.replica c.close_replica.result _ _ _ _ c.args.slot.now c.take.new.self
    (was g it) c.take.ensures.after (c.give_back.ensures.home t folder (out (there g it))) c.close_replica.ensures.size c.close_replica.ensures.left c.close_replica.ensures.stands c.close_replica.ensures.laid_out

pub returns-in-Some-clause-others : goal.returns-in-Some-clause-others
returns-in-Some-clause-others g c = λ t folder out.
    (c.give_back.ensures.home t folder (out (there g (goal.at.returns-in-Some-clause-others g c).In-Some))).others
