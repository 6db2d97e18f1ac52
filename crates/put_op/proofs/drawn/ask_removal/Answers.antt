use Rattle.std.proofs.Common.{arith}
use Rattle.operation.specs.declared.sending.Errand.TheVariants.{Delete}
use Rattle.operation.specs.declared.sending.Purpose.TheVariants.{GivenUp}
use Rattle.operation.proofs.EachLaws.{each_more}
use Rattle.put_op.proofs.drawn.ask_removal.Goals as goal

pub loop-replica-preserved : goal.loop-replica-preserved
loop-replica-preserved c =
    let i = c.loop-replica.invariant in
    let len = c.add.ensures.len in
    let room = c.add.ensures.room in
    let short = i.1 in
    let more = i.2 in
    (each_more GivenUp (Delete c.args.id 0) c.args.first c.loop-replica.replica c.args.out.now.items c.loop-replica.out.items c.add.new.items.items i.0 c.add.ensures.items, omega arith, omega arith)
