use Rattle.std.proofs.Common.{sym, ◌∙◌, arith}
use Rattle.part_log.proofs.Free.{all_taken, taken_more, free_step}
use Rattle.part_log.proofs.table.least_free.Goals as goal

pub overflow_add-number : goal.overflow_add-number
overflow_add-number c = omega (arith, all_taken c.loop-number.number c.args.segments.now c.loop-number.invariant.taken, c.requires, c.ranges.count.fits)

pub loop-number-smaller : goal.loop-number-smaller
loop-number-smaller c = omega (arith, all_taken c.loop-number.number c.args.segments.now c.loop-number.invariant.taken, c.requires)

pub loop-number-preserved : goal.loop-number-preserved
loop-number-preserved c =
    let here = sym c.is_among.ensures ∙ c.loop-number-test.true in
    let below = all_taken c.loop-number.number c.args.segments.now c.loop-number.invariant.taken in
    record {
      taken = taken_more c.loop-number.number c.args.segments.now c.loop-number.invariant.taken here;
      same = c.loop-number.invariant.same ∙ free_step c.args.count c.loop-number.number c.args.segments.now (omega (arith, below, c.requires)) here;
    }

pub returns-clause-small : goal.returns-clause-small
returns-clause-small c = omega (arith, all_taken c.loop-number.number c.args.segments.now c.loop-number.invariant.taken, c.requires)
