use Rattle.std.proofs.Common.{◌≡◌}
use Rattle.quorum_op.specs.Slots.{failed_in}
use Rattle.quorum_op.proofs.tally.failed_slots.Given as goal

-- the failures so far
abbrev pub invariant-loop-i : goal.invariant-loop-i
invariant-loop-i l = l.failures ≡ failed_in l.slots l.i
