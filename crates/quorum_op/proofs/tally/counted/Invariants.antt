use Rattle.std.proofs.Common.{◌≡◌, ◌≤◌}
use Rattle.quorum_op.specs.Tally.{is_failed, is_found, is_gone, is_state, is_yes}
use Rattle.quorum_op.specs.Slots.{slots_so}
use Rattle.quorum_op.proofs.tally.counted.Given as goal

-- the counts so far
abbrev pub invariant-loop-i : goal.invariant-loop-i
invariant-loop-i l = record {
  yes : l.counts.yes ≡ slots_so l.slots is_yes l.i;
  state : l.counts.state ≡ slots_so l.slots is_state l.i;
  found : l.counts.found ≡ slots_so l.slots is_found l.i;
  gone : l.counts.gone ≡ slots_so l.slots is_gone l.i;
  failed : l.counts.failed ≡ slots_so l.slots is_failed l.i;
  few : (l.counts.yes ≤ l.i) × (l.counts.state ≤ l.i) × (l.counts.found ≤ l.i) × (l.counts.gone ≤ l.i) × (l.counts.failed ≤ l.i);
}
