use Rattle.std.proofs.Common.{◌≡◌, ◌<◌, ◌-◌, ℕ, true}
use Rattle.part_log.specs.Segments.{is_among, free_from}
use Rattle.part_log.proofs.table.least_free.Given as goal

abbrev pub invariant-loop-number : goal.invariant-loop-number
invariant-loop-number l = record {
  taken : (j : ℕ) → j < l.number → is_among j l.segments ≡ true;
  same : free_from l.count 0 l.segments ≡ free_from (l.count - l.number) l.number l.segments;
}

abbrev pub decreases-loop-number : goal.decreases-loop-number
decreases-loop-number l = l.count - l.number
