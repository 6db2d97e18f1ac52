use Rattle.std.proofs.Common.{◌≡◌, ◌≤◌, length, take, drop}
use Rattle.part_log.specs.Segments.{next_first, with_firsts}
use Rattle.part_log.proofs.reading.set_firsts.Given as goal

abbrev pub invariant-loop-place : goal.invariant-loop-place
invariant-loop-place l = record {
  long : length l.segments.items ≡ length l.fn.segments.items;
  within : l.place ≤ length l.fn.segments.items;
  front : take l.place l.segments.items ≡ take l.place l.fn.segments.items;
  done : drop l.place l.segments.items ≡ with_firsts (drop l.place l.fn.segments.items) l.end;
  next_is : l.next ≡ next_first (drop l.place l.fn.segments.items) l.end;
}

abbrev pub decreases-loop-place : goal.decreases-loop-place
decreases-loop-place l = l.place
