use Rattle.std.proofs.Common.{◌≡◌, take}
use Rattle.part_log.specs.Segments.{lives_of}
use Rattle.part_log.proofs.table.lives_of.Given as goal

abbrev pub invariant-loop-info : goal.invariant-loop-info
invariant-loop-info l = l.lives ≡ lives_of (take l.info-index l.segments)
