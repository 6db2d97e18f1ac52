use Rattle.std.proofs.Common.{◌≡◌, ◌-◌}
use Rattle.log_manifest.specs.Reading.{lives_at}
use Rattle.field_codec.proofs.CountedLists.{behind}
use Rattle.log_manifest.proofs.reading.lives_of.Given as goal

abbrev pub invariant-loop : goal.invariant-loop
invariant-loop l = behind l.lives.items (lives_at (l.count - l.counter) l.rest) ≡ lives_at l.count l.bytes
