use Rattle.std.proofs.Common.{◌≡◌, length, vec_len, IsTrue}
use Rattle.std.specs.List.{list_all}
use Rattle.disk_core.specs.Unsynced.{fits, left_after}
use Rattle.disk_core.proofs.unsynced.leave.Given as goal

abbrev pub invariant-loop-write : goal.invariant-loop-write
invariant-loop-write l = record {
  left : left_after l.pick l.bytes.items l.unsynced.items ≡ left_after l.pick l.initial.bytes.items l.initial.unsynced.items;
  fit : IsTrue (list_all (fits (length l.bytes.items)) l.unsynced.items);
}

abbrev pub decreases-loop-write : goal.decreases-loop-write
decreases-loop-write l = vec_len l.unsynced
