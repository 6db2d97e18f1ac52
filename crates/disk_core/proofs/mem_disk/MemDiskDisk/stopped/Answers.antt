use Rattle.std.proofs.Common.{◌∙◌, ap, subst, sym, refl, [], List, ℕ, length}
use Rattle.disk_core.specs.Content.{Stops}
use Rattle.disk_core.specs.Unsynced.{states_of, IsLeft}
use Rattle.disk_core.specs.UnsyncedLaws.{length-left_after}
use Rattle.disk_core.specs.MemDisk.{content_of, state_of}
use Rattle.disk_core.proofs.Calls.{content_at, stops, left_is}
use Rattle.disk_core.proofs.mem_disk.MemDiskDisk.stopped.Goals as goal

pub returns-clause-told : goal.returns-clause-told
returns-clause-told c = λ t.
    let self = c.args.self.now in
    content_at (Stops (content_of self)) _ _ _ _ [] [] c.leave.ensures.left c.leave.ensures.none refl (stops self.pick self.bytes.items self.unsynced.items (states_of self.past))

pub returns-clause-size : goal.returns-clause-size
returns-clause-size c = ap (λ (l : List ℕ). length l) c.leave.ensures.left ∙ length-left_after c.args.self.now.pick c.args.self.now.bytes.items c.args.self.now.unsynced.items

pub returns-clause-left : goal.returns-clause-left
returns-clause-left c =
    let self = c.args.self.now in
    subst (IsLeft self.pick (state_of self)) (sym c.leave.ensures.left) (left_is self.pick self.bytes.items self.unsynced.items)
