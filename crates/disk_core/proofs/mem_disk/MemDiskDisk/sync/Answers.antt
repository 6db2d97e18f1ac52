use Rattle.std.proofs.Common.{refl}
use Rattle.disk_core.specs.Content.{Syncs}
use Rattle.disk_core.specs.Unsynced.{states_of}
use Rattle.disk_core.specs.MemDisk.{content_of}
use Rattle.disk_core.proofs.Calls.{content_at, synced, not_synced}
use Rattle.disk_core.proofs.mem_disk.MemDiskDisk.sync.Goals as goal

pub returns-then-fails-clause-told : goal.returns-then-fails-clause-told
returns-then-fails-clause-told c = λ t. not_synced _ (content_of c.args.self.now)

pub returns-clause-told : goal.returns-clause-told
returns-clause-told c = λ t.
    let self = c.args.self.now in
    content_at (Syncs _ (content_of self)) _ _ _ _ _ _ refl c.clear.ensures.items c.moment.ensures (synced _ self.bytes.items self.unsynced.items (states_of self.past))
