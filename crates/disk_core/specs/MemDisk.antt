-- What a disk in memory shows of itself.
use Rattle.std.specs.Prelude.{◌≡◌, ℕ, ◌+◌, ◌-◌, ◌^◌, List, length, min}
use Rattle.disk_core.specs.declared.mem_disk.MemDisk.{MemDisk}
use Rattle.disk_core.specs.declared.unsynced.Pick.{Pick}
use Rattle.disk_core.specs.Content.{Content}
use Rattle.disk_core.specs.Unsynced.{State, state_after, states_of}
use Rattle.disk_core.specs.UnsyncedLaws.{content_after}

-- what it holds, and what of it isn't synced
abbrev pub state_of : MemDisk → State
state_of disk = state_after disk.bytes.items disk.unsynced.items

-- what it tells
abbrev pub content_of : MemDisk → Content
content_of disk = content_after disk.bytes.items disk.unsynced.items (states_of disk.past)

-- how many bytes it has
abbrev pub size_of : MemDisk → ℕ
size_of disk = length disk.bytes.items

-- what a stop leaves
abbrev pub pick_of : MemDisk → Pick
pick_of disk = disk.pick

-- the same disk with another pick
abbrev pub with_pick : Pick → MemDisk → MemDisk
with_pick pick disk = record disk { pick = pick }

-- the numbers of the calls that fail
abbrev pub listed_of : MemDisk → List ℕ
listed_of disk = disk.failing.listed.items

-- how many calls there were that can fail
abbrev pub calls_of : MemDisk → ℕ
calls_of disk = disk.failing.calls

-- A call was counted, and the rest of what the disk was made with stays.
pub record CountsCall (old new : MemDisk) : Type 0 where
  pub calls : calls_of new ≡ min (calls_of old + 1) (2 ^ 64 - 1)
  pub listed : listed_of new ≡ listed_of old
  pub pick : pick_of new ≡ pick_of old

-- No call was counted, and what the disk was made with stays.
pub record KeepsCalls (old new : MemDisk) : Type 0 where
  pub calls : calls_of new ≡ calls_of old
  pub listed : listed_of new ≡ listed_of old
  pub pick : pick_of new ≡ pick_of old
