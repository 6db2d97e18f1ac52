-- What bays in memory show of themselves.
use Rattle.std.specs.Prelude.{◌≡◌, ℕ, ◌+◌, ◌-◌, ◌^◌, List, min}
use Rattle.disk_core.specs.declared.mem_bays.MemBays.{MemBays}
use Rattle.disk_core.specs.declared.unsynced.Pick.{Pick}

-- how many openings there were
abbrev pub openings_of : MemBays → ℕ
openings_of bays = bays.failing.calls

-- the numbers of the openings that fail
abbrev pub listed_in : MemBays → List ℕ
listed_in bays = bays.failing.listed.items

-- what a stop leaves of a new disk
abbrev pub pick_for : MemBays → Pick
pick_for bays = bays.pick

-- An opening was counted, and the rest of what the bays were made with stays.
pub record CountsOpening (old new : MemBays) : Type 0 where
  pub openings : openings_of new ≡ min (openings_of old + 1) (2 ^ 64 - 1)
  pub listed : listed_in new ≡ listed_in old
  pub pick : pick_for new ≡ pick_for old

-- No opening was counted, and what the bays were made with stays.
pub record KeepsOpenings (old new : MemBays) : Type 0 where
  pub openings : openings_of new ≡ openings_of old
  pub listed : listed_in new ≡ listed_in old
  pub pick : pick_for new ≡ pick_for old
