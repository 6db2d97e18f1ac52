-- What of a file may not have reached its device.
use Rattle.std.specs.Prelude.{◌≡◌, ℕ, ◌<◌, ◌≤◌}
use Rattle.disk_core.specs.declared.dirty_range.DirtyRange.{DirtyRange}

-- the bytes from one place up to another one lie in the range
abbrev pub Covers : DirtyRange → ℕ → ℕ → Type 0
Covers dirty from to = from < to → (dirty.from ≤ from) × (to ≤ dirty.to)

-- Each byte that was in the range is in it, and is forgotten where it was.
pub record Grows (old new : DirtyRange) : Type 0 where
  pub covers : (from to : ℕ) → Covers old from to → Covers new from to
  pub forgotten : new.forgotten ≡ old.forgotten
