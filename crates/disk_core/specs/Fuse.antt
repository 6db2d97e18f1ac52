-- Which calls a fuse passes.
use Rattle.std.specs.Prelude.{zero, suc}
use Rattle.disk_core.specs.declared.fuse_disk.Fuse.{Fuse}
use Rattle.disk_core.specs.declared.fuse_disk.Fuse.TheVariants.{Absent, Passes, Blown}

-- the next call is passed
abbrev pub IsWhole : Fuse → Type 0
IsWhole Absent = Unit {0}
IsWhole (Passes zero) = ⊥
IsWhole (Passes (suc n)) = Unit {0}
IsWhole Blown = ⊥

-- the fuse after one more call
abbrev pub after_call : Fuse → Fuse
after_call Absent = Absent
after_call (Passes zero) = Blown
after_call (Passes (suc n)) = Passes n
after_call Blown = Blown
