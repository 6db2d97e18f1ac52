-- What calls between the opening and the closing of a network make of it.
use Rattle.std.specs.Prelude.{◌≡◌, ℕ, ◌≤◌, Bool, true, false, List, Option, Result, Ok, Err}
use Rattle.world_model.specs.declared.fabric.SendFault.{SendFault}
use Rattle.world_model.specs.declared.shape.Shape.{Shape}
use Rattle.world_model.specs.Fabric.{KeepsRun}
use Rattle.world_model.specs.World.{Cells}

-- whether a call found the memory that it needed: it did what it was asked to do, or was refused
abbrev pub is_whole : {T : Type 0} → Result T SendFault → Bool
is_whole (Ok answer) = true
is_whole (Err SendFault.Failed) = true
is_whole (Err SendFault.Memory) = false

-- What a kind of network says of itself: how often it failed, the shape that it is open for, which runs lead to what it holds, and what it may become.
module _ {F : Type 0} (count : F → ℕ) (shape_of : F → Option Shape) (leads : F → Shape → List ℕ → Cells → Type 0) (becomes : F → F → Bool → Type 0) where
  -- What calls make of it: it failed no less often, is open for the same shape, what was a run still is one, and it became what its kind may.
  pub record Advances (old new : F) (whole : Bool) : Type 0 where
    pub later : count old ≤ count new
    pub opened : shape_of new ≡ shape_of old
    pub run : (cluster : Shape) (place : List ℕ) → KeepsRun (leads old cluster place) (leads new cluster place)
    pub own : becomes old new whole
