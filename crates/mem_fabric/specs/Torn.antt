-- Calls that leave something in doubt.
use Rattle.std.specs.Prelude.{Bool, true, false, ◌||◌, List, [], ◌∷◌}
use Rattle.std.specs.List.{list_any}
use Rattle.world_model.specs.declared.step.Called.{Called}
use Rattle.world_model.specs.declared.step.Step.{Step}
use Rattle.world_model.specs.declared.step.Step.TheVariants.{Torn, Merge}

-- a device failed in the step, which may have taken effect or not
abbrev pub is_torn : Step → Bool
is_torn (Torn send) = true
is_torn (Merge node partition reply cell torn) = torn
is_torn _ = false

-- some call tells such a step
abbrev pub has_torn : List Called → Bool
has_torn [] = false
has_torn (call ∷ before) = list_any is_torn call.steps || has_torn before
