-- The index of tags by name.
use Rattle.std.specs.Prelude.{◌≡◌, ℕ, ◌<◌, ◌^◌, List, length, Option}
use Rattle.front_end.specs.declared.tags.Tag.{Tag}
use Rattle.front_end.specs.Script.{tag_number}

-- The index has the number of each name, and no two tags have one name: the name at each place leads back to its number.
pub record IsIndexed (tags : List Tag) (index : List ℕ → Option ℕ) : Type 0 where
  pub each : (name : List ℕ) → index name ≡ tag_number tags name
  pub count : length tags < 2 ^ 32
