-- The seeds that a schedule was begun with.
use Rattle.std.specs.Prelude.{ℕ, List, [], ◌∷◌, ◌++◌}
use Rattle.world_model.specs.declared.seeds.Seeds.{Seeds, Unbegun, Begun'}

-- in the order in which they were given
abbrev pub seeds_of : Seeds → List ℕ
seeds_of Unbegun = []
seeds_of (Begun' marker before seed) = seeds_of before ++ seed.value ∷ []
