-- The tags of operation lines, by name and by number.
use Rattle.std.specs.Prelude.{◌≡◌, ℕ, ◌+◌, ◌-◌, ◌<◌, ◌^◌, List, [], ◌∷◌, length, slice_get, Bool, false, true, Option, None, Some, option_map, if◌then◌else◌}
use Rattle.std.specs.Str.{bytes_eq}
use Rattle.session_text.specs.declared.tags.Tag.{Tag}

-- the number of the first tag with this name, counted from 1
abbrev pub tag_number : List Tag → List ℕ → Option ℕ
tag_number [] name = None
tag_number (tag ∷ tags) name = if bytes_eq tag.name name then Some 1 else option_map (λ n. n + 1) (tag_number tags name)

abbrev pub name_or_none : Option Tag → List ℕ
name_or_none None = []
name_or_none (Some tag) = tag.name

-- the name of the tag with this number
abbrev pub name_of : List Tag → ℕ → List ℕ
name_of tags n = name_or_none (slice_get tags (n - 1))

abbrev pub put_or_not : Option Tag → Bool
put_or_not None = false
put_or_not (Some tag) = tag.is_put

-- whether the tag with this number is a put's
abbrev pub is_put_at : List Tag → ℕ → Bool
is_put_at tags n = put_or_not (slice_get tags (n - 1))

abbrev pub is_number : Option ℕ → Bool
is_number None = false
is_number (Some n) = true

-- an operation line has the tag
abbrev pub is_used_tag : List Tag → List ℕ → Bool
is_used_tag tags name = is_number (tag_number tags name)

abbrev pub is_put_number : List Tag → Option ℕ → Bool
is_put_number tags None = false
is_put_number tags (Some n) = is_put_at tags n

-- a put line has the tag
abbrev pub is_put_tag : List Tag → List ℕ → Bool
is_put_tag tags name = is_put_number tags (tag_number tags name)

-- The index has the number of each name, and no two tags have one name: the name at each place leads back to its number.
pub record IsIndexed (tags : List Tag) (index : List ℕ → Option ℕ) : Type 0 where
  pub each : (name : List ℕ) → index name ≡ tag_number tags name
  pub count : length tags < 2 ^ 32
