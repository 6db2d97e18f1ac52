-- Names of files and folders.
use Rattle.std.specs.Prelude.{ℕ, List, [], ◌∷◌, Bool, true, not, ◌&&◌, ◌||◌, ◌==◌, nat_le, length, Option, None, Some, codes, if◌then◌else◌}
use Rattle.std.specs.Char.{is_ascii_alphanumeric}
use Rattle.std.specs.List.{list_all, list_any}
use Rattle.std.specs.Str.{bytes_eq}

-- a text, by its bytes
abbrev pub Text : Type 0
Text = List ℕ

abbrev pub is_slash : ℕ → Bool
is_slash byte = byte == 47

-- a letter, a digit, `.`, `_`, `-` or `/`
abbrev pub is_path_byte : ℕ → Bool
is_path_byte byte = is_ascii_alphanumeric byte || (((byte == 46) || (byte == 95)) || ((byte == 45) || is_slash byte))

-- the text begins with neither `-` nor `/`
abbrev pub begins_within : Text → Bool
begins_within [] = true
begins_within (byte ∷ rest) = not (byte == 45) && not (is_slash byte)

abbrev pub before_parts : ℕ → List Text → List Text
before_parts byte [] = (byte ∷ []) ∷ []
before_parts byte (part ∷ more) = (byte ∷ part) ∷ more

-- the parts that slashes divide a text into, also the first and the last
abbrev pub parts : Text → List Text
parts [] = [] ∷ []
parts (byte ∷ rest) = if is_slash byte then [] ∷ parts rest else before_parts byte (parts rest)

-- the parts of what is left, where something is
abbrev pub parts_left : Option Text → List Text
parts_left None = []
parts_left (Some text) = parts text

-- the part is `..`
abbrev pub is_up : Text → Bool
is_up part = bytes_eq part (codes "..")

-- 1 to 255 bytes of pathnames, that begin with neither `-` nor `/`, without a part `..`
abbrev pub is_pathname : Text → Bool
is_pathname text = (((nat_le 1 (length text) && nat_le (length text) 255) && list_all is_path_byte text) && begins_within text) && not (list_any is_up (parts text))
