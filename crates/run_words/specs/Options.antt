-- The options of a command line, and the words that spell them.
use Rattle.std.specs.Prelude.{◌≡◌, ◌⊎◌, ◌<◌, ◌^◌, ℕ, List, [], ◌∷◌, ◌++◌, Bool, true, false, ◌&&◌, nat_le, length, Option, None, Some, find, option_map, option_and_then, codes}
use Rattle.std.specs.List.{list_all}
use Rattle.std.specs.Str.{bytes_eq}
use Rattle.std.specs.Str.Parse.{digits_value}
use Rattle.run_words.specs.declared.options.Name.{Name}
use Rattle.run_words.specs.declared.options.Name.TheVariants.{Nodes, Replicas, Partitions, Put, Get, Delete, Segment, Segments, Index, Ids, Folder, Seed}
use Rattle.run_words.specs.declared.options.Value.{Value}
use Rattle.run_words.specs.declared.options.Value.TheVariants.{Number, Path}
use Rattle.run_words.specs.declared.options.Given.{Given}
use Rattle.run_words.specs.Pathnames.{Text, is_pathname}

-- the text of an option's name
abbrev pub text_of : Name → Text
text_of Nodes = codes "nodes"
text_of Replicas = codes "replicas"
text_of Partitions = codes "partitions"
text_of Put = codes "put"
text_of Get = codes "get"
text_of Delete = codes "delete"
text_of Segment = codes "segment"
text_of Segments = codes "segments"
text_of Index = codes "index"
text_of Ids = codes "ids"
text_of Folder = codes "folder"
text_of Seed = codes "seed"

-- `--name`
abbrev pub option_word : Name → Text
option_word name = codes "--" ++ text_of name

-- `--name=value`
abbrev pub joined_word : Name → Text → Text
joined_word name value = option_word name ++ (codes "=" ++ value)

abbrev pub is_digit : ℕ → Bool
is_digit byte = nat_le 48 byte && nat_le byte 57

-- 1 to 20 digits
abbrev pub is_numeral : Text → Bool
is_numeral text = (nat_le 1 (length text) && nat_le (length text) 20) && list_all is_digit text

-- the text spells a number of 64 bits
abbrev pub IsNumeral : Text → ℕ → Type 0
IsNumeral text number = (is_numeral text ≡ true) × (digits_value 10 text ≡ number) × (number < 2 ^ 64)

-- two names are the same
abbrev pub is_same : Name → Name → Bool
is_same a b = bytes_eq (text_of a) (text_of b)

-- whether the option's value is a pathname, and no number
abbrev pub takes_path : Name → Bool
takes_path name = is_same name Folder

-- the text spells a value of the option
abbrev pub IsValue : Name → Text → Value → Type 0
IsValue name text (Number number) = (takes_path name ≡ false) × IsNumeral text number
IsValue name text (Path path) = (takes_path name ≡ true) × (is_pathname text ≡ true) × (text ≡ path)

-- the words are these options, in this order, each `--name value` in two words or `--name=value` in one
abbrev pub AreOptions : List Given → List Text → Type 0
AreOptions [] words = words ≡ []
AreOptions (given ∷ more) words = (value : Text) × (rest : List Text) × IsValue given.name value given.value × AreOptions more rest
    × ((words ≡ option_word given.name ∷ value ∷ rest) ⊎ (words ≡ joined_word given.name value ∷ rest))

-- the value that the options give for a name, where they give one
abbrev pub value_for : List Given → Name → Option Value
value_for options name = option_map (λ given. given.value) (find (λ given. is_same given.name name) options)

abbrev pub number_in : Value → Option ℕ
number_in (Number number) = Some number
number_in (Path path) = None

abbrev pub path_in : Value → Option Text
path_in (Number number) = None
path_in (Path path) = Some path

-- the number that the options give for a name, where they give one
abbrev pub number_for : List Given → Name → Option ℕ
number_for options name = option_and_then number_in (value_for options name)

-- the pathname that the options give for a name, where they give one
abbrev pub path_for : List Given → Name → Option Text
path_for options name = option_and_then path_in (value_for options name)

-- no name is given twice
abbrev pub AreOnce : List Given → Type 0
AreOnce [] = Unit {0}
AreOnce (given ∷ more) = (value_for more given.name ≡ None) × AreOnce more
