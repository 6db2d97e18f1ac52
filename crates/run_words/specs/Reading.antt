-- How words are read, one option after the other.
use Rattle.std.specs.Prelude.{ℕ, ◌^◌, List, [], ◌∷◌, Bool, ◌==◌, ◌&&◌, nat_lt, Option, None, Some, codes, if◌then◌else◌}
use Rattle.std.specs.Str.{bytes_eq}
use Rattle.std.specs.Str.Parse.{digits_value}
use Rattle.run_words.specs.declared.options.Name.{Name}
use Rattle.run_words.specs.declared.options.Name.TheVariants.{Nodes, Replicas, Partitions, Put, Get, Delete, Segment, Segments, Index, Ids, Folder, Seed}
use Rattle.run_words.specs.declared.options.Value.{Value}
use Rattle.run_words.specs.declared.options.Value.TheVariants.{Number, Path}
use Rattle.run_words.specs.declared.options.Given.{Given}
use Rattle.run_words.specs.Pathnames.{Text, is_pathname}
use Rattle.run_words.specs.Options.{is_numeral, takes_path}

-- the next step, where there was a first
abbrev pub and_then : {A B : Type 0} → Option A → (A → Option B) → Option B
and_then (Some x) next = next x
and_then None next = None

-- the number that a text spells
abbrev pub number_at : Text → Option ℕ
number_at text = if is_numeral text && nat_lt (digits_value 10 text) (2 ^ 64) then Some (digits_value 10 text) else None

-- the option of this name
abbrev pub name_at : Text → Option Name
name_at text =
    if bytes_eq text (codes "nodes") then Some Nodes
    else (if bytes_eq text (codes "replicas") then Some Replicas
    else (if bytes_eq text (codes "partitions") then Some Partitions
    else (if bytes_eq text (codes "put") then Some Put
    else (if bytes_eq text (codes "get") then Some Get
    else (if bytes_eq text (codes "delete") then Some Delete
    else (if bytes_eq text (codes "segment") then Some Segment
    else (if bytes_eq text (codes "segments") then Some Segments
    else (if bytes_eq text (codes "index") then Some Index
    else (if bytes_eq text (codes "ids") then Some Ids
    else (if bytes_eq text (codes "folder") then Some Folder
    else (if bytes_eq text (codes "seed") then Some Seed
    else None)))))))))))

-- what stands behind `--`
abbrev pub body_of : Text → Option Text
body_of [] = None
body_of (a ∷ []) = None
body_of (a ∷ b ∷ body) = if (a == 45) && (b == 45) then Some body else None

abbrev pub is_equals : ℕ → Bool
is_equals byte = byte == 61

-- what stands before the first `=`
abbrev pub name_part : Text → Text
name_part [] = []
name_part (byte ∷ body) = if is_equals byte then [] else byte ∷ name_part body

-- what stands behind the first `=`, where there is one
abbrev pub value_part : Text → Option Text
value_part [] = None
value_part (byte ∷ body) = if is_equals byte then Some body else value_part body

-- an option's name, and its value where the same word has it
abbrev pub word_at : Text → Option (Name × Option Text)
word_at word = and_then (body_of word) (λ body. and_then (name_at (name_part body)) (λ name. Some (name, value_part body)))

-- the value of the option that a text spells
abbrev pub value_at : Name → Text → Option Value
value_at name text = if takes_path name then (if is_pathname text then Some (Path text) else None) else and_then (number_at text) (λ number. Some (Number number))

abbrev pub given_at : Name → Text → Option Given
given_at name text = and_then (value_at name text) (λ value. Some (record { name = name; value = value }))

-- an option, where its first word is read, and the words behind it
abbrev pub option_behind : Name → Option Text → List Text → Option (Given × List Text)
option_behind name (Some value) rest = and_then (given_at name value) (λ given. Some (given, rest))
option_behind name None [] = None
option_behind name None (value ∷ rest) = and_then (given_at name value) (λ given. Some (given, rest))

-- the first option of the words, and the words behind it
abbrev pub first_option : List Text → Option (Given × List Text)
first_option [] = None
first_option (word ∷ rest) = and_then (word_at word) (λ head. option_behind head.0 head.1 rest)
