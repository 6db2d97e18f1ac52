-- The words of a line, and what a word may be.
use Rattle.std.specs.Prelude.{ℕ, List, [], ◌∷◌, ◌++◌, length, Bool, true, false, not, ◌&&◌, ◌||◌, ◌==◌, nat_le, Option, None, Some, option_and_then, is_none, if◌then◌else◌, Result, Ok, Err, filter, codes}
use Rattle.std.specs.List.{slice_split, list_all}
use Rattle.std.specs.Str.{bytes_eq}
use Rattle.hex.specs.Hex.{decode_of, encode_lower}
use Rattle.blob_id.specs.Blob.{is_type_byte}
use Rattle.blob_id.specs.Id.{id_fault}
pub use Rattle.run_words.specs.Options.{is_digit, is_numeral, IsNumeral}
pub use Rattle.run_words.specs.Reading.{number_at}

-- spaces and tabs divide the words
abbrev pub is_blank : ℕ → Bool
is_blank c = (c == 32) || (c == 9)

abbrev pub is_word : List ℕ → Bool
is_word word = not (length word == 0)

-- what blanks divide a line into, but nothing empty
abbrev pub words_of : List ℕ → List (List ℕ)
words_of line = filter is_word (slice_split is_blank line)

-- a comment begins with `#`
abbrev pub is_comment : List ℕ → Bool
is_comment [] = false
is_comment (c ∷ word) = c == 35

-- no words, or a comment
abbrev pub is_nothing : List (List ℕ) → Bool
is_nothing [] = true
is_nothing (word ∷ more) = is_comment word

abbrev pub is_letter : ℕ → Bool
is_letter c = (nat_le 65 c && nat_le c 90) || (nat_le 97 c && nat_le c 122)

-- a letter, a digit or `_`
abbrev pub is_tag_byte : ℕ → Bool
is_tag_byte c = (is_letter c || (nat_le 48 c && nat_le c 57)) || (c == 95)

-- a letter, and at most 31 letters, digits or `_` behind it
abbrev pub is_tag : List ℕ → Bool
is_tag [] = false
is_tag (c ∷ more) = (is_letter c && nat_le (length more) 31) && list_all is_tag_byte more

-- 1 to 64 printable bytes, and no `-` alone
abbrev pub is_type : List ℕ → Bool
is_type text = ((nat_le 1 (length text) && nat_le (length text) 64) && list_all is_type_byte text) && not (bytes_eq text (codes "-"))

abbrev pub ok_value : {A E : Type 0} → Result A E → Option A
ok_value (Ok x) = Some x
ok_value (Err e) = None

-- `-` for no bytes, or two digits for each byte, in either case
abbrev pub bytes_of_digits : List ℕ → Option (List ℕ)
bytes_of_digits digits =
    if bytes_eq digits (codes "-") then Some []
    else (if length digits == 0 then None else ok_value (decode_of digits))

-- these bytes, where they are an id and the text is its digits in lower case
abbrev pub id_in_lower : List ℕ → List ℕ → Option (List ℕ)
id_in_lower text bytes = if is_none (id_fault bytes) && bytes_eq (encode_lower bytes) text then Some bytes else None

-- the id that 40 digits spell
abbrev pub id_of_digits : List ℕ → Option (List ℕ)
id_of_digits text = option_and_then (id_in_lower text) (ok_value (decode_of text))

-- words with one space between two of them
abbrev pub joined : List (List ℕ) → List ℕ
joined [] = []
joined (word ∷ []) = word
joined (word ∷ next ∷ more) = word ++ 32 ∷ joined (next ∷ more)
