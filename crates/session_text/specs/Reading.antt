-- Reading a line from left to right, up to the first word that isn't what has to stand at its place.
use Rattle.std.specs.Prelude.{◌≡◌, ◌≢◌, ℕ, ◌+◌, List, [], ◌∷◌, length, Bool, true, false, not, ◌&&◌, ◌||◌, ◌==◌, nat_le, nat_lt, Option, None, Some, option_map, option_and_then, Result, Ok, Err, slice_get, codes, if◌then◌else◌}
use Rattle.std.specs.Str.{bytes_eq}
use Rattle.run_words.specs.Pathnames.{is_pathname}
use Rattle.world_model.specs.declared.order.Order.TheVariants as order
use Rattle.world_model.specs.declared.shape.Shape.{Shape}
use Rattle.session_text.specs.declared.tags.Tag.{Tag}
use Rattle.session_text.specs.declared.tags.Scope.{Scope}
use Rattle.session_text.specs.declared.fault.LineFault.{LineFault}
use Rattle.session_text.specs.declared.fault.LineFault.TheVariants as fault
use Rattle.session_text.specs.declared.fault.Wanted.{Wanted}
use Rattle.session_text.specs.declared.fault.Wanted.TheVariants as wanted
use Rattle.session_text.specs.declared.names.Name.{Name}
use Rattle.session_text.specs.declared.names.Name.TheVariants as name
use Rattle.session_text.specs.declared.command.BlobSource.{BlobSource}
use Rattle.session_text.specs.declared.command.BlobSource.TheVariants as source
use Rattle.session_text.specs.declared.command.IdWord.{IdWord}
use Rattle.session_text.specs.declared.command.IdWord.TheVariants as id
use Rattle.session_text.specs.declared.command.Command.{Command}
use Rattle.session_text.specs.declared.command.Command.TheVariants as command
use Rattle.session_text.specs.Names.{name_at}
use Rattle.session_text.specs.Holders.{when, node_of, partition_of, holds, are_peers}
use Rattle.session_text.specs.Spelling.{longest_line}
use Rattle.session_text.specs.Tags.{is_used_tag, is_put_tag}
pub use Rattle.session_text.specs.Texts.{bytes_of_digits}
use Rattle.session_text.specs.Texts.{number_at, words_of, is_nothing, is_tag, is_type, id_of_digits}

infixl 10 ◌>>=◌
abbrev pub ◌>>=◌ : {A B : Type 0} → Result A LineFault → (A → Result B LineFault) → Result B LineFault
(Ok x) >>= next = next x
(Err e) >>= next = Err e

-- what is read, where the test holds
abbrev pub where_true : {A : Type 0} → Bool → LineFault → Result A LineFault → Result A LineFault
where_true test refusal read = if test then read else Err refusal

-- What a function answered is what reading gives, unless memory ran out.
abbrev pub Gives : {A : Type 0} → Result A LineFault → Result A LineFault → Type 0
Gives (Ok x) read = read ≡ Ok x
Gives (Err e) read = e ≢ fault.Memory → read ≡ Err e

abbrev pub found_or : {A : Type 0} → Option A → LineFault → Result A LineFault
found_or (Some x) refusal = Ok x
found_or None refusal = Err refusal

-- What the word at a place is read as. Where there is none, or it isn't read, this had to stand there.
abbrev pub read_at : {A : Type 0} → (List ℕ → Option A) → Wanted → List (List ℕ) → ℕ → Result A LineFault
read_at of wanted words place = found_or (option_and_then of (slice_get words place)) (fault.Word place wanted)

abbrev pub is_text : Option (List ℕ) → List ℕ → Bool
is_text (Some word) text = bytes_eq word text
is_text None text = false

-- this word stands at a place
abbrev pub has_word : List (List ℕ) → ℕ → List ℕ → Bool
has_word words place text = is_text (slice_get words place) text

-- the command, where the line has no word at the place
abbrev pub ended : List (List ℕ) → ℕ → Command → Result Command LineFault
ended words place made = where_true (nat_le (length words) place) (fault.Word place wanted.End) (Ok made)

-- ---- what a word is read as

abbrev pub new_tag_of : List Tag → List ℕ → Option (List ℕ)
new_tag_of tags word = when (is_tag word && not (is_used_tag tags word)) word

abbrev pub used_tag_of : List Tag → List ℕ → Option (List ℕ)
used_tag_of tags word = when (is_used_tag tags word) word

-- what stands behind the `$` that a word begins with
abbrev pub behind_dollar : List ℕ → Option (List ℕ)
behind_dollar [] = None
behind_dollar (c ∷ tag) = if c == 36 then Some tag else None

abbrev pub id_word_by : Option (List ℕ) → Option IdWord
id_word_by bytes = option_map (λ b. id.Id b) bytes

abbrev pub id_word_behind : List Tag → List ℕ → Option (List ℕ) → Option IdWord
id_word_behind tags word (Some tag) = when (is_put_tag tags tag) (id.Tag tag)
id_word_behind tags word None = id_word_by (id_of_digits word)

-- `$` and the tag of a put line before, or the 40 digits of an id
abbrev pub id_word_of : List Tag → List ℕ → Option IdWord
id_word_of tags word = id_word_behind tags word (behind_dollar word)

abbrev pub metadata_within : List ℕ → Option (List ℕ)
metadata_within bytes = when (nat_le (length bytes) 1024) bytes

abbrev pub metadata_of : List ℕ → Option (List ℕ)
metadata_of word = option_and_then metadata_within (bytes_of_digits word)

abbrev pub file_name_of : List ℕ → Option (List ℕ)
file_name_of word = when (is_pathname word) word

abbrev pub type_of : List ℕ → Option (List ℕ)
type_of word = when (is_type word) word

-- ---- the parts of a line

-- `hex` and digits, or `file` and a name
unfoldable pub source_in : List (List ℕ) → ℕ → Result BlobSource LineFault
source_in words place =
    if has_word words place (codes "hex") then (read_at bytes_of_digits wanted.Digits words (place + 1) >>= λ bytes. Ok (source.Line bytes))
    else (if has_word words place (codes "file") then (read_at file_name_of wanted.FileName words (place + 1) >>= λ name. Ok (source.File name))
    else Err (fault.Word place wanted.SourceForm))

-- `type` and a type, or no type
unfoldable pub type_option : List (List ℕ) → ℕ → Result (List ℕ) LineFault
type_option words place = if has_word words place (codes "type") then read_at type_of wanted.BlobType words (place + 1) else Ok []

-- `meta` and metadata, or no metadata
unfoldable pub metadata_option : List (List ℕ) → ℕ → Result (List ℕ) LineFault
metadata_option words place = if has_word words place (codes "meta") then read_at metadata_of wanted.Metadata words (place + 1) else Ok []

-- `file` and a name, or no name
unfoldable pub file_option : List (List ℕ) → ℕ → Result (Option (List ℕ)) LineFault
file_option words place = if has_word words place (codes "file") then (read_at file_name_of wanted.FileName words (place + 1) >>= λ name. Ok (Some name)) else Ok None

-- the place behind an optional word and the one that belongs to it, where the word stands at the place
abbrev pub behind_option : List (List ℕ) → ℕ → List ℕ → ℕ
behind_option words place text = if has_word words place text then place + 2 else place

-- FROM and LEN; or no range, at the end of a line or before `file`
unfoldable pub range_in : List (List ℕ) → ℕ → Result (Option (ℕ × ℕ)) LineFault
range_in words place =
    if nat_le (length words) place || has_word words place (codes "file") then Ok None
    else (read_at number_at wanted.Number words place >>= λ from. read_at number_at wanted.Number words (place + 1) >>= λ len. Ok (Some (from, len)))

abbrev pub behind_range : Option (ℕ × ℕ) → ℕ → ℕ
behind_range (Some range) place = place + 2
behind_range None place = place

-- ---- the lines, by the name that they begin with

unfoldable pub put_in : List Tag → List (List ℕ) → Result Command LineFault
put_in tags words = do
  tag ← read_at (new_tag_of tags) wanted.NewTag words 1
  source ← source_in words 2
  ctype ← type_option words 4
  meta ← metadata_option words (behind_option words 4 (codes "type"))
  ended words (behind_option words (behind_option words 4 (codes "type")) (codes "meta")) (command.Put tag source ctype meta)

unfoldable pub get_in : List Tag → List (List ℕ) → Result Command LineFault
get_in tags words = do
  tag ← read_at (new_tag_of tags) wanted.NewTag words 1
  id ← read_at (id_word_of tags) wanted.Id words 2
  range ← range_in words 3
  file ← file_option words (behind_range range 3)
  ended words (behind_option words (behind_range range 3) (codes "file")) (command.Get tag id range file)

unfoldable pub info_in : List Tag → List (List ℕ) → Result Command LineFault
info_in tags words = do
  tag ← read_at (new_tag_of tags) wanted.NewTag words 1
  id ← read_at (id_word_of tags) wanted.Id words 2
  ended words 3 (command.Info tag id)

unfoldable pub delete_in : List Tag → List (List ℕ) → Result Command LineFault
delete_in tags words = do
  tag ← read_at (new_tag_of tags) wanted.NewTag words 1
  id ← read_at (id_word_of tags) wanted.Id words 2
  ended words 3 (command.Delete tag id)

unfoldable pub cancel_in : List Tag → List (List ℕ) → Result Command LineFault
cancel_in tags words = do
  tag ← read_at (used_tag_of tags) wanted.UsedTag words 1
  ended words 2 (command.Cancel tag)

unfoldable pub wait_in : List Tag → List (List ℕ) → Result Command LineFault
wait_in tags words =
    if nat_le (length words) 1 then Ok (command.Wait None)
    else (read_at (used_tag_of tags) wanted.UsedTag words 1 >>= λ tag. ended words 2 (command.Wait (Some tag)))

unfoldable pub drain_in : Shape → Bool → List (List ℕ) → Result Command LineFault
drain_in shape on words = do
  node ← read_at (node_of shape) wanted.Node words 1
  ended words 2 (command.Drain node on)

unfoldable pub stop_in : Shape → List (List ℕ) → Result Command LineFault
stop_in shape words = do
  node ← read_at (node_of shape) wanted.Node words 1
  ended words 2 (command.Admin (order.Stop node))

unfoldable pub restart_in : Shape → List (List ℕ) → Result Command LineFault
restart_in shape words = do
  node ← read_at (node_of shape) wanted.Node words 1
  ended words 2 (command.Admin (order.Restart node))

unfoldable pub pull_in : Shape → List (List ℕ) → Result Command LineFault
pull_in shape words = do
  a ← read_at (node_of shape) wanted.Node words 1
  b ← read_at (node_of shape) wanted.Node words 2
  partition ← read_at (partition_of shape) wanted.Partition words 3
  where_true (are_peers shape partition a b) (fault.Word 3 wanted.Holders) (ended words 4 (command.Admin (order.Pull a b partition)))

unfoldable pub compact_in : Shape → List (List ℕ) → Result Command LineFault
compact_in shape words = do
  node ← read_at (node_of shape) wanted.Node words 1
  partition ← read_at (partition_of shape) wanted.Partition words 2
  where_true (holds shape partition node) (fault.Word 2 wanted.Holders) (ended words 3 (command.Admin (order.Compact node partition)))

unfoldable pub level_in : Shape → List (List ℕ) → Result Command LineFault
level_in shape words = do
  partition ← read_at (partition_of shape) wanted.Partition words 1
  a ← read_at (node_of shape) wanted.Node words 2
  b ← read_at (node_of shape) wanted.Node words 3
  where_true (are_peers shape partition a b) (fault.Word 3 wanted.Holders) (ended words 4 (command.Admin (order.Level partition a b)))

unfoldable pub command_behind : Scope → Name → List (List ℕ) → Result Command LineFault
command_behind scope name.Put words = put_in scope.tags words
command_behind scope name.Get words = get_in scope.tags words
command_behind scope name.Info words = info_in scope.tags words
command_behind scope name.Delete words = delete_in scope.tags words
command_behind scope name.Cancel words = cancel_in scope.tags words
command_behind scope name.Wait words = wait_in scope.tags words
command_behind scope name.Drain words = drain_in scope.shape true words
command_behind scope name.Undrain words = drain_in scope.shape false words
command_behind scope name.Stop words = stop_in scope.shape words
command_behind scope name.Restart words = restart_in scope.shape words
command_behind scope name.Pull words = pull_in scope.shape words
command_behind scope name.Compact words = compact_in scope.shape words
command_behind scope name.Level words = level_in scope.shape words
command_behind scope name.End words = ended words 1 command.End

unfoldable pub command_in : Scope → List (List ℕ) → Result Command LineFault
command_in scope words =
    if is_nothing words then Ok command.Skip
    else (read_at name_at wanted.CommandName words 0 >>= λ name. command_behind scope name words)

-- What a line is read as: its command, or why it spells none.
unfoldable pub line_in : Scope → List ℕ → Result Command LineFault
line_in scope line = where_true (not (nat_lt longest_line (length line))) fault.TooLong (command_in scope (words_of line))
