-- A line for each command.
use Rattle.std.specs.Prelude.{◌≡◌, ℕ, ◌^◌, ◌<◌, ◌≤◌, List, [], ◌∷◌, ◌++◌, length, true, Option, None, Some, codes}
use Rattle.std.specs.Fmt.{decimal}
use Rattle.std.specs.List.{AllByRecursion}
use Rattle.hex.specs.Hex.{IsBytes, encode_lower}
use Rattle.blob_id.specs.Id.{IsId}
use Rattle.run_words.specs.Pathnames.{is_pathname}
use Rattle.world_model.specs.declared.order.Order.{Order}
use Rattle.world_model.specs.declared.order.Order.TheVariants as order
use Rattle.world_model.specs.declared.shape.Shape.{Shape}
use Rattle.session_text.specs.declared.tags.Tag.{Tag}
use Rattle.session_text.specs.declared.tags.Scope.{Scope}
use Rattle.session_text.specs.declared.command.BlobSource.{BlobSource}
use Rattle.session_text.specs.declared.command.BlobSource.TheVariants as source
use Rattle.session_text.specs.declared.command.IdWord.{IdWord}
use Rattle.session_text.specs.declared.command.IdWord.TheVariants as id
use Rattle.session_text.specs.declared.command.Command.{Command}
use Rattle.session_text.specs.declared.command.Command.TheVariants as command
use Rattle.session_text.specs.Tags.{is_used_tag, is_put_tag}
use Rattle.session_text.specs.Texts.{is_tag, is_type, joined}
use Rattle.session_text.specs.Holders.{holds}
use Rattle.session_text.specs.Outcomes.{spelled_bytes}
use Rattle.session_text.specs.Spelling.{IsNewTag, ArePeers, drain_word}

-- ---- the words that a command is written with

abbrev pub source_part : BlobSource → List (List ℕ)
source_part (source.Line bytes) = codes "hex" ∷ spelled_bytes bytes ∷ []
source_part (source.File name) = codes "file" ∷ name ∷ []

abbrev pub type_part : List ℕ → List (List ℕ)
type_part [] = []
type_part (byte ∷ bytes) = codes "type" ∷ (byte ∷ bytes) ∷ []

abbrev pub metadata_part : List ℕ → List (List ℕ)
metadata_part [] = []
metadata_part (byte ∷ bytes) = codes "meta" ∷ encode_lower (byte ∷ bytes) ∷ []

abbrev pub range_part : Option (ℕ × ℕ) → List (List ℕ)
range_part None = []
range_part (Some range) = decimal range.0 ∷ decimal range.1 ∷ []

abbrev pub file_part : Option (List ℕ) → List (List ℕ)
file_part None = []
file_part (Some name) = codes "file" ∷ name ∷ []

abbrev pub id_text : IdWord → List ℕ
id_text (id.Id bytes) = encode_lower bytes
id_text (id.Tag tag) = 36 ∷ tag

abbrev pub order_part : Order → List (List ℕ)
order_part (order.Stop node) = codes "stop" ∷ decimal node ∷ []
order_part (order.Restart node) = codes "restart" ∷ decimal node ∷ []
order_part (order.Pull a b partition) = codes "pull" ∷ decimal a ∷ decimal b ∷ decimal partition ∷ []
order_part (order.Compact node partition) = codes "compact" ∷ decimal node ∷ decimal partition ∷ []
order_part (order.Level partition a b) = codes "level" ∷ decimal partition ∷ decimal a ∷ decimal b ∷ []

abbrev pub command_words : Command → List (List ℕ)
command_words command.Skip = []
command_words (command.Put tag source ctype meta) = codes "put" ∷ tag ∷ (source_part source ++ (type_part ctype ++ metadata_part meta))
command_words (command.Get tag id range file) = codes "get" ∷ tag ∷ id_text id ∷ (range_part range ++ file_part file)
command_words (command.Info tag id) = codes "info" ∷ tag ∷ id_text id ∷ []
command_words (command.Delete tag id) = codes "del" ∷ tag ∷ id_text id ∷ []
command_words (command.Cancel tag) = codes "cancel" ∷ tag ∷ []
command_words (command.Wait None) = codes "wait" ∷ []
command_words (command.Wait (Some tag)) = codes "wait" ∷ tag ∷ []
command_words (command.Drain node on) = drain_word on ∷ decimal node ∷ []
command_words (command.Admin order) = order_part order
command_words command.End = codes "end" ∷ []

-- the line of a command, with one space between its words
abbrev pub command_line : Command → List ℕ
command_line command = joined (command_words command)

-- ---- which commands a script may have

-- the names of the tags are tags
abbrev pub AreTags : List Tag → Type 0
AreTags tags = AllByRecursion (λ tag. is_tag tag.name ≡ true) tags

abbrev pub IsSource : BlobSource → Type 0
IsSource (source.Line bytes) = IsBytes bytes
IsSource (source.File name) = is_pathname name ≡ true

-- a type, or none
abbrev pub IsTypeOrNone : List ℕ → Type 0
IsTypeOrNone [] = Unit {0}
IsTypeOrNone (byte ∷ bytes) = is_type (byte ∷ bytes) ≡ true

-- an id, or the tag of a put line before
abbrev pub IsNamed : List Tag → IdWord → Type 0
IsNamed tags (id.Id bytes) = IsId bytes
IsNamed tags (id.Tag tag) = is_put_tag tags tag ≡ true

-- two numbers of 64 bits, or none
abbrev pub IsRange : Option (ℕ × ℕ) → Type 0
IsRange None = Unit {0}
IsRange (Some range) = (range.0 < 2 ^ 64) × (range.1 < 2 ^ 64)

-- the name of a file, or none
abbrev pub IsFileOrNone : Option (List ℕ) → Type 0
IsFileOrNone None = Unit {0}
IsFileOrNone (Some name) = is_pathname name ≡ true

abbrev pub IsNode : Shape → ℕ → Type 0
IsNode shape node = (1 ≤ node) × (node ≤ shape.nodes)

abbrev pub IsOrder : Shape → Order → Type 0
IsOrder shape (order.Stop node) = IsNode shape node
IsOrder shape (order.Restart node) = IsNode shape node
IsOrder shape (order.Pull a b partition) = IsNode shape a × IsNode shape b × (partition < shape.partitions) × ArePeers shape partition a b
IsOrder shape (order.Compact node partition) = IsNode shape node × (partition < shape.partitions) × (holds shape partition node ≡ true)
IsOrder shape (order.Level partition a b) = (partition < shape.partitions) × IsNode shape a × IsNode shape b × ArePeers shape partition a b

-- What a command names is there, and its values lie in their ranges.
abbrev pub IsCommand : Scope → Command → Type 0
IsCommand scope command.Skip = Unit {0}
IsCommand scope (command.Put tag source ctype meta) = IsNewTag scope.tags tag × IsSource source × IsTypeOrNone ctype × IsBytes meta × (length meta ≤ 1024)
IsCommand scope (command.Get tag id range file) = IsNewTag scope.tags tag × IsNamed scope.tags id × IsRange range × IsFileOrNone file
IsCommand scope (command.Info tag id) = IsNewTag scope.tags tag × IsNamed scope.tags id
IsCommand scope (command.Delete tag id) = IsNewTag scope.tags tag × IsNamed scope.tags id
IsCommand scope (command.Cancel tag) = is_used_tag scope.tags tag ≡ true
IsCommand scope (command.Wait None) = Unit {0}
IsCommand scope (command.Wait (Some tag)) = is_used_tag scope.tags tag ≡ true
IsCommand scope (command.Drain node on) = IsNode scope.shape node
IsCommand scope (command.Admin order) = IsOrder scope.shape order
IsCommand scope command.End = Unit {0}
