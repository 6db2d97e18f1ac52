-- Which lines spell a command, said by the command.
use Rattle.std.specs.Prelude.{◌≡◌, ◌≢◌, ◌⊎◌, ℕ, ◌+◌, ◌<◌, ◌≤◌, List, [], ◌∷◌, ◌++◌, length, take, Bool, true, false, Option, None, Some, Ok, codes}
use Rattle.hex.specs.Hex.{decode_of, encode_lower}
use Rattle.blob_id.specs.Id.{IsId}
use Rattle.run_words.specs.Pathnames.{is_pathname}
use Rattle.world_model.specs.declared.order.Order.{Order}
use Rattle.world_model.specs.declared.order.Order.TheVariants as order
use Rattle.world_model.specs.declared.shape.Shape.{Shape}
use Rattle.session_text.specs.declared.fault.LineFault.{LineFault}
use Rattle.session_text.specs.declared.fault.LineFault.TheVariants as fault
use Rattle.session_text.specs.declared.tags.Tag.{Tag}
use Rattle.session_text.specs.declared.tags.Scope.{Scope}
use Rattle.session_text.specs.declared.command.BlobSource.{BlobSource}
use Rattle.session_text.specs.declared.command.BlobSource.TheVariants as source
use Rattle.session_text.specs.declared.command.IdWord.{IdWord}
use Rattle.session_text.specs.declared.command.IdWord.TheVariants as id
use Rattle.session_text.specs.declared.command.Command.{Command}
use Rattle.session_text.specs.declared.command.Command.TheVariants as command
use Rattle.session_text.specs.Tags.{is_used_tag, is_put_tag}
use Rattle.session_text.specs.Texts.{IsNumeral, words_of, is_tag, is_type}
use Rattle.session_text.specs.Holders.{holds}

-- the bytes that a line has at most, without its end
abbrev pub longest_line : ℕ
longest_line = 1048576

-- no words, or a first word that begins with `#`
abbrev pub IsNothing : List (List ℕ) → Type 0
IsNothing words = (words ≡ []) ⊎ ((word : List ℕ) × (more : List (List ℕ)) × (words ≡ (35 ∷ word) ∷ more))

-- a tag that no operation line before has
abbrev pub IsNewTag : List Tag → List ℕ → Type 0
IsNewTag tags tag = (is_tag tag ≡ true) × (is_used_tag tags tag ≡ false)

-- `-` for no bytes, or an even number of digits, 2 or more, in either case
abbrev pub IsHex : List ℕ → List ℕ → Type 0
IsHex text bytes = ((text ≡ codes "-") × (bytes ≡ [])) ⊎ ((0 < length text) × (decode_of text ≡ Ok bytes))

-- `$` and the tag of a put line before, or the 40 digits of an id, in lower case
abbrev pub SpellsId : List Tag → IdWord → List ℕ → Type 0
SpellsId tags (id.Tag tag) word = (word ≡ 36 ∷ tag) × (is_put_tag tags tag ≡ true)
SpellsId tags (id.Id bytes) word = (word ≡ encode_lower bytes) × IsId bytes

-- `hex` and digits, or `file` and a name
abbrev pub SpellsSource : BlobSource → List (List ℕ) → Type 0
SpellsSource (source.Line bytes) words = (digits : List ℕ) × (words ≡ codes "hex" ∷ digits ∷ []) × IsHex digits bytes
SpellsSource (source.File name) words = (words ≡ codes "file" ∷ name ∷ []) × (is_pathname name ≡ true)

-- `type` and a type, or nothing for none
abbrev pub SpellsType : List ℕ → List (List ℕ) → Type 0
SpellsType [] words = words ≡ []
SpellsType (byte ∷ bytes) words = (words ≡ codes "type" ∷ (byte ∷ bytes) ∷ []) × (is_type (byte ∷ bytes) ≡ true)

-- `meta` and digits of at most 1,024 bytes, or nothing for none
abbrev pub SpellsMetadata : List ℕ → List (List ℕ) → Type 0
SpellsMetadata meta words = ((words ≡ []) × (meta ≡ [])) ⊎ ((digits : List ℕ) × (words ≡ codes "meta" ∷ digits ∷ []) × IsHex digits meta × (length meta ≤ 1024))

-- FROM and LEN, or nothing for no range
abbrev pub SpellsRange : Option (ℕ × ℕ) → List (List ℕ) → Type 0
SpellsRange None words = words ≡ []
SpellsRange (Some range) words = (from : List ℕ) × (len : List ℕ) × (words ≡ from ∷ len ∷ []) × IsNumeral from range.0 × IsNumeral len range.1

-- `file` and a name, or nothing for none
abbrev pub SpellsFile : Option (List ℕ) → List (List ℕ) → Type 0
SpellsFile None words = words ≡ []
SpellsFile (Some name) words = (words ≡ codes "file" ∷ name ∷ []) × (is_pathname name ≡ true)

-- the number of a node of the shape, from 1
abbrev pub SpellsNode : Shape → ℕ → List ℕ → Type 0
SpellsNode shape node digits = IsNumeral digits node × (1 ≤ node) × (node ≤ shape.nodes)

-- the number of a partition of the shape, from 0
abbrev pub SpellsPartition : Shape → ℕ → List ℕ → Type 0
SpellsPartition shape partition digits = IsNumeral digits partition × (partition < shape.partitions)

-- two nodes that hold the partition
abbrev pub ArePeers : Shape → ℕ → ℕ → ℕ → Type 0
ArePeers shape partition a b = (a ≢ b) × (holds shape partition a ≡ true) × (holds shape partition b ≡ true)

-- `drain`, or `undrain`
abbrev pub drain_word : Bool → List ℕ
drain_word true = codes "drain"
drain_word false = codes "undrain"

-- `stop N`, `restart N`, `pull A B P`, `compact N P` or `level P A B`
abbrev pub SpellsOrder : Shape → Order → List (List ℕ) → Type 0
SpellsOrder shape (order.Stop node) words = (digits : List ℕ) × (words ≡ codes "stop" ∷ digits ∷ []) × SpellsNode shape node digits
SpellsOrder shape (order.Restart node) words = (digits : List ℕ) × (words ≡ codes "restart" ∷ digits ∷ []) × SpellsNode shape node digits
SpellsOrder shape (order.Pull a b partition) words =
    (m : List ℕ) × (n : List ℕ) × (p : List ℕ) × (words ≡ codes "pull" ∷ m ∷ n ∷ p ∷ [])
    × SpellsNode shape a m × SpellsNode shape b n × SpellsPartition shape partition p × ArePeers shape partition a b
SpellsOrder shape (order.Compact node partition) words =
    (n : List ℕ) × (p : List ℕ) × (words ≡ codes "compact" ∷ n ∷ p ∷ []) × SpellsNode shape node n × SpellsPartition shape partition p × (holds shape partition node ≡ true)
SpellsOrder shape (order.Level partition a b) words =
    (p : List ℕ) × (m : List ℕ) × (n : List ℕ) × (words ≡ codes "level" ∷ p ∷ m ∷ n ∷ [])
    × SpellsPartition shape partition p × SpellsNode shape a m × SpellsNode shape b n × ArePeers shape partition a b

-- The words of each command. `put TAG hex HEX` or `put TAG file NAME`, then `type TYPE` and `meta HEX` or none of them; `get TAG ID`, then FROM LEN
-- and `file NAME` or none of them; `info TAG ID`, `del TAG ID`, `cancel TAG`, `wait`, `wait TAG`, `drain N`, `undrain N`, an order, `end`, or nothing.
abbrev pub SpellsByWords : Scope → Command → List (List ℕ) → Type 0
SpellsByWords scope command.Skip words = IsNothing words
SpellsByWords scope (command.Put tag source ctype meta) words =
    (from : List (List ℕ)) × (typed : List (List ℕ)) × (metas : List (List ℕ)) × (words ≡ codes "put" ∷ tag ∷ (from ++ (typed ++ metas)))
    × IsNewTag scope.tags tag × SpellsSource source from × SpellsType ctype typed × SpellsMetadata meta metas
SpellsByWords scope (command.Get tag id range file) words =
    (word : List ℕ) × (ranged : List (List ℕ)) × (named : List (List ℕ)) × (words ≡ codes "get" ∷ tag ∷ word ∷ (ranged ++ named))
    × IsNewTag scope.tags tag × SpellsId scope.tags id word × SpellsRange range ranged × SpellsFile file named
SpellsByWords scope (command.Info tag id) words = (word : List ℕ) × (words ≡ codes "info" ∷ tag ∷ word ∷ []) × IsNewTag scope.tags tag × SpellsId scope.tags id word
SpellsByWords scope (command.Delete tag id) words = (word : List ℕ) × (words ≡ codes "del" ∷ tag ∷ word ∷ []) × IsNewTag scope.tags tag × SpellsId scope.tags id word
SpellsByWords scope (command.Cancel tag) words = (words ≡ codes "cancel" ∷ tag ∷ []) × (is_used_tag scope.tags tag ≡ true)
SpellsByWords scope (command.Wait None) words = words ≡ codes "wait" ∷ []
SpellsByWords scope (command.Wait (Some tag)) words = (words ≡ codes "wait" ∷ tag ∷ []) × (is_used_tag scope.tags tag ≡ true)
SpellsByWords scope (command.Drain node on) words = (digits : List ℕ) × (words ≡ drain_word on ∷ digits ∷ []) × SpellsNode scope.shape node digits
SpellsByWords scope (command.Admin order) words = SpellsOrder scope.shape order words
SpellsByWords scope command.End words = words ≡ codes "end" ∷ []

-- The line, without its end, spells the command, where these tags stand before it.
abbrev pub Spells : Scope → Command → List ℕ → Type 0
Spells scope command line = (length line ≤ longest_line) × SpellsByWords scope command (words_of line)

-- Why a line may be refused. A word is refused only where no good line begins with the same words, up to this one.
abbrev pub IsRefusal : Scope → List ℕ → LineFault → Type 0
IsRefusal scope line fault.TooLong = longest_line < length line
IsRefusal scope line (fault.Word place wanted) = (other : List ℕ) (command : Command) → take (place + 1) (words_of line) ≡ take (place + 1) (words_of other) → Spells scope command other → ⊥
IsRefusal scope line fault.Memory = Unit {0}
