-- Each command of a script has a line that spells it.
use Rattle.std.proofs.Common.{◌≡◌, inl, inr, ℕ, ◌+◌, ◌<◌, ◌≤◌, ◌^◌, ◌&&◌, nat_le, Bool, true, false, codes, Option, Some, None, List, [], ◌∷◌, ◌++◌, length, refl, sym, ap, subst, arith, true≢false, cond, option_map}
use Rattle.std.specs.Fmt.{decimal}
use Rattle.std.specs.List.{AllByRecursion, list_all}
use Rattle.std.specs.Str.{bytes_eq}
use Rattle.std.proofs.lemmas.Bool.Decides.{nat_tests}
use Rattle.std.proofs.lemmas.Fmt.{decimal_is_IsNumeral, length-decimal-le}
use Rattle.hex.specs.Hex.{IsBytes, encode_lower}
use Rattle.hex.proofs.HexLemmas.{decode_of-encode_lower, decode_of-ok}
use Rattle.blob_id.specs.Blob.{is_type_byte}
use Rattle.run_words.specs.Pathnames.{is_path_byte, is_pathname}
use Rattle.world_model.specs.Shape.{IsShape}
use Rattle.world_model.specs.declared.order.Order.{Order}
use Rattle.world_model.specs.declared.order.Order.TheVariants as order
use Rattle.world_model.specs.declared.shape.Shape.{Shape}
use Rattle.session_text.specs.declared.tags.Tag.{Tag}
use Rattle.session_text.specs.declared.tags.Scope.{Scope}
use Rattle.session_text.specs.declared.command.BlobSource.{BlobSource}
use Rattle.session_text.specs.declared.command.BlobSource.TheVariants as source
use Rattle.session_text.specs.declared.command.IdWord.{IdWord}
use Rattle.session_text.specs.declared.command.IdWord.TheVariants as id
use Rattle.session_text.specs.declared.command.Command.{Command}
use Rattle.session_text.specs.declared.command.Command.TheVariants as command
use Rattle.session_text.specs.Tags.{tag_number, is_number, is_used_tag, is_put_number, is_put_tag}
use Rattle.session_text.specs.Texts.{is_digit, IsNumeral, is_letter, is_tag_byte, is_tag, is_type, words_of}
use Rattle.session_text.specs.Outcomes.{spelled_bytes}
use Rattle.session_text.specs.Spelling.{longest_line, IsHex, SpellsId, SpellsSource, SpellsType, SpellsMetadata, SpellsRange, SpellsFile, SpellsNode, SpellsPartition, drain_word, SpellsOrder, SpellsByWords, Spells}
use Rattle.session_text.specs.Lines.{AreTags, source_part, type_part, metadata_part, range_part, file_part, id_text, order_part, command_words, command_line, IsSource, IsTypeOrNone, IsNamed, IsRange, IsFileOrNone, IsNode, IsOrder, IsCommand}
use Rattle.session_text.proofs.ChoiceLemmas.{both, same_text}
use Rattle.session_text.proofs.JoinLemmas.{is_mark, IsPlain, every_byte, words_joined, decimal_all, decimal_plain, hex_plain}
use Rattle.session_text.proofs.OutcomePartLemmas.{id_plain, spelled_plain, type_mark}

-- ---- the words spell the command

digit : (d : ℕ) → d < 10 → is_digit (48 + d) ≡ true
digit d few = grind (arith, nat_tests)

numeral : (n : ℕ) → n < 2 ^ 64 → IsNumeral (decimal n) n
numeral n small =
    let least = (decimal_plain n small).0 in
    let most = length-decimal-le 20 n (omega arith) (omega arith) small in
    let not_less : nat_le 1 (length (decimal n)) ≡ true = grind (arith, nat_tests) in
    let not_more : nat_le (length (decimal n)) 20 ≡ true = grind (arith, nat_tests) in
    (rw (not_less, not_more, decimal_all is_digit digit n small) refl, (decimal_is_IsNumeral n small).1, small)

hex_spelled : (bytes : List ℕ) → IsBytes bytes → IsHex (spelled_bytes bytes) bytes
hex_spelled [] each = inl (refl, refl)
hex_spelled (b ∷ bytes) each = inr ((hex_plain (b ∷ bytes) (omega arith) each).0, decode_of-encode_lower (b ∷ bytes) each)

source_spelled : (s : BlobSource) → IsSource s → SpellsSource s (source_part s)
source_spelled (source.Line bytes) is = (spelled_bytes bytes, refl, hex_spelled bytes is)
source_spelled (source.File name) is = (refl, is)

type_spelled : (ctype : List ℕ) → IsTypeOrNone ctype → SpellsType ctype (type_part ctype)
type_spelled [] is = refl
type_spelled (b ∷ bytes) is = (refl, is)

metadata_spelled : (meta : List ℕ) → IsBytes meta → length meta ≤ 1024 → SpellsMetadata meta (metadata_part meta)
metadata_spelled [] each few = inl (refl, refl)
metadata_spelled (b ∷ bytes) each few = inr (encode_lower (b ∷ bytes), refl, hex_spelled (b ∷ bytes) each, few)

id_spelled : (tags : List Tag) (i : IdWord) → IsNamed tags i → SpellsId tags i (id_text i)
id_spelled tags (id.Id bytes) is = (refl, is)
id_spelled tags (id.Tag tag) is = (refl, is)

range_spelled : (range : Option (ℕ × ℕ)) → IsRange range → SpellsRange range (range_part range)
range_spelled None is = refl
range_spelled (Some range) is = (decimal range.0, decimal range.1, refl, numeral range.0 is.0, numeral range.1 is.1)

file_spelled : (file : Option (List ℕ)) → IsFileOrNone file → SpellsFile file (file_part file)
file_spelled None is = refl
file_spelled (Some name) is = (refl, is)

small_node : (shape : Shape) (node : ℕ) → IsShape shape → IsNode shape node → node < 2 ^ 64
small_node shape node fits is = omega (arith, fits.nodes, is.1)

small_partition : (shape : Shape) (partition : ℕ) → IsShape shape → partition < shape.partitions → partition < 2 ^ 64
small_partition shape partition fits is = omega (arith, fits.partitions, is)

node_spelled : (shape : Shape) (node : ℕ) → IsShape shape → IsNode shape node → SpellsNode shape node (decimal node)
node_spelled shape node fits is = (numeral node (small_node shape node fits is), is.0, is.1)

partition_spelled : (shape : Shape) (partition : ℕ) → IsShape shape → partition < shape.partitions → SpellsPartition shape partition (decimal partition)
partition_spelled shape partition fits is = (numeral partition (small_partition shape partition fits is), is)

order_spelled : (shape : Shape) (o : Order) → IsShape shape → IsOrder shape o → SpellsOrder shape o (order_part o)
order_spelled shape (order.Stop node) fits is = (decimal node, refl, node_spelled shape node fits is)
order_spelled shape (order.Restart node) fits is = (decimal node, refl, node_spelled shape node fits is)
order_spelled shape (order.Pull a b partition) fits (a_is, b_is, p_is, peers) =
    (decimal a, decimal b, decimal partition, refl, node_spelled shape a fits a_is, node_spelled shape b fits b_is, partition_spelled shape partition fits p_is, peers)
order_spelled shape (order.Compact node partition) fits (n_is, p_is, held) = (decimal node, decimal partition, refl, node_spelled shape node fits n_is, partition_spelled shape partition fits p_is, held)
order_spelled shape (order.Level partition a b) fits (p_is, a_is, b_is, peers) =
    (decimal partition, decimal a, decimal b, refl, partition_spelled shape partition fits p_is, node_spelled shape a fits a_is, node_spelled shape b fits b_is, peers)

words_spelled : (scope : Scope) (c : Command) → IsShape scope.shape → IsCommand scope c → SpellsByWords scope c (command_words c)
words_spelled scope command.Skip fits is = inl refl
words_spelled scope (command.Put tag s ctype meta) fits (new, s_is, t_is, each, few) =
    (source_part s, type_part ctype, metadata_part meta, refl, new, source_spelled s s_is, type_spelled ctype t_is, metadata_spelled meta each few)
words_spelled scope (command.Get tag i range file) fits (new, i_is, r_is, f_is) =
    (id_text i, range_part range, file_part file, refl, new, id_spelled scope.tags i i_is, range_spelled range r_is, file_spelled file f_is)
words_spelled scope (command.Info tag i) fits is = (id_text i, refl, is.0, id_spelled scope.tags i is.1)
words_spelled scope (command.Delete tag i) fits is = (id_text i, refl, is.0, id_spelled scope.tags i is.1)
words_spelled scope (command.Cancel tag) fits is = (refl, is)
words_spelled scope (command.Wait None) fits is = refl
words_spelled scope (command.Wait (Some tag)) fits is = (refl, is)
words_spelled scope (command.Drain node on) fits is = (decimal node, refl, node_spelled scope.shape node fits is)
words_spelled scope (command.Admin o) fits is = order_spelled scope.shape o fits is
words_spelled scope command.End fits is = refl

-- ---- the words are plain

tag_mark : (b : ℕ) → is_tag_byte b ≡ true → is_mark b ≡ true
tag_mark b e = grind (arith, nat_tests)

letter_mark : (b : ℕ) → is_letter b ≡ true → is_mark b ≡ true
letter_mark b e = grind (arith, nat_tests)

tag_plain : (tag : List ℕ) → is_tag tag ≡ true → IsPlain tag
tag_plain [] e = absurd (true≢false (sym e))
tag_plain (b ∷ more) e =
    let p = both (is_letter b && nat_le (length more) 31) (list_all is_tag_byte more) e in
    let q = both (is_letter b) (nat_le (length more) 31) p.0 in
    (omega arith, rw (letter_mark b q.0, every_byte is_tag_byte is_mark tag_mark more p.1) refl)

path_mark : (b : ℕ) → is_path_byte b ≡ true → is_mark b ≡ true
path_mark b e = grind (arith, nat_tests)

path_plain : (name : List ℕ) → is_pathname name ≡ true → IsPlain name
path_plain name e =
    let within = both _ _ e in
    let bytes = both _ _ (both _ _ within.0).0 in
    let some : nat_le 1 (length name) ≡ true = (both (nat_le 1 (length name)) (nat_le (length name) 255) bytes.0).0 in
    (grind (arith, nat_tests), every_byte is_path_byte is_mark path_mark name bytes.1)

type_plain : (ctype : List ℕ) → is_type ctype ≡ true → IsPlain ctype
type_plain ctype e =
    let all = both _ _ (both _ _ e).0 in
    let some : nat_le 1 (length ctype) ≡ true = (both (nat_le 1 (length ctype)) (nat_le (length ctype) 64) all.0).0 in
    (grind (arith, nat_tests), every_byte is_type_byte is_mark type_mark ctype all.1)

-- a tag that a line before has is a tag
used_is_tag : (tags : List Tag) (name : List ℕ) → AreTags tags → is_used_tag tags name ≡ true → is_tag name ≡ true
used_is_tag [] name all used = absurd (true≢false (sym used))
used_is_tag (tag ∷ tags) name all used = by (bytes_eq tag.name name) (tag_number tags name) refl refl used (used_is_tag tags name all.1)
  where
    by : (t : Bool) (n : Option ℕ) → bytes_eq tag.name name ≡ t → tag_number tags name ≡ n → is_number (cond t (Some 1) (option_map (λ k. k + 1) n)) ≡ true → (is_used_tag tags name ≡ true → is_tag name ≡ true) → is_tag name ≡ true
    by true n same rest used more = subst (λ (w : List ℕ). is_tag w ≡ true) (same_text tag.name name same) all.0
    by false None same rest used more = absurd (true≢false (sym used))
    by false (Some n) same rest used more = more (ap is_number rest)

put_is_used : (tags : List Tag) (name : List ℕ) → is_put_tag tags name ≡ true → is_used_tag tags name ≡ true
put_is_used tags name put = by (tag_number tags name) put
  where
    by : (n : Option ℕ) → is_put_number tags n ≡ true → is_number n ≡ true
    by None put = absurd (true≢false (sym put))
    by (Some n) put = refl

named_plain : (tags : List Tag) (i : IdWord) → AreTags tags → IsNamed tags i → IsPlain (id_text i)
named_plain tags (id.Id bytes) all is = id_plain bytes is
named_plain tags (id.Tag tag) all is = (omega arith, rw (tag_plain tag (used_is_tag tags tag all (put_is_used tags tag is))).1 refl)

fixed : (word : List ℕ) → 0 < length word → list_all is_mark word ≡ true → IsPlain word
fixed word some marks = (some, marks)

source_plain : (s : BlobSource) → IsSource s → AllByRecursion IsPlain (source_part s)
source_plain (source.Line bytes) is = (fixed (codes "hex") (omega arith) refl, (spelled_plain bytes is, tt))
source_plain (source.File name) is = (fixed (codes "file") (omega arith) refl, (path_plain name is, tt))

type_part_plain : (ctype : List ℕ) → IsTypeOrNone ctype → AllByRecursion IsPlain (type_part ctype)
type_part_plain [] is = tt
type_part_plain (b ∷ bytes) is = (fixed (codes "type") (omega arith) refl, (type_plain (b ∷ bytes) is, tt))

metadata_plain : (meta : List ℕ) → IsBytes meta → AllByRecursion IsPlain (metadata_part meta)
metadata_plain [] each = tt
metadata_plain (b ∷ bytes) each = (fixed (codes "meta") (omega arith) refl, (hex_plain (b ∷ bytes) (omega arith) each, tt))

range_plain : (range : Option (ℕ × ℕ)) → IsRange range → AllByRecursion IsPlain (range_part range)
range_plain None is = tt
range_plain (Some range) is = (decimal_plain range.0 is.0, (decimal_plain range.1 is.1, tt))

file_plain : (file : Option (List ℕ)) → IsFileOrNone file → AllByRecursion IsPlain (file_part file)
file_plain None is = tt
file_plain (Some name) is = (fixed (codes "file") (omega arith) refl, (path_plain name is, tt))

all_of_both : (a b : List (List ℕ)) → AllByRecursion IsPlain a → AllByRecursion IsPlain b → AllByRecursion IsPlain (a ++ b)
all_of_both [] b first second = second
all_of_both (word ∷ a) b first second = (first.0, all_of_both a b first.1 second)

drain_plain : (on : Bool) → IsPlain (drain_word on)
drain_plain true = (omega arith, refl)
drain_plain false = (omega arith, refl)

node_plain : (shape : Shape) (node : ℕ) → IsShape shape → IsNode shape node → IsPlain (decimal node)
node_plain shape node fits is = decimal_plain node (small_node shape node fits is)

partition_plain : (shape : Shape) (partition : ℕ) → IsShape shape → partition < shape.partitions → IsPlain (decimal partition)
partition_plain shape partition fits is = decimal_plain partition (small_partition shape partition fits is)

order_plain : (shape : Shape) (o : Order) → IsShape shape → IsOrder shape o → AllByRecursion IsPlain (order_part o)
order_plain shape (order.Stop node) fits is = (fixed (codes "stop") (omega arith) refl, (node_plain shape node fits is, tt))
order_plain shape (order.Restart node) fits is = (fixed (codes "restart") (omega arith) refl, (node_plain shape node fits is, tt))
order_plain shape (order.Pull a b partition) fits is =
    (fixed (codes "pull") (omega arith) refl, (node_plain shape a fits is.0, (node_plain shape b fits is.1, (partition_plain shape partition fits is.2, tt))))
order_plain shape (order.Compact node partition) fits is = (fixed (codes "compact") (omega arith) refl, (node_plain shape node fits is.0, (partition_plain shape partition fits is.1, tt)))
order_plain shape (order.Level partition a b) fits is =
    (fixed (codes "level") (omega arith) refl, (partition_plain shape partition fits is.0, (node_plain shape a fits is.1, (node_plain shape b fits is.2, tt))))

words_plain : (scope : Scope) (c : Command) → IsShape scope.shape → AreTags scope.tags → IsCommand scope c → AllByRecursion IsPlain (command_words c)
words_plain scope command.Skip fits all is = tt
words_plain scope (command.Put tag s ctype meta) fits all (new, s_is, t_is, each, few) = (
  fixed (codes "put") (omega arith) refl,
  (
    tag_plain tag new.0,
    all_of_both (source_part s) (type_part ctype ++ metadata_part meta) (source_plain s s_is) (all_of_both (type_part ctype) (metadata_part meta) (type_part_plain ctype t_is) (metadata_plain meta each)),
  ),
)
words_plain scope (command.Get tag i range file) fits all (new, i_is, r_is, f_is) =
    (fixed (codes "get") (omega arith) refl, (tag_plain tag new.0, (named_plain scope.tags i all i_is, all_of_both (range_part range) (file_part file) (range_plain range r_is) (file_plain file f_is))))
words_plain scope (command.Info tag i) fits all is = (fixed (codes "info") (omega arith) refl, (tag_plain tag is.0.0, (named_plain scope.tags i all is.1, tt)))
words_plain scope (command.Delete tag i) fits all is = (fixed (codes "del") (omega arith) refl, (tag_plain tag is.0.0, (named_plain scope.tags i all is.1, tt)))
words_plain scope (command.Cancel tag) fits all is = (fixed (codes "cancel") (omega arith) refl, (tag_plain tag (used_is_tag scope.tags tag all is), tt))
words_plain scope (command.Wait None) fits all is = (fixed (codes "wait") (omega arith) refl, tt)
words_plain scope (command.Wait (Some tag)) fits all is = (fixed (codes "wait") (omega arith) refl, (tag_plain tag (used_is_tag scope.tags tag all is), tt))
words_plain scope (command.Drain node on) fits all is = (drain_plain on, (node_plain scope.shape node fits is, tt))
words_plain scope (command.Admin o) fits all is = order_plain scope.shape o fits is
words_plain scope command.End fits all is = (fixed (codes "end") (omega arith) refl, tt)

-- ---- what is spelled is a command of the script

hex_bytes : (text bytes : List ℕ) → IsHex text bytes → IsBytes bytes
hex_bytes text bytes spells = elim spells [
  | inl p ↦ subst IsBytes (sym p.1) none
  | inr p ↦ (decode_of-ok text bytes p.1).3
]
  where
    none : IsBytes []
    none i = omega arith

source_valid : (s : BlobSource) (words : List (List ℕ)) → SpellsSource s words → IsSource s
source_valid (source.Line bytes) words spells = hex_bytes spells.0 bytes spells.2
source_valid (source.File name) words spells = spells.1

type_valid : (ctype : List ℕ) (words : List (List ℕ)) → SpellsType ctype words → IsTypeOrNone ctype
type_valid [] words spells = tt
type_valid (b ∷ bytes) words spells = spells.1

metadata_valid : (meta : List ℕ) (words : List (List ℕ)) → SpellsMetadata meta words → IsBytes meta × (length meta ≤ 1024)
metadata_valid meta words spells = elim spells [
  | inl p ↦ subst (λ (m : List ℕ). IsBytes m × (length m ≤ 1024)) (sym p.1) ((λ i. omega arith), omega arith)
  | inr p ↦ (hex_bytes p.0 meta p.2, p.3)
]

named_valid : (tags : List Tag) (i : IdWord) (word : List ℕ) → SpellsId tags i word → IsNamed tags i
named_valid tags (id.Id bytes) word spells = spells.1
named_valid tags (id.Tag tag) word spells = spells.1

range_valid : (range : Option (ℕ × ℕ)) (words : List (List ℕ)) → SpellsRange range words → IsRange range
range_valid None words spells = tt
range_valid (Some range) words (from, len, front, from_is, len_is) = (from_is.2, len_is.2)

file_valid : (file : Option (List ℕ)) (words : List (List ℕ)) → SpellsFile file words → IsFileOrNone file
file_valid None words spells = tt
file_valid (Some name) words spells = spells.1

order_valid : (shape : Shape) (o : Order) (words : List (List ℕ)) → SpellsOrder shape o words → IsOrder shape o
order_valid shape (order.Stop node) words (digits, front, is) = (is.1, is.2)
order_valid shape (order.Restart node) words (digits, front, is) = (is.1, is.2)
order_valid shape (order.Pull a b partition) words (m, n, p, front, a_is, b_is, p_is, peers) = ((a_is.1, a_is.2), (b_is.1, b_is.2), p_is.1, peers)
order_valid shape (order.Compact node partition) words (n, p, front, n_is, p_is, held) = ((n_is.1, n_is.2), p_is.1, held)
order_valid shape (order.Level partition a b) words (p, m, n, front, p_is, a_is, b_is, peers) = (p_is.1, (a_is.1, a_is.2), (b_is.1, b_is.2), peers)

words_valid : (scope : Scope) (c : Command) (words : List (List ℕ)) → SpellsByWords scope c words → IsCommand scope c
words_valid scope command.Skip words spells = tt
words_valid scope (command.Put tag s ctype meta) words (from, typed, metas, front, new, s_is, t_is, m_is) =
    (new, source_valid s from s_is, type_valid ctype typed t_is, (metadata_valid meta metas m_is).0, (metadata_valid meta metas m_is).1)
words_valid scope (command.Get tag i range file) words (word, ranged, named, front, new, i_is, r_is, f_is) = (new, named_valid scope.tags i word i_is, range_valid range ranged r_is, file_valid file named f_is)
words_valid scope (command.Info tag i) words (word, front, new, is) = (new, named_valid scope.tags i word is)
words_valid scope (command.Delete tag i) words (word, front, new, is) = (new, named_valid scope.tags i word is)
words_valid scope (command.Cancel tag) words spells = spells.1
words_valid scope (command.Wait None) words spells = tt
words_valid scope (command.Wait (Some tag)) words spells = spells.1
words_valid scope (command.Drain node on) words (digits, front, is) = (is.1, is.2)
words_valid scope (command.Admin o) words spells = order_valid scope.shape o words spells
words_valid scope command.End words spells = tt

pub line_is_valid : (scope : Scope) (line : List ℕ) (c : Command) → Spells scope c line → IsCommand scope c
line_is_valid scope line c spells = words_valid scope c (words_of line) spells.1

pub line_of_each : (scope : Scope) (c : Command) → IsShape scope.shape → AreTags scope.tags → IsCommand scope c → length (command_line c) ≤ longest_line → Spells scope c (command_line c)
line_of_each scope c fits all is few = (few, subst (SpellsByWords scope c) (sym (words_joined (command_words c) (words_plain scope c fits all is))) (words_spelled scope c fits is))
