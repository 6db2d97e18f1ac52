-- What a word is read as is what it spells, and the other way round.
use Rattle.std.proofs.Common.{◌≡◌, ◌≢◌, ◌∙◌, inl, inr, ℕ, ◌<◌, ◌≤◌, ◌&&◌, not, nat_eq, nat_le, nat_lt, Bool, true, false, cond, codes, Option, Some, None, Ok, option_and_then, List, [], ◌∷◌, length, refl, sym, ap, subst, arith, true≢false}
use Rattle.std.specs.Str.{bytes_eq}
use Rattle.std.proofs.lemmas.Bool.Decides.{nat_tests}
use Rattle.hex.specs.Hex.{decode_of, encode_lower}
use Rattle.blob_id.specs.Id.{IsId}
use Rattle.run_words.specs.Pathnames.{is_pathname}
use Rattle.run_words.proofs.NumberLemmas.{number_takes, number_again}
use Rattle.world_model.specs.declared.shape.Shape.{Shape}
use Rattle.session_text.specs.declared.tags.Tag.{Tag}
use Rattle.session_text.specs.declared.names.Name.{Name}
use Rattle.session_text.specs.declared.names.Name.TheVariants as name
use Rattle.session_text.specs.declared.command.IdWord.{IdWord}
use Rattle.session_text.specs.declared.command.IdWord.TheVariants as id
use Rattle.session_text.specs.Tags.{is_used_tag, is_put_tag}
use Rattle.session_text.specs.Texts.{number_at, is_tag, is_type, ok_value, bytes_of_digits, id_of_digits}
use Rattle.session_text.specs.Names.{name_text, name_at}
use Rattle.session_text.specs.Holders.{when, node_within, node_of, partition_within, partition_of, holds, are_peers}
use Rattle.session_text.specs.Spelling.{IsNewTag, IsHex, SpellsId, SpellsNode, SpellsPartition, ArePeers}
use Rattle.session_text.specs.Reading.{new_tag_of, used_tag_of, behind_dollar, id_word_by, id_word_behind, id_word_of, metadata_within, metadata_of, file_name_of, type_of}
use Rattle.session_text.proofs.ChoiceLemmas.{some_is, chosen, kept, both, ok_is, same_text}
use Rattle.session_text.proofs.DigitLemmas.{id_from_digits, digits_of_id, no_dollar}

pub when_takes : {A : Type 0} (test : Bool) (x y : A) → when test x ≡ Some y → (test ≡ true) × (x ≡ y)
when_takes true x y e = (refl, some_is x y e)
when_takes false x y e = absurd cc

pub when_again : {A : Type 0} (test : Bool) (x : A) → test ≡ true → when test x ≡ Some x
when_again test x e = ap (λ (b : Bool). when b x) e

then_takes : {A B : Type 0} (next : A → Option B) (first : Option A) (y : B) → option_and_then next first ≡ Some y → (x : A) × (first ≡ Some x) × (next x ≡ Some y)
then_takes next None y e = absurd cc
then_takes next (Some x) y e = (x, refl, e)

not_true : (b : Bool) → not b ≡ true → b ≡ false
not_true true e = absurd (true≢false (sym e))
not_true false e = refl

and_true : (a b : Bool) → a ≡ true → b ≡ true → (a && b) ≡ true
and_true a b p q = rw (p, q) refl

-- ---- names of commands

link : (word : List ℕ) (n other : Name) (rest : Option Name) → (rest ≡ Some n → word ≡ name_text n) → cond (bytes_eq word (name_text other)) (Some other) rest ≡ Some n → word ≡ name_text n
link word n other rest more e = elim (chosen (bytes_eq word (name_text other)) (Some other) rest (Some n) e) [
  | inl p ↦
      let is : other ≡ n = cc in
      same_text word (name_text other) p.0 ∙ ap name_text is
  | inr p ↦ more p.1
]

pub name_takes : (word : List ℕ) (n : Name) → name_at word ≡ Some n → word ≡ name_text n
name_takes word n =
    link word n name.Put _ (link word n name.Get _ (link word n name.Info _ (link word n name.Delete _ (link word n name.Cancel _
    (link word n name.Wait _ (link word n name.Drain _ (link word n name.Undrain _ (link word n name.Stop _ (link word n name.Restart _
    (link word n name.Pull _ (link word n name.Compact _ (link word n name.Level _ (link word n name.End _ (λ e. absurd cc))))))))))))))

pub name_again : (n : Name) → name_at (name_text n) ≡ Some n
name_again name.Put = refl
name_again name.Get = refl
name_again name.Info = refl
name_again name.Delete = refl
name_again name.Cancel = refl
name_again name.Wait = refl
name_again name.Drain = refl
name_again name.Undrain = refl
name_again name.Stop = refl
name_again name.Restart = refl
name_again name.Pull = refl
name_again name.Compact = refl
name_again name.Level = refl
name_again name.End = refl

-- ---- tags

pub new_tag_takes : (tags : List Tag) (word tag : List ℕ) → new_tag_of tags word ≡ Some tag → (word ≡ tag) × IsNewTag tags tag
new_tag_takes tags word tag e =
    let w = when_takes (is_tag word && not (is_used_tag tags word)) word tag e in
    let p = both (is_tag word) (not (is_used_tag tags word)) w.0 in
    (w.1, subst (IsNewTag tags) w.1 (p.0, not_true (is_used_tag tags word) p.1))

pub new_tag_again : (tags : List Tag) (tag : List ℕ) → IsNewTag tags tag → new_tag_of tags tag ≡ Some tag
new_tag_again tags tag s = when_again (is_tag tag && not (is_used_tag tags tag)) tag (and_true (is_tag tag) (not (is_used_tag tags tag)) s.0 (ap not s.1))

pub used_tag_takes : (tags : List Tag) (word tag : List ℕ) → used_tag_of tags word ≡ Some tag → (word ≡ tag) × (is_used_tag tags tag ≡ true)
used_tag_takes tags word tag e =
    let w = when_takes (is_used_tag tags word) word tag e in
    (w.1, subst (λ (t : List ℕ). is_used_tag tags t ≡ true) w.1 w.0)

pub used_tag_again : (tags : List Tag) (tag : List ℕ) → is_used_tag tags tag ≡ true → used_tag_of tags tag ≡ Some tag
used_tag_again tags tag s = when_again (is_used_tag tags tag) tag s

-- ---- bytes

pub hex_takes : (digits bytes : List ℕ) → bytes_of_digits digits ≡ Some bytes → IsHex digits bytes
hex_takes digits bytes e = elim (chosen (bytes_eq digits (codes "-")) (Some []) (cond (nat_eq (length digits) 0) None (ok_value (decode_of digits))) (Some bytes) e) [
  | inl p ↦ inl (same_text digits (codes "-") p.0, sym (some_is [] bytes p.1))
  | inr p ↦ elim (chosen (nat_eq (length digits) 0) None (ok_value (decode_of digits)) (Some bytes) p.1) [
    | inl q ↦ absurd cc
    | inr q ↦ inr (grind (arith, nat_tests), ok_is (decode_of digits) bytes q.1)
  ]
]

digits_again : (digits bytes : List ℕ) → 0 < length digits → decode_of digits ≡ Ok bytes → bytes_of_digits digits ≡ Some bytes
digits_again digits bytes long is = by (bytes_eq digits (codes "-")) (nat_eq (length digits) 0) refl refl
  where
    by : (s t : Bool) → bytes_eq digits (codes "-") ≡ s → nat_eq (length digits) 0 ≡ t → cond s (Some []) (cond t None (ok_value (decode_of digits))) ≡ Some bytes
    by true t p q =
        let bad : decode_of (codes "-") ≡ Ok bytes = ap decode_of (sym (same_text digits (codes "-") p)) ∙ is in
        absurd cc
    by false true p q = absurd (grind (arith, nat_tests))
    by false false p q = ap ok_value is

pub hex_again : (digits bytes : List ℕ) → IsHex digits bytes → bytes_of_digits digits ≡ Some bytes
hex_again digits bytes s = elim s [
  | inl p ↦ ap bytes_of_digits p.0 ∙ ap Some (sym p.1)
  | inr p ↦ digits_again digits bytes p.0 p.1
]

pub metadata_takes : (digits meta : List ℕ) → metadata_of digits ≡ Some meta → IsHex digits meta × (length meta ≤ 1024)
metadata_takes digits meta e =
    let t = then_takes metadata_within (bytes_of_digits digits) meta e in
    let w = when_takes (nat_le (length t.0) 1024) t.0 meta t.2 in
    let few : length t.0 ≤ 1024 = grind (arith, nat_tests) in
    (subst (IsHex digits) w.1 (hex_takes digits t.0 t.1), subst (λ (b : List ℕ). length b ≤ 1024) w.1 few)

pub metadata_again : (digits meta : List ℕ) → IsHex digits meta → length meta ≤ 1024 → metadata_of digits ≡ Some meta
metadata_again digits meta is few =
    let test : nat_le (length meta) 1024 ≡ true = grind (arith, nat_tests) in
    ap (option_and_then metadata_within) (hex_again digits meta is) ∙ when_again (nat_le (length meta) 1024) meta test

-- ---- names of files, and types

pub file_name_takes : (word file : List ℕ) → file_name_of word ≡ Some file → (word ≡ file) × (is_pathname file ≡ true)
file_name_takes word file e =
    let w = when_takes (is_pathname word) word file e in
    (w.1, subst (λ (f : List ℕ). is_pathname f ≡ true) w.1 w.0)

pub file_name_again : (file : List ℕ) → is_pathname file ≡ true → file_name_of file ≡ Some file
file_name_again file s = when_again (is_pathname file) file s

pub type_takes : (word ctype : List ℕ) → type_of word ≡ Some ctype → (word ≡ ctype) × (is_type ctype ≡ true)
type_takes word ctype e =
    let w = when_takes (is_type word) word ctype e in
    (w.1, subst (λ (t : List ℕ). is_type t ≡ true) w.1 w.0)

pub type_again : (ctype : List ℕ) → is_type ctype ≡ true → type_of ctype ≡ Some ctype
type_again ctype s = when_again (is_type ctype) ctype s

-- ---- ids

dollar_takes : (word tag : List ℕ) → behind_dollar word ≡ Some tag → word ≡ 36 ∷ tag
dollar_takes [] tag e = absurd cc
dollar_takes (b ∷ more) tag e =
    let k = kept (nat_eq b 36) (Some more) tag e in
    let first : b ≡ 36 = grind (arith, nat_tests) in
    ap (λ (x : ℕ). x ∷ more) first ∙ ap (λ (x : List ℕ). 36 ∷ x) (some_is more tag k.1)

id_by_takes : (word : List ℕ) (read : Option (List ℕ)) (i : IdWord) → id_of_digits word ≡ read → id_word_by read ≡ Some i → (bytes : List ℕ) × (word ≡ encode_lower bytes) × IsId bytes × (id.Id bytes ≡ i)
id_by_takes word None i same e = absurd cc
id_by_takes word (Some bytes) i same e =
    let d = id_from_digits word bytes same in
    (bytes, d.0, d.1, some_is (id.Id bytes) i e)

pub id_word_takes : (tags : List Tag) (word : List ℕ) (i : IdWord) → id_word_of tags word ≡ Some i → SpellsId tags i word
id_word_takes tags word i e = by (behind_dollar word) refl e
  where
    by : (behind : Option (List ℕ)) → behind_dollar word ≡ behind → id_word_behind tags word behind ≡ Some i → SpellsId tags i word
    by None same e =
        let t = id_by_takes word (id_of_digits word) i refl e in
        subst (λ (x : IdWord). SpellsId tags x word) t.3 (t.1, t.2)
    by (Some tag) same e =
        let w = when_takes (is_put_tag tags tag) (id.Tag tag) i e in
        subst (λ (x : IdWord). SpellsId tags x word) w.1 (dollar_takes word tag same, w.0)

none_behind : (word bytes : List ℕ) → word ≡ encode_lower bytes → behind_dollar word ≡ None
none_behind [] bytes spelled = refl
none_behind (b ∷ more) bytes spelled = by (nat_eq b 36) refl
  where
    by : (t : Bool) → nat_eq b 36 ≡ t → cond t (Some more) None ≡ None
    by true e = absurd (no_dollar b more bytes spelled (grind (arith, nat_tests)))
    by false e = refl

pub id_word_again : (tags : List Tag) (i : IdWord) (word : List ℕ) → SpellsId tags i word → id_word_of tags word ≡ Some i
id_word_again tags (id.Tag tag) word s = ap (id_word_of tags) s.0 ∙ when_again (is_put_tag tags tag) (id.Tag tag) s.1
id_word_again tags (id.Id bytes) word s = ap (id_word_behind tags word) (none_behind word bytes s.0) ∙ ap id_word_by (digits_of_id word bytes s.0 s.1)

-- ---- nodes and partitions

pub node_takes : (shape : Shape) (word : List ℕ) (node : ℕ) → node_of shape word ≡ Some node → SpellsNode shape node word
node_takes shape word node e =
    let t = then_takes (node_within shape) (number_at word) node e in
    let w = when_takes (nat_le 1 t.0 && nat_le t.0 shape.nodes) t.0 node t.2 in
    let p = both (nat_le 1 t.0) (nat_le t.0 shape.nodes) w.0 in
    let least : 1 ≤ t.0 = grind (arith, nat_tests) in
    let most : t.0 ≤ shape.nodes = grind (arith, nat_tests) in
    subst (λ (n : ℕ). SpellsNode shape n word) w.1 (number_takes word t.0 t.1, least, most)

pub node_again : (shape : Shape) (word : List ℕ) (node : ℕ) → SpellsNode shape node word → node_of shape word ≡ Some node
node_again shape word node s =
    let least : nat_le 1 node ≡ true = grind (arith, nat_tests) in
    let most : nat_le node shape.nodes ≡ true = grind (arith, nat_tests) in
    ap (option_and_then (node_within shape)) (number_again word node s.0) ∙ when_again (nat_le 1 node && nat_le node shape.nodes) node (and_true (nat_le 1 node) (nat_le node shape.nodes) least most)

pub partition_takes : (shape : Shape) (word : List ℕ) (partition : ℕ) → partition_of shape word ≡ Some partition → SpellsPartition shape partition word
partition_takes shape word partition e =
    let t = then_takes (partition_within shape) (number_at word) partition e in
    let w = when_takes (nat_lt t.0 shape.partitions) t.0 partition t.2 in
    let most : t.0 < shape.partitions = grind (arith, nat_tests) in
    subst (λ (n : ℕ). SpellsPartition shape n word) w.1 (number_takes word t.0 t.1, most)

pub partition_again : (shape : Shape) (word : List ℕ) (partition : ℕ) → SpellsPartition shape partition word → partition_of shape word ≡ Some partition
partition_again shape word partition s =
    let most : nat_lt partition shape.partitions ≡ true = grind (arith, nat_tests) in
    ap (option_and_then (partition_within shape)) (number_again word partition s.0) ∙ when_again (nat_lt partition shape.partitions) partition most

pub peers_take : (shape : Shape) (partition a b : ℕ) → are_peers shape partition a b ≡ true → ArePeers shape partition a b
peers_take shape partition a b e =
    let p = both (not (nat_eq a b)) (holds shape partition a && holds shape partition b) e in
    let q = both (holds shape partition a) (holds shape partition b) p.1 in
    let other : nat_eq a b ≡ false = not_true (nat_eq a b) p.0 in
    let differ : a ≢ b = λ same. grind (arith, nat_tests) in
    (differ, q.0, q.1)

pub peers_again : (shape : Shape) (partition a b : ℕ) → ArePeers shape partition a b → are_peers shape partition a b ≡ true
peers_again shape partition a b s =
    let differ : a ≢ b = s.0 in
    let other : nat_eq a b ≡ false = grind (arith, nat_tests) in
    and_true (not (nat_eq a b)) (holds shape partition a && holds shape partition b) (ap not other) (and_true (holds shape partition a) (holds shape partition b) s.1 s.2)
