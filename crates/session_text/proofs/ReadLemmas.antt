-- What a line is read as is what it spells.
use Rattle.std.proofs.Common.{◌≡◌, ◌∙◌, inl, inr, ℕ, ◌≤◌, not, nat_le, nat_lt, Bool, true, false, codes, Option, Some, None, Result, Ok, List, [], ◌∷◌, ◌++◌, length, drop, refl, sym, ap, ap₂, subst, arith, true≢false}
use Rattle.std.proofs.lemmas.Bool.Decides.{nat_tests}
use Rattle.world_model.specs.declared.order.Order.TheVariants as order
use Rattle.session_text.specs.declared.tags.Scope.{Scope}
use Rattle.session_text.specs.declared.fault.LineFault.{LineFault}
use Rattle.session_text.specs.declared.fault.LineFault.TheVariants as fault
use Rattle.session_text.specs.declared.fault.Wanted.TheVariants as wanted
use Rattle.session_text.specs.declared.names.Name.{Name}
use Rattle.session_text.specs.declared.names.Name.TheVariants as name
use Rattle.session_text.specs.declared.command.BlobSource.{BlobSource}
use Rattle.session_text.specs.declared.command.IdWord.{IdWord}
use Rattle.session_text.specs.declared.command.Command.{Command}
use Rattle.session_text.specs.declared.command.Command.TheVariants as command
use Rattle.session_text.specs.Texts.{words_of, is_nothing}
use Rattle.session_text.specs.Names.{name_text, name_at}
use Rattle.session_text.specs.Holders.{node_of, partition_of, holds, are_peers}
use Rattle.session_text.specs.Spelling.{longest_line, IsNothing, drain_word, SpellsByWords, Spells}
use Rattle.session_text.specs.Reading.{◌>>=◌, where_true, read_at, ended, new_tag_of, used_tag_of, id_word_of, source_in, type_option, metadata_option, file_option, range_in, behind_option, behind_range, put_in, get_in, info_in, delete_in, cancel_in, wait_in, drain_in, stop_in, restart_in, pull_in, compact_in, level_in, command_behind, command_in, line_in}
use Rattle.session_text.proofs.ChoiceLemmas.{chosen}
use Rattle.session_text.proofs.PlaceLemmas.{done_is, bind_ok, where_ok, read_at_first, ended_takes, none_behind}
use Rattle.session_text.proofs.WordLemmas.{name_takes, new_tag_takes, used_tag_takes, id_word_takes, node_takes, partition_takes, peers_take}
use Rattle.session_text.proofs.PartLemmas.{source_takes, type_option_takes, metadata_option_takes, file_option_takes, range_takes}

-- ---- words in front of others

abbrev pub Words : Type 0
Words = List (List ℕ)

-- a first word, and one behind it
one_word : (words : Words) (first a : List ℕ) (rest : Words) → words ≡ first ∷ drop 1 words → drop 1 words ≡ a ∷ rest → words ≡ first ∷ a ∷ rest
one_word words first a rest front next = front ∙ ap (λ (r : Words). first ∷ r) next

two_words : (words : Words) (first a b : List ℕ) (rest : Words) → words ≡ first ∷ drop 1 words → drop 1 words ≡ a ∷ drop 2 words → drop 2 words ≡ b ∷ rest → words ≡ first ∷ a ∷ b ∷ rest
two_words words first a b rest front next after = one_word words first a (b ∷ rest) front (next ∙ ap (λ (r : Words). a ∷ r) after)

three_words : (words : Words) (first a b c : List ℕ) (rest : Words) → words ≡ first ∷ drop 1 words → drop 1 words ≡ a ∷ drop 2 words → drop 2 words ≡ b ∷ drop 3 words → drop 3 words ≡ c ∷ rest
    → words ≡ first ∷ a ∷ b ∷ c ∷ rest
three_words words first a b c rest front next after last = two_words words first a b (c ∷ rest) front next (after ∙ ap (λ (r : Words). b ∷ r) last)

-- the same word under another name, and nothing behind it
last_word : (words : Words) (place : ℕ) (word a : List ℕ) (rest : Words) → drop place words ≡ word ∷ rest → word ≡ a → rest ≡ [] → drop place words ≡ a ∷ []
last_word words place word a rest stands is none = stands ∙ ap₂ (λ (w : List ℕ) (r : Words). w ∷ r) is none

next_word : (words : Words) (place : ℕ) (word a : List ℕ) (rest : Words) → drop place words ≡ word ∷ rest → word ≡ a → drop place words ≡ a ∷ rest
next_word words place word a rest stands is = stands ∙ ap (λ (w : List ℕ). w ∷ rest) is

-- ---- what is read is spelled so

put_takes : (scope : Scope) (words : Words) (c : Command) → words ≡ codes "put" ∷ drop 1 words → put_in scope.tags words ≡ Ok c → SpellsByWords scope c words
unfolding put_in
put_takes scope words c front e =
    let tags = scope.tags in
    let p = behind_option words 4 (codes "type") in
    let q = behind_option words p (codes "meta") in
    let last = λ (tag : List ℕ) (s : BlobSource) (t : List ℕ) (m : List ℕ). ended words q (command.Put tag s t m) in
    let a = read_at_first (new_tag_of tags) wanted.NewTag words 1 (λ tag. source_in words 2 >>= λ s. type_option words 4 >>= λ t. metadata_option words p >>= λ m. last tag s t m) c e in
    let b = bind_ok (source_in words 2) (λ s. type_option words 4 >>= λ t. metadata_option words p >>= λ m. last a.0 s t m) c a.4 in
    let d = bind_ok (type_option words 4) (λ t. metadata_option words p >>= λ m. last a.0 b.0 t m) c b.2 in
    let f = bind_ok (metadata_option words p) (λ m. last a.0 b.0 d.0 m) c d.2 in
    let end = ended_takes words q (command.Put a.0 b.0 d.0 f.0) c f.2 in
    let tag = new_tag_takes tags a.1 a.0 a.3 in
    let source = source_takes words 2 b.0 b.1 in
    let ctype = type_option_takes words 4 d.0 d.1 in
    let meta = metadata_option_takes words p f.0 f.1 end.0 in
    let behind : drop 2 words ≡ source.0 ++ (ctype.0 ++ drop p words) = source.1 ∙ ap (λ (r : Words). source.0 ++ r) ctype.1 in
    let whole : words ≡ codes "put" ∷ a.0 ∷ (source.0 ++ (ctype.0 ++ drop p words)) =
    one_word words (codes "put") a.0 _ front (a.2 ∙ ap₂ (λ (w : List ℕ) (r : Words). w ∷ r) tag.0 behind) in
    subst (λ (x : Command). SpellsByWords scope x words) end.1 (source.0, ctype.0, drop p words, whole, tag.1, source.2, ctype.2, meta)

get_takes : (scope : Scope) (words : Words) (c : Command) → words ≡ codes "get" ∷ drop 1 words → get_in scope.tags words ≡ Ok c → SpellsByWords scope c words
unfolding get_in
get_takes scope words c front e =
    let tags = scope.tags in
    let last = λ (tag : List ℕ) (i : IdWord) (r : Option (ℕ × ℕ)) (f : Option (List ℕ)). ended words (behind_option words (behind_range r 3) (codes "file")) (command.Get tag i r f) in
    let a = read_at_first (new_tag_of tags) wanted.NewTag words 1 (λ tag. read_at (id_word_of tags) wanted.Id words 2 >>= λ i. range_in words 3 >>= λ r. file_option words (behind_range r 3) >>= λ f. last tag i r f) c e in
    let b = read_at_first (id_word_of tags) wanted.Id words 2 (λ i. range_in words 3 >>= λ r. file_option words (behind_range r 3) >>= λ f. last a.0 i r f) c a.4 in
    let d = bind_ok (range_in words 3) (λ r. file_option words (behind_range r 3) >>= λ f. last a.0 b.0 r f) c b.4 in
    let f = bind_ok (file_option words (behind_range d.0 3)) (λ f. last a.0 b.0 d.0 f) c d.2 in
    let end = ended_takes words (behind_option words (behind_range d.0 3) (codes "file")) (command.Get a.0 b.0 d.0 f.0) c f.2 in
    let tag = new_tag_takes tags a.1 a.0 a.3 in
    let range = range_takes words 3 d.0 d.1 in
    let file = file_option_takes words (behind_range d.0 3) f.0 f.1 end.0 in
    let whole = two_words words (codes "get") a.0 b.1 (range.0 ++ drop (behind_range d.0 3) words) front (next_word words 1 a.1 a.0 (drop 2 words) a.2 tag.0) (b.2 ∙ ap (λ (r : Words). b.1 ∷ r) range.1) in
    subst (λ (x : Command). SpellsByWords scope x words) end.1 (b.1, range.0, drop (behind_range d.0 3) words, whole, tag.1, id_word_takes tags b.1 b.0 b.3, range.2, file)

info_takes : (scope : Scope) (words : Words) (c : Command) → words ≡ codes "info" ∷ drop 1 words → info_in scope.tags words ≡ Ok c → SpellsByWords scope c words
unfolding info_in
info_takes scope words c front e =
    let tags = scope.tags in
    let a = read_at_first (new_tag_of tags) wanted.NewTag words 1 (λ tag. read_at (id_word_of tags) wanted.Id words 2 >>= λ i. ended words 3 (command.Info tag i)) c e in
    let b = read_at_first (id_word_of tags) wanted.Id words 2 (λ i. ended words 3 (command.Info a.0 i)) c a.4 in
    let end = ended_takes words 3 (command.Info a.0 b.0) c b.4 in
    let tag = new_tag_takes tags a.1 a.0 a.3 in
    let whole = two_words words (codes "info") a.0 b.1 [] front (next_word words 1 a.1 a.0 (drop 2 words) a.2 tag.0) (last_word words 2 b.1 b.1 (drop 3 words) b.2 refl end.0) in
    subst (λ (x : Command). SpellsByWords scope x words) end.1 (b.1, whole, tag.1, id_word_takes tags b.1 b.0 b.3)

delete_takes : (scope : Scope) (words : Words) (c : Command) → words ≡ codes "del" ∷ drop 1 words → delete_in scope.tags words ≡ Ok c → SpellsByWords scope c words
unfolding delete_in
delete_takes scope words c front e =
    let tags = scope.tags in
    let a = read_at_first (new_tag_of tags) wanted.NewTag words 1 (λ tag. read_at (id_word_of tags) wanted.Id words 2 >>= λ i. ended words 3 (command.Delete tag i)) c e in
    let b = read_at_first (id_word_of tags) wanted.Id words 2 (λ i. ended words 3 (command.Delete a.0 i)) c a.4 in
    let end = ended_takes words 3 (command.Delete a.0 b.0) c b.4 in
    let tag = new_tag_takes tags a.1 a.0 a.3 in
    let whole = two_words words (codes "del") a.0 b.1 [] front (next_word words 1 a.1 a.0 (drop 2 words) a.2 tag.0) (last_word words 2 b.1 b.1 (drop 3 words) b.2 refl end.0) in
    subst (λ (x : Command). SpellsByWords scope x words) end.1 (b.1, whole, tag.1, id_word_takes tags b.1 b.0 b.3)

cancel_takes : (scope : Scope) (words : Words) (c : Command) → words ≡ codes "cancel" ∷ drop 1 words → cancel_in scope.tags words ≡ Ok c → SpellsByWords scope c words
unfolding cancel_in
cancel_takes scope words c front e =
    let tags = scope.tags in
    let a = read_at_first (used_tag_of tags) wanted.UsedTag words 1 (λ tag. ended words 2 (command.Cancel tag)) c e in
    let end = ended_takes words 2 (command.Cancel a.0) c a.4 in
    let tag = used_tag_takes tags a.1 a.0 a.3 in
    subst (λ (x : Command). SpellsByWords scope x words) end.1 (one_word words (codes "cancel") a.0 [] front (last_word words 1 a.1 a.0 (drop 2 words) a.2 tag.0 end.0), tag.1)

wait_takes : (scope : Scope) (words : Words) (c : Command) → words ≡ codes "wait" ∷ drop 1 words → wait_in scope.tags words ≡ Ok c → SpellsByWords scope c words
unfolding wait_in
wait_takes scope words c front e = elim (chosen (nat_le (length words) 1) (Ok (command.Wait None)) one (Ok c) e) [
  | inl p ↦
      let few : length words ≤ 1 = grind (arith, nat_tests) in
      subst (λ (x : Command). SpellsByWords scope x words) (done_is (command.Wait None) c p.1) (front ∙ ap (λ (r : Words). codes "wait" ∷ r) (none_behind words 1 few))
  | inr p ↦
      let a = read_at_first (used_tag_of scope.tags) wanted.UsedTag words 1 (λ tag. ended words 2 (command.Wait (Some tag))) c p.1 in
      let end = ended_takes words 2 (command.Wait (Some a.0)) c a.4 in
      let tag = used_tag_takes scope.tags a.1 a.0 a.3 in
      subst (λ (x : Command). SpellsByWords scope x words) end.1 (one_word words (codes "wait") a.0 [] front (last_word words 1 a.1 a.0 (drop 2 words) a.2 tag.0 end.0), tag.1)
]
  where
    one : Result Command LineFault
    one = read_at (used_tag_of scope.tags) wanted.UsedTag words 1 >>= λ tag. ended words 2 (command.Wait (Some tag))

drain_takes : (scope : Scope) (on : Bool) (words : Words) (c : Command) → words ≡ drain_word on ∷ drop 1 words → drain_in scope.shape on words ≡ Ok c → SpellsByWords scope c words
unfolding drain_in
drain_takes scope on words c front e =
    let a = read_at_first (node_of scope.shape) wanted.Node words 1 (λ node. ended words 2 (command.Drain node on)) c e in
    let end = ended_takes words 2 (command.Drain a.0 on) c a.4 in
    subst (λ (x : Command). SpellsByWords scope x words) end.1 (a.1, one_word words (drain_word on) a.1 [] front (last_word words 1 a.1 a.1 (drop 2 words) a.2 refl end.0), node_takes scope.shape a.1 a.0 a.3)

stop_takes : (scope : Scope) (words : Words) (c : Command) → words ≡ codes "stop" ∷ drop 1 words → stop_in scope.shape words ≡ Ok c → SpellsByWords scope c words
unfolding stop_in
stop_takes scope words c front e =
    let a = read_at_first (node_of scope.shape) wanted.Node words 1 (λ node. ended words 2 (command.Admin (order.Stop node))) c e in
    let end = ended_takes words 2 (command.Admin (order.Stop a.0)) c a.4 in
    subst (λ (x : Command). SpellsByWords scope x words) end.1 (a.1, one_word words (codes "stop") a.1 [] front (last_word words 1 a.1 a.1 (drop 2 words) a.2 refl end.0), node_takes scope.shape a.1 a.0 a.3)

restart_takes : (scope : Scope) (words : Words) (c : Command) → words ≡ codes "restart" ∷ drop 1 words → restart_in scope.shape words ≡ Ok c → SpellsByWords scope c words
unfolding restart_in
restart_takes scope words c front e =
    let a = read_at_first (node_of scope.shape) wanted.Node words 1 (λ node. ended words 2 (command.Admin (order.Restart node))) c e in
    let end = ended_takes words 2 (command.Admin (order.Restart a.0)) c a.4 in
    subst (λ (x : Command). SpellsByWords scope x words) end.1 (a.1, one_word words (codes "restart") a.1 [] front (last_word words 1 a.1 a.1 (drop 2 words) a.2 refl end.0), node_takes scope.shape a.1 a.0 a.3)

pull_takes : (scope : Scope) (words : Words) (c : Command) → words ≡ codes "pull" ∷ drop 1 words → pull_in scope.shape words ≡ Ok c → SpellsByWords scope c words
unfolding pull_in
pull_takes scope words c front e =
    let shape = scope.shape in
    let last = λ (m : ℕ) (n : ℕ) (p : ℕ). where_true (are_peers shape p m n) (fault.Word 3 wanted.Holders) (ended words 4 (command.Admin (order.Pull m n p))) in
    let a = read_at_first (node_of shape) wanted.Node words 1 (λ m. read_at (node_of shape) wanted.Node words 2 >>= λ n. read_at (partition_of shape) wanted.Partition words 3 >>= λ p. last m n p) c e in
    let b = read_at_first (node_of shape) wanted.Node words 2 (λ n. read_at (partition_of shape) wanted.Partition words 3 >>= λ p. last a.0 n p) c a.4 in
    let d = read_at_first (partition_of shape) wanted.Partition words 3 (λ p. last a.0 b.0 p) c b.4 in
    let w = where_ok (are_peers shape d.0 a.0 b.0) (fault.Word 3 wanted.Holders) (ended words 4 (command.Admin (order.Pull a.0 b.0 d.0))) c d.4 in
    let end = ended_takes words 4 (command.Admin (order.Pull a.0 b.0 d.0)) c w.1 in
    let whole = three_words words (codes "pull") a.1 b.1 d.1 [] front a.2 b.2 (last_word words 3 d.1 d.1 (drop 4 words) d.2 refl end.0) in
    subst (λ (x : Command). SpellsByWords scope x words) end.1
    (a.1, b.1, d.1, whole, node_takes shape a.1 a.0 a.3, node_takes shape b.1 b.0 b.3, partition_takes shape d.1 d.0 d.3, peers_take shape d.0 a.0 b.0 w.0)

compact_takes : (scope : Scope) (words : Words) (c : Command) → words ≡ codes "compact" ∷ drop 1 words → compact_in scope.shape words ≡ Ok c → SpellsByWords scope c words
unfolding compact_in
compact_takes scope words c front e =
    let shape = scope.shape in
    let last = λ (n : ℕ) (p : ℕ). where_true (holds shape p n) (fault.Word 2 wanted.Holders) (ended words 3 (command.Admin (order.Compact n p))) in
    let a = read_at_first (node_of shape) wanted.Node words 1 (λ n. read_at (partition_of shape) wanted.Partition words 2 >>= λ p. last n p) c e in
    let b = read_at_first (partition_of shape) wanted.Partition words 2 (λ p. last a.0 p) c a.4 in
    let w = where_ok (holds shape b.0 a.0) (fault.Word 2 wanted.Holders) (ended words 3 (command.Admin (order.Compact a.0 b.0))) c b.4 in
    let end = ended_takes words 3 (command.Admin (order.Compact a.0 b.0)) c w.1 in
    let whole = two_words words (codes "compact") a.1 b.1 [] front a.2 (last_word words 2 b.1 b.1 (drop 3 words) b.2 refl end.0) in
    subst (λ (x : Command). SpellsByWords scope x words) end.1 (a.1, b.1, whole, node_takes shape a.1 a.0 a.3, partition_takes shape b.1 b.0 b.3, w.0)

level_takes : (scope : Scope) (words : Words) (c : Command) → words ≡ codes "level" ∷ drop 1 words → level_in scope.shape words ≡ Ok c → SpellsByWords scope c words
unfolding level_in
level_takes scope words c front e =
    let shape = scope.shape in
    let last = λ (p : ℕ) (m : ℕ) (n : ℕ). where_true (are_peers shape p m n) (fault.Word 3 wanted.Holders) (ended words 4 (command.Admin (order.Level p m n))) in
    let a = read_at_first (partition_of shape) wanted.Partition words 1 (λ p. read_at (node_of shape) wanted.Node words 2 >>= λ m. read_at (node_of shape) wanted.Node words 3 >>= λ n. last p m n) c e in
    let b = read_at_first (node_of shape) wanted.Node words 2 (λ m. read_at (node_of shape) wanted.Node words 3 >>= λ n. last a.0 m n) c a.4 in
    let d = read_at_first (node_of shape) wanted.Node words 3 (λ n. last a.0 b.0 n) c b.4 in
    let w = where_ok (are_peers shape a.0 b.0 d.0) (fault.Word 3 wanted.Holders) (ended words 4 (command.Admin (order.Level a.0 b.0 d.0))) c d.4 in
    let end = ended_takes words 4 (command.Admin (order.Level a.0 b.0 d.0)) c w.1 in
    let whole = three_words words (codes "level") a.1 b.1 d.1 [] front a.2 b.2 (last_word words 3 d.1 d.1 (drop 4 words) d.2 refl end.0) in
    subst (λ (x : Command). SpellsByWords scope x words) end.1
    (a.1, b.1, d.1, whole, partition_takes shape a.1 a.0 a.3, node_takes shape b.1 b.0 b.3, node_takes shape d.1 d.0 d.3, peers_take shape a.0 b.0 d.0 w.0)

end_takes : (scope : Scope) (words : Words) (c : Command) → words ≡ codes "end" ∷ drop 1 words → ended words 1 command.End ≡ Ok c → SpellsByWords scope c words
end_takes scope words c front e =
    let end = ended_takes words 1 command.End c e in
    subst (λ (x : Command). SpellsByWords scope x words) end.1 (front ∙ ap (λ (r : Words). codes "end" ∷ r) end.0)

behind_takes : (scope : Scope) (n : Name) (words : Words) (c : Command) → words ≡ name_text n ∷ drop 1 words → command_behind scope n words ≡ Ok c → SpellsByWords scope c words
unfolding command_behind
behind_takes scope name.Put words c front e = put_takes scope words c front e
behind_takes scope name.Get words c front e = get_takes scope words c front e
behind_takes scope name.Info words c front e = info_takes scope words c front e
behind_takes scope name.Delete words c front e = delete_takes scope words c front e
behind_takes scope name.Cancel words c front e = cancel_takes scope words c front e
behind_takes scope name.Wait words c front e = wait_takes scope words c front e
behind_takes scope name.Drain words c front e = drain_takes scope true words c front e
behind_takes scope name.Undrain words c front e = drain_takes scope false words c front e
behind_takes scope name.Stop words c front e = stop_takes scope words c front e
behind_takes scope name.Restart words c front e = restart_takes scope words c front e
behind_takes scope name.Pull words c front e = pull_takes scope words c front e
behind_takes scope name.Compact words c front e = compact_takes scope words c front e
behind_takes scope name.Level words c front e = level_takes scope words c front e
behind_takes scope name.End words c front e = end_takes scope words c front e

nothing_takes : (words : Words) → is_nothing words ≡ true → IsNothing words
nothing_takes [] e = inl refl
nothing_takes ([] ∷ more) e = absurd (true≢false (sym e))
nothing_takes ((b ∷ word) ∷ more) e =
    let first : b ≡ 35 = grind (arith, nat_tests) in
    inr (word, more, ap (λ (x : ℕ). (x ∷ word) ∷ more) first)

words_take : (scope : Scope) (words : Words) (c : Command) → command_in scope words ≡ Ok c → SpellsByWords scope c words
unfolding command_in
words_take scope words c e = elim (chosen (is_nothing words) (Ok command.Skip) named (Ok c) e) [
  | inl p ↦ subst (λ (x : Command). SpellsByWords scope x words) (done_is command.Skip c p.1) (nothing_takes words p.0)
  | inr p ↦
      let a = read_at_first name_at wanted.CommandName words 0 (λ n. command_behind scope n words) c p.1 in
      let front : words ≡ name_text a.0 ∷ drop 1 words = a.2 ∙ ap (λ (w : List ℕ). w ∷ drop 1 words) (name_takes a.1 a.0 a.3) in
      behind_takes scope a.0 words c front a.4
]
  where
    named : Result Command LineFault
    named = read_at name_at wanted.CommandName words 0 >>= λ n. command_behind scope n words

pub line_takes : (scope : Scope) (line : List ℕ) (c : Command) → line_in scope line ≡ Ok c → Spells scope c line
unfolding line_in
line_takes scope line c e =
    let w = where_ok (not (nat_lt longest_line (length line))) fault.TooLong (command_in scope (words_of line)) c e in
    let fits : length line ≤ longest_line = grind (arith, nat_tests) in
    (fits, words_take scope (words_of line) c w.1)
