-- A line that is refused at a word begins no good line, up to that word.
use Rattle.std.proofs.Common.{◌≡◌, ◌∙◌, ℕ, zero, suc, ◌+◌, ◌<◌, ◌≤◌, not, nat_le, nat_lt, Bool, true, false, cond, codes, Option, Some, None, Result, Ok, Err, List, [], ◌∷◌, length, take, slice_get, refl, sym, ap, arith, IfErr}
use Rattle.std.proofs.lemmas.Bool.Decides.{nat_tests}
use Rattle.world_model.specs.declared.order.Order.TheVariants as order
use Rattle.world_model.specs.declared.shape.Shape.{Shape}
use Rattle.session_text.specs.declared.tags.Tag.{Tag}
use Rattle.session_text.specs.declared.tags.Scope.{Scope}
use Rattle.session_text.specs.declared.fault.LineFault.{LineFault}
use Rattle.session_text.specs.declared.fault.LineFault.TheVariants as fault
use Rattle.session_text.specs.declared.fault.Wanted.{Wanted}
use Rattle.session_text.specs.declared.fault.Wanted.TheVariants as wanted
use Rattle.session_text.specs.declared.names.Name.{Name}
use Rattle.session_text.specs.declared.names.Name.TheVariants as name
use Rattle.session_text.specs.declared.command.BlobSource.{BlobSource}
use Rattle.session_text.specs.declared.command.IdWord.{IdWord}
use Rattle.session_text.specs.declared.command.Command.{Command}
use Rattle.session_text.specs.declared.command.Command.TheVariants as command
use Rattle.session_text.specs.Texts.{words_of, is_nothing}
use Rattle.session_text.specs.Names.{name_at}
use Rattle.session_text.specs.Holders.{node_of, partition_of, holds, are_peers}
use Rattle.session_text.specs.Spelling.{longest_line, IsRefusal}
use Rattle.session_text.specs.Reading.{◌>>=◌, where_true, Gives, read_at, ended, new_tag_of, used_tag_of, id_word_of, metadata_of, type_of, source_in, type_option, metadata_option, file_option, range_in, behind_option, behind_range, put_in, get_in, info_in, delete_in, cancel_in, wait_in, drain_in, stop_in, restart_in, pull_in, compact_in, level_in, command_behind, command_in, line_in}
use Rattle.session_text.proofs.PlaceLemmas.{done}
use Rattle.session_text.proofs.LineLemmas.{words_again}
use Rattle.session_text.proofs.RefusalLemmas.{Words, Same, Stays, refused, chain_stays, few_same}
use Rattle.session_text.proofs.PartRefusalLemmas.{InPlace, Lasts, earlier, chain, end_lasts, test_lasts, option_lasts, source_lasts, file_lasts, range_lasts, cond_placed, bind_placed, read_at_placed, ok_placed}

-- ---- the lines, by the name that they begin with

put_lasts : (tags : List Tag) → Lasts 0 (put_in tags)
unfolding put_in type_option metadata_option
put_lasts tags = earlier 0 1 (put_in tags) (chain (new_tag_of tags) wanted.NewTag 1 behind_tag (λ tag. earlier 1 2 (behind_tag tag) (source_lasts 2 (behind_source tag) (λ s. earlier 3 4 (behind_source tag s) (typed tag s) (omega arith))) (omega arith))) (omega arith)
  where
    last : List ℕ → BlobSource → List ℕ → List ℕ → ℕ → Words → Result Command LineFault
    last tag s t m q words = ended words q (command.Put tag s t m)

    behind_type : List ℕ → BlobSource → List ℕ → ℕ → Words → Result Command LineFault
    behind_type tag s t q words = metadata_option words q >>= λ m. last tag s t m (behind_option words q (codes "meta")) words

    behind_source : List ℕ → BlobSource → Words → Result Command LineFault
    behind_source tag s words = type_option words 4 >>= λ t. behind_type tag s t (behind_option words 4 (codes "type")) words

    behind_tag : List ℕ → Words → Result Command LineFault
    behind_tag tag words = source_in words 2 >>= λ s. behind_source tag s words

    typed : (tag : List ℕ) (s : BlobSource) → Lasts 4 (behind_source tag s)
    typed tag s = option_lasts type_of wanted.BlobType (codes "type") [] 4 (behind_type tag s)
        (λ t q le. option_lasts metadata_of wanted.Metadata (codes "meta") [] q (last tag s t) (λ m r more. end_lasts r (command.Put tag s t m)))

get_lasts : (tags : List Tag) → Lasts 0 (get_in tags)
unfolding get_in
get_lasts tags = earlier 0 1 (get_in tags) (chain (new_tag_of tags) wanted.NewTag 1 behind_tag (λ tag. earlier 1 2 (behind_tag tag) (chain (id_word_of tags) wanted.Id 2 (behind_id tag) (λ i. earlier 2 3 (behind_id tag i) (ranged tag i) (omega arith))) (omega arith))) (omega arith)
  where
    last : List ℕ → IdWord → Option (ℕ × ℕ) → Option (List ℕ) → ℕ → Words → Result Command LineFault
    last tag i r f q words = ended words q (command.Get tag i r f)

    behind_numbers : List ℕ → IdWord → Option (ℕ × ℕ) → Words → Result Command LineFault
    behind_numbers tag i r words = file_option words (behind_range r 3) >>= λ f. last tag i r f (behind_option words (behind_range r 3) (codes "file")) words

    behind_id : List ℕ → IdWord → Words → Result Command LineFault
    behind_id tag i words = range_in words 3 >>= λ r. behind_numbers tag i r words

    behind_tag : List ℕ → Words → Result Command LineFault
    behind_tag tag words = read_at (id_word_of tags) wanted.Id words 2 >>= λ i. behind_id tag i words

    ranged : (tag : List ℕ) (i : IdWord) → Lasts 3 (behind_id tag i)
    ranged tag i = range_lasts 3 (behind_numbers tag i) (λ r. file_lasts (behind_range r 3) (last tag i r) (λ f q le. end_lasts q (command.Get tag i r f)))

info_lasts : (tags : List Tag) → Lasts 0 (info_in tags)
unfolding info_in
info_lasts tags = earlier 0 1 (info_in tags) (chain (new_tag_of tags) wanted.NewTag 1 (λ tag words. read_at (id_word_of tags) wanted.Id words 2 >>= λ i. ended words 3 (command.Info tag i))
    (λ tag. earlier 1 2 (λ words. read_at (id_word_of tags) wanted.Id words 2 >>= λ i. ended words 3 (command.Info tag i))
    (chain (id_word_of tags) wanted.Id 2 (λ i words. ended words 3 (command.Info tag i)) (λ i. earlier 2 3 (λ words. ended words 3 (command.Info tag i)) (end_lasts 3 (command.Info tag i)) (omega arith))) (omega arith))) (omega arith)

delete_lasts : (tags : List Tag) → Lasts 0 (delete_in tags)
unfolding delete_in
delete_lasts tags = earlier 0 1 (delete_in tags) (chain (new_tag_of tags) wanted.NewTag 1 (λ tag words. read_at (id_word_of tags) wanted.Id words 2 >>= λ i. ended words 3 (command.Delete tag i))
    (λ tag. earlier 1 2 (λ words. read_at (id_word_of tags) wanted.Id words 2 >>= λ i. ended words 3 (command.Delete tag i))
    (chain (id_word_of tags) wanted.Id 2 (λ i words. ended words 3 (command.Delete tag i)) (λ i. earlier 2 3 (λ words. ended words 3 (command.Delete tag i)) (end_lasts 3 (command.Delete tag i)) (omega arith))) (omega arith))) (omega arith)

-- one word behind the name, and nothing more
one_lasts : {A : Type 0} (of : List ℕ → Option A) (wants : Wanted) (make : A → Command) → Lasts 1 (λ words. read_at of wants words 1 >>= λ x. ended words 2 (make x))
one_lasts of wants make = chain of wants 1 (λ x words. ended words 2 (make x)) (λ x. earlier 1 2 (λ words. ended words 2 (make x)) (end_lasts 2 (make x)) (omega arith))

cancel_lasts : (tags : List Tag) → Lasts 0 (cancel_in tags)
unfolding cancel_in
cancel_lasts tags = earlier 0 1 (cancel_in tags) (one_lasts (used_tag_of tags) wanted.UsedTag (λ tag. command.Cancel tag)) (omega arith)

wait_stays : (tags : List Tag) → Stays 0 (wait_in tags)
unfolding wait_in
wait_stays tags a b p w e same = by (nat_le (length a) 1) refl
  where
    one : Words → Result Command LineFault
    one words = read_at (used_tag_of tags) wanted.UsedTag words 1 >>= λ tag. ended words 2 (command.Wait (Some tag))

    read : Bool → Words → Result Command LineFault
    read t words = cond t (Ok (command.Wait None)) (one words)

    by : (t : Bool) → nat_le (length a) 1 ≡ t → (0 ≤ p) × (read (nat_le (length b) 1) b ≡ Err (fault.Word p w))
    by true is =
        let here : read true a ≡ Err (fault.Word p w) = ap (λ (t : Bool). read t a) (sym is) ∙ e in
        absurd cc
    by false is =
        let here : read false a ≡ Err (fault.Word p w) = ap (λ (t : Bool). read t a) (sym is) ∙ e in
        let l = (one_lasts (used_tag_of tags) wanted.UsedTag (λ tag. command.Wait (Some tag))).stays a b p w here same in
        (omega arith, ap (λ (t : Bool). read t b) (sym (few_same 1 a b (same 1 l.0)) ∙ is) ∙ l.1)

wait_placed : (tags : List Tag) → InPlace (wait_in tags)
unfolding wait_in
wait_placed tags words = cond_placed (nat_le (length words) 1) (Ok (command.Wait None)) (read_at (used_tag_of tags) wanted.UsedTag words 1 >>= λ tag. ended words 2 (command.Wait (Some tag)))
    (ok_placed (command.Wait None)) ((one_lasts (used_tag_of tags) wanted.UsedTag (λ tag. command.Wait (Some tag))).placed words)

wait_lasts : (tags : List Tag) → Lasts 0 (wait_in tags)
wait_lasts tags = record { stays = wait_stays tags; placed = wait_placed tags }

drain_lasts : (shape : Shape) (on : Bool) → Lasts 0 (drain_in shape on)
unfolding drain_in
drain_lasts shape on = earlier 0 1 (drain_in shape on) (one_lasts (node_of shape) wanted.Node (λ node. command.Drain node on)) (omega arith)

stop_lasts : (shape : Shape) → Lasts 0 (stop_in shape)
unfolding stop_in
stop_lasts shape = earlier 0 1 (stop_in shape) (one_lasts (node_of shape) wanted.Node (λ node. command.Admin (order.Stop node))) (omega arith)

restart_lasts : (shape : Shape) → Lasts 0 (restart_in shape)
unfolding restart_in
restart_lasts shape = earlier 0 1 (restart_in shape) (one_lasts (node_of shape) wanted.Node (λ node. command.Admin (order.Restart node))) (omega arith)

-- three numbers and a test of them
three_lasts : {A B C : Type 0} (of_a : List ℕ → Option A) (of_b : List ℕ → Option B) (of_c : List ℕ → Option C) (u v w : Wanted) (test : A → B → C → Bool) (make : A → B → C → Command)
    → Lasts 0 (λ words. read_at of_a u words 1 >>= λ x. read_at of_b v words 2 >>= λ y. read_at of_c w words 3 >>= λ z. where_true (test x y z) (fault.Word 3 wanted.Holders) (ended words 4 (make x y z)))
three_lasts {A} {B} {C} of_a of_b of_c u v w test make = earlier 0 1 first (chain of_a u 1 second (λ x. earlier 1 2 (second x) (chain of_b v 2 (third x) (λ y. earlier 2 3 (third x y) (chain of_c w 3 (last x y) (λ z. tested x y z)) (omega arith))) (omega arith))) (omega arith)
  where
    last : A → B → C → Words → Result Command LineFault
    last x y z words = where_true (test x y z) (fault.Word 3 wanted.Holders) (ended words 4 (make x y z))

    third : A → B → Words → Result Command LineFault
    third x y words = read_at of_c w words 3 >>= λ z. last x y z words

    second : A → Words → Result Command LineFault
    second x words = read_at of_b v words 2 >>= λ y. third x y words

    first : Words → Result Command LineFault
    first words = read_at of_a u words 1 >>= λ x. second x words

    tested : (x : A) (y : B) (z : C) → Lasts 3 (last x y z)
    tested x y z = test_lasts 3 4 (test x y z) wanted.Holders (λ words. ended words 4 (make x y z)) (end_lasts 4 (make x y z)) (omega arith)

pull_lasts : (shape : Shape) → Lasts 0 (pull_in shape)
unfolding pull_in
pull_lasts shape = three_lasts (node_of shape) (node_of shape) (partition_of shape) wanted.Node wanted.Node wanted.Partition (λ a b q. are_peers shape q a b) (λ a b q. command.Admin (order.Pull a b q))

level_lasts : (shape : Shape) → Lasts 0 (level_in shape)
unfolding level_in
level_lasts shape = three_lasts (partition_of shape) (node_of shape) (node_of shape) wanted.Partition wanted.Node wanted.Node (λ q a b. are_peers shape q a b) (λ q a b. command.Admin (order.Level q a b))

compact_lasts : (shape : Shape) → Lasts 0 (compact_in shape)
unfolding compact_in
compact_lasts shape = earlier 0 1 (compact_in shape) (chain (node_of shape) wanted.Node 1 behind (λ n. earlier 1 2 (behind n) (chain (partition_of shape) wanted.Partition 2 (last n) (λ q. tested n q)) (omega arith))) (omega arith)
  where
    last : ℕ → ℕ → Words → Result Command LineFault
    last n q words = where_true (holds shape q n) (fault.Word 2 wanted.Holders) (ended words 3 (command.Admin (order.Compact n q)))

    behind : ℕ → Words → Result Command LineFault
    behind n words = read_at (partition_of shape) wanted.Partition words 2 >>= λ q. last n q words

    tested : (n q : ℕ) → Lasts 2 (last n q)
    tested n q = test_lasts 2 3 (holds shape q n) wanted.Holders (λ words. ended words 3 (command.Admin (order.Compact n q))) (end_lasts 3 (command.Admin (order.Compact n q))) (omega arith)

behind_lasts : (scope : Scope) (n : Name) → Lasts 0 (command_behind scope n)
unfolding command_behind
behind_lasts scope name.Put = put_lasts scope.tags
behind_lasts scope name.Get = get_lasts scope.tags
behind_lasts scope name.Info = info_lasts scope.tags
behind_lasts scope name.Delete = delete_lasts scope.tags
behind_lasts scope name.Cancel = cancel_lasts scope.tags
behind_lasts scope name.Wait = wait_lasts scope.tags
behind_lasts scope name.Drain = drain_lasts scope.shape true
behind_lasts scope name.Undrain = drain_lasts scope.shape false
behind_lasts scope name.Stop = stop_lasts scope.shape
behind_lasts scope name.Restart = restart_lasts scope.shape
behind_lasts scope name.Pull = pull_lasts scope.shape
behind_lasts scope name.Compact = compact_lasts scope.shape
behind_lasts scope name.Level = level_lasts scope.shape
behind_lasts scope name.End = earlier 0 1 (λ words. ended words 1 command.End) (end_lasts 1 command.End) (omega arith)

-- ---- whole lines

nothing_same : (a b : Words) → slice_get a 0 ≡ slice_get b 0 → is_nothing a ≡ is_nothing b
nothing_same [] [] same = refl
nothing_same [] (word ∷ b) same = absurd cc
nothing_same (word ∷ a) [] same = absurd cc
nothing_same (word ∷ a) (other ∷ b) same =
    let is : word ≡ other = cc in
    ap (λ (w : List ℕ). is_nothing (w ∷ [])) is

command_stays : (scope : Scope) → Stays 0 (command_in scope)
unfolding command_in
command_stays scope a b p w e same = by (is_nothing a) refl
  where
    named : Words → Result Command LineFault
    named words = read_at name_at wanted.CommandName words 0 >>= λ n. command_behind scope n words

    read : Bool → Words → Result Command LineFault
    read t words = cond t (Ok command.Skip) (named words)

    by : (t : Bool) → is_nothing a ≡ t → (0 ≤ p) × (read (is_nothing b) b ≡ Err (fault.Word p w))
    by true is =
        let here : read true a ≡ Err (fault.Word p w) = ap (λ (t : Bool). read t a) (sym is) ∙ e in
        absurd cc
    by false is =
        let here : read false a ≡ Err (fault.Word p w) = ap (λ (t : Bool). read t a) (sym is) ∙ e in
        let l = chain_stays name_at wanted.CommandName 0 (λ n. command_behind scope n) (λ n. (behind_lasts scope n).stays) a b p w here same in
        (omega arith, ap (λ (t : Bool). read t b) (sym (nothing_same a b (same 0 (omega arith))) ∙ is) ∙ l.1)

command_placed : (scope : Scope) → InPlace (command_in scope)
unfolding command_in
command_placed scope words = cond_placed (is_nothing words) (Ok command.Skip) (read_at name_at wanted.CommandName words 0 >>= λ n. command_behind scope n words) (ok_placed command.Skip)
    (bind_placed (read_at name_at wanted.CommandName words 0) (λ n. command_behind scope n words) (read_at_placed name_at wanted.CommandName 0 words) (λ n. (behind_lasts scope n).placed words))

get_taken : (n k : ℕ) (words : Words) → k < n → slice_get (take n words) k ≡ slice_get words k
get_taken zero k words lt = absurd (omega arith)
get_taken (suc n) k [] lt = refl
get_taken (suc n) zero (word ∷ words) lt = refl
get_taken (suc n) (suc k) (word ∷ words) lt = get_taken n k words (omega arith)

taken_same : (p : ℕ) (a b : Words) → take (p + 1) a ≡ take (p + 1) b → Same p a b
taken_same p a b same = λ k le. sym (get_taken (p + 1) k a (omega arith)) ∙ ap (λ (ws : Words). slice_get ws k) same ∙ get_taken (p + 1) k b (omega arith)

words_failed : (scope : Scope) (line : List ℕ) (p : ℕ) (w : Wanted) → line_in scope line ≡ Err (fault.Word p w) → command_in scope (words_of line) ≡ Err (fault.Word p w)
unfolding line_in
words_failed scope line p w e = by (nat_lt longest_line (length line)) refl
  where
    read : Bool → Result Command LineFault
    read t = where_true (not t) fault.TooLong (command_in scope (words_of line))

    by : (t : Bool) → nat_lt longest_line (length line) ≡ t → command_in scope (words_of line) ≡ Err (fault.Word p w)
    by true is =
        let here : read true ≡ Err (fault.Word p w) = ap read (sym is) ∙ e in
        absurd cc
    by false is = ap read (sym is) ∙ e

word_or_not : (p : ℕ) (w : Wanted) (c : Command) → refused {A = Command} p w ≡ done c → ⊥
word_or_not p w c e = cc

-- what reading refuses is refused rightly
refusal_is : (scope : Scope) (line : List ℕ) (e : LineFault) → line_in scope line ≡ Err e → IsRefusal scope line e
unfolding line_in
refusal_is scope line fault.Memory e = tt
refusal_is scope line fault.TooLong e = by (nat_lt longest_line (length line)) refl
  where
    read : Bool → Result Command LineFault
    read t = where_true (not t) fault.TooLong (command_in scope (words_of line))

    by : (t : Bool) → nat_lt longest_line (length line) ≡ t → longest_line < length line
    by true is = grind (arith, nat_tests)
    by false is =
        let here : read false ≡ Err fault.TooLong = ap read (sym is) ∙ e in
        absurd (command_placed scope (words_of line) here)
refusal_is scope line (fault.Word p w) e = λ other c same spells.
    let failed : command_in scope (words_of line) ≡ Err (fault.Word p w) = words_failed scope line p w e in
    let again = (command_stays scope (words_of line) (words_of other) p w failed (taken_same p (words_of line) (words_of other) same)).1 in
    let good : command_in scope (words_of other) ≡ Ok c = words_again scope c (words_of other) spells.1 in
    let bad : refused {A = Command} p w ≡ done c = sym again ∙ good in
    word_or_not p w c bad

pub answer_is : (scope : Scope) (line : List ℕ) (answer : Result Command LineFault) → Gives answer (line_in scope line) → IfErr answer (λ e. IsRefusal scope line e)
answer_is scope line (Ok c) gives = tt
answer_is scope line (Err fault.Memory) gives = tt
answer_is scope line (Err fault.TooLong) gives = refusal_is scope line fault.TooLong (gives (λ same. absurd cc))
answer_is scope line (Err (fault.Word p w)) gives = refusal_is scope line (fault.Word p w) (gives (λ same. absurd cc))
