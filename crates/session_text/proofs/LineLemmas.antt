-- What a line spells is what it is read as.
use Rattle.std.proofs.Common.{◌≡◌, ◌∙◌, inl, inr, ℕ, ◌≤◌, not, nat_le, nat_lt, Bool, true, false, cond, codes, Option, Some, None, Result, Ok, Err, List, [], ◌∷◌, ◌++◌, length, drop, refl, sym, ap, subst, arith, IfOk, MatchResult}
use Rattle.std.proofs.lemmas.Bool.Decides.{nat_tests}
use Rattle.world_model.specs.declared.order.Order.{Order}
use Rattle.world_model.specs.declared.order.Order.TheVariants as order
use Rattle.world_model.specs.declared.shape.Shape.{Shape}
use Rattle.session_text.specs.declared.tags.Tag.{Tag}
use Rattle.session_text.specs.declared.tags.Scope.{Scope}
use Rattle.session_text.specs.declared.fault.LineFault.{LineFault}
use Rattle.session_text.specs.declared.fault.LineFault.TheVariants as fault
use Rattle.session_text.specs.declared.fault.Wanted.TheVariants as wanted
use Rattle.session_text.specs.declared.names.Name.{Name}
use Rattle.session_text.specs.declared.names.Name.TheVariants as name
use Rattle.session_text.specs.declared.command.BlobSource.{BlobSource}
use Rattle.session_text.specs.declared.command.IdWord.{IdWord}
use Rattle.session_text.specs.declared.command.Command.{Command}
use Rattle.session_text.specs.declared.command.Command.TheVariants as command
use Rattle.session_text.specs.Texts.{words_of}
use Rattle.session_text.specs.Names.{name_text}
use Rattle.session_text.specs.Holders.{node_of, partition_of, holds, are_peers}
use Rattle.session_text.specs.Spelling.{longest_line, IsNothing, SpellsMetadata, SpellsFile, SpellsOrder, SpellsByWords, Spells}
use Rattle.session_text.specs.Reading.{◌>>=◌, where_true, Gives, read_at, ended, new_tag_of, used_tag_of, id_word_of, source_in, type_option, metadata_option, file_option, range_in, behind_option, behind_range, put_in, get_in, info_in, delete_in, cancel_in, wait_in, drain_in, stop_in, restart_in, pull_in, compact_in, level_in, command_behind, command_in, line_in}
use Rattle.session_text.proofs.PlaceLemmas.{done, done_is, bind_is, read_at_again, ended_again}
use Rattle.session_text.proofs.WordLemmas.{new_tag_again, used_tag_again, id_word_again, node_again, partition_again, peers_again}
use Rattle.session_text.proofs.PartLemmas.{source_again, type_option_again, metadata_option_again, no_type_before, file_option_again, range_again}
use Rattle.session_text.proofs.ReadLemmas.{Words, line_takes}

-- a name in front: what stands behind it is read
named_at : (scope : Scope) (n : Name) (rest : Words) → command_in scope (name_text n ∷ rest) ≡ command_behind scope n (name_text n ∷ rest)
unfolding command_in
named_at scope name.Put rest = refl
named_at scope name.Get rest = refl
named_at scope name.Info rest = refl
named_at scope name.Delete rest = refl
named_at scope name.Cancel rest = refl
named_at scope name.Wait rest = refl
named_at scope name.Drain rest = refl
named_at scope name.Undrain rest = refl
named_at scope name.Stop rest = refl
named_at scope name.Restart rest = refl
named_at scope name.Pull rest = refl
named_at scope name.Compact rest = refl
named_at scope name.Level rest = refl
named_at scope name.End rest = refl

-- the same of words that begin with a name
behind_name : (scope : Scope) (n : Name) (rest words : Words) (c : Command) → words ≡ name_text n ∷ rest → command_behind scope n words ≡ Ok c → command_in scope words ≡ Ok c
behind_name scope n rest words c front e =
    ap (command_in scope) front ∙ named_at scope n rest ∙ ap (command_behind scope n) (sym front) ∙ e

skip_again : (scope : Scope) (words : Words) → IsNothing words → command_in scope words ≡ Ok command.Skip
unfolding command_in
skip_again scope words s = elim s [ inl p ↦ ap (command_in scope) p ∙ none | inr p ↦ ap (command_in scope) p.2 ∙ comment p.0 p.1 ]
  where
    none : command_in scope [] ≡ Ok command.Skip
    none = refl

    comment : (word : List ℕ) (more : Words) → command_in scope ((35 ∷ word) ∷ more) ≡ Ok command.Skip
    comment word more = refl

put_steps : (tags : List Tag) (words : Words) (tag : List ℕ) (s : BlobSource) (t m : List ℕ) → read_at (new_tag_of tags) wanted.NewTag words 1 ≡ Ok tag → source_in words 2 ≡ Ok s → type_option words 4 ≡ Ok t
    → metadata_option words (behind_option words 4 (codes "type")) ≡ Ok m → drop (behind_option words (behind_option words 4 (codes "type")) (codes "meta")) words ≡ [] → put_in tags words ≡ Ok (command.Put tag s t m)
unfolding put_in
put_steps tags words tag s t m tag_is s_is t_is m_is end =
    let p = behind_option words 4 (codes "type") in
    let q = behind_option words p (codes "meta") in
    let last = λ (tag : List ℕ) (s : BlobSource) (t : List ℕ) (m : List ℕ). ended words q (command.Put tag s t m) in
    bind_is (read_at (new_tag_of tags) wanted.NewTag words 1) (λ tag. source_in words 2 >>= λ s. type_option words 4 >>= λ t. metadata_option words p >>= λ m. last tag s t m) tag tag_is
    ∙ bind_is (source_in words 2) (λ s. type_option words 4 >>= λ t. metadata_option words p >>= λ m. last tag s t m) s s_is
    ∙ bind_is (type_option words 4) (λ t. metadata_option words p >>= λ m. last tag s t m) t t_is
    ∙ bind_is (metadata_option words p) (λ m. last tag s t m) m m_is
    ∙ ended_again words q (command.Put tag s t m) end

put_again : (scope : Scope) (tag : List ℕ) (s : BlobSource) (t m : List ℕ) (words : Words) → SpellsByWords scope (command.Put tag s t m) words → put_in scope.tags words ≡ Ok (command.Put tag s t m)
put_again scope tag s t m words spells =
    let from = spells.0 in
    let typed = spells.1 in
    let metas = spells.2 in
    let first : drop 1 words ≡ tag ∷ (from ++ (typed ++ metas)) = ap (drop 1) spells.3 in
    let second : drop 2 words ≡ from ++ (typed ++ metas) = ap (drop 2) spells.3 in
    let source = source_again words 2 s from (typed ++ metas) second spells.5 in
    let ctype = type_option_again words 4 t typed metas source.1 spells.6 (no_type_before words 4 m metas spells.7) in
    let p = behind_option words 4 (codes "type") in
    let meta = metadata_option_again words p m (subst (SpellsMetadata m) (sym ctype.1) spells.7) in
    put_steps scope.tags words tag s t m (read_at_again (new_tag_of scope.tags) wanted.NewTag words 1 tag (from ++ (typed ++ metas)) tag first (new_tag_again scope.tags tag spells.4)) source.0 ctype.0 meta.0 meta.1

get_steps : (tags : List Tag) (words : Words) (tag : List ℕ) (i : IdWord) (r : Option (ℕ × ℕ)) (f : Option (List ℕ)) → read_at (new_tag_of tags) wanted.NewTag words 1 ≡ Ok tag → read_at (id_word_of tags) wanted.Id words 2 ≡ Ok i → range_in words 3 ≡ Ok r
    → file_option words (behind_range r 3) ≡ Ok f → drop (behind_option words (behind_range r 3) (codes "file")) words ≡ [] → get_in tags words ≡ Ok (command.Get tag i r f)
unfolding get_in
get_steps tags words tag i r f tag_is i_is r_is f_is end =
    let last = λ (tag : List ℕ) (i : IdWord) (r : Option (ℕ × ℕ)) (f : Option (List ℕ)). ended words (behind_option words (behind_range r 3) (codes "file")) (command.Get tag i r f) in
    bind_is (read_at (new_tag_of tags) wanted.NewTag words 1) (λ tag. read_at (id_word_of tags) wanted.Id words 2 >>= λ i. range_in words 3 >>= λ r. file_option words (behind_range r 3) >>= λ f. last tag i r f) tag tag_is
    ∙ bind_is (read_at (id_word_of tags) wanted.Id words 2) (λ i. range_in words 3 >>= λ r. file_option words (behind_range r 3) >>= λ f. last tag i r f) i i_is
    ∙ bind_is (range_in words 3) (λ r. file_option words (behind_range r 3) >>= λ f. last tag i r f) r r_is
    ∙ bind_is (file_option words (behind_range r 3)) (λ f. last tag i r f) f f_is
    ∙ ended_again words (behind_option words (behind_range r 3) (codes "file")) (command.Get tag i r f) end

get_again : (scope : Scope) (tag : List ℕ) (i : IdWord) (r : Option (ℕ × ℕ)) (f : Option (List ℕ)) (words : Words) → SpellsByWords scope (command.Get tag i r f) words → get_in scope.tags words ≡ Ok (command.Get tag i r f)
get_again scope tag i r f words spells =
    let word = spells.0 in
    let ranged = spells.1 in
    let named = spells.2 in
    let first : drop 1 words ≡ tag ∷ word ∷ (ranged ++ named) = ap (drop 1) spells.3 in
    let second : drop 2 words ≡ word ∷ (ranged ++ named) = ap (drop 2) spells.3 in
    let third : drop 3 words ≡ ranged ++ named = ap (drop 3) spells.3 in
    let range = range_again words 3 r f ranged named third spells.6 spells.7 in
    let file = file_option_again words (behind_range r 3) f (subst (SpellsFile f) (sym range.1) spells.7) in
    get_steps scope.tags words tag i r f (read_at_again (new_tag_of scope.tags) wanted.NewTag words 1 tag (word ∷ (ranged ++ named)) tag first (new_tag_again scope.tags tag spells.4))
    (read_at_again (id_word_of scope.tags) wanted.Id words 2 word (ranged ++ named) i second (id_word_again scope.tags i word spells.5)) range.0 file.0 file.1

info_again : (scope : Scope) (tag : List ℕ) (i : IdWord) (words : Words) → SpellsByWords scope (command.Info tag i) words → info_in scope.tags words ≡ Ok (command.Info tag i)
unfolding info_in
info_again scope tag i words spells =
    let tags = scope.tags in
    let new = read_at_again (new_tag_of tags) wanted.NewTag words 1 tag (spells.0 ∷ []) tag (ap (drop 1) spells.1) (new_tag_again tags tag spells.2) in
    let named = read_at_again (id_word_of tags) wanted.Id words 2 spells.0 [] i (ap (drop 2) spells.1) (id_word_again tags i spells.0 spells.3) in
    bind_is (read_at (new_tag_of tags) wanted.NewTag words 1) (λ tag. read_at (id_word_of tags) wanted.Id words 2 >>= λ i. ended words 3 (command.Info tag i)) tag new
    ∙ bind_is (read_at (id_word_of tags) wanted.Id words 2) (λ i. ended words 3 (command.Info tag i)) i named
    ∙ ended_again words 3 (command.Info tag i) (ap (drop 3) spells.1)

delete_again : (scope : Scope) (tag : List ℕ) (i : IdWord) (words : Words) → SpellsByWords scope (command.Delete tag i) words → delete_in scope.tags words ≡ Ok (command.Delete tag i)
unfolding delete_in
delete_again scope tag i words spells =
    let tags = scope.tags in
    let new = read_at_again (new_tag_of tags) wanted.NewTag words 1 tag (spells.0 ∷ []) tag (ap (drop 1) spells.1) (new_tag_again tags tag spells.2) in
    let named = read_at_again (id_word_of tags) wanted.Id words 2 spells.0 [] i (ap (drop 2) spells.1) (id_word_again tags i spells.0 spells.3) in
    bind_is (read_at (new_tag_of tags) wanted.NewTag words 1) (λ tag. read_at (id_word_of tags) wanted.Id words 2 >>= λ i. ended words 3 (command.Delete tag i)) tag new
    ∙ bind_is (read_at (id_word_of tags) wanted.Id words 2) (λ i. ended words 3 (command.Delete tag i)) i named
    ∙ ended_again words 3 (command.Delete tag i) (ap (drop 3) spells.1)

cancel_again : (scope : Scope) (tag : List ℕ) (words : Words) → SpellsByWords scope (command.Cancel tag) words → cancel_in scope.tags words ≡ Ok (command.Cancel tag)
unfolding cancel_in
cancel_again scope tag words spells =
    let tags = scope.tags in
    let used = read_at_again (used_tag_of tags) wanted.UsedTag words 1 tag [] tag (ap (drop 1) spells.0) (used_tag_again tags tag spells.1) in
    bind_is (read_at (used_tag_of tags) wanted.UsedTag words 1) (λ tag. ended words 2 (command.Cancel tag)) tag used
    ∙ ended_again words 2 (command.Cancel tag) (ap (drop 2) spells.0)

wait_again : (scope : Scope) (tag : Option (List ℕ)) (words : Words) → SpellsByWords scope (command.Wait tag) words → wait_in scope.tags words ≡ Ok (command.Wait tag)
unfolding wait_in
wait_again scope None words spells = ap (wait_in scope.tags) spells
wait_again scope (Some tag) words spells =
    let tags = scope.tags in
    let used = read_at_again (used_tag_of tags) wanted.UsedTag words 1 tag [] tag (ap (drop 1) spells.0) (used_tag_again tags tag spells.1) in
    let more : nat_le (length words) 1 ≡ false = ap (λ (ws : Words). nat_le (length ws) 1) spells.0 in
    ap (λ (b : Bool). cond b (done (command.Wait None)) (read_at (used_tag_of tags) wanted.UsedTag words 1 >>= λ tag. ended words 2 (command.Wait (Some tag)))) more
    ∙ bind_is (read_at (used_tag_of tags) wanted.UsedTag words 1) (λ tag. ended words 2 (command.Wait (Some tag))) tag used
    ∙ ended_again words 2 (command.Wait (Some tag)) (ap (drop 2) spells.0)

drain_again : (scope : Scope) (node : ℕ) (on : Bool) (words : Words) → SpellsByWords scope (command.Drain node on) words → drain_in scope.shape on words ≡ Ok (command.Drain node on)
unfolding drain_in
drain_again scope node on words spells =
    let shape = scope.shape in
    let is = read_at_again (node_of shape) wanted.Node words 1 spells.0 [] node (ap (drop 1) spells.1) (node_again shape spells.0 node spells.2) in
    bind_is (read_at (node_of shape) wanted.Node words 1) (λ node. ended words 2 (command.Drain node on)) node is
    ∙ ended_again words 2 (command.Drain node on) (ap (drop 2) spells.1)

stop_again : (shape : Shape) (node : ℕ) (words : Words) → SpellsOrder shape (order.Stop node) words → stop_in shape words ≡ Ok (command.Admin (order.Stop node))
unfolding stop_in
stop_again shape node words spells =
    let is = read_at_again (node_of shape) wanted.Node words 1 spells.0 [] node (ap (drop 1) spells.1) (node_again shape spells.0 node spells.2) in
    bind_is (read_at (node_of shape) wanted.Node words 1) (λ node. ended words 2 (command.Admin (order.Stop node))) node is
    ∙ ended_again words 2 (command.Admin (order.Stop node)) (ap (drop 2) spells.1)

restart_again : (shape : Shape) (node : ℕ) (words : Words) → SpellsOrder shape (order.Restart node) words → restart_in shape words ≡ Ok (command.Admin (order.Restart node))
unfolding restart_in
restart_again shape node words spells =
    let is = read_at_again (node_of shape) wanted.Node words 1 spells.0 [] node (ap (drop 1) spells.1) (node_again shape spells.0 node spells.2) in
    bind_is (read_at (node_of shape) wanted.Node words 1) (λ node. ended words 2 (command.Admin (order.Restart node))) node is
    ∙ ended_again words 2 (command.Admin (order.Restart node)) (ap (drop 2) spells.1)

pull_again : (shape : Shape) (a b partition : ℕ) (words : Words) → SpellsOrder shape (order.Pull a b partition) words → pull_in shape words ≡ Ok (command.Admin (order.Pull a b partition))
unfolding pull_in
pull_again shape a b partition words (m, n, p, front, a_is, b_is, p_is, peers) =
    let last = λ (a : ℕ) (b : ℕ) (q : ℕ). where_true (are_peers shape q a b) (fault.Word 3 wanted.Holders) (ended words 4 (command.Admin (order.Pull a b q))) in
    let first = read_at_again (node_of shape) wanted.Node words 1 m (n ∷ p ∷ []) a (ap (drop 1) front) (node_again shape m a a_is) in
    let second = read_at_again (node_of shape) wanted.Node words 2 n (p ∷ []) b (ap (drop 2) front) (node_again shape n b b_is) in
    let third = read_at_again (partition_of shape) wanted.Partition words 3 p [] partition (ap (drop 3) front) (partition_again shape p partition p_is) in
    bind_is (read_at (node_of shape) wanted.Node words 1) (λ a. read_at (node_of shape) wanted.Node words 2 >>= λ b. read_at (partition_of shape) wanted.Partition words 3 >>= λ q. last a b q) a first
    ∙ bind_is (read_at (node_of shape) wanted.Node words 2) (λ b. read_at (partition_of shape) wanted.Partition words 3 >>= λ q. last a b q) b second
    ∙ bind_is (read_at (partition_of shape) wanted.Partition words 3) (λ q. last a b q) partition third
    ∙ ap (λ (t : Bool). where_true t (fault.Word 3 wanted.Holders) (ended words 4 (command.Admin (order.Pull a b partition)))) (peers_again shape partition a b peers)
    ∙ ended_again words 4 (command.Admin (order.Pull a b partition)) (ap (drop 4) front)

compact_again : (shape : Shape) (node partition : ℕ) (words : Words) → SpellsOrder shape (order.Compact node partition) words → compact_in shape words ≡ Ok (command.Admin (order.Compact node partition))
unfolding compact_in
compact_again shape node partition words (n, p, front, n_is, p_is, held) =
    let last = λ (a : ℕ) (q : ℕ). where_true (holds shape q a) (fault.Word 2 wanted.Holders) (ended words 3 (command.Admin (order.Compact a q))) in
    let first = read_at_again (node_of shape) wanted.Node words 1 n (p ∷ []) node (ap (drop 1) front) (node_again shape n node n_is) in
    let second = read_at_again (partition_of shape) wanted.Partition words 2 p [] partition (ap (drop 2) front) (partition_again shape p partition p_is) in
    bind_is (read_at (node_of shape) wanted.Node words 1) (λ a. read_at (partition_of shape) wanted.Partition words 2 >>= λ q. last a q) node first
    ∙ bind_is (read_at (partition_of shape) wanted.Partition words 2) (λ q. last node q) partition second
    ∙ ap (λ (t : Bool). where_true t (fault.Word 2 wanted.Holders) (ended words 3 (command.Admin (order.Compact node partition)))) held
    ∙ ended_again words 3 (command.Admin (order.Compact node partition)) (ap (drop 3) front)

level_again : (shape : Shape) (partition a b : ℕ) (words : Words) → SpellsOrder shape (order.Level partition a b) words → level_in shape words ≡ Ok (command.Admin (order.Level partition a b))
unfolding level_in
level_again shape partition a b words (p, m, n, front, p_is, a_is, b_is, peers) =
    let last = λ (q : ℕ) (a : ℕ) (b : ℕ). where_true (are_peers shape q a b) (fault.Word 3 wanted.Holders) (ended words 4 (command.Admin (order.Level q a b))) in
    let first = read_at_again (partition_of shape) wanted.Partition words 1 p (m ∷ n ∷ []) partition (ap (drop 1) front) (partition_again shape p partition p_is) in
    let second = read_at_again (node_of shape) wanted.Node words 2 m (n ∷ []) a (ap (drop 2) front) (node_again shape m a a_is) in
    let third = read_at_again (node_of shape) wanted.Node words 3 n [] b (ap (drop 3) front) (node_again shape n b b_is) in
    bind_is (read_at (partition_of shape) wanted.Partition words 1) (λ q. read_at (node_of shape) wanted.Node words 2 >>= λ a. read_at (node_of shape) wanted.Node words 3 >>= λ b. last q a b) partition first
    ∙ bind_is (read_at (node_of shape) wanted.Node words 2) (λ a. read_at (node_of shape) wanted.Node words 3 >>= λ b. last partition a b) a second
    ∙ bind_is (read_at (node_of shape) wanted.Node words 3) (λ b. last partition a b) b third
    ∙ ap (λ (t : Bool). where_true t (fault.Word 3 wanted.Holders) (ended words 4 (command.Admin (order.Level partition a b)))) (peers_again shape partition a b peers)
    ∙ ended_again words 4 (command.Admin (order.Level partition a b)) (ap (drop 4) front)

order_again : (scope : Scope) (o : Order) (words : Words) → SpellsOrder scope.shape o words → command_in scope words ≡ Ok (command.Admin o)
unfolding command_behind
order_again scope (order.Stop node) words s = behind_name scope name.Stop (s.0 ∷ []) words (command.Admin (order.Stop node)) s.1 (stop_again scope.shape node words s)
order_again scope (order.Restart node) words s = behind_name scope name.Restart (s.0 ∷ []) words (command.Admin (order.Restart node)) s.1 (restart_again scope.shape node words s)
order_again scope (order.Pull a b partition) words s = behind_name scope name.Pull (s.0 ∷ s.1 ∷ s.2 ∷ []) words (command.Admin (order.Pull a b partition)) s.3 (pull_again scope.shape a b partition words s)
order_again scope (order.Compact node partition) words s = behind_name scope name.Compact (s.0 ∷ s.1 ∷ []) words (command.Admin (order.Compact node partition)) s.2 (compact_again scope.shape node partition words s)
order_again scope (order.Level partition a b) words s = behind_name scope name.Level (s.0 ∷ s.1 ∷ s.2 ∷ []) words (command.Admin (order.Level partition a b)) s.3 (level_again scope.shape partition a b words s)

pub words_again : (scope : Scope) (c : Command) (words : Words) → SpellsByWords scope c words → command_in scope words ≡ Ok c
unfolding command_behind
words_again scope command.Skip words s = skip_again scope words s
words_again scope (command.Put tag source t m) words s = behind_name scope name.Put (tag ∷ (s.0 ++ (s.1 ++ s.2))) words (command.Put tag source t m) s.3 (put_again scope tag source t m words s)
words_again scope (command.Get tag i r f) words s = behind_name scope name.Get (tag ∷ s.0 ∷ (s.1 ++ s.2)) words (command.Get tag i r f) s.3 (get_again scope tag i r f words s)
words_again scope (command.Info tag i) words s = behind_name scope name.Info (tag ∷ s.0 ∷ []) words (command.Info tag i) s.1 (info_again scope tag i words s)
words_again scope (command.Delete tag i) words s = behind_name scope name.Delete (tag ∷ s.0 ∷ []) words (command.Delete tag i) s.1 (delete_again scope tag i words s)
words_again scope (command.Cancel tag) words s = behind_name scope name.Cancel (tag ∷ []) words (command.Cancel tag) s.0 (cancel_again scope tag words s)
words_again scope (command.Wait None) words s = behind_name scope name.Wait [] words (command.Wait None) s (wait_again scope None words s)
words_again scope (command.Wait (Some tag)) words s = behind_name scope name.Wait (tag ∷ []) words (command.Wait (Some tag)) s.0 (wait_again scope (Some tag) words s)
words_again scope (command.Drain node true) words s = behind_name scope name.Drain (s.0 ∷ []) words (command.Drain node true) s.1 (drain_again scope node true words s)
words_again scope (command.Drain node false) words s = behind_name scope name.Undrain (s.0 ∷ []) words (command.Drain node false) s.1 (drain_again scope node false words s)
words_again scope (command.Admin o) words s = order_again scope o words s
words_again scope command.End words s = behind_name scope name.End [] words command.End s (ended_again words 1 command.End (ap (drop 1) s))

pub line_again : (scope : Scope) (c : Command) (line : List ℕ) → Spells scope c line → line_in scope line ≡ Ok c
unfolding line_in
line_again scope c line s =
    let fits : not (nat_lt longest_line (length line)) ≡ true = within (length line) s.0 in
    ap (λ (b : Bool). where_true b fault.TooLong (command_in scope (words_of line))) fits ∙ words_again scope c (words_of line) s.1
  where
    within : (n : ℕ) → n ≤ longest_line → not (nat_lt longest_line n) ≡ true
    within n few = by (nat_lt longest_line n) refl
      where
        by : (t : Bool) → nat_lt longest_line n ≡ t → not t ≡ true
        by true e = absurd (grind (arith, nat_tests))
        by false e = refl

-- ---- what a reader answers that gives what is read

-- a line spells one command at most
pub one_command : (scope : Scope) (line : List ℕ) (a b : Command) → Spells scope a line → Spells scope b line → a ≡ b
one_command scope line a b first second = done_is a b (sym (line_again scope a line first) ∙ line_again scope b line second)

pub found : (scope : Scope) (line : List ℕ) (answer : Result Command LineFault) → Gives answer (line_in scope line) → IfOk answer (λ c. Spells scope c line)
found scope line (Ok c) gives = line_takes scope line c gives
found scope line (Err e) gives = tt

pub only : (scope : Scope) (line : List ℕ) (answer : Result Command LineFault) (c : Command) → Gives answer (line_in scope line) → Spells scope c line
    → MatchResult answer (λ read. read ≡ c) (λ e. e ≡ fault.Memory)
only scope line (Ok read) c gives spells = done_is read c (sym gives ∙ line_again scope c line spells)
only scope line (Err fault.Memory) c gives spells = refl
only scope line (Err fault.TooLong) c gives spells =
    let read : line_in scope line ≡ Err fault.TooLong = gives (λ same. absurd cc) in
    let bad : done c ≡ Err fault.TooLong = sym (line_again scope c line spells) ∙ read in
    absurd cc
only scope line (Err (fault.Word place wants)) c gives spells =
    let read : line_in scope line ≡ Err (fault.Word place wants) = gives (λ same. absurd cc) in
    let bad : done c ≡ Err (fault.Word place wants) = sym (line_again scope c line spells) ∙ read in
    absurd cc
