-- A script line that begins or ends an operation, from what the parts of a session say of it.
use Rattle.std.proofs.Common.{◌≡◌, ⊎_elim, ℕ, ◌+◌, ◌<◌, ◌≤◌, List, [], ◌∷◌, ◌++◌, length, Bool, true, false, not, IsNone, Option, Some, refl, sym, ap, subst, ◌∙◌}
use Rattle.quorum_op.specs.declared.outcome.Outcome.{Outcome}
use Rattle.world_model.specs.declared.history.Begun.{Begun}
use Rattle.world_model.specs.declared.history.HistoryMark.{HistoryMark}
use Rattle.world_model.specs.declared.shape.Shape.{Shape}
use Rattle.world_model.specs.declared.history.HistoryMark.TheVariants.{Begin, Drew, Ordered}
use Rattle.world_model.specs.declared.order.Order.{Order}
use Rattle.world_model.specs.declared.order.Told.{Told}
use Rattle.front_end.specs.declared.tags.Tag.{Tag}
use Rattle.front_end.specs.declared.session.Session.{Session}
use Rattle.front_end.specs.declared.history.Entry.{Entry}
use Rattle.front_end.specs.declared.history.Entry.TheVariants.{Mark, Bad, Failed}
use Rattle.front_end.specs.declared.script.Command.TheVariants as command
use Rattle.front_end.specs.Past.{is_to_node, IsBad}
use Rattle.front_end.specs.Script.{command_of}
use Rattle.front_end.specs.Transcript.{entry_line}
use Rattle.front_end.specs.Session.{State, Keeps, StandsAt, HasGoneOn, Adds, IsEnding, Finishes, drawn_by, busy_by, finished_by, ending_of, end_of, put_of, refused_by, settled_by, Stores, Starts}
use Rattle.front_end.proofs.CarryLemmas.{IsGoing, to_draw_of, store_going, starts_going, none_to_draw, adds_both, le_or_lt, failed_whole, order_whole, refuse_whole}
use Rattle.front_end.proofs.KeepLemmas.{begun_line}

twice_not : (b : Bool) → not (not b) ≡ b
twice_not true = refl
twice_not false = refl

-- what is there at an end alone
pub not_idle : {A : Type 0} (idle : Bool) (x : Option A) (e : A) → x ≡ Some e → (idle ≡ true → IsNone x) → idle ≡ false
not_idle false x e is none = refl
not_idle true x e is none = let here : IsNone (Some e) = subst IsNone is (none refl) in absurd cc

pub busy_when : (idle busy : Bool) → idle ≡ not busy → idle ≡ false → busy ≡ true
busy_when idle true e f = refl
busy_when idle false e f = let clash : true ≡ false = sym e ∙ f in cc

-- what finishing is to a state that the session keeps
pub record FinishesState (state : State) (new : Session) (tie tie' : List HistoryMark → Type 0) (outcome : Option Outcome) (out out' : List ℕ) : Type 0 where
  pub ends : IsEnding state.busy outcome
  pub ties : (marks : List HistoryMark) → tie marks → tie' (end_of (length state.tags) outcome ++ marks)
  pub told : out' ≡ out ++ ending_of state.tags outcome
  pub keeps : Keeps new (finished_by state outcome)

pub finishes_state : (old new : Session) (state : State) (tie tie' : List HistoryMark → Type 0) (out out' : List ℕ) (f : Finishes old new tie tie' out out') → Keeps old state → FinishesState state new tie tie' f.outcome out out'
finishes_state old new state tie tie' out out' f k = record {
  ends = subst (λ (b : Bool). IsEnding b f.outcome) (ap not k.busy ∙ twice_not state.busy) f.ends;
  ties = subst (λ (tags : List Tag). (marks : List HistoryMark) → tie marks → tie' (end_of (length tags) f.outcome ++ marks)) k.tags f.ties;
  told = f.told ∙ ap (λ (tags : List Tag). out ++ ending_of tags f.outcome) k.tags;
  keeps = f.becomes state k;
}

-- what is written up to the begun line
pub begun_told : (now between out : List ℕ) (between_tags tags : List Tag) (ending : List ℕ) (t : Tag) (r q : Begun) → between_tags ≡ tags
    → now ≡ between ++ entry_line (between_tags ++ t ∷ []) (Mark (Begin (length between_tags + 1) r)) → between ≡ out ++ ending
    → now ≡ (out ++ ending) ++ entry_line (tags ++ t ∷ []) (Mark (Begin (length tags + 1) q))
begun_told now between out between_tags tags ending t r q same begun finished =
    begun ∙ ap (λ (x : List Tag). between ++ entry_line (x ++ t ∷ []) (Mark (Begin (length x + 1) r))) same
    ∙ ap (λ (x : List ℕ). between ++ x) (begun_line (tags ++ t ∷ []) (length tags + 1) r q)
    ∙ ap (λ (x : List ℕ). x ++ entry_line (tags ++ t ∷ []) (Mark (Begin (length tags + 1) q))) finished

-- an operation that is over at once, or asks the replicas, from its begun line on
pub starts_on : (shape : Shape) (line : List ℕ) (lines : List (List ℕ)) (state s : State) (begins new : Session) (tie tie' : List HistoryMark → Type 0) (first words next : Option (ℕ → ℕ)) (n : ℕ) (r : Begun) (out out1 out2 : List ℕ)
    → Keeps begins s → length begins.tags ≡ n → IsGoing shape (lines ++ line ∷ []) s tie first words n r [] → Adds out out1 state s → Starts (length begins.tags) r begins new tie tie' words next out1 out2
    → HasGoneOn shape line lines state new tie' first next out out2
starts_on shape line lines state s begins new tie tie' first words next n r out out1 out2 k counted going adds starts =
    let here : n ≡ length s.tags = sym counted ∙ ap (λ (t : List Tag). length t) k.tags in
    let ties : (marks : List HistoryMark) → tie marks → tie' (Begin n r ∷ marks) = subst (λ m. (marks : List HistoryMark) → tie marks → tie' (Begin m r ∷ marks)) counted starts.ties in
    let stands = starts_going shape (lines ++ line ∷ []) s tie tie' first words n r going here ties in
    record {
      state = busy_by s;
      keeps = starts.becomes s k;
      stands = subst (λ (x : Option (ℕ → ℕ)). StandsAt shape (lines ++ line ∷ []) (busy_by s) tie' first x) (sym starts.same_words) stands;
      adds = subst (λ (x : List ℕ). Adds out x state (busy_by s)) (sym starts.same_out) adds;
    }

-- a put, from its begun line on
pub put_goes_on : (shape : Shape) (line : List ℕ) (lines : List (List ℕ)) (state s : State) (begins new : Session) (tie tie' : List HistoryMark → Type 0) (first words next : Option (ℕ → ℕ)) (n : ℕ) (body : List ℕ) (out out1 out2 : List ℕ)
    → Keeps begins s → length begins.tags ≡ n → 0 < n → IsGoing shape (lines ++ line ∷ []) s tie first words n (put_of body) (to_draw_of n (put_of body)) → Adds out out1 state s
    → (length body ≤ 65536 → Stores shape.partitions (length begins.tags) body begins new tie tie' words next out1 out2)
    → (65536 < length body → Starts (length begins.tags) (put_of body) begins new tie tie' words next out1 out2)
    → HasGoneOn shape line lines state new tie' first next out out2
put_goes_on shape line lines state s begins new tie tie' first words next n body out out1 out2 k counted pos going adds stored refused =
    let here : n ≡ length s.tags = sym counted ∙ ap (λ (t : List Tag). length t) k.tags in
    ⊎_elim
    (λ (small : length body ≤ 65536).
    let st : Stores shape.partitions n body begins new tie tie' words next out1 out2 = subst (λ m. Stores shape.partitions m body begins new tie tie' words next out1 out2) counted (stored small) in
    let done = store_going shape (lines ++ line ∷ []) s tie tie' first words next n body st.id out1 going here pos small st.draws st.ties in
    let s3 = busy_by (drawn_by s n st.id) in
    let told : out2 ≡ out1 ++ entry_line s.tags (Mark (Drew n st.id)) = st.told ∙ ap (λ (x : List Tag). out1 ++ entry_line x (Mark (Drew n st.id))) k.tags in
    record {
      state = s3;
      keeps = st.drew s k;
      stands = done.0;
      adds = adds_both out out1 out2 state s s3 adds (subst (λ (x : List ℕ). Adds out1 x s s3) (sym told) done.1);
    })
    (λ (large : 65536 < length body).
    let g : IsGoing shape (lines ++ line ∷ []) s tie first words n (put_of body) [] = subst (IsGoing shape (lines ++ line ∷ []) s tie first words n (put_of body)) (none_to_draw n body large) going in
    starts_on shape line lines state s begins new tie tie' first words next n (put_of body) out out1 out2 k counted g adds (refused large))
    (le_or_lt (length body) 65536)

-- a line that adds an entry of its own to a state that a session keeps
own_on : (shape : Shape) (line : List ℕ) (lines : List (List ℕ)) (state s : State) (new : Session) (tie : List HistoryMark → Type 0) (first words : Option (ℕ → ℕ)) (tags : List Tag) (e : Entry) (out out' : List ℕ)
    → tags ≡ state.tags → StandsAt shape (lines ++ line ∷ []) s tie first words × Adds out (out ++ entry_line state.tags e) state s → Keeps new s → out' ≡ out ++ entry_line tags e
    → HasGoneOn shape line lines state new tie first words out out'
own_on shape line lines state s new tie first words tags e out out' same done keeps written =
    let all : out' ≡ out ++ entry_line state.tags e = written ∙ ap (λ (t : List Tag). out ++ entry_line t e) same in
    record { state = s; keeps = keeps; stands = done.0; adds = subst (λ (x : List ℕ). Adds out x state s) (sym all) done.1 }

-- an order that was carried out
pub ordered_on : (shape : Shape) (line : List ℕ) (lines : List (List ℕ)) (state : State) (new : Session) (tie tie' : List HistoryMark → Type 0) (first words : Option (ℕ → ℕ)) (tags : List Tag) (order : Order) (told : Told) (out out' : List ℕ)
    → tags ≡ state.tags → command_of tags line ≡ Some (command.Order order) → is_to_node shape.nodes order ≡ true → StandsAt shape lines state tie first words
    → ((marks : List HistoryMark) → tie marks → tie' (Ordered order told ∷ marks)) → Keeps new (settled_by state (Mark (Ordered order told))) → out' ≡ out ++ entry_line tags (Mark (Ordered order told))
    → HasGoneOn shape line lines state new tie' first words out out'
ordered_on shape line lines state new tie tie' first words tags order told out out' same asks there stands ties keeps written =
    let asks' = ap (λ (t : List Tag). command_of t line) (sym same) ∙ asks in
    own_on shape line lines state _ new tie' first words tags (Mark (Ordered order told)) out out' same (order_whole shape lines line state tie tie' first words order told out asks' there ties stands) keeps written

-- an order at which the network failed
pub failed_on : (shape : Shape) (line : List ℕ) (lines : List (List ℕ)) (state : State) (new : Session) (tie : List HistoryMark → Type 0) (first words : Option (ℕ → ℕ)) (tags : List Tag) (order : Order) (out out' : List ℕ)
    → tags ≡ state.tags → command_of tags line ≡ Some (command.Order order) → is_to_node shape.nodes order ≡ true → StandsAt shape lines state tie first words
    → Keeps new (settled_by state (Failed order)) → out' ≡ out ++ entry_line tags (Failed order) → HasGoneOn shape line lines state new tie first words out out'
failed_on shape line lines state new tie first words tags order out out' same asks there stands keeps written =
    let asks' = ap (λ (t : List Tag). command_of t line) (sym same) ∙ asks in
    own_on shape line lines state _ new tie first words tags (Failed order) out out' same (failed_whole shape lines line state tie first words order out asks' there stands) keeps written

-- a bad line
pub refused_on : (shape : Shape) (line : List ℕ) (lines : List (List ℕ)) (state : State) (new : Session) (tie : List HistoryMark → Type 0) (first words : Option (ℕ → ℕ)) (tags : List Tag) (number : ℕ) (out out' : List ℕ)
    → tags ≡ state.tags → IsBad shape.nodes (command_of tags line) → number ≡ state.lines → state.lines ≡ 1 + length lines → StandsAt shape lines state tie first words
    → Keeps new (refused_by state) → out' ≡ out ++ entry_line tags (Bad number) → HasGoneOn shape line lines state new tie first words out out'
refused_on shape line lines state new tie first words tags number out out' same bad counted next stands keeps written =
    let bad' : IsBad shape.nodes (command_of state.tags line) = subst (λ (t : List Tag). IsBad shape.nodes (command_of t line)) same bad in
    own_on shape line lines state _ new tie first words tags (Bad state.lines) out out' same (refuse_whole shape lines line state tie first words out bad' stands next) keeps
    (written ∙ ap (λ (n : ℕ). out ++ entry_line tags (Bad n)) counted)
