-- Tests that decide, of a record that is written out, what the router's rules ask of what came before an item.
use Rattle.std.proofs.Common.{◌≡◌, ℕ, ◌==◌, ◌<◌, nat_lt, Bool, true, false, not, ◌&&◌, ◌||◌, List, [], ◌∷◌, refl, sym, ap, ◌∙◌, subst, inl, inr, arith}
use Rattle.std.proofs.lemmas.Bool.Decides.{nat_tests}
use Rattle.blob_id.specs.declared.blob.Blob.{Blob}
use Rattle.blob_id.specs.declared.id.BlobId.{BlobId}
use Rattle.quorum_op.specs.declared.outcome.Outcome.{Outcome}
use Rattle.quorum_op.proofs.CountLaws.{and_left, and_right}
use Rattle.world_model.specs.declared.history.HistoryMark.TheVariants.{End}
use Rattle.world_model.specs.Lists.{Has, Earlier}
use Rattle.world_model.specs.Notes.{Asked, asked, operation_of, same_part}
use Rattle.world_model.specs.Record.{Part, Top, Chunk, Item, Marked, Drawn, Decided, Record}
use Rattle.world_model.specs.Router.{GoesFirst, HasEnded, IsDone}
use Rattle.world_model.specs.Safe.{WasDrawn}
use Rattle.world_model.specs.World.{same_id}
use Rattle.world_model.proofs.CellLaws.{same_id_self, same_number}

abbrev pub all_pass : {A : Type 0} → (A → Bool) → List A → Bool
all_pass p [] = true
all_pass p (x ∷ xs) = p x && all_pass p xs

pub all_has : {A : Type 0} (p : A → Bool) (xs : List A) (x : A) → all_pass p xs ≡ true → Has xs x → p x ≡ true
all_has p [] x t h = absurd h
all_has p (y ∷ ys) x t h = elim h [
  | inl e ↦ ap p e ∙ and_left _ _ t
  | inr m ↦ all_has p ys x (and_right _ _ t) m
]

same_part_self : (p : Part) → same_part p p ≡ true
same_part_self Top = refl
same_part_self (Chunk k) = same_number k

abbrev pub not_decided : ℕ → Item → Bool
not_decided o (Decided other how) = not (other == o)
not_decided o _ = true

abbrev pub not_ended : ℕ → Item → Bool
not_ended o (Marked (End other how)) = not (other == o)
not_ended o _ = true

abbrev pub not_drawn_for : ℕ → Part → ℕ → Item → Bool
not_drawn_for o part attempt (Drawn other p a id blob) = not ((other == o) && same_part p part && (a == attempt))
not_drawn_for o part attempt _ = true

abbrev pub not_drawn : BlobId → Item → Bool
not_drawn id (Drawn o p a other blob) = not (same_id other id)
not_drawn id _ = true

abbrev pub is_below : ℕ → Asked → Bool
is_below c a = not (operation_of a.correlation == operation_of c) || nat_lt a.correlation c

pub undone : (o : ℕ) (r : Record) → all_pass (not_decided o) r ≡ true → IsDone r o → ⊥
undone o r t d =
    let q : not (o == o) ≡ true = all_has (not_decided o) r (Decided o d.0) t d.1 in
    let f : not (o == o) ≡ false = ap not (same_number o) in
    cc

pub unended : (o : ℕ) (r : Record) → all_pass (not_ended o) r ≡ true → HasEnded r o → ⊥
unended o r t d =
    let q : not (o == o) ≡ true = all_has (not_ended o) r (Marked (End o d.0)) t d.1 in
    let f : not (o == o) ≡ false = ap not (same_number o) in
    cc

pub undrawn_for : (o : ℕ) (part : Part) (attempt : ℕ) (r : Record) → all_pass (not_drawn_for o part attempt) r ≡ true → (id : BlobId) (blob : Blob) → Has r (Drawn o part attempt id blob) → ⊥
undrawn_for o part attempt r t id blob h =
    let q : not ((o == o) && same_part part part && (attempt == attempt)) ≡ true = all_has (not_drawn_for o part attempt) r (Drawn o part attempt id blob) t h in
    let f : ((o == o) && same_part part part && (attempt == attempt)) ≡ true = rw (same_number o, same_part_self part, same_number attempt) refl in
    let g : not ((o == o) && same_part part part && (attempt == attempt)) ≡ false = ap not f in
    cc

pub undrawn : (id : BlobId) (r : Record) → all_pass (not_drawn id) r ≡ true → WasDrawn r id → ⊥
undrawn id r t w =
    let q : not (same_id id id) ≡ true = all_has (not_drawn id) r (Drawn w.0 w.1 w.2 id w.3) t w.4 in
    let f : not (same_id id id) ≡ false = ap not (same_id_self id) in
    cc

pub rising : (c : ℕ) (r : Record) → all_pass (is_below c) (asked r) ≡ true → (a : Asked) → Has (asked r) a → operation_of a.correlation ≡ operation_of c → a.correlation < c
rising c r t a h e =
    let q : (not (operation_of a.correlation == operation_of c) || nat_lt a.correlation c) ≡ true = all_has (is_below c) (asked r) a t h in
    let s : (operation_of a.correlation == operation_of c) ≡ true = ap (λ (n : ℕ). n == operation_of c) e ∙ same_number (operation_of c) in
    let l : nat_lt a.correlation c ≡ true = ap (λ (b : Bool). not b || nat_lt a.correlation c) (sym s) ∙ q in
    grind (arith, nat_tests)

-- what became done and goes first has ended
abbrev pub AllOrdered : Record → Record → ℕ → Record → Type 0
AllOrdered [] at operation before = Unit {0}
AllOrdered (Decided other how ∷ then) at operation before = AllOrdered then at operation before × (GoesFirst then other at operation → Has before (Marked (End other how)))
AllOrdered (_ ∷ then) at operation before = AllOrdered then at operation before

rest_ordered : (item : Item) (then at : Record) (operation : ℕ) (before : Record) → AllOrdered (item ∷ then) at operation before → AllOrdered then at operation before
rest_ordered (Decided other how) then at operation before a = a.0
rest_ordered _ then at operation before a = a

pub ordered : (r at : Record) (operation : ℕ) (before : Record) → AllOrdered r at operation before → (other : ℕ) (how : Outcome) (then : Record) → Earlier (Decided other how ∷ then) r → GoesFirst then other at operation → Has before (Marked (End other how))
ordered [] at operation before a other how then e g = absurd (cc e)
ordered (item ∷ rest) at operation before a other how then e g = elim e [
  | inl q ↦ (
      let i : item ≡ Decided other how = cc q in
      let r : rest ≡ then = cc q in
      let b : AllOrdered (Decided other how ∷ then) at operation before = subst (λ (w : Item). AllOrdered (w ∷ then) at operation before) i (subst (λ (w : Record). AllOrdered (item ∷ w) at operation before) r a) in
      b.1 g)
  | inr t ↦ ordered rest at operation before (rest_ordered item rest at operation before a) other how then t g
]
