-- A standing goes on by one note.
use Rattle.std.proofs.Common.{◌≡◌, ℕ, ◌==◌, Bool, true, false, cond, ◌&&◌, List, [], ◌∷◌, Option, Some, None, refl, ap}
use Rattle.quorum_op.specs.declared.cause.Finding.{Finding}
use Rattle.quorum_op.specs.declared.cause.Finding.TheVariants.{Yes, State, Absent, Gone, Failed}
use Rattle.quorum_op.specs.Counts.{oldest, or_else}
use Rattle.quorum_op.specs.Tally.{Note, is_decisive, finding_in, unless_state, standing, settle}
use Rattle.quorum_op.proofs.CountLaws.{and_left, and_right, oldest_passes}

none_else : {A : Type 0} (o : Option A) → or_else o None ≡ o
none_else None = refl
none_else (Some x) = refl

-- where none passes, none passes a stronger test
oldest_none : {A : Type 0} (p q : A → Bool) (xs : List A) → ((x : A) → q x ≡ true → p x ≡ true) → oldest p xs ≡ None → oldest q xs ≡ None
oldest_none p q [] f h = refl
oldest_none {A} p q (x ∷ xs) f h = go (oldest p xs) refl (oldest_none p q xs f) h
  where
    last : (a b : Bool) → p x ≡ a → q x ≡ b → cond a (Some x) None ≡ None → cond b (Some x) None ≡ None
    last true b e g k = absurd cc
    last false true e g k = absurd (let t : p x ≡ true = f x g in cc)
    last false false e g k = refl

    go : (o : Option A) → oldest p xs ≡ o → (oldest p xs ≡ None → oldest q xs ≡ None) → or_else o (cond (p x) (Some x) None) ≡ None → or_else (oldest q xs) (cond (q x) (Some x) None) ≡ None
    go (Some y) e ih k = absurd cc
    go None e ih k = let n : oldest q xs ≡ None = ih e in rw n (last (p x) (q x) refl refl k)

-- the new note is of this replica
same_replica : (finding : Finding) (replica : ℕ) (note : Note) (first later : Option Note) → note.finding ≡ finding → (first ≡ None → later ≡ None) → ((n : Note) → later ≡ Some n → is_decisive n.finding ≡ true)
    → unless_state (finding_in (or_else first (Some note))) (finding_in (or_else later (cond (is_decisive note.finding) (Some note) None))) ≡ settle (unless_state (finding_in first) (finding_in later)) note.finding
same_replica finding replica note None later e none decides = rw (none refl) (go note.finding refl)
  where
    go : (f : Finding) → note.finding ≡ f → unless_state (Some f) (finding_in (cond (is_decisive f) (Some note) None)) ≡ Some f
    go Yes e = refl
    go State e = refl
    go Absent e = refl
    go Gone e = refl
    go (Failed c) e = refl
same_replica finding replica note (Some n) None e none decides = go n.finding note.finding refl
  where
    go : (a f : Finding) → note.finding ≡ f → unless_state (Some a) (finding_in (cond (is_decisive f) (Some note) None)) ≡ settle (unless_state (Some a) None) f
    go State Yes e = ap Some e
    go State State e = refl
    go State Absent e = refl
    go State Gone e = ap Some e
    go State (Failed c) e = ap Some e
    go Yes f e = refl
    go Absent f e = refl
    go Gone f e = refl
    go (Failed c) f e = refl
same_replica finding replica note (Some n) (Some l) e none decides = go n.finding l.finding (decides l refl)
  where
    go : (a d : Finding) → is_decisive d ≡ true → unless_state (Some a) (Some d) ≡ settle (unless_state (Some a) (Some d)) note.finding
    go State Yes h = refl
    go State State h = absurd cc
    go State Absent h = absurd cc
    go State Gone h = refl
    go State (Failed c) h = refl
    go Yes d h = refl
    go Absent d h = refl
    go Gone d h = refl
    go (Failed c) d h = refl

pub standing_more : (note : Note) (notes : List Note) (replica : ℕ) → standing (note ∷ notes) replica ≡ cond (note.replica == replica) (settle (standing notes replica) note.finding) (standing notes replica)
standing_more note notes replica = go (note.replica == replica)
  where
    is : Note → Bool
    is n = n.replica == replica

    decides : Note → Bool
    decides n = (n.replica == replica) && is_decisive n.finding

    go : (b : Bool)
        → unless_state (finding_in (or_else (oldest (λ n. n.replica == replica) notes) (cond b (Some note) None))) (finding_in (or_else (oldest (λ n. (n.replica == replica) && is_decisive n.finding) notes) (cond (b && is_decisive note.finding) (Some note) None)))
        ≡ cond b (settle (standing notes replica) note.finding) (standing notes replica)
    go true = same_replica note.finding replica note (oldest (λ n. n.replica == replica) notes) (oldest (λ n. (n.replica == replica) && is_decisive n.finding) notes) refl
        (oldest_none (λ (n : Note). n.replica == replica) (λ (n : Note). (n.replica == replica) && is_decisive n.finding) notes (λ n h. and_left _ _ h))
        (λ n h. and_right _ _ (oldest_passes (λ (w : Note). (w.replica == replica) && is_decisive w.finding) notes n h))
    go false = rw (none_else (oldest (λ n. n.replica == replica) notes), none_else (oldest (λ n. (n.replica == replica) && is_decisive n.finding) notes)) refl
