-- A slot goes on by one note.
use Rattle.std.proofs.Common.{◌≡◌, ◌≢◌, ℕ, zero, suc, ◌==◌, ◌<◌, Bool, true, false, cond, List, ◌∷◌, ◌++◌, length, Option, None, refl, sym, ap, ◌∙◌, subst, arith, slice_set, get_or-set_same, get_or-set_other}
use Rattle.std.proofs.lemmas.Bool.Decides.{Decides-eqb}
use Rattle.quorum_op.specs.declared.cause.Cause.{Cause}
use Rattle.quorum_op.specs.declared.cause.Finding.{Finding}
use Rattle.quorum_op.specs.Tally.{Note, standing, settle, standing_so, decide, verdict, failure_at, failed_replicas, is_yes, is_state, is_found, is_gone, is_failed}
use Rattle.quorum_op.proofs.CountLaws.{count_same}
use Rattle.quorum_op.proofs.StandingLaws.{standing_more}
use Rattle.quorum_op.specs.Slots.{TallyView, slot_at, slots_so, failed_in, IsTallyOf}

-- the slots after a finding of replica k
pub slots_set : (slots : List (Option Finding)) (notes : List Note) (k : ℕ) (f : Finding) (n : ℕ) (new : Option Finding) → k < length slots
    → ((r : ℕ) → r < n → slot_at slots r ≡ standing notes r) → k < n → new ≡ settle (slot_at slots k) f
    → (r : ℕ) → r < n → slot_at (slice_set slots k new) r ≡ standing (record { replica = k; finding = f } ∷ notes) r
slots_set slots notes k f n new within h kn e r rn = go (k == r) refl ∙ sym (standing_more (record { replica = k; finding = f }) notes r)
  where
    go : (b : Bool) → (k == r) ≡ b → slot_at (slice_set slots k new) r ≡ cond b (settle (standing notes r) f) (standing notes r)
    go true q =
        let same : k ≡ r = (Decides-eqb k r).0 q in
        subst (λ (w : ℕ). slot_at (slice_set slots k new) w ≡ settle (standing notes w) f) same
        (get_or-set_same slots k new None within ∙ (e ∙ ap (λ (o : Option Finding). settle o f) (h k kn)))
    go false q =
        let other : r ≢ k = λ w. (let t : (k == r) ≡ true = (Decides-eqb k r).1 (sym w) in cc) in
        get_or-set_other slots k r new None other ∙ h r rn

-- the slots count as the standings do
pub slots_count : (view : TallyView) (notes : List Note) (test : Option Finding → Bool) → IsTallyOf view notes → slots_so view.slots test view.replicas ≡ standing_so view.replicas notes test
slots_count view notes test h = count_same view.replicas (λ r. test (slot_at view.slots r)) (λ r. test (standing notes r)) (λ k l. ap test (h k l))

-- so what the slots come to is what the notes come to
pub slots_decide : (view : TallyView) (notes : List Note) → IsTallyOf view notes
    → decide view.kind view.replicas view.need (slots_so view.slots is_yes view.replicas) (slots_so view.slots is_state view.replicas) (slots_so view.slots is_found view.replicas) (slots_so view.slots is_gone view.replicas) (slots_so view.slots is_failed view.replicas)
    ≡ verdict view.kind view.replicas view.need notes
slots_decide view notes h =
    rw (slots_count view notes is_yes h, slots_count view notes is_state h, slots_count view notes is_found h, slots_count view notes is_gone h, slots_count view notes is_failed h) refl

-- the slots have the failures that the notes come to
failed_same : (n : ℕ) (slots : List (Option Finding)) (notes : List Note) → ((r : ℕ) → r < n → slot_at slots r ≡ standing notes r) → failed_in slots n ≡ failed_replicas n notes
failed_same zero slots notes h = refl
failed_same (suc n) slots notes h =
    ap (λ (l : List (ℕ × Cause)). l ++ failure_at n (slot_at slots n)) (failed_same n slots notes (λ r l. h r (omega arith)))
    ∙ ap (λ (o : Option Finding). failed_replicas n notes ++ failure_at n o) (h n (omega arith))

pub slots_failed : (view : TallyView) (notes : List Note) → IsTallyOf view notes → failed_in view.slots view.replicas ≡ failed_replicas view.replicas notes
slots_failed view notes h = failed_same view.replicas view.slots notes h
