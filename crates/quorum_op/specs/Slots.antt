-- What a tally keeps of its notes.
use Rattle.std.specs.Prelude.{◌≡◌, ℕ, zero, suc, ◌<◌, Bool, List, [], ◌++◌, Option, None, slice_index_or}
use Rattle.quorum_op.specs.declared.cause.Cause.{Cause}
use Rattle.quorum_op.specs.declared.cause.Finding.{Finding}
use Rattle.quorum_op.specs.declared.cause.TallyKind.{TallyKind}
use Rattle.quorum_op.specs.Counts.{count_below}
use Rattle.quorum_op.specs.Tally.{Note, standing, failure_at}

-- a tally: what is asked for, of how many replicas, how many are needed, and where each stands
pub record TallyView : Type 0 where
  pub kind : TallyKind
  pub replicas : ℕ
  pub need : ℕ
  pub slots : List (Option Finding)

abbrev pub slot_at : List (Option Finding) → ℕ → Option Finding
slot_at slots replica = slice_index_or slots replica None

-- each replica's slot is where it stands by these notes
abbrev pub IsTallyOf : TallyView → List Note → Type 0
IsTallyOf view notes = (replica : ℕ) → replica < view.replicas → slot_at view.slots replica ≡ standing notes replica

-- two tallies are of the same kind, the same replicas and the same need
pub record IsSameTally (old new : TallyView) : Type 0 where
  pub kind : new.kind ≡ old.kind
  pub replicas : new.replicas ≡ old.replicas
  pub need : new.need ≡ old.need

-- how many of the first slots pass
abbrev pub slots_so : List (Option Finding) → (Option Finding → Bool) → ℕ → ℕ
slots_so slots test n = count_below n (λ replica. test (slot_at slots replica))

-- the failures of the first slots
abbrev pub failed_in : List (Option Finding) → ℕ → List (ℕ × Cause)
failed_in slots zero = []
failed_in slots (suc n) = failed_in slots n ++ failure_at n (slot_at slots n)
