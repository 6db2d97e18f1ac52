-- A request to each replica.
use Rattle.std.specs.Prelude.{◌≡◌, ℕ, zero, suc, ◌+◌, ◌<◌, Bool, true, false, List, [], ◌∷◌, ◌++◌}
use Rattle.std.specs.List.{list_any}
use Rattle.operation.specs.declared.sending.Errand.{Errand}
use Rattle.operation.specs.declared.sending.Purpose.{Purpose}
use Rattle.operation.specs.declared.sending.Sending.{Sending}
use Rattle.operation.specs.Calls.{Call, sent_in}

-- one request to each of so many replicas, in replica order, numbered on from the first
abbrev pub to_each : Purpose → Errand → ℕ → ℕ → List Sending
to_each purpose errand first zero = []
to_each purpose errand first (suc n) = to_each purpose errand first n ++ record { request = first + n; replica = n; purpose = purpose; errand = errand } ∷ []

-- a request was sent that reaches the replica
abbrev pub was_reached : (Sending → ℕ → Bool) → List Call → ℕ → Bool
was_reached reaches calls replica = list_any (λ sending. reaches sending replica) (sent_in calls)

-- each of the replicas was reached, or none was
abbrev pub HasReached : (Sending → ℕ → Bool) → ℕ → Bool → List Call → Type 0
HasReached reaches replicas false calls = (replica : ℕ) → was_reached reaches calls replica ≡ false
HasReached reaches replicas true calls = (replica : ℕ) → replica < replicas → was_reached reaches calls replica ≡ true
