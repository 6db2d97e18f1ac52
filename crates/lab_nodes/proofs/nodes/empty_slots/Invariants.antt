use Rattle.std.proofs.Common.{◌≡◌, ℕ, length, None}
use Rattle.lab_nodes.specs.Spots.{slot_at}
use Rattle.lab_nodes.proofs.nodes.empty_slots.Given as goal

-- so many empty slots
abbrev pub invariant-loop : goal.invariant-loop
invariant-loop g l = record { passed : length l.slots.items ≡ l.counter; none : (place : ℕ) → slot_at l.slots.items place ≡ None }
