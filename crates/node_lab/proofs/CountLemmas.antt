-- Counts of faults over two calls.
use Rattle.std.proofs.Common.{ℕ, ◌≤◌, arith}
use Rattle.outside.specs.Causes.{Rose}

-- a count that rose in the second call rose in both
pub rose_later : (a b c : ℕ) → a ≤ b → Rose b c → Rose a c
rose_later a b c one two = omega (arith, one, two)

-- and one that rose in the first
pub rose_before : (a b c : ℕ) → Rose a b → b ≤ c → Rose a c
rose_before a b c one two = omega (arith, one, two)
