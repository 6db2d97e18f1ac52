-- What a counter has still to give.
use Rattle.std.specs.Prelude.{ℕ, Bool, true, false}
use Rattle.outside.specs.Words.{behind_first, counted}

abbrev pub counted_ahead : ℕ → ℕ → Bool → ℕ → ℕ
counted_ahead nonce count false = counted nonce count
counted_ahead nonce count true = behind_first (counted nonce count)
