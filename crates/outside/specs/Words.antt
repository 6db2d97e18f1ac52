-- The words that a random source will give, where it tells them: word k of the stream is the k-th from now on.
use Rattle.std.specs.Prelude.{◌≡◌, ℕ, ◌+◌, ◌^◌, ◌%◌, suc, zero, Option, None, Some}

-- the stream behind its first word
abbrev pub behind_first : (ℕ → ℕ) → ℕ → ℕ
behind_first words k = words (suc k)

-- A word was given: the first one of those that were told, and the others are still to come.
abbrev pub Gives : Option (ℕ → ℕ) → Option (ℕ → ℕ) → ℕ → Type 0
Gives None new word = new ≡ None
Gives (Some words) new word = (word ≡ words 0) × (new ≡ Some (behind_first words))

-- what is to come after a start: what was to come before, or the words of the number that was asked for
abbrev pub started : (ℕ → Option (ℕ → ℕ)) → Option ℕ → Option (ℕ → ℕ) → Option (ℕ → ℕ)
started seeded None before = before
started seeded (Some number) before = seeded number

-- a nonce and a count in turn, the count one greater each time
abbrev pub counted : ℕ → ℕ → ℕ → ℕ
counted nonce count zero = nonce
counted nonce count (suc zero) = count
counted nonce count (suc (suc k)) = counted nonce ((count + 1) % 2 ^ 64) k
