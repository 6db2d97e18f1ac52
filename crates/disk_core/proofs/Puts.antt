-- Writes to a list in place.
use Rattle.std.proofs.Common.{◌≡◌, ℕ, zero, suc, ◌+◌, ◌≤◌, List, [], ◌∷◌, ◌++◌, length, take, drop, refl, sym, ◌∙◌, ap, arith}
use borrow.Rule.Slice.PartMut.{put_mid}
use Rattle.disk_core.specs.Content.{Torn, Holds, range}
use Rattle.disk_core.specs.Unsynced.{put_at}
use Rattle.disk_core.specs.UnsyncedLaws.{length-put_at, put_at-other}

pub put_at-split : (xs : List ℕ) (at : ℕ) (bytes : List ℕ) → at + length bytes ≤ length xs → put_at xs at bytes ≡ take at xs ++ (bytes ++ drop (length bytes) (drop at xs))
put_at-split [] zero [] le = refl
put_at-split [] zero (b ∷ bytes) le = absurd (omega arith)
put_at-split [] (suc at) bytes le = absurd (omega arith)
put_at-split (x ∷ xs) zero [] le = refl
put_at-split (x ∷ xs) zero (b ∷ bytes) le = ap (λ (l : List ℕ). b ∷ l) (put_at-split xs zero bytes (omega arith))
put_at-split (x ∷ xs) (suc at) bytes le = ap (λ (l : List ℕ). x ∷ l) (put_at-split xs at bytes (omega arith))

pub put_mid-is : (xs : List ℕ) (at n : ℕ) (bytes : List ℕ) → at + length bytes ≤ length xs → n ≡ length bytes → put_mid at n xs bytes ≡ put_at xs at bytes
put_mid-is xs at n bytes le same = ap (λ (k : ℕ). take at xs ++ (bytes ++ drop k (drop at xs))) same ∙ sym (put_at-split xs at bytes le)

pub range-put_at : (xs : List ℕ) (at : ℕ) (bytes : List ℕ) → at + length bytes ≤ length xs → range at (length bytes) (put_at xs at bytes) ≡ bytes
range-put_at [] zero [] le = refl
range-put_at [] zero (b ∷ bytes) le = absurd (omega arith)
range-put_at [] (suc at) bytes le = absurd (omega arith)
range-put_at (x ∷ xs) zero [] le = refl
range-put_at (x ∷ xs) zero (b ∷ bytes) le = ap (λ (l : List ℕ). b ∷ l) (range-put_at xs zero bytes (omega arith))
range-put_at (x ∷ xs) (suc at) bytes le = range-put_at xs at bytes (omega arith)

pub put_at-torn : (xs : List ℕ) (at : ℕ) (bytes : List ℕ) → Torn at (length bytes) xs (put_at xs at bytes)
put_at-torn xs at bytes = record { size = length-put_at xs at bytes; others = λ k out. put_at-other xs at bytes k out }

pub put_at-holds : (xs : List ℕ) (at : ℕ) (bytes : List ℕ) → at + length bytes ≤ length xs → Holds at bytes xs (put_at xs at bytes)
put_at-holds xs at bytes le = record { here = range-put_at xs at bytes le; torn = put_at-torn xs at bytes }

-- what stood there, put back over as many bytes
pub put_at-back : (xs : List ℕ) (at : ℕ) (bytes : List ℕ) → at + length bytes ≤ length xs → put_at (put_at xs at bytes) at (range at (length bytes) xs) ≡ xs
put_at-back [] zero [] le = refl
put_at-back [] zero (b ∷ bytes) le = absurd (omega arith)
put_at-back [] (suc at) bytes le = absurd (omega arith)
put_at-back (x ∷ xs) zero [] le = refl
put_at-back (x ∷ xs) zero (b ∷ bytes) le = ap (λ (l : List ℕ). x ∷ l) (put_at-back xs zero bytes (omega arith))
put_at-back (x ∷ xs) (suc at) bytes le = ap (λ (l : List ℕ). x ∷ l) (put_at-back xs at bytes (omega arith))

-- put where it stands
pub put_at-same : (xs : List ℕ) (at n : ℕ) → at + n ≤ length xs → put_at xs at (range at n xs) ≡ xs
put_at-same [] at n le = refl
put_at-same (x ∷ xs) zero zero le = refl
put_at-same (x ∷ xs) zero (suc n) le = ap (λ (l : List ℕ). x ∷ l) (put_at-same xs zero n (omega arith))
put_at-same (x ∷ xs) (suc at) n le = ap (λ (l : List ℕ). x ∷ l) (put_at-same xs at n (omega arith))
