-- Writes that aren't synced, one more or one fewer.
use Rattle.std.proofs.Common.{◌≡◌, ℕ, ◌+◌, ◌≤◌, Bool, List, [], ◌∷◌, ◌++◌, length, IsTrue, nat_le, refl, sym, ◌∙◌, ap, subst, arith}
use Rattle.std.specs.List.{list_all}
use Rattle.std.proofs.lemmas.Bool.Decides.{nat_tests}
use Rattle.std.proofs.lemmas.List.Folds.{list_all-append}
use Rattle.disk_core.specs.declared.unsynced.Overwritten.{Overwritten}
use Rattle.disk_core.specs.declared.unsynced.Pick.{Pick}
use Rattle.disk_core.specs.Unsynced.{fits, left_of, left_after, ranges_of, AddsWrite}
use Rattle.disk_core.proofs.Ranges.{length-range}

pub left_after-append : (pick : Pick) (bytes : List ℕ) (writes : List Overwritten) (write : Overwritten) → left_after pick bytes (writes ++ write ∷ []) ≡ left_after pick (left_of pick bytes write) writes
left_after-append pick bytes [] write = refl
left_after-append pick bytes (x ∷ writes) write = ap (λ (l : List ℕ). left_of pick l x) (left_after-append pick bytes writes write)

pub ranges_of-append : (writes : List Overwritten) (write : Overwritten) → ranges_of (writes ++ write ∷ []) ≡ ranges_of writes ++ (write.at, length write.bytes.items) ∷ []
ranges_of-append [] write = refl
ranges_of-append (x ∷ writes) write = ap (λ (l : List (ℕ × ℕ)). (x.at, length x.bytes.items) ∷ l) (ranges_of-append writes write)

nat_le-true : (m n : ℕ) → m ≤ n → IsTrue (nat_le m n)
nat_le-true m n le = grind (arith, nat_tests)

-- all of a longer list pass a test
module _ {X : Type 0} (p : X → Bool) (xs : List X) (x : X) where
  pub list_all-push : IsTrue (list_all p xs) → IsTrue (p x) → IsTrue (list_all p (xs ++ x ∷ []))
  list_all-push all last = rw (list_all-append p xs (x ∷ [])) (grind (arith, all, last))

  pub list_all-front : IsTrue (list_all p (xs ++ x ∷ [])) → IsTrue (list_all p xs)
  list_all-front all = let both = subst (λ (b : Bool). IsTrue b) (list_all-append p xs (x ∷ [])) all in grind (arith, both)

  pub list_all-last : IsTrue (list_all p (xs ++ x ∷ [])) → IsTrue (p x)
  list_all-last all = let both = subst (λ (b : Bool). IsTrue b) (list_all-append p xs (x ∷ [])) all in grind (arith, both)

-- the added write lies within the bytes, as the others do
pub fit_added : (at n : ℕ) (bytes : List ℕ) (writes new : List Overwritten) → at + n ≤ length bytes → AddsWrite at n bytes writes new → IsTrue (list_all (fits (length bytes)) writes) → IsTrue (list_all (fits (length bytes)) new)
fit_added at n bytes writes new le adds all =
    let long : length adds.write.bytes.items ≡ n = ap (λ (l : List ℕ). length l) adds.kept ∙ length-range at n bytes le in
    let last : IsTrue (fits (length bytes) adds.write) = nat_le-true (adds.write.at + length adds.write.bytes.items) (length bytes) (omega (arith, long, adds.place, le)) in
    subst (λ (l : List Overwritten). IsTrue (list_all (fits (length bytes)) l)) (sym adds.added) (list_all-push (fits (length bytes)) writes adds.write all last)
