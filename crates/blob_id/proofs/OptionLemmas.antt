-- Options that hold something or nothing. Two equal ones hold equal values by std's same_Some.
use Rattle.std.proofs.Common.{◌≡◌, Bool, true, false, cond, Option, Some, None, refl, sym, ◌∙◌}
use Rattle.std.proofs.lemmas.Option.{none-some}
use Rattle.std.specs.Option.{IsSome, is_none}

-- what is found unless a test holds
pub some_unless : {A : Type 0} (test : Bool) (x y : A) → cond test None (Some x) ≡ Some y → (test ≡ false) × (x ≡ y)
some_unless true x y found = absurd (none-some y found)
some_unless false x y found = (refl, cc)

pub not_both : {A : Type 0} (found : Option A) (x : A) → found ≡ Some x → found ≡ None → ⊥
not_both found x some none = none-some x (sym none ∙ some)

pub None-from_is_none : {A : Type 0} (found : Option A) → is_none found ≡ true → found ≡ None
None-from_is_none None none = refl
None-from_is_none (Some x) none = cc

pub None-unless_some : {A : Type 0} (found : Option A) → (IsSome found → ⊥) → found ≡ None
None-unless_some None never = refl
None-unless_some (Some x) never = absurd (never refl)

pub IsSome-unless_none : {A : Type 0} (found : Option A) → (found ≡ None → ⊥) → IsSome found
IsSome-unless_none None never = absurd (never refl)
IsSome-unless_none (Some x) never = refl
