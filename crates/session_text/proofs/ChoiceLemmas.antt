-- What tests and options come to.
use Rattle.std.proofs.Common.{◌≡◌, ◌⊎◌, inl, inr, ℕ, ◌&&◌, Bool, true, false, cond, Option, Some, None, Result, Ok, Err, is_none, option_map, List, refl, sym, ap, true≢false}
use Rattle.std.specs.Str.{bytes_eq}
use Rattle.std.proofs.lemmas.Slice.Eq.{bytes_eq-Decides}
use Rattle.session_text.specs.Texts.{ok_value}

pub some_is : {A : Type 0} (x y : A) → Some x ≡ Some y → x ≡ y
some_is x y e = cc

pub chosen : {A : Type 0} (b : Bool) (x y z : A) → cond b x y ≡ z → ((b ≡ true) × (x ≡ z)) ⊎ ((b ≡ false) × (y ≡ z))
chosen true x y z e = inl (refl, e)
chosen false x y z e = inr (refl, e)

pub kept : {A : Type 0} (b : Bool) (x : Option A) (y : A) → cond b x None ≡ Some y → (b ≡ true) × (x ≡ Some y)
kept true x y e = (refl, e)
kept false x y e = absurd cc

pub both : (a b : Bool) → (a && b) ≡ true → (a ≡ true) × (b ≡ true)
both true true e = (refl, refl)
both true false e = absurd (true≢false (sym e))
both false b e = absurd (true≢false (sym e))

pub nothing : {A : Type 0} (o : Option A) → is_none o ≡ true → o ≡ None
nothing None e = refl
nothing (Some x) e = absurd (true≢false (sym e))

pub mapped : {A : Type 0} (f : A → Bool) (o : Option A) (b : Bool) → option_map f o ≡ Some b → (x : A) × (o ≡ Some x) × (f x ≡ b)
mapped f None b e = absurd cc
mapped f (Some x) b e = (x, refl, some_is (f x) b e)

pub ok_is : {A E : Type 0} (r : Result A E) (x : A) → ok_value r ≡ Some x → r ≡ Ok x
ok_is (Ok y) x e = ap Ok (some_is y x e)
ok_is (Err d) x e = absurd cc

pub same_text : (word text : List ℕ) → bytes_eq word text ≡ true → word ≡ text
same_text word text e = (bytes_eq-Decides word text).0 e
