-- What calls make of a network adds up.
use Rattle.std.specs.Prelude.{ℕ, Bool, true, false, List, Option, refl}
use Rattle.std.proofs.Common.{arith, ◌∙◌}
use Rattle.world_model.specs.declared.shape.Shape.{Shape}
use Rattle.world_model.specs.Advancing.{Advances}
use Rattle.world_model.specs.World.{Cells}

module _ {F : Type 0} (count : F → ℕ) (shape_of : F → Option Shape) (leads : F → Shape → List ℕ → Cells → Type 0) (becomes : F → F → Bool → Type 0) where
  -- where no call was made
  pub nowhere : (a : F) (whole : Bool) → becomes a a true → (becomes a a true → becomes a a false) → Advances count shape_of leads becomes a a whole
  nowhere a whole own weakens = record { later = omega arith; opened = refl; run = λ cluster place opening before. before; own = at whole }
    where
      at : (w : Bool) → becomes a a w
      at true = own
      at false = weakens own

  -- by whole calls, and then by others
  pub and_then : (a b c : F) (whole : Bool) → (becomes a b true → becomes b c whole → becomes a c whole) → Advances count shape_of leads becomes a b true → Advances count shape_of leads becomes b c whole → Advances count shape_of leads becomes a c whole
  and_then a b c whole joins p q = record {
    later = let p' = p.later in let q' = q.later in omega (arith, p', q');
    opened = q.opened ∙ p.opened;
    run = λ cluster place opening before. q.run cluster place opening (p.run cluster place opening before);
    own = joins p.own q.own;
  }

  -- by whole calls, seen as calls that may not have been whole
  pub anyhow : (a b : F) (whole : Bool) → (becomes a b true → becomes a b false) → Advances count shape_of leads becomes a b true → Advances count shape_of leads becomes a b whole
  anyhow a b true weakens p = p
  anyhow a b false weakens p = record { later = p.later; opened = p.opened; run = p.run; own = weakens p.own }
