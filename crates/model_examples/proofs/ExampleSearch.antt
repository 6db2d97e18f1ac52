-- Whether a record can come to pass, by computing.
use Rattle.std.proofs.Common.{◌≡◌, ℕ, true, List, [], ◌∷◌, length, Option, Some, None, refl}
use Rattle.world_model.specs.Lists.{Each}
use Rattle.world_model.specs.Ordered.{IsOrdered}
use Rattle.world_model.specs.Record.{Item, Drawn, Record}
use Rattle.world_model.specs.Router.{IsKept, Keeps}
use Rattle.world_model.specs.Rules.{Rules}
use Rattle.world_model.specs.Safe.{DrawsFresh, DrawsNew, IsSound}
use Rattle.world_model.specs.World.{Allowed, Run, world}
use Rattle.world_model.proofs.SafeLaws.{safe_law}
use Rattle.model_examples.specs.Examples.{CanComeToPass}
use Rattle.model_examples.specs.Openings.{Holding, cells_of}
use Rattle.model_examples.proofs.OpeningSearch.{absent, agreed, all_agree, draws_new, drawn_is_new, unlisted}
use Rattle.model_examples.proofs.OrderSearch.{ordered_marks}
use Rattle.model_examples.proofs.RouterSearch.{keeps}
use Rattle.model_examples.proofs.RunSearch.{allowed}
use Rattle.model_examples.proofs.Searches.{both, found, when}
use Rattle.model_examples.proofs.TestLemmas.{all_pass, not_drawn, undrawn}

abbrev pub draws_fresh : (item : Item) (before : Record) → Option (DrawsFresh item before)
draws_fresh (Drawn operation part attempt id blob) before = found (undrawn id before) (when (all_pass (not_drawn id) before))
draws_fresh _ before = Some tt

-- an item may come: the network allows it, the router keeps its rules, and the id that it draws is new
pub record MayCome (rules : Rules) (opening : List Holding) (item : Item) (before : Record) : Type 0 where
  pub allowed : Allowed (world (cells_of opening) before) item
  pub keeps : Keeps rules item before
  pub fresh : DrawsFresh item before
  pub new : draws_new opening item ≡ true

abbrev pub may_come : (rules : Rules) (opening : List Holding) (item : Item) (before : Record) → Option (MayCome rules opening item before)
may_come rules opening item before = found (λ h. record { allowed = h.0.0; keeps = h.0.1; fresh = h.1.0; new = h.1.1 })
    (both (both (allowed (world (cells_of opening) before) item) (keeps rules item before)) (both (draws_fresh item before) (when (draws_new opening item))))

-- the first number, or else k where nothing is found
abbrev pub or_unless : {A : Type 0} → Option ℕ → ℕ → Option A → Option ℕ
or_unless (Some n) k a = Some n
or_unless None k (Some a) = None
or_unless None k None = Some k

-- how many items stand before the first one that may not come
abbrev pub first_wrong : (rules : Rules) (opening : List Holding) (r : Record) → Option ℕ
first_wrong rules opening [] = or_unless None 0 (when (all_agree opening))
first_wrong rules opening (item ∷ before) = or_unless (first_wrong rules opening before) (length before) (may_come rules opening item before)

-- the same, or the number of all items where the marks aren't in order
abbrev pub wrong : (rules : Rules) (opening : List Holding) (r : Record) → Option ℕ
wrong rules opening r = or_unless (first_wrong rules opening r) (length r) (ordered_marks rules.window true r)

-- all items may come
record AllMayCome (rules : Rules) (opening : List Holding) (r : Record) : Type 0 where
  sound : IsSound (cells_of opening)
  run : Run (cells_of opening) r
  kept : IsKept rules r
  fresh : Each DrawsFresh r
  new : all_pass (draws_new opening) r ≡ true

none_wrong : {A : Type 0} (w : Option ℕ) (k : ℕ) (o : Option A) → or_unless w k o ≡ None → (w ≡ None) × A
none_wrong (Some n) k o e = absurd cc
none_wrong None k None e = absurd cc
none_wrong None k (Some a) e = (refl, a)

all_may_come : (rules : Rules) (opening : List Holding) (r : Record) → first_wrong rules opening r ≡ None → AllMayCome rules opening r
all_may_come rules opening [] e = record { sound = agreed opening (none_wrong None 0 (when (all_agree opening)) e).1; run = tt; kept = tt; fresh = tt; new = refl }
all_may_come rules opening (item ∷ before) e =
    let n : (first_wrong rules opening before ≡ None) × MayCome rules opening item before = none_wrong (first_wrong rules opening before) (length before) (may_come rules opening item before) e in
    let b : AllMayCome rules opening before = all_may_come rules opening before n.0 in
    let m : MayCome rules opening item before = n.1 in
    record { sound = b.sound; run = (b.run, m.allowed); kept = (b.kept, m.keeps); fresh = (b.fresh, m.fresh); new = rw (m.new, b.new) refl }

pub comes_to_pass : (rules : Rules) (opening : List Holding) (r : Record) → wrong rules opening r ≡ None → CanComeToPass rules (cells_of opening) r
comes_to_pass rules opening r e =
    let n : (first_wrong rules opening r ≡ None) × IsOrdered rules.window true r = none_wrong (first_wrong rules opening r) (length r) (ordered_marks rules.window true r) e in
    let a : AllMayCome rules opening r = all_may_come rules opening r n.0 in
    let new : DrawsNew (cells_of opening) r = record {
      once = a.fresh;
      cells = λ id w n p. absent opening id (drawn_is_new opening r id a.new w) n p;
      listed = λ id w n p top held o l. unlisted opening id (drawn_is_new opening r id a.new w) n p top held o l;
    } in
    record { sound = a.sound; new = new; run = a.run; kept = a.kept; safe = safe_law rules (cells_of opening) r a.sound new a.run a.kept; ordered = n.1 }
