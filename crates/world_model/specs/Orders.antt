-- What orders come to.
use Rattle.std.specs.Prelude.{◌≡◌, ℕ, ◌==◌, Bool, true, false, ◌&&◌, ◌||◌, not, List, [], ◌∷◌, ◌++◌, map}
use Rattle.world_model.specs.declared.order.Order.{Order}
use Rattle.world_model.specs.declared.order.PullCause.{PullCause}
use Rattle.world_model.specs.declared.order.Told.{Told}
use Rattle.world_model.specs.declared.step.Step.{Step}
use Rattle.world_model.specs.Record.{Took, Record}

-- whether a node is stopped: it was, and wasn't restarted since
abbrev pub is_stopped : ℕ → Record → Bool
is_stopped node [] = false
is_stopped node (Took (Step.Stop other) ∷ before) = (node == other) || is_stopped node before
is_stopped node (Took (Step.Restart other done) ∷ before) = not (node == other) && is_stopped node before
is_stopped node (_ ∷ before) = is_stopped node before

-- By these steps, with this before them, an order came to this. A node that runs is stopped, and one that is stopped runs again, unless what it
-- holds can't be had. A node that is in that state already stays in it.
abbrev pub ComesTo : Order → Told → List Step → Record → Type 0
ComesTo (Order.Stop node) Told.Done steps before = (steps ≡ Step.Stop node ∷ []) × (is_stopped node before ≡ false)
ComesTo (Order.Stop node) Told.Already steps before = (steps ≡ []) × (is_stopped node before ≡ true)
ComesTo (Order.Restart node) Told.Done steps before = ((done : List ℕ) × (steps ≡ Step.Restart node done ∷ [])) × (is_stopped node before ≡ true)
ComesTo (Order.Restart node) Told.Already steps before = (steps ≡ []) × (is_stopped node before ≡ false)
ComesTo (Order.Restart node) (Told.Refused refusal) steps before = (steps ≡ []) × (refusal.node ≡ node) × (is_stopped node before ≡ true)
ComesTo (Order.Restart node) (Told.Stuck PullCause.Fault) steps before = (steps ≡ []) × (is_stopped node before ≡ true)
ComesTo (Order.Restart node) (Told.Stuck PullCause.Memory) steps before = (steps ≡ []) × (is_stopped node before ≡ true)
ComesTo order told steps before = ⊥

-- an order came to this by the last of these items
abbrev pub CameTo : Order → Told → Record → Type 0
CameTo order told record' = (steps : List Step) × (before : Record) × (record' ≡ map Took steps ++ before) × ComesTo order told steps before
