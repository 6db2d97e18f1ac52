-- Which nodes are stopped is a matter of the steps told alone.
use Rattle.std.proofs.Common.{◌≡◌, ℕ, ◌==◌, Bool, true, false, ◌&&◌, ◌||◌, not, cond, List, [], ◌∷◌, ◌++◌, length, map, Option, Some, None, refl, sym, ap, ◌∙◌, append-nil}
use Rattle.world_model.specs.declared.history.HistoryMark.{HistoryMark}
use Rattle.world_model.specs.declared.order.Order.{Order}
use Rattle.world_model.specs.declared.order.PullCause.{PullCause}
use Rattle.world_model.specs.declared.order.Told.{Told}
use Rattle.world_model.specs.declared.step.Called.{Called}
use Rattle.world_model.specs.declared.step.Step.{Step}
use Rattle.world_model.specs.Orders.{is_stopped, ComesTo, CameTo}
use Rattle.world_model.specs.Record.{Item, Marked, Drawn, Aimed, Took, Given, Withheld, Decided, Record}
use Rattle.world_model.specs.Told.{Placed, items_of, placed_at, weave, told, is_session, OnlySession}

-- what an item makes of whether a node is stopped
abbrev stopped_by : ℕ → Item → Bool → Bool
stopped_by node (Took (Step.Stop other)) b = (node == other) || b
stopped_by node (Took (Step.Restart other done)) b = not (node == other) && b
stopped_by node (Took (Step.Send from to frame)) b = b
stopped_by node (Took (Step.Refused to frame)) b = b
stopped_by node (Took (Step.Exec send reply)) b = b
stopped_by node (Took (Step.Torn send)) b = b
stopped_by node (Took (Step.Hand reply)) b = b
stopped_by node (Took (Step.Now ms)) b = b
stopped_by node (Took (Step.Cut other)) b = b
stopped_by node (Took (Step.Merge n p r c t)) b = b
stopped_by node (Took (Step.Compact n p r)) b = b
stopped_by node (Marked m) b = b
stopped_by node (Drawn o p a id blob) b = b
stopped_by node (Aimed c p a) b = b
stopped_by node (Given event) b = b
stopped_by node (Withheld n f) b = b
stopped_by node (Decided o out) b = b

is_by : (node : ℕ) (item : Item) (before : Record) → is_stopped node (item ∷ before) ≡ stopped_by node item (is_stopped node before)
is_by node (Took (Step.Stop other)) before = refl
is_by node (Took (Step.Restart other done)) before = refl
is_by node (Took (Step.Send from to frame)) before = refl
is_by node (Took (Step.Refused to frame)) before = refl
is_by node (Took (Step.Exec send reply)) before = refl
is_by node (Took (Step.Torn send)) before = refl
is_by node (Took (Step.Hand reply)) before = refl
is_by node (Took (Step.Now ms)) before = refl
is_by node (Took (Step.Cut other)) before = refl
is_by node (Took (Step.Merge n p r c t)) before = refl
is_by node (Took (Step.Compact n p r)) before = refl
is_by node (Marked m) before = refl
is_by node (Drawn o p a id blob) before = refl
is_by node (Aimed c p a) before = refl
is_by node (Given event) before = refl
is_by node (Withheld n f) before = refl
is_by node (Decided o out) before = refl

same_before : (node : ℕ) (items r s : Record) → is_stopped node r ≡ is_stopped node s → is_stopped node (items ++ r) ≡ is_stopped node (items ++ s)
same_before node [] r s e = e
same_before node (item ∷ items) r s e =
    is_by node item (items ++ r) ∙ ap (stopped_by node item) (same_before node items r s e) ∙ sym (is_by node item (items ++ s))

session_by : (node : ℕ) (item : Item) (b : Bool) → is_session item ≡ true → stopped_by node item b ≡ b
session_by node (Took step) b h = absurd cc
session_by node (Given event) b h = absurd cc
session_by node (Marked m) b h = refl
session_by node (Drawn o p a id blob) b h = refl
session_by node (Aimed c p a) b h = refl
session_by node (Withheld n f) b h = refl
session_by node (Decided o out) b h = refl

placed_leave : (node n : ℕ) (placed : List Placed) (r : Record) → OnlySession placed → is_stopped node (placed_at n placed ++ r) ≡ is_stopped node r
placed_leave node n [] r only = refl
placed_leave node n (p ∷ placed) r only = by_place (p.calls == n) p (placed_at n placed) node r only.0 (placed_leave node n placed r only.1)
  where
    by_place : (b : Bool) (p : Placed) (rest : Record) (node : ℕ) (r : Record) → is_session p.item ≡ true → is_stopped node (rest ++ r) ≡ is_stopped node r
        → is_stopped node (cond b (p.item ∷ rest) rest ++ r) ≡ is_stopped node r
    by_place true p rest node r own e = is_by node p.item (rest ++ r) ∙ session_by node p.item (is_stopped node (rest ++ r)) own ∙ e
    by_place false p rest node r own e = e

-- a node is stopped in a woven record where it is by what was told
pub stopped_woven : (node : ℕ) (placed : List Placed) (calls : List Called) → OnlySession placed → is_stopped node (weave placed calls) ≡ is_stopped node (told calls)
stopped_woven node placed [] only = ap (is_stopped node) (sym (append-nil (placed_at 0 placed))) ∙ placed_leave node 0 placed [] only
stopped_woven node placed (call ∷ calls) only =
    placed_leave node (length (call ∷ calls)) placed (items_of call ++ weave placed calls) only
    ∙ same_before node (items_of call) (weave placed calls) (told calls) (stopped_woven node placed calls only)

-- what an order came to depends on what stood before by whether its node was stopped alone
same_come : (order : Order) (answer : Told) (steps : List Step) (r s : Record) → ((node : ℕ) → is_stopped node r ≡ is_stopped node s) → ComesTo order answer steps r → ComesTo order answer steps s
same_come (Order.Stop node) Told.Done steps r s e c = (c.0, sym (e node) ∙ c.1)
same_come (Order.Stop node) Told.Already steps r s e c = (c.0, sym (e node) ∙ c.1)
same_come (Order.Stop node) Told.Stopped steps r s e c = absurd c
same_come (Order.Stop node) (Told.Pulled n) steps r s e c = absurd c
same_come (Order.Stop node) Told.Lost steps r s e c = absurd c
same_come (Order.Stop node) (Told.Stuck cause) steps r s e c = absurd c
same_come (Order.Stop node) (Told.Vanished id) steps r s e c = absurd c
same_come (Order.Stop node) (Told.Reclaimed n) steps r s e c = absurd c
same_come (Order.Stop node) Told.Nothing steps r s e c = absurd c
same_come (Order.Stop node) (Told.Level b) steps r s e c = absurd c
same_come (Order.Stop node) (Told.Refused refusal) steps r s e c = absurd c
same_come (Order.Restart node) Told.Done steps r s e c = (c.0, sym (e node) ∙ c.1)
same_come (Order.Restart node) Told.Already steps r s e c = (c.0, sym (e node) ∙ c.1)
same_come (Order.Restart node) Told.Stopped steps r s e c = absurd c
same_come (Order.Restart node) (Told.Pulled n) steps r s e c = absurd c
same_come (Order.Restart node) Told.Lost steps r s e c = absurd c
same_come (Order.Restart node) (Told.Stuck PullCause.Fault) steps r s e c = (c.0, sym (e node) ∙ c.1)
same_come (Order.Restart node) (Told.Stuck PullCause.Memory) steps r s e c = (c.0, sym (e node) ∙ c.1)
same_come (Order.Restart node) (Told.Stuck PullCause.Full) steps r s e c = absurd c
same_come (Order.Restart node) (Told.Stuck PullCause.Down) steps r s e c = absurd c
same_come (Order.Restart node) (Told.Stuck PullCause.PeerFault) steps r s e c = absurd c
same_come (Order.Restart node) (Told.Stuck PullCause.PeerDown) steps r s e c = absurd c
same_come (Order.Restart node) (Told.Stuck PullCause.PeerMemory) steps r s e c = absurd c
same_come (Order.Restart node) (Told.Stuck PullCause.Stray) steps r s e c = absurd c
same_come (Order.Restart node) (Told.Vanished id) steps r s e c = absurd c
same_come (Order.Restart node) (Told.Reclaimed n) steps r s e c = absurd c
same_come (Order.Restart node) Told.Nothing steps r s e c = absurd c
same_come (Order.Restart node) (Told.Level b) steps r s e c = absurd c
same_come (Order.Restart node) (Told.Refused refusal) steps r s e c = (c.0, c.1, sym (e node) ∙ c.2)
same_come (Order.Pull a b p) answer steps r s e c = absurd c
same_come (Order.Compact n p) answer steps r s e c = absurd c
same_come (Order.Level p a b) answer steps r s e c = absurd c

-- what came of an order by what was told came of it in the woven record too
pub came_woven : (order : Order) (answer : Told) (steps : List Step) (placed : List Placed) (calls : List Called) → OnlySession placed → ComesTo order answer steps (told calls)
    → CameTo order answer (map Took steps ++ weave placed calls)
came_woven order answer steps placed calls only c =
    (steps, weave placed calls, refl, same_come order answer steps (told calls) (weave placed calls) (λ node. sym (stopped_woven node placed calls only)) c)
