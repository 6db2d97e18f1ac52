-- What is kept of a history as it grows.
use Rattle.std.proofs.Common.{◌≡◌, ℕ, List, [], ◌∷◌, ◌++◌, Option, refl, sym, ap, subst, ◌∙◌}
use Rattle.world_model.specs.declared.history.HistoryMark.{HistoryMark}
use Rattle.world_model.specs.declared.history.HistoryMark.TheVariants.{Begin, Drew, End, Wait, Cancel, Level, Drain, Ordered}
use Rattle.front_end.specs.History.{DrawsNext, DrawsInOrder, newest_first}
use Rattle.front_end.specs.Kept.{IsKept}

-- draws
abbrev pub IsNoDraw : HistoryMark → Type 0
IsNoDraw (Drew n id) = ⊥
IsNoDraw _ = Unit {0}

draws_last : (P : ℕ) (m : HistoryMark) (first now : Option (ℕ → ℕ)) → IsNoDraw m → now ≡ first → DrawsInOrder P first (m ∷ []) now
draws_last P (Drew n id) first now no_draw d = absurd no_draw
draws_last P (Begin n r) first now no_draw d = d
draws_last P (End n o) first now no_draw d = d
draws_last P (Wait t) first now no_draw d = d
draws_last P (Cancel n) first now no_draw d = d
draws_last P (Level q a b y) first now no_draw d = d
draws_last P (Drain n y) first now no_draw d = d
draws_last P (Ordered n y) first now no_draw d = d

pub draws_other : (P : ℕ) (h : List HistoryMark) (m : HistoryMark) (first now : Option (ℕ → ℕ)) → IsNoDraw m → DrawsInOrder P first h now → DrawsInOrder P first (h ++ m ∷ []) now
draws_other P [] m first now no_draw d = draws_last P m first now no_draw d
draws_other P (Begin n r ∷ h) m first now no_draw d = draws_other P h m first now no_draw d
draws_other P (Drew n id ∷ h) m first now no_draw d = (d.0, d.1, draws_other P h m d.0 now no_draw d.2)
draws_other P (End n o ∷ h) m first now no_draw d = draws_other P h m first now no_draw d
draws_other P (Wait t ∷ h) m first now no_draw d = draws_other P h m first now no_draw d
draws_other P (Cancel n ∷ h) m first now no_draw d = draws_other P h m first now no_draw d
draws_other P (Level q a b y ∷ h) m first now no_draw d = draws_other P h m first now no_draw d
draws_other P (Drain n y ∷ h) m first now no_draw d = draws_other P h m first now no_draw d
draws_other P (Ordered n y ∷ h) m first now no_draw d = draws_other P h m first now no_draw d

pub draws_more : (P : ℕ) (h : List HistoryMark) (n : ℕ) (id : List ℕ) (first now next : Option (ℕ → ℕ)) → DrawsInOrder P first h now → DrawsNext P now n id next
    → DrawsInOrder P first (h ++ Drew n id ∷ []) next
draws_more P [] n id first now next d more = (next, subst (λ (x : Option (ℕ → ℕ)). DrawsNext P x n id next) d more, refl)
draws_more P (Begin m r ∷ h) n id first now next d more = draws_more P h n id first now next d more
draws_more P (Drew m x ∷ h) n id first now next d more = (d.0, d.1, draws_more P h n id d.0 now next d.2 more)
draws_more P (End m o ∷ h) n id first now next d more = draws_more P h n id first now next d more
draws_more P (Wait t ∷ h) n id first now next d more = draws_more P h n id first now next d more
draws_more P (Cancel m ∷ h) n id first now next d more = draws_more P h n id first now next d more
draws_more P (Level q a b y ∷ h) n id first now next d more = draws_more P h n id first now next d more
draws_more P (Drain m y ∷ h) n id first now next d more = draws_more P h n id first now next d more
draws_more P (Ordered m y ∷ h) n id first now next d more = draws_more P h n id first now next d more

draws_wait : (P : ℕ) (a b : List HistoryMark) (t : Option ℕ) (first now : Option (ℕ → ℕ)) → DrawsInOrder P first (a ++ b) now → DrawsInOrder P first (a ++ Wait t ∷ b) now
draws_wait P [] b t first now d = d
draws_wait P (Begin m r ∷ a) b t first now d = draws_wait P a b t first now d
draws_wait P (Drew m x ∷ a) b t first now d = (d.0, d.1, draws_wait P a b t d.0 now d.2)
draws_wait P (End m o ∷ a) b t first now d = draws_wait P a b t first now d
draws_wait P (Wait u ∷ a) b t first now d = draws_wait P a b t first now d
draws_wait P (Cancel n ∷ a) b t first now d = draws_wait P a b t first now d
draws_wait P (Level q x y z ∷ a) b t first now d = draws_wait P a b t first now d
draws_wait P (Drain n y ∷ a) b t first now d = draws_wait P a b t first now d
draws_wait P (Ordered n y ∷ a) b t first now d = draws_wait P a b t first now d

-- the newest mark comes first
abbrev pub IsNoWait : HistoryMark → Type 0
IsNoWait (Wait t) = ⊥
IsNoWait _ = Unit {0}

newest_last : (m : HistoryMark) → IsNoWait m → newest_first (m ∷ []) ≡ m ∷ []
newest_last (Wait t) no_wait = absurd no_wait
newest_last (Begin n r) no_wait = refl
newest_last (Drew n id) no_wait = refl
newest_last (End n o) no_wait = refl
newest_last (Cancel n) no_wait = refl
newest_last (Level q a b y) no_wait = refl
newest_last (Drain n y) no_wait = refl
newest_last (Ordered n y) no_wait = refl

pub newest_with : (h : List HistoryMark) (m : HistoryMark) → IsNoWait m → newest_first (h ++ m ∷ []) ≡ m ∷ newest_first h
newest_with [] m no_wait = newest_last m no_wait
newest_with (Wait t ∷ h) m no_wait = newest_with h m no_wait
newest_with (Begin n r ∷ h) m no_wait = ap (λ (t : List HistoryMark). t ++ Begin n r ∷ []) (newest_with h m no_wait)
newest_with (Drew n id ∷ h) m no_wait = ap (λ (t : List HistoryMark). t ++ Drew n id ∷ []) (newest_with h m no_wait)
newest_with (End n o ∷ h) m no_wait = ap (λ (t : List HistoryMark). t ++ End n o ∷ []) (newest_with h m no_wait)
newest_with (Cancel n ∷ h) m no_wait = ap (λ (t : List HistoryMark). t ++ Cancel n ∷ []) (newest_with h m no_wait)
newest_with (Level q a b y ∷ h) m no_wait = ap (λ (t : List HistoryMark). t ++ Level q a b y ∷ []) (newest_with h m no_wait)
newest_with (Drain n y ∷ h) m no_wait = ap (λ (t : List HistoryMark). t ++ Drain n y ∷ []) (newest_with h m no_wait)
newest_with (Ordered n y ∷ h) m no_wait = ap (λ (t : List HistoryMark). t ++ Ordered n y ∷ []) (newest_with h m no_wait)

newest_wait : (a b : List HistoryMark) (t : Option ℕ) → newest_first (a ++ Wait t ∷ b) ≡ newest_first (a ++ b)
newest_wait [] b t = refl
newest_wait (Wait u ∷ a) b t = newest_wait a b t
newest_wait (Begin n r ∷ a) b t = ap (λ (x : List HistoryMark). x ++ Begin n r ∷ []) (newest_wait a b t)
newest_wait (Drew n id ∷ a) b t = ap (λ (x : List HistoryMark). x ++ Drew n id ∷ []) (newest_wait a b t)
newest_wait (End n o ∷ a) b t = ap (λ (x : List HistoryMark). x ++ End n o ∷ []) (newest_wait a b t)
newest_wait (Cancel n ∷ a) b t = ap (λ (x : List HistoryMark). x ++ Cancel n ∷ []) (newest_wait a b t)
newest_wait (Level q y z u ∷ a) b t = ap (λ (x : List HistoryMark). x ++ Level q y z u ∷ []) (newest_wait a b t)
newest_wait (Drain n y ∷ a) b t = ap (λ (x : List HistoryMark). x ++ Drain n y ∷ []) (newest_wait a b t)
newest_wait (Ordered n y ∷ a) b t = ap (λ (x : List HistoryMark). x ++ Ordered n y ∷ []) (newest_wait a b t)

-- one more mark, of which the tie learns
pub kept_append : (P : ℕ) (h : List HistoryMark) (tie tie' : List HistoryMark → Type 0) (first now : Option (ℕ → ℕ)) (m : HistoryMark) → IsKept P h tie first now → IsNoDraw m → IsNoWait m
    → ((marks : List HistoryMark) → tie marks → tie' (m ∷ marks)) → IsKept P (h ++ m ∷ []) tie' first now
kept_append P h tie tie' first now m p no_draw no_wait ties =
    record { draws = draws_other P h m first now no_draw p.draws; tied = subst tie' (sym (newest_with h m no_wait)) (ties (newest_first h) p.tied) }

-- a wait among them, of which the tie learns nothing
pub kept_wait : (P : ℕ) (a b : List HistoryMark) (tie : List HistoryMark → Type 0) (first now : Option (ℕ → ℕ)) (t : Option ℕ) → IsKept P (a ++ b) tie first now → IsKept P (a ++ Wait t ∷ b) tie first now
kept_wait P a b tie first now t p = record { draws = draws_wait P a b t first now p.draws; tied = subst tie (sym (newest_wait a b t)) p.tied }

-- the last two marks are a begin and a draw, of which the tie learns at once
pub kept_drawn : (P : ℕ) (h : List HistoryMark) (tie tie' : List HistoryMark → Type 0) (first now next : Option (ℕ → ℕ)) (begin : HistoryMark) (n : ℕ) (id : List ℕ) → IsKept P h tie first now → IsNoDraw begin → IsNoWait begin
    → DrawsNext P now n id next → ((marks : List HistoryMark) → tie marks → tie' (Drew n id ∷ begin ∷ marks)) → IsKept P ((h ++ begin ∷ []) ++ Drew n id ∷ []) tie' first next
kept_drawn P h tie tie' first now next begin n id p no_draw no_wait draws ties = record {
  draws = draws_more P (h ++ begin ∷ []) n id first now next (draws_other P h begin first now no_draw p.draws) draws;
  tied = subst tie' (sym (newest_with (h ++ begin ∷ []) (Drew n id) tt ∙ ap (λ (t : List HistoryMark). Drew n id ∷ t) (newest_with h begin no_wait))) (ties (newest_first h) p.tied);
}
