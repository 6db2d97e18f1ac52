-- A session has one operation at a time.
use Rattle.std.proofs.Common.{◌≡◌, ℕ, List, [], ◌∷◌, ◌++◌, length, ◌<◌, true, false, refl, sym, ap, ◌∙◌, subst, arith}
use Rattle.router_core.specs.Ending.{IsTakenOut}
use Rattle.router_core.specs.Stands.{is_idle}
use Rattle.front_end.specs.Session.{IsAlone}

-- one of them is the last operation, and there is no other
taken_alone : (operation last : ℕ) (before behind : List ℕ) → IsAlone (before ++ operation ∷ behind) last → (operation ≡ last) × (before ++ behind ≡ [])
taken_alone operation last [] [] alone = (alone, refl)
taken_alone operation last [] (n ∷ behind) alone = absurd alone
taken_alone operation last (m ∷ []) behind alone = absurd alone
taken_alone operation last (m ∷ n ∷ before) behind alone = absurd alone

pub it_was_the_last : (operation last : ℕ) (old new : List ℕ) → IsAlone old last → IsTakenOut operation old new → operation ≡ last
it_was_the_last operation last old new alone t = (taken_alone operation last t.0 t.1 (subst (λ (l : List ℕ). IsAlone l last) t.2 alone)).0

pub none_is_left : (operation last : ℕ) (old new : List ℕ) → IsAlone old last → IsTakenOut operation old new → is_idle new ≡ true
none_is_left operation last old new alone t = ap is_idle (t.3 ∙ (taken_alone operation last t.0 t.1 (subst (λ (l : List ℕ). IsAlone l last) t.2 alone)).1)

pub one_was_live : (operation : ℕ) (old new : List ℕ) → IsTakenOut operation old new → is_idle old ≡ false
one_was_live operation old new t = ap is_idle t.2 ∙ go t.0
  where
    go : (before : List ℕ) → is_idle (before ++ operation ∷ t.1) ≡ false
    go [] = refl
    go (m ∷ before) = refl

pub idle_alone : (last : ℕ) (live : List ℕ) → is_idle live ≡ true → IsAlone live last
idle_alone last [] idle = tt
idle_alone last (n ∷ live) idle = absurd (cc idle)

-- where none is live the next one is alone
none_live : (live : List ℕ) → is_idle live ≡ true → live ≡ []
none_live [] idle = refl
none_live (n ∷ live) idle = absurd (cc idle)

pub there_is_room : (live : List ℕ) → is_idle live ≡ true → length live < 16
there_is_room live idle = let e = ap length (none_live live idle) in omega (arith, e)

pub next_is_alone : (operation last : ℕ) (old new : List ℕ) → is_idle old ≡ true → operation ≡ last → new ≡ old ++ operation ∷ [] → IsAlone new last
next_is_alone operation last old new idle same is = subst (λ (l : List ℕ). IsAlone l last) (sym (is ∙ ap (λ (l : List ℕ). l ++ operation ∷ []) (none_live old idle))) same

pub next_is_live : (operation : ℕ) (old new : List ℕ) → is_idle old ≡ true → new ≡ old ++ operation ∷ [] → is_idle new ≡ false
next_is_live operation old new idle is = ap is_idle (is ∙ ap (λ (l : List ℕ). l ++ operation ∷ []) (none_live old idle))
