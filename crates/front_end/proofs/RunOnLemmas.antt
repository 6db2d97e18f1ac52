-- How a network goes on while a script runs on it.
use Rattle.std.proofs.Common.{◌≡◌, ◌∙◌, ℕ, Bool, List, Option, subst}
use Rattle.world_model.specs.declared.history.HistoryMark.{HistoryMark}
use Rattle.world_model.specs.declared.shape.Shape.{Shape}
use Rattle.world_model.specs.declared.step.Called.{Called}
use Rattle.world_model.specs.World.{Cells}
use Rattle.front_end.specs.declared.session.Session.{Session}
use Rattle.front_end.specs.Run.{HasFinished, HasStopped, WasCutOff, Outside}
use Rattle.front_end.specs.Running.{IsOn, WasOn, RunsLine}

-- a line that was carried out on a cluster of the same shape
pub runs_over : (P Q : Shape) (line : List ℕ) (s s' : Session) (tie tie' : List HistoryMark → Type 0) (before now : Option (ℕ → ℕ)) (tn tn' : Option (List ℕ)) (written : List ℕ → List ℕ → Type 0) → P ≡ Q
    → RunsLine P line s s' tie tie' before now tn tn' written → RunsLine Q line s s' tie tie' before now tn tn' written
runs_over P Q line s s' tie tie' before now tn tn' written same runs = subst (λ (p : Shape). RunsLine p line s s' tie tie' before now tn tn' written) same runs

-- runs on a cluster of the same shape
pub finished_over : (P Q : Shape) (tie : List HistoryMark → Type 0) (m n : ℕ) (o : Outside) → P ≡ Q → m ≡ n → HasFinished P tie m o → HasFinished Q tie n o
finished_over P Q tie m n o parts status h = subst (λ (p : Shape). HasFinished p tie n o) parts (subst (λ (x : ℕ). HasFinished P tie x o) status h)

pub stopped_over : (P Q : Shape) (tie : List HistoryMark → Type 0) (o : Outside) (words : Option (ℕ → ℕ)) → P ≡ Q → HasStopped P tie o words → HasStopped Q tie o words
stopped_over P Q tie o words parts h = subst (λ (p : Shape). HasStopped p tie o words) parts h

pub cut_over : (P Q : Shape) (tie : List HistoryMark → Type 0) (o : Outside) → P ≡ Q → WasCutOff P tie o → WasCutOff Q tie o
cut_over P Q tie o parts h = subst (λ (p : Shape). WasCutOff p tie o) parts h

-- what holds on a network, seen otherwise
pub on_map : {F : Type 0} (told : F → Option (List Called)) (s s' : Shape) (now : F) (holds more : (List HistoryMark → Type 0) → Type 0) → s ≡ s' → ((tie : List HistoryMark → Type 0) → holds tie → more tie) → IsOn told s now holds → IsOn told s' now more
on_map told s s' now holds more same f on = record { router = on.router; shaped = on.shaped ∙ same; so = f _ on.so }

pub was_map : {F : Type 0} (faults : F → ℕ) (opened : F → Option Shape) (runs : F → Shape → List ℕ → Cells → Type 0) (advances : F → F → Bool → Type 0) (told : F → Option (List Called)) (s s' : Shape) (old new : F) (holds more : (List HistoryMark → Type 0) → Type 0)
    → s ≡ s' → ((tie : List HistoryMark → Type 0) → holds tie → more tie) → WasOn faults opened runs advances told s old new holds → WasOn faults opened runs advances told s' old new more
was_map faults opened runs advances told s s' old new holds more same f was = record { between = was.between; went = was.went; was = on_map told s s' was.between holds more same f was.was; fell = was.fell }
