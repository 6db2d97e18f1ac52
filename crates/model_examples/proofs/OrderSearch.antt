-- Whether the marks of a record stand in order, by computing.
use Rattle.std.proofs.Common.{◌≡◌, ℕ, ◌==◌, Bool, true, false, not, List, [], ◌∷◌, find, Option, Some, None, sym, ap, subst, inl, inr}
use Rattle.quorum_op.specs.declared.outcome.Outcome.{Outcome}
use Rattle.world_model.specs.declared.history.HistoryMark.{HistoryMark}
use Rattle.world_model.specs.declared.history.HistoryMark.TheVariants.{Begin, Drew, End, Cancel, Wait}
use Rattle.world_model.specs.Lists.{Each, Has}
use Rattle.world_model.specs.Ordered.{AllOver, IsOrdered, IsOver, MayStand, WasBegun, WhereWaiting, at_line, is_open, is_wait, lines_in, marks_of, open_in, waits_in}
use Rattle.world_model.specs.Record.{Record, is_line}
use Rattle.world_model.proofs.CellLaws.{same_number}
use Rattle.model_examples.proofs.Searches.{below, both, either, found, number, unless, up_to, when}
use Rattle.model_examples.proofs.TestLemmas.{all_has, all_pass}

abbrev pub begins_another : ℕ → HistoryMark → Bool
begins_another operation (Begin other begun) = not (other == operation)
begins_another operation _ = true

pub not_begun : (operation : ℕ) (before : List HistoryMark) → all_pass (begins_another operation) before ≡ true → WasBegun before operation → ⊥
not_begun operation before t w =
    let q : not (operation == operation) ≡ true = all_has (begins_another operation) before (Begin operation w.0) t w.1 in
    let f : not (operation == operation) ≡ false = ap not (same_number operation) in
    cc

abbrev pub is_over : (before : List HistoryMark) (wait : Option ℕ) → Option (IsOver before wait)
is_over before None = number (open_in before) 0
is_over before (Some operation) = unless (is_open operation before)

abbrev pub AllAreOver : List (Option ℕ) → List HistoryMark → Type 0
AllAreOver waits before = (wait : Option ℕ) → Has waits wait → IsOver before wait

pub over_first : (wait : Option ℕ) (waits : List (Option ℕ)) (before : List HistoryMark) → IsOver before wait × AllAreOver waits before → AllAreOver (wait ∷ waits) before
over_first wait waits before h other s = elim s [
  | inl e ↦ subst (λ (w : Option ℕ). IsOver before w) (sym e) h.0
  | inr m ↦ h.1 other m
]

abbrev pub all_are_over : (waits : List (Option ℕ)) (before : List HistoryMark) → Option (AllAreOver waits before)
all_are_over [] before = Some (λ wait h. absurd h)
all_are_over (wait ∷ waits) before = found (over_first wait waits before) (both (is_over before wait) (all_are_over waits before))

abbrev pub all_over : (before : List HistoryMark) → Option (AllOver before)
all_over before = all_are_over (waits_in before) before

abbrev pub where_waiting : (window : ℕ) (ended : Bool) (total : ℕ) (before : List HistoryMark) → Option (WhereWaiting window ended total before)
where_waiting window ended total before =
    either (when (is_wait (find is_line before))) (either (both (when ended) (number (lines_in before) total)) (up_to window (open_in (at_line before))))

abbrev pub AtCancel : ℕ → List HistoryMark → Type 0
AtCancel operation before = (rest : List HistoryMark) × (before ≡ Cancel operation ∷ rest)

abbrev pub at_cancel : (operation : ℕ) (before : List HistoryMark) → Option (AtCancel operation before)
at_cancel operation (Cancel other ∷ rest) = found (λ e. (rest, ap (λ (n : ℕ). Cancel n ∷ rest) e)) (number other operation)
at_cancel operation _ = None

abbrev pub may_end : (window : ℕ) (ended : Bool) (total operation : ℕ) (outcome : Outcome) (before : List HistoryMark) → Option (MayStand window ended total (End operation outcome) before)
may_end window ended total operation Outcome.Cancelled before = both (when (is_open operation before)) (at_cancel operation before)
may_end window ended total operation outcome before = both (when (is_open operation before)) (where_waiting window ended total before)

abbrev pub may_stand : (window : ℕ) (ended : Bool) (total : ℕ) (mark : HistoryMark) (before : List HistoryMark) → Option (MayStand window ended total mark before)
may_stand window ended total (Begin operation begun) before =
    found (λ h. (h.0, h.1.0, h.1.1)) (both (found (not_begun operation before) (when (all_pass (begins_another operation) before))) (both (below (open_in before) window) (all_over before)))
may_stand window ended total (Drew operation id) before = when (is_open operation before)
may_stand window ended total (End operation outcome) before = may_end window ended total operation outcome before
may_stand window ended total (Wait operation) before = Some tt
may_stand window ended total _ before = all_over before

abbrev pub all_stand : (window : ℕ) (ended : Bool) (total : ℕ) (marks : List HistoryMark) → Option (Each (MayStand window ended total) marks)
all_stand window ended total [] = Some tt
all_stand window ended total (mark ∷ before) = both (all_stand window ended total before) (may_stand window ended total mark before)

abbrev pub ordered_marks : (window : ℕ) (ended : Bool) (r : Record) → Option (IsOrdered window ended r)
ordered_marks window ended r = all_stand window ended (lines_in (marks_of r)) (marks_of r)
