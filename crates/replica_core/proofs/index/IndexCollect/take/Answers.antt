use Rattle.std.proofs.Common.{◌≡◌, ℕ, List, Some, Bool, true, false, if◌then◌else◌, sym, ◌∙◌, ap, ⊎_elim}
use Rattle.std.proofs.lemmas.Bool.{cases_Bool}
use Rattle.replica_core.specs.Maps.{is_same}
use Rattle.replica_core.specs.Index.{noted_behind, entry_at}
use Rattle.replica_core.proofs.Ids.{same_one}
use Rattle.replica_core.proofs.index.IndexCollect.take.Goals as goal

pub returns : goal.returns
returns c = record {
  taken = λ id.
      let found = c.args.found in
      let old = c.args.self.now.by_id.entries in
      let noted : Some c.noted_behind-entry.result ≡ noted_behind found (entry_at old found.head.id) = c.noted_behind-entry.ensures ∙ ap (noted_behind found) c.entry_at-before.ensures in
      c.in_ok-reserve.ensures.set id
      ∙ ⊎_elim
      (λ (is : is_same found.head.id id ≡ true).
      ap (λ (b : Bool). if b then Some c.noted_behind-entry.result else entry_at old id) is
      ∙ noted
      ∙ ap (λ (k : List ℕ). noted_behind found (entry_at old k)) (same_one found.head.id id is)
      ∙ ap (λ (b : Bool). if b then noted_behind found (entry_at old id) else entry_at old id) (sym is))
      (λ (is : is_same found.head.id id ≡ false).
      ap (λ (b : Bool). if b then Some c.noted_behind-entry.result else entry_at old id) is
      ∙ ap (λ (b : Bool). if b then noted_behind found (entry_at old id) else entry_at old id) (sym is))
      (cases_Bool (is_same found.head.id id));
}
