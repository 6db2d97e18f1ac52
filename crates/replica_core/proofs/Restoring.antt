-- An index whose entry was set, and then set again or given back.
use Rattle.std.proofs.Common.{◌≡◌, ◌≢◌, ⊎_elim, ℕ, List, length, Bool, true, false, if◌then◌else◌, Option, Some, None, refl, sym, ◌∙◌, ap}
use Rattle.std.specs.Ordering.{nat_cmp}
use Rattle.std.specs.Cmp.Lexicographic.{slice_cmp}
use Rattle.std.specs.BTreeMap.{BTreeMap, IsOrdered}
use Rattle.std.proofs.lemmas.Bool.{cases_Bool}
use Rattle.std.proofs.lemmas.Cmp.{nat_list_cmp_total}
use Rattle.std.proofs.lemmas.Map.Lookups.{btree_map_from_get, exact_bytes}
use Rattle.msg_format.specs.declared.record.Record.{Record}
use Rattle.msg_format.specs.Records.{id_of, head_of, is_gone, spelling_of}
use Rattle.replica_core.specs.declared.index.IndexEntry.{IndexEntry}
use Rattle.replica_core.specs.Maps.{is_same}
use Rattle.replica_core.specs.Index.{entry_at, entry_set, kept_len, SetsEntry}
use Rattle.replica_core.proofs.Ids.{same_one, one_same}

-- an id whose entry was set has one
pub has_one : (id : List ℕ) (reserved : IndexEntry) (old new : List (List ℕ × IndexEntry)) → SetsEntry id (Some reserved) old new → entry_at new id ≢ None
has_one id reserved old new sets none =
    let some : entry_at new id ≡ Some reserved = sets id ∙ ap (λ (b : Bool). if b then Some reserved else entry_at old id) (one_same id id refl) in
    let both : ◌≡◌ {A = Option IndexEntry} (Some reserved) None = sym some ∙ none in
    absurd (cc both)

set_over : (b : Bool) (first second other : Option IndexEntry) → (if b then second else (if b then first else other)) ≡ (if b then second else other)
set_over true first second other = refl
set_over false first second other = refl

-- an entry that was reserved and then settled
pub settled : (id : List ℕ) (reserved : IndexEntry) (entry : Record) (place len : ℕ) (gone : Bool) (old mid new : List (List ℕ × IndexEntry)) → id ≡ id_of entry → len ≡ kept_len (length (spelling_of entry)) → gone ≡ is_gone entry
    → SetsEntry id (Some reserved) old mid → SetsEntry id (Some (record { place = place; len = len; gone = gone })) mid new
    → (other : List ℕ) → entry_at new other ≡ entry_set (record { place = place; head = head_of entry (spelling_of entry) }) other (entry_at old other)
settled id reserved entry place len gone old mid new id_is len_is gone_is first second other =
    second other
    ∙ ap (λ (o : Option IndexEntry). if is_same id other then Some (record { place = place; len = len; gone = gone }) else o) (first other)
    ∙ set_over (is_same id other) (Some reserved) (Some (record { place = place; len = len; gone = gone })) (entry_at old other)
    ∙ ap (λ (k : List ℕ). if is_same k other then Some (record { place = place; len = len; gone = gone }) else entry_at old other) id_is
    ∙ ap (λ (n : ℕ). if is_same (id_of entry) other then Some (record { place = place; len = n; gone = gone }) else entry_at old other) len_is
    ∙ ap (λ (b : Bool). if is_same (id_of entry) other then Some (record { place = place; len = kept_len (length (spelling_of entry)); gone = b }) else entry_at old other) gone_is

-- an entry that was reserved and then given back
module _ (id : List ℕ) (reserved : IndexEntry) (before : Option IndexEntry) (old mid new : BTreeMap (List ℕ) IndexEntry) (was : before ≡ entry_at old.entries id) (first : SetsEntry id (Some reserved) old.entries mid.entries) (second : SetsEntry id before mid.entries new.entries) where
  back_at : (other : List ℕ) → entry_at new.entries other ≡ entry_at old.entries other
  back_at other =
      second other
      ∙ ap (λ (o : Option IndexEntry). if is_same id other then before else o) (first other)
      ∙ set_over (is_same id other) (Some reserved) before (entry_at old.entries other)
      ∙ ⊎_elim
      (λ (is : is_same id other ≡ true). ap (λ (b : Bool). if b then before else entry_at old.entries other) is ∙ was ∙ ap (entry_at old.entries) (same_one id other is))
      (λ (is : is_same id other ≡ false). ap (λ (b : Bool). if b then before else entry_at old.entries other) is)
      (cases_Bool (is_same id other))

  pub given_back : IsOrdered (slice_cmp nat_cmp) old → IsOrdered (slice_cmp nat_cmp) new → new.entries ≡ old.entries
  given_back old_ordered new_ordered = btree_map_from_get nat_list_cmp_total new old new_ordered old_ordered back_at exact_bytes
