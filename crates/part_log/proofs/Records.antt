-- Records in bytes.
use Rattle.std.proofs.Common.{◌≡◌, ◌≢◌, inl, inr, ⊎_elim, ℕ, ◌+◌, ◌-◌, ◌<◌, ◌≤◌, List, [], ◌∷◌, ◌++◌, length, get_or, drop, refl, sym, ◌∙◌, ap, arith, append_assoc, length-append, add-zero}
use Rattle.std.proofs.lemmas.Bool.{cases_lt}
use Rattle.std.proofs.lemmas.List.{length-take, append-nil}
use Rattle.disk_core.specs.Content.{range}
use Rattle.disk_core.proofs.Ranges.{range-split, get_or-range}
use Rattle.msg_format.specs.declared.record.Record.{Record}
use Rattle.msg_format.specs.Records.{Spells, lsn_of}
use Rattle.msg_format.proofs.Spelled.{text_long, text_opens, spellings_apart}
use Rattle.part_log.specs.Records.{Written, entries_of, laid, AreWritten, EndsHere, HoldsRecords, RisesFrom, next_after, first_lsn, Placed, placed_from, records_of}

pub laid-append : (xs ys : List Written) → laid (xs ++ ys) ≡ laid xs ++ laid ys
laid-append [] ys = refl
laid-append (x ∷ xs) ys = ap (λ (l : List ℕ). x.text ++ l) (laid-append xs ys) ∙ sym (append_assoc x.text (laid xs) (laid ys))

pub laid-one : (xs : List Written) (x : Written) → laid (xs ++ x ∷ []) ≡ laid xs ++ x.text
laid-one xs x = laid-append xs (x ∷ []) ∙ ap (λ (l : List ℕ). laid xs ++ l) (append-nil x.text)

pub length-laid-one : (xs : List Written) (x : Written) → length (laid (xs ++ x ∷ [])) ≡ length (laid xs) + length x.text
length-laid-one xs x = ap (λ (l : List ℕ). length l) (laid-one xs x) ∙ length-append (laid xs) x.text

pub AreWritten-one : (xs : List Written) (x : Written) → AreWritten xs → Spells x.text x.entry → AreWritten (xs ++ x ∷ [])
AreWritten-one [] x good also = (also, tt)
AreWritten-one (y ∷ ys) x good also = (good.0, AreWritten-one ys x good.1 also)

-- bytes that begin a record don't end a list of records
pub goes_on : (text : List ℕ) (entry : Record) (bytes more : List ℕ) → Spells text entry → bytes ≡ text ++ more → EndsHere bytes → ⊥
goes_on text entry bytes more spelled is (inl few) = let long = text_long text entry spelled in let e : length bytes ≡ length text + length more = ap (λ (l : List ℕ). length l) is ∙ length-append text more in omega (arith, long, e, few)
goes_on text entry bytes more spelled is (inr shut) = shut (ap (λ (l : List ℕ). get_or l 0 0) is ∙ text_opens text entry more spelled)

-- two lists of records in the same bytes, each with an end behind it
one_list : (xs ys : List Written) (more also : List ℕ) → AreWritten xs → AreWritten ys → EndsHere more → EndsHere also → laid xs ++ more ≡ laid ys ++ also → xs ≡ ys
one_list [] [] more also good well end too same = refl
one_list [] (y ∷ ys) more also good well end too same = absurd (goes_on y.text y.entry more (laid ys ++ also) well.0 (same ∙ append_assoc y.text (laid ys) also) end)
one_list (x ∷ xs) [] more also good well end too same = absurd (goes_on x.text x.entry also (laid xs ++ more) good.0 (sym same ∙ append_assoc x.text (laid xs) more) too)
one_list (x ∷ xs) (y ∷ ys) more also good well end too same =
    let both : x.text ++ (laid xs ++ more) ≡ y.text ++ (laid ys ++ also) = sym (append_assoc x.text (laid xs) more) ∙ same ∙ append_assoc y.text (laid ys) also in
    let apart = spellings_apart x.text y.text x.entry y.entry (laid xs ++ more) (laid ys ++ also) good.0 well.0 both in
    let others : xs ≡ ys = one_list xs ys more also good.1 well.1 end too apart.2 in
    (λ i. record { entry = apart.0 i; text = apart.1 i } ∷ others i)

-- the same bytes hold no two lists of records
pub one_meaning : (bytes : List ℕ) (xs ys : List Written) → HoldsRecords bytes xs → HoldsRecords bytes ys → xs ≡ ys
one_meaning bytes xs ys one two = one_list xs ys one.rest two.rest one.good two.good one.ends two.ends (sym one.split ∙ two.split)

-- records in front, and behind them a closed gate or no room for a record
pub holds_records : (start segment used : ℕ) (c : List ℕ) (written : List Written) → used ≤ segment → AreWritten written → range start used c ≡ laid written
    → (used + 2 ≤ segment → get_or c (start + used) 0 ≢ 79) → HoldsRecords (range start segment c) written
holds_records start segment used c written fits good front shut =
    let left : ℕ = segment - used in
    let rest : List ℕ = range (start + used) left c in
    let whole : range start segment c ≡ laid written ++ rest =
    ap (λ (n : ℕ). range start n c) (let e : segment ≡ used + left = omega arith in e) ∙ range-split start used left c ∙ ap (λ (l : List ℕ). l ++ rest) front in
    let end : EndsHere rest = ⊎_elim
    (λ (room : 1 < left). inr (λ is. shut (omega arith) (ap (λ (k : ℕ). get_or c k 0) (sym (add-zero (start + used))) ∙ sym (get_or-range (start + used) left c 0 (omega arith)) ∙ is)))
    (λ (none : left ≤ 1). inl (omega (arith, length-take left (drop (start + used) c), none)))
    (cases_lt 1 left) in
    record { rest = rest; split = whole; good = good; ends = end }

pub next_after-one : (low : ℕ) (xs : List Written) (x : Written) → next_after low (xs ++ x ∷ []) ≡ lsn_of x.entry + 1
next_after-one low [] x = refl
next_after-one low (y ∷ ys) x = next_after-one (lsn_of y.entry + 1) ys x

pub RisesFrom-one : (low : ℕ) (xs : List Written) (x : Written) → RisesFrom low xs → next_after low xs ≤ lsn_of x.entry → RisesFrom low (xs ++ x ∷ [])
RisesFrom-one low [] x rises le = (le, tt)
RisesFrom-one low (y ∷ ys) x rises le = (rises.0, RisesFrom-one (lsn_of y.entry + 1) ys x rises.1 le)

pub RisesFrom-append : (low : ℕ) (xs ys : List Written) → RisesFrom low xs → RisesFrom (next_after low xs) ys → RisesFrom low (xs ++ ys)
RisesFrom-append low [] ys rises also = also
RisesFrom-append low (x ∷ xs) ys rises also = (rises.0, RisesFrom-append (lsn_of x.entry + 1) xs ys rises.1 also)

pub next_after-append : (low : ℕ) (xs ys : List Written) → next_after low (xs ++ ys) ≡ next_after (next_after low xs) ys
next_after-append low [] ys = refl
next_after-append low (x ∷ xs) ys = next_after-append (lsn_of x.entry + 1) xs ys

pub first_lsn-one : (xs : List Written) (x : Written) (end : ℕ) → lsn_of x.entry ≡ end → first_lsn (xs ++ x ∷ []) (end + 1) ≡ first_lsn xs end
first_lsn-one [] x end is = is
first_lsn-one (y ∷ ys) x end is = refl

pub placed_from-one : (place : ℕ) (xs : List Written) (x : Written) → placed_from place (xs ++ x ∷ []) ≡ placed_from place xs ++ record { entry = x.entry; text = x.text; place = place + length (laid xs) } ∷ []
placed_from-one place [] x = ap (λ (k : ℕ). record { entry = x.entry; text = x.text; place = k } ∷ []) (sym (add-zero place))
placed_from-one place (y ∷ ys) x =
    ap (λ (l : List Placed). record { entry = y.entry; text = y.text; place = place } ∷ l) (placed_from-one (place + length y.text) ys x
    ∙ ap (λ (k : ℕ). placed_from (place + length y.text) ys ++ record { entry = x.entry; text = x.text; place = k } ∷ []) (let e : place + length y.text + length (laid ys) ≡ place + length (y.text ++ laid ys) = omega (arith, length-append y.text (laid ys)) in e))

pub records_of-append : (xs ys : List Placed) → records_of (xs ++ ys) ≡ records_of xs ++ records_of ys
records_of-append [] ys = refl
records_of-append (x ∷ xs) ys = ap (λ (l : List Record). x.entry ∷ l) (records_of-append xs ys)

pub records_of-placed : (place : ℕ) (xs : List Written) → records_of (placed_from place xs) ≡ entries_of xs
records_of-placed place [] = refl
records_of-placed place (x ∷ xs) = ap (λ (l : List Record). x.entry ∷ l) (records_of-placed (place + length x.text) xs)

pub entries_of-append : (xs ys : List Written) → entries_of (xs ++ ys) ≡ entries_of xs ++ entries_of ys
entries_of-append [] ys = refl
entries_of-append (x ∷ xs) ys = ap (λ (l : List Record). x.entry ∷ l) (entries_of-append xs ys)
