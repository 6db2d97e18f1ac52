-- What is refused at a word is refused whatever stands behind it.
use Rattle.std.proofs.Common.{◌≡◌, ◌∙◌, ℕ, zero, suc, ◌+◌, ◌≤◌, ◌||◌, nat_le, Bool, true, false, cond, codes, Option, Some, None, option_and_then, Result, Ok, Err, List, [], ◌∷◌, length, slice_get, refl, sym, ap, arith}
use Rattle.std.proofs.lemmas.Bool.Decides.{nat_tests}
use Rattle.session_text.specs.declared.fault.LineFault.{LineFault}
use Rattle.session_text.specs.declared.fault.LineFault.TheVariants as fault
use Rattle.session_text.specs.declared.fault.Wanted.{Wanted}
use Rattle.session_text.specs.declared.fault.Wanted.TheVariants as wanted
use Rattle.session_text.specs.declared.command.BlobSource.{BlobSource}
use Rattle.session_text.specs.declared.command.BlobSource.TheVariants as source
use Rattle.session_text.specs.declared.command.Command.{Command}
use Rattle.session_text.specs.Texts.{bytes_of_digits, number_at}
use Rattle.session_text.specs.Reading.{◌>>=◌, where_true, found_or, read_at, is_text, has_word, ended, file_name_of, source_in, file_option, range_in, behind_option, behind_range}
use Rattle.session_text.proofs.PlaceLemmas.{done}

abbrev pub Words : Type 0
Words = List (List ℕ)

-- the same words stand at the places up to this one
abbrev pub Same : ℕ → Words → Words → Type 0
Same p a b = (k : ℕ) → k ≤ p → slice_get a k ≡ slice_get b k

-- a refusal by f stands at a place from the start on, and is the same of other words that are the same up to there
abbrev pub Stays : {A : Type 0} → ℕ → (Words → Result A LineFault) → Type 0
Stays start f = (a b : Words) (p : ℕ) (w : Wanted) → f a ≡ Err (fault.Word p w) → Same p a b → (start ≤ p) × (f b ≡ Err (fault.Word p w))

abbrev pub refused : {A : Type 0} → ℕ → Wanted → Result A LineFault
refused p w = Err (fault.Word p w)

same_place : {A : Type 0} (p q : ℕ) (v w : Wanted) → refused {A = A} q v ≡ refused {A = A} p w → q ≡ p
same_place p q v w e = cc

pub earlier_stays : {A : Type 0} (m n : ℕ) (f : Words → Result A LineFault) → Stays n f → m ≤ n → Stays m f
earlier_stays m n f lasts le = λ a b p w e same. let l = lasts a b p w e same in (omega (arith, l.0), l.1)

-- ---- one word

read_at_same : {A : Type 0} (of : List ℕ → Option A) (wants : Wanted) (place : ℕ) (a b : Words) → slice_get a place ≡ slice_get b place → read_at of wants a place ≡ read_at of wants b place
read_at_same of wants place a b same = ap (λ (at : Option (List ℕ)). found_or (option_and_then of at) (fault.Word place wants)) same

read_at_refused : {A : Type 0} (of : List ℕ → Option A) (wants : Wanted) (place : ℕ) (a : Words) (p : ℕ) (w : Wanted) → read_at of wants a place ≡ Err (fault.Word p w) → place ≡ p
read_at_refused {A} of wants place a p w e = by (option_and_then of (slice_get a place)) e
  where
    by : (found : Option A) → found_or found (fault.Word place wants) ≡ Err (fault.Word p w) → place ≡ p
    by None e = cc
    by (Some x) e = absurd cc

-- a word, and what is read behind it
pub chain_stays : {A B : Type 0} (of : List ℕ → Option A) (wants : Wanted) (place : ℕ) (next : A → Words → Result B LineFault) → ((x : A) → Stays place (next x))
    → Stays place (λ words. read_at of wants words place >>= λ x. next x words)
chain_stays {A} {B} of wants place next lasts a b p w e same = by (read_at of wants a place) refl e
  where
    by : (read : Result A LineFault) → read_at of wants a place ≡ read → (read >>= λ x. next x a) ≡ Err (fault.Word p w)
        → (place ≤ p) × ((read_at of wants b place >>= λ x. next x b) ≡ Err (fault.Word p w))
    by (Ok x) is e =
        let l = lasts x a b p w e same in
        let again : read_at of wants b place ≡ Ok x = sym (read_at_same of wants place a b (same place l.0)) ∙ is in
        (l.0, ap (λ (r : Result A LineFault). r >>= λ y. next y b) again ∙ l.1)
    by (Err d) is e =
        let failed : read_at of wants a place ≡ Err (fault.Word p w) = is ∙ cc in
        let here : place ≡ p = read_at_refused of wants place a p w failed in
        let again : read_at of wants b place ≡ Err (fault.Word p w) = sym (read_at_same of wants place a b (same place (omega (arith, here)))) ∙ failed in
        (omega (arith, here), ap (λ (r : Result A LineFault). r >>= λ y. next y b) again)

is_absent : Option (List ℕ) → Bool
is_absent None = true
is_absent (Some word) = false

-- whether a line has no word at a place, by that place alone
few_by : (words : Words) (place : ℕ) → nat_le (length words) place ≡ is_absent (slice_get words place)
unfolding is_absent
few_by [] place = grind (arith, nat_tests)
few_by (word ∷ words) zero = grind (arith, nat_tests)
few_by (word ∷ words) (suc place) = by (nat_le (length words) place) refl ∙ few_by words place
  where
    by : (t : Bool) → nat_le (length words) place ≡ t → nat_le (length (word ∷ words)) (suc place) ≡ nat_le (length words) place
    by true e = more ∙ sym e
      where
        more : nat_le (length (word ∷ words)) (suc place) ≡ true
        more = grind (arith, nat_tests)
    by false e = more ∙ sym e
      where
        more : nat_le (length (word ∷ words)) (suc place) ≡ false
        more = grind (arith, nat_tests)

pub few_same : (place : ℕ) (a b : Words) → slice_get a place ≡ slice_get b place → nat_le (length a) place ≡ nat_le (length b) place
few_same place a b same = few_by a place ∙ ap is_absent same ∙ sym (few_by b place)

has_same : (place : ℕ) (text : List ℕ) (a b : Words) → slice_get a place ≡ slice_get b place → has_word a place text ≡ has_word b place text
has_same place text a b same = ap (λ (at : Option (List ℕ)). is_text at text) same

where_refused : {A : Type 0} (test : Bool) (refusal : LineFault) (x : A) (p : ℕ) (w : Wanted) → where_true test refusal (Ok x) ≡ Err (fault.Word p w) → refusal ≡ fault.Word p w
where_refused true refusal x p w e = absurd cc
where_refused false refusal x p w e = cc

-- the end of a line
pub end_stays : (place : ℕ) (made : Command) → Stays place (λ words. ended words place made)
end_stays place made a b p w e same =
    let is : fault.Word place wanted.End ≡ fault.Word p w = where_refused (nat_le (length a) place) (fault.Word place wanted.End) made p w e in
    let here : place ≡ p = same_place {A = Command} p place wanted.End w (ap (λ (f : LineFault). Err f) is) in
    (omega (arith, here), ap (λ (t : Bool). where_true t (fault.Word place wanted.End) (done made)) (sym (few_same place a b (same place (omega (arith, here))))) ∙ e)

-- a test of what was read, in front of what is read next
pub test_stays : {A : Type 0} (place start : ℕ) (test : Bool) (wants : Wanted) (next : Words → Result A LineFault) → Stays start next → place ≤ start → Stays place (λ words. where_true test (fault.Word place wants) (next words))
test_stays place start true wants next lasts le a b p w e same = let l = lasts a b p w e same in (omega (arith, l.0), l.1)
test_stays place start false wants next lasts le a b p w e same =
    let here : place ≡ p = cc in
    (omega (arith, here), e)

-- ---- the parts of a line

-- an optional word and the one that belongs to it, and what is read behind them
pub option_stays : {A B : Type 0} (of : List ℕ → Option A) (wants : Wanted) (text : List ℕ) (none : A) (place : ℕ) (next : A → ℕ → Words → Result B LineFault)
    → ((x : A) (q : ℕ) → place ≤ q → Stays q (next x q))
    → Stays place (λ words. cond (has_word words place text) (read_at of wants words (place + 1)) (Ok none) >>= λ x. next x (behind_option words place text) words)
option_stays {A} {B} of wants text none place next lasts a b p w e same = by (has_word a place text) refl
  where
    given : Words → Result B LineFault
    given words = read_at of wants words (place + 1) >>= λ x. next x (place + 2) words

    missing : Words → Result B LineFault
    missing words = next none place words

    read : Bool → Words → Result B LineFault
    read t words = cond t (read_at of wants words (place + 1)) (Ok none) >>= λ x. next x (cond t (place + 2) place) words

    by : (t : Bool) → has_word a place text ≡ t → (place ≤ p) × (read (has_word b place text) b ≡ Err (fault.Word p w))
    by true is =
        let here : read true a ≡ Err (fault.Word p w) = ap (λ (t : Bool). read t a) (sym is) ∙ e in
        let l = chain_stays of wants (place + 1) (λ x. next x (place + 2)) (λ x. earlier_stays (place + 1) (place + 2) (next x (place + 2)) (lasts x (place + 2) (omega arith)) (omega arith)) a b p w here same in
        let le : place ≤ p = omega (arith, l.0) in
        (le, ap (λ (t : Bool). read t b) (sym (has_same place text a b (same place le)) ∙ is) ∙ l.1)
    by false is =
        let here : read false a ≡ Err (fault.Word p w) = ap (λ (t : Bool). read t a) (sym is) ∙ e in
        let l = lasts none place (omega arith) a b p w here same in
        (l.0, ap (λ (t : Bool). read t b) (sym (has_same place text a b (same place l.0)) ∙ is) ∙ l.1)

-- steps may be put together in either way
regrouped : {A B C : Type 0} (read : Result A LineFault) (next : A → Result B LineFault) (last : B → Result C LineFault) → ((read >>= next) >>= last) ≡ (read >>= λ x. next x >>= last)
regrouped (Ok x) next last = refl
regrouped (Err e) next last = refl

-- a word, what is made of it, and what is read behind it
made_stays : {A B C : Type 0} (of : List ℕ → Option A) (wants : Wanted) (place : ℕ) (make : A → B) (next : B → Words → Result C LineFault) → ((x : A) → Stays place (next (make x)))
    → Stays place (λ words. (read_at of wants words place >>= λ x. Ok (make x)) >>= λ y. next y words)
made_stays {A} {B} of wants place make next lasts a b p w e same =
    let l = chain_stays of wants place (λ x. next (make x)) lasts a b p w (sym (regrouped (read_at of wants a place) (λ x. Ok (make x)) (λ y. next y a)) ∙ e) same in
    (l.0, regrouped (read_at of wants b place) (λ x. Ok (make x)) (λ y. next y b) ∙ l.1)

pub source_stays : {B : Type 0} (place : ℕ) (next : BlobSource → Words → Result B LineFault) → ((s : BlobSource) → Stays (place + 1) (next s)) → Stays place (λ words. source_in words place >>= λ s. next s words)
unfolding source_in
source_stays {B} place next lasts a b p w e same = by (has_word a place (codes "hex")) (has_word a place (codes "file")) refl refl
  where
    lined : Words → Result BlobSource LineFault
    lined words = read_at bytes_of_digits wanted.Digits words (place + 1) >>= λ bytes. Ok (source.Line bytes)

    named : Words → Result BlobSource LineFault
    named words = read_at file_name_of wanted.FileName words (place + 1) >>= λ file. Ok (source.File file)

    read : Bool → Bool → Words → Result B LineFault
    read hex file words = cond hex (lined words) (cond file (named words) (Err (fault.Word place wanted.SourceForm))) >>= λ s. next s words

    by : (s t : Bool) → has_word a place (codes "hex") ≡ s → has_word a place (codes "file") ≡ t → (place ≤ p) × (read (has_word b place (codes "hex")) (has_word b place (codes "file")) b ≡ Err (fault.Word p w))
    by true t hex file =
        let here : read true t a ≡ Err (fault.Word p w) = ap (λ (s : Bool). read s t a) (sym hex) ∙ ap (λ (u : Bool). read (has_word a place (codes "hex")) u a) (sym file) ∙ e in
        let l = made_stays bytes_of_digits wanted.Digits (place + 1) (λ bytes. source.Line bytes) next (λ bytes. lasts (source.Line bytes)) a b p w here same in
        let le : place ≤ p = omega (arith, l.0) in
        (le, ap (λ (s : Bool). read s (has_word b place (codes "file")) b) (sym (has_same place (codes "hex") a b (same place le)) ∙ hex) ∙ l.1)
    by false true hex file =
        let here : read false true a ≡ Err (fault.Word p w) = ap (λ (s : Bool). read s true a) (sym hex) ∙ ap (λ (u : Bool). read (has_word a place (codes "hex")) u a) (sym file) ∙ e in
        let l = made_stays file_name_of wanted.FileName (place + 1) (λ name. source.File name) next (λ name. lasts (source.File name)) a b p w here same in
        let le : place ≤ p = omega (arith, l.0) in (
          le,
          ap (λ (s : Bool). read s (has_word b place (codes "file")) b) (sym (has_same place (codes "hex") a b (same place le)) ∙ hex)
              ∙ ap (λ (t : Bool). read false t b) (sym (has_same place (codes "file") a b (same place le)) ∙ file) ∙ l.1,
        )
    by false false hex file =
        let here : read false false a ≡ Err (fault.Word p w) = ap (λ (s : Bool). read s false a) (sym hex) ∙ ap (λ (u : Bool). read (has_word a place (codes "hex")) u a) (sym file) ∙ e in
        let is : place ≡ p = cc in
        let le : place ≤ p = omega (arith, is) in (
          le,
          ap (λ (s : Bool). read s (has_word b place (codes "file")) b) (sym (has_same place (codes "hex") a b (same place le)) ∙ hex)
              ∙ ap (λ (t : Bool). read false t b) (sym (has_same place (codes "file") a b (same place le)) ∙ file) ∙ here,
        )

-- an optional file, and what is read behind it
pub file_stays : {B : Type 0} (place : ℕ) (next : Option (List ℕ) → ℕ → Words → Result B LineFault) → ((f : Option (List ℕ)) (q : ℕ) → place ≤ q → Stays q (next f q))
    → Stays place (λ words. file_option words place >>= λ f. next f (behind_option words place (codes "file")) words)
unfolding file_option
file_stays {B} place next lasts a b p w e same = by (has_word a place (codes "file")) refl
  where
    read : Bool → Words → Result B LineFault
    read t words = cond t (read_at file_name_of wanted.FileName words (place + 1) >>= λ name. Ok (Some name)) (Ok None) >>= λ f. next f (cond t (place + 2) place) words

    by : (t : Bool) → has_word a place (codes "file") ≡ t → (place ≤ p) × (read (has_word b place (codes "file")) b ≡ Err (fault.Word p w))
    by true is =
        let here : read true a ≡ Err (fault.Word p w) = ap (λ (t : Bool). read t a) (sym is) ∙ e in
        let l = made_stays file_name_of wanted.FileName (place + 1) (λ name. Some name) (λ f. next f (place + 2)) (λ name. earlier_stays (place + 1) (place + 2) (next (Some name) (place + 2)) (lasts (Some name) (place + 2) (omega arith)) (omega arith)) a b p w here same in
        let le : place ≤ p = omega (arith, l.0) in
        (le, ap (λ (t : Bool). read t b) (sym (has_same place (codes "file") a b (same place le)) ∙ is) ∙ l.1)
    by false is =
        let here : read false a ≡ Err (fault.Word p w) = ap (λ (t : Bool). read t a) (sym is) ∙ e in
        let l = lasts None place (omega arith) a b p w here same in
        (l.0, ap (λ (t : Bool). read t b) (sym (has_same place (codes "file") a b (same place l.0)) ∙ is) ∙ l.1)

-- an optional range, and what is read behind it
pub range_stays : {B : Type 0} (place : ℕ) (next : Option (ℕ × ℕ) → Words → Result B LineFault) → ((r : Option (ℕ × ℕ)) → Stays (behind_range r place) (next r)) → Stays place (λ words. range_in words place >>= λ r. next r words)
unfolding range_in
range_stays {B} place next lasts a b p w e same = by (nat_le (length a) place || has_word a place (codes "file")) refl
  where
    test : Words → Bool
    test words = nat_le (length words) place || has_word words place (codes "file")

    behind : ℕ → Words → Result (Option (ℕ × ℕ)) LineFault
    behind from words = read_at number_at wanted.Number words (place + 1) >>= λ len. Ok (Some (from, len))

    numbers : Words → Result (Option (ℕ × ℕ)) LineFault
    numbers words = read_at number_at wanted.Number words place >>= λ from. behind from words

    read : Bool → Words → Result B LineFault
    read t words = cond t (Ok None) (numbers words) >>= λ r. next r words

    test_same : slice_get a place ≡ slice_get b place → test b ≡ test a
    test_same is = sym (ap (λ (t : Bool). t || has_word a place (codes "file")) (few_same place a b is) ∙ ap (λ (t : Bool). nat_le (length b) place || t) (has_same place (codes "file") a b is))

    second : (from : ℕ) → Stays place (λ words. behind from words >>= λ r. next r words)
    second from = earlier_stays place (place + 1) (λ words. behind from words >>= λ r. next r words)
        (made_stays number_at wanted.Number (place + 1) (λ len. Some (from, len)) next (λ len. earlier_stays (place + 1) (place + 2) (next (Some (from, len))) (lasts (Some (from, len))) (omega arith))) (omega arith)

    by : (t : Bool) → test a ≡ t → (place ≤ p) × (read (test b) b ≡ Err (fault.Word p w))
    by true is =
        let here : read true a ≡ Err (fault.Word p w) = ap (λ (t : Bool). read t a) (sym is) ∙ e in
        let l = lasts None a b p w here same in
        (l.0, ap (λ (t : Bool). read t b) (test_same (same place l.0) ∙ is) ∙ l.1)
    by false is =
        let here : read false a ≡ Err (fault.Word p w) = ap (λ (t : Bool). read t a) (sym is) ∙ e in
        let l = chain_stays number_at wanted.Number place (λ from words. behind from words >>= λ r. next r words) second a b p w (sym (regrouped (read_at number_at wanted.Number a place) (λ from. behind from a) (λ r. next r a)) ∙ here) same in
        (l.0, ap (λ (t : Bool). read t b) (test_same (same place l.0) ∙ is) ∙ regrouped (read_at number_at wanted.Number b place) (λ from. behind from b) (λ r. next r b) ∙ l.1)
