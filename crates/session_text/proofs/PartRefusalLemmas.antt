-- The parts of a line: where they refuse words, and that this lasts.
use Rattle.std.proofs.Common.{◌≡◌, ℕ, ◌+◌, ◌≤◌, ◌||◌, nat_le, Bool, true, false, cond, codes, Option, Some, None, option_and_then, Result, Ok, Err, List, length, slice_get, arith}
use Rattle.session_text.specs.declared.fault.LineFault.{LineFault}
use Rattle.session_text.specs.declared.fault.LineFault.TheVariants as fault
use Rattle.session_text.specs.declared.fault.Wanted.{Wanted}
use Rattle.session_text.specs.declared.fault.Wanted.TheVariants as wanted
use Rattle.session_text.specs.declared.command.BlobSource.{BlobSource}
use Rattle.session_text.specs.declared.command.BlobSource.TheVariants as source
use Rattle.session_text.specs.declared.command.Command.{Command}
use Rattle.session_text.specs.Texts.{bytes_of_digits, number_at}
use Rattle.session_text.specs.Reading.{◌>>=◌, where_true, found_or, read_at, has_word, ended, file_name_of, source_in, file_option, range_in, behind_option, behind_range}
use Rattle.session_text.proofs.PlaceLemmas.{done}
use Rattle.session_text.proofs.RefusalLemmas.{Words, Stays, refused, earlier_stays, chain_stays, end_stays, test_stays, option_stays, source_stays, file_stays, range_stays}

-- ---- no refusal of words is that of a long line

abbrev pub InPlace : {A : Type 0} → (Words → Result A LineFault) → Type 0
InPlace f = (words : Words) → f words ≡ Err fault.TooLong → ⊥

pub read_at_placed : {A : Type 0} (of : List ℕ → Option A) (wants : Wanted) (place : ℕ) → InPlace (λ words. read_at of wants words place)
read_at_placed {A} of wants place words e = by (option_and_then of (slice_get words place)) e
  where
    by : (found : Option A) → found_or found (fault.Word place wants) ≡ Err fault.TooLong → ⊥
    by None e = cc
    by (Some x) e = cc

pub bind_placed : {A B : Type 0} (read : Result A LineFault) (next : A → Result B LineFault) → (read ≡ Err fault.TooLong → ⊥) → ((x : A) → next x ≡ Err fault.TooLong → ⊥) → (read >>= next) ≡ Err fault.TooLong → ⊥
bind_placed (Ok x) next first then e = then x e
bind_placed (Err d) next first then e = first cc

pub cond_placed : {A : Type 0} (test : Bool) (x y : Result A LineFault) → (x ≡ Err fault.TooLong → ⊥) → (y ≡ Err fault.TooLong → ⊥) → cond test x y ≡ Err fault.TooLong → ⊥
cond_placed true x y first second e = first e
cond_placed false x y first second e = second e

pub ok_placed : {A : Type 0} (x : A) → done x ≡ Err fault.TooLong → ⊥
ok_placed x e = cc

word_placed : {A : Type 0} (p : ℕ) (w : Wanted) → refused {A = A} p w ≡ Err fault.TooLong → ⊥
word_placed p w e = cc

-- ---- both facts together

-- a refusal by f stands at a place from the start on, and lasts whatever stands behind it
pub record Lasts {A : Type 0} (start : ℕ) (f : Words → Result A LineFault) : Type 0 where
  pub stays : Stays start f
  pub placed : InPlace f

pub earlier : {A : Type 0} (m n : ℕ) (f : Words → Result A LineFault) → Lasts n f → m ≤ n → Lasts m f
earlier m n f lasts le = record { stays = earlier_stays m n f lasts.stays le; placed = lasts.placed }

pub chain : {A B : Type 0} (of : List ℕ → Option A) (wants : Wanted) (place : ℕ) (next : A → Words → Result B LineFault) → ((x : A) → Lasts place (next x))
    → Lasts place (λ words. read_at of wants words place >>= λ x. next x words)
chain of wants place next lasts = record {
  stays = chain_stays of wants place next (λ x. (lasts x).stays);
  placed = λ words. bind_placed (read_at of wants words place) (λ x. next x words) (read_at_placed of wants place words) (λ x. (lasts x).placed words);
}

pub end_lasts : (place : ℕ) (made : Command) → Lasts place (λ words. ended words place made)
end_lasts place made = record {
  stays = end_stays place made;
  placed = λ words. cond_placed (nat_le (length words) place) (done made) (refused place wanted.End) (ok_placed made) (word_placed {A = Command} place wanted.End);
}

pub test_lasts : {A : Type 0} (place start : ℕ) (test : Bool) (wants : Wanted) (next : Words → Result A LineFault) → Lasts start next → place ≤ start → Lasts place (λ words. where_true test (fault.Word place wants) (next words))
test_lasts {A} place start test wants next lasts le = record {
  stays = test_stays place start test wants next lasts.stays le;
  placed = λ words. cond_placed test (next words) (refused place wants) (lasts.placed words) (word_placed {A = A} place wants);
}

pub option_lasts : {A B : Type 0} (of : List ℕ → Option A) (wants : Wanted) (text : List ℕ) (none : A) (place : ℕ) (next : A → ℕ → Words → Result B LineFault)
    → ((x : A) (q : ℕ) → place ≤ q → Lasts q (next x q))
    → Lasts place (λ words. cond (has_word words place text) (read_at of wants words (place + 1)) (Ok none) >>= λ x. next x (behind_option words place text) words)
option_lasts {A} {B} of wants text none place next lasts = record { stays = option_stays of wants text none place next (λ x q le. (lasts x q le).stays); placed = placed }
  where
    behind : (t : Bool) → place ≤ cond t (place + 2) place
    behind true = omega arith
    behind false = omega arith

    placed : (words : Words) → (cond (has_word words place text) (read_at of wants words (place + 1)) (Ok none) >>= λ x. next x (behind_option words place text) words) ≡ Err fault.TooLong → ⊥
    placed words = bind_placed (cond (has_word words place text) (read_at of wants words (place + 1)) (Ok none)) (λ x. next x (behind_option words place text) words)
        (cond_placed (has_word words place text) (read_at of wants words (place + 1)) (done none) (read_at_placed of wants (place + 1) words) (ok_placed none))
        (λ x. (lasts x (behind_option words place text) (behind (has_word words place text))).placed words)

made_placed : {A B : Type 0} (of : List ℕ → Option A) (wants : Wanted) (place : ℕ) (make : A → B) → InPlace (λ words. read_at of wants words place >>= λ x. Ok (make x))
made_placed of wants place make words = bind_placed (read_at of wants words place) (λ x. done (make x)) (read_at_placed of wants place words) (λ x. ok_placed (make x))

source_placed : (place : ℕ) → InPlace (λ words. source_in words place)
unfolding source_in
source_placed place words = cond_placed (has_word words place (codes "hex")) (read_at bytes_of_digits wanted.Digits words (place + 1) >>= λ bytes. Ok (source.Line bytes))
    (cond (has_word words place (codes "file")) (read_at file_name_of wanted.FileName words (place + 1) >>= λ file. Ok (source.File file)) (refused place wanted.SourceForm))
    (made_placed bytes_of_digits wanted.Digits (place + 1) (λ bytes. source.Line bytes) words)
    (cond_placed (has_word words place (codes "file")) (read_at file_name_of wanted.FileName words (place + 1) >>= λ file. Ok (source.File file)) (refused place wanted.SourceForm)
    (made_placed file_name_of wanted.FileName (place + 1) (λ file. source.File file) words) (word_placed {A = BlobSource} place wanted.SourceForm))

file_placed : (place : ℕ) → InPlace (λ words. file_option words place)
unfolding file_option
file_placed place words = cond_placed (has_word words place (codes "file")) (read_at file_name_of wanted.FileName words (place + 1) >>= λ file. Ok (Some file)) (Ok None)
    (made_placed file_name_of wanted.FileName (place + 1) (λ file. Some file) words) (ok_placed None)

file_behind : (t : Bool) (place : ℕ) → place ≤ cond t (place + 2) place
file_behind true place = omega arith
file_behind false place = omega arith

range_placed : (place : ℕ) → InPlace (λ words. range_in words place)
unfolding range_in
range_placed place words = cond_placed (nat_le (length words) place || has_word words place (codes "file")) (Ok None)
    (read_at number_at wanted.Number words place >>= λ from. read_at number_at wanted.Number words (place + 1) >>= λ len. Ok (Some (from, len)))
    (ok_placed None)
    (bind_placed (read_at number_at wanted.Number words place) (λ from. read_at number_at wanted.Number words (place + 1) >>= λ len. Ok (Some (from, len))) (read_at_placed number_at wanted.Number place words)
    (λ from. made_placed number_at wanted.Number (place + 1) (λ len. Some (from, len)) words))

pub source_lasts : {B : Type 0} (place : ℕ) (next : BlobSource → Words → Result B LineFault) → ((s : BlobSource) → Lasts (place + 1) (next s)) → Lasts place (λ words. source_in words place >>= λ s. next s words)
source_lasts place next lasts = record {
  stays = source_stays place next (λ s. (lasts s).stays);
  placed = λ words. bind_placed (source_in words place) (λ s. next s words) (source_placed place words) (λ s. (lasts s).placed words);
}

pub file_lasts : {B : Type 0} (place : ℕ) (next : Option (List ℕ) → ℕ → Words → Result B LineFault) → ((f : Option (List ℕ)) (q : ℕ) → place ≤ q → Lasts q (next f q))
    → Lasts place (λ words. file_option words place >>= λ f. next f (behind_option words place (codes "file")) words)
file_lasts place next lasts = record {
  stays = file_stays place next (λ f q le. (lasts f q le).stays);
  placed = λ words. bind_placed (file_option words place) (λ f. next f (behind_option words place (codes "file")) words) (file_placed place words)
      (λ f. (lasts f (behind_option words place (codes "file")) (file_behind (has_word words place (codes "file")) place)).placed words);
}

pub range_lasts : {B : Type 0} (place : ℕ) (next : Option (ℕ × ℕ) → Words → Result B LineFault) → ((r : Option (ℕ × ℕ)) → Lasts (behind_range r place) (next r)) → Lasts place (λ words. range_in words place >>= λ r. next r words)
range_lasts place next lasts = record {
  stays = range_stays place next (λ r. (lasts r).stays);
  placed = λ words. bind_placed (range_in words place) (λ r. next r words) (range_placed place words) (λ r. (lasts r).placed words);
}
