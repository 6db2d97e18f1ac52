-- Options are read one after the other: what is read and what is left stand for the same lists of options throughout.
use Rattle.std.proofs.Common.{◌≡◌, ◌∙◌, ◌≢◌, ◌⊎◌, ◌↔◌, inl, inr, ℕ, ◌+◌, ◌-◌, ◌<◌, ◌≤◌, arith, true, false, cond, Option, Some, None, List, [], ◌∷◌, ◌++◌, refl, sym, ap, ap₂, subst, drop, length, slice_get}
use Rattle.std.proofs.lemmas.List.{append_assoc, append-nil, at_drop_more, at_drop_all, length-drop}
use Rattle.std.proofs.lemmas.Option.{slice_get_within, get_or_from_slice_get}
use Rattle.run_words.specs.declared.options.Name.{Name}
use Rattle.run_words.specs.declared.options.Value.{Value}
use Rattle.run_words.specs.declared.options.Value.TheVariants.{Number, Path}
use Rattle.run_words.specs.declared.options.Given.{Given}
use Rattle.run_words.specs.Options.{option_word, joined_word, takes_path, IsValue, AreOptions, value_for, AreOnce}
use Rattle.run_words.specs.Pathnames.{Text, is_pathname}
use Rattle.run_words.specs.Reading.{and_then, number_at, value_at, given_at, word_at, option_behind, first_option}
use Rattle.run_words.proofs.NumberLemmas.{chosen_some, number_takes, number_again}
use Rattle.run_words.proofs.WordLemmas.{chosen, then_some, some_is, pair_is, word_takes, plain_again, joined_again}
use Rattle.run_words.proofs.OnceLemmas.{once_before}

-- one option in front of other words
abbrev pub IsFirst : List Text → Given → List Text → Type 0
IsFirst words given rest = (value : Text) × IsValue given.name value given.value
    × ((words ≡ option_word given.name ∷ value ∷ rest) ⊎ (words ≡ joined_word given.name value ∷ rest))

value_takes : (name : Name) (text : Text) (value : Value) → value_at name text ≡ Some value → IsValue name text value
value_takes name text value e = elim (chosen (takes_path name) (cond (is_pathname text) (Some (Path text)) None) (and_then (number_at text) (λ number. Some (Number number))) (Some value) e) [
  | inl p ↦ path_takes value p.0 p.1
  | inr p ↦ number_given value p.0 p.1
]
  where
    path_takes : (value : Value) → takes_path name ≡ true → cond (is_pathname text) (Some (Path text)) None ≡ Some value → IsValue name text value
    path_takes value takes e =
        let is = chosen_some (is_pathname text) (Path text) value e in
        subst (IsValue name text) is.1 (takes, is.0, refl)

    number_given : (value : Value) → takes_path name ≡ false → and_then (number_at text) (λ number. Some (Number number)) ≡ Some value → IsValue name text value
    number_given value takes e =
        let number = then_some (number_at text) (λ number. Some (Number number)) value e in
        subst (IsValue name text) (some_is (Number number.0) value number.2) (takes, number_takes text number.0 number.1)

value_again : (name : Name) (text : Text) (value : Value) → IsValue name text value → value_at name text ≡ Some value
value_again name text (Number number) (takes, is) = rw (takes, number_again text number is) refl
value_again name text (Path path) (takes, is, same) = rw (takes, is) (ap (λ (t : Text). Some (Path t)) same)

given_takes : (name : Name) (text : Text) (given : Given) → given_at name text ≡ Some given → (name ≡ given.name) × IsValue given.name text given.value
given_takes name text given e =
    let value = then_some (value_at name text) (λ value. Some (record { name = name; value = value })) given e in
    let made : Given = record { name = name; value = value.0 } in
    let is = some_is made given value.2 in
    (ap (λ (g : Given). g.name) is, subst (λ (g : Given). IsValue g.name text g.value) is (value_takes name text value.0 value.1))

given_again : (text : Text) (given : Given) → IsValue given.name text given.value → given_at given.name text ≡ Some given
given_again text given is = rw (value_again given.name text given.value is) refl

behind_takes : (word : Text) (name : Name) (value : Option Text) (more rest : List Text) (given : Given) → word_at word ≡ Some (name, value)
    → option_behind name value more ≡ Some (given, rest) → IsFirst (word ∷ more) given rest
behind_takes word name (Some value) more rest given head e =
    let read = then_some (given_at name value) (λ g. Some (g, more)) (given, rest) e in
    let same = pair_is (read.0, more) (given, rest) read.2 in
    let g = given_takes name value given (read.1 ∙ ap Some same.0) in
    (value, g.1, inr (rw (word_takes word name (Some value) head, same.1, g.0) refl))
behind_takes word name None [] rest given head e = absurd cc
behind_takes word name None (value ∷ more) rest given head e =
    let read = then_some (given_at name value) (λ g. Some (g, more)) (given, rest) e in
    let same = pair_is (read.0, more) (given, rest) read.2 in
    let g = given_takes name value given (read.1 ∙ ap Some same.0) in
    (value, g.1, inl (rw (word_takes word name None head, same.1, g.0) refl))

first_takes : (words rest : List Text) (given : Given) → first_option words ≡ Some (given, rest) → IsFirst words given rest
first_takes [] rest given e = absurd cc
first_takes (word ∷ more) rest given e =
    let head = then_some (word_at word) (λ head. option_behind head.0 head.1 more) (given, rest) e in
    behind_takes word head.0.0 head.0.1 more rest given head.1 head.2

first_again : (words rest : List Text) (given : Given) → IsFirst words given rest → first_option words ≡ Some (given, rest)
first_again words rest given (value, is, inl apart) = ap first_option apart ∙ rw (plain_again given.name, given_again value given is) refl
first_again words rest given (value, is, inr joined) = ap first_option joined ∙ rw (joined_again given.name value, given_again value given is) refl

-- the options read so far, with those that the words spell, are all of them, and each is given once
abbrev pub Meets : List Given → List Text → List Given → Type 0
Meets before words all = (more : List Given) × AreOptions more words × (all ≡ before ++ more) × AreOnce all

-- where the words spell options and aren't at their end, the first one is read
first_of : (words : List Text) (given : Given) (more : List Given) → AreOptions (given ∷ more) words → (rest : List Text) × (first_option words ≡ Some (given, rest)) × AreOptions more rest
first_of words given more (value, rest, is, spelled, form) = (rest, first_again words rest given (value, is, form), spelled)

with_first : (words rest : List Text) (given : Given) (more : List Given) → IsFirst words given rest → AreOptions more rest → AreOptions (given ∷ more) words
with_first words rest given more (value, is, form) spelled = (value, rest, is, spelled, form)

step_on : (before : List Given) (words rest : List Text) (given : Given) (all : List Given) → first_option words ≡ Some (given, rest)
    → Meets before words all → Meets (before ++ given ∷ []) rest all
step_on before words rest given all read ([], spelled, is, once) =
    let none : first_option words ≡ None = ap first_option spelled in
    absurd cc
step_on before words rest given all read (first ∷ more, spelled, is, once) =
    let head = first_of words first more spelled in
    let same = pair_is (first, head.0) (given, rest) (sym head.1 ∙ read) in (
      more,
      subst (λ (ws : List Text). AreOptions more ws) same.1 head.2,
      is ∙ ap (λ (g : Given). before ++ g ∷ more) same.0 ∙ sym (append_assoc before (given ∷ []) more),
      once,
    )

step_back : (before : List Given) (words rest : List Text) (given : Given) (all : List Given) → first_option words ≡ Some (given, rest)
    → Meets (before ++ given ∷ []) rest all → Meets before words all
step_back before words rest given all read (more, spelled, is, once) =
    (given ∷ more, with_first words rest given more (first_takes words rest given read) spelled, is ∙ append_assoc before (given ∷ []) more, once)

-- words spell one list of options at most
pub one_reading : (first second : List Given) (words : List Text) → AreOptions first words → AreOptions second words → first ≡ second
one_reading [] [] words a b = refl
one_reading [] (given ∷ more) words a b =
    let head = first_of words given more b in
    let none : first_option words ≡ None = ap first_option a in
    absurd cc
one_reading (given ∷ more) [] words a b =
    let head = first_of words given more a in
    let none : first_option words ≡ None = ap first_option b in
    absurd cc
one_reading (given ∷ more) (other ∷ others) words a b =
    let head = first_of words given more a in
    let head_too = first_of words other others b in
    let same = pair_is (given, head.0) (other, head_too.0) (sym head.1 ∙ head_too.1) in
    let rest : AreOptions more head_too.0 = subst (λ (ws : List Text). AreOptions more ws) same.1 head.2 in
    ap₂ (λ (g : Given) (gs : List Given). g ∷ gs) same.0 (one_reading more others head_too.0 rest head_too.2)

-- reading one more option changes nothing
pub same_step : (before : List Given) (words rest : List Text) (given : Given) (all : List Given) → first_option words ≡ Some (given, rest)
    → Meets before words all ↔ Meets (before ++ given ∷ []) rest all
same_step before words rest given all read = (step_on before words rest given all read, step_back before words rest given all read)

-- words that begin with no option spell none
pub unread : (before : List Given) (words : List Text) (all : List Given) → first_option words ≡ None → words ≢ [] → Meets before words all → ⊥
unread before words all none some ([], spelled, is, once) = some spelled
unread before words all none some (first ∷ more, spelled, is, once) =
    let head = first_of words first more spelled in
    absurd cc

-- a name that is given once isn't given again
pub unrepeated : (before : List Given) (words rest : List Text) (given : Given) (all : List Given) → first_option words ≡ Some (given, rest)
    → Meets before words all → value_for before given.name ≡ None
unrepeated before words rest given all read meets =
    let next = step_on before words rest given all read meets in
    let shape = next.2 ∙ append_assoc before (given ∷ []) next.0 in
    once_before before next.0 given (subst AreOnce shape next.3)

-- at the end all options are read
pub at_end : (before all : List Given) → Meets before [] all → all ≡ before
at_end before all ([], spelled, is, once) = is ∙ append-nil before
at_end before all (first ∷ more, spelled, is, once) =
    let head = first_of [] first more spelled in
    absurd cc

pub from_end : (before : List Given) → AreOnce before → Meets before [] before
from_end before once = ([], refl, sym (append-nil before), once)

pub from_start : (words : List Text) (all : List Given) → AreOptions all words → AreOnce all → Meets [] words all
from_start words all spelled once = (all, spelled, refl, once)

pub to_start : (words : List Text) (all : List Given) → Meets [] words all → AreOptions all words × AreOnce all
to_start words all (more, spelled, is, once) = (subst (λ (gs : List Given). AreOptions gs words) (sym is) spelled, once)

-- ---- the first option from a place on

left_at : (words : List Text) (place : ℕ) (word : Text) → slice_get words place ≡ Some word → drop place words ≡ word ∷ drop (place + 1) words
left_at words place word e =
    at_drop_more (λ (ws : List Text). ws) words place [] (slice_get_within words place word e)
    ∙ ap (λ (w : Text). w ∷ drop (place + 1) words) (get_or_from_slice_get words place word [] e)

pub no_word : (words : List Text) (place : ℕ) → length words ≤ place → first_option (drop place words) ≡ None
no_word words place past = at_drop_all first_option words place past

pub no_head : (words : List Text) (place : ℕ) (word : Text) → slice_get words place ≡ Some word → word_at word ≡ None → first_option (drop place words) ≡ None
no_head words place word e none = ap first_option (left_at words place word e) ∙ rw none refl

pub joined_at : (words : List Text) (place : ℕ) (word value : Text) (name : Name) (given : Option Given) → slice_get words place ≡ Some word
    → word_at word ≡ Some (name, Some value) → given_at name value ≡ given → first_option (drop place words) ≡ and_then given (λ g. Some (g, drop (place + 1) words))
joined_at words place word value name given e head is = ap first_option (left_at words place word e) ∙ rw (head, is) refl

pub no_value_at : (words : List Text) (place : ℕ) (word : Text) (name : Name) → slice_get words place ≡ Some word
    → word_at word ≡ Some (name, None) → length words ≤ place + 1 → first_option (drop place words) ≡ None
no_value_at words place word name e head past =
    ap first_option (left_at words place word e) ∙ rw head (at_drop_all (option_behind name None) words (place + 1) past)

pub apart_at : (words : List Text) (place : ℕ) (word value : Text) (name : Name) (given : Option Given) → slice_get words place ≡ Some word
    → word_at word ≡ Some (name, None) → slice_get words (place + 1) ≡ Some value → given_at name value ≡ given
    → first_option (drop place words) ≡ and_then given (λ g. Some (g, drop (place + 1 + 1) words))
apart_at words place word value name given e head next is =
    ap first_option (left_at words place word e) ∙ rw head (ap (option_behind name None) (left_at words (place + 1) value next) ∙ rw is refl)

-- something is left from a place within the words on
pub some_left : (words : List Text) (place : ℕ) → place < length words → drop place words ≢ []
some_left words place within none =
    let size : length (drop place words) ≡ length words - place = length-drop place words in
    let empty : length (drop place words) ≡ 0 = ap length none in
    absurd (omega arith)

pub both_ways : {A B C : Type 0} → A ↔ B → B ↔ C → A ↔ C
both_ways first next = (λ a. next.0 (first.0 a), λ c. first.1 (next.1 c))
