use Rattle.std.proofs.Common.{rules, refl, ◌≡◌, ◌↔◌, sym, subst, None, List, [], ◌∷◌, ◌++◌, drop}
use Rattle.std.proofs.lemmas.List.{at_drop_all}
use Rattle.run_words.specs.declared.options.Given.{Given}
use Rattle.run_words.specs.Options.{AreOnce, value_for}
use Rattle.run_words.specs.Pathnames.{Text}
use Rattle.run_words.specs.declared.fault.WordsFault.TheVariants as fault
use Rattle.run_words.specs.declared.fault.WordsFault.{WordsFault}
use Rattle.run_words.proofs.OnceLemmas.{once_more}
use Rattle.run_words.proofs.ReadLemmas.{Meets, same_step, some_left, unread, unrepeated, at_end, from_end, from_start, to_start, both_ways}
use Rattle.run_words.proofs.options.read_options.Goals as goal

only_memory : (reason : WordsFault) → (reason ≡ fault.Usage → ⊥) → reason ≡ fault.Memory
only_memory fault.Usage not_usage = absurd (not_usage refl)
only_memory fault.Memory not_usage = refl

pub returns-in_err-read-clause-only : goal.returns-in_err-read-clause-only
returns-in_err-read-clause-only c =
    λ all spelled once.
    let words = c.args.words.now in
    let left = drop c.loop-place.place words in
    let meets : Meets c.loop-place.options.items left all = (c.loop-place.invariant.same all).0 (from_start (drop 1 words) all spelled once) in
    let unread_then = λ (is : c.in_err-read.field-0.0 ≡ fault.Usage). unread c.loop-place.options.items left all (c.in_err-read.ensures.usage (search rules)) (some_left words c.loop-place.place (search rules)) meets in
    let memory : c.in_err-read.field-0.0 ≡ fault.Memory = only_memory c.in_err-read.field-0.0 unread_then in
    search rules

pub returns-then-is_some-clause-only : goal.returns-then-is_some-clause-only
returns-then-is_some-clause-only c =
    λ all spelled once.
    let words = c.args.words.now in
    let read = c.in_ok-read.read in
    let items = c.loop-place.options.items in
    let meets : Meets items (drop c.loop-place.place words) all = (c.loop-place.invariant.same all).0 (from_start (drop 1 words) all spelled once) in
    let none : value_for items read.given.name ≡ None = unrepeated items (drop c.loop-place.place words) (drop read.next words) read.given all (search rules) meets in
    search rules

pub loop-place-preserved : goal.loop-place-preserved
loop-place-preserved c =
    let words = c.args.words.now in
    let read = c.in_ok-read.read in
    let items = c.loop-place.options.items in
    let none : value_for items read.given.name ≡ None = search rules in
    let pushed : c.push.new.self.items ≡ items ++ read.given ∷ [] = search rules in
    record {
      once = subst AreOnce (sym pushed) (once_more items read.given c.loop-place.invariant.once none);
      same = subst (λ (more : List Given). (all : List Given) → Meets [] (drop 1 words) all ↔ Meets more (drop read.next words) all) (sym pushed)
          (λ all. both_ways (c.loop-place.invariant.same all) (same_step items (drop c.loop-place.place words) (drop read.next words) read.given all (search rules)));
      begun = search rules;
    }

pub returns-clause-found : goal.returns-clause-found
returns-clause-found c =
    let words = c.args.words.now in
    let items = c.loop-place.options.items in
    let none : drop c.loop-place.place words ≡ [] = at_drop_all (λ (ws : List Text). ws) words c.loop-place.place (search rules) in
    let meets : Meets items (drop c.loop-place.place words) items = subst (λ (ws : List Text). Meets items ws items) (sym none) (from_end items c.loop-place.invariant.once) in
    to_start (drop 1 words) items ((c.loop-place.invariant.same items).1 meets)

pub returns-clause-only : goal.returns-clause-only
returns-clause-only c =
    λ all spelled once.
    let words = c.args.words.now in
    let items = c.loop-place.options.items in
    let none : drop c.loop-place.place words ≡ [] = at_drop_all (λ (ws : List Text). ws) words c.loop-place.place (search rules) in
    let meets : Meets items (drop c.loop-place.place words) all = (c.loop-place.invariant.same all).0 (from_start (drop 1 words) all spelled once) in
    sym (at_end items all (subst (λ (ws : List Text). Meets items ws all) none meets))
