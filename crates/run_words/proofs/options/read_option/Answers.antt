use Rattle.std.proofs.Common.{rules, sym, Some, None}
use Rattle.run_words.proofs.ReadLemmas.{no_head, joined_at, no_value_at, apart_at}
use Rattle.run_words.proofs.options.read_option.Goals as goal

pub returns-in_default-head_of-clause-usage : goal.returns-in_default-head_of-clause-usage
returns-in_default-head_of-clause-usage c =
    λ _. no_head c.args.words.now c.args.place c.in-Some.word.now (sym c.in-Some.ensures.word) (search rules)

pub returns-in_err-given-in-Some-value-clause-usage : goal.returns-in_err-given-in-Some-value-clause-usage
returns-in_err-given-in-Some-value-clause-usage c =
    λ is. joined_at c.args.words.now c.args.place c.in-Some.word.now c.in-Some-value.value.now c.in-Some-head_of.head.name None
    (sym c.in-Some.ensures.word) (search rules) (c.in_err-given-in-Some-value.ensures.usage (search rules))

pub returns-in_default-at-clause-usage : goal.returns-in_default-at-clause-usage
returns-in_default-at-clause-usage c =
    λ _. no_value_at c.args.words.now c.args.place c.in-Some.word.now c.in-Some-head_of.head.name
    (sym c.in-Some.ensures.word) (search rules) (search rules)

pub returns-in_err-given-in-None-clause-usage : goal.returns-in_err-given-in-None-clause-usage
returns-in_err-given-in-None-clause-usage c =
    λ is.
    let none = c.in_err-given-in-None.ensures.usage (search rules) in
    apart_at c.args.words.now c.args.place c.in-Some.word.now c.in-Some-at.value.now c.in-Some-head_of.head.name None
    (sym c.in-Some.ensures.word) (search rules) (sym c.in-Some-at.ensures.word) (search rules)

pub returns-in_ok-given-in-Some-value-clause-found : goal.returns-in_ok-given-in-Some-value-clause-found
returns-in_ok-given-in-Some-value-clause-found c =
    joined_at c.args.words.now c.args.place c.in-Some.word.now c.in-Some-value.value.now c.in-Some-head_of.head.name (Some c.in_ok-given-in-Some-value.given)
    (sym c.in-Some.ensures.word) (search rules) (search rules)

pub returns-in_ok-given-in-None-clause-found : goal.returns-in_ok-given-in-None-clause-found
returns-in_ok-given-in-None-clause-found c =
    apart_at c.args.words.now c.args.place c.in-Some.word.now c.in-Some-at.value.now c.in-Some-head_of.head.name (Some c.in_ok-given-in-None.given)
    (sym c.in-Some.ensures.word) (search rules) (sym c.in-Some-at.ensures.word) (search rules)
