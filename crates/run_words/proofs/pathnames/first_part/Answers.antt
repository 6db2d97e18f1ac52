use Rattle.std.proofs.Common.{rules, tests, ◌∙◌, ◌∷◌, ◌+◌, take, sym, ap}
use Rattle.std.proofs.lemmas.List.{take_rest}
use Rattle.std.proofs.lemmas.Iterator.{YieldsList-from_slice}
use Rattle.std.proofs.lemmas.Iterator.Adapters.{position_from-zero}
use Rattle.std.proofs.lemmas.Iterator.Search.{position_from_yields_List}
use Rattle.run_words.specs.Pathnames.{Text, is_slash, parts}
use Rattle.run_words.proofs.PathnameLemmas.{cut_part, one_part}
use Rattle.run_words.proofs.pathnames.first_part.Goals as goal

pub returns-in-Some-clause-parts : goal.returns-in-Some-clause-parts
returns-in-Some-clause-parts c =
    let text = c.args.text.now in
    let found = position_from_yields_List is_slash _ _ _ c.position.ensures.ran (YieldsList-from_slice text cc) (λ x b q k. search (rules, tests)) ∙ position_from-zero is_slash text in
    cut_part text c.in-Some.place (sym found ∙ c.in-Some.is) ∙ ap (λ (rest : Text). take c.in-Some.place text ∷ parts rest) (sym (take_rest text (c.in-Some.place + 1)))

pub returns-in-None-clause-parts : goal.returns-in-None-clause-parts
returns-in-None-clause-parts c =
    let text = c.args.text.now in
    let found = position_from_yields_List is_slash _ _ _ c.position.ensures.ran (YieldsList-from_slice text cc) (λ x b q k. search (rules, tests)) ∙ position_from-zero is_slash text in
    one_part text 0 (sym found ∙ c.in-None.is)
