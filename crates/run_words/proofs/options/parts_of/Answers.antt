use Rattle.std.proofs.Common.{rules, tests, ◌∙◌, ◌+◌, Some, sym, ap}
use Rattle.std.proofs.lemmas.List.{take_rest}
use Rattle.std.proofs.lemmas.Iterator.{YieldsList-from_slice}
use Rattle.std.proofs.lemmas.Iterator.Adapters.{position_from-zero}
use Rattle.std.proofs.lemmas.Iterator.Search.{position_from_yields_List}
use Rattle.run_words.specs.Reading.{is_equals}
use Rattle.run_words.proofs.WordLemmas.{cut_first, uncut}
use Rattle.run_words.proofs.options.parts_of.Goals as goal

pub returns-in-Some-clause-name : goal.returns-in-Some-clause-name
returns-in-Some-clause-name c =
    let body = c.args.body.now in
    let found = position_from_yields_List is_equals _ _ _ c.position.ensures.ran (YieldsList-from_slice body cc) (λ x b q k. search (rules, tests)) ∙ position_from-zero is_equals body in
    (cut_first body c.in-Some.place (sym found ∙ c.in-Some.is)).0

pub returns-in-Some-clause-value : goal.returns-in-Some-clause-value
returns-in-Some-clause-value c =
    let body = c.args.body.now in
    let found = position_from_yields_List is_equals _ _ _ c.position.ensures.ran (YieldsList-from_slice body cc) (λ x b q k. search (rules, tests)) ∙ position_from-zero is_equals body in
    ap Some (take_rest body (c.in-Some.place + 1)) ∙ (cut_first body c.in-Some.place (sym found ∙ c.in-Some.is)).1

pub returns-in-None-clause-name : goal.returns-in-None-clause-name
returns-in-None-clause-name c =
    let body = c.args.body.now in
    let found = position_from_yields_List is_equals _ _ _ c.position.ensures.ran (YieldsList-from_slice body cc) (λ x b q k. search (rules, tests)) ∙ position_from-zero is_equals body in
    (uncut body 0 (sym found ∙ c.in-None.is)).0

pub returns-in-None-clause-value : goal.returns-in-None-clause-value
returns-in-None-clause-value c =
    let body = c.args.body.now in
    let found = position_from_yields_List is_equals _ _ _ c.position.ensures.ran (YieldsList-from_slice body cc) (λ x b q k. search (rules, tests)) ∙ position_from-zero is_equals body in
    (uncut body 0 (sym found ∙ c.in-None.is)).1
