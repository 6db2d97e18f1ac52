use Rattle.std.proofs.Common.{◌≡◌, ◌∙◌, List, ap, sym, Some}
use Rattle.front_end.specs.declared.tags.Tag.{Tag}
use Rattle.front_end.specs.Script.{tag_number}
use Rattle.front_end.specs.Session.{answer_at}
use Rattle.front_end.proofs.KeepLemmas.{number_positive}
use Rattle.front_end.proofs.session.Session.named.Goals as goal

pub returns-in-Some-clause-named : goal.returns-in-Some-clause-named
returns-in-Some-clause-named c = λ state k.
    let number = c.in-Some.number in
    let e : tag_number state.tags c.args.name.now ≡ Some number = ap (λ (t : List Tag). tag_number t c.args.name.now) (sym k.tags) ∙ sym c.number_of.ensures ∙ c.in-Some.is in
    rw e (c.answer_at.ensures.answer ∙ ap (λ xs. answer_at xs number) c.as_slice.ensures.value ∙ k.answers number (number_positive state.tags c.args.name.now number e))
