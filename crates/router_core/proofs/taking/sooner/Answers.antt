use Rattle.std.proofs.Common.{◌++◌, [], ◌∷◌, Option, Some, sym, ◌∙◌, subst}
use Rattle.router_core.specs.declared.router.Stage.{Stage}
use Rattle.router_core.specs.declared.taking.Done.{Done}
use Rattle.router_core.specs.Ending.{IsFirst}
use Rattle.router_core.proofs.TakingLaws.{first_found, first_kept, first_passed, under_way_sooner}
use Rattle.router_core.proofs.taking.sooner.Goals as goal

pub returns-in-UnderWay : goal.returns-in-UnderWay
returns-in-UnderWay c = λ stages place first. under_way_sooner c.args.first stages c.args.stage.now c.in-UnderWay.field-0 c.in-UnderWay.is first

pub returns-in-None : goal.returns-in-None
returns-in-None c = λ stages place first.
    let done : Done = record { place = c.args.place; operation = c.in-Over.operation; turn = c.in-Over.turn } in
    subst (λ (s : Stage). IsFirst (Some done) (stages ++ s ∷ [])) (sym c.in-Over.is)
    (first_found stages done c.in-Over.outcome place (subst (λ (o : Option Done). IsFirst o stages) c.in-None.is first))

pub returns-then-goes_first : goal.returns-then-goes_first
returns-then-goes_first c = λ stages place first.
    let new : Done = record { place = c.args.place; operation = c.in-Over.operation; turn = c.in-Over.turn } in
    subst (λ (s : Stage). IsFirst (Some c.in-Some.first) (stages ++ s ∷ [])) (sym c.in-Over.is)
    (first_kept stages c.in-Some.first new c.in-Over.outcome (sym c.goes_first.ensures ∙ c.if-goes_first.true) (subst (λ (o : Option Done). IsFirst o stages) c.in-Some.is first))

pub returns-else-goes_first : goal.returns-else-goes_first
returns-else-goes_first c = λ stages place first.
    let new : Done = record { place = c.args.place; operation = c.in-Over.operation; turn = c.in-Over.turn } in
    subst (λ (s : Stage). IsFirst (Some new) (stages ++ s ∷ [])) (sym c.in-Over.is)
    (first_passed stages c.in-Some.first new c.in-Over.outcome place (sym c.goes_first.ensures ∙ c.if-goes_first.false) (subst (λ (o : Option Done). IsFirst o stages) c.in-Some.is first))
