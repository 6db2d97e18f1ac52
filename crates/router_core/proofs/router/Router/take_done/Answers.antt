use Rattle.std.proofs.Common.{IfSome, sym, subst}
use Rattle.router_core.specs.Ending.{IsTakenOut}
use Rattle.router_core.specs.Fits.{RouterView, IsAnswer}
use Rattle.router_core.specs.Stands.{Stands, live_in}
use Rattle.router_core.specs.Ties.{Ties}
use Rattle.router_core.proofs.TakingLaws.{first_answer, first_fits, first_left, first_ties}
use Rattle.router_core.proofs.router.Router.take_done.Goals as goal

pub invariant_of-self : goal.invariant_of-self
invariant_of-self c =
    let s = c.self.inside in
    let old : RouterView = record { shape = s.shape; clock = s.clock; events = s.events; begun = s.begun; turns = s.turns; stages = s.stages.items } in
    first_fits old c.take_first.new.stages.items c.take_first.result c.self.invariant (c.take_first.ensures.first, c.take_first.ensures.same)

pub returns-clause-ties : goal.returns-clause-ties
returns-clause-ties c = λ told marks ties.
    let s = c.self.inside in
    let old : RouterView = record { shape = s.shape; clock = s.clock; events = s.events; begun = s.begun; turns = s.turns; stages = s.stages.items } in
    first_ties old c.take_first.new.stages.items c.take_first.result told marks c.self.invariant (c.take_first.ensures.first, c.take_first.ensures.same) (subst (λ (v : RouterView). Ties (Stands v) told marks) (sym c.self.view_is) ties)

pub returns-clause-left : goal.returns-clause-left
returns-clause-left c =
    subst (λ (v : RouterView). IfSome c.take_first.result (λ e. IsTakenOut e.operation (live_in v.stages) (live_in c.take_first.new.stages.items))) c.self.view_is
    (first_left c.self.inside.stages.items c.take_first.new.stages.items c.take_first.result (c.take_first.ensures.first, c.take_first.ensures.same))

pub returns-clause-answer : goal.returns-clause-answer
returns-clause-answer c =
    let s = c.self.inside in
    let old : RouterView = record { shape = s.shape; clock = s.clock; events = s.events; begun = s.begun; turns = s.turns; stages = s.stages.items } in
    subst (λ (v : RouterView). IfSome c.take_first.result (λ e. IsAnswer v.shape e.outcome)) c.self.view_is
    (first_answer old c.take_first.new.stages.items c.take_first.result c.self.invariant (c.take_first.ensures.first, c.take_first.ensures.same))
