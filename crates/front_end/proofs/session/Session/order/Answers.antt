use Rattle.std.proofs.Common.{◌∙◌, ◌++◌, ◌∷◌, ap, sym, subst, refl}
use Rattle.router_core.specs.Fits.{RouterView}
use Rattle.router_core.specs.Stands.{is_idle, live_in}
use Rattle.world_model.specs.declared.history.HistoryMark.TheVariants.{Ordered}
use Rattle.front_end.specs.Session.{StandsAt, ties_of}
use Rattle.front_end.proofs.KeepLemmas.{keeps_router, mark_not_failed, on_ok_both, on_ok_map}
use Rattle.front_end.proofs.LineStepLemmas.{failed_on, ordered_on}
use Rattle.front_end.proofs.session.Session.order.Goals as goal

pub returns-in-Some-clause-carried : goal.returns-in-Some-clause-carried
returns-in-Some-clause-carried g c =
    let self = c.args.self.now in
    let tie = ties_of self.router (g.F.Fabric.told c.args.fabric.now) in
    let now = g.F.Fabric.told c.order.new.fabric in
    let new = c.add.new.self in
    let e = c.in_ok-told.ensures in
    let ties = rw c.in-Some.is at e.ties in
    on_ok_both c.add.result
    (λ becomes written. λ line words asks lines state first k stands number.
    ordered_on self.router.shape line lines state new tie (ties_of new.router now) first words self.tags c.args.order c.in-Some.told c.args.out.now.items c.add.new.out.items k.tags asks c.requires.there stands
    (λ marks tied. subst (λ (r : RouterView). ties_of r now (Ordered c.args.order c.in-Some.told ∷ marks)) (sym c.add.ensures.router) (ties marks tied))
    (becomes state (keeps_router self c.order.new.self state (ap is_idle e.live) k)) written)
    c.add.ensures.state c.add.ensures.told

pub returns-in-None-clause-carried : goal.returns-in-None-clause-carried
returns-in-None-clause-carried g c =
    let self = c.args.self.now in
    let before = g.F.Fabric.told c.args.fabric.now in
    let now = g.F.Fabric.told c.order.new.fabric in
    let new = c.add-in-None.new.self in
    let e = c.add-in-None.ensures in
    let failed = rw c.in-None.is at c.in_ok-told.ensures.failed in
    let same = failed refl in
    on_ok_both c.add-in-None.result
    (λ becomes written. λ line words asks lines state first k stands number.
    let tied = subst (λ t. StandsAt self.router.shape lines state (ties_of self.router t) first words) (sym same.1) stands in
    let stands' = subst (λ (r : RouterView). StandsAt self.router.shape lines state (ties_of r now) first words) (sym same.0 ∙ sym e.router) tied in
    failed_on self.router.shape line lines state new (ties_of new.router now) first words self.tags c.args.order c.args.out.now.items c.add-in-None.new.out.items k.tags asks c.requires.there stands'
    (becomes state (keeps_router self c.order.new.self state (ap (λ (r : RouterView). is_idle (live_in r.stages)) same.0) k)) written)
    e.state e.told

pub returns-in-Some-clause-failed : goal.returns-in-Some-clause-failed
returns-in-Some-clause-failed g c =
    let self = c.args.self.now in
    on_ok_map c.add.result (λ settled. λ failed. absurd (mark_not_failed (self.settled ++ self.later) (Ordered c.args.order c.in-Some.told) c.args.order (sym settled ∙ failed))) c.add.ensures.settled

pub returns-in-None-clause-failed : goal.returns-in-None-clause-failed
returns-in-None-clause-failed g c =
    let cause = rw c.in-None.is at c.in_ok-told.ensures.cause in
    on_ok_map c.add-in-None.result (λ settled. λ failed. cause refl) c.add-in-None.ensures.settled
