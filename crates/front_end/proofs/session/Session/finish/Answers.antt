use Rattle.std.proofs.Common.{rules, ◌≡◌, ◌∙◌, ◌++◌, ◌∷◌, List, ℕ, Bool, true, false, not, sym, subst, Option, Some, length, refl, ap}
use Rattle.world_model.specs.declared.history.HistoryMark.{HistoryMark}
use Rattle.world_model.specs.declared.history.HistoryMark.TheVariants.{End}
use Rattle.front_end.specs.Session.{IsEnding, ties_of}
use Rattle.router_core.specs.declared.ending.Ended.{Ended}
use Rattle.router_core.specs.Fits.{RouterView}
use Rattle.router_core.specs.Stands.{end_marks, is_idle, live_in}
use Rattle.router_core.specs.Ending.{IsTakenOut}
use Rattle.front_end.proofs.AloneLemmas.{idle_alone, it_was_the_last, none_is_left, one_was_live}
use Rattle.front_end.proofs.LineStepLemmas.{busy_when}
use Rattle.front_end.proofs.session.Session.finish.Goals as goal

pub returns-in_ok-end-in-Some-clause-finished : goal.returns-in_ok-end-in-Some-clause-finished
returns-in_ok-end-in-Some-clause-finished g c =
    let self = c.args.self.now in
    let ended = c.in-Some.ended in
    let e = c.in_ok-finish.ensures in
    let f = c.in_ok-end-in-Some.ensures in
    let before = g.F.Fabric.told c.args.fabric.now in
    let now = g.F.Fabric.told c.finish.new.fabric in
    let left : IsTakenOut ended.operation (live_in self.router.stages) (live_in c.finish.new.self.stages) = rw c.in-Some.is at e.left in
    let idle : is_idle (live_in self.router.stages) ≡ false = one_was_live ended.operation (live_in self.router.stages) (live_in c.finish.new.self.stages) left in
    let last : ended.operation ≡ length self.tags = it_was_the_last ended.operation (length self.tags) (live_in self.router.stages) (live_in c.finish.new.self.stages) c.requires.ready.alone left in
    let now_idle : is_idle (live_in c.finish.new.self.stages) ≡ true = none_is_left ended.operation (length self.tags) (live_in self.router.stages) (live_in c.finish.new.self.stages) c.requires.ready.alone left in
    let ties : (marks : List HistoryMark) → ties_of self.router before marks → ties_of c.end.new.self.router now (End (length self.tags) ended.outcome ∷ marks) = λ marks t.
    subst (λ (r : RouterView). ties_of r now (End (length self.tags) ended.outcome ∷ marks)) (sym f.router)
    (subst (λ (n : ℕ). ties_of c.finish.new.self now (End n ended.outcome ∷ marks)) last
    (subst (λ (x : Option Ended). ties_of c.finish.new.self now (end_marks x ++ marks)) c.in-Some.is (e.ties marks t))) in
    record {
      outcome = Some ended.outcome;
      ends = subst (λ (b : Bool). IsEnding (not b) (Some ended.outcome)) (sym idle) (ended.outcome, refl);
      becomes = λ state k.
          f.state (record state { busy = false }) (k.some (busy_when (is_idle (live_in self.router.stages)) state.busy k.busy idle)) (record {
            tags = k.tags;
            busy = now_idle;
            some = λ b. absurd cc;
            lines = k.lines;
            bad = k.bad;
            settled = k.settled;
            later = k.later;
            count = k.count;
            answers = k.answers;
          });
      ties = ties;
      told = f.told;
    }

pub end-requires-clause-last : goal.end-requires-clause-last
end-requires-clause-last g c =
    let left : IsTakenOut c.in-Some.ended.operation (live_in c.args.self.now.router.stages) (live_in c.finish.new.self.stages) = rw c.in-Some.is at c.in_ok-finish.ensures.left in
    it_was_the_last c.in-Some.ended.operation (length c.args.self.now.tags) (live_in c.args.self.now.router.stages) (live_in c.finish.new.self.stages) c.requires.ready.alone left

pub end-requires-clause-ready : goal.end-requires-clause-ready
end-requires-clause-ready g c =
    let left : IsTakenOut c.in-Some.ended.operation (live_in c.args.self.now.router.stages) (live_in c.finish.new.self.stages) = rw c.in-Some.is at c.in_ok-finish.ensures.left in
    record {
      begun = search rules;
      limit = search rules;
      few = search rules;
      simple = search rules;
      alone = idle_alone (length c.args.self.now.tags) (live_in c.finish.new.self.stages)
          (none_is_left c.in-Some.ended.operation (length c.args.self.now.tags) (live_in c.args.self.now.router.stages) (live_in c.finish.new.self.stages) c.requires.ready.alone left);
    }

pub returns-in_ok-end-in-Some-clause-idle : goal.returns-in_ok-end-in-Some-clause-idle
returns-in_ok-end-in-Some-clause-idle g c =
    let left : IsTakenOut c.in-Some.ended.operation (live_in c.args.self.now.router.stages) (live_in c.finish.new.self.stages) = rw c.in-Some.is at c.in_ok-finish.ensures.left in
    ap (λ (r : RouterView). is_idle (live_in r.stages)) c.in_ok-end-in-Some.ensures.router
    ∙ none_is_left c.in-Some.ended.operation (length c.args.self.now.tags) (live_in c.args.self.now.router.stages) (live_in c.finish.new.self.stages) c.requires.ready.alone left
