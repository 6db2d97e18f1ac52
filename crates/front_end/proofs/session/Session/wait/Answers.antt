use Rattle.std.proofs.Common.{◌≡◌, ◌∙◌, ◌++◌, ◌∷◌, [], List, ℕ, ap, sym, subst, None, Some}
use Rattle.front_end.specs.declared.history.Entry.{Entry}
use Rattle.front_end.specs.declared.history.Entry.TheVariants.{Mark}
use Rattle.world_model.specs.declared.history.HistoryMark.TheVariants.{Wait}
use Rattle.front_end.specs.declared.tags.Tag.{Tag}
use Rattle.front_end.specs.declared.script.Command.TheVariants as command
use Rattle.front_end.specs.Script.{command_of}
use Rattle.front_end.specs.Session.{Keeps, Adds, waited_by, finished_by, ties_of}
use Rattle.front_end.proofs.KeepLemmas.{keeps_wait}
use Rattle.front_end.proofs.CarryLemmas.{wait_whole}
use Rattle.front_end.proofs.LineStepLemmas.{finishes_state}
use Rattle.front_end.proofs.session.Session.wait.Goals as goal

pub returns-clause-carried : goal.returns-clause-carried
returns-clause-carried g c = λ line words asks lines state first k stands number.
    let self = c.args.self.now in
    let out = c.args.out.now.items in
    let pushed : c.push.new.self ≡ self.settled ++ Mark (Wait None) ∷ [] = c.in_ok-push.ensures.ok in
    let kept : Keeps (record self { settled = c.push.new.self }) (waited_by state) = subst (λ (x : List Entry). Keeps (record self { settled = x }) (waited_by state)) (sym pushed) (keeps_wait self state k) in
    let asks' : command_of state.tags line ≡ Some command.Wait = ap (λ (t : List Tag). command_of t line) (sym k.tags) ∙ asks in
    let tie = ties_of self.router (g.F.Fabric.told c.args.fabric.now) in
    let tie' = ties_of c.finish.new.self.router (g.F.Fabric.told c.finish.new.fabric) in
    let f = c.in_ok-finish.ensures.finished in
    let h = finishes_state (record self { settled = c.push.new.self }) c.finish.new.self (waited_by state) tie tie' out c.finish.new.out.items f kept in
    let done = wait_whole self.router.shape lines line state tie tie' first words f.outcome out asks' h.ends k.some h.ties stands in
    record {
      state = finished_by (waited_by state) f.outcome;
      keeps = h.keeps;
      stands = done.0;
      adds = subst (λ (x : List ℕ). Adds out x state (finished_by (waited_by state) f.outcome)) (sym h.told) done.1;
    }
