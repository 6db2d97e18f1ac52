use Rattle.std.proofs.Common.{◌≡◌, ◌∙◌, ◌++◌, ◌+◌, List, Option, ap, sym, subst, None, Some, length, arith, inl, inr, ◌∷◌, []}
use Rattle.world_model.specs.declared.order.Order.{Order}
use Rattle.front_end.specs.declared.history.Entry.TheVariants.{Failed}
use Rattle.front_end.specs.declared.tags.Tag.{Tag}
use Rattle.front_end.specs.declared.script.Command.{Command}
use Rattle.front_end.specs.declared.script.Command.TheVariants as command
use Rattle.router_core.specs.Fits.{RouterView}
use Rattle.front_end.specs.Past.{IsBad}
use Rattle.front_end.specs.Script.{command_of}
use Rattle.front_end.specs.Session.{StandsAt, ties_of}
use Rattle.front_end.proofs.KeepLemmas.{keeps_count}
use Rattle.front_end.proofs.CarryLemmas.{adds_nothing, count_line, skip_whole}
use Rattle.front_end.proofs.LineStepLemmas.{refused_on}
use Rattle.front_end.proofs.session.Session.carry_out.Goals as goal

pub returns-in-Some-End-clause-carried : goal.returns-in-Some-End-clause-carried
returns-in-Some-End-clause-carried g c = λ lines state first k stands number.
    let self = c.args.self.now in
    let shape = self.router.shape in
    let tie = ties_of self.router (g.F.Fabric.told c.args.fabric.now) in
    let counted : state.lines + 1 ≡ 1 + length lines = omega (arith, number) in
    let k1 = keeps_count self state k in
    let s1 = count_line shape lines state tie first (g.U.Random.ahead c.args.random.now) (state.lines + 1) stands in
    let read = c.in_ok-read_line.ensures.read in
    let asks : command_of state.tags c.args.line.now ≡ Some command.End = ap (λ (t : List Tag). command_of t c.args.line.now) (sym k.tags) ∙ (let e : command_of self.tags c.args.line.now ≡ Some command.End = cc in e) in
    record { state = record state { lines = state.lines + 1 }; keeps = k1; stands = skip_whole shape lines c.args.line.now (record state { lines = state.lines + 1 }) tie first _ (inr asks) s1; adds = adds_nothing c.args.out.now.items state }

pub returns-in-Some-Skip-clause-carried : goal.returns-in-Some-Skip-clause-carried
returns-in-Some-Skip-clause-carried g c = λ lines state first k stands number.
    let self = c.args.self.now in
    let shape = self.router.shape in
    let tie = ties_of self.router (g.F.Fabric.told c.args.fabric.now) in
    let counted : state.lines + 1 ≡ 1 + length lines = omega (arith, number) in
    let k1 = keeps_count self state k in
    let s1 = count_line shape lines state tie first (g.U.Random.ahead c.args.random.now) (state.lines + 1) stands in
    let read = c.in_ok-read_line.ensures.read in
    let asks : command_of state.tags c.args.line.now ≡ Some command.Skip = ap (λ (t : List Tag). command_of t c.args.line.now) (sym k.tags) ∙ (let e : command_of self.tags c.args.line.now ≡ Some command.Skip = cc in e) in
    record { state = record state { lines = state.lines + 1 }; keeps = k1; stands = skip_whole shape lines c.args.line.now (record state { lines = state.lines + 1 }) tie first _ (inl asks) s1; adds = adds_nothing c.args.out.now.items state }

pub returns-in_ok-refuse-in-None-clause-carried : goal.returns-in_ok-refuse-in-None-clause-carried
returns-in_ok-refuse-in-None-clause-carried g c = λ lines state first k stands number.
    let self = c.args.self.now in
    let shape = self.router.shape in
    let told = g.F.Fabric.told c.args.fabric.now in
    let line = c.args.line.now in
    let words = g.U.Random.ahead c.args.random.now in
    let counted : state.lines + 1 ≡ 1 + length lines = omega (arith, number) in
    let now = record state { lines = state.lines + 1 } in
    let s1 = count_line shape lines state (ties_of self.router told) first words (state.lines + 1) stands in
    let read = c.in_ok-read_line.ensures.read in
    let asks : command_of self.tags line ≡ None = cc in
    let e = c.in_ok-refuse-in-None.ensures in
    let stands' = subst (λ (r : RouterView). StandsAt shape lines now (ties_of r told) first words) (sym e.router) s1 in
    let h = refused_on shape line lines now c.refuse.new.self (ties_of c.refuse.new.self.router told) first words self.tags (self.lines + 1) c.args.out.now.items c.refuse.new.out.items
    k.tags (subst (λ (x : Option Command). IsBad shape.nodes x) (sym asks) tt) (ap (λ m. m + 1) k.lines) counted stands' (e.state now (keeps_count self state k)) e.told in
    record { state = h.state; keeps = h.keeps; stands = h.stands; adds = h.adds }

pub returns-in_ok-put-in-Some-Put-clause-carried : goal.returns-in_ok-put-in-Some-Put-clause-carried
returns-in_ok-put-in-Some-Put-clause-carried g c = λ lines state first k stands number.
    let self = c.args.self.now in
    let shape = self.router.shape in
    let tie = ties_of self.router (g.F.Fabric.told c.args.fabric.now) in
    let counted : state.lines + 1 ≡ 1 + length lines = omega (arith, number) in
    let k1 = keeps_count self state k in
    let s1 = count_line shape lines state tie first (g.U.Random.ahead c.args.random.now) (state.lines + 1) stands in
    let read = c.in_ok-read_line.ensures.read in
    let asks : command_of self.tags c.args.line.now ≡ Some (command.Put c.in-Some-Put.tag c.in-Some-Put.body) = cc in
    let h = c.in_ok-put-in-Some-Put.ensures.carried c.args.line.now asks lines (record state { lines = state.lines + 1 }) first k1 s1 counted in
    record { state = h.state; keeps = h.keeps; stands = h.stands; adds = h.adds }

pub returns-in_ok-get-in-Some-Get-clause-carried : goal.returns-in_ok-get-in-Some-Get-clause-carried
returns-in_ok-get-in-Some-Get-clause-carried g c = λ lines state first k stands number.
    let self = c.args.self.now in
    let shape = self.router.shape in
    let tie = ties_of self.router (g.F.Fabric.told c.args.fabric.now) in
    let counted : state.lines + 1 ≡ 1 + length lines = omega (arith, number) in
    let k1 = keeps_count self state k in
    let s1 = count_line shape lines state tie first (g.U.Random.ahead c.args.random.now) (state.lines + 1) stands in
    let read = c.in_ok-read_line.ensures.read in
    let asks : command_of self.tags c.args.line.now ≡ Some (command.Get c.in-Some-Get.tag c.in-Some-Get.of) = cc in
    let h = c.in_ok-get-in-Some-Get.ensures.carried c.args.line.now _ asks lines (record state { lines = state.lines + 1 }) first k1 s1 counted in
    record { state = h.state; keeps = h.keeps; stands = h.stands; adds = h.adds }

pub returns-in_ok-delete-in-Some-Delete-clause-carried : goal.returns-in_ok-delete-in-Some-Delete-clause-carried
returns-in_ok-delete-in-Some-Delete-clause-carried g c = λ lines state first k stands number.
    let self = c.args.self.now in
    let shape = self.router.shape in
    let tie = ties_of self.router (g.F.Fabric.told c.args.fabric.now) in
    let counted : state.lines + 1 ≡ 1 + length lines = omega (arith, number) in
    let k1 = keeps_count self state k in
    let s1 = count_line shape lines state tie first (g.U.Random.ahead c.args.random.now) (state.lines + 1) stands in
    let read = c.in_ok-read_line.ensures.read in
    let asks : command_of self.tags c.args.line.now ≡ Some (command.Delete c.in-Some-Delete.tag c.in-Some-Delete.of) = cc in
    let h = c.in_ok-delete-in-Some-Delete.ensures.carried c.args.line.now _ asks lines (record state { lines = state.lines + 1 }) first k1 s1 counted in
    record { state = h.state; keeps = h.keeps; stands = h.stands; adds = h.adds }

pub returns-in_ok-wait-in-Some-Wait-clause-carried : goal.returns-in_ok-wait-in-Some-Wait-clause-carried
returns-in_ok-wait-in-Some-Wait-clause-carried g c = λ lines state first k stands number.
    let self = c.args.self.now in
    let shape = self.router.shape in
    let tie = ties_of self.router (g.F.Fabric.told c.args.fabric.now) in
    let counted : state.lines + 1 ≡ 1 + length lines = omega (arith, number) in
    let k1 = keeps_count self state k in
    let s1 = count_line shape lines state tie first (g.U.Random.ahead c.args.random.now) (state.lines + 1) stands in
    let read = c.in_ok-read_line.ensures.read in
    let asks : command_of self.tags c.args.line.now ≡ Some command.Wait = cc in
    let h = c.in_ok-wait-in-Some-Wait.ensures.carried c.args.line.now _ asks lines (record state { lines = state.lines + 1 }) first k1 s1 counted in
    record { state = h.state; keeps = h.keeps; stands = h.stands; adds = h.adds }

pub returns-in_ok-order_or_refuse-in-Some-Order-clause-carried : goal.returns-in_ok-order_or_refuse-in-Some-Order-clause-carried
returns-in_ok-order_or_refuse-in-Some-Order-clause-carried g c = λ lines state first k stands number.
    let self = c.args.self.now in
    let shape = self.router.shape in
    let tie = ties_of self.router (g.F.Fabric.told c.args.fabric.now) in
    let counted : state.lines + 1 ≡ 1 + length lines = omega (arith, number) in
    let k1 = keeps_count self state k in
    let s1 = count_line shape lines state tie first (g.U.Random.ahead c.args.random.now) (state.lines + 1) stands in
    let read = c.in_ok-read_line.ensures.read in
    let asks : command_of self.tags c.args.line.now ≡ Some (command.Order c.in-Some-Order.order) = cc in
    let h = c.in_ok-order_or_refuse-in-Some-Order.ensures.carried c.args.line.now _ asks lines (record state { lines = state.lines + 1 }) first k1 s1 counted in
    record { state = h.state; keeps = h.keeps; stands = h.stands; adds = h.adds }

pub returns-in-Some-End-clause-failed : goal.returns-in-Some-End-clause-failed
returns-in-Some-End-clause-failed g c = λ order asks failed.
    let read = c.in_ok-read_line.ensures.read in
    let is : command_of c.args.self.now.tags c.args.line.now ≡ Some command.End = cc in
    let clash : Some command.End ≡ Some (command.Order order) = sym is ∙ asks in
    absurd cc

pub returns-in-Some-Skip-clause-failed : goal.returns-in-Some-Skip-clause-failed
returns-in-Some-Skip-clause-failed g c = λ order asks failed.
    let read = c.in_ok-read_line.ensures.read in
    let is : command_of c.args.self.now.tags c.args.line.now ≡ Some command.Skip = cc in
    let clash : Some command.Skip ≡ Some (command.Order order) = sym is ∙ asks in
    absurd cc

pub returns-in_ok-refuse-in-None-clause-failed : goal.returns-in_ok-refuse-in-None-clause-failed
returns-in_ok-refuse-in-None-clause-failed g c = λ order asks failed.
    let read = c.in_ok-read_line.ensures.read in
    let is : command_of c.args.self.now.tags c.args.line.now ≡ None = cc in
    let clash : None ≡ Some (command.Order order) = sym is ∙ asks in
    absurd cc

pub returns-in_ok-put-in-Some-Put-clause-failed : goal.returns-in_ok-put-in-Some-Put-clause-failed
returns-in_ok-put-in-Some-Put-clause-failed g c = λ order asks failed.
    let read = c.in_ok-read_line.ensures.read in
    let is : command_of c.args.self.now.tags c.args.line.now ≡ Some (command.Put c.in-Some-Put.tag c.in-Some-Put.body) = cc in
    let clash : Some (command.Put c.in-Some-Put.tag c.in-Some-Put.body) ≡ Some (command.Order order) = sym is ∙ asks in
    absurd cc

pub returns-in_ok-get-in-Some-Get-clause-failed : goal.returns-in_ok-get-in-Some-Get-clause-failed
returns-in_ok-get-in-Some-Get-clause-failed g c = λ order asks failed.
    let read = c.in_ok-read_line.ensures.read in
    let is : command_of c.args.self.now.tags c.args.line.now ≡ Some (command.Get c.in-Some-Get.tag c.in-Some-Get.of) = cc in
    let clash : Some (command.Get c.in-Some-Get.tag c.in-Some-Get.of) ≡ Some (command.Order order) = sym is ∙ asks in
    absurd cc

pub returns-in_ok-delete-in-Some-Delete-clause-failed : goal.returns-in_ok-delete-in-Some-Delete-clause-failed
returns-in_ok-delete-in-Some-Delete-clause-failed g c = λ order asks failed.
    let read = c.in_ok-read_line.ensures.read in
    let is : command_of c.args.self.now.tags c.args.line.now ≡ Some (command.Delete c.in-Some-Delete.tag c.in-Some-Delete.of) = cc in
    let clash : Some (command.Delete c.in-Some-Delete.tag c.in-Some-Delete.of) ≡ Some (command.Order order) = sym is ∙ asks in
    absurd cc

pub returns-in_ok-wait-in-Some-Wait-clause-failed : goal.returns-in_ok-wait-in-Some-Wait-clause-failed
returns-in_ok-wait-in-Some-Wait-clause-failed g c = λ order asks failed.
    let read = c.in_ok-read_line.ensures.read in
    let is : command_of c.args.self.now.tags c.args.line.now ≡ Some command.Wait = cc in
    let clash : Some command.Wait ≡ Some (command.Order order) = sym is ∙ asks in
    absurd cc

pub returns-in_ok-order_or_refuse-in-Some-Order-clause-failed : goal.returns-in_ok-order_or_refuse-in-Some-Order-clause-failed
returns-in_ok-order_or_refuse-in-Some-Order-clause-failed g c = λ order asks failed.
    let self = c.args.self.now in
    let read = c.in_ok-read_line.ensures.read in
    let is : command_of self.tags c.args.line.now ≡ Some (command.Order c.in-Some-Order.order) = cc in
    let both : Some (command.Order c.in-Some-Order.order) ≡ Some (command.Order order) = sym is ∙ asks in
    let same : c.in-Some-Order.order ≡ order = cc in
    c.in_ok-order_or_refuse-in-Some-Order.ensures.failed
    (subst (λ (o : Order). c.order_or_refuse.new.self.settled ≡ (self.settled ++ self.later) ++ Failed o ∷ []) (sym same) failed)
