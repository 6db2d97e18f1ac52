use Rattle.std.proofs.Common.{◌≡◌, ◌∙◌, ◌++◌, ap, sym, subst, false, Option}
use Rattle.router_core.specs.Fits.{RouterView}
use Rattle.front_end.specs.declared.script.Command.{Command}
use Rattle.front_end.specs.Past.{is_to_node, IsBad}
use Rattle.front_end.specs.Session.{StandsAt, ties_of}
use Rattle.front_end.proofs.KeepLemmas.{bad_not_failed, on_ok_both, on_ok_map}
use Rattle.front_end.proofs.LineStepLemmas.{refused_on}
use Rattle.front_end.proofs.session.Session.order_or_refuse.Goals as goal

pub returns-then-not-is_to_node-clause-carried : goal.returns-then-not-is_to_node-clause-carried
returns-then-not-is_to_node-clause-carried g c =
    let self = c.args.self.now in
    let shape = self.router.shape in
    let told = g.F.Fabric.told c.args.fabric.now in
    let new = c.refuse.new.self in
    let none : is_to_node shape.nodes c.args.order ≡ false = ap (λ n. is_to_node n c.args.order) (sym c.nodes.ensures) ∙ sym c.is_to_node.ensures ∙ c.if-not-is_to_node.true in
    on_ok_both c.refuse.result
    (λ becomes written. λ line words asks lines state first k stands number.
    let stands' = subst (λ (r : RouterView). StandsAt shape lines state (ties_of r told) first words) (sym c.refuse.ensures.router) stands in
    refused_on shape line lines state new (ties_of new.router told) first words self.tags self.lines c.args.out.now.items c.refuse.new.out.items k.tags
    (subst (λ (x : Option Command). IsBad shape.nodes x) (sym asks) none) k.lines number stands' (becomes state k) written)
    c.refuse.ensures.state c.refuse.ensures.told

pub returns-then-not-is_to_node-clause-failed : goal.returns-then-not-is_to_node-clause-failed
returns-then-not-is_to_node-clause-failed g c =
    let self = c.args.self.now in
    on_ok_map c.refuse.result (λ settled. λ failed. absurd (bad_not_failed (self.settled ++ self.later) self.lines c.args.order (sym settled ∙ failed))) c.refuse.ensures.settled
