use Rattle.std.proofs.Common.{◌==◌, ◌∙◌, ℕ, List, sym, ap, subst, arith}
use Rattle.std.specs.Map.{keys_of}
use Rattle.std.proofs.lemmas.Map.{keys-set_value}
use Rattle.node_core.specs.Nodes.{IsNode, IsIndex}
use Rattle.node_core.specs.Ports.{place_in}
use Rattle.node_core.proofs.AskLemmas.{asked_there, asked_nowhere}
use Rattle.node_core.proofs.PortLemmas.{IsAt, stands_at, stands_nowhere, found_ready, kept_ports}
use Rattle.node_core.proofs.ReplyLemmas.{reply_spelled}
use Rattle.node_core.proofs.node.NodeCore.ask.Goals as goal
use Rattle.node_core.proofs.node.NodeCore.ask.Goals.{In-Some}

stands : (g : _) (c : In-Some g) → IsAt c.self.inside.ports.items c.args.partition c.in-Some.place
stands g c = stands_at c.self.inside.ports.items c.args.partition c.in-Some.place
    (ap (λ n. place_in (keys_of n.ports) c.args.partition) c.self.view_is ∙ sym c.place_of.ensures ∙ c.in-Some.is)

pub index_mut-requires : goal.index_mut-requires
index_mut-requires g c = omega (arith, c.self.inside.ports.ok.0, (stands g (goal.at.index_mut-requires g c).In-Some).within)

pub ask-requires-clause-ready : goal.ask-requires-clause-ready
ask-requires-clause-ready g c = found_ready g.P.ReplicaPort.ready c.self.inside.ports.items c.args.partition c.index_mut.result.now.1 c.self.invariant.good.each
    ((stands g (goal.at.ask-requires-clause-ready g c).In-Some).found c.index_mut.result.now c.index_mut.ensures.value)

pub invariant_of-self : goal.invariant_of-self
invariant_of-self g c =
    let ports = c.self.inside.ports.items in
    let p = c.args.partition in
    let w = c.ask.new.self in
    let same = (stands g (goal.at.invariant_of-self g c).In-Some).set c.index_mut.result.now w c.index_mut.ensures.value in
    let keys = keys-set_value (λ k. k == p) ports w in
    subst (λ xs. IsNode g.P.ReplicaPort.ready xs c.self.inside.places.entries) (sym same)
    (record {
      good = kept_ports g.P.ReplicaPort.ready ports p w c.self.invariant.good c.ask.ensures.ready;
      index = subst (λ (ks : List ℕ). IsIndex ks c.self.inside.places.entries) (sym keys) c.self.invariant.index;
    })

pub returns-in-Some-clause-asked : goal.returns-in-Some-clause-asked
returns-in-Some-clause-asked g c =
    let ports = c.self.inside.ports.items in
    let p = c.args.partition in
    let at = stands g (goal.at.returns-in-Some-clause-asked g c).In-Some in
    let same = at.set c.index_mut.result.now c.ask.new.self c.index_mut.ensures.value in
    let found = at.found c.index_mut.result.now c.index_mut.ensures.value in
    asked_there _ c.args.self.now c.self.inside.node ports p c.args.ask c.ask.result c.index_mut.result.now.1 c.ask.new.self _ c.self.view_is found same
    (record { kind = c.ask.ensures.kind; step = c.ask.ensures.step; range = c.ask.ensures.range; refusal = c.ask.ensures.refusal; fault = c.ask.ensures.fault; later = c.ask.ensures.later; calm = c.ask.ensures.calm; kept = c.ask.ensures.kept; own = c.ask.ensures.own })

pub returns-in-None-clause-asked : goal.returns-in-None-clause-asked
returns-in-None-clause-asked g c = asked_nowhere _ c.args.self.now c.args.partition c.args.ask (stands_nowhere c.args.self.now.ports c.args.partition (sym c.place_of.ensures ∙ c.in-None.is))

pub returns-in-Some-clause-spelled : goal.returns-in-Some-clause-spelled
returns-in-Some-clause-spelled g c = λ requested. reply_spelled c.args.ask c.ask.result requested c.ask.ensures.kind c.ask.ensures.range
