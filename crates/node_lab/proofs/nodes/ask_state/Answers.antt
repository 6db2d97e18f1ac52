use Rattle.std.proofs.Common.{ℕ, Some, true, sym, subst}
use Rattle.cell_model.specs.declared.ask.Ask.{Ask}
use Rattle.cell_model.specs.declared.ask.Reply.{Reply}
use Rattle.replica_core.specs.State.{IsAsked, ReplicaState, faults_of, fixed_of, told_of}
use Rattle.node_core.specs.Nodes.{NodeAsked}
use Rattle.node_core.specs.Ports as ports
use Rattle.node_lab.specs.declared.state.NodeState.{NodeState}
use Rattle.node_lab.specs.Nodes.{ports_of}
use Rattle.node_lab.specs.Calls.{AsksPorts}
use Rattle.node_lab.proofs.NodeAskLemmas.{node_asked}
use Rattle.node_lab.proofs.nodes.ask_state.Goals as goal

pub returns-in-Up-clause-asked : goal.returns-in-Up-clause-asked
returns-in-Up-clause-asked g c =
    let by : ReplicaState g.row.D.Denot → Ask → Reply → ReplicaState g.row.D.Denot → Type 0 = ports.IsAsked g.D.Disk.tells true told_of (fixed_of g.D.Disk.size) faults_of (IsAsked g.D.Disk.tells g.D.Disk.content g.D.Disk.size g.D.Disk.faults) in
    subst (λ (s : NodeState (ReplicaState g.row.D.Denot)). AsksPorts g.D.Disk.tells g.D.Disk.content g.D.Disk.size g.D.Disk.faults (ports_of (Some s)) c.args.partition c.args.ask c.ask.result c.ask.new.self.ports) (sym c.in-Up.is)
    (node_asked g.D.Disk.tells g.D.Disk.content g.D.Disk.size g.D.Disk.faults c.args.ask c.ask.result by (λ (a b : ReplicaState g.row.D.Denot) (asked : by a c.args.ask c.ask.result b). asked.own) c.in-Up.core c.ask.new.self c.args.partition
    (subst (λ (p : ℕ). NodeAsked by c.in-Up.core p c.args.ask c.ask.result c.ask.new.self) c.from.ensures c.ask.ensures.asked))
