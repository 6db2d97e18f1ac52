use Rattle.node_lab.specs.Nodes.{replica_at}
use Rattle.node_lab.proofs.NodeAskLemmas.{asked_none, asked_some, asked_up, fault_here, place_answers, places_asked}
use Rattle.node_lab.proofs.nodes.LabNodes.ask.Goals as goal

pub returns-clause-holds : goal.returns-clause-holds
returns-clause-holds g c = λ t shape folder places holds.
    places_asked g.B.Disk.Disk.tells g.B.Disk.Disk.content g.B.Disk.Disk.size g.B.Disk.Disk.faults c.args.ask c.ask_replica.result g.B.Bays.home c.args.self.now c.ask_replica.new.self c.args.node c.args.partition c.ask_replica.ensures.asked t shape folder places holds

pub returns-clause-answers : goal.returns-clause-answers
returns-clause-answers g c = λ t shape folder places holds up.
    place_answers g.B.Disk.Disk.tells g.B.Disk.Disk.content g.B.Disk.Disk.size g.B.Disk.Disk.faults c.args.ask c.ask_replica.result g.B.Bays.home c.args.self.now c.ask_replica.new.self c.args.node c.args.partition c.ask_replica.ensures.asked t shape folder places holds up

pub returns-clause-fault : goal.returns-clause-fault
returns-clause-fault g c = λ fault t. fault_here g.B.Disk.Disk.tells g.B.Disk.Disk.content g.B.Disk.Disk.size g.B.Disk.Disk.faults c.args.ask c.ask_replica.result _ _ c.ask_replica.ensures.asked.here fault t

pub returns-clause-none : goal.returns-clause-none
returns-clause-none g c = λ none. asked_none g.B.Disk.Disk.tells g.B.Disk.Disk.content g.B.Disk.Disk.size g.B.Disk.Disk.faults c.args.ask c.ask_replica.result (replica_at c.args.self.now c.args.node c.args.partition) (replica_at c.ask_replica.new.self c.args.node c.args.partition) c.ask_replica.ensures.asked.here none

pub returns-clause-some : goal.returns-clause-some
returns-clause-some g c = λ some. asked_some g.B.Disk.Disk.tells g.B.Disk.Disk.content g.B.Disk.Disk.size g.B.Disk.Disk.faults c.args.ask c.ask_replica.result (replica_at c.args.self.now c.args.node c.args.partition) (replica_at c.ask_replica.new.self c.args.node c.args.partition) c.ask_replica.ensures.asked.here some

pub returns-clause-up : goal.returns-clause-up
returns-clause-up g c = asked_up g.B.Disk.Disk.tells g.B.Disk.Disk.content g.B.Disk.Disk.size g.B.Disk.Disk.faults c.args.ask c.ask_replica.result c.args.self.now c.ask_replica.new.self c.args.node c.args.partition c.ask_replica.ensures.asked
