use Rattle.mem_fabric.proofs.Goes.{down, goes_again, goes_in_vain}
use Rattle.mem_fabric.proofs.cluster.Cluster.run_again.Goals as goal

pub restart-requires-clause-stopped : goal.restart-requires-clause-stopped
restart-requires-clause-stopped g c = down c.args.self.now c.args.nodes.now c.args.node c.requires.of c.requires.among

pub returns-in-Ok-clause-goes : goal.returns-in-Ok-clause-goes
returns-in-Ok-clause-goes g c =
    goes_again g.B.Bays.tells g.B.Disk.Disk.tells g.B.Disk.Disk.content g.B.Disk.Disk.faults g.B.Bays.home g.B.Bays.out g.B.Bays.same c.args.self.now c.restart-in-Ok.new.self c.args.nodes.now c.restart.new.self c.args.node c.restart-in-Ok.ensures.run c.restart-in-Ok.ensures.nodes c.requires.of
    c.restart.ensures.named.0 c.in-Ok.ensures.up c.restart.ensures.holds c.restart.ensures.layouts c.restart.ensures.same c.restart.ensures.out

pub returns-in-Err-clause-goes : goal.returns-in-Err-clause-goes
returns-in-Err-clause-goes g c =
    goes_in_vain g.B.Bays.tells g.B.Disk.Disk.tells g.B.Disk.Disk.content g.B.Disk.Disk.faults g.B.Bays.home g.B.Bays.out g.B.Bays.same c.args.self.now c.stay.new.self c.args.nodes.now c.restart.new.self c.stay.ensures.run c.stay.ensures.nodes c.requires.of
    c.restart.ensures.named.0 c.in-Err.ensures.err c.restart.ensures.holds c.restart.ensures.layouts c.restart.ensures.same c.restart.ensures.out
