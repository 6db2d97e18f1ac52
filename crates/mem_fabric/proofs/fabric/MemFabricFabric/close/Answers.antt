use Rattle.std.proofs.Common.{refl, true}
use Rattle.mem_fabric.specs.PlayedLaws.{plays_nothing}
use Rattle.mem_fabric.specs.Sound.{network_of}
use Rattle.mem_fabric.proofs.Goes.{keeps_itself, packing_by, run_on}
use Rattle.mem_fabric.proofs.fabric.MemFabricFabric.close.Goals as goal

pub returns-clause-run : goal.returns-clause-run
returns-clause-run g c = λ shape folder.
    run_on g.B.Bays.tells g.B.Disk.Disk.tells g.B.Disk.Disk.content g.B.Disk.Disk.faults g.B.Bays.home g.B.Bays.out g.B.Bays.same c.args.self.now.cluster c.args.self.now.cluster c.args.self.now.nodes c.close.new.self (keeps_itself c.args.self.now.cluster) c.close.ensures.holds shape folder

pub returns-clause-net : goal.returns-clause-net
returns-clause-net g c = record {
  played = plays_nothing (g.M.Moves.given c.args.self.now.moves) (network_of c.args.self.now.cluster) true;
  same = g.met.M.Moves.same_self c.args.self.now.moves;
  begun = refl;
  bays = record { same_bays = c.close.ensures.same; own = c.close.ensures.out };
  packing = packing_by g.B.Bays.tells g.B.Disk.Disk.tells g.B.Disk.Disk.content g.B.Disk.Disk.faults g.B.Bays.home g.B.Bays.out g.B.Bays.same c.args.self.now.cluster c.args.self.now.cluster c.args.self.now.nodes c.close.new.self (keeps_itself c.args.self.now.cluster) c.close.ensures.named.0 c.close.ensures.holds c.close.ensures.layouts;
}
