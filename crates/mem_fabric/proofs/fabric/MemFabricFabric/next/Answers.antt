use Rattle.std.proofs.Common.{refl, rules}
use Rattle.mem_fabric.specs.GoingLaws.{bays_stay}
use Rattle.mem_fabric.specs.Sound.{network_of}
use Rattle.mem_fabric.proofs.Goes.{packing_kept}
use Rattle.mem_fabric.proofs.Playing.{plays_given}
use Rattle.mem_fabric.proofs.fabric.MemFabricFabric.next.Goals as goal

pub returns-else-queued-eq0-clause-net : goal.returns-else-queued-eq0-clause-net
returns-else-queued-eq0-clause-net g c = record {
  later = search rules;
  opened = search rules;
  run = search rules;
  own = record {
    played = plays_given (g.M.Moves.given c.args.self.now.moves) (network_of c.args.self.now.cluster) (network_of c.give.new.self) c.give.result c.give.ensures.oldest c.give.ensures.network;
    same = g.met.M.Moves.same_self c.args.self.now.moves;
    begun = refl;
    bays = bays_stay g.B.Bays.tells g.B.Bays.out g.B.Bays.same c.args.self.now.nodes (g.met.B.Bays.same_self c.args.self.now.nodes.bays);
    packing = packing_kept g.B.Bays.tells g.B.Disk.Disk.tells g.B.Disk.Disk.content g.B.Disk.Disk.faults g.B.Bays.home g.B.Bays.out g.B.Bays.same c.args.self.now.cluster c.give.new.self c.args.self.now.nodes c.give.ensures.run;
  };
}
