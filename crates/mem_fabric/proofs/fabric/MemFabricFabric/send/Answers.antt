use Rattle.std.proofs.Common.{refl, rules}
use Rattle.mem_fabric.specs.GoingLaws.{bays_stay}
use Rattle.mem_fabric.specs.Sound.{network_of}
use Rattle.mem_fabric.proofs.Goes.{packing_kept}
use Rattle.mem_fabric.proofs.Playing.{plays_none, plays_send, has_node}
use Rattle.mem_fabric.proofs.fabric.MemFabricFabric.send.Goals as goal

pub returns-in-Ok-clause-net : goal.returns-in-Ok-clause-net
returns-in-Ok-clause-net g c = record {
  later = search rules;
  opened = search rules;
  run = search rules;
  own = record {
    played = plays_send (g.M.Moves.given c.args.self.now.moves) (network_of c.args.self.now.cluster) (network_of c.refuse.new.self) c.args.node c.args.frame.now
        (has_node c.args.self.now.opened c.args.self.now.cluster.shape c.args.node c.requires.node) c.in-Ok.ensures.ok;
    same = g.met.M.Moves.same_self c.args.self.now.moves;
    begun = refl;
    bays = bays_stay g.B.Bays.tells g.B.Bays.out g.B.Bays.same c.args.self.now.nodes (g.met.B.Bays.same_self c.args.self.now.nodes.bays);
    packing = packing_kept g.B.Bays.tells g.B.Disk.Disk.tells g.B.Disk.Disk.content g.B.Disk.Disk.faults g.B.Bays.home g.B.Bays.out g.B.Bays.same c.args.self.now.cluster c.refuse.new.self c.args.self.now.nodes c.refuse.ensures.run;
  };
}

pub returns-in-Ok-send-clause-net : goal.returns-in-Ok-send-clause-net
returns-in-Ok-send-clause-net g c = record {
  later = search rules;
  opened = search rules;
  run = search rules;
  own = record {
    played = plays_send (g.M.Moves.given c.args.self.now.moves) (network_of c.args.self.now.cluster) (network_of c.send.new.self) c.args.node c.args.frame.now
        (has_node c.args.self.now.opened c.args.self.now.cluster.shape c.args.node c.requires.node) c.in-Ok-send.ensures.ok;
    same = g.met.M.Moves.same_self c.args.self.now.moves;
    begun = refl;
    bays = bays_stay g.B.Bays.tells g.B.Bays.out g.B.Bays.same c.args.self.now.nodes (g.met.B.Bays.same_self c.args.self.now.nodes.bays);
    packing = packing_kept g.B.Bays.tells g.B.Disk.Disk.tells g.B.Disk.Disk.content g.B.Disk.Disk.faults g.B.Bays.home g.B.Bays.out g.B.Bays.same c.args.self.now.cluster c.send.new.self c.args.self.now.nodes c.send.ensures.run;
  };
}

pub returns-in-Err-clause-net : goal.returns-in-Err-clause-net
returns-in-Err-clause-net g c = record {
  later = search rules;
  opened = search rules;
  run = search rules;
  own = record {
    played = plays_none (g.M.Moves.given c.args.self.now.moves) (g.M.Moves.given c.args.self.now.moves) c.args.self.now.cluster c.refuse.new.self _ refl c.in-Err.ensures.err;
    same = g.met.M.Moves.same_self c.args.self.now.moves;
    begun = refl;
    bays = bays_stay g.B.Bays.tells g.B.Bays.out g.B.Bays.same c.args.self.now.nodes (g.met.B.Bays.same_self c.args.self.now.nodes.bays);
    packing = packing_kept g.B.Bays.tells g.B.Disk.Disk.tells g.B.Disk.Disk.content g.B.Disk.Disk.faults g.B.Bays.home g.B.Bays.out g.B.Bays.same c.args.self.now.cluster c.refuse.new.self c.args.self.now.nodes c.refuse.ensures.run;
  };
}

pub returns-in-Err-send-clause-net : goal.returns-in-Err-send-clause-net
returns-in-Err-send-clause-net g c = record {
  later = search rules;
  opened = search rules;
  run = search rules;
  own = record {
    played = plays_none (g.M.Moves.given c.args.self.now.moves) (g.M.Moves.given c.args.self.now.moves) c.args.self.now.cluster c.send.new.self _ refl c.in-Err-send.ensures.err;
    same = g.met.M.Moves.same_self c.args.self.now.moves;
    begun = refl;
    bays = bays_stay g.B.Bays.tells g.B.Bays.out g.B.Bays.same c.args.self.now.nodes (g.met.B.Bays.same_self c.args.self.now.nodes.bays);
    packing = packing_kept g.B.Bays.tells g.B.Disk.Disk.tells g.B.Disk.Disk.content g.B.Disk.Disk.faults g.B.Bays.home g.B.Bays.out g.B.Bays.same c.args.self.now.cluster c.send.new.self c.args.self.now.nodes c.send.ensures.run;
  };
}
