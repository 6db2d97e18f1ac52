use Rattle.std.proofs.Common.{refl, rules}
use Rattle.mem_fabric.specs.Sound.{network_of}
use Rattle.mem_fabric.proofs.Playing.{plays_none, plays_order, has_order, tells_order}
use Rattle.mem_fabric.proofs.fabric.MemFabricFabric.admin.Goals as goal

pub returns-in-Ok-clause-told : goal.returns-in-Ok-clause-told
returns-in-Ok-clause-told g c =
    tells_order c.args.self.now.cluster c.obey.new.self c.args.order.now c.in-Ok.answer c.in-Ok.ensures.obeys

pub returns-in-Ok-clause-net : goal.returns-in-Ok-clause-net
returns-in-Ok-clause-net g c = record {
  later = search rules;
  opened = search rules;
  run = search rules;
  own = record {
    played = plays_order (g.M.Moves.given c.args.self.now.moves) (network_of c.args.self.now.cluster) (network_of c.obey.new.self) c.args.order.now c.in-Ok.answer
        (has_order c.args.self.now.opened c.args.self.now.cluster.shape c.args.order.now c.requires.order) c.in-Ok.ensures.obeys;
    same = g.met.M.Moves.same_self c.args.self.now.moves;
    begun = refl;
    bays = c.in-Ok.ensures.goes.bays;
    packing = c.in-Ok.ensures.goes.packing;
  };
}

pub returns-in-Err-clause-net : goal.returns-in-Err-clause-net
returns-in-Err-clause-net g c = record {
  later = search rules;
  opened = search rules;
  run = search rules;
  own = record {
    played = plays_none (g.M.Moves.given c.args.self.now.moves) (g.M.Moves.given c.args.self.now.moves) c.args.self.now.cluster c.obey.new.self _ refl c.in-Err.ensures.err;
    same = g.met.M.Moves.same_self c.args.self.now.moves;
    begun = refl;
    bays = c.in-Err.ensures.goes.bays;
    packing = c.in-Err.ensures.goes.packing;
  };
}
