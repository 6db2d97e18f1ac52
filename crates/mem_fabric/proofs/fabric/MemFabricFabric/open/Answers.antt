use Rattle.std.proofs.Common.{◌≡◌, Err, ap, refl, subst}
use Rattle.std.specs.Option.{is_some}
use Rattle.lab_nodes.specs.Nodes.{is_up}
use Rattle.lab_nodes.specs.Starting.{IsFirst}
use Rattle.lab_nodes.specs.declared.fault.NodesFault.{NodesFault}
use Rattle.lab_nodes.specs.declared.places.Which.{Which}
use Rattle.mem_fabric.specs.Past.{calls_of}
use Rattle.mem_fabric.proofs.Goes.{home_stays, keeps_itself, packing_fresh, packs_at, run_at}
use Rattle.mem_fabric.proofs.Playing.{plays_none, plays_open}
use Rattle.mem_fabric.proofs.fabric.MemFabricFabric.open.Goals as goal
use Rattle.world_model.specs.declared.order.Refusal.{Refusal}

pub returns-in-Ok-clause-run : goal.returns-in-Ok-clause-run
returns-in-Ok-clause-run g c =
    run_at g.B.Bays.tells g.B.Disk.Disk.tells g.B.Disk.Disk.content g.B.Disk.Disk.faults g.B.Bays.home g.B.Bays.out g.B.Bays.same c.args.self.now.cluster c.open-in-Ok.new.self c.args.self.now.nodes c.open.new.self c.args.shape.now c.args.folder.now c.open-in-Ok.ensures.run c.open.ensures.holds

pub returns-in-Ok-clause-net : goal.returns-in-Ok-clause-net
returns-in-Ok-clause-net g c = record {
  played = plays_open (g.M.Moves.given c.args.self.now.moves) c.args.self.now.cluster c.open-in-Ok.new.self c.args.shape.now (c.args.self.now.empty c.requires.fresh) c.open-in-Ok.ensures.network;
  same = g.met.M.Moves.same_self c.args.self.now.moves;
  begun = refl;
  bays = record { same_bays = c.open.ensures.same; own = c.open.ensures.out };
  packing = packing_fresh g.B.Disk.Disk.tells g.B.Disk.Disk.content g.B.Bays.home c.args.self.now.nodes c.open.new.self (calls_of c.args.self.now.cluster.past) (calls_of c.open-in-Ok.new.self.past) (c.args.self.now.unopened c.requires.fresh);
}

pub returns-in-Err-Refused-clause-refused : goal.returns-in-Err-Refused-clause-refused
returns-in-Err-Refused-clause-refused g c = λ refusal is t.
    let same : c.in-Err-Refused.refusal ≡ refusal = cc is in
    subst (λ (r : Refusal). IsFirst g.B.Disk.Disk.tells g.B.Disk.Disk.content g.B.Disk.Disk.size Which.All c.args.shape.now c.args.folder.now (g.B.Bays.home c.args.self.now.nodes.bays) r) same
    (c.in-Err-Refused.ensures.refused c.in-Err-Refused.refusal (ap (λ (f : NodesFault). Err f) c.in-Err-Refused.field-0-is) t)

pub returns-in-Err-Failed-clause-stays : goal.returns-in-Err-Failed-clause-stays
returns-in-Err-Failed-clause-stays g c =
    home_stays g.B.Disk.Disk.tells g.B.Disk.Disk.content g.B.Bays.home c.args.self.now.nodes c.open.new.self c.args.shape.now c.args.folder.now (c.args.self.now.unopened c.requires.fresh) c.in-Err-Failed.ensures.err c.open.ensures.holds

pub returns-in-Err-Refused-clause-stays : goal.returns-in-Err-Refused-clause-stays
returns-in-Err-Refused-clause-stays g c =
    home_stays g.B.Disk.Disk.tells g.B.Disk.Disk.content g.B.Bays.home c.args.self.now.nodes c.open.new.self c.args.shape.now c.args.folder.now (c.args.self.now.unopened c.requires.fresh) c.in-Err-Refused.ensures.err c.open.ensures.holds

pub returns-in-Err-Memory-clause-stays : goal.returns-in-Err-Memory-clause-stays
returns-in-Err-Memory-clause-stays g c =
    home_stays g.B.Disk.Disk.tells g.B.Disk.Disk.content g.B.Bays.home c.args.self.now.nodes c.open.new.self c.args.shape.now c.args.folder.now (c.args.self.now.unopened c.requires.fresh) c.in-Err-Memory.ensures.err c.open.ensures.holds

pub returns-in-Err-Failed-clause-shut : goal.returns-in-Err-Failed-clause-shut
returns-in-Err-Failed-clause-shut g c = λ n p. ap (λ (s : _). is_up s n p) c.in-Err-Failed.ensures.err

pub returns-in-Err-Refused-clause-shut : goal.returns-in-Err-Refused-clause-shut
returns-in-Err-Refused-clause-shut g c = λ n p. ap (λ (s : _). is_up s n p) c.in-Err-Refused.ensures.err

pub returns-in-Err-Memory-clause-shut : goal.returns-in-Err-Memory-clause-shut
returns-in-Err-Memory-clause-shut g c = λ n p. ap (λ (s : _). is_up s n p) c.in-Err-Memory.ensures.err

pub returns-in-Ok-clause-standing : goal.returns-in-Ok-clause-standing
returns-in-Ok-clause-standing g c = ap is_some c.in-Ok.ensures.named.0

pub returns-in-Ok-clause-packing : goal.returns-in-Ok-clause-packing
returns-in-Ok-clause-packing g c =
    packs_at g.B.Bays.tells g.B.Disk.Disk.tells g.B.Disk.Disk.content g.B.Disk.Disk.faults g.B.Bays.home g.B.Bays.out g.B.Bays.same c.args.self.now.cluster c.open-in-Ok.new.self c.args.self.now.nodes c.open.new.self c.args.shape.now c.args.folder.now c.open-in-Ok.ensures.run c.open.ensures.holds c.open.ensures.layouts

pub returns-in-Err-Failed-clause-packing : goal.returns-in-Err-Failed-clause-packing
returns-in-Err-Failed-clause-packing g c =
    packs_at g.B.Bays.tells g.B.Disk.Disk.tells g.B.Disk.Disk.content g.B.Disk.Disk.faults g.B.Bays.home g.B.Bays.out g.B.Bays.same c.args.self.now.cluster c.args.self.now.cluster c.args.self.now.nodes c.open.new.self c.args.shape.now c.args.folder.now (keeps_itself c.args.self.now.cluster) c.open.ensures.holds c.open.ensures.layouts

pub returns-in-Err-Refused-clause-packing : goal.returns-in-Err-Refused-clause-packing
returns-in-Err-Refused-clause-packing g c =
    packs_at g.B.Bays.tells g.B.Disk.Disk.tells g.B.Disk.Disk.content g.B.Disk.Disk.faults g.B.Bays.home g.B.Bays.out g.B.Bays.same c.args.self.now.cluster c.args.self.now.cluster c.args.self.now.nodes c.open.new.self c.args.shape.now c.args.folder.now (keeps_itself c.args.self.now.cluster) c.open.ensures.holds c.open.ensures.layouts

pub returns-in-Err-Memory-clause-packing : goal.returns-in-Err-Memory-clause-packing
returns-in-Err-Memory-clause-packing g c =
    packs_at g.B.Bays.tells g.B.Disk.Disk.tells g.B.Disk.Disk.content g.B.Disk.Disk.faults g.B.Bays.home g.B.Bays.out g.B.Bays.same c.args.self.now.cluster c.args.self.now.cluster c.args.self.now.nodes c.open.new.self c.args.shape.now c.args.folder.now (keeps_itself c.args.self.now.cluster) c.open.ensures.holds c.open.ensures.layouts

pub returns-in-Err-Failed-clause-net : goal.returns-in-Err-Failed-clause-net
returns-in-Err-Failed-clause-net g c = record {
  played = plays_none (g.M.Moves.given c.args.self.now.moves) (g.M.Moves.given c.args.self.now.moves) c.args.self.now.cluster c.args.self.now.cluster _ refl refl;
  same = g.met.M.Moves.same_self c.args.self.now.moves;
  begun = refl;
  bays = record { same_bays = c.open.ensures.same; own = c.open.ensures.out };
  packing = packing_fresh g.B.Disk.Disk.tells g.B.Disk.Disk.content g.B.Bays.home c.args.self.now.nodes c.open.new.self (calls_of c.args.self.now.cluster.past) (calls_of c.args.self.now.cluster.past) (c.args.self.now.unopened c.requires.fresh);
}

pub returns-in-Err-Refused-clause-net : goal.returns-in-Err-Refused-clause-net
returns-in-Err-Refused-clause-net g c = record {
  played = plays_none (g.M.Moves.given c.args.self.now.moves) (g.M.Moves.given c.args.self.now.moves) c.args.self.now.cluster c.args.self.now.cluster _ refl refl;
  same = g.met.M.Moves.same_self c.args.self.now.moves;
  begun = refl;
  bays = record { same_bays = c.open.ensures.same; own = c.open.ensures.out };
  packing = packing_fresh g.B.Disk.Disk.tells g.B.Disk.Disk.content g.B.Bays.home c.args.self.now.nodes c.open.new.self (calls_of c.args.self.now.cluster.past) (calls_of c.args.self.now.cluster.past) (c.args.self.now.unopened c.requires.fresh);
}

pub returns-in-Err-Memory-clause-net : goal.returns-in-Err-Memory-clause-net
returns-in-Err-Memory-clause-net g c = record {
  played = plays_none (g.M.Moves.given c.args.self.now.moves) (g.M.Moves.given c.args.self.now.moves) c.args.self.now.cluster c.args.self.now.cluster _ refl refl;
  same = g.met.M.Moves.same_self c.args.self.now.moves;
  begun = refl;
  bays = record { same_bays = c.open.ensures.same; own = c.open.ensures.out };
  packing = packing_fresh g.B.Disk.Disk.tells g.B.Disk.Disk.content g.B.Bays.home c.args.self.now.nodes c.open.new.self (calls_of c.args.self.now.cluster.past) (calls_of c.args.self.now.cluster.past) (c.args.self.now.unopened c.requires.fresh);
}
