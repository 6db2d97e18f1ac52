use Rattle.std.proofs.Common.{arith, true, false, Option, sym, subst}
use Rattle.std.specs.Prelude.{IsSome}
use Rattle.std.specs.String.{string_bytes}
use Rattle.world_model.specs.declared.shape.Shape.{Shape}
use Rattle.node_lab.specs.Calls.{ClosesNodes}
use Rattle.node_lab.specs.Nodes.{IsNodes, NodesState}
use Rattle.node_lab.proofs.CloseLemmas.{all_closed, open_nodes, still_open}
use Rattle.node_lab.proofs.nodes.LabNodes.close.Goals as goal

pub close_all-requires : goal.close_all-requires
close_all-requires g c =
    let it = open_nodes g.B.Bays.tells g.B.Disk.Disk.tells g.B.Disk.Disk.content g.B.Disk.Disk.size g.B.Bays.home g.B.Bays.out c.self.inside.shape (string_bytes c.self.inside.folder) c.self.inside.bays c.self.inside.nodes.items (subst (λ (s : NodesState g.row.B.Denot g.row.B-Disk.Denot). IsSome s.shape) (sym c.self.view_is) c.requires.open) c.self.invariant in
    record {
      few = (let long = it.2.long in let most = it.2.ranges.nodes in omega (arith, long, most));
      out = λ t. ((string_bytes c.self.inside.folder), it.2.outs t);
    }

pub invariant_of-self : goal.invariant_of-self
invariant_of-self g c =
    let it = open_nodes g.B.Bays.tells g.B.Disk.Disk.tells g.B.Disk.Disk.content g.B.Disk.Disk.size g.B.Bays.home g.B.Bays.out c.self.inside.shape (string_bytes c.self.inside.folder) c.self.inside.bays c.self.inside.nodes.items (subst (λ (s : NodesState g.row.B.Denot g.row.B-Disk.Denot). IsSome s.shape) (sym c.self.view_is) c.requires.open) c.self.invariant in
    subst (λ (o : Option Shape). IsNodes g.B.Bays.tells g.B.Disk.Disk.tells g.B.Disk.Disk.content g.B.Disk.Disk.size g.B.Bays.home g.B.Bays.out o (string_bytes c.self.inside.folder) c.close_all.new.bays c.close_all.new.nodes.items) (sym it.1)
    (still_open g.B.Bays.tells g.B.Disk.Disk.tells g.B.Disk.Disk.content g.B.Disk.Disk.size g.B.Bays.home g.B.Bays.out false (string_bytes c.self.inside.folder) c.self.inside.bays c.close_all.new.bays c.self.inside.nodes.items c.close_all.new.nodes.items c.close_all.ensures.gone (λ t. c.close_all.ensures.slots t (string_bytes c.self.inside.folder) (it.2.outs t)) it.0 g.met.B.Bays.known c.close_all.ensures.length it.2)

pub returns-clause-closes : goal.returns-clause-closes
returns-clause-closes g c =
    let it = open_nodes g.B.Bays.tells g.B.Disk.Disk.tells g.B.Disk.Disk.content g.B.Disk.Disk.size g.B.Bays.home g.B.Bays.out c.self.inside.shape (string_bytes c.self.inside.folder) c.self.inside.bays c.self.inside.nodes.items (subst (λ (s : NodesState g.row.B.Denot g.row.B-Disk.Denot). IsSome s.shape) (sym c.self.view_is) c.requires.open) c.self.invariant in
    subst (λ (s : NodesState g.row.B.Denot g.row.B-Disk.Denot). ClosesNodes g.B.Bays.tells g.B.Disk.Disk.tells g.B.Disk.Disk.content g.B.Disk.Disk.size g.B.Bays.home g.B.Bays.out (λ n. true) false s (record { shape = c.self.inside.shape; folder = (string_bytes c.self.inside.folder); bays = c.close_all.new.bays; nodes = c.close_all.new.nodes.items })) c.self.view_is
    (all_closed g.B.Bays.tells g.B.Disk.Disk.tells g.B.Disk.Disk.content g.B.Disk.Disk.size g.B.Bays.home g.B.Bays.out false (string_bytes c.self.inside.folder) c.self.inside.bays c.close_all.new.bays c.self.inside.nodes.items c.close_all.new.nodes.items c.close_all.ensures.gone (λ t. c.close_all.ensures.slots t (string_bytes c.self.inside.folder) (it.2.outs t)) c.self.inside.shape (λ t. c.close_all.ensures.folders t (string_bytes c.self.inside.folder) (it.2.outs t)))
