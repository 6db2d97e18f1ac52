use Rattle.std.proofs.Common.{◌≡◌, ◌&&◌, not, nat_eq, true, Option, Some, None, sym, subst, arith}
use Rattle.std.specs.Option.{is_some}
use Rattle.std.specs.Prelude.{string_bytes}
use Rattle.world_model.specs.declared.shape.Shape.{Shape}
use Rattle.world_model.proofs.CellLaws.{same_number}
use Rattle.lab_nodes.specs.Layouts.{HaveLayouts}
use Rattle.lab_nodes.specs.Nodes.{Holds, IsNodes, IsOpen, NodesState, OnlyOwnOut, is_up, replica_at, replica_in}
use Rattle.lab_nodes.specs.Spots.{WentHome}
use Rattle.lab_nodes.specs.declared.places.Which.{Which}
use Rattle.lab_nodes.proofs.Halting.{halted_layouts, halted_open, halted_out, halted_places, halted_slot, halted_went, halts_up, holds_for}
use Rattle.lab_nodes.proofs.Packing.{layouts_for}
use Rattle.lab_nodes.proofs.Placing.{few_places}
use Rattle.lab_nodes.proofs.nodes.LabNodes.stop.Goals as goal
use Rattle.lab_nodes.proofs.nodes.LabNodes.stop.Goals.{In-Some}

opened : (g : _) (c : In-Some g) → IsOpen g.B.Bays.tells g.B.Disk.Disk.tells g.B.Disk.Disk.content g.B.Bays.home g.B.Bays.out c.in-Some.shape (string_bytes c.self.inside.folder) c.self.inside.bays c.self.inside.slots.items
opened g c = subst (λ (o : Option Shape). IsNodes g.B.Bays.tells g.B.Disk.Disk.tells g.B.Disk.Disk.content g.B.Bays.home g.B.Bays.out o (string_bytes c.self.inside.folder) c.self.inside.bays c.self.inside.slots.items) c.in-Some.is c.self.invariant

pub halt-requires-clause-few : goal.halt-requires-clause-few
halt-requires-clause-few g c =
    let it = opened g (goal.at.halt-requires-clause-few g c).In-Some in
    omega (arith, it.long, few_places c.in-Some.shape it.ranges)

pub invariant_of-self : goal.invariant_of-self
invariant_of-self g c =
    let it = opened g (goal.at.invariant_of-self g c).In-Some in
    subst (λ (o : Option Shape). IsNodes g.B.Bays.tells g.B.Disk.Disk.tells g.B.Disk.Disk.content g.B.Bays.home g.B.Bays.out o (string_bytes c.self.inside.folder) c.halt.new.bays c.halt.new.slots.items) (sym c.in-Some.is)
    (halted_open g.B.Bays.tells g.B.Disk.Disk.tells g.B.Disk.Disk.content g.B.Disk.Disk.size g.B.Bays.home g.B.Bays.out g.met.B.Bays.known (Which.Node c.args.node) _ c.in-Some.shape (string_bytes c.self.inside.folder) c.self.inside.bays c.halt.new.bays c.self.inside.slots.items c.halt.new.slots.items
    it c.halt.ensures.length c.halt.ensures.slots (λ t. c.halt.ensures.spots t (string_bytes c.self.inside.folder) (it.outs t)) (λ t. c.halt.ensures.rest t (string_bytes c.self.inside.folder) (it.outs t)))

pub returns-in-Some-clause-up : goal.returns-in-Some-clause-up
returns-in-Some-clause-up g c = λ n p.
    let it = opened g (goal.at.returns-in-Some-clause-up g c).In-Some in
    let slot = halted_slot g.B.Bays.tells g.B.Disk.Disk.tells g.B.Disk.Disk.content g.B.Disk.Disk.size g.B.Bays.home g.B.Bays.out g.met.B.Bays.known (Which.Node c.args.node) _ c.in-Some.shape (string_bytes c.self.inside.folder) c.self.inside.bays c.halt.new.bays c.self.inside.slots.items c.halt.new.slots.items
    it c.halt.ensures.length c.halt.ensures.slots (λ t. c.halt.ensures.spots t (string_bytes c.self.inside.folder) (it.outs t)) (λ t. c.halt.ensures.rest t (string_bytes c.self.inside.folder) (it.outs t)) n p in
    subst (λ (s : NodesState g.row.B.Denot g.row.B-Disk.Denot). is_some (replica_in c.self.inside.shape c.halt.new.slots.items n p) ≡ (is_up s n p && not (nat_eq n c.args.node))) c.self.view_is
    (subst (λ (o : Option Shape). is_some (replica_in o c.halt.new.slots.items n p) ≡ (is_some (replica_in o c.self.inside.slots.items n p) && not (nat_eq n c.args.node))) (sym c.in-Some.is)
    (halts_up (nat_eq n c.args.node) (replica_in (Some c.in-Some.shape) c.self.inside.slots.items n p) (replica_in (Some c.in-Some.shape) c.halt.new.slots.items n p) slot))

pub returns-in-Some-clause-holds : goal.returns-in-Some-clause-holds
returns-in-Some-clause-holds g c = λ t shape folder cells.
    let it = opened g (goal.at.returns-in-Some-clause-holds g c).In-Some in
    subst (λ (s : NodesState g.row.B.Denot g.row.B-Disk.Denot). Holds g.B.Disk.Disk.content g.B.Bays.home shape folder cells s → Holds g.B.Disk.Disk.content g.B.Bays.home shape folder cells (record { shape = c.self.inside.shape; folder = string_bytes c.self.inside.folder; bays = c.halt.new.bays; slots = c.halt.new.slots.items })) c.self.view_is
    (subst (λ (o : Option Shape). Holds g.B.Disk.Disk.content g.B.Bays.home shape folder cells (record { shape = o; folder = string_bytes c.self.inside.folder; bays = c.self.inside.bays; slots = c.self.inside.slots.items }) → Holds g.B.Disk.Disk.content g.B.Bays.home shape folder cells (record { shape = o; folder = string_bytes c.self.inside.folder; bays = c.halt.new.bays; slots = c.halt.new.slots.items })) (sym c.in-Some.is)
    (holds_for g.B.Disk.Disk.content g.B.Bays.home c.in-Some.shape (string_bytes c.self.inside.folder) c.self.inside.bays c.halt.new.bays c.self.inside.slots.items c.halt.new.slots.items shape folder cells cells
    (halted_places g.B.Bays.tells g.B.Disk.Disk.tells g.B.Disk.Disk.content g.B.Disk.Disk.size g.B.Bays.home g.B.Bays.out g.met.B.Bays.known (Which.Node c.args.node) _ c.in-Some.shape (string_bytes c.self.inside.folder) c.self.inside.bays c.halt.new.bays c.self.inside.slots.items c.halt.new.slots.items
    it c.halt.ensures.length c.halt.ensures.slots (λ u. c.halt.ensures.spots u (string_bytes c.self.inside.folder) (it.outs u)) (λ u. c.halt.ensures.rest u (string_bytes c.self.inside.folder) (it.outs u)) t cells)))

pub returns-in-Some-clause-out : goal.returns-in-Some-clause-out
returns-in-Some-clause-out g c = λ t before.
    let it = opened g (goal.at.returns-in-Some-clause-out g c).In-Some in
    subst (λ (s : NodesState g.row.B.Denot g.row.B-Disk.Denot). OnlyOwnOut g.B.Bays.out before s → OnlyOwnOut g.B.Bays.out before (record { shape = c.self.inside.shape; folder = string_bytes c.self.inside.folder; bays = c.halt.new.bays; slots = c.halt.new.slots.items })) c.self.view_is
    (subst (λ (o : Option Shape). OnlyOwnOut g.B.Bays.out before (record { shape = o; folder = string_bytes c.self.inside.folder; bays = c.self.inside.bays; slots = c.self.inside.slots.items }) → OnlyOwnOut g.B.Bays.out before (record { shape = o; folder = string_bytes c.self.inside.folder; bays = c.halt.new.bays; slots = c.halt.new.slots.items })) (sym c.in-Some.is)
    (halted_out g.B.Bays.tells g.B.Disk.Disk.tells g.B.Disk.Disk.content g.B.Disk.Disk.size g.B.Bays.home g.B.Bays.out g.met.B.Bays.known (Which.Node c.args.node) _ c.in-Some.shape (string_bytes c.self.inside.folder) c.self.inside.bays c.halt.new.bays c.self.inside.slots.items c.halt.new.slots.items
    it c.halt.ensures.length c.halt.ensures.slots (λ u. c.halt.ensures.spots u (string_bytes c.self.inside.folder) (it.outs u)) (λ u. c.halt.ensures.rest u (string_bytes c.self.inside.folder) (it.outs u)) t before))

pub returns-in-Some-clause-layouts : goal.returns-in-Some-clause-layouts
returns-in-Some-clause-layouts g c = λ t shape folder layouts.
    let it = opened g (goal.at.returns-in-Some-clause-layouts g c).In-Some in
    subst (λ (s : NodesState g.row.B.Denot g.row.B-Disk.Denot). HaveLayouts g.B.Disk.Disk.content g.B.Bays.home shape folder layouts s → HaveLayouts g.B.Disk.Disk.content g.B.Bays.home shape folder layouts (record { shape = c.self.inside.shape; folder = string_bytes c.self.inside.folder; bays = c.halt.new.bays; slots = c.halt.new.slots.items })) c.self.view_is
    (subst (λ (o : Option Shape). HaveLayouts g.B.Disk.Disk.content g.B.Bays.home shape folder layouts (record { shape = o; folder = string_bytes c.self.inside.folder; bays = c.self.inside.bays; slots = c.self.inside.slots.items }) → HaveLayouts g.B.Disk.Disk.content g.B.Bays.home shape folder layouts (record { shape = o; folder = string_bytes c.self.inside.folder; bays = c.halt.new.bays; slots = c.halt.new.slots.items })) (sym c.in-Some.is)
    (layouts_for g.B.Disk.Disk.content g.B.Bays.home c.in-Some.shape (string_bytes c.self.inside.folder) c.self.inside.bays c.halt.new.bays c.self.inside.slots.items c.halt.new.slots.items shape folder layouts (λ other. layouts)
    (halted_layouts g.B.Bays.tells g.B.Disk.Disk.tells g.B.Disk.Disk.content g.B.Disk.Disk.size g.B.Bays.home g.B.Bays.out g.met.B.Bays.known (Which.Node c.args.node) _ c.in-Some.shape (string_bytes c.self.inside.folder) c.self.inside.bays c.halt.new.bays c.self.inside.slots.items c.halt.new.slots.items
    it c.halt.ensures.length c.halt.ensures.slots (λ u. c.halt.ensures.spots u (string_bytes c.self.inside.folder) (it.outs u)) (λ u. c.halt.ensures.rest u (string_bytes c.self.inside.folder) (it.outs u)) t layouts)))

pub returns-in-Some-clause-left : goal.returns-in-Some-clause-left
returns-in-Some-clause-left g c = λ t p replica.
    let it = opened g (goal.at.returns-in-Some-clause-left g c).In-Some in
    subst (λ (s : NodesState g.row.B.Denot g.row.B-Disk.Denot). replica_at s c.args.node p ≡ Some replica → WentHome g.B.Disk.Disk.tells g.B.Disk.Disk.content g.B.Disk.Disk.size true replica (record { slot = None; home = g.B.Bays.home c.halt.new.bays (string_bytes c.self.inside.folder) c.args.node p; out = g.B.Bays.out c.halt.new.bays c.args.node p })) c.self.view_is
    (subst (λ (o : Option Shape). replica_in o c.self.inside.slots.items c.args.node p ≡ Some replica → WentHome g.B.Disk.Disk.tells g.B.Disk.Disk.content g.B.Disk.Disk.size true replica (record { slot = None; home = g.B.Bays.home c.halt.new.bays (string_bytes c.self.inside.folder) c.args.node p; out = g.B.Bays.out c.halt.new.bays c.args.node p })) (sym c.in-Some.is)
    (halted_went g.B.Bays.tells g.B.Disk.Disk.tells g.B.Disk.Disk.content g.B.Disk.Disk.size g.B.Bays.home g.B.Bays.out g.met.B.Bays.known (Which.Node c.args.node) true c.in-Some.shape (string_bytes c.self.inside.folder) c.self.inside.bays c.halt.new.bays c.self.inside.slots.items c.halt.new.slots.items
    it c.halt.ensures.length c.halt.ensures.slots (λ u. c.halt.ensures.spots u (string_bytes c.self.inside.folder) (it.outs u)) (λ u. c.halt.ensures.rest u (string_bytes c.self.inside.folder) (it.outs u)) t c.args.node p replica (same_number c.args.node)))
