use Rattle.std.proofs.Common.{◌≡◌, ℕ, ◌&&◌, ◌||◌, nat_eq, false, List, Option, Some, sym, ap, subst, arith}
use Rattle.std.specs.Option.{is_some}
use Rattle.std.specs.Prelude.{string_bytes}
use Rattle.std.proofs.lemmas.Result.{on_err_weaker, on_ok_weaker}
use Rattle.world_model.specs.declared.shape.Shape.{Shape}
use Rattle.lab_nodes.specs.declared.places.Which.{Which}
use Rattle.lab_nodes.specs.Layouts.{HaveLayouts}
use Rattle.lab_nodes.specs.Nodes.{Holds, IsNodes, IsOpen, NodesState, OnlyOwnOut, is_up, replica_in, stands}
use Rattle.lab_nodes.specs.Starting.{AreEmpty}
use Rattle.lab_nodes.proofs.Halting.{holds_for}
use Rattle.lab_nodes.proofs.Packing.{layouts_for}
use Rattle.lab_nodes.proofs.Placing.{few_places}
use Rattle.lab_nodes.proofs.Starting.{either_way, out_as, refused_node, started_layouts, started_open, started_out, started_places, started_up, stopped_layouts, stopped_open, stopped_places, stopped_slot, stopped_outs, empty_node}
use Rattle.lab_nodes.proofs.nodes.LabNodes.restart.Goals as goal
use Rattle.lab_nodes.proofs.nodes.LabNodes.restart.Goals.{In-Some}

opened : (g : _) (c : In-Some g) → IsOpen g.B.Bays.tells g.B.Disk.Disk.tells g.B.Disk.Disk.content g.B.Bays.home g.B.Bays.out c.in-Some.shape (string_bytes c.self.inside.folder) c.self.inside.bays c.self.inside.slots.items
opened g c = subst (λ (o : Option Shape). IsNodes g.B.Bays.tells g.B.Disk.Disk.tells g.B.Disk.Disk.content g.B.Bays.home g.B.Bays.out o (string_bytes c.self.inside.folder) c.self.inside.bays c.self.inside.slots.items) c.in-Some.is c.self.invariant

-- none of the node's replicas is open
are_empty : (g : _) (c : In-Some g) → AreEmpty (Which.Node c.args.node) c.in-Some.shape.partitions c.self.inside.slots.items
are_empty g c = empty_node c.in-Some.shape c.self.inside.slots.items c.args.node (opened g c).ranges.some_partitions
    (λ p. subst (λ (o : Option Shape). is_some (replica_in o c.self.inside.slots.items c.args.node p) ≡ false) c.in-Some.is (subst (λ (s : NodesState g.row.B.Denot g.row.B-Disk.Denot). is_up s c.args.node p ≡ false) (sym c.self.view_is) (c.requires.stopped p)))

pub start-requires-clause-few : goal.start-requires-clause-few
start-requires-clause-few g c =
    let it = opened g (goal.at.start-requires-clause-few g c).In-Some in
    omega (arith, it.long, few_places c.in-Some.shape it.ranges)

pub start-requires-clause-empty : goal.start-requires-clause-empty
start-requires-clause-empty g c = are_empty g (goal.at.start-requires-clause-empty g c).In-Some

pub invariant_of-self : goal.invariant_of-self
invariant_of-self g c =
    let some = (goal.at.invariant_of-self g c).In-Some in
    let it = subst (λ (f : List ℕ). IsOpen g.B.Bays.tells g.B.Disk.Disk.tells g.B.Disk.Disk.content g.B.Bays.home g.B.Bays.out c.in-Some.shape f c.self.inside.bays c.self.inside.slots.items) (sym c.as_str.ensures.value) (opened g some) in
    subst (λ (o : Option Shape). IsNodes g.B.Bays.tells g.B.Disk.Disk.tells g.B.Disk.Disk.content g.B.Bays.home g.B.Bays.out o (string_bytes c.self.inside.folder) c.start.new.bays c.start.new.slots.items) (sym c.in-Some.is)
    (subst (λ (f : List ℕ). IsOpen g.B.Bays.tells g.B.Disk.Disk.tells g.B.Disk.Disk.content g.B.Bays.home g.B.Bays.out c.in-Some.shape f c.start.new.bays c.start.new.slots.items) c.as_str.ensures.value
    (either_way c.start.result _ _ _ _ _ c.start.ensures.slots c.start.ensures.spots c.start.ensures.closed c.start.ensures.closed_spots
    (λ slots spots. started_open g.B.Bays.tells g.B.Disk.Disk.tells g.B.Disk.Disk.content g.B.Disk.Disk.size g.B.Bays.home g.B.Bays.out g.met.B.Bays.known (Which.Node c.args.node) c.in-Some.shape c.as_str.result.now c.self.inside.bays c.start.new.bays c.self.inside.slots.items c.start.new.slots.items
    it.ranges it.long c.start.ensures.length it.due it.outs (are_empty g some) (λ u k undue due. it.places u k due) slots spots c.start.ensures.rest)
    (λ closed closed_spots. stopped_open g.B.Bays.tells g.B.Disk.Disk.tells g.B.Disk.Disk.content g.B.Disk.Disk.size g.B.Bays.home g.B.Bays.out g.met.B.Bays.known c.in-Some.shape c.as_str.result.now c.self.inside.bays c.start.new.bays c.self.inside.slots.items c.start.new.slots.items closed closed_spots c.start.ensures.rest it c.start.ensures.length)))

pub returns-in-Some-clause-up : goal.returns-in-Some-clause-up
returns-in-Some-clause-up g c =
    let some = (goal.at.returns-in-Some-clause-up g c).In-Some in
    let it = subst (λ (f : List ℕ). IsOpen g.B.Bays.tells g.B.Disk.Disk.tells g.B.Disk.Disk.content g.B.Bays.home g.B.Bays.out c.in-Some.shape f c.self.inside.bays c.self.inside.slots.items) (sym c.as_str.ensures.value) (opened g some) in
    on_ok_weaker c.start.result (λ slots n p.
    subst (λ (s : NodesState g.row.B.Denot g.row.B-Disk.Denot). is_some (replica_in c.self.inside.shape c.start.new.slots.items n p) ≡ (is_up s n p || (nat_eq n c.args.node && stands s.shape n p))) c.self.view_is
    (subst (λ (o : Option Shape). is_some (replica_in o c.start.new.slots.items n p) ≡ (is_some (replica_in o c.self.inside.slots.items n p) || (nat_eq n c.args.node && stands o n p))) (sym c.in-Some.is)
    (started_up (Which.Node c.args.node) c.in-Some.shape c.self.inside.slots.items c.start.new.slots.items it.ranges it.long c.start.ensures.length slots n p))) c.start.ensures.slots

pub returns-in-Some-clause-err : goal.returns-in-Some-clause-err
returns-in-Some-clause-err g c =
    let some = (goal.at.returns-in-Some-clause-err g c).In-Some in
    let it = subst (λ (f : List ℕ). IsOpen g.B.Bays.tells g.B.Disk.Disk.tells g.B.Disk.Disk.content g.B.Bays.home g.B.Bays.out c.in-Some.shape f c.self.inside.bays c.self.inside.slots.items) (sym c.as_str.ensures.value) (opened g some) in
    on_err_weaker c.start.result (λ closed n p.
    subst (λ (s : NodesState g.row.B.Denot g.row.B-Disk.Denot). is_some (replica_in c.self.inside.shape c.start.new.slots.items n p) ≡ is_up s n p) c.self.view_is
    (subst (λ (o : Option Shape). is_some (replica_in o c.start.new.slots.items n p) ≡ is_some (replica_in o c.self.inside.slots.items n p)) (sym c.in-Some.is)
    (ap is_some (stopped_slot c.in-Some.shape c.self.inside.slots.items c.start.new.slots.items closed n p)))) c.start.ensures.closed

pub returns-in-Some-clause-holds : goal.returns-in-Some-clause-holds
returns-in-Some-clause-holds g c = λ t shape folder cells.
    let some = (goal.at.returns-in-Some-clause-holds g c).In-Some in
    let it = subst (λ (f : List ℕ). IsOpen g.B.Bays.tells g.B.Disk.Disk.tells g.B.Disk.Disk.content g.B.Bays.home g.B.Bays.out c.in-Some.shape f c.self.inside.bays c.self.inside.slots.items) (sym c.as_str.ensures.value) (opened g some) in
    subst (λ (s : NodesState g.row.B.Denot g.row.B-Disk.Denot). Holds g.B.Disk.Disk.content g.B.Bays.home shape folder cells s → Holds g.B.Disk.Disk.content g.B.Bays.home shape folder cells (record { shape = c.self.inside.shape; folder = string_bytes c.self.inside.folder; bays = c.start.new.bays; slots = c.start.new.slots.items })) c.self.view_is
    (subst (λ (o : Option Shape). Holds g.B.Disk.Disk.content g.B.Bays.home shape folder cells (record { shape = o; folder = string_bytes c.self.inside.folder; bays = c.self.inside.bays; slots = c.self.inside.slots.items }) → Holds g.B.Disk.Disk.content g.B.Bays.home shape folder cells (record { shape = o; folder = string_bytes c.self.inside.folder; bays = c.start.new.bays; slots = c.start.new.slots.items })) (sym c.in-Some.is)
    (subst (λ (f : List ℕ). Holds g.B.Disk.Disk.content g.B.Bays.home shape folder cells (record { shape = Some c.in-Some.shape; folder = f; bays = c.self.inside.bays; slots = c.self.inside.slots.items }) → Holds g.B.Disk.Disk.content g.B.Bays.home shape folder cells (record { shape = Some c.in-Some.shape; folder = f; bays = c.start.new.bays; slots = c.start.new.slots.items })) c.as_str.ensures.value
    (holds_for g.B.Disk.Disk.content g.B.Bays.home c.in-Some.shape c.as_str.result.now c.self.inside.bays c.start.new.bays c.self.inside.slots.items c.start.new.slots.items shape folder cells cells
    (either_way c.start.result _ _ _ _ _ c.start.ensures.slots c.start.ensures.spots c.start.ensures.closed c.start.ensures.closed_spots
    (λ slots spots. started_places g.B.Bays.tells g.B.Disk.Disk.tells g.B.Disk.Disk.content g.B.Disk.Disk.size g.B.Bays.home g.B.Bays.out g.met.B.Bays.known (Which.Node c.args.node) c.in-Some.shape c.as_str.result.now c.self.inside.bays c.start.new.bays c.self.inside.slots.items c.start.new.slots.items
    it.ranges it.long c.start.ensures.length it.due it.outs (are_empty g some) (λ u k undue due. it.places u k due) slots spots c.start.ensures.rest t cells)
    (λ closed closed_spots. stopped_places g.B.Bays.tells g.B.Disk.Disk.tells g.B.Disk.Disk.content g.B.Disk.Disk.size g.B.Bays.home g.B.Bays.out g.met.B.Bays.known c.in-Some.shape c.as_str.result.now c.self.inside.bays c.start.new.bays c.self.inside.slots.items c.start.new.slots.items closed closed_spots c.start.ensures.rest t cells)))))

pub returns-in-Some-clause-layouts : goal.returns-in-Some-clause-layouts
returns-in-Some-clause-layouts g c = λ t shape folder layouts.
    let some = (goal.at.returns-in-Some-clause-layouts g c).In-Some in
    let it = subst (λ (f : List ℕ). IsOpen g.B.Bays.tells g.B.Disk.Disk.tells g.B.Disk.Disk.content g.B.Bays.home g.B.Bays.out c.in-Some.shape f c.self.inside.bays c.self.inside.slots.items) (sym c.as_str.ensures.value) (opened g some) in
    subst (λ (s : NodesState g.row.B.Denot g.row.B-Disk.Denot). HaveLayouts g.B.Disk.Disk.content g.B.Bays.home shape folder layouts s → HaveLayouts g.B.Disk.Disk.content g.B.Bays.home shape folder layouts (record { shape = c.self.inside.shape; folder = string_bytes c.self.inside.folder; bays = c.start.new.bays; slots = c.start.new.slots.items })) c.self.view_is
    (subst (λ (o : Option Shape). HaveLayouts g.B.Disk.Disk.content g.B.Bays.home shape folder layouts (record { shape = o; folder = string_bytes c.self.inside.folder; bays = c.self.inside.bays; slots = c.self.inside.slots.items }) → HaveLayouts g.B.Disk.Disk.content g.B.Bays.home shape folder layouts (record { shape = o; folder = string_bytes c.self.inside.folder; bays = c.start.new.bays; slots = c.start.new.slots.items })) (sym c.in-Some.is)
    (subst (λ (f : List ℕ). HaveLayouts g.B.Disk.Disk.content g.B.Bays.home shape folder layouts (record { shape = Some c.in-Some.shape; folder = f; bays = c.self.inside.bays; slots = c.self.inside.slots.items }) → HaveLayouts g.B.Disk.Disk.content g.B.Bays.home shape folder layouts (record { shape = Some c.in-Some.shape; folder = f; bays = c.start.new.bays; slots = c.start.new.slots.items })) c.as_str.ensures.value
    (layouts_for g.B.Disk.Disk.content g.B.Bays.home c.in-Some.shape c.as_str.result.now c.self.inside.bays c.start.new.bays c.self.inside.slots.items c.start.new.slots.items shape folder layouts (λ other. layouts)
    (either_way c.start.result _ _ _ _ _ c.start.ensures.slots c.start.ensures.spots c.start.ensures.closed c.start.ensures.closed_spots
    (λ slots spots. started_layouts g.B.Bays.tells g.B.Disk.Disk.tells g.B.Disk.Disk.content g.B.Disk.Disk.size g.B.Bays.home g.B.Bays.out g.met.B.Bays.known (Which.Node c.args.node) c.in-Some.shape c.as_str.result.now c.self.inside.bays c.start.new.bays c.self.inside.slots.items c.start.new.slots.items
    it.ranges it.long c.start.ensures.length it.due it.outs (are_empty g some) (λ u k undue due. it.places u k due) slots spots c.start.ensures.rest t layouts)
    (λ closed closed_spots. stopped_layouts g.B.Bays.tells g.B.Disk.Disk.tells g.B.Disk.Disk.content g.B.Disk.Disk.size g.B.Bays.home g.B.Bays.out g.met.B.Bays.known c.in-Some.shape c.as_str.result.now c.self.inside.bays c.start.new.bays c.self.inside.slots.items c.start.new.slots.items closed closed_spots c.start.ensures.rest t layouts)))))

pub returns-in-Some-clause-out : goal.returns-in-Some-clause-out
returns-in-Some-clause-out g c = λ t before.
    let some = (goal.at.returns-in-Some-clause-out g c).In-Some in
    let it = subst (λ (f : List ℕ). IsOpen g.B.Bays.tells g.B.Disk.Disk.tells g.B.Disk.Disk.content g.B.Bays.home g.B.Bays.out c.in-Some.shape f c.self.inside.bays c.self.inside.slots.items) (sym c.as_str.ensures.value) (opened g some) in
    subst (λ (s : NodesState g.row.B.Denot g.row.B-Disk.Denot). OnlyOwnOut g.B.Bays.out before s → OnlyOwnOut g.B.Bays.out before (record { shape = c.self.inside.shape; folder = string_bytes c.self.inside.folder; bays = c.start.new.bays; slots = c.start.new.slots.items })) c.self.view_is
    (subst (λ (o : Option Shape). OnlyOwnOut g.B.Bays.out before (record { shape = o; folder = string_bytes c.self.inside.folder; bays = c.self.inside.bays; slots = c.self.inside.slots.items }) → OnlyOwnOut g.B.Bays.out before (record { shape = o; folder = string_bytes c.self.inside.folder; bays = c.start.new.bays; slots = c.start.new.slots.items })) (sym c.in-Some.is)
    (subst (λ (f : List ℕ). OnlyOwnOut g.B.Bays.out before (record { shape = Some c.in-Some.shape; folder = f; bays = c.self.inside.bays; slots = c.self.inside.slots.items }) → OnlyOwnOut g.B.Bays.out before (record { shape = Some c.in-Some.shape; folder = f; bays = c.start.new.bays; slots = c.start.new.slots.items })) c.as_str.ensures.value
    (either_way c.start.result _ _ _ _ _ c.start.ensures.slots c.start.ensures.spots c.start.ensures.closed c.start.ensures.closed_spots
    (λ slots spots. started_out g.B.Bays.tells g.B.Disk.Disk.tells g.B.Disk.Disk.content g.B.Disk.Disk.size g.B.Bays.home g.B.Bays.out g.met.B.Bays.known (Which.Node c.args.node) c.in-Some.shape c.as_str.result.now c.self.inside.bays c.start.new.bays c.self.inside.slots.items c.start.new.slots.items
    it.ranges it.long c.start.ensures.length it.due it.outs (are_empty g some) (λ u k undue due. it.places u k due) slots spots c.start.ensures.rest t before)
    (λ closed closed_spots own n p. out_as c.as_str.result.now (before n p) (replica_in (Some c.in-Some.shape) c.self.inside.slots.items n p) (replica_in (Some c.in-Some.shape) c.start.new.slots.items n p) _ _ (stopped_slot c.in-Some.shape c.self.inside.slots.items c.start.new.slots.items closed n p) (stopped_outs g.B.Bays.tells g.B.Disk.Disk.tells g.B.Disk.Disk.content g.B.Disk.Disk.size g.B.Bays.home g.B.Bays.out g.met.B.Bays.known c.in-Some.shape c.as_str.result.now c.self.inside.bays c.start.new.bays c.self.inside.slots.items c.start.new.slots.items closed closed_spots c.start.ensures.rest t n p) (own n p)))))

pub returns-in-Some-clause-refused : goal.returns-in-Some-clause-refused
returns-in-Some-clause-refused g c = λ refusal is. refused_node c.in-Some.shape c.args.node refusal (c.start.ensures.refused_place refusal is)

pub returns-in-Some-clause-failed : goal.returns-in-Some-clause-failed
returns-in-Some-clause-failed g c = rw (← c.self.view_is) c.start.ensures.failed
