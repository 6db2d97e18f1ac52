use Rattle.std.proofs.Common.{◌≡◌, ◌⊎◌, true, slice_set, Option, sym, subst}
use Rattle.std.specs.Option.{is_some}
use Rattle.std.specs.Prelude.{string_bytes}
use Rattle.cell_model.specs.Asks.{Answers, IsRefusal, id_of}
use Rattle.cell_model.specs.Pages.{PagesCells}
use Rattle.replica_core.specs.State.{IsPacked, ReplicaState}
use Rattle.world_model.specs.declared.shape.Shape.{Shape}
use Rattle.lab_nodes.specs.Holding.{settings_of}
use Rattle.lab_nodes.specs.Layouts.{HaveLayouts, asked_layouts}
use Rattle.lab_nodes.specs.Nodes.{AsksReplica, Holds, IsNodes, IsOpen, IsPlaceOf, NodesState, asked_cells, is_up, replica_at, replica_in}
use Rattle.lab_nodes.proofs.Asking.{asks_fault, asks_none, asks_some}
use Rattle.lab_nodes.proofs.Halting.{holds_for, places_of}
use Rattle.lab_nodes.proofs.Packing.{layouts_for, layouts_of}
use Rattle.lab_nodes.proofs.Setting.{asked_answered, asked_holds, asked_is_packed, asked_laid, asked_open, asked_others, asked_pages, asked_state, asked_up, unasked_holds, unasked_layouts}
use Rattle.lab_nodes.proofs.Walking.{slot_found}
use Rattle.lab_nodes.proofs.nodes.LabNodes.ask.Goals as goal
use Rattle.lab_nodes.proofs.nodes.LabNodes.ask.Goals.{In-Some, In-None}

place_is : (g : _) (c : In-Some g) → IsPlaceOf {B = g.row.B.Denot} {D = g.row.B-Disk.Denot} (record { shape = c.self.inside.shape; folder = string_bytes c.self.inside.folder; bays = c.self.inside.bays; slots = c.self.inside.slots.items }) c.args.node c.args.partition c.in-Some.place
place_is g c = subst (λ (s : NodesState g.row.B.Denot g.row.B-Disk.Denot). IsPlaceOf s c.args.node c.args.partition c.in-Some.place) (sym c.self.view_is) c.in-Some.ensures.some

opened : (g : _) (c : In-Some g) → IsOpen g.B.Bays.tells g.B.Disk.Disk.tells g.B.Disk.Disk.content g.B.Bays.home g.B.Bays.out (place_is g c).shape (string_bytes c.self.inside.folder) c.self.inside.bays c.self.inside.slots.items
opened g c = subst (λ (o : Option Shape). IsNodes g.B.Bays.tells g.B.Disk.Disk.tells g.B.Disk.Disk.content g.B.Bays.home g.B.Bays.out o (string_bytes c.self.inside.folder) c.self.inside.bays c.self.inside.slots.items) (place_is g c).is_open c.self.invariant

pub invariant_of-self : goal.invariant_of-self
invariant_of-self g c =
    let it = (goal.at.invariant_of-self g c).In-Some in
    let at = place_is g it in
    let was = slot_found c.self.inside.slots.items c.in-Some.place c.index_mut.result.now at.within c.index_mut.ensures.value in
    let asked = subst (λ (s : Option (ReplicaState g.row.B-Disk.Denot)). AsksReplica g.B.Disk.Disk.tells g.B.Disk.Disk.content g.B.Disk.Disk.size g.B.Disk.Disk.faults s c.args.ask c.ask_slot.result c.ask_slot.new.slot) (sym was) c.ask_slot.ensures in
    subst (λ (o : Option Shape). IsNodes g.B.Bays.tells g.B.Disk.Disk.tells g.B.Disk.Disk.content g.B.Bays.home g.B.Bays.out o (string_bytes c.self.inside.folder) c.self.inside.bays (slice_set c.self.inside.slots.items c.in-Some.place c.ask_slot.new.slot)) (sym at.is_open)
    (asked_open g.B.Bays.tells g.B.Disk.Disk.tells g.B.Disk.Disk.content g.B.Disk.Disk.size g.B.Disk.Disk.faults g.B.Bays.home g.B.Bays.out at.shape (string_bytes c.self.inside.folder) c.self.inside.bays c.self.inside.slots.items c.args.node c.args.partition c.in-Some.place c.ask_slot.new.slot c.args.ask c.ask_slot.result
    (opened g it) at.some_node at.column at.is at.within asked)

pub returns-in-Some-clause-asked : goal.returns-in-Some-clause-asked
returns-in-Some-clause-asked g c =
    let it = (goal.at.returns-in-Some-clause-asked g c).In-Some in
    let at = place_is g it in
    let was = slot_found c.self.inside.slots.items c.in-Some.place c.index_mut.result.now at.within c.index_mut.ensures.value in
    let asked = subst (λ (s : Option (ReplicaState g.row.B-Disk.Denot)). AsksReplica g.B.Disk.Disk.tells g.B.Disk.Disk.content g.B.Disk.Disk.size g.B.Disk.Disk.faults s c.args.ask c.ask_slot.result c.ask_slot.new.slot) (sym was) c.ask_slot.ensures in
    subst (λ (s : NodesState g.row.B.Denot g.row.B-Disk.Denot). AsksReplica g.B.Disk.Disk.tells g.B.Disk.Disk.content g.B.Disk.Disk.size g.B.Disk.Disk.faults (replica_at s c.args.node c.args.partition) c.args.ask c.ask_slot.result (replica_in c.self.inside.shape (slice_set c.self.inside.slots.items c.in-Some.place c.ask_slot.new.slot) c.args.node c.args.partition)) c.self.view_is
    (subst (λ (o : Option Shape). AsksReplica g.B.Disk.Disk.tells g.B.Disk.Disk.content g.B.Disk.Disk.size g.B.Disk.Disk.faults (replica_in o c.self.inside.slots.items c.args.node c.args.partition) c.args.ask c.ask_slot.result (replica_in o (slice_set c.self.inside.slots.items c.in-Some.place c.ask_slot.new.slot) c.args.node c.args.partition)) (sym at.is_open)
    (asked_state g.B.Bays.tells g.B.Disk.Disk.tells g.B.Disk.Disk.content g.B.Disk.Disk.size g.B.Disk.Disk.faults g.B.Bays.home g.B.Bays.out at.shape (string_bytes c.self.inside.folder) c.self.inside.bays c.self.inside.slots.items c.args.node c.args.partition c.in-Some.place c.ask_slot.new.slot c.args.ask c.ask_slot.result
    (opened g it) at.some_node at.column at.is at.within asked))

pub returns-in-Some-clause-others : goal.returns-in-Some-clause-others
returns-in-Some-clause-others g c = λ n p apart.
    let it = (goal.at.returns-in-Some-clause-others g c).In-Some in
    let at = place_is g it in
    let was = slot_found c.self.inside.slots.items c.in-Some.place c.index_mut.result.now at.within c.index_mut.ensures.value in
    let asked = subst (λ (s : Option (ReplicaState g.row.B-Disk.Denot)). AsksReplica g.B.Disk.Disk.tells g.B.Disk.Disk.content g.B.Disk.Disk.size g.B.Disk.Disk.faults s c.args.ask c.ask_slot.result c.ask_slot.new.slot) (sym was) c.ask_slot.ensures in
    subst (λ (s : NodesState g.row.B.Denot g.row.B-Disk.Denot). replica_in c.self.inside.shape (slice_set c.self.inside.slots.items c.in-Some.place c.ask_slot.new.slot) n p ≡ replica_at s n p) c.self.view_is
    (subst (λ (o : Option Shape). replica_in o (slice_set c.self.inside.slots.items c.in-Some.place c.ask_slot.new.slot) n p ≡ replica_in o c.self.inside.slots.items n p) (sym at.is_open)
    (asked_others g.B.Bays.tells g.B.Disk.Disk.tells g.B.Disk.Disk.content g.B.Disk.Disk.size g.B.Disk.Disk.faults g.B.Bays.home g.B.Bays.out at.shape (string_bytes c.self.inside.folder) c.self.inside.bays c.self.inside.slots.items c.args.node c.args.partition c.in-Some.place c.ask_slot.new.slot c.args.ask c.ask_slot.result
    (opened g it) at.some_node at.column at.is at.within asked n p apart))

pub returns-in-Some-clause-up : goal.returns-in-Some-clause-up
returns-in-Some-clause-up g c = λ n p.
    let it = (goal.at.returns-in-Some-clause-up g c).In-Some in
    let at = place_is g it in
    let was = slot_found c.self.inside.slots.items c.in-Some.place c.index_mut.result.now at.within c.index_mut.ensures.value in
    let asked = subst (λ (s : Option (ReplicaState g.row.B-Disk.Denot)). AsksReplica g.B.Disk.Disk.tells g.B.Disk.Disk.content g.B.Disk.Disk.size g.B.Disk.Disk.faults s c.args.ask c.ask_slot.result c.ask_slot.new.slot) (sym was) c.ask_slot.ensures in
    subst (λ (s : NodesState g.row.B.Denot g.row.B-Disk.Denot). is_some (replica_in c.self.inside.shape (slice_set c.self.inside.slots.items c.in-Some.place c.ask_slot.new.slot) n p) ≡ is_up s n p) c.self.view_is
    (subst (λ (o : Option Shape). is_some (replica_in o (slice_set c.self.inside.slots.items c.in-Some.place c.ask_slot.new.slot) n p) ≡ is_some (replica_in o c.self.inside.slots.items n p)) (sym at.is_open)
    (asked_up g.B.Bays.tells g.B.Disk.Disk.tells g.B.Disk.Disk.content g.B.Disk.Disk.size g.B.Disk.Disk.faults g.B.Bays.home g.B.Bays.out at.shape (string_bytes c.self.inside.folder) c.self.inside.bays c.self.inside.slots.items c.args.node c.args.partition c.in-Some.place c.ask_slot.new.slot c.args.ask c.ask_slot.result
    (opened g it) at.some_node at.column at.is at.within asked n p))

pub returns-in-Some-clause-none : goal.returns-in-Some-clause-none
returns-in-Some-clause-none g c = asks_none g.B.Disk.Disk.tells g.B.Disk.Disk.content g.B.Disk.Disk.size g.B.Disk.Disk.faults c.args.ask c.ask_slot.result (replica_at c.args.self.now c.args.node c.args.partition) _ (returns-in-Some-clause-asked g c)

pub returns-in-Some-clause-some : goal.returns-in-Some-clause-some
returns-in-Some-clause-some g c = asks_some g.B.Disk.Disk.tells g.B.Disk.Disk.content g.B.Disk.Disk.size g.B.Disk.Disk.faults c.args.ask c.ask_slot.result (replica_at c.args.self.now c.args.node c.args.partition) _ (returns-in-Some-clause-asked g c)

pub returns-in-Some-clause-fault : goal.returns-in-Some-clause-fault
returns-in-Some-clause-fault g c = asks_fault g.B.Disk.Disk.tells g.B.Disk.Disk.content g.B.Disk.Disk.size g.B.Disk.Disk.faults c.args.ask c.ask_slot.result (replica_at c.args.self.now c.args.node c.args.partition) _ (returns-in-Some-clause-asked g c)

pub returns-in-Some-clause-holds : goal.returns-in-Some-clause-holds
returns-in-Some-clause-holds g c = λ t shape folder cells holds calm.
    let it = (goal.at.returns-in-Some-clause-holds g c).In-Some in
    let at = place_is g it in
    let was = slot_found c.self.inside.slots.items c.in-Some.place c.index_mut.result.now at.within c.index_mut.ensures.value in
    let asked = subst (λ (s : Option (ReplicaState g.row.B-Disk.Denot)). AsksReplica g.B.Disk.Disk.tells g.B.Disk.Disk.content g.B.Disk.Disk.size g.B.Disk.Disk.faults s c.args.ask c.ask_slot.result c.ask_slot.new.slot) (sym was) c.ask_slot.ensures in
    let new = asked_cells cells c.args.node c.args.partition c.args.ask c.ask_slot.result in
    subst (λ (s : NodesState g.row.B.Denot g.row.B-Disk.Denot). Holds g.B.Disk.Disk.content g.B.Bays.home shape folder cells s → Holds g.B.Disk.Disk.content g.B.Bays.home shape folder new (record { shape = c.self.inside.shape; folder = string_bytes c.self.inside.folder; bays = c.self.inside.bays; slots = slice_set c.self.inside.slots.items c.in-Some.place c.ask_slot.new.slot })) c.self.view_is
    (subst (λ (o : Option Shape). Holds g.B.Disk.Disk.content g.B.Bays.home shape folder cells (record { shape = o; folder = string_bytes c.self.inside.folder; bays = c.self.inside.bays; slots = c.self.inside.slots.items }) → Holds g.B.Disk.Disk.content g.B.Bays.home shape folder new (record { shape = o; folder = string_bytes c.self.inside.folder; bays = c.self.inside.bays; slots = slice_set c.self.inside.slots.items c.in-Some.place c.ask_slot.new.slot })) (sym at.is_open)
    (holds_for g.B.Disk.Disk.content g.B.Bays.home at.shape (string_bytes c.self.inside.folder) c.self.inside.bays c.self.inside.bays c.self.inside.slots.items (slice_set c.self.inside.slots.items c.in-Some.place c.ask_slot.new.slot) shape folder cells new
    (asked_holds g.B.Bays.tells g.B.Disk.Disk.tells g.B.Disk.Disk.content g.B.Disk.Disk.size g.B.Disk.Disk.faults g.B.Bays.home g.B.Bays.out at.shape (string_bytes c.self.inside.folder) c.self.inside.bays c.self.inside.slots.items c.args.node c.args.partition c.in-Some.place c.ask_slot.new.slot c.args.ask c.ask_slot.result
    (opened g it) at.some_node at.column at.is at.within asked t calm cells))) holds

pub returns-in-Some-clause-answered : goal.returns-in-Some-clause-answered
returns-in-Some-clause-answered g c = λ t shape folder cells holds calm up.
    let it = (goal.at.returns-in-Some-clause-answered g c).In-Some in
    let at = place_is g it in
    let was = slot_found c.self.inside.slots.items c.in-Some.place c.index_mut.result.now at.within c.index_mut.ensures.value in
    let asked = subst (λ (s : Option (ReplicaState g.row.B-Disk.Denot)). AsksReplica g.B.Disk.Disk.tells g.B.Disk.Disk.content g.B.Disk.Disk.size g.B.Disk.Disk.faults s c.args.ask c.ask_slot.result c.ask_slot.new.slot) (sym was) c.ask_slot.ensures in
    subst (λ (s : NodesState g.row.B.Denot g.row.B-Disk.Denot). Holds g.B.Disk.Disk.content g.B.Bays.home shape folder cells s → is_up s c.args.node c.args.partition ≡ true → Answers (cells c.args.node c.args.partition (id_of c.args.ask)) c.args.ask c.ask_slot.result ⊎ IsRefusal c.args.ask c.ask_slot.result) c.self.view_is
    (subst (λ (o : Option Shape). Holds g.B.Disk.Disk.content g.B.Bays.home shape folder cells (record { shape = o; folder = string_bytes c.self.inside.folder; bays = c.self.inside.bays; slots = c.self.inside.slots.items }) → is_some (replica_in o c.self.inside.slots.items c.args.node c.args.partition) ≡ true → Answers (cells c.args.node c.args.partition (id_of c.args.ask)) c.args.ask c.ask_slot.result ⊎ IsRefusal c.args.ask c.ask_slot.result) (sym at.is_open)
    (λ held some. asked_answered g.B.Bays.tells g.B.Disk.Disk.tells g.B.Disk.Disk.content g.B.Disk.Disk.size g.B.Disk.Disk.faults g.B.Bays.home g.B.Bays.out at.shape (string_bytes c.self.inside.folder) c.self.inside.bays c.self.inside.slots.items c.args.node c.args.partition c.in-Some.place c.ask_slot.new.slot c.args.ask c.ask_slot.result
    (opened g it) at.some_node at.column at.is at.within asked t cells (places_of g.B.Disk.Disk.content g.B.Bays.home at.shape (string_bytes c.self.inside.folder) c.self.inside.bays c.self.inside.slots.items shape folder cells held) some)) holds up

pub returns-in-Some-clause-pages : goal.returns-in-Some-clause-pages
returns-in-Some-clause-pages g c = λ t shape folder cells holds.
    let it = (goal.at.returns-in-Some-clause-pages g c).In-Some in
    let at = place_is g it in
    let was = slot_found c.self.inside.slots.items c.in-Some.place c.index_mut.result.now at.within c.index_mut.ensures.value in
    let asked = subst (λ (s : Option (ReplicaState g.row.B-Disk.Denot)). AsksReplica g.B.Disk.Disk.tells g.B.Disk.Disk.content g.B.Disk.Disk.size g.B.Disk.Disk.faults s c.args.ask c.ask_slot.result c.ask_slot.new.slot) (sym was) c.ask_slot.ensures in
    subst (λ (s : NodesState g.row.B.Denot g.row.B-Disk.Denot). Holds g.B.Disk.Disk.content g.B.Bays.home shape folder cells s → PagesCells (cells c.args.node c.args.partition) c.ask_slot.result) c.self.view_is
    (subst (λ (o : Option Shape). Holds g.B.Disk.Disk.content g.B.Bays.home shape folder cells (record { shape = o; folder = string_bytes c.self.inside.folder; bays = c.self.inside.bays; slots = c.self.inside.slots.items }) → PagesCells (cells c.args.node c.args.partition) c.ask_slot.result) (sym at.is_open)
    (λ held. asked_pages g.B.Bays.tells g.B.Disk.Disk.tells g.B.Disk.Disk.content g.B.Disk.Disk.size g.B.Disk.Disk.faults g.B.Bays.home g.B.Bays.out at.shape (string_bytes c.self.inside.folder) c.self.inside.bays c.self.inside.slots.items c.args.node c.args.partition c.in-Some.place c.ask_slot.new.slot c.args.ask c.ask_slot.result
    (opened g it) at.some_node at.column at.is at.within asked t cells (places_of g.B.Disk.Disk.content g.B.Bays.home at.shape (string_bytes c.self.inside.folder) c.self.inside.bays c.self.inside.slots.items shape folder cells held))) holds

pub returns-in-None-clause-holds : goal.returns-in-None-clause-holds
returns-in-None-clause-holds g c = λ t shape folder cells holds calm.
    let it = (goal.at.returns-in-None-clause-holds g c).In-None in
    unasked_holds g.B.Disk.Disk.content g.B.Bays.home shape folder cells c.args.node c.args.partition c.args.ask c.args.self.now holds

pub returns-in-Some-clause-packed : goal.returns-in-Some-clause-packed
returns-in-Some-clause-packed g c = λ t shape folder cells layouts holds have calm up.
    let it = (goal.at.returns-in-Some-clause-packed g c).In-Some in
    let at = place_is g it in
    let was = slot_found c.self.inside.slots.items c.in-Some.place c.index_mut.result.now at.within c.index_mut.ensures.value in
    let asked = subst (λ (s : Option (ReplicaState g.row.B-Disk.Denot)). AsksReplica g.B.Disk.Disk.tells g.B.Disk.Disk.content g.B.Disk.Disk.size g.B.Disk.Disk.faults s c.args.ask c.ask_slot.result c.ask_slot.new.slot) (sym was) c.ask_slot.ensures in
    subst (λ (s : NodesState g.row.B.Denot g.row.B-Disk.Denot). Holds g.B.Disk.Disk.content g.B.Bays.home shape folder cells s → HaveLayouts g.B.Disk.Disk.content g.B.Bays.home shape folder layouts s → is_up s c.args.node c.args.partition ≡ true → IsPacked (settings_of shape) (layouts c.args.node c.args.partition) (cells c.args.node c.args.partition (id_of c.args.ask)) c.args.ask c.ask_slot.result) c.self.view_is
    (subst (λ (o : Option Shape). Holds g.B.Disk.Disk.content g.B.Bays.home shape folder cells (record { shape = o; folder = string_bytes c.self.inside.folder; bays = c.self.inside.bays; slots = c.self.inside.slots.items }) → HaveLayouts g.B.Disk.Disk.content g.B.Bays.home shape folder layouts (record { shape = o; folder = string_bytes c.self.inside.folder; bays = c.self.inside.bays; slots = c.self.inside.slots.items }) → is_some (replica_in o c.self.inside.slots.items c.args.node c.args.partition) ≡ true → IsPacked (settings_of shape) (layouts c.args.node c.args.partition) (cells c.args.node c.args.partition (id_of c.args.ask)) c.args.ask c.ask_slot.result) (sym at.is_open)
    (λ held laid some. subst (λ (s : Shape). IsPacked (settings_of s) (layouts c.args.node c.args.partition) (cells c.args.node c.args.partition (id_of c.args.ask)) c.args.ask c.ask_slot.result) held.named.0
    (asked_is_packed g.B.Bays.tells g.B.Disk.Disk.tells g.B.Disk.Disk.content g.B.Disk.Disk.size g.B.Disk.Disk.faults g.B.Bays.home g.B.Bays.out at.shape (string_bytes c.self.inside.folder) c.self.inside.bays c.self.inside.slots.items c.args.node c.args.partition c.in-Some.place c.ask_slot.new.slot c.args.ask c.ask_slot.result
    (opened g it) at.some_node at.column at.is at.within asked t cells layouts (places_of g.B.Disk.Disk.content g.B.Bays.home at.shape (string_bytes c.self.inside.folder) c.self.inside.bays c.self.inside.slots.items shape folder cells held) (layouts_of g.B.Disk.Disk.content g.B.Bays.home at.shape (string_bytes c.self.inside.folder) c.self.inside.bays c.self.inside.slots.items shape folder layouts laid) some))) holds have up

pub returns-in-Some-clause-layouts : goal.returns-in-Some-clause-layouts
returns-in-Some-clause-layouts g c = λ t shape folder cells layouts holds have calm.
    let it = (goal.at.returns-in-Some-clause-layouts g c).In-Some in
    let at = place_is g it in
    let was = slot_found c.self.inside.slots.items c.in-Some.place c.index_mut.result.now at.within c.index_mut.ensures.value in
    let asked = subst (λ (s : Option (ReplicaState g.row.B-Disk.Denot)). AsksReplica g.B.Disk.Disk.tells g.B.Disk.Disk.content g.B.Disk.Disk.size g.B.Disk.Disk.faults s c.args.ask c.ask_slot.result c.ask_slot.new.slot) (sym was) c.ask_slot.ensures in
    let new = λ (s : Shape). asked_layouts (settings_of s) cells layouts c.args.node c.args.partition c.args.ask c.ask_slot.result in
    subst (λ (s : NodesState g.row.B.Denot g.row.B-Disk.Denot). Holds g.B.Disk.Disk.content g.B.Bays.home shape folder cells s → HaveLayouts g.B.Disk.Disk.content g.B.Bays.home shape folder layouts s → HaveLayouts g.B.Disk.Disk.content g.B.Bays.home shape folder (new shape) (record { shape = c.self.inside.shape; folder = string_bytes c.self.inside.folder; bays = c.self.inside.bays; slots = slice_set c.self.inside.slots.items c.in-Some.place c.ask_slot.new.slot })) c.self.view_is
    (subst (λ (o : Option Shape). Holds g.B.Disk.Disk.content g.B.Bays.home shape folder cells (record { shape = o; folder = string_bytes c.self.inside.folder; bays = c.self.inside.bays; slots = c.self.inside.slots.items }) → HaveLayouts g.B.Disk.Disk.content g.B.Bays.home shape folder layouts (record { shape = o; folder = string_bytes c.self.inside.folder; bays = c.self.inside.bays; slots = c.self.inside.slots.items }) → HaveLayouts g.B.Disk.Disk.content g.B.Bays.home shape folder (new shape) (record { shape = o; folder = string_bytes c.self.inside.folder; bays = c.self.inside.bays; slots = slice_set c.self.inside.slots.items c.in-Some.place c.ask_slot.new.slot })) (sym at.is_open)
    (λ held. layouts_for g.B.Disk.Disk.content g.B.Bays.home at.shape (string_bytes c.self.inside.folder) c.self.inside.bays c.self.inside.bays c.self.inside.slots.items (slice_set c.self.inside.slots.items c.in-Some.place c.ask_slot.new.slot) shape folder layouts new
    (asked_laid g.B.Bays.tells g.B.Disk.Disk.tells g.B.Disk.Disk.content g.B.Disk.Disk.size g.B.Disk.Disk.faults g.B.Bays.home g.B.Bays.out at.shape (string_bytes c.self.inside.folder) c.self.inside.bays c.self.inside.slots.items c.args.node c.args.partition c.in-Some.place c.ask_slot.new.slot c.args.ask c.ask_slot.result
    (opened g it) at.some_node at.column at.is at.within asked t calm cells layouts (places_of g.B.Disk.Disk.content g.B.Bays.home at.shape (string_bytes c.self.inside.folder) c.self.inside.bays c.self.inside.slots.items shape folder cells held)))) holds have

pub returns-in-None-clause-layouts : goal.returns-in-None-clause-layouts
returns-in-None-clause-layouts g c = λ t shape folder cells layouts holds have calm.
    unasked_layouts g.B.Disk.Disk.content g.B.Bays.home shape folder cells layouts c.args.node c.args.partition c.args.ask c.args.self.now have
