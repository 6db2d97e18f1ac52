use Rattle.std.proofs.Common.{ℕ, List, Some, sym, ◌∙◌, ap, subst, arith}
use Rattle.std.specs.Prelude.{string_bytes}
use Rattle.lab_nodes.specs.declared.places.Which.{Which}
use Rattle.lab_nodes.specs.Layouts.{HaveLayouts}
use Rattle.lab_nodes.specs.Nodes.{Holds, IsOpen, NodesState, OnlyOwnOut}
use Rattle.lab_nodes.specs.Spots.{HasFailed}
use Rattle.lab_nodes.specs.Starting.{IsFirst}
use Rattle.lab_nodes.proofs.Beginning.{none_open, opened_holds, opened_layouts, opened_open, opened_out, opened_up, unopened_holds, unopened_layouts, unopened_out}
use Rattle.lab_nodes.proofs.Placing.{few_places}
use Rattle.lab_nodes.proofs.nodes.LabNodes.open.Goals as goal

pub start-requires-clause-few : goal.start-requires-clause-few
start-requires-clause-few g c = omega (arith, c.in_ok-slots.ensures.length, few_places c.args.shape.now c.requires.shape)

pub start-requires-clause-empty : goal.start-requires-clause-empty
start-requires-clause-empty g c = λ place meant. c.in_ok-slots.ensures.none place

pub start-requires-clause-out : goal.start-requires-clause-out
start-requires-clause-out g c = λ t place some. none_open c.args.shape.now c.in_ok-slots.slots.items c.in_ok-slots.ensures.none place some

pub returns-in-Err-clause-holds : goal.returns-in-Err-clause-holds
returns-in-Err-clause-holds g c = λ t cells.
    subst (λ (s : NodesState g.row.B.Denot g.row.B-Disk.Denot). Holds g.B.Disk.Disk.content g.B.Bays.home c.args.shape.now c.args.folder.now cells s → Holds g.B.Disk.Disk.content g.B.Bays.home c.args.shape.now c.args.folder.now cells (record { shape = c.self.inside.shape; folder = string_bytes c.self.inside.folder; bays = c.start.new.bays; slots = c.self.inside.slots.items })) c.self.view_is
    (unopened_holds g.B.Bays.tells g.B.Disk.Disk.tells g.B.Disk.Disk.content g.B.Disk.Disk.size g.B.Bays.home g.B.Bays.out g.met.B.Bays.known c.args.shape.now c.args.folder.now (record { shape = c.self.inside.shape; folder = string_bytes c.self.inside.folder; bays = c.self.inside.bays; slots = c.self.inside.slots.items }) (record { shape = c.self.inside.shape; folder = string_bytes c.self.inside.folder; bays = c.start.new.bays; slots = c.self.inside.slots.items }) c.in_ok-slots.slots.items c.start.new.slots.items
    (ap (λ (s : NodesState g.row.B.Denot g.row.B-Disk.Denot). s.shape) c.self.view_is ∙ c.requires.closed) (ap (λ (s : NodesState g.row.B.Denot g.row.B-Disk.Denot). s.shape) c.self.view_is ∙ c.requires.closed) c.in_ok-slots.ensures.none c.in-Err.ensures.closed c.in-Err.ensures.closed_spots c.start.ensures.rest t cells)

pub returns-in-Err-clause-layouts : goal.returns-in-Err-clause-layouts
returns-in-Err-clause-layouts g c = λ t layouts.
    subst (λ (s : NodesState g.row.B.Denot g.row.B-Disk.Denot). HaveLayouts g.B.Disk.Disk.content g.B.Bays.home c.args.shape.now c.args.folder.now layouts s → HaveLayouts g.B.Disk.Disk.content g.B.Bays.home c.args.shape.now c.args.folder.now layouts (record { shape = c.self.inside.shape; folder = string_bytes c.self.inside.folder; bays = c.start.new.bays; slots = c.self.inside.slots.items })) c.self.view_is
    (unopened_layouts g.B.Bays.tells g.B.Disk.Disk.tells g.B.Disk.Disk.content g.B.Disk.Disk.size g.B.Bays.home g.B.Bays.out g.met.B.Bays.known c.args.shape.now c.args.folder.now (record { shape = c.self.inside.shape; folder = string_bytes c.self.inside.folder; bays = c.self.inside.bays; slots = c.self.inside.slots.items }) (record { shape = c.self.inside.shape; folder = string_bytes c.self.inside.folder; bays = c.start.new.bays; slots = c.self.inside.slots.items }) c.in_ok-slots.slots.items c.start.new.slots.items
    (ap (λ (s : NodesState g.row.B.Denot g.row.B-Disk.Denot). s.shape) c.self.view_is ∙ c.requires.closed) (ap (λ (s : NodesState g.row.B.Denot g.row.B-Disk.Denot). s.shape) c.self.view_is ∙ c.requires.closed) c.in_ok-slots.ensures.none c.in-Err.ensures.closed c.in-Err.ensures.closed_spots c.start.ensures.rest t layouts)

pub returns-in-Err-clause-out : goal.returns-in-Err-clause-out
returns-in-Err-clause-out g c = λ t before.
    subst (λ (s : NodesState g.row.B.Denot g.row.B-Disk.Denot). OnlyOwnOut g.B.Bays.out before s → OnlyOwnOut g.B.Bays.out before (record { shape = c.self.inside.shape; folder = string_bytes c.self.inside.folder; bays = c.start.new.bays; slots = c.self.inside.slots.items })) c.self.view_is
    (unopened_out g.B.Bays.tells g.B.Disk.Disk.tells g.B.Disk.Disk.content g.B.Disk.Disk.size g.B.Bays.home g.B.Bays.out g.met.B.Bays.known c.args.shape.now c.args.folder.now (record { shape = c.self.inside.shape; folder = string_bytes c.self.inside.folder; bays = c.self.inside.bays; slots = c.self.inside.slots.items }) (record { shape = c.self.inside.shape; folder = string_bytes c.self.inside.folder; bays = c.start.new.bays; slots = c.self.inside.slots.items }) c.in_ok-slots.slots.items c.start.new.slots.items
    (ap (λ (s : NodesState g.row.B.Denot g.row.B-Disk.Denot). s.shape) c.self.view_is ∙ c.requires.closed) (ap (λ (s : NodesState g.row.B.Denot g.row.B-Disk.Denot). s.shape) c.self.view_is ∙ c.requires.closed) c.in_ok-slots.ensures.none c.in-Err.ensures.closed c.in-Err.ensures.closed_spots c.start.ensures.rest t before)

pub returns-in-Err-clause-refused : goal.returns-in-Err-clause-refused
returns-in-Err-clause-refused g c = λ refusal is.
    subst (λ (s : NodesState g.row.B.Denot g.row.B-Disk.Denot). g.B.Bays.tells → IsFirst g.B.Disk.Disk.tells g.B.Disk.Disk.content g.B.Disk.Disk.size Which.All c.args.shape.now c.args.folder.now (g.B.Bays.home s.bays) refusal) c.self.view_is
    (c.start.ensures.refused refusal (c.in-Err.is ∙ is))

pub returns-in-Err-clause-failed : goal.returns-in-Err-clause-failed
returns-in-Err-clause-failed g c = λ is.
    subst (λ (s : NodesState g.row.B.Denot g.row.B-Disk.Denot). HasFailed g.B.Disk.Disk.faults (g.B.Bays.faults s.bays) (g.B.Bays.faults c.start.new.bays)) c.self.view_is
    (c.start.ensures.failed (c.in-Err.is ∙ is))

pub invariant_of-self-2 : goal.invariant_of-self-2
invariant_of-self-2 g c =
    subst (λ (f : List ℕ). IsOpen g.B.Bays.tells g.B.Disk.Disk.tells g.B.Disk.Disk.content g.B.Bays.home g.B.Bays.out c.args.shape.now f c.start.new.bays c.start.new.slots.items) (sym c.in_ok-kept.ensures)
    (opened_open g.B.Bays.tells g.B.Disk.Disk.tells g.B.Disk.Disk.content g.B.Disk.Disk.size g.B.Bays.home g.B.Bays.out g.met.B.Bays.known c.args.shape.now c.args.folder.now (record { shape = c.self.inside.shape; folder = string_bytes c.self.inside.folder; bays = c.self.inside.bays; slots = c.self.inside.slots.items }) c.start.new.bays c.in_ok-slots.slots.items c.start.new.slots.items
    (ap (λ (s : NodesState g.row.B.Denot g.row.B-Disk.Denot). s.shape) c.self.view_is ∙ c.requires.closed) c.requires.shape c.in_ok-slots.ensures.length c.start.ensures.length c.in_ok-slots.ensures.none c.in-Ok.ensures.slots c.in-Ok.ensures.spots c.start.ensures.rest)

pub returns-clause-up : goal.returns-clause-up
returns-clause-up g c = λ n p. opened_up g.B.Bays.tells g.B.Disk.Disk.tells g.B.Disk.Disk.content g.B.Disk.Disk.size g.B.Bays.home g.B.Bays.out g.met.B.Bays.known c.args.shape.now c.args.folder.now (record { shape = c.self.inside.shape; folder = string_bytes c.self.inside.folder; bays = c.self.inside.bays; slots = c.self.inside.slots.items }) c.start.new.bays c.in_ok-slots.slots.items c.start.new.slots.items
    (ap (λ (s : NodesState g.row.B.Denot g.row.B-Disk.Denot). s.shape) c.self.view_is ∙ c.requires.closed) c.requires.shape c.in_ok-slots.ensures.length c.start.ensures.length c.in_ok-slots.ensures.none c.in-Ok.ensures.slots c.in-Ok.ensures.spots c.start.ensures.rest n p

pub returns-clause-holds : goal.returns-clause-holds
returns-clause-holds g c = λ t cells.
    subst (λ (f : List ℕ). Holds g.B.Disk.Disk.content g.B.Bays.home c.args.shape.now c.args.folder.now cells c.args.self.now → Holds g.B.Disk.Disk.content g.B.Bays.home c.args.shape.now c.args.folder.now cells (record { shape = Some c.args.shape.now; folder = f; bays = c.start.new.bays; slots = c.start.new.slots.items })) (sym c.in_ok-kept.ensures)
    (subst (λ (s : NodesState g.row.B.Denot g.row.B-Disk.Denot). Holds g.B.Disk.Disk.content g.B.Bays.home c.args.shape.now c.args.folder.now cells s → Holds g.B.Disk.Disk.content g.B.Bays.home c.args.shape.now c.args.folder.now cells (record { shape = Some c.args.shape.now; folder = c.args.folder.now; bays = c.start.new.bays; slots = c.start.new.slots.items })) c.self.view_is
    (opened_holds g.B.Bays.tells g.B.Disk.Disk.tells g.B.Disk.Disk.content g.B.Disk.Disk.size g.B.Bays.home g.B.Bays.out g.met.B.Bays.known c.args.shape.now c.args.folder.now (record { shape = c.self.inside.shape; folder = string_bytes c.self.inside.folder; bays = c.self.inside.bays; slots = c.self.inside.slots.items }) c.start.new.bays c.in_ok-slots.slots.items c.start.new.slots.items
    (ap (λ (s : NodesState g.row.B.Denot g.row.B-Disk.Denot). s.shape) c.self.view_is ∙ c.requires.closed) c.requires.shape c.in_ok-slots.ensures.length c.start.ensures.length c.in_ok-slots.ensures.none c.in-Ok.ensures.slots c.in-Ok.ensures.spots c.start.ensures.rest t cells))

pub returns-clause-layouts : goal.returns-clause-layouts
returns-clause-layouts g c = λ t layouts.
    subst (λ (f : List ℕ). HaveLayouts g.B.Disk.Disk.content g.B.Bays.home c.args.shape.now c.args.folder.now layouts c.args.self.now → HaveLayouts g.B.Disk.Disk.content g.B.Bays.home c.args.shape.now c.args.folder.now layouts (record { shape = Some c.args.shape.now; folder = f; bays = c.start.new.bays; slots = c.start.new.slots.items })) (sym c.in_ok-kept.ensures)
    (subst (λ (s : NodesState g.row.B.Denot g.row.B-Disk.Denot). HaveLayouts g.B.Disk.Disk.content g.B.Bays.home c.args.shape.now c.args.folder.now layouts s → HaveLayouts g.B.Disk.Disk.content g.B.Bays.home c.args.shape.now c.args.folder.now layouts (record { shape = Some c.args.shape.now; folder = c.args.folder.now; bays = c.start.new.bays; slots = c.start.new.slots.items })) c.self.view_is
    (opened_layouts g.B.Bays.tells g.B.Disk.Disk.tells g.B.Disk.Disk.content g.B.Disk.Disk.size g.B.Bays.home g.B.Bays.out g.met.B.Bays.known c.args.shape.now c.args.folder.now (record { shape = c.self.inside.shape; folder = string_bytes c.self.inside.folder; bays = c.self.inside.bays; slots = c.self.inside.slots.items }) c.start.new.bays c.in_ok-slots.slots.items c.start.new.slots.items
    (ap (λ (s : NodesState g.row.B.Denot g.row.B-Disk.Denot). s.shape) c.self.view_is ∙ c.requires.closed) c.requires.shape c.in_ok-slots.ensures.length c.start.ensures.length c.in_ok-slots.ensures.none c.in-Ok.ensures.slots c.in-Ok.ensures.spots c.start.ensures.rest t layouts))

pub returns-clause-out : goal.returns-clause-out
returns-clause-out g c = λ t before.
    subst (λ (f : List ℕ). OnlyOwnOut g.B.Bays.out before c.args.self.now → OnlyOwnOut g.B.Bays.out before (record { shape = Some c.args.shape.now; folder = f; bays = c.start.new.bays; slots = c.start.new.slots.items })) (sym c.in_ok-kept.ensures)
    (subst (λ (s : NodesState g.row.B.Denot g.row.B-Disk.Denot). OnlyOwnOut g.B.Bays.out before s → OnlyOwnOut g.B.Bays.out before (record { shape = Some c.args.shape.now; folder = c.args.folder.now; bays = c.start.new.bays; slots = c.start.new.slots.items })) c.self.view_is
    (opened_out g.B.Bays.tells g.B.Disk.Disk.tells g.B.Disk.Disk.content g.B.Disk.Disk.size g.B.Bays.home g.B.Bays.out g.met.B.Bays.known c.args.shape.now c.args.folder.now (record { shape = c.self.inside.shape; folder = string_bytes c.self.inside.folder; bays = c.self.inside.bays; slots = c.self.inside.slots.items }) c.start.new.bays c.in_ok-slots.slots.items c.start.new.slots.items
    (ap (λ (s : NodesState g.row.B.Denot g.row.B-Disk.Denot). s.shape) c.self.view_is ∙ c.requires.closed) c.requires.shape c.in_ok-slots.ensures.length c.start.ensures.length c.in_ok-slots.ensures.none c.in-Ok.ensures.slots c.in-Ok.ensures.spots c.start.ensures.rest t before))
