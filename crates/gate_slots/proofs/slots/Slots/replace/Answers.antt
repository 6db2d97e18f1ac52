use Rattle.std.proofs.Common.{subst}
use Rattle.disk_core.specs.Content.{ChangesBy}
use Rattle.disk_core.proofs.Changes.{no_change}
use Rattle.gate_slots.specs.Cell.{ReplacesCell}
use Rattle.gate_slots.specs.Slots.{CurrentSlot}
use Rattle.gate_slots.proofs.Loading.{stays_old_or_new, untouched_cell}
use Rattle.gate_slots.proofs.slots.Slots.replace.Goals as goal

pub returns-then-bytes-gt-LONGEST_VALUE-clause-crash :
    goal.returns-then-bytes-gt-LONGEST_VALUE-clause-crash
returns-then-bytes-gt-LONGEST_VALUE-clause-crash g c = λ t.
    let old = g.D.Disk.content c.args.disk.now in
    stays_old_or_new c.args.self.now.base c.args.bytes.now old old (c.requires.settled t) (no_change (ReplacesCell c.args.self.now.base c.args.bytes.now) old (λ d image. untouched_cell c.args.self.now.base c.args.bytes.now d))

pub returns-in_err-write_other-clause-crash : goal.returns-in_err-write_other-clause-crash
returns-in_err-write_other-clause-crash g c = λ t.
    let old = g.D.Disk.content c.args.disk.now in
    let new = g.D.Disk.content c.write_other.new.disk in
    let during = subst (λ (s : CurrentSlot). ChangesBy (ReplacesCell s.base c.args.bytes.now) old new) c.self.view_is (c.write_other.ensures.during t) in
    stays_old_or_new c.args.self.now.base c.args.bytes.now old new (c.requires.settled t) during

pub returns-clause-crash : goal.returns-clause-crash
returns-clause-crash g c = λ t.
    let old = g.D.Disk.content c.args.disk.now in
    let new = g.D.Disk.content c.write_other.new.disk in
    let during = subst (λ (s : CurrentSlot). ChangesBy (ReplacesCell s.base c.args.bytes.now) old new) c.self.view_is (c.write_other.ensures.during t) in
    stays_old_or_new c.args.self.now.base c.args.bytes.now old new (c.requires.settled t) during
