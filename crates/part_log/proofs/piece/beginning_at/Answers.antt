use Rattle.std.proofs.Common.{ℕ, ◌-◌, ◌≤◌, List, length, ◌∙◌, ap, arith}
use Rattle.disk_core.proofs.Ranges.{length-range}
use Rattle.part_log.proofs.Beginnings.{at_hand, begins_all, begins_some}
use Rattle.part_log.proofs.piece.beginning_at.Goals as goal

pub returns-clause-begins : goal.returns-clause-begins
returns-clause-begins g c = λ t.
    let piece = c.hold.new.piece in
    let seen = (g.D.Disk.content c.args.disk.now).seen in
    let need = c.min-need.result in
    let within : need ≤ c.args.left = omega (arith, c.min-need.ensures) in
    let there = c.in_ok-hold.ensures.there in
    begins_all c.args.place need c.args.left seen c.part.result.now c.beginning_of.result within (omega (arith, g.met.D.Disk.whole c.args.disk.now t, c.requires.inside))
    (at_hand piece.from c.args.place need piece.bytes.items seen c.part.result.now (c.hold.ensures.held t) there.0 there.1 c.part.ensures)
    c.beginning_of.ensures

pub returns-clause-possible : goal.returns-clause-possible
returns-clause-possible g c =
    let piece = c.hold.new.piece in
    let need = c.min-need.result in
    let within : need ≤ c.args.left = omega (arith, c.min-need.ensures) in
    let there = c.in_ok-hold.ensures.there in
    begins_some need c.args.left c.part.result.now c.beginning_of.result
    (ap (λ (l : List ℕ). length l) c.part.ensures ∙ length-range (c.args.place - piece.from) need piece.bytes.items (omega (arith, there.0, there.1))) within c.beginning_of.ensures
