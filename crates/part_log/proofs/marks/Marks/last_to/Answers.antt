use Rattle.std.proofs.Common.{◌≡◌, ℕ, ◌-◌, ◌<◌, length, sym, subst, arith}
use Rattle.part_log.specs.declared.marks.Mark.{Mark}
use Rattle.part_log.specs.Marks.{IsOneOf}
use Rattle.part_log.proofs.Marking.{one_at}
use Rattle.part_log.proofs.marks.Marks.last_to.Goals as goal

pub returns-then-mark-lsn-clause-among : goal.returns-then-mark-lsn-clause-among
returns-then-mark-lsn-clause-among c =
    let marks = c.args.self.now.list.items in
    let k : ℕ = c.partition_point-count.result - 1 in
    let within : k < length marks = omega (arith, c.partition_point-count.ensures.bound, c.if-count-eq0.false) in
    subst (λ (m : Mark). IsOneOf m marks) (sym c.index-mark.ensures) (one_at marks k c.index-mark.result.now within)
