use Rattle.std.proofs.Common.{◌∙◌, ap, arith}
use Rattle.part_log.specs.declared.segment.SegmentInfo.{SegmentInfo}
use Rattle.part_log.proofs.Free.{last_used-at}
use Rattle.part_log.proofs.table.last_used.Goals as goal

pub returns-in-Some : goal.returns-in-Some
returns-in-Some c =
    ap (λ (x : SegmentInfo). x.used) c.in-Some.ensures.item.1 ∙ last_used-at c.args.segments.now c.in-Some.info.now (omega (arith, c.in-Some.ensures.item.3.0))
