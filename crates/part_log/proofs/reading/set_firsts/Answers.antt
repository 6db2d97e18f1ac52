use Rattle.std.proofs.Common.{◌≡◌, ℕ, ◌+◌, ◌-◌, ◌<◌, List, length, take, drop, ◌∙◌, ap, subst, arith, length-set}
use Rattle.part_log.specs.declared.segment.SegmentInfo.{SegmentInfo}
use Rattle.part_log.specs.Segments.{next_first, with_firsts}
use Rattle.part_log.proofs.Lives.{item, item_is, step_first, step_front, step_done}
use Rattle.part_log.proofs.reading.set_firsts.Goals as goal

pub loop-place-preserved : goal.loop-place-preserved
loop-place-preserved c =
    let xs = c.loop-place.segments.items in
    let ys = c.args.segments.now.items in
    let j : ℕ = c.loop-place.place - 1 in
    let e : c.loop-place.place ≡ j + 1 = omega (arith, c.loop-place-test.true) in
    let inv = c.loop-place.invariant in
    let lt : j < length xs = omega (arith, inv.within, inv.long, c.loop-place-test.true) in
    let front = subst (λ (k : ℕ). take k xs ≡ take k ys) e inv.front in
    let done = subst (λ (k : ℕ). drop k xs ≡ with_firsts (drop k ys) c.args.end) e inv.done in
    let next_is = subst (λ (k : ℕ). c.loop-place.next ≡ next_first (drop k ys) c.args.end) e inv.next_is in
    let one : SegmentInfo = item xs ys j c.args.end c.loop-place.next lt inv.long front done next_is in
    let one_is = item_is xs ys j c.args.end c.loop-place.next lt inv.long front done next_is in
    let set_is = c.settle_first-next.ensures.set one one_is in
    record {
      long = ap (λ (l : List SegmentInfo). length l) set_is ∙ length-set xs j _ ∙ inv.long;
      within = omega (arith, inv.within);
      front = ap (λ (l : List SegmentInfo). take j l) set_is ∙ step_front xs ys j c.args.end c.loop-place.next lt inv.long front done next_is;
      done = ap (λ (l : List SegmentInfo). drop j l) set_is ∙ step_done xs ys j c.args.end c.loop-place.next lt inv.long front done next_is;
      next_is = c.settle_first-next.ensures.first one one_is ∙ step_first xs ys j c.args.end c.loop-place.next lt inv.long front done next_is;
    }
