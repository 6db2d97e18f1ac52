use Rattle.std.proofs.Common.{◌≡◌, ℕ, ◌+◌, ◌-◌, length, get_or, set, ◌∙◌, ap, arith}
use Rattle.part_log.specs.declared.segment.SegmentInfo.{SegmentInfo}
use Rattle.part_log.proofs.Putting.{with_more-at}
use Rattle.part_log.proofs.Free.{last_used-at}
use Rattle.part_log.proofs.appending.grow_last.Goals as goal

pub overflow_add-index_mut : goal.overflow_add-index_mut
overflow_add-index_mut c =
    let xs = c.args.segments.now.items in
    let x = c.index_mut.result.now in
    let count : c.len-count.result ≡ length xs = omega (arith, c.len-count.ensures, c.args.segments.now.ok) in
    let is : x ≡ get_or xs (length xs - 1) x = c.index_mut.ensures.value ∙ ap (λ (n : ℕ). get_or xs (n - 1) x) count in
    omega (arith, ap (λ (i : SegmentInfo). i.used) is, last_used-at xs x (omega (arith, count, c.if-count-gt0.true)), c.requires)

pub returns-then-count-gt0 : goal.returns-then-count-gt0
returns-then-count-gt0 c =
    let xs = c.args.segments.now.items in
    let x = c.index_mut.result.now in
    let count : c.len-count.result ≡ length xs = omega (arith, c.len-count.ensures, c.args.segments.now.ok) in
    let is : x ≡ get_or xs (length xs - 1) x = c.index_mut.ensures.value ∙ ap (λ (n : ℕ). get_or xs (n - 1) x) count in
    ap (λ (n : ℕ). set xs (n - 1) (record x { used = x.used + c.args.size })) count
    ∙ ap (λ (y : SegmentInfo). set xs (length xs - 1) (record y { used = y.used + c.args.size })) is
    ∙ with_more-at xs x c.args.size (omega (arith, count, c.if-count-gt0.true))
