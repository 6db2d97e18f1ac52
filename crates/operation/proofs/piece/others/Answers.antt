use Rattle.std.proofs.Common.{◌≤◌, ◌==◌, not, filter, length, take, ap, arith, length-take}
use Rattle.operation.specs.declared.piece.Open.{Open}
use Rattle.operation.proofs.ListLaws.{filter_more, filter_short}
use Rattle.operation.proofs.piece.others.Goals as goal

pub keep_other-requires : goal.keep_other-requires
keep_other-requires c = record {
  room =
      let short : length (filter (λ (o : Open). not (o.request == c.args.request)) (take c.loop-waiting.waiting-index c.args.requests.now)) ≤ length (take c.loop-waiting.waiting-index c.args.requests.now) =
      filter_short (λ (o : Open). not (o.request == c.args.request)) (take c.loop-waiting.waiting-index c.args.requests.now) in
      omega (arith, ap length c.loop-waiting.invariant, length-take {A = Open});
}

pub loop-waiting-preserved : goal.loop-waiting-preserved
loop-waiting-preserved c =
    filter_more (λ (o : Open). not (o.request == c.args.request)) c.args.requests.now c.loop-waiting.waiting-index _ c.loop-waiting.left.items c.keep_other.new.left.items c.loop-waiting-test.true c.loop-waiting.invariant c.keep_other.ensures
