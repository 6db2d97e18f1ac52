use Rattle.std.proofs.Common.{◌≡◌, ◌==◌, not, filter, take}
use Rattle.operation.proofs.piece.others.Given as goal

-- so far
abbrev pub invariant-loop-waiting : goal.invariant-loop-waiting
invariant-loop-waiting l = l.left.items ≡ filter (λ o. not (o.request == l.request)) (take l.waiting-index l.requests)
