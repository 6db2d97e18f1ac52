use Rattle.std.proofs.Common.{arith}
use Rattle.router_core.proofs.router.Router.run.Goals as goal

pub turning-smaller : goal.turning-smaller
turning-smaller g c = let now = c.in_ok-turn.ensures.events in let count = c.in_ok-turn.ensures.count in omega arith
