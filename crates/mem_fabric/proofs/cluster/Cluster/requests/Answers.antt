use Rattle.std.proofs.Common.{arith}
use Rattle.mem_fabric.proofs.cluster.Cluster.requests.Goals as goal

pub overflow_cast-result : goal.overflow_cast-result
overflow_cast-result c = omega (arith, c.self.invariant.few_requests, c.self.invariant.small_sent)
