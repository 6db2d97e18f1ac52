use Rattle.std.proofs.Common.{sym, subst}
use Rattle.mem_fabric.specs.Sound.{RunsRequest}
use Rattle.mem_fabric.proofs.Making.{runs_nowhere}
use Rattle.mem_fabric.proofs.cluster.Cluster.run_at.Goals as goal

pub returns-in-None-clause-made : goal.returns-in-None-clause-made
returns-in-None-clause-made g c = subst (λ p. RunsRequest c.args.self.now p c.args.stays c.tick.result c.tick.new.self) (sym c.in-None.is)
    (runs_nowhere c.args.self.now c.tick.new.self c.args.stays c.tick.result c.tick.ensures.made c.tick.ensures.network)
