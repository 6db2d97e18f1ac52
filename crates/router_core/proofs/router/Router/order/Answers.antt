use Rattle.std.proofs.Common.{◌∷◌}
use Rattle.world_model.specs.declared.history.HistoryMark.TheVariants.{Ordered}
use Rattle.router_core.proofs.OrderingLaws.{ties_ordered}
use Rattle.router_core.proofs.router.Router.order.Goals as goal

pub returns-in_ok-go_on-in-Ok-clause-ties : goal.returns-in_ok-go_on-in-Ok-clause-ties
returns-in_ok-go_on-in-Ok-clause-ties g c = λ marks ties.
    c.in_ok-go_on-in-Ok.ensures.ties (Ordered c.args.order.now c.in-Ok.told ∷ marks)
    (ties_ordered c.args.self.now c.args.order.now c.in-Ok.told (g.F.Fabric.told c.args.fabric.now) (g.F.Fabric.told c.admin.new.self) marks c.in-Ok.ensures.told ties)
