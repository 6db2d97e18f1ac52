use Rattle.std.proofs.Common.{◌≡◌, ◌-◌, ◌^◌, List, true}
use Rattle.world_model.specs.declared.history.HistoryMark.{HistoryMark}
use Rattle.world_model.specs.Advancing.{Advances}
use Rattle.router_core.specs.Stands.{Stands, live_in}
use Rattle.router_core.specs.Ties.{Ties}
use Rattle.router_core.proofs.router.Router.run.Given as goal

-- what the turns so far came to
abbrev pub invariant-turning : goal.invariant-turning
invariant-turning g l = record {
  ties : (marks : List HistoryMark) → Ties (Stands l.fn.self) (g.F.Fabric.told l.fn.fabric) marks → Ties (Stands l.self) (g.F.Fabric.told l.fabric) marks;
  live : live_in l.self.stages ≡ live_in l.fn.self.stages;
  begun : l.self.begun ≡ l.fn.self.begun;
  shape : l.self.shape ≡ l.fn.self.shape;
  net : Advances g.F.Fabric.faults g.F.Fabric.opened g.F.Fabric.runs g.F.Fabric.advances l.fn.fabric l.fabric true;
}

-- each turn takes an event, and a router counts fewer than 2 ^ 64 of them
abbrev pub decreases-turning : goal.decreases-turning
decreases-turning g l = 2 ^ 64 - l.self.events
