use Rattle.std.proofs.Common.{◌≡◌, ℕ, Some, length, arith, subst, sym, ap, ◌∙◌}
use Rattle.std.proofs.lemmas.Grind.{common_steps}
use Rattle.mem_fabric.specs.Past.{calls_of}
use Rattle.mem_fabric.specs.Sound.{State, IsSound}
use Rattle.mem_fabric.proofs.Playing.{all_wait}
use Rattle.mem_fabric.proofs.cluster.Cluster.queued.Goals as goal
use Rattle.world_model.specs.Fabric.{Awaits}

pub returns-clause-awaits : goal.returns-clause-awaits
returns-clause-awaits c =
    let held : c.len.result ≡ length c.self.inside.queue.items = grind (arith, common_steps) in
    let count : c.len.result ≡ length c.args.self.now.queue = held ∙ ap (λ (s : State). length s.queue) c.self.view_is in
    subst (λ (n : ℕ). Awaits (Some (calls_of c.args.self.now.past)) n) (sym count) (all_wait c.args.self.now (subst IsSound c.self.view_is c.self.invariant))
