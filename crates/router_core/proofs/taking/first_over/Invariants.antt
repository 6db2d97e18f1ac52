use Rattle.std.proofs.Common.{take}
use Rattle.router_core.specs.Ending.{IsFirst}
use Rattle.router_core.proofs.taking.first_over.Given as goal

-- the first of those before the place
abbrev pub invariant-loop-place : goal.invariant-loop-place
invariant-loop-place l = IsFirst l.first (take l.place l.stages)
