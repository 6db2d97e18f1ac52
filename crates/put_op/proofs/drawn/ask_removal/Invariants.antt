use Rattle.std.proofs.Common.{◌≡◌, ◌++◌, ◌+◌, ◌≤◌, vec_len, vec_capacity}
use Rattle.operation.specs.Each.{to_each}
use Rattle.operation.specs.declared.sending.Errand.TheVariants.{Delete}
use Rattle.operation.specs.declared.sending.Purpose.TheVariants.{GivenUp}
use Rattle.put_op.proofs.drawn.ask_removal.Given as goal

abbrev pub invariant-loop-replica : goal.invariant-loop-replica
invariant-loop-replica l = (l.out.items ≡ l.initial.out.items ++ to_each GivenUp (Delete l.id 0) l.first l.replica) × (vec_len l.out ≤ vec_len l.initial.out + l.replica) × (vec_capacity l.initial.out ≤ vec_capacity l.out)
