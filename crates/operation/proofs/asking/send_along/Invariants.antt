use Rattle.std.proofs.Common.{◌≡◌, ◌+◌, ◌-◌, ◌≤◌, List, take, length, vec_len, vec_capacity}
use Rattle.operation.specs.Calls.{Call}
use Rattle.operation.specs.Pieces.{Target}
use Rattle.operation.specs.Wants.{HasSent, next_request, sends_along}
use Rattle.operation.proofs.asking.send_along.Given as goal

-- so far
abbrev pub invariant-loop-replica : goal.invariant-loop-replica
invariant-loop-replica g l =
    let asker = g.A.Asker in
    record {
      same : asker.errand l.asker ≡ asker.errand l.initial.asker;
      sent : (t : Target) (calls : List Call) → asker.stands l.initial.asker t calls → l.first ≡ next_request calls
          → HasSent (asker.stands l.asker t) (sends_along (asker.passes t) (asker.purpose t) (asker.errand l.initial.asker) calls (take l.replica-index l.order)) calls l.initial.out.items l.out.items l.request;
      room : vec_len l.out + (length l.order - l.replica-index) ≤ vec_capacity l.out;
      few : l.request ≤ l.first + l.replica-index;
      len : vec_len l.out ≤ vec_len l.initial.out + l.replica-index;
      capacity : vec_capacity l.initial.out ≤ vec_capacity l.out;
    }
