use Rattle.gate_slots.proofs.Loading.{settled_by_sync}
use Rattle.gate_slots.proofs.tests.put.Goals as goal

pub replace-requires-clause-settled : goal.replace-requires-clause-settled
replace-requires-clause-settled g c = λ t.
    c.in_ok-slots.ensures.settled t c.in_ok-slots.slots.base 2048 (settled_by_sync c.in_ok-slots.slots.base 2048 (g.D.Disk.content c.sync.new.self) (c.in_ok-sync.ensures.told t).only)
