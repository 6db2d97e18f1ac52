use Rattle.std.proofs.Common.{subst, sym}
use Rattle.gate_slots.specs.Cell.{IsOldOrNew}
use Rattle.gate_slots.proofs.Loading.{if_ok_map, left_old_or_new}
use Rattle.gate_slots.proofs.slots.Slots.restart.Goals as goal

pub returns-clause-old_or_new : goal.returns-clause-old_or_new
returns-clause-old_or_new g c = if_ok_map c.load.result _ _ c.load.ensures.value (λ loaded is t before bytes replacing.
    let left = left_old_or_new c.args.base bytes (g.D.Disk.content before) (g.D.Disk.content c.args.disk.now) replacing.settled replacing.during (g.D.Disk.content c.stopped.new.self).seen (c.stopped.ensures.told t).left in
    subst (IsOldOrNew c.args.base bytes (g.D.Disk.content before)) (sym (is t)) left)
