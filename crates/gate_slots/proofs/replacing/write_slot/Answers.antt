use Rattle.gate_slots.proofs.Writes.{slot_shut, slot_written}
use Rattle.gate_slots.proofs.replacing.write_slot.Goals as goal

pub returns-in_err-close_gate-clause-during : goal.returns-in_err-close_gate-clause-during
returns-in_err-close_gate-clause-during g c = λ t.
    slot_shut c.args.gate c.args.rest.now c.requires.fits _ (g.D.Disk.content c.close_gate.new.disk) (c.close_gate.ensures.during t)

pub returns-clause-during : goal.returns-clause-during
returns-clause-during g c = λ t.
    slot_written c.args.gate c.args.rest.now c.requires.fits (g.D.Disk.content c.args.disk.now) (g.D.Disk.content c.close_gate.new.disk) (c.close_gate.ensures.during t)
    (g.D.Disk.content c.write_gated.new.disk) (c.write_gated.ensures.during t)
