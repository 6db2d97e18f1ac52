use Rattle.std.proofs.Common.{arith}
use Rattle.disk_core.proofs.Changes.{on_ok_map}
use Rattle.gate_slots.proofs.Writes.{behind_gate, opens_gate, behind_kept}
use Rattle.gate_slots.proofs.gate.write_gated.Goals as goal

pub overflow_add-gate : goal.overflow_add-gate
overflow_add-gate g c = omega (arith, g.met.D.Disk.bounded c.args.disk.now, c.requires.place)

pub returns-in_err-write_synced-clause-during : goal.returns-in_err-write_synced-clause-during
returns-in_err-write_synced-clause-during g c = λ t.
    behind_gate c.args.gate c.args.rest.now _ (g.D.Disk.content c.write_synced.new.disk) (c.requires.shut t) (c.write_synced.ensures.told t).during

pub returns-clause-during : goal.returns-clause-during
returns-clause-during g c = λ t.
    let wrote = c.in_ok-write_synced.ensures.told t in
    opens_gate c.args.gate c.args.rest.now (g.D.Disk.content c.args.disk.now) (g.D.Disk.content c.write_synced.new.disk) (c.requires.shut t) wrote.during
    (g.D.Disk.content c.write_synced-2.new.disk) wrote.only wrote.written.here (c.write_synced-2.ensures.told t).during

pub returns-clause-written : goal.returns-clause-written
returns-clause-written g c =
    on_ok_map c.write_synced-2.result (λ t. (c.write_synced-2.ensures.told t).written) (λ t holds. behind_kept c.args.gate c.args.rest.now _ _ holds (c.in_ok-write_synced.ensures.told t).written.here)
