use Rattle.std.proofs.Common.{◌∙◌, sym}
use Rattle.gate_slots.proofs.Gates.{shuts, was_shut, stays_shut, now_zeroed, zeroed_shut, read_byte}
use Rattle.gate_slots.proofs.gate.close_gate.Goals as goal

pub returns-in_err-write_synced-clause-during : goal.returns-in_err-write_synced-clause-during
returns-in_err-write_synced-clause-during g c = λ t.
    let read = c.read.ensures.told t in
    let byte = read_byte c.args.gate c.read.new.buf (g.D.Disk.content c.args.disk.now).seen (c.in_ok-read.ensures.told t).given c.read.auto.buf in
    shuts c.args.gate _ _ (g.D.Disk.content c.write_synced.new.disk) (c.requires.settled t) read.during (byte ∙ c.if-byte-eq-OPEN.true) (c.write_synced.ensures.told t).during

pub returns-in_ok-write_synced-clause-during : goal.returns-in_ok-write_synced-clause-during
returns-in_ok-write_synced-clause-during g c = λ t.
    let read = c.read.ensures.told t in
    let byte = read_byte c.args.gate c.read.new.buf (g.D.Disk.content c.args.disk.now).seen (c.in_ok-read.ensures.told t).given c.read.auto.buf in
    shuts c.args.gate _ _ (g.D.Disk.content c.write_synced.new.disk) (c.requires.settled t) read.during (byte ∙ c.if-byte-eq-OPEN.true) (c.write_synced.ensures.told t).during

pub returns-in_ok-write_synced-clause-closed : goal.returns-in_ok-write_synced-clause-closed
returns-in_ok-write_synced-clause-closed g c = λ t.
    let done = c.in_ok-write_synced.ensures.told t in
    zeroed_shut c.args.gate (g.D.Disk.content c.write_synced.new.disk) (now_zeroed c.args.gate (g.D.Disk.content c.read.new.self) (g.D.Disk.content c.write_synced.new.disk) done.written done.only)

pub returns-in_ok-write_synced-clause-zero : goal.returns-in_ok-write_synced-clause-zero
returns-in_ok-write_synced-clause-zero g c = λ t was.
    let done = c.in_ok-write_synced.ensures.told t in
    now_zeroed c.args.gate (g.D.Disk.content c.read.new.self) (g.D.Disk.content c.write_synced.new.disk) done.written done.only

pub returns-else-byte-eq-OPEN-clause-zero : goal.returns-else-byte-eq-OPEN-clause-zero
returns-else-byte-eq-OPEN-clause-zero g c = λ t was.
    let byte = read_byte c.args.gate c.read.new.buf (g.D.Disk.content c.args.disk.now).seen (c.in_ok-read.ensures.told t).given c.read.auto.buf in
    absurd (c.if-byte-eq-OPEN.false (sym byte ∙ was))

pub returns-else-byte-eq-OPEN-clause-during : goal.returns-else-byte-eq-OPEN-clause-during
returns-else-byte-eq-OPEN-clause-during g c = λ t.
    let read = c.read.ensures.told t in
    was_shut c.args.gate _ (g.D.Disk.content c.read.new.self) (g.D.Disk.content c.read.new.self) (c.requires.settled t) read.during

pub returns-else-byte-eq-OPEN-clause-closed : goal.returns-else-byte-eq-OPEN-clause-closed
returns-else-byte-eq-OPEN-clause-closed g c = λ t.
    let read = c.read.ensures.told t in
    let byte = read_byte c.args.gate c.read.new.buf (g.D.Disk.content c.args.disk.now).seen (c.in_ok-read.ensures.told t).given c.read.auto.buf in
    stays_shut c.args.gate _ (g.D.Disk.content c.read.new.self) (g.D.Disk.content c.read.new.self) (c.requires.settled t) read.during (λ is. c.if-byte-eq-OPEN.false (sym byte ∙ is))
