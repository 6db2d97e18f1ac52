use Rattle.std.proofs.Common.{◌≡◌, ℕ, ◌+◌, List, length, get_or, sym, subst, arith}
use Rattle.disk_core.specs.Content.{ChangesBy, range}
use Rattle.gate_slots.specs.Cell.{WritesSlot, slot_rest, target_place}
use Rattle.gate_slots.proofs.OtherSlot.{gate_same, on_ok_both, replacing, replaced}
use Rattle.gate_slots.proofs.replacing.write_other.Goals as goal

pub write_slot-requires-clause-settled : goal.write_slot-requires-clause-settled
write_slot-requires-clause-settled g c = λ t d image.
    let seen = (g.D.Disk.content c.args.disk.now).seen in
    subst (λ (k : ℕ). range k 1 d ≡ range k 1 seen) (sym c.target-gate.ensures) (gate_same c.args.second c.args.base d seen (c.requires.settled t d image))

pub returns-clause-during : goal.returns-clause-during
returns-clause-during g c = λ t.
    let old = g.D.Disk.content c.args.disk.now in
    let new = g.D.Disk.content c.write_slot.new.disk in
    let writes = subst (λ (k : ℕ). ChangesBy (WritesSlot k (slot_rest (c.args.sequence + 1) c.args.bytes.now)) old new) c.target-gate.ensures
    (subst (λ (l : List ℕ). ChangesBy (WritesSlot c.target-gate.result l) old new) c.put_rest.ensures (c.write_slot.ensures.during t)) in
    replacing c.args.base c.args.second c.args.sequence c.args.bytes.now c.requires.fits (omega (arith, c.requires.more)) old new (c.requires.settled t) (c.requires.its_place t) (c.requires.its_sequence t) writes

pub returns-clause-cell : goal.returns-clause-cell
returns-clause-cell g c =
    on_ok_both c.write_slot.result c.write_slot.ensures.written c.write_slot.ensures.opened (λ t written opened.
    let old = g.D.Disk.content c.args.disk.now in
    let new = g.D.Disk.content c.write_slot.new.disk in
    let gate : c.target-gate.result ≡ target_place c.args.base c.args.second = c.target-gate.ensures in
    let rest = slot_rest (c.args.sequence + 1) c.args.bytes.now in
    let writes = subst (λ (k : ℕ). ChangesBy (WritesSlot k rest) old new) gate
    (subst (λ (l : List ℕ). ChangesBy (WritesSlot c.target-gate.result l) old new) c.put_rest.ensures (c.write_slot.ensures.during t)) in
    let holds = subst (λ (k : ℕ). range (k + 1) (length rest) new.seen ≡ rest) gate
    (subst (λ (l : List ℕ). range (c.target-gate.result + 1) (length l) new.seen ≡ l) c.put_rest.ensures written) in
    let is = subst (λ (k : ℕ). get_or new.seen k 0 ≡ 79) gate opened in
    replaced c.args.base c.args.second c.args.sequence c.args.bytes.now c.requires.fits (omega (arith, c.requires.more)) old new (c.requires.settled t) (c.requires.its_place t) (c.requires.its_sequence t) writes is holds)
