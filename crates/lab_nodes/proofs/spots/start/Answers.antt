use Rattle.std.proofs.Common.{length, arith}
use Rattle.lab_nodes.specs.Spots.{AreOut, spot_at}
use Rattle.lab_nodes.proofs.Refusing.{all_closed, opened_out, rest_chain, slots_closed}
use Rattle.lab_nodes.proofs.spots.start.Goals as goal
use Rattle.lab_nodes.proofs.spots.start.Goals.{In-Err}

outs : (g : _) (c : In-Err g) → g.B.Bays.tells → AreOut c.args.shape.now.partitions c.args.folder.now c.open_places.new.slots.items (g.B.Bays.out c.open_places.new.bays)
outs g c t = opened_out g.B.Disk.Disk.tells g.B.Disk.Disk.content g.B.Disk.Disk.size c.args.which c.args.shape.now c.args.folder.now c.in-Err.ensures.stopped.0
    (spot_at c.args.shape.now.partitions c.args.folder.now c.args.slots.now.items (g.B.Bays.home c.args.bays.now) (g.B.Bays.out c.args.bays.now))
    (spot_at c.args.shape.now.partitions c.args.folder.now c.open_places.new.slots.items (g.B.Bays.home c.open_places.new.bays) (g.B.Bays.out c.open_places.new.bays))
    (c.requires.out t) (c.in-Err.ensures.stopped.3 t)

pub halt-requires-clause-out : goal.halt-requires-clause-out
halt-requires-clause-out g c = λ t. (c.args.folder.now, outs g (goal.at.halt-requires-clause-out g c).In-Err t)

pub returns-in-Err-clause-closed : goal.returns-in-Err-clause-closed
returns-in-Err-clause-closed g c = slots_closed c.args.which c.args.shape.now c.in-Err.ensures.stopped.0 c.args.slots.now.items c.open_places.new.slots.items c.halt.new.slots.items
    c.open_places.ensures.length c.halt.ensures.length c.requires.empty c.in-Err.ensures.stopped.2 c.halt.ensures.slots

pub returns-in-Err-clause-closed_spots : goal.returns-in-Err-clause-closed_spots
returns-in-Err-clause-closed_spots g c = λ t.
    let it = (goal.at.returns-in-Err-clause-closed_spots g c).In-Err in
    all_closed g.B.Disk.Disk.tells g.B.Disk.Disk.content g.B.Disk.Disk.size c.args.which c.args.shape.now c.args.folder.now c.in-Err.ensures.stopped.0 (length c.open_places.new.slots.items)
    (spot_at c.args.shape.now.partitions c.args.folder.now c.args.slots.now.items (g.B.Bays.home c.args.bays.now) (g.B.Bays.out c.args.bays.now))
    (spot_at c.args.shape.now.partitions c.args.folder.now c.open_places.new.slots.items (g.B.Bays.home c.open_places.new.bays) (g.B.Bays.out c.open_places.new.bays))
    (spot_at c.args.shape.now.partitions c.args.folder.now c.halt.new.slots.items (g.B.Bays.home c.halt.new.bays) (g.B.Bays.out c.halt.new.bays))
    (omega (arith, c.in-Err.ensures.stopped.1, c.open_places.ensures.length))
    c.requires.empty c.in-Err.ensures.stopped.2.due (c.in-Err.ensures.stopped.3 t) (c.halt.ensures.spots t c.args.folder.now (outs g it t))

pub returns-in-Err-clause-rest : goal.returns-in-Err-clause-rest
returns-in-Err-clause-rest g c = λ t.
    let it = (goal.at.returns-in-Err-clause-rest g c).In-Err in
    rest_chain c.args.shape.now.partitions c.args.folder.now _ _ _ _ _ _ (c.open_places.ensures.rest t) (c.halt.ensures.rest t c.args.folder.now (outs g it t))
