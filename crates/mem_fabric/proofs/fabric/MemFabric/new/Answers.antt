use Rattle.mem_fabric.proofs.Goes.{fresh_packs, fresh_runs}
use Rattle.mem_fabric.proofs.fabric.MemFabric.new.Goals as goal

pub returns-clause-holds : goal.returns-clause-holds
returns-clause-holds g c = λ shape folder opening held.
    fresh_runs g.B.Disk.Disk.tells g.B.Disk.Disk.content g.B.Bays.home c.new.result c.new-2.result c.args.bays shape folder opening c.new.ensures c.new-2.ensures held

pub returns-clause-packs : goal.returns-clause-packs
returns-clause-packs g c = λ shape folder opening first held laid.
    fresh_packs g.B.Disk.Disk.tells g.B.Disk.Disk.content g.B.Bays.home c.new-2.result c.args.bays shape folder opening first c.new-2.ensures held laid
