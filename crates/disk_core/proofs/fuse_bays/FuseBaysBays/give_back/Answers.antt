use Rattle.std.proofs.Common.{sym}
use Rattle.disk_core.specs.Places.{home_of, out_of}
use Rattle.disk_core.proofs.Fusings.{fused_puts}
use Rattle.disk_core.proofs.fuse_bays.FuseBaysBays.give_back.Goals as goal

pub returns-clause-home : goal.returns-clause-home
returns-clause-home c = λ u folder out.
    fused_puts folder c.args.node c.args.partition 0 c.into_inner.result c.args.disk (sym c.into_inner.ensures)
    (home_of c.args.self.now.bays.places.items) (out_of c.args.self.now.bays.places.items) (home_of c.give_back.new.self.places.items) (out_of c.give_back.new.self.places.items)
    (c.give_back.ensures.home u folder out)
