use Rattle.std.proofs.Common.{sym, subst}
use Rattle.disk_core.specs.declared.mem_bays.MemBays.{MemBays}
use Rattle.disk_core.specs.FuseBays.{content_in, size_in, fused_home, fuse_at, picked}
use Rattle.disk_core.specs.Homes.{TakesOut}
use Rattle.disk_core.specs.Places.{home_of, out_of}
use Rattle.disk_core.proofs.Fusings.{fused_takes, picked_takes, fused_stays, fused_answers}
use Rattle.disk_core.proofs.fuse_bays.FuseBaysBays.open.Goals as goal

pub returns-in-Ok-clause-taken : goal.returns-in-Ok-clause-taken
returns-in-Ok-clause-taken c = λ u.
    let old = c.args.self.now.bays.places.items in
    let fuse = fuse_at c.args.self.now c.args.node c.args.partition in
    subst (λ (bays : MemBays). TakesOut (Unit {0}) content_in size_in c.args.folder.now c.args.node c.args.partition c.args.size c.fused.result (fused_home (home_of old)) (out_of old) (fused_home (home_of bays.places.items)) (out_of bays.places.items))
    (sym c.fused.ensures.bays)
    (fused_takes c.args.folder.now c.args.node c.args.partition c.args.size (picked fuse c.in-Ok.disk) c.fused.result c.fused.ensures.disk (home_of old) (out_of old) (home_of c.open.new.self.places.items) (out_of c.open.new.self.places.items)
    (picked_takes c.args.folder.now c.args.node c.args.partition c.args.size c.in-Ok.disk (home_of old) (out_of old) (home_of c.open.new.self.places.items) (out_of c.open.new.self.places.items) fuse (c.in-Ok.ensures.taken u)))

pub returns-in-Err-clause-refused : goal.returns-in-Err-clause-refused
returns-in-Err-clause-refused c = λ u.
    fused_stays (home_of c.args.self.now.bays.places.items) (out_of c.args.self.now.bays.places.items) (home_of c.open.new.self.places.items) (out_of c.open.new.self.places.items)
    (c.in-Err.ensures.refused u)

pub returns-in-Err-clause-other_size : goal.returns-in-Err-clause-other_size
returns-in-Err-clause-other_size c = λ u.
    fused_answers (home_of c.args.self.now.bays.places.items c.args.folder.now c.args.node c.args.partition) c.args.size _ (c.in-Err.ensures.other_size u)
