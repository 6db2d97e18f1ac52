use Rattle.std.proofs.Common.{List, subst, sym}
use Rattle.std.specs.Result.{is_ok}
use Rattle.disk_core.specs.declared.places.Place.{Place}
use Rattle.disk_core.specs.Homes.{TakesOut}
use Rattle.disk_core.specs.MemDisk.{content_of, size_of}
use Rattle.disk_core.specs.Places.{AreApart, OneIsOut, home_of, out_of}
use Rattle.disk_core.proofs.Placing.{made_or_not, one_or_not, made}
use Rattle.disk_core.proofs.mem_bays.MemBays.open_new.Goals as goal

pub invariant_of-self : goal.invariant_of-self
invariant_of-self c =
    let self = c.args.self.now in
    let place = c.in-Ok-without_disk.place in
    let known = c.in-Ok-without_disk.ensures in
    record {
      apart = subst AreApart (sym c.push.ensures.items)
          (made_or_not self.places.items c.args.folder.now c.args.node c.args.partition c.args.size c.in-Ok.disk place known.rest.0 known.rest.1 known.folder known.rest.2 c.requires.no_place c.requires.none_out (is_ok c.push.result) self.apart);
      one_is_out = subst OneIsOut (sym c.push.ensures.items)
          (one_or_not self.places.items c.args.folder.now c.args.node c.args.partition c.args.size c.in-Ok.disk place known.rest.0 known.rest.1 known.folder known.rest.2 c.requires.no_place c.requires.none_out (is_ok c.push.result) self.one_is_out);
    }

pub returns-clause-taken : goal.returns-clause-taken
returns-clause-taken c =
    let self = c.args.self.now in
    let place = c.in-Ok-without_disk.place in
    let known = c.in-Ok-without_disk.ensures in
    subst (λ (items : List Place). TakesOut (Unit {0}) content_of size_of c.args.folder.now c.args.node c.args.partition c.args.size c.in-Ok.disk (home_of self.places.items) (out_of self.places.items) (home_of items) (out_of items))
    (sym c.in-Ok-push.ensures.items)
    (made self.places.items c.args.folder.now c.args.node c.args.partition c.args.size c.in-Ok.disk place known.rest.0 known.rest.1 known.folder known.rest.2 c.requires.no_place c.requires.none_out c.in-Ok.ensures.zeros)
