use Rattle.std.proofs.Common.{◌∙◌, ap, sym}
use Rattle.disk_core.specs.declared.bays.BayFault.TheVariants.{OtherSize}
use Rattle.disk_core.specs.Places.{is_at, disk_at}
use Rattle.disk_core.proofs.Placing.{has_disk, asked_apart, asked_one, took, holds, found_here, same_places}
use Rattle.disk_core.proofs.mem_bays.MemBays.open_kept.Goals as goal

pub take_out-requires : goal.take_out-requires
take_out-requires c =
    has_disk c.args.self.now.places.items c.args.index c.args.folder.now c.args.node c.args.partition c.args.size c.index_mut-place.result.now c.index_mut-place.result.now
    c.requires.first (sym c.index_mut-place.ensures.value) c.requires.none_out

pub invariant_of-self : goal.invariant_of-self
invariant_of-self c =
    let self = c.args.self.now in
    let old = c.index_mut-place.result.now in
    let new = c.take_out.new.self in
    let at = sym c.index_mut-place.ensures.value in
    record {
      apart = asked_apart self.places.items c.args.index c.args.folder.now c.args.node c.args.partition c.args.size old new c.requires.first at c.take_out.result c.take_out.ensures.taken c.take_out.ensures.other self.apart;
      one_is_out = asked_one self.places.items c.args.index c.args.folder.now c.args.node c.args.partition c.args.size old new c.requires.first at c.take_out.result c.take_out.ensures.taken c.take_out.ensures.other self.one_is_out c.requires.none_out;
    }

pub returns-in-Ok-clause-taken : goal.returns-in-Ok-clause-taken
returns-in-Ok-clause-taken c =
    let self = c.args.self.now in
    took self.places.items c.args.index c.args.folder.now c.args.node c.args.partition c.args.size c.in-Ok.disk c.index_mut-place.result.now c.take_out.new.self
    c.requires.first (sym c.index_mut-place.ensures.value) c.in-Ok.ensures.taken self.apart self.one_is_out c.requires.none_out

pub returns-in-Ok-clause-kept : goal.returns-in-Ok-clause-kept
returns-in-Ok-clause-kept c = (
  c.in-Ok.ensures.taken.size,
  holds c.args.self.now.places.items c.args.index c.args.folder.now c.args.node c.args.partition c.args.size c.in-Ok.disk c.index_mut-place.result.now c.take_out.new.self
      c.requires.first (sym c.index_mut-place.ensures.value) c.in-Ok.ensures.taken,
)

pub returns-in-Err-clause-refused : goal.returns-in-Err-clause-refused
returns-in-Err-clause-refused c =
    let items = c.args.self.now.places.items in
    let old = c.index_mut-place.result.now in
    let at = sym c.index_mut-place.ensures.value in
    let kept = c.in-Err.ensures.other in (
      record {
        disk = kept.disk;
        at_home = ap disk_at (found_here (is_at c.args.folder.now c.args.node c.args.partition) items c.args.index old c.requires.first at) ∙ kept.held;
        differs = λ same. kept.differs (sym kept.size ∙ same);
        answered = ap (λ n. OtherSize n) (sym kept.size);
      },
      same_places items c.args.index old c.take_out.new.self at kept.stays,
    )
