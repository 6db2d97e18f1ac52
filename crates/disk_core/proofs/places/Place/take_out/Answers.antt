use Rattle.std.proofs.Common.{◌≡◌, ◌∙◌, ap, sym, Option, Some}
use Rattle.disk_core.specs.declared.mem_disk.MemDisk.{MemDisk}
use Rattle.disk_core.proofs.places.Place.take_out.Goals as goal

pub returns-clause-other : goal.returns-clause-other
returns-clause-other c =
    let held : c.args.self.now.disk ≡ Some c.unwrap-disk.result = sym c.take.ensures.value ∙ c.unwrap-disk.ensures in
    record {
      disk = c.unwrap-disk.result;
      held = held;
      size = sym c.size-bytes.ensures;
      differs = c.if-bytes-size.false;
      stays = ap (λ (o : Option MemDisk). record c.args.self.now { disk = o }) (sym held);
    }
