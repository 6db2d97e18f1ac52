use Rattle.std.proofs.Common.{◌≡◌, ◌∙◌, ap, arith, ◌+◌, ◌-◌, length}
use Rattle.disk_core.specs.Unsynced.{put_at}
use Rattle.disk_core.proofs.Puts.{put_mid-is}
use Rattle.disk_core.proofs.unsynced.write_part.Goals as goal

pub returns : goal.returns
returns c =
    let same : c.copy_from_slice.new.self ≡ c.args.bytes.now = c.copy_from_slice.ensures.after in
    let long = ap length same in
    put_mid-is c.args.buf.now c.args.at (c.args.at + length c.args.bytes.now - c.args.at) c.copy_from_slice.new.self (omega arith) (omega arith)
    ∙ ap (put_at c.args.buf.now c.args.at) same
