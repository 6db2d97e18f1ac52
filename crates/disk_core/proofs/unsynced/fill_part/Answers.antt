use Rattle.std.proofs.Common.{◌≡◌, ◌∙◌, ap, arith, rules, ◌+◌, ◌-◌, length, replicate}
use Rattle.disk_core.specs.Unsynced.{put_at}
use Rattle.disk_core.specs.UnsyncedLaws.{length-replicate}
use Rattle.disk_core.proofs.Puts.{put_mid-is}
use Rattle.disk_core.proofs.unsynced.fill_part.Goals as goal

pub returns : goal.returns
returns c =
    let same : c.fill.new.self ≡ replicate c.args.count c.args.byte = grind (arith, rules) in
    let long : length c.fill.new.self ≡ c.args.count = ap length same ∙ length-replicate c.args.count c.args.byte in
    put_mid-is c.args.buf.now c.args.at (c.args.at + c.args.count - c.args.at) c.fill.new.self (omega (arith, long)) (omega (arith, long))
    ∙ ap (put_at c.args.buf.now c.args.at) same
