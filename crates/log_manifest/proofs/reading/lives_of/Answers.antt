use Rattle.std.proofs.Common.{arith}
use Rattle.field_codec.proofs.CountedLists.{one_more, one_missing, all_read}
use Rattle.log_manifest.specs.Reading.{live_at}
use Rattle.log_manifest.proofs.reading.lives_of.Goals as goal

pub returns-in_default : goal.returns-in_default
returns-in_default c = one_missing live_at _ _ c.loop.rest.now _ (omega arith) c.in_default.ensures c.loop.invariant

pub loop-preserved : goal.loop-preserved
loop-preserved c = one_more live_at _ _ _ _ c.loop.rest.now _ _ _ (omega arith) c.in_ok-push.ensures.items c.in-Some.ensures c.loop.invariant

pub returns : goal.returns
returns c = all_read live_at _ _ _ c.loop.rest.now _ (omega arith) c.from_vec.ensures c.loop.invariant
