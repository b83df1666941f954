use Rattle.bench.proofs.Fed.{fed}
use Rattle.bench.proofs.feed.Goals as goal

pub returns-in_err-print : goal.returns-in_err-print
returns-in_err-print c = fed _ _ _ _ c.feed.ensures.right c.loop-byte.invariant

pub loop-byte-preserved : goal.loop-byte-preserved
loop-byte-preserved c = fed _ _ _ _ c.feed.ensures.right c.loop-byte.invariant
