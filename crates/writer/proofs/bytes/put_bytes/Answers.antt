use Rattle.writer.proofs.Putting.{byte_put}
use Rattle.writer.proofs.bytes.put_bytes.Goals as goal

pub loop-i-preserved : goal.loop-i-preserved
loop-i-preserved c = byte_put _ _ c.loop-i-test.true c.loop-i.invariant
