use Rattle.writer.proofs.Putting.{word-put}
use Rattle.writer.proofs.bytes.put_words.Goals as goal

pub loop-i-preserved : goal.loop-i-preserved
loop-i-preserved c = word-put _ _ c.loop-i-test.true c.loop-i.invariant c.put_word.ensures
