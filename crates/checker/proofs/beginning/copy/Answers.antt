use Rattle.checker.proofs.Writing.{none_written, one_written}
use Rattle.checker.proofs.beginning.copy.Goals as goal

pub loop-k-init : goal.loop-k-init
loop-k-init c = none_written _ _ _ _

pub loop-k-preserved : goal.loop-k-preserved
loop-k-preserved c = one_written c.loop-k.invariant c.loop-k-test.true
