use Rattle.checker.proofs.GroupLaws.{none_stored, one_stored}
use Rattle.checker.proofs.step.Machine.store_some.Goals as goal

pub loop-k-init : goal.loop-k-init
loop-k-init c = none_stored _ _ _

pub loop-k-preserved : goal.loop-k-preserved
loop-k-preserved c = let p = c.put.ensures in one_stored c.loop-k.invariant p.kept c.byte.ensures c.byte-in-loop-k.ensures p.mem_after p.vbits_after
