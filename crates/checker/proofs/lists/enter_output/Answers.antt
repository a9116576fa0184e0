use Rattle.std.proofs.Common.{sym}
use Rattle.checker.proofs.StepLaws.{two-entered}
use Rattle.machine.proofs.ListLaws.{entered-past}
use Rattle.checker.proofs.lists.enter_output.Goals as goal

pub returns-then-outputs-k : goal.returns-then-outputs-k
returns-then-outputs-k c = sym (entered-past _ _ _ _ c.if-outputs-k.true)

pub returns : goal.returns
returns c = two-entered _ _ _ _ c.if-outputs-k.false
