use Rattle.std.proofs.Common.{sym}
use Rattle.checker.proofs.StepLaws.{four-entered}
use Rattle.machine.proofs.ListLaws.{entered-past}
use Rattle.checker.proofs.lists.enter_report.Goals as goal

pub returns-then-reports-k : goal.returns-then-reports-k
returns-then-reports-k c = sym (entered-past _ _ _ _ c.if-reports-k.true)

pub returns : goal.returns
returns c = rw c.into.ensures (four-entered _ _ _ _ _ _ c.if-reports-k.false)
