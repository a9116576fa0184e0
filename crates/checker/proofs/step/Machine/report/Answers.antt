use Rattle.std.proofs.Common.{refl}
use Rattle.checker.proofs.GroupLaws.{report-law}
use Rattle.checker.proofs.step.Machine.report.Goals as goal

pub returns : goal.returns
returns c = report-law refl c.note-self.ensures c.enter_report.ensures
