use Rattle.checker.proofs.GroupLaws.{move-law}
use Rattle.checker.proofs.step.Machine.copy.Goals as goal

pub returns : goal.returns
returns c = search move-law
