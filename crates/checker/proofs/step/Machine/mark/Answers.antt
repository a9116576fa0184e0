use Rattle.checker.proofs.GroupLaws.{mark-law}
use Rattle.checker.proofs.step.Machine.mark.Goals as goal

pub returns : goal.returns
returns c = search mark-law
