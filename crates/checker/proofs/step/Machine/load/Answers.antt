use Rattle.checker.proofs.GroupLaws.{load-law}
use Rattle.checker.proofs.step.Machine.load.Goals as goal

pub returns : goal.returns
returns c = search load-law
