use Rattle.checker.proofs.GroupLaws.{stop-law}
use Rattle.checker.proofs.step.Machine.stop.Goals as goal

pub returns : goal.returns
returns c = search stop-law
