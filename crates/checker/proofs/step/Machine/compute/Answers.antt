use Rattle.checker.proofs.GroupLaws.{compute-law}
use Rattle.checker.proofs.step.Machine.compute.Goals as goal

pub returns : goal.returns
returns c = search compute-law
