use Rattle.checker.proofs.GroupLaws.{write-law}
use Rattle.checker.proofs.step.Machine.write.Goals as goal

pub returns-then-access-whole : goal.returns-then-access-whole
returns-then-access-whole c = search write-law
