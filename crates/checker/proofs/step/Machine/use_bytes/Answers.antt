use Rattle.checker.proofs.GroupLaws.{whole-law, blocked-law}
use Rattle.checker.proofs.step.Machine.use_bytes.Goals as goal

pub returns-then-not-whole : goal.returns-then-not-whole
returns-then-not-whole c = search blocked-law

pub returns-else-not-whole : goal.returns-else-not-whole
returns-else-not-whole c = search whole-law
