use Rattle.checker.proofs.GroupLaws.{store-law}
use Rattle.checker.proofs.step.Machine.store.Goals as goal

pub returns : goal.returns
returns c = search store-law
