use Rattle.checker.proofs.GroupLaws.{kept-law, none-kept}
use Rattle.checker.proofs.step.Machine.put.Goals as goal

pub returns-then-is_addressable-clause-kept : goal.returns-then-is_addressable-clause-kept
returns-then-is_addressable-clause-kept c = search kept-law

pub returns-else-is_addressable-clause-kept : goal.returns-else-is_addressable-clause-kept
returns-else-is_addressable-clause-kept c = search none-kept
