use Rattle.checker.proofs.DispatchLaws.{move-literal, move-register, may-as, steps-as}
use Rattle.checker.proofs.step.Machine.moves.Goals as goal

pub copy-requires : goal.copy-requires
copy-requires c = may-as (search move-literal) c.requires

pub returns-then-b : goal.returns-then-b
returns-then-b c = steps-as (search move-literal) c.copy.ensures

pub copy-requires-else-b : goal.copy-requires-else-b
copy-requires-else-b c = may-as (search move-register) c.requires

pub returns-else-b : goal.returns-else-b
returns-else-b c = steps-as (search move-register) c.copy-else-b.ensures
