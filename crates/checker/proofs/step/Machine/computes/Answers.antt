use Rattle.checker.proofs.DispatchLaws.{compute-literal, compute-register, may-as, steps-as}
use Rattle.checker.proofs.step.Machine.computes.Goals as goal

pub on_literal-requires : goal.on_literal-requires
on_literal-requires c = may-as (search compute-literal) c.requires

pub returns-then-b : goal.returns-then-b
returns-then-b c = steps-as (search compute-literal) c.on_literal.ensures

pub on_register-requires : goal.on_register-requires
on_register-requires c = may-as (search compute-register) c.requires

pub returns-else-b : goal.returns-else-b
returns-else-b c = steps-as (search compute-register) c.on_register.ensures
