use Rattle.checker.proofs.DispatchLaws.{marks-range, may-as, steps-as}
use Rattle.checker.proofs.step.Machine.marks.Goals as goal

pub mark-requires : goal.mark-requires
mark-requires c = may-as (search marks-range) c.requires

pub returns : goal.returns
returns c = steps-as (search marks-range) c.mark.ensures
