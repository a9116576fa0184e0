use Rattle.std.proofs.Common.{refl}
use Rattle.checker.proofs.GroupLaws.{then_lent}
use Rattle.checker.proofs.RunningLaws.{goes_further}
use Rattle.checker.proofs.step.Machine.run_on.Goals as goal

pub loop-reason-preserved : goal.loop-reason-preserved
loop-reason-preserved c =
    let turn = c.in_default.ensures in
    let i = c.loop-reason.invariant in
    record { lent = then_lent i.lent turn.lent; going = goes_further c.loop-reason.self i.going c.requires.1 refl turn.reasons turn.turned refl }
