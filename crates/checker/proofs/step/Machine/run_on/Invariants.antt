use Rattle.machine.specs.Machine.{program_in}
use Rattle.checker.specs.Pieces.{world_in, Lent}
use Rattle.checker.proofs.RunningLaws.{Going}
use Rattle.checker.proofs.step.Machine.run_on.Given as goal

abbrev pub invariant-loop-reason : goal.invariant-loop-reason
invariant-loop-reason l = record { lent : Lent l.initial.self l.self; going : Going (program_in l.code l.n l.m) l.m l.initial.left (world_in l.initial.self) l.left (world_in l.self) }

abbrev pub decreases-loop-reason : goal.decreases-loop-reason
decreases-loop-reason l = l.left
