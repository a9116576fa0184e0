use Rattle.checker.proofs.BeginLaws.{Laying}
use Rattle.checker.proofs.beginning.Buffers.lay.Given as goal

abbrev pub invariant-loop-i : goal.invariant-loop-i
invariant-loop-i l = Laying l.regions l.held l.initial.self l.from l.self l.i
