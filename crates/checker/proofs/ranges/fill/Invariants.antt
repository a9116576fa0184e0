use Rattle.checker.proofs.Writing.{Writing}
use Rattle.checker.proofs.ranges.fill.Given as goal

abbrev pub invariant-loop-k : goal.invariant-loop-k
invariant-loop-k l = Writing (λ j. l.x) l.initial.s l.at l.size l.s l.k
