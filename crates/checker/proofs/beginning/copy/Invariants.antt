use Rattle.std.proofs.Common.{◌+◌}
use lib.ListN.{get_or}
use Rattle.checker.proofs.Writing.{Writing}
use Rattle.checker.proofs.beginning.copy.Given as goal

abbrev pub invariant-loop-k : goal.invariant-loop-k
invariant-loop-k l = Writing (λ j. get_or l.held (l.from + j) 0) l.initial.s l.at l.size l.s l.k
