use Rattle.std.proofs.Common.{◌≡◌}
use Rattle.machine.specs.Ranges.{loaded_where}
use Rattle.checker.proofs.ranges.load_some.Given as goal

abbrev pub invariant-loop-k : goal.invariant-loop-k
invariant-loop-k l = l.x ≡ loaded_where l.a l.s l.at l.k
