use Rattle.checker.specs.Pieces.{Stored}
use Rattle.checker.proofs.step.Machine.store_some.Given as goal

abbrev pub invariant-loop-k : goal.invariant-loop-k
invariant-loop-k l = Stored l.x.data.0 l.x.shadow.0 l.at l.k l.initial.self l.self
