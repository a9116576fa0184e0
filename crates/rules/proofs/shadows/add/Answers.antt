use Rattle.std.proofs.Common.{rules}
use Rattle.rules.proofs.Sum.{add_none}
use Rattle.rules.proofs.shadows.add.Goals as goal

pub returns-then-both_defined : goal.returns-then-both_defined
returns-then-both_defined c = search (add_none, rules)
