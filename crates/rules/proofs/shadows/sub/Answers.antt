use Rattle.std.proofs.Common.{rules}
use Rattle.rules.proofs.Sum.{sub-none}
use Rattle.rules.proofs.shadows.sub.Goals as goal

pub returns-then-both_defined : goal.returns-then-both_defined
returns-then-both_defined c = search (sub-none, rules)
