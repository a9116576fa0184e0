use Rattle.std.proofs.Common.{rules}
use Rattle.rules.proofs.ByteLaws.{swiden-whole}
use Rattle.rules.proofs.bytes.swiden.Goals as goal

pub returns-then-size-ge4 : goal.returns-then-size-ge4
returns-then-size-ge4 c = swiden-whole c.args.size c.args.x (search rules)
