use Rattle.std.proofs.Common.{sym, rules}
use Rattle.rules.proofs.ByteLaws.{byte-none}
use Rattle.rules.proofs.bytes.byte.Goals as goal

pub returns-then-k-ge4 : goal.returns-then-k-ge4
returns-then-k-ge4 c = sym (byte-none 4 c.args.k c.args.x (search rules) (search rules))
