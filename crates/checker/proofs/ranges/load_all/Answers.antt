use Rattle.std.proofs.Common.{refl, add-zero}
use lib.Bits.{or_zero_r}
use Rattle.rules.specs.Bytes.{joined}
use Rattle.checker.proofs.ranges.load_all.Goals as goal

pub returns-in-Byte : goal.returns-in-Byte
unfolding joined
returns-in-Byte c = rw (c.in-Byte.is, c.join4.ensures, add-zero c.args.at) (simp or_zero_r refl)

pub returns-in-Half : goal.returns-in-Half
unfolding joined
returns-in-Half c = rw (c.in-Half.is, c.join4-in-Half.ensures, add-zero c.args.at) (simp or_zero_r refl)
