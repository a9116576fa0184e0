use Rattle.commands.proofs.RateLaws.{no_number}
use Rattle.commands.proofs.rates.bits_of.Goals as goal

pub returns : goal.returns
returns c = no_number _ c.if-rate.false
