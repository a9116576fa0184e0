-- The bits of a value that passes a gate are no NaN's.
use Rattle.commands.proofs.Handing.{inside_number}
use Rattle.commands.proofs.gates.command_of.Goals as goal

pub float_from_bits-value : goal.float_from_bits-value
float_from_bits-value c = inside_number c.in-Ok.gate c.args.port c.args.value c.in-Ok.ensures.0 c.in-Ok.ensures.1 c.ranges.value.fits c.if-passes.ensures
