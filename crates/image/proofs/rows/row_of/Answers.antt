use Rattle.std.proofs.Common.{◌≤◌, sym, arith}
use lib.ListN.{get_or-eq_default}
use Rattle.image.specs.Rows.{rows, row_of}
use Rattle.image.specs.declared.rows.Row.TheVariants.{Missing}
use Rattle.image.proofs.rows.row_of.Goals as goal

-- an op that is none of the 25 is 25 or above
pub returns-in_default : goal.returns-in_default
unfolding row_of
returns-in_default c = let above : 25 ≤ c.args.op = omega arith in sym (get_or-eq_default rows Missing above)
