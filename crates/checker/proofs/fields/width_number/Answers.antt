use Rattle.checker.proofs.FieldLaws.{width-bits}
use Rattle.checker.proofs.fields.width_number.Goals as goal

pub returns : goal.returns
returns c = width-bits _ c.requires
