use Rattle.std.proofs.Common.{refl}
use Rattle.checker.proofs.GroupLaws.{emit-law}
use Rattle.checker.proofs.step.Machine.emit.Goals as goal

pub returns : goal.returns
returns c = emit-law c.value.ensures.data_word c.put_out-self.ensures c.use_register.ensures refl c.enter_output.ensures
