use Rattle.std.proofs.Common.{sym, ap, ◌∙◌}
use Rattle.std.specs.Prelude.{is_ok}
use Rattle.image.specs.Refusals.{bad_instruction, instruction_ok}
use Rattle.image.proofs.Faults.{fault-step, fault-here, fault-end}
use Rattle.image.proofs.entries.check_code.Goals as goal

pub returns-in_default : goal.returns-in_default
unfolding instruction_ok
returns-in_default g c =
    sym (fault-here bad_instruction _ _ _ c.loop-i-test.true (ap is_ok (sym c.instruction.ensures ∙ c.in_default.is))) ∙ c.loop-i.invariant

pub loop-i-preserved : goal.loop-i-preserved
unfolding instruction_ok
loop-i-preserved g c =
    sym (fault-step bad_instruction _ _ _ c.loop-i-test.true (ap is_ok (sym c.instruction.ensures ∙ c.in-Ok.is))) ∙ c.loop-i.invariant

pub returns : goal.returns
returns g c = sym (fault-end bad_instruction _ _ _ c.loop-i-test.false) ∙ c.loop-i.invariant
