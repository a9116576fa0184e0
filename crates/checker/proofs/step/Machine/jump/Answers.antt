use Rattle.checker.proofs.GroupLaws.{falls-through, jumps}
use Rattle.checker.proofs.step.Machine.jump.Goals as goal

pub returns-then-x-eq0 : goal.returns-then-x-eq0
returns-then-x-eq0 c = falls-through c.value.ensures.data_word c.next-self.ensures c.use_register.ensures c.if-x-eq0.true

pub returns-else-x-eq0 : goal.returns-else-x-eq0
returns-else-x-eq0 c = jumps c.value.ensures.data_word c.go_to-self.ensures c.use_register.ensures c.if-x-eq0.false
