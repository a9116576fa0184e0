use Rattle.std.proofs.Common.{refl}
use Rattle.checker.proofs.GroupLaws.{defined-law, undefined-law}
use Rattle.checker.proofs.step.Machine.use_register.Goals as goal

pub returns-then-v-ne0 : goal.returns-then-v-ne0
returns-then-v-ne0 c =
    let clear = c.clear.ensures in
    undefined-law _ _ c.value.ensures.shadow_word c.if-v-ne0.true refl clear.data_words clear.shadow_words c.report.ensures

pub returns-else-v-ne0 : goal.returns-else-v-ne0
returns-else-v-ne0 c = defined-law _ _ c.value.ensures.shadow_word (c.if-v-ne0.false)
