use Rattle.std.proofs.Common.{refl, sym, ◌∙◌}
use Rattle.capi.proofs.state_in.Goals as goal

pub returns : goal.returns
returns c = record { regs = sym (c.from_words.ensures ∙ c.sixteen.ensures); regs_v = sym (c.from_words-2.ensures ∙ c.sixteen-2.ensures); counts = refl }
