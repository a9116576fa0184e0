use Rattle.std.proofs.Common.{sym, ◌∙◌}
use Rattle.commands.proofs.Handing.{refuses, hands}
use Rattle.commands.proofs.outputs.command.Goals as goal

pub returns-then-not-accepted : goal.returns-then-not-accepted
returns-then-not-accepted c = refuses _ _ (λ k. (c.type_inv.outputs k).fits) (sym c.accepted.ensures ∙ c.if-not-accepted.true)

pub returns : goal.returns
returns c = hands _ _ (λ k. (c.type_inv.outputs k).fits) _ (sym c.accepted.ensures ∙ c.if-not-accepted.false) c.command_of.ensures
