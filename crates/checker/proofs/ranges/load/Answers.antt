use Rattle.std.proofs.Common.{sym, ◌∙◌}
use Rattle.checker.proofs.RangeLaws.{loaded-whole}
use Rattle.checker.proofs.ranges.load.Goals as goal

pub returns-then-whole : goal.returns-then-whole
returns-then-whole c = c.load_all.ensures ∙ loaded-whole c.args.a.now c.args.s.now c.args.at _ (sym c.requires.0 ∙ c.if-whole.true)
