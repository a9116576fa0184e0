use Rattle.std.proofs.Common.{rules, arith, ◌∙◌}
use Rattle.machine.proofs.Relation.{few-bytes}
use Rattle.checker.proofs.RangeLaws.{none-loaded, more-loaded}
use Rattle.checker.proofs.ranges.load_some.Goals as goal

pub loop-k-init : goal.loop-k-init
loop-k-init c = none-loaded c.args.a.now c.args.s.now c.args.at

pub loop-k-preserved : goal.loop-k-preserved
loop-k-preserved c =
    more-loaded c.args.a.now c.args.s.now c.args.at _ _ _ c.loop-k.invariant (c.zwiden.ensures ∙ c.byte_at.ensures) (omega (arith, c.size_of-k-end.ensures, few-bytes c.args.width)) (search rules)
