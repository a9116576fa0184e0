use Rattle.checker.proofs.RangeLaws.{marked-whole}
use Rattle.checker.proofs.ranges.all_addressable_of.Goals as goal

pub returns-then-at-size_of : goal.returns-then-at-size_of
returns-then-at-size_of c = rw (c.all_marked.ensures, c.load_all.ensures) (marked-whole c.args.a.now _ _ (λ k. (c.type_inv.a k).fits))
