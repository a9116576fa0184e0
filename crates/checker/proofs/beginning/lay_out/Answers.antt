use Rattle.std.proofs.Common.{arith}
use Rattle.checker.proofs.BeginLaws.{begun}
use Rattle.checker.proofs.beginning.lay_out.Goals as goal

pub returns : goal.returns
returns c =
    let p = c.requires in
    let l = c.lay.ensures in
    let laid =
    begun _ p.1 _ p.0 _ _ _ p.2 c.region_part-regions.ensures c.data_part-held.ensures c.fill.ensures c.fill-2.ensures c.lay.new.self
    (grind (arith, l.lent.mem)) (grind (arith, l.lent.vbits)) (grind (arith, l.lent.abits)) (l.mem_after, (l.vbits_after, l.abits_after))
    in
    record { mem_after = laid.0; vbits_after = laid.1.0; abits_after = laid.1.1 }
