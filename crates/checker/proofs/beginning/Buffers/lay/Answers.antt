use Rattle.checker.proofs.BeginLaws.{none-laid, next_fits, one-laid}
use Rattle.checker.proofs.beginning.Buffers.lay.Goals as goal

pub loop-i-init : goal.loop-i-init
loop-i-init c = none-laid _ _ _

pub lay_region-from-requires : goal.lay_region-from-requires
lay_region-from-requires c = next_fits c.loop-i.invariant c.loop-i-test.true c.region_at-region.ensures c.requires.0 c.requires.1

pub loop-i-preserved : goal.loop-i-preserved
loop-i-preserved c =
    let laid = c.lay_region-from.ensures in
    one-laid c.loop-i.invariant c.loop-i-test.true c.region_at-region.ensures laid.value laid.lent laid.mem_after laid.vbits_after laid.abits_after
