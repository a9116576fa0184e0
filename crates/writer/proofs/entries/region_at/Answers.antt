use Rattle.std.proofs.Common.{arith, sym}
use Rattle.writer.proofs.EntryLaws.{no-region, region-by-words}
use Rattle.writer.proofs.entries.region_at.Goals as goal

pub returns-then-region_count-i : goal.returns-then-region_count-i
returns-then-region_count-i c = rw c.from.ensures (no-region c.args.regions.now c.args.i (omega arith))

pub returns : goal.returns
returns c = rw c.from-2.ensures (sym (region-by-words c.args.regions.now (λ k. (c.type_inv.regions k).fits) c.args.i (omega arith)))
