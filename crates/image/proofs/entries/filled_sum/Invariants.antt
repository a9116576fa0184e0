use Rattle.std.proofs.Common.{◌*◌, ◌^◌, ◌≡◌, ◌≤◌}
use Rattle.image.specs.Regions.{filled_sum}
use Rattle.image.proofs.entries.filled_sum.Given as goal

abbrev pub invariant-loop-i : goal.invariant-loop-i
invariant-loop-i g l = (l.sum ≡ filled_sum (g.E.Entries.bytes l.regions) l.i) × (l.sum ≤ 2 ^ 32 * l.i)
