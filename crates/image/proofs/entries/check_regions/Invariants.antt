use Rattle.std.proofs.Common.{◌-◌, ◌≡◌}
use Rattle.image.specs.Regions.{end_before, region_ok}
use Rattle.image.specs.Refusals.{bad_region, first_fault, region_refusal}
use Rattle.image.proofs.entries.check_regions.Given as goal

-- where the region before ends, and that what is still to come decides
abbrev pub invariant-loop-i : goal.invariant-loop-i
invariant-loop-i g l = record {
  before : l.before ≡ end_before (g.E.Entries.bytes l.regions) l.i;
  rest : first_fault bad_region (region_ok (g.E.Entries.bytes l.regions) l.m) l.i (l.r - l.i) ≡ region_refusal (g.E.Entries.bytes l.regions) l.r l.m;
}
