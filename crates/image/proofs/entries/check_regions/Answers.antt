use Rattle.std.proofs.Common.{sym, ap, ◌∙◌}
use Rattle.image.specs.Regions.{end_of}
use Rattle.image.specs.Refusals.{bad_region}
use Rattle.image.proofs.RegionLaws.{end-next, region-kept}
use Rattle.image.proofs.Faults.{fault-step, fault-here, fault-end}
use Rattle.image.proofs.entries.check_regions.Goals as goal

pub returns-then-not-region_keeps : goal.returns-then-not-region_keeps
returns-then-not-region_keeps g c =
    sym (fault-here bad_region _ _ _ c.loop-i-test.true (region-kept _ _ _ c.region-found.ensures c.loop-i.invariant.before c.if-not-region_keeps.ensures))
    ∙ c.loop-i.invariant.rest

pub loop-i-preserved : goal.loop-i-preserved
loop-i-preserved g c = record {
  before = c.end_of-before.ensures ∙ ap end_of c.region-found.ensures ∙ sym (end-next _ _);
  rest =
      sym (fault-step bad_region _ _ _ c.loop-i-test.true (region-kept _ _ _ c.region-found.ensures c.loop-i.invariant.before c.if-not-region_keeps.ensures))
      ∙ c.loop-i.invariant.rest;
}

pub returns : goal.returns
returns g c = sym (fault-end bad_region _ _ _ c.loop-i-test.false) ∙ c.loop-i.invariant.rest
