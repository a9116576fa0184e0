use Rattle.std.proofs.Common.{ℕ, ◌≡◌, Bool, true, List, arith, sym, ◌∙◌}
use Rattle.writer.specs.Writing.{counts_ok}
use Rattle.writer.specs.Pieces.{Counted}
use Rattle.writer.proofs.RefusalLaws.{counts-hold}
use Rattle.writer.proofs.checks.check.Goals as goal

-- the counts have passed their test
counted : (m : ℕ) (instructions regions : List ℕ) (d : ℕ) (passed : Bool) → passed ≡ counts_ok m instructions regions d → passed ≡ true
    → Counted m instructions regions d
counted m instructions regions d passed e h = counts-hold m instructions regions d (sym e ∙ h)

pub overflow_cast-found : goal.overflow_cast-found
overflow_cast-found c = omega (arith, (counted _ _ _ _ _ c.counts_ok.ensures c.if-not-counts_ok.false).limits.code)

pub overflow_cast-found-2 : goal.overflow_cast-found-2
overflow_cast-found-2 c = omega (arith, (counted _ _ _ _ _ c.counts_ok.ensures c.if-not-counts_ok.false).limits.regions)

pub overflow_cast-found-3 : goal.overflow_cast-found-3
overflow_cast-found-3 c = omega (arith, (counted _ _ _ _ _ c.counts_ok.ensures c.if-not-counts_ok.false).limits.held)

pub overflow_add-data_at : goal.overflow_add-data_at
overflow_add-data_at c =
    omega (arith, (counted _ _ _ _ _ c.counts_ok.ensures c.if-not-counts_ok.false).limits.code, (counted _ _ _ _ _ c.counts_ok.ensures c.if-not-counts_ok.false).limits.regions, (counted _ _ _ _ _ c.counts_ok.ensures c.if-not-counts_ok.false).limits.held)
