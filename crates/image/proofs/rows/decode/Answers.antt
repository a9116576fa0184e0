use Rattle.std.proofs.Common.{◌*◌, add-zero}
use borrow.Author.Tests.{lt-ltb, le-ltb}
use Rattle.image.specs.Rows.{decode_at}
use Rattle.image.proofs.EncodingLaws.{decoded-reads}
use Rattle.image.proofs.rows.decode.Goals as goal

pub returns-then-index-code-clause-value : goal.returns-then-index-code-clause-value
unfolding decode_at
returns-then-index-code-clause-value c =
    rw (lt-ltb _ _ c.if-index-code.true, c.decode_fields.ensures, c.row_of.ensures, c.nth.ensures, add-zero (8 * c.args.index))

pub returns-then-index-code-clause-reads_as : goal.returns-then-index-code-clause-reads_as
returns-then-index-code-clause-reads_as c =
    decoded-reads c.args.code.now c.args.index c.args.n c.args.m (λ k. (c.type_inv.code k).fits) _ (returns-then-index-code-clause-value c)

pub returns-else-index-code-clause-value : goal.returns-else-index-code-clause-value
unfolding decode_at
returns-else-index-code-clause-value c = rw (le-ltb _ _ c.if-index-code.false)

pub returns-else-index-code-clause-reads_as : goal.returns-else-index-code-clause-reads_as
returns-else-index-code-clause-reads_as c =
    decoded-reads c.args.code.now c.args.index c.args.n c.args.m (λ k. (c.type_inv.code k).fits) _ (returns-else-index-code-clause-value c)
