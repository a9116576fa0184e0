use Rattle.std.proofs.Common.{arith, sym, ap, ◌∙◌}
use Rattle.writer.proofs.EntryLaws.{at_place, no-row, row-alone}
use Rattle.writer.proofs.entries.instruction_at.Goals as goal

pub returns-then-instruction_count-i : goal.returns-then-instruction_count-i
returns-then-instruction_count-i c = no-row c.args.instructions.now c.args.i (omega arith) c.args.n c.args.m

-- what is decoded is what stands there
pub returns-in-Ok : goal.returns-in-Ok
unfolding at_place
returns-in-Ok c =
    sym
    (row-alone c.args.instructions.now (λ k. (c.type_inv.instructions k).fits) c.args.i (omega arith) c.args.n c.args.m _ c.put_words.ensures
    ∙ ap (at_place c.args.i) (sym c.in-Ok.ensures.value))

pub returns-in-Err : goal.returns-in-Err
unfolding at_place
returns-in-Err c =
    sym
    (row-alone c.args.instructions.now (λ k. (c.type_inv.instructions k).fits) c.args.i (omega arith) c.args.n c.args.m _ c.put_words.ensures
    ∙ ap (at_place c.args.i) (sym c.in-Err.ensures.value))
