use Rattle.std.proofs.Common.{arith, []}
use Rattle.checker.proofs.AnswerLaws.{run-refused, one-size, may-run, ran-left}
use Rattle.checker.proofs.calls.run.Goals as goal

pub returns-in_err-found : goal.returns-in_err-found
returns-in_err-found c = run-refused _ _ _ _ _ _ _ _ _ (c.in_err-found.ensures _ _) _ c.from_residual.ensures.1

pub invariant_of-machine : goal.invariant_of-machine
invariant_of-machine c =
    let same = one-size _ _ _ _ _ _ _ (c.in_ok-found.ensures [] []) c.code_part-code.ensures in record { size_v = same.0; size_a = same.1 }

pub run_on-reason-requires : goal.run_on-reason-requires
run_on-reason-requires c =
    rw (c.to_words.ensures, c.to_words-2.ensures)
    (may-run _ _ _ _ _ _ _ (c.in_ok-found.ensures _ _) c.code_part-code.ensures (λ k. (c.type_inv.image k).fits))

pub returns : goal.returns
returns c =
    let run = c.run_on-reason.ensures in
    let end = c.state.ensures in
    ran-left _ _ _ _ _ _ _ (c.in_ok-found.ensures _ _) c.code_part-code.ensures c.run_on-reason.new.self
    end.counts end.data_words end.shadow_words (grind (arith, run.lent.mem)) (grind (arith, run.lent.vbits)) (grind (arith, run.lent.abits)) (grind (arith, run.lent.reports)) (grind (arith, run.lent.outputs))
    (rw (c.to_words.ensures, c.to_words-2.ensures) at run.ran)
