use Rattle.std.proofs.Common.{refl, ◌∙◌, true, false}
use Rattle.machine.specs.Calls.{run_refusal}
use Rattle.checker.proofs.RefusalLaws.{all-marks, image-refuses, run-tests}
use Rattle.checker.proofs.calls.may_run.Goals as goal

pub returns-in_err-found : goal.returns-in_err-found
unfolding run_refusal
returns-in_err-found c = λ regs regs_v. image-refuses _ _ _ c.in_err-found.ensures _ c.from_residual.ensures.1

pub returns-then-not-sizes_ok : goal.returns-then-not-sizes_ok
returns-then-not-sizes_ok c =
    λ regs regs_v.
    run-tests _ _ c.in_ok-found.ensures _ _ false _ _ _ c.if-not-sizes_ok.ensures refl refl refl

pub returns-then-not-steps_ok : goal.returns-then-not-steps_ok
returns-then-not-steps_ok c =
    λ regs regs_v.
    run-tests _ _ c.in_ok-found.ensures _ _ true false _ _ c.if-not-sizes_ok.ensures c.if-not-steps_ok.ensures refl refl

pub returns-then-not-marks_ok : goal.returns-then-not-marks_ok
returns-then-not-marks_ok c =
    λ regs regs_v.
    run-tests _ _ c.in_ok-found.ensures _ _ true true false _ c.if-not-sizes_ok.ensures c.if-not-steps_ok.ensures (c.if-not-marks_ok.ensures ∙ all-marks _) refl

pub returns-then-not-counts_ok : goal.returns-then-not-counts_ok
returns-then-not-counts_ok c =
    λ regs regs_v.
    run-tests _ _ c.in_ok-found.ensures _ _ true true true false c.if-not-sizes_ok.ensures c.if-not-steps_ok.ensures (c.if-not-marks_ok.ensures ∙ all-marks _) c.if-not-counts_ok.ensures

pub returns : goal.returns
returns c =
    λ regs regs_v.
    run-tests _ _ c.in_ok-found.ensures _ _ true true true true c.if-not-sizes_ok.ensures c.if-not-steps_ok.ensures (c.if-not-marks_ok.ensures ∙ all-marks _) c.if-not-counts_ok.ensures
