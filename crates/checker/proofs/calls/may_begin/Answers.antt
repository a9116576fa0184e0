use Rattle.std.proofs.Common.{true, false}
use Rattle.machine.specs.Calls.{begin_refusal}
use Rattle.checker.proofs.RefusalLaws.{image-refuses, begin-tests}
use Rattle.checker.proofs.calls.may_begin.Goals as goal

pub returns-in_err-found : goal.returns-in_err-found
unfolding begin_refusal
returns-in_err-found c = image-refuses _ _ _ c.in_err-found.ensures _ c.from_residual.ensures.1

pub returns-then-not-buffers_ok : goal.returns-then-not-buffers_ok
returns-then-not-buffers_ok c = begin-tests _ _ c.in_ok-found.ensures _ _ _ false c.if-not-buffers_ok.ensures

pub returns : goal.returns
returns c = begin-tests _ _ c.in_ok-found.ensures _ _ _ true c.if-not-buffers_ok.ensures
