use Rattle.checker.proofs.AnswerLaws.{begin-refused, may-begin, begins}
use Rattle.checker.proofs.calls.begin.Goals as goal

pub returns-in_err-found : goal.returns-in_err-found
returns-in_err-found c = begin-refused _ _ _ _ _ _ c.in_err-found.ensures _ c.from_residual.ensures.1

pub lay_out-requires : goal.lay_out-requires
lay_out-requires c = may-begin _ _ _ _ _ c.in_ok-found.ensures

pub returns : goal.returns
returns c =
    let l = c.lay_out.ensures in
    let zero = c.default.ensures in
    rw (zero.0, zero.1.0, zero.1.1.0, zero.1.1.1)
    (begins _ _ _ _ _ c.in_ok-found.ensures _ (l.mem_after, (l.vbits_after, l.abits_after)))
