use Rattle.capi.proofs.CallLaws.{ran-words, not-run-words}
use Rattle.capi.proofs.uviktalik_run_2.Goals as goal

pub returns-in-Ok : goal.returns-in-Ok
returns-in-Ok c =
    rw c.number.ensures (ran-words _ _ _ _ _ _ _ _ _ _ _ _ _ c.state_in-given.result c.state_in-given.ensures _ _ c.in-Ok.ensures c.words_of.ensures)

pub returns-in-Err : goal.returns-in-Err
returns-in-Err c =
    rw (c.number-in-Err.ensures, c.index.ensures) (not-run-words _ _ _ _ _ _ _ _ _ _ _ _ _ c.state_in-given.result c.state_in-given.ensures _ c.in-Err.ensures)
