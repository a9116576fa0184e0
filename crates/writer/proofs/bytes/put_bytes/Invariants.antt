use Rattle.std.proofs.Common.{take}
use Rattle.writer.proofs.Putting.{Putting}
use Rattle.writer.proofs.bytes.put_bytes.Given as goal

abbrev pub invariant-loop-i : goal.invariant-loop-i
invariant-loop-i l = Putting l.fn.out l.at (take l.i l.held) l.out
