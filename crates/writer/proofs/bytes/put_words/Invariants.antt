use Rattle.std.proofs.Common.{take}
use Rattle.writer.specs.Words.{bytes_of}
use Rattle.writer.proofs.Putting.{Putting}
use Rattle.writer.proofs.bytes.put_words.Given as goal

abbrev pub invariant-loop-i : goal.invariant-loop-i
invariant-loop-i l = Putting l.fn.out l.at (bytes_of (take l.i l.words)) l.out
