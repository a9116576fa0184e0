-- The machine with its shadow, whole (01: the bench): one step on parts, counts and lists, and a run.
use Rattle.std.specs.Prelude.{ℕ, ◌+◌, length}
use Rattle.image.specs.declared.Instruction.{Instruction}
use Rattle.machine.specs.Machine.{Parts, Counts, World, Program}
use Rattle.machine.specs.Instructions.{way_on, outputs_of}
use Rattle.machine.specs.Steps.{acted, reports_of}
use Rattle.machine.specs.Lists.{output_places, reports_entered, outputs_entered}
use Rattle.machine.specs.Runs.{reason_at, Ended, run_on}

-- the counts after a step: it is counted, and so are its outputs and reports, with a place for them or without
unfoldable pub counted : Instruction → Parts → Counts → Counts
counted i p c =
    record {
      index = way_on i p.regs c.index;
      steps = c.steps + 1;
      outputs = c.outputs + length (outputs_of i p.regs);
      reports = c.reports + length (reports_of i p);
    }

unfoldable pub stepped : Instruction → World → World
stepped i w =
    record {
      parts = acted i w.parts;
      counts = counted i w.parts w.counts;
      report_list = reports_entered w.counts.steps w.counts.index w.counts.reports (reports_of i w.parts) w.report_list;
      output_list = outputs_entered w.counts.outputs (outputs_of i w.parts.regs) w.output_list;
    }

unfoldable pub reason_of : Program → ℕ → World → ℕ
reason_of program left w = reason_at program (output_places w.output_list) left w.counts.index w.counts.outputs

unfoldable pub next_of : Program → World → World
next_of program w = stepped (program.at w.counts.index) w

abbrev pub run_of : Program → ℕ → World → Ended World
run_of program = run_on (reason_of program) (next_of program)
