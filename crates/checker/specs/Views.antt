-- How the values of the code are read as the machine's: counts, registers, states, answers.
use Rattle.std.specs.Prelude.{ℕ, List, replicate, Result, Ok, Err}
use Rattle.image.specs.Format.{registers}
use Rattle.image.specs.Refusals.{accepted}
use Rattle.flat.specs.Registers.{data_words, shadow_words}
use Rattle.machine.specs.Machine.{Parts, parts, Counts as MachineCounts, World}
use Rattle.machine.specs.Calls.{Began as BeginAnswer, Ran as RunAnswer}
use Rattle.checker.specs.declared.Counts.{Counts}
use Rattle.checker.specs.declared.State.{State}
use Rattle.checker.specs.declared.Ran.{Ran}
use Rattle.checker.specs.declared.refusals.Refusal.{Refusal}
use Rattle.checker.specs.Refusals.{verdict}
use Rattle.checker.specs.Reasons.{reason_number}

abbrev pub counts_of : Counts → MachineCounts
counts_of c = record { index = c.index; steps = c.steps; outputs = c.outputs; reports = c.reports }

-- a state's registers and V words, with the three buffers
abbrev pub parts_of : State → (mem mem_v mem_a : List ℕ) → Parts
parts_of s = parts (data_words s.regs) (shadow_words s.shadows)

-- all that a run reads and writes
abbrev pub world : Counts → Parts → (reports outputs : List ℕ) → World
world c p reports outputs = record { parts = p; counts = counts_of c; report_list = reports; output_list = outputs }

abbrev pub world_of : State → (mem mem_v mem_a reports outputs : List ℕ) → World
world_of s mem mem_v mem_a = world s.counts (parts_of s mem mem_v mem_a)

-- a state of all zeros
abbrev pub zeros : State
zeros =
    record {
      regs = replicate registers (record { 0 = 0 });
      shadows = replicate registers (record { 0 = 0 });
      counts = record { index = 0; steps = 0; outputs = 0; reports = 0 };
    }

-- the state after a beginning: the one that it answers; refused: the one of zeros (document 01, When the bench says no)
abbrev pub state_begun : Result State Refusal → State
state_begun (Ok s) = s
state_begun (Err e) = zeros

-- what a beginning answers, with what it leaves in the buffers
abbrev pub began_of : Result State Refusal → (mem mem_v mem_a : List ℕ) → BeginAnswer
began_of (Ok s) mem mem_v mem_a = record { refusal = accepted; parts = parts_of s mem mem_v mem_a; counts = counts_of s.counts }
began_of (Err e) mem mem_v mem_a = record { refusal = verdict e; parts = parts_of zeros mem mem_v mem_a; counts = counts_of zeros.counts }

-- what a run answers, with what it leaves in the buffers and lists; refused: reason 0 and the state as given
abbrev pub ran_of : (given : State) → Result Ran Refusal → (mem mem_v mem_a reports outputs : List ℕ) → RunAnswer
ran_of given (Ok r) mem mem_v mem_a reports outputs =
    record { refusal = accepted; reason = reason_number r.reason; world = world_of r.state mem mem_v mem_a reports outputs }
ran_of given (Err e) mem mem_v mem_a reports outputs =
    record { refusal = verdict e; reason = 0; world = world_of given mem mem_v mem_a reports outputs }
