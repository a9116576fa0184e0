-- How the words of a lent buffer are read as the machine's state: 16 registers, their 16 V words, then the index and the counts of steps,
-- outputs and reports; and where the code of an image lies.
use Rattle.std.specs.Prelude.{ℕ, ◌*◌, cond, List, [], ◌∷◌, get_or, eqb}
use Rattle.image.specs.Format.{registers, header_size, instruction_size, part_of}
use Rattle.image.specs.Refusals.{Reading, refused}
use Rattle.machine.specs.Machine.{Parts, parts, Counts, World}
use Rattle.machine.specs.Calls.{Began, Ran}
use Rattle.writer.specs.Writing.{Written}

-- which parameters, words of a state, words of a list's entry and limits these are: the number at the end of the calls' names
abbrev pub version : ℕ
version = 2

abbrev pub state_size : ℕ
state_size = 36

abbrev pub regs_in : List ℕ → List ℕ
regs_in state = part_of state 0 registers

abbrev pub regs_v_in : List ℕ → List ℕ
regs_v_in state = part_of state 16 registers

abbrev pub counts_in : List ℕ → Counts
counts_in state = record { index = get_or state 32 0; steps = get_or state 33 0; outputs = get_or state 34 0; reports = get_or state 35 0 }

abbrev pub parts_in : (state mem mem_v mem_a : List ℕ) → Parts
parts_in state = parts (regs_in state) (regs_v_in state)

abbrev pub world_in : (state mem mem_v mem_a reports outputs : List ℕ) → World
world_in state mem mem_v mem_a reports outputs = record { parts = parts_in state mem mem_v mem_a; counts = counts_in state; report_list = reports; output_list = outputs }

-- what a call answers: the number that it returns, and what it leaves in the buffers
abbrev pub header_in : (number fault : ℕ) (header : List ℕ) → Reading
header_in number fault header = record { m = get_or header 0 0; n = get_or header 1 0; r = get_or header 2 0; d = get_or header 3 0; refusal = refused number fault }

abbrev pub began_in : (number fault : ℕ) (state mem mem_v mem_a : List ℕ) → Began
began_in number fault state mem mem_v mem_a = record { refusal = refused number fault; parts = parts_in state mem mem_v mem_a; counts = counts_in state }

abbrev pub ran_in : (number fault reason : ℕ) (state mem mem_v mem_a reports outputs : List ℕ) → Ran
ran_in number fault reason state mem mem_v mem_a reports outputs =
    record { refusal = refused number fault; reason = reason; world = world_in state mem mem_v mem_a reports outputs }

abbrev pub written_in : (number fault size : ℕ) (out : List ℕ) → Written
written_in number fault size out = record { refusal = refused number fault; size = size; out = out }

-- where the code begins, and how many bytes it has: zeros when refused
abbrev pub code_start : ℕ → ℕ
code_start number = cond (eqb number 0) header_size 0

abbrev pub code_range : Reading → List ℕ
code_range h = code_start h.refusal.number ∷ instruction_size * h.n ∷ []
