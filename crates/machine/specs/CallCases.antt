-- Cases of whole steps, of a beginning, of the bare machine's trap, and of refusals at their edges, worked out by hand from document 01.
-- proofs/CallCases.antt says that the definitions give them.
use Rattle.std.specs.Prelude.{ℕ, List, [], ◌∷◌, ◌++◌, replicate, set}
use Rattle.image.specs.Refusals.{Verdict, refused}
use Rattle.image.specs.declared.Width.TheVariants.{Byte}
use Rattle.image.specs.declared.Widening.TheVariants.{Zero}
use Rattle.image.specs.declared.Instruction.{Instruction}
use Rattle.image.specs.declared.Instruction.TheVariants.{Load, Emit}
use Rattle.machine.specs.Machine.{Parts, parts, Counts, World, Program}
use Rattle.machine.specs.Bare.{Bare, bare_parts}
use Rattle.machine.specs.Runs.{Ended, ended}
use Rattle.machine.specs.Calls.{run_refusal}

abbrev counts : (index steps outputs reports : ℕ) → Counts
counts index steps outputs reports = record { index = index; steps = steps; outputs = outputs; reports = reports }

abbrev world : Parts → Counts → (reports outputs : List ℕ) → World
world p c reports outputs = record { parts = p; counts = c; report_list = reports; output_list = outputs }

-- ---- a whole step: parts, counts and lists
pub record StepCase : Type 0 where
  pub does : Instruction
  pub before : World
  pub after : World

abbrev step_case : Instruction → (before after : World) → StepCase
step_case i before after = record { does = i; before = before; after = after }

-- two registers, the first with undefined bits, and four bytes
abbrev four_bytes : (regs regs_v : List ℕ) → Parts
four_bytes regs regs_v = parts regs regs_v (0x11 ∷ 0x22 ∷ 0x33 ∷ 0x44 ∷ []) (0 ∷ 0 ∷ 0 ∷ 0 ∷ []) (1 ∷ 1 ∷ 1 ∷ 1 ∷ [])

abbrev pub step_cases : List StepCase
step_cases =
    -- two reports go to places 1 and 2, with steps and index as before the step; place 0 keeps its words
    step_case (Load Byte Zero 1 0 2)
    (world (four_bytes (2 ∷ 7 ∷ []) (0x10 ∷ 9 ∷ [])) (counts 5 9 0 1) (1 ∷ 2 ∷ 3 ∷ 4 ∷ 0 ∷ 0 ∷ 0 ∷ 0 ∷ 0 ∷ 0 ∷ 0 ∷ 0 ∷ []) [])
    (world (four_bytes (2 ∷ 0 ∷ []) (0 ∷ 0 ∷ [])) (counts 6 10 0 3) (1 ∷ 2 ∷ 3 ∷ 4 ∷ 9 ∷ 5 ∷ 1 ∷ 0x10 ∷ 9 ∷ 5 ∷ 3 ∷ 4 ∷ []) [])
    -- with one place left the second is counted and not stored
    ∷ step_case (Load Byte Zero 1 0 2)
    (world (four_bytes (2 ∷ 7 ∷ []) (0x10 ∷ 9 ∷ [])) (counts 5 9 0 1) (1 ∷ 2 ∷ 3 ∷ 4 ∷ 0 ∷ 0 ∷ 0 ∷ 0 ∷ []) [])
    (world (four_bytes (2 ∷ 0 ∷ []) (0 ∷ 0 ∷ [])) (counts 6 10 0 3) (1 ∷ 2 ∷ 3 ∷ 4 ∷ 9 ∷ 5 ∷ 1 ∷ 0x10 ∷ []) [])
    -- an output goes to its place, and its report with it
    ∷ step_case (Emit 0 3)
    (world (four_bytes (2 ∷ 7 ∷ []) (0x10 ∷ 9 ∷ [])) (counts 5 9 1 0) (0 ∷ 0 ∷ 0 ∷ 0 ∷ []) (6 ∷ 8 ∷ 0 ∷ 0 ∷ 1 ∷ 1 ∷ []))
    (world (four_bytes (2 ∷ 7 ∷ []) (0 ∷ 9 ∷ [])) (counts 6 10 2 1) (9 ∷ 5 ∷ 5 ∷ 0x10 ∷ []) (6 ∷ 8 ∷ 3 ∷ 2 ∷ 1 ∷ 1 ∷ []))
    ∷ []

-- ---- a small image: M 8; STOP; bytes 1 and 2 filled, 4 and 5 of kind 2, 6 filled; data A1 A2 B1
abbrev pub small : List ℕ
small =
    0x54 ∷ 0x55 ∷ 0x4E ∷ 0x31 ∷ 8 ∷ 0 ∷ 0 ∷ 0 ∷ 1 ∷ 0 ∷ 0 ∷ 0 ∷ 32 ∷ 0 ∷ 0 ∷ 0
    ∷ 3 ∷ 0 ∷ 0 ∷ 0 ∷ 40 ∷ 0 ∷ 0 ∷ 0 ∷ 3 ∷ 0 ∷ 0 ∷ 0 ∷ 76 ∷ 0 ∷ 0 ∷ 0
    ∷ 0 ∷ 0 ∷ 0 ∷ 0 ∷ 0 ∷ 0 ∷ 0 ∷ 0
    ∷ 1 ∷ 0 ∷ 0 ∷ 0 ∷ 2 ∷ 0 ∷ 0 ∷ 0 ∷ 1 ∷ 0 ∷ 0 ∷ 0
    ∷ 4 ∷ 0 ∷ 0 ∷ 0 ∷ 2 ∷ 0 ∷ 0 ∷ 0 ∷ 2 ∷ 0 ∷ 0 ∷ 0
    ∷ 6 ∷ 0 ∷ 0 ∷ 0 ∷ 1 ∷ 0 ∷ 0 ∷ 0 ∷ 1 ∷ 0 ∷ 0 ∷ 0
    ∷ 0xA1 ∷ 0xA2 ∷ 0xB1 ∷ []

-- what is handed to its beginning, and what that leaves
abbrev pub handed_regs : List ℕ
handed_regs = replicate 16 0xC0FFEE

abbrev pub handed_mem : List ℕ
handed_mem = 0x50 ∷ 0x51 ∷ 0x52 ∷ 0x53 ∷ 0x54 ∷ 0x55 ∷ 0x56 ∷ 0x57 ∷ []

abbrev pub handed_shadow : List ℕ
handed_shadow = replicate 8 9

abbrev pub small_begun : Parts
small_begun =
    parts handed_regs (replicate 15 0xFFFF_FFFF ++ 0 ∷ []) (0x50 ∷ 0xA1 ∷ 0xA2 ∷ 0x53 ∷ 0x54 ∷ 0x55 ∷ 0xB1 ∷ 0x57 ∷ [])
    (0xFF ∷ 0 ∷ 0 ∷ 0xFF ∷ 0xFF ∷ 0xFF ∷ 0 ∷ 0xFF ∷ []) (0 ∷ 1 ∷ 1 ∷ 0 ∷ 1 ∷ 1 ∷ 1 ∷ 0 ∷ [])

-- a refused one: a state of all zeros, the buffers as they were
abbrev pub small_refused : Parts
small_refused = parts (replicate 16 0) (replicate 16 0) (0x50 ∷ 0x51 ∷ []) handed_shadow handed_shadow

-- ---- the bare machine, at a load of byte 2, which is not marked: no reason of 2, 1, 4 and 3 holds, and it traps
abbrev pub at_load : Program
at_load = record { count = 1; at = λ i. Load Byte Zero 1 0 2 }

abbrev pub bare_there : Bare
bare_there = record { parts = bare_parts (0 ∷ 7 ∷ []) (0x11 ∷ 0x22 ∷ 0x33 ∷ 0x44 ∷ []) (1 ∷ 1 ∷ 0 ∷ 1 ∷ []); index = 0; steps = 4; outputs = [] }

pub record TrapCase : Type 0 where
  pub budget : ℕ
  pub end : Ended Bare

abbrev trap_case : ℕ → Ended Bare → TrapCase
trap_case budget end = record { budget = budget; end = end }

abbrev pub trap_cases : List TrapCase
trap_cases = trap_case 0 (ended 3 bare_there) ∷ trap_case 1 (ended 6 bare_there) ∷ trap_case 9 (ended 6 bare_there) ∷ []

-- ---- the refusals of a run, at their edges
pub record RefusalCase : Type 0 where
  pub image : List ℕ
  pub at : World
  pub budget : ℕ
  pub refusal : Verdict

abbrev refusal_case : List ℕ → World → (budget number : ℕ) → RefusalCase
refusal_case image w budget number = record { image = image; at = w; budget = budget; refusal = refused number 0 }

-- a world with buffers, A bytes and lists of these lengths
abbrev sized : Counts → (mem mem_v : ℕ) (mem_a : List ℕ) (reports outputs : ℕ) → World
sized c mem mem_v mem_a reports outputs = world (parts (replicate 16 0) (replicate 16 0) (replicate mem 0) (replicate mem_v 0) mem_a) c (replicate reports 0) (replicate outputs 0)

abbrev fine : Counts → World
fine c = sized c 8 8 (replicate 8 1) 4 4

-- one A byte is 2
abbrev twos : List ℕ
twos = 1 ∷ 0 ∷ 1 ∷ 1 ∷ 1 ∷ 1 ∷ 1 ∷ 2 ∷ []

abbrev pub refusal_cases : List RefusalCase
refusal_cases =
    -- 8: a buffer not of M bytes; a list of part of an entry, or too long
    refusal_case small (fine (counts 0 0 0 0)) 0 0
    ∷ refusal_case small (sized (counts 0 0 0 0) 7 8 (replicate 8 1) 4 4) 0 8
    ∷ refusal_case small (sized (counts 0 0 0 0) 8 9 (replicate 8 1) 4 4) 0 8
    ∷ refusal_case small (sized (counts 0 0 0 0) 8 8 (replicate 7 1) 4 4) 0 8
    ∷ refusal_case small (sized (counts 0 0 0 0) 8 8 (replicate 8 1) 256 512) 0 0
    ∷ refusal_case small (sized (counts 0 0 0 0) 8 8 (replicate 8 1) 260 4) 0 8
    ∷ refusal_case small (sized (counts 0 0 0 0) 8 8 (replicate 8 1) 6 4) 0 8
    ∷ refusal_case small (sized (counts 0 0 0 0) 8 8 (replicate 8 1) 4 514) 0 8
    ∷ refusal_case small (sized (counts 0 0 0 0) 8 8 (replicate 8 1) 4 5) 0 8
    -- 9: steps so far plus budget above 1,000,000
    ∷ refusal_case small (fine (counts 0 999_999 0 0)) 1 0
    ∷ refusal_case small (fine (counts 0 999_999 0 0)) 2 9
    ∷ refusal_case small (fine (counts 0 0 0 0)) 1_000_001 9
    -- 10: an A byte above 1
    ∷ refusal_case small (sized (counts 0 0 0 0) 8 8 twos 4 4) 0 10
    -- 11: index above N, outputs above the places, reports above twice the steps
    ∷ refusal_case small (fine (counts 1 0 0 0)) 0 0
    ∷ refusal_case small (fine (counts 2 0 0 0)) 0 11
    ∷ refusal_case small (fine (counts 0 0 2 0)) 0 0
    ∷ refusal_case small (fine (counts 0 0 3 0)) 0 11
    ∷ refusal_case small (fine (counts 0 3 0 6)) 0 0
    ∷ refusal_case small (fine (counts 0 3 0 7)) 0 11
    -- the first that applies
    ∷ refusal_case (set small 0 0) (sized (counts 2 0 0 0) 7 8 twos 4 4) 1_000_001 2
    ∷ refusal_case small (sized (counts 2 0 0 0) 7 8 twos 4 4) 1_000_001 8
    ∷ refusal_case small (sized (counts 2 0 0 0) 8 8 twos 4 4) 1_000_001 9
    ∷ refusal_case small (sized (counts 2 0 0 0) 8 8 twos 4 4) 0 10
    ∷ []

abbrev pub refusal_given : RefusalCase → Verdict
refusal_given c = run_refusal c.image c.at c.budget
