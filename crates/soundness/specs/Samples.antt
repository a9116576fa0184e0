-- Two series for a reader who doubts that the claim says anything: a program that reports nothing, and document 01's example, which reports.
-- On each side other values were left over: zeros on the checker, 0xEE everywhere on the bare machine. Register 15 is M on both.
use Rattle.std.specs.Prelude.{ℕ, List, [], ◌∷◌, ◌++◌, replicate, set}
use Rattle.image.specs.Format.{registers, frame_register, field_m}
use Rattle.machine.specs.Machine.{World, program_of}
use Rattle.machine.specs.Bare.{Bare, bare_begun}
use Rattle.machine.specs.Calls.{Began, begin_answer}
use Rattle.soundness.specs.Series.{started_with, checker_after, accepted_budgets, bare_after}

-- M 16, eight instructions, two regions, four bytes of data
abbrev header : List ℕ
header =
    0x54 ∷ 0x55 ∷ 0x4E ∷ 0x31 ∷ 16 ∷ 0 ∷ 0 ∷ 0 ∷ 8 ∷ 0 ∷ 0 ∷ 0 ∷ 32 ∷ 0 ∷ 0 ∷ 0
    ∷ 2 ∷ 0 ∷ 0 ∷ 0 ∷ 96 ∷ 0 ∷ 0 ∷ 0 ∷ 4 ∷ 0 ∷ 0 ∷ 0 ∷ 120 ∷ 0 ∷ 0 ∷ 0 ∷ []

-- MOV 0,0; LD32 1,0,0; ST32 1,0,8; LD32 2,0,12 (a copy of undefined bytes); LD32 3,0,8; ADD 3,3,1; EMIT 3,3; STOP
abbrev code : List ℕ
code =
    1 ∷ 0 ∷ 0 ∷ 255 ∷ 0 ∷ 0 ∷ 0 ∷ 0 ∷ 14 ∷ 1 ∷ 0 ∷ 0 ∷ 0 ∷ 0 ∷ 0 ∷ 0
    ∷ 16 ∷ 1 ∷ 0 ∷ 0 ∷ 8 ∷ 0 ∷ 0 ∷ 0 ∷ 14 ∷ 2 ∷ 0 ∷ 0 ∷ 12 ∷ 0 ∷ 0 ∷ 0
    ∷ 14 ∷ 3 ∷ 0 ∷ 0 ∷ 8 ∷ 0 ∷ 0 ∷ 0 ∷ 2 ∷ 3 ∷ 3 ∷ 255 ∷ 1 ∷ 0 ∷ 0 ∷ 0
    ∷ 18 ∷ 0 ∷ 3 ∷ 0 ∷ 3 ∷ 0 ∷ 0 ∷ 0 ∷ 0 ∷ 0 ∷ 0 ∷ 0 ∷ 0 ∷ 0 ∷ 0 ∷ 0 ∷ []

-- bytes 0 to 3 are filled with the word 42, bytes 8 to 15 are undefined
abbrev regions_and_data : List ℕ
regions_and_data =
    0 ∷ 0 ∷ 0 ∷ 0 ∷ 4 ∷ 0 ∷ 0 ∷ 0 ∷ 1 ∷ 0 ∷ 0 ∷ 0 ∷ 8 ∷ 0 ∷ 0 ∷ 0 ∷ 8 ∷ 0 ∷ 0 ∷ 0 ∷ 2 ∷ 0 ∷ 0 ∷ 0
    ∷ 42 ∷ 0 ∷ 0 ∷ 0 ∷ []

abbrev pub clean : List ℕ
clean = header ++ code ++ regions_and_data

-- the second run asks for too many steps and is refused
abbrev pub clean_budgets : List ℕ
clean_budgets = 3 ∷ 2_000_000 ∷ 100 ∷ []

abbrev pub example_budgets : List ℕ
example_budgets = 100 ∷ []

-- ---- both sides of a series on an image, with room for two reports and three outputs
abbrev pub left_registers : List ℕ → ℕ → List ℕ
left_registers s x = set (replicate registers x) frame_register (field_m s)

abbrev pub left_memory : List ℕ → ℕ → List ℕ
left_memory s x = replicate (field_m s) x

abbrev pub began : List ℕ → Began
began s = begin_answer s (left_registers s 0) (left_memory s 0) (left_memory s 0) (left_memory s 0)

abbrev pub start : List ℕ → World
start s = started_with (replicate 8 0) (replicate 6 0) (began s)

abbrev pub checker_side : List ℕ → List ℕ → World
checker_side s budgets = checker_after s (start s) budgets

abbrev pub bare_side : List ℕ → List ℕ → Bare
bare_side s budgets = bare_after (program_of s) 3 (bare_begun s (left_registers s 0xEEEE_EEEE) (left_memory s 0xEE)) (accepted_budgets s (start s) budgets)
