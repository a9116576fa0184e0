-- The machine (01, The machine): its parts with their shadow, its counts and its lists; and the program that it runs.
-- Words and bytes are natural numbers, and what is lent to the code is a list of them.
use Rattle.std.specs.Prelude.{ℕ, ◌-◌, ◌^◌, List, Result, Ok, Err}
use Rattle.image.specs.Format.{field_m, field_n, code_part}
use Rattle.image.specs.Rows.{decode_at}
use Rattle.image.specs.declared.Instruction.{Instruction}
use Rattle.image.specs.declared.Instruction.TheVariants.{Stop}

-- V of a byte: a bit is 1 where it is undefined, 0 where it is defined
abbrev pub undefined_byte : ℕ
undefined_byte = 2 ^ 8 - 1

abbrev pub defined_byte : ℕ
defined_byte = 0

-- A of an addressable byte (01: open), and of an unaddressable one (closed)
abbrev pub addressable_mark : ℕ
addressable_mark = 1

abbrev pub unaddressable_mark : ℕ
unaddressable_mark = 0

-- sixteen registers and M bytes of memory; beside each register a V word, beside each byte a V byte and an A byte
pub record Parts : Type 0 where
  pub regs : List ℕ
  pub regs_v : List ℕ
  pub mem : List ℕ
  pub mem_v : List ℕ
  pub mem_a : List ℕ

abbrev pub parts : (regs regs_v mem mem_v mem_a : List ℕ) → Parts
parts regs regs_v mem mem_v mem_a = record { regs = regs; regs_v = regs_v; mem = mem; mem_v = mem_v; mem_a = mem_a }

-- the next instruction's index; how many steps were taken, outputs and reports made
pub record Counts : Type 0 where
  pub index : ℕ
  pub steps : ℕ
  pub outputs : ℕ
  pub reports : ℕ

abbrev pub zero_counts : Counts
zero_counts = record { index = 0; steps = 0; outputs = 0; reports = 0 }

-- all that a run reads and writes: the state, the buffers and the two lists
pub record World : Type 0 where
  pub parts : Parts
  pub counts : Counts
  pub report_list : List ℕ
  pub output_list : List ℕ

-- how many instructions there are, and which one stands at an index below that
pub record Program : Type 0 where
  pub count : ℕ
  pub at : ℕ → Instruction

-- at each index below N of an accepted image there is an instruction; what stands for a fault is never looked at
abbrev pub instruction_of : Result Instruction ℕ → Instruction
instruction_of (Ok instruction) = instruction
instruction_of (Err i) = Stop

-- the program of some code, in an image of N instructions and M bytes of memory; and of an image
abbrev pub program_in : (code : List ℕ) (n m : ℕ) → Program
program_in code n m = record { count = n; at = λ i. instruction_of (decode_at code i n m) }

unfoldable pub program_of : List ℕ → Program
program_of s = program_in (code_part s (field_n s)) (field_n s) (field_m s)
