-- The bare machine (01, The bare machine): no V bits, no reports. It keeps a mark for each byte, and traps where a load or store meets a byte that is not marked.
use Rattle.std.specs.Prelude.{ℕ, ◌+◌, Bool, cond, List, [], ◌++◌, length, get_or, set, eqb}
use Rattle.rules.specs.Actions.{mov_of}
use Rattle.rules.specs.Operations.{action_of}
use Rattle.image.specs.declared.Instruction.{Instruction}
use Rattle.image.specs.declared.Instruction.TheVariants.{Stop, Move, Compute, Load, Store, Jump, Emit, Mark}
use Rattle.machine.specs.Machine.{Program}
use Rattle.machine.specs.Ranges.{loaded, filled, stored}
use Rattle.machine.specs.Beginning.{begun_memory, begun_a}
use Rattle.machine.specs.Instructions.{operand_data, address_of, bytes_of, widened, blocked, way_on, Output, outputs_of}
use Rattle.machine.specs.Steps.{mark_of}
use Rattle.machine.specs.Runs.{trapped, reason_at, Ended, run_on}

-- registers, memory, and a mark for each byte: 1 if it is addressable
pub record BareParts : Type 0 where
  pub regs : List ℕ
  pub mem : List ℕ
  pub marks : List ℕ

abbrev pub bare_parts : (regs mem marks : List ℕ) → BareParts
bare_parts regs mem marks = record { regs = regs; mem = mem; marks = marks }

pub record Bare : Type 0 where
  pub parts : BareParts
  pub index : ℕ
  pub steps : ℕ
  pub outputs : List Output

-- registers and memory stay as handed in, but for the filled bytes
unfoldable pub bare_begun : (s regs mem : List ℕ) → Bare
bare_begun s regs mem = record { parts = bare_parts regs (begun_memory s mem) (begun_a s); index = 0; steps = 0; outputs = [] }

-- the table's action on data; OPEN and CLOSE set the marks and no data
unfoldable pub bare_acted : Instruction → BareParts → BareParts
bare_acted Stop p = p
bare_acted (Move d b) p = bare_parts (set p.regs d (mov_of (operand_data b p.regs))) p.mem p.marks
bare_acted (Compute op d a b) p = bare_parts (set p.regs d (action_of op (get_or p.regs a 0) (operand_data b p.regs))) p.mem p.marks
bare_acted (Load width widening d a imm) p =
    bare_parts (set p.regs d (widened widening (bytes_of width) (loaded p.mem (address_of p.regs a imm) (bytes_of width)))) p.mem p.marks
bare_acted (Store width d a imm) p = bare_parts p.regs (stored (get_or p.regs d 0) p.mem (address_of p.regs a imm) (bytes_of width)) p.marks
bare_acted (Jump a target) p = p
bare_acted (Emit a port) p = p
bare_acted (Mark addressable start size) p = bare_parts p.regs p.mem (filled (mark_of addressable) p.marks start size)

unfoldable pub bare_stepped : Instruction → Bare → Bare
bare_stepped i c =
    record {
      parts = bare_acted i c.parts;
      index = way_on i c.parts.regs c.index;
      steps = c.steps + 1;
      outputs = c.outputs ++ outputs_of i c.parts.regs;
    }

-- some byte of the next load or store is at M or beyond, or not marked
unfoldable pub traps : Program → Bare → Bool
traps program c = blocked c.parts.marks (program.at c.index) c.parts.regs

-- reasons 2, 1, 4 and 3 as the checker has them, and then the trap
unfoldable pub or_trap : Bool → ℕ → ℕ
or_trap trap reason = cond (eqb reason 0) (cond trap trapped 0) reason

unfoldable pub bare_reason : Program → (places left : ℕ) → Bare → ℕ
bare_reason program places left c = or_trap (traps program c) (reason_at program places left c.index (length c.outputs))

unfoldable pub bare_next : Program → Bare → Bare
bare_next program c = bare_stepped (program.at c.index) c

abbrev pub bare_run : Program → (places budget : ℕ) → Bare → Ended Bare
bare_run program places = run_on (bare_reason program places) (bare_next program)
