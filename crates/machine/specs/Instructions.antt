-- What both machines share of an instruction (01, the table of instructions, and Address under Shadow rules; 02, L1): the second operand, the address,
-- the bytes of an access, how a load widens them, the way on, and what is put out. What an operation does to data is `action_of` of the crate `rules`.
use Rattle.std.specs.Prelude.{ℕ, ◌+◌, Bool, false, cond, not, List, [], ◌∷◌, get_or, eqb}
use Rattle.rules.specs.Actions.{add_of}
use Rattle.rules.specs.Shadows.{zwiden, swiden}
use Rattle.image.specs.declared.Operand.{Operand}
use Rattle.image.specs.declared.Operand.TheVariants.{Register, Literal}
use Rattle.image.specs.declared.Width.{Width}
use Rattle.image.specs.declared.Width.TheVariants.{Byte, Half, Word}
use Rattle.image.specs.declared.Widening.{Widening}
use Rattle.image.specs.declared.Widening.TheVariants.{Zero, Sign}
use Rattle.image.specs.declared.Instruction.{Instruction}
use Rattle.image.specs.declared.Instruction.TheVariants.{Stop, Move, Compute, Load, Store, Jump, Emit, Mark}
use Rattle.machine.specs.Ranges.{all_addressable}

-- the data of B: a register's, or the literal
abbrev pub operand_data : Operand → List ℕ → ℕ
operand_data (Register r) regs = get_or regs r 0
operand_data (Literal x) regs = x.0

-- register a plus imm, modulo 4,294,967,296
abbrev pub address_of : List ℕ → (a imm : ℕ) → ℕ
address_of regs a imm = add_of (get_or regs a 0) imm

-- how many bytes a load or store moves
abbrev pub bytes_of : Width → ℕ
bytes_of Byte = 1
bytes_of Half = 2
bytes_of Word = 4

-- what a load makes of its n bytes, data and V alike (01: LD8 zero-widens; 02, L1)
abbrev pub widened : Widening → (n x : ℕ) → ℕ
widened Zero n x = zwiden x
widened Sign n x = swiden n x

-- some byte of a load or store is unaddressable; byte k lies at the address plus k, not wrapped
unfoldable pub blocked : List ℕ → Instruction → List ℕ → Bool
blocked A Stop regs = false
blocked A (Move d b) regs = false
blocked A (Compute op d a b) regs = false
blocked A (Load width widening d a imm) regs = not (all_addressable A (address_of regs a imm) (bytes_of width))
blocked A (Store width d a imm) regs = not (all_addressable A (address_of regs a imm) (bytes_of width))
blocked A (Jump a target) regs = false
blocked A (Emit a port) regs = false
blocked A (Mark addressable start size) regs = false

-- the index of the next instruction: JNZ jumps by the data, any step not jumping goes to the next index
unfoldable pub way_on : Instruction → List ℕ → ℕ → ℕ
way_on Stop regs index = index + 1
way_on (Move d b) regs index = index + 1
way_on (Compute op d a b) regs index = index + 1
way_on (Load width widening d a imm) regs index = index + 1
way_on (Store width d a imm) regs index = index + 1
way_on (Jump a target) regs index = cond (eqb (get_or regs a 0) 0) (index + 1) target
way_on (Emit a port) regs index = index + 1
way_on (Mark addressable start size) regs index = index + 1

pub record Output : Type 0 where
  pub port : ℕ
  pub value : ℕ

abbrev pub output : (port value : ℕ) → Output
output port value = record { port = port; value = value }

-- what a step puts out
unfoldable pub outputs_of : Instruction → List ℕ → List Output
outputs_of Stop regs = []
outputs_of (Move d b) regs = []
outputs_of (Compute op d a b) regs = []
outputs_of (Load width widening d a imm) regs = []
outputs_of (Store width d a imm) regs = []
outputs_of (Jump a target) regs = []
outputs_of (Emit a port) regs = output port (get_or regs a 0) ∷ []
outputs_of (Mark addressable start size) regs = []
