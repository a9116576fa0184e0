-- The number and the fields that document 01's table (ops 21 to 24: 02, L1) gives for each case of the decoded instruction, and what a
-- decoded answer says by them. `decode` promises this beside its equation with `decode_at`; `decoded-reads` and `reads-decoded` in proofs/EncodingLaws.antt say that
-- each of the two follows from the other.
use Rattle.std.specs.Prelude.{ℕ, ◌+◌, ◌*◌, ◌/◌, ◌^◌, ◌<◌, ◌≡◌, Bool, true, false, List, length, Result, Ok, Err}
use Rattle.rules.specs.declared.Operation.{Operation}
use Rattle.rules.specs.declared.Operation.TheVariants.{Add, Sub, Mul, And, Or, Xor, Shl, Shr, Sar, Eq, Ltu}
use Rattle.image.specs.Format.{instruction_size}
use Rattle.image.specs.Rows.{literal_mark, Fields, fields_at}
use Rattle.image.specs.Accepted.{Fits}
use Rattle.image.specs.declared.Operand.{Operand}
use Rattle.image.specs.declared.Operand.TheVariants.{Register, Literal}
use Rattle.image.specs.declared.Width.{Width}
use Rattle.image.specs.declared.Width.TheVariants.{Byte, Half, Word}
use Rattle.image.specs.declared.Widening.{Widening}
use Rattle.image.specs.declared.Widening.TheVariants.{Zero, Sign}
use Rattle.image.specs.declared.Instruction.{Instruction}
use Rattle.image.specs.declared.Instruction.TheVariants.{Stop, Move, Compute, Load, Store, Jump, Emit, Mark}

abbrev pub fields : (op d a b imm : ℕ) → Fields
fields op d a b imm = record { op = op; d = d; a = a; b = b; imm = imm }

unfoldable pub op_of : Operation → ℕ
op_of Add = 2
op_of Sub = 3
op_of Mul = 4
op_of And = 5
op_of Or = 6
op_of Xor = 7
op_of Shl = 8
op_of Shr = 9
op_of Sar = 10
op_of Eq = 11
op_of Ltu = 12

-- how many ops there are: refusal 5 begins at op 25 (02, L1)
abbrev pub ops : ℕ
ops = 25

-- A word is not widened, and has no signed load: in the place of its op stands the first number that is none.
unfoldable pub load_op : Width → Widening → ℕ
load_op Byte Zero = 13
load_op Word Zero = 14
load_op Half Zero = 21
load_op Byte Sign = 22
load_op Half Sign = 23
load_op Word Sign = ops

unfoldable pub store_op : Width → ℕ
store_op Byte = 15
store_op Word = 16
store_op Half = 24

-- OPEN and CLOSE
unfoldable pub mark_op : Bool → ℕ
mark_op true = 19
mark_op false = 20

-- the fields b and imm of the second operand
abbrev pub operand_b : Operand → ℕ
operand_b (Register r) = r
operand_b (Literal x) = literal_mark

abbrev pub operand_imm : Operand → ℕ
operand_imm (Register r) = 0
operand_imm (Literal x) = x.0

unfoldable pub encoded : Instruction → Fields
encoded Stop = fields 0 0 0 0 0
encoded (Move d b) = fields 1 d 0 (operand_b b) (operand_imm b)
encoded (Compute op d a b) = fields (op_of op) d a (operand_b b) (operand_imm b)
encoded (Load width widening d a imm) = fields (load_op width widening) d a 0 imm
encoded (Store width d a imm) = fields (store_op width) d a 0 imm
encoded (Jump a target) = fields 17 0 a 0 target
encoded (Emit a port) = fields 18 0 a 0 port
encoded (Mark addressable start size) = fields (mark_op addressable) 0 0 0 (start + 2 ^ 16 * size)

-- ---- the reading of one instruction
-- start is imm's low 16 bits (`Fits` says so where M is below 2 ^ 16)
abbrev pub StartFits : Instruction → Type 0
StartFits Stop = Unit
StartFits (Move d b) = Unit
StartFits (Compute op d a b) = Unit
StartFits (Load width widening d a imm) = Unit
StartFits (Store width d a imm) = Unit
StartFits (Jump a target) = Unit
StartFits (Emit a port) = Unit
StartFits (Mark addressable start size) = start < 2 ^ 16

-- the eight bytes at index i of the code are there, they are the instruction's fields, its op is below 25, and the others fit: they are in range,
-- and a register that it writes is not the frame register
pub record StandsAt (code : List ℕ) (i n m : ℕ) (instruction : Instruction) : Type 0 where
  pub there : i < length code / instruction_size
  pub same : fields_at code i ≡ encoded instruction
  pub known : (encoded instruction).op < ops
  pub fits : Fits n m instruction
  pub start : StartFits instruction

-- a decoded instruction stands at the index; the place of a fault is the index, and no instruction stands there
unfoldable pub ReadsAs : (code : List ℕ) (i n m : ℕ) → Result Instruction ℕ → Type 0
ReadsAs code i n m (Ok instruction) = StandsAt code i n m instruction
ReadsAs code i n m (Err k) = (k ≡ i) × ((instruction : Instruction) → StandsAt code i n m instruction → ⊥)
