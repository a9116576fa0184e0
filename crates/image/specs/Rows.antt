-- The table of instructions (01, What a card holds; ops 21 to 24: 02, L1; register 15 is not written: 02, L9): the row of each op, which fields keep it, and the instruction that they make.
use Rattle.std.specs.Prelude.{ℕ, ◌+◌, ◌*◌, ◌/◌, ◌%◌, ◌^◌, Bool, true, false, cond, not, ◌&&◌, ◌||◌, List, [], ◌∷◌, length, get_or, ltb, leb, eqb, Result, Ok, Err}
use Rattle.rules.specs.declared.Operation.TheVariants.{Add, Sub, Mul, And, Or, Xor, Shl, Shr, Sar, Eq, Ltu}
use Rattle.image.specs.Words.{nth_word}
use Rattle.image.specs.Format.{instruction_size, registers, frame_register, ports}
use Rattle.image.specs.declared.Operand.{Operand}
use Rattle.image.specs.declared.Operand.TheVariants.{Register, Literal}
use Rattle.image.specs.declared.Width.TheVariants.{Byte, Half, Word}
use Rattle.image.specs.declared.Widening.TheVariants.{Zero, Sign}
use Rattle.image.specs.declared.Instruction.{Instruction}
use Rattle.image.specs.declared.Instruction.TheVariants.{Stop, Move, Compute, Load, Store, Jump, Emit, Mark}
use Rattle.image.specs.declared.rows.Row.{Row}
use Rattle.image.specs.declared.rows.Row.TheVariants.{Stops, Moves, Computes, Loads, Stores, Jumps, Emits, Marks, Missing}

-- the row of op 0, of op 1, .. ; OPEN marks bytes as addressable, CLOSE as not
abbrev pub rows : List Row
rows =
    Stops
    ∷ Moves
    ∷ Computes Add
    ∷ Computes Sub
    ∷ Computes Mul
    ∷ Computes And
    ∷ Computes Or
    ∷ Computes Xor
    ∷ Computes Shl
    ∷ Computes Shr
    ∷ Computes Sar
    ∷ Computes Eq
    ∷ Computes Ltu
    ∷ Loads Byte Zero
    ∷ Loads Word Zero
    ∷ Stores Byte
    ∷ Stores Word
    ∷ Jumps
    ∷ Emits
    ∷ Marks true
    ∷ Marks false
    ∷ Loads Half Zero
    ∷ Loads Byte Sign
    ∷ Loads Half Sign
    ∷ Stores Half
    ∷ []

unfoldable pub row_of : ℕ → Row
row_of op = get_or rows op Missing

-- in the place of a register's number: the operand is the literal imm
abbrev pub literal_mark : ℕ
literal_mark = 255

abbrev pub is_register : ℕ → Bool
is_register x = ltb x registers

-- a register that an instruction may write: any but the frame register (02, L9)
abbrev pub is_writable : ℕ → Bool
is_writable d = is_register d && not (eqb d frame_register)

-- B: a register with imm 0, or the literal imm
abbrev pub operand_ok : ℕ → ℕ → Bool
operand_ok b imm = eqb b literal_mark || (is_register b && eqb imm 0)

-- the range of OPEN and CLOSE: start in the low half of imm, length in the high half
abbrev pub range_start : ℕ → ℕ
range_start imm = imm % 2 ^ 16

abbrev pub range_length : ℕ → ℕ
range_length imm = imm / 2 ^ 16

abbrev pub range_ok : ℕ → ℕ → Bool
range_ok imm m = leb 1 (range_length imm) && leb (range_start imm + range_length imm) m

-- whether the fields d a b imm keep a row, in an image of N instructions and M bytes of memory; an unused field is 0
unfoldable pub fields_ok : Row → (d a b imm n m : ℕ) → Bool
fields_ok Stops d a b imm n m = eqb d 0 && eqb a 0 && eqb b 0 && eqb imm 0
fields_ok Moves d a b imm n m = is_writable d && eqb a 0 && operand_ok b imm
fields_ok (Computes op) d a b imm n m = is_writable d && is_register a && operand_ok b imm
fields_ok (Loads width widening) d a b imm n m = is_writable d && is_register a && eqb b 0
fields_ok (Stores width) d a b imm n m = is_register d && is_register a && eqb b 0
fields_ok Jumps d a b imm n m = eqb d 0 && is_register a && eqb b 0 && ltb imm n
fields_ok Emits d a b imm n m = eqb d 0 && is_register a && eqb b 0 && ltb imm ports
fields_ok (Marks addressable) d a b imm n m = eqb d 0 && eqb a 0 && eqb b 0 && range_ok imm m
fields_ok Missing d a b imm n m = false

abbrev pub operand_of : ℕ → ℕ → Operand
operand_of b imm = cond (eqb b literal_mark) (Literal (record { 0 = imm })) (Register b)

-- the instruction of fields that keep a row; of no row there is none, and the answer is not used
unfoldable pub built : Row → (d a b imm : ℕ) → Instruction
built Stops d a b imm = Stop
built Moves d a b imm = Move d (operand_of b imm)
built (Computes op) d a b imm = Compute op d a (operand_of b imm)
built (Loads width widening) d a b imm = Load width widening d a imm
built (Stores width) d a b imm = Store width d a imm
built Jumps d a b imm = Jump a imm
built Emits d a b imm = Emit a imm
built (Marks addressable) d a b imm = Mark addressable (range_start imm) (range_length imm)
built Missing d a b imm = Stop

-- the instruction with these fields, or the place of the fault
unfoldable pub decoded : Row → (d a b imm i n m : ℕ) → Result Instruction ℕ
decoded row d a b imm i n m = cond (fields_ok row d a b imm n m) (Ok (built row d a b imm)) (Err i)

-- the fields of instruction number i: four bytes op, d, a, b and a word imm
pub record Fields : Type 0 where
  pub op : ℕ
  pub d : ℕ
  pub a : ℕ
  pub b : ℕ
  pub imm : ℕ

abbrev pub fields_at : List ℕ → ℕ → Fields
fields_at code i = record { op = byte 0; d = byte 1; a = byte 2; b = byte 3; imm = nth_word code (2 * i + 1) }
  where
    byte : ℕ → ℕ
    byte k = get_or code (instruction_size * i + k) 0

-- the instruction that fields make, whether they keep their row or not
abbrev pub built_from : Fields → Instruction
built_from f = built (row_of f.op) f.d f.a f.b f.imm

abbrev pub decoded_from : Fields → (i n m : ℕ) → Result Instruction ℕ
decoded_from f i n m = decoded (row_of f.op) f.d f.a f.b f.imm i n m

-- instruction number i of the code; code that ends before its eight bytes is at fault
unfoldable pub decode_at : List ℕ → ℕ → ℕ → ℕ → Result Instruction ℕ
decode_at code i n m = cond (ltb i (length code / instruction_size)) (decoded_from (fields_at code i) i n m) (Err i)
