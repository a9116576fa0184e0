-- An instruction is decoded exactly where its fields stand and fit.
use Prim.Native.Nat.{ℕ, ◌+◌, ◌*◌, ◌/◌, ◌^◌, ◌<◌, ◌≤◌}
use mathlib.Core.Path.{◌≡◌, refl, sym, ◌∙◌, ap, subst}
use mathlib.Core.Logic.{⊎_elim}
use mathlib.Core.Bool.{Bool, true, false}
use mathlib.Core.List.{List}
use native.Mathlib.Omega.{arith}
use lib.Dec.{ltb, eqb}
use lib.ListN.{length, get_or-eq_default}
use borrow.Author.Tests.{eqb-true, lt-ltb, le-leb, ne_eqb}
use Rattle.rules.specs.declared.Operation.{Operation}
use Rattle.rules.specs.declared.Operation.TheVariants.{Add, Sub, Mul, And, Or, Xor, Shl, Shr, Sar, Eq, Ltu}
use Rattle.image.specs.Words.{Bytes}
use Rattle.image.specs.Format.{instruction_size, registers, ports}
use Rattle.image.specs.Rows.{rows, row_of, literal_mark, is_register, is_writable, operand_ok, range_start, range_length, range_ok, fields_ok, operand_of, built, decoded, Fields, fields_at, decoded_from, decode_at}
use Rattle.image.specs.Encoding.{fields, op_of, ops, load_op, store_op, mark_op, operand_b, operand_imm, encoded, StartFits, StandsAt, ReadsAs}
use Rattle.image.specs.Accepted.{OperandFits, Fits}
use Rattle.image.specs.declared.Operand.{Operand}
use Rattle.image.specs.declared.Operand.TheVariants.{Register, Literal}
use Rattle.image.specs.declared.Width.{Width}
use Rattle.image.specs.declared.Width.TheVariants.{Byte, Half, Word}
use Rattle.image.specs.declared.Widening.{Widening}
use Rattle.image.specs.declared.Widening.TheVariants.{Zero, Sign}
use Rattle.image.specs.declared.Instruction.{Instruction}
use Rattle.image.specs.declared.Instruction.TheVariants.{Stop, Move, Compute, Load, Store, Jump, Emit, Mark}
use Rattle.image.specs.declared.rows.Row.{Row}
use Rattle.image.specs.declared.rows.Row.TheVariants.{Stops, Moves, Computes, Loads, Stores, Jumps, Emits, Marks, Missing}
use Rattle.std.specs.Prelude.{Result, Ok, Err}
use Rattle.image.proofs.Tests.{apart, both, all_three, all-four, every-below}
use Rattle.rules.proofs.Bits.{lt-or-ge}
use Rattle.image.proofs.Decoding.{writable-passes, of-answer}
use Rattle.image.proofs.DecodedFits.{decoded-fits, fault-place}

-- ---- from the fields to the instruction and back
-- the op of the instruction that a row makes
abbrev number_of : Row → ℕ
number_of row = (encoded (built row 0 0 0 0)).op

operand-back : (b imm : ℕ) → operand_ok b imm ≡ true → (operand_b (operand_of b imm) ≡ b) × (operand_imm (operand_of b imm) ≡ imm)
operand-back b imm h = go (eqb b literal_mark) refl
  where
    go : (t : Bool) → eqb b literal_mark ≡ t → (operand_b (operand_of b imm) ≡ b) × (operand_imm (operand_of b imm) ≡ imm)
    go true e = rw e (sym (eqb-true b literal_mark e), refl)
    go false e = rw e (refl, sym (eqb-true imm 0 (both (is_register b) (eqb imm 0) (rw e at h)).1))

halves : (imm : ℕ) → range_start imm + 2 ^ 16 * range_length imm ≡ imm
halves imm = omega arith

built-back : (row : Row) (d a b imm n m : ℕ) → fields_ok row d a b imm n m ≡ true → encoded (built row d a b imm) ≡ fields (number_of row) d a b imm
unfolding fields_ok built encoded
built-back Stops d a b imm n m h =
    let e = all-four (eqb d 0) (eqb a 0) (eqb b 0) (eqb imm 0) h in
    rw (eqb-true d 0 e.0, eqb-true a 0 e.1, eqb-true b 0 e.2, eqb-true imm 0 e.3)
built-back Moves d a b imm n m h =
    let e = all_three (is_writable d) (eqb a 0) (operand_ok b imm) h in
    let o = operand-back b imm e.2 in
    rw (eqb-true a 0 e.1, o.0, o.1)
built-back (Computes op) d a b imm n m h =
    let o = operand-back b imm (all_three (is_writable d) (is_register a) (operand_ok b imm) h).2 in
    rw (o.0, o.1)
built-back (Loads width widening) d a b imm n m h = rw (eqb-true b 0 (both _ (eqb b 0) h).1)
built-back (Stores width) d a b imm n m h = rw (eqb-true b 0 (all_three (is_register d) (is_register a) (eqb b 0) h).2)
built-back Jumps d a b imm n m h =
    let e = all-four (eqb d 0) (is_register a) (eqb b 0) (ltb imm n) h in
    rw (eqb-true d 0 e.0, eqb-true b 0 e.2)
built-back Emits d a b imm n m h =
    let e = all-four (eqb d 0) (is_register a) (eqb b 0) (ltb imm ports) h in
    rw (eqb-true d 0 e.0, eqb-true b 0 e.2)
built-back (Marks addressable) d a b imm n m h =
    let e = all-four (eqb d 0) (eqb a 0) (eqb b 0) (range_ok imm m) h in
    rw (eqb-true d 0 e.0, eqb-true a 0 e.1, eqb-true b 0 e.2, halves imm)
built-back Missing d a b imm n m h = apart (sym h)

-- ---- the place of a row in the table is its number
numbered : ℕ → Bool
numbered op = eqb (number_of (row_of op)) op

row_number : (op : ℕ) → op < length rows → number_of (row_of op) ≡ op
unfolding numbered row_of built encoded op_of load_op store_op mark_op
row_number op l = eqb-true _ _ (every-below numbered (length rows) refl op l)

-- an op with a row
has-row : (op d a b imm n m : ℕ) → fields_ok (row_of op) d a b imm n m ≡ true → op < length rows
unfolding row_of fields_ok
has-row op d a b imm n m h = ⊎_elim (λ (l : op < length rows). l) (λ (g : length rows ≤ op). apart (sym (rw (get_or-eq_default rows Missing g) at h))) (lt-or-ge op (length rows))

-- ---- what is decoded stands there
abbrev Stands : Fields → Result Instruction ℕ → Type 0
Stands f (Ok v) = encoded v ≡ f
Stands f (Err k) = Unit

pub decoded-encoding : (code : List ℕ) (i n m : ℕ) (v : Instruction) → decode_at code i n m ≡ Ok v → encoded v ≡ fields_at code i
decoded-encoding code i n m v h =
    let f = fields_at code i in
    subst (Stands f) h
    (of-answer (Stands f) n m code i
    (λ l k. built-back (row_of f.op) f.d f.a f.b f.imm n m k ∙ ap (λ (op : ℕ). fields op f.d f.a f.b f.imm) (row_number f.op (has-row f.op f.d f.a f.b f.imm n m k)))
    tt)

-- ---- what stands there and fits is decoded
pub row-of-op : (op : Operation) → row_of (op_of op) ≡ Computes op
unfolding row_of op_of
row-of-op Add = refl
row-of-op Sub = refl
row-of-op Mul = refl
row-of-op And = refl
row-of-op Or = refl
row-of-op Xor = refl
row-of-op Shl = refl
row-of-op Shr = refl
row-of-op Sar = refl
row-of-op Eq = refl
row-of-op Ltu = refl

pub row-of-load : (width : Width) (widening : Widening) → load_op width widening < ops → row_of (load_op width widening) ≡ Loads width widening
unfolding row_of load_op
row-of-load Byte Zero h = refl
row-of-load Half Zero h = refl
row-of-load Word Zero h = refl
row-of-load Byte Sign h = refl
row-of-load Half Sign h = refl
row-of-load Word Sign h = absurd (omega arith)

pub row-of-store : (width : Width) → row_of (store_op width) ≡ Stores width
unfolding row_of store_op
row-of-store Byte = refl
row-of-store Half = refl
row-of-store Word = refl

pub row-of-mark : (addressable : Bool) → row_of (mark_op addressable) ≡ Marks addressable
unfolding row_of mark_op
row-of-mark true = refl
row-of-mark false = refl

operand-there : (b : Operand) → OperandFits b → (operand_ok (operand_b b) (operand_imm b) ≡ true) × (operand_of (operand_b b) (operand_imm b) ≡ b)
operand-there (Register r) h = rw (ne_eqb r literal_mark (λ e. omega arith), lt-ltb r registers h) (refl, refl)
operand-there (Literal x) h = (refl, refl)

range-there : (start size : ℕ) → start < 2 ^ 16 → (range_start (start + 2 ^ 16 * size) ≡ start) × (range_length (start + 2 ^ 16 * size) ≡ size)
range-there start size l = (omega arith, omega arith)

there : (v : Instruction) (i n m : ℕ) → (encoded v).op < ops → StartFits v → Fits n m v → decoded_from (encoded v) i n m ≡ Ok v
unfolding decoded row_of fields_ok built encoded
there Stop i n m g l h = refl
there (Move d b) i n m g l h =
    let o = operand-there b h.1 in
    rw (writable-passes d h.0, o.0, o.1)
there (Compute op d a b) i n m g l h =
    let o = operand-there b h.2 in
    rw (row-of-op op, writable-passes d h.0, lt-ltb a registers h.1, o.0, o.1)
there (Load width widening d a imm) i n m g l h = rw (row-of-load width widening g, writable-passes d h.0, lt-ltb a registers h.1)
there (Store width d a imm) i n m g l h = rw (row-of-store width, lt-ltb d registers h.0, lt-ltb a registers h.1)
there (Jump a target) i n m g l h = rw (lt-ltb a registers h.0, lt-ltb target n h.1)
there (Emit a port) i n m g l h = rw (lt-ltb a registers h.0, lt-ltb port ports h.1)
there (Mark addressable start size) i n m g l h =
    let r = range-there start size l in
    rw (row-of-mark addressable, r.0, r.1, le-leb 1 size h.0, le-leb (start + size) m h.1)

pub encoding-decodes : (code : List ℕ) (i n m : ℕ) (v : Instruction) → StandsAt code i n m v → decode_at code i n m ≡ Ok v
unfolding decode_at
encoding-decodes code i n m v s = rw (lt-ltb i (length code / instruction_size) s.there) (ap (λ (f : Fields). decoded_from f i n m) s.same ∙ there v i n m s.known s.start s.fits)

-- ---- the promise of `decode` by the fields follows from its equation, and the equation from it
start_fits : (row : Row) (d a b imm : ℕ) → StartFits (built row d a b imm)
unfolding built
start_fits Stops d a b imm = tt
start_fits Moves d a b imm = tt
start_fits (Computes op) d a b imm = tt
start_fits (Loads width widening) d a b imm = tt
start_fits (Stores width) d a b imm = tt
start_fits Jumps d a b imm = tt
start_fits Emits d a b imm = tt
start_fits (Marks addressable) d a b imm = omega arith
start_fits Missing d a b imm = tt

-- its eight bytes are there, its op is below 25, and a start is in imm's low half
abbrev Within : List ℕ → ℕ → Result Instruction ℕ → Type 0
Within code i (Ok v) = (i < length code / instruction_size) × ((fields_at code i).op < ops) × StartFits v
Within code i (Err k) = Unit

decoded-within : (code : List ℕ) (i n m : ℕ) (v : Instruction) → decode_at code i n m ≡ Ok v → Within code i (Ok v)
decoded-within code i n m v h =
    let f = fields_at code i in
    subst (Within code i) h
    (of-answer (Within code i) n m code i
    (λ l k. (l, has-row f.op f.d f.a f.b f.imm n m k, start_fits (row_of f.op) f.d f.a f.b f.imm))
    tt)

module _ (code : List ℕ) (i n m : ℕ) (b : Bytes code) where
  pub decoded-reads : (r : Result Instruction ℕ) → r ≡ decode_at code i n m → ReadsAs code i n m r
  unfolding ReadsAs
  decoded-reads (Ok v) e =
      let w = decoded-within code i n m v (sym e) in
      let same = sym (decoded-encoding code i n m v (sym e)) in
      record { there = w.0; same = same; known = subst (λ (f : Fields). f.op < ops) same w.1; fits = decoded-fits code i n m v b (sym e); start = w.2 }
  decoded-reads (Err k) e = (fault-place code i n m k (sym e), λ v s. never (encoding-decodes code i n m v s) e)
    where
      never : {v : Instruction} → decode_at code i n m ≡ Ok v → Err k ≡ decode_at code i n m → ⊥
      never p q = let z : ◌≡◌ {A = ℕ} 0 1 = cc in omega arith

  -- no other answer keeps it
  pub reads-decoded : (r : Result Instruction ℕ) → ReadsAs code i n m r → r ≡ decode_at code i n m
  unfolding ReadsAs
  reads-decoded (Ok v) s = sym (encoding-decodes code i n m v s)
  reads-decoded (Err k) s = go (decode_at code i n m) refl
    where
      go : (t : Result Instruction ℕ) → decode_at code i n m ≡ t → Err k ≡ t
      go (Ok v) h = absurd (s.1 v (decoded-reads (Ok v) (sym h)))
      go (Err j) h = ap Err (s.0 ∙ sym (fault-place code i n m j h))
