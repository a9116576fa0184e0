-- How far the fields of a decoded instruction reach, and that every index of an accepted image has one.
use Prim.Native.Nat.{ℕ, ◌+◌, ◌*◌, ◌^◌, ◌<◌}
use mathlib.Core.Path.{◌≡◌, refl, sym, subst}
use mathlib.Core.Bool.{Bool, true, false}
use mathlib.Core.List.{List}
use lib.Dec.{ltb, leb, eqb}
use lib.ListN.{get_or}
use borrow.Author.Tests.{ltb-true, leb-true}
use Rattle.rules.proofs.ByteLaws.{joined-lt}
use Rattle.image.specs.Words.{nth_word, Bytes}
use Rattle.image.specs.Format.{header_size, instruction_size, ports, field_m, field_n, code_part}
use Rattle.image.specs.Rows.{row_of, literal_mark, is_register, is_writable, operand_ok, range_start, range_length, range_ok, fields_ok, operand_of, built, fields_at, built_from, decode_at}
use Rattle.image.specs.Accepted.{Accepted, OperandFits, Fits}
use Rattle.image.specs.declared.Instruction.{Instruction}
use Rattle.image.specs.declared.rows.Row.{Row}
use Rattle.image.specs.declared.rows.Row.TheVariants.{Stops, Moves, Computes, Loads, Stores, Jumps, Emits, Marks, Missing}
use Rattle.std.specs.Prelude.{Result, Ok, Err}
use Rattle.image.proofs.Parts.{bytes-part}
use Rattle.image.proofs.Decoding.{writable-holds, of-answer}
use Rattle.image.proofs.Tests.{apart, both, all_three, all-four}

pub word_lt : (s : List ℕ) (k : ℕ) → Bytes s → nth_word s k < 2 ^ 32
unfolding nth_word
word_lt s k b = joined-lt 4 (λ j. get_or s (4 * k + j) 0) (λ j l. b (4 * k + j))

operand-fits : (b imm : ℕ) → imm < 2 ^ 32 → operand_ok b imm ≡ true → OperandFits (operand_of b imm)
operand-fits b imm l h = go (eqb b literal_mark) refl
  where
    go : (t : Bool) → eqb b literal_mark ≡ t → OperandFits (operand_of b imm)
    go true e = rw e l
    go false e = rw e (ltb-true _ _ (both (is_register b) _ (rw e at h)).0)

-- the instruction of fields that keep their row
built-fits : (row : Row) (d a b imm n m : ℕ) → imm < 2 ^ 32 → fields_ok row d a b imm n m ≡ true → Fits n m (built row d a b imm)
unfolding fields_ok built
built-fits Stops d a b imm n m l h = tt
built-fits Moves d a b imm n m l h =
    let e = all_three (is_writable d) (eqb a 0) (operand_ok b imm) h in
    (writable-holds d e.0, operand-fits b imm l e.2)
built-fits (Computes op) d a b imm n m l h =
    let e = all_three (is_writable d) (is_register a) (operand_ok b imm) h in
    (writable-holds d e.0, ltb-true _ _ e.1, operand-fits b imm l e.2)
built-fits (Loads width widening) d a b imm n m l h =
    let e = all_three _ _ _ h in
    (writable-holds d e.0, ltb-true _ _ e.1, l)
built-fits (Stores width) d a b imm n m l h =
    let e = all_three (is_register d) (is_register a) (eqb b 0) h in
    (ltb-true _ _ e.0, ltb-true _ _ e.1, l)
built-fits Jumps d a b imm n m l h =
    let e = all-four (eqb d 0) (is_register a) (eqb b 0) (ltb imm n) h in
    (ltb-true _ _ e.1, ltb-true _ _ e.3)
built-fits Emits d a b imm n m l h =
    let e = all-four (eqb d 0) (is_register a) (eqb b 0) (ltb imm ports) h in
    (ltb-true _ _ e.1, ltb-true _ _ e.3)
built-fits (Marks addressable) d a b imm n m l h =
    let e = all-four (eqb d 0) (eqb a 0) (eqb b 0) (range_ok imm m) h in
    let q = both (leb 1 (range_length imm)) (leb (range_start imm + range_length imm) m) e.3 in
    (leb-true _ _ q.0, leb-true _ _ q.1)
built-fits Missing d a b imm n m l h = apart (sym h)

abbrev AnswerFits : (n m : ℕ) → Result Instruction ℕ → Type 0
AnswerFits n m (Ok v) = Fits n m v
AnswerFits n m (Err k) = Unit

pub decoded-fits : (code : List ℕ) (i n m : ℕ) (v : Instruction) → Bytes code → decode_at code i n m ≡ Ok v → Fits n m v
decoded-fits code i n m v b h =
    let f = fields_at code i in
    subst (AnswerFits n m) h (of-answer (AnswerFits n m) n m code i (λ there. built-fits (row_of f.op) f.d f.a f.b f.imm n m (word_lt code (2 * i + 1) b)) tt)

abbrev PlacedAt : ℕ → Result Instruction ℕ → Type 0
PlacedAt i (Ok v) = Unit
PlacedAt i (Err k) = k ≡ i

-- the place of a fault is the index
pub fault-place : (code : List ℕ) (i n m k : ℕ) → decode_at code i n m ≡ Err k → k ≡ i
fault-place code i n m k h = subst (PlacedAt i) h (of-answer (PlacedAt i) n m code i (λ there kept. tt) refl)

abbrev BuiltAs : Instruction → Result Instruction ℕ → Type 0
BuiltAs i (Ok v) = v ≡ i
BuiltAs i (Err k) = Unit

-- what is decoded is what the fields make
pub decoded-built : (code : List ℕ) (i n m : ℕ) (v : Instruction) → decode_at code i n m ≡ Ok v → v ≡ built_from (fields_at code i)
decoded-built code i n m v h =
    let made = built_from (fields_at code i) in
    subst (BuiltAs made) h (of-answer (BuiltAs made) n m code i (λ there kept. refl) tt)

-- each index below N of an accepted image decodes, to an instruction whose fields fit
pub decodes : (s : List ℕ) → Bytes s → Accepted s → (i : ℕ) → i < field_n s
    → (v : Instruction) × (decode_at (code_part s (field_n s)) i (field_n s) (field_m s) ≡ Ok v) × Fits (field_n s) (field_m s) v
decodes s b a i l =
    let found = a.code i l in
    (found.0, found.1, decoded-fits (code_part s (field_n s)) i (field_n s) (field_m s) found.0 (bytes-part s header_size (instruction_size * field_n s) b) found.1)
