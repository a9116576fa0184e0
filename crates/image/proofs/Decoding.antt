-- What the tests of a field say, and what holds of a decoded answer from what holds of fields that keep their row.
use Prim.Native.Nat.{ℕ, ◌/◌, ◌<◌}
use mathlib.Core.Path.{◌≡◌, refl}
use mathlib.Core.Bool.{Bool, true, false, cond, not}
use mathlib.Core.List.{List}
use lib.Dec.{ltb, eqb}
use lib.ListN.{length}
use borrow.Author.Tests.{ltb-true, eqb-false, not-true, lt-ltb, ne_eqb}
use Rattle.image.specs.Format.{instruction_size, registers, frame_register}
use Rattle.image.specs.Rows.{row_of, is_register, is_writable, fields_ok, built, decoded, Fields, fields_at, decoded_from, decode_at}
use Rattle.image.specs.Accepted.{Writable}
use Rattle.image.specs.declared.Instruction.{Instruction}
use Rattle.std.specs.Prelude.{Result, Ok, Err}
use Rattle.image.proofs.Tests.{both}

-- the test of a register that is written
pub writable-holds : (d : ℕ) → is_writable d ≡ true → Writable d
writable-holds d h =
    let e = both (is_register d) (not (eqb d frame_register)) h in
    (ltb-true _ _ e.0, eqb-false _ _ (not-true _ e.1))

pub writable-passes : (d : ℕ) → Writable d → is_writable d ≡ true
writable-passes d w = rw (lt-ltb d registers w.0, ne_eqb d frame_register w.1)

module _ (P : Result Instruction ℕ → Type 0) (n m : ℕ) where
  -- of the instruction that these fields make
  abbrev Kept : Fields → Type 0
  Kept f = fields_ok (row_of f.op) f.d f.a f.b f.imm n m ≡ true → P (Ok (built (row_of f.op) f.d f.a f.b f.imm))

  of_fields : (f : Fields) (i : ℕ) → Kept f → P (Err i) → P (decoded_from f i n m)
  unfolding decoded
  of_fields f i kept fault = go (fields_ok (row_of f.op) f.d f.a f.b f.imm n m) refl
    where
      go : (t : Bool) → fields_ok (row_of f.op) f.d f.a f.b f.imm n m ≡ t
          → P (cond t (Ok (built (row_of f.op) f.d f.a f.b f.imm)) (Err i))
      go true e = kept e
      go false e = fault

  pub of-answer : (code : List ℕ) (i : ℕ) → (i < length code / instruction_size → Kept (fields_at code i)) → P (Err i) → P (decode_at code i n m)
  unfolding decode_at
  of-answer code i kept fault = go (ltb i (length code / instruction_size)) refl
    where
      go : (t : Bool) → ltb i (length code / instruction_size) ≡ t → P (cond t (decoded_from (fields_at code i) i n m) (Err i))
      go true e = of_fields (fields_at code i) i (kept (ltb-true _ _ e)) fault
      go false e = fault
