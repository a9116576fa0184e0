-- The definitions, computed on document 01's example and on its limits.
use mathlib.Core.Path.{◌≡◌, refl}
use Rattle.rules.specs.Bytes.{joined}
use Rattle.image.specs.Words.{nth_word}
use Rattle.image.specs.Format.{largest, code_part}
use Rattle.image.specs.Rows.{row_of, fields_ok, built, decoded, decode_at}
use Rattle.image.specs.Regions.{region_at, end_before, region_ok, filled_sum}
use Rattle.image.specs.Refusals.{accepted, first_fault, instruction_ok, code_refusal, region_refusal, refusal_of, header_of}
use Rattle.image.specs.Example.{example}
use Rattle.image.specs.declared.Operand.TheVariants.{Literal}
use Rattle.image.specs.declared.Width.TheVariants.{Word}
use Rattle.image.specs.declared.Widening.TheVariants.{Zero}
use Rattle.image.specs.declared.Instruction.TheVariants.{Stop, Move, Load, Emit}
use Rattle.std.specs.Prelude.{Ok}

pub largest-image : largest ≡ 24992
largest-image = refl

pub example-header : header_of example ≡ record { m = 16; n = 4; r = 1; d = 0; refusal = accepted }
unfolding joined nth_word row_of fields_ok built decoded decode_at region_at end_before region_ok filled_sum first_fault instruction_ok code_refusal region_refusal refusal_of header_of
example-header = refl

pub example-code : (decode_at (code_part example 4) 0 4 16 ≡ Ok (Move 0 (Literal (record { 0 = 8 }))))
    × (decode_at (code_part example 4) 1 4 16 ≡ Ok (Load Word Zero 1 0 0))
    × (decode_at (code_part example 4) 2 4 16 ≡ Ok (Emit 1 2))
    × (decode_at (code_part example 4) 3 4 16 ≡ Ok Stop)
unfolding joined nth_word row_of fields_ok built decoded decode_at
example-code = (refl, refl, refl, refl)
