-- The program of an accepted image: at each index below N stands what is decoded there, with fields in range.
use Prim.Native.Nat.{ℕ, ◌*◌, ◌<◌}
use mathlib.Core.Path.{◌≡◌, sym, ap, subst}
use mathlib.Core.List.{List}
use Rattle.image.specs.Words.{Bytes}
use Rattle.image.specs.Format.{header_size, instruction_size, field_m, field_n, code_part}
use Rattle.image.specs.Rows.{fields_at, built_from, decode_at}
use Rattle.image.specs.Accepted.{Accepted, Fits}
use Rattle.image.specs.Encoding.{StandsAt, ReadsAs}
use Rattle.image.specs.declared.Instruction.{Instruction}
use Rattle.std.specs.Prelude.{Result, Ok, Err}
use Rattle.image.proofs.Parts.{bytes-part}
use Rattle.image.proofs.DecodedFits.{decodes, decoded-built}
use Rattle.image.proofs.EncodingLaws.{decoded-reads}
use Rattle.machine.specs.Machine.{instruction_of, program_of}

pub program-at : (s : List ℕ) (i : ℕ) (v : Instruction) → decode_at (code_part s (field_n s)) i (field_n s) (field_m s) ≡ Ok v → (program_of s).at i ≡ v
unfolding program_of
program-at s i v e = ap instruction_of e

pub program-fits : (s : List ℕ) → Bytes s → Accepted s → (i : ℕ) → i < (program_of s).count → Fits (program_of s).count (field_m s) ((program_of s).at i)
unfolding program_of
program-fits s b a i l =
    let found = decodes s b a i l in
    subst (λ (d : Result Instruction ℕ). Fits (field_n s) (field_m s) (instruction_of d)) (sym found.1) found.2

-- its fields stand at the index, and it is what they make
pub program-stands : (s : List ℕ) → Bytes s → Accepted s → (i : ℕ) → i < (program_of s).count
    → StandsAt (code_part s (field_n s)) i (field_n s) (field_m s) ((program_of s).at i) × ((program_of s).at i ≡ built_from (fields_at (code_part s (field_n s)) i))
unfolding program_of ReadsAs
program-stands s b a i l =
    let code = code_part s (field_n s) in
    let found = decodes s b a i l in
    let v = found.0 in
    let e = found.1 in
    let stands : StandsAt code i (field_n s) (field_m s) v = decoded-reads code i (field_n s) (field_m s) (bytes-part s header_size (instruction_size * field_n s) b) (Ok v) (sym e) in
    subst
    (λ (d : Result Instruction ℕ). StandsAt code i (field_n s) (field_m s) (instruction_of d) × (instruction_of d ≡ built_from (fields_at code i)))
    (sym e)
    (stands, decoded-built code i (field_n s) (field_m s) v e)
