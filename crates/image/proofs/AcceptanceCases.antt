-- The cases of specs/AcceptanceCases.antt hold: the definitions compute to what was worked out by hand.
use mathlib.Core.Path.{◌≡◌, refl}
use mathlib.Core.List.{List, map}
use Rattle.rules.specs.Bytes.{joined}
use Rattle.image.specs.Words.{nth_word}
use Rattle.image.specs.Rows.{row_of, fields_ok, built, decoded, decode_at}
use Rattle.image.specs.Regions.{region_at, end_before, region_ok, filled_sum}
use Rattle.image.specs.Refusals.{first_fault, instruction_ok, code_refusal, region_refusal, refusal_of}
use Rattle.image.specs.AcceptanceCases.{RefusalCase, refusal_cases, frame_cases}

abbrev pub Hold : List RefusalCase → Type 0
Hold cases = map (λ (c : RefusalCase). refusal_of c.image) cases ≡ map (λ (c : RefusalCase). c.refusal) cases

pub refusals-hold : Hold refusal_cases × Hold frame_cases
unfolding joined nth_word row_of fields_ok built decoded decode_at region_at end_before region_ok filled_sum first_fault instruction_ok code_refusal region_refusal refusal_of
refusals-hold = (refl, refl)
