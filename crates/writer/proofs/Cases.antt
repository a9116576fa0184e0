-- The cases of specs/Cases.antt hold: the definitions compute to what was worked out by hand.
use mathlib.Core.Path.{◌≡◌, refl}
use mathlib.Core.List.{List, map}
use Rattle.rules.specs.Bytes.{joined}
use Rattle.image.specs.Words.{nth_word}
use Rattle.image.specs.Rows.{row_of, fields_ok, built, decoded, decode_at}
use Rattle.image.specs.Regions.{region_at, end_before, region_ok, filled_sum}
use Rattle.image.specs.Refusals.{first_fault, instruction_ok, code_refusal, region_refusal}
use Rattle.writer.specs.Words.{bytes_of}
use Rattle.writer.specs.Writing.{image_of, counts_ok, entries_refusal, write_refusal, write_answer}
use Rattle.writer.specs.Cases.{WriteCase, written_cases, room_cases, limit_cases, part_cases, instruction_cases, region_cases, sum_cases, pair_cases}

abbrev pub Hold : List WriteCase → Type 0
Hold cases =
    map (λ (c : WriteCase). write_answer c.m c.instructions c.regions c.held c.out) cases
    ≡ map (λ (c : WriteCase). c.answer) cases

pub cases-hold : Hold written_cases × Hold room_cases × Hold limit_cases × Hold part_cases × Hold instruction_cases × Hold region_cases × Hold sum_cases × Hold pair_cases
unfolding joined nth_word row_of fields_ok built decoded decode_at region_at end_before region_ok filled_sum first_fault instruction_ok code_refusal region_refusal bytes_of image_of counts_ok entries_refusal write_refusal write_answer
cases-hold = (refl, refl, refl, refl, refl, refl, refl, refl)
