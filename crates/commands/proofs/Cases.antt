-- The cases of specs/Cases.antt hold: the definitions compute to what was worked out by hand.
use mathlib.Core.Path.{◌≡◌, refl}
use mathlib.Core.List.{List, map}
use lib.Ieee.{le, of_int, of_bits, to_bits, nan_bits}
use Rattle.commands.specs.Gates.{float, highest_of, in_gate, blocked, command_with, command_of}
use Rattle.commands.specs.Answers.{ports_ok, accepts, answer_of, numbers_of}
use Rattle.commands.specs.Cases.{Case, end_cases, outside_cases, port_cases, number_cases, list_cases, Carrying, float_cases}

abbrev pub Hold : List Case → Type 0
Hold cases = map (λ (c : Case). numbers_of (answer_of c.outputs c.number)) cases ≡ map (λ (c : Case). c.numbers) cases

pub cases-hold : Hold end_cases × Hold outside_cases × Hold port_cases × Hold number_cases × Hold list_cases
unfolding float highest_of in_gate blocked command_with command_of le of_int of_bits to_bits nan_bits ports_ok accepts answer_of
cases-hold = (refl, refl, refl, refl, refl)

pub floats-hold : map (λ (c : Carrying). command_of c.port c.value) float_cases ≡ map (λ (c : Carrying). c.command) float_cases
unfolding float highest_of in_gate blocked command_with command_of le of_int of_bits nan_bits
floats-hold = refl
