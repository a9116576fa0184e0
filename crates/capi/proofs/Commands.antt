-- The cases of specs/Commands.antt hold, by computing.
use mathlib.Core.Path.{◌≡◌, refl}
use mathlib.Core.List.{map}
use lib.Ieee.{le, of_int, of_bits, to_bits, nan_bits}
use Rattle.commands.specs.Gates.{float, highest_of, in_gate, blocked, command_with, command_of}
use Rattle.commands.specs.Answers.{ports_ok, accepts, answer_of}
use Rattle.capi.specs.Commands.{Case, cases, answer_words}

pub cases-hold : map (λ (c : Case). answer_words (answer_of c.outputs c.number)) cases ≡ map (λ (c : Case). c.words) cases
unfolding float highest_of in_gate blocked command_with command_of le of_int of_bits to_bits nan_bits ports_ok accepts answer_of
cases-hold = refl
