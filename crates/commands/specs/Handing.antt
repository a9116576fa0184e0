-- What follows from the definitions (02, L7), of any list and number. `hands_on` in proofs/Handing.antt is the proof.
use Rattle.std.specs.Prelude.{ℕ, ◌*◌, ◌%◌, ◌^◌, ◌≤◌, ◌<◌, ◌≡◌, ◌⊎◌, ◌↔◌, true, false, not, List, [], ◌∷◌, ◌++◌, length, Float, Ok}
use Rattle.std.specs.Float.{binary32}
use Rattle.std.specs.Float.Ieee.{le, of_bits, to_bits, is_nan}
use Rattle.image.specs.Format.{ports}
use Rattle.machine.specs.Lists.{output_size, output_places}
use Rattle.machine.specs.Calls.{most_outputs}
use Rattle.commands.specs.Gates.{gates, lowest, highest_of, blocked, command_of, port_of, rates_of}
use Rattle.commands.specs.ByBits.{passes_by_bits}
use Rattle.commands.specs.Answers.{port_at, refused, answer_of}
use Rattle.commands.specs.declared.Command.TheVariants.{Blocked}

-- "an even number of words, at most 512, and port words at most 7, and the number must lie within it"
pub record Acceptable (outputs : List ℕ) (number : ℕ) : Type 0 where
  pub even : length outputs % output_size ≡ 0
  pub most : length outputs ≤ output_size * most_outputs
  pub each_port : (k : ℕ) → k < output_places outputs → port_at outputs k < ports
  pub within : number < output_places outputs

-- a rate lies in the gate of a port
pub record Between (port : ℕ) (rate : Float) : Type 0 where
  pub least : le lowest rate ≡ true
  pub greatest : le rate (highest_of port) ≡ true

-- what a command that carries this rate has of its output
pub record Carries (port value : ℕ) (rate : Float) : Type 0 where
  pub same_port : port_of (command_of port value) ≡ port
  -- "minus zero passes with its bits kept", and so does every rate
  pub bits : to_bits binary32 rate ≡ value
  pub is_number : is_nan rate ≡ false
  pub between : Between port rate

pub record HandsOn : Type 0 where
  -- "else refusal 13"
  pub refuses : (outputs : List ℕ) (number : ℕ) → (answer_of outputs number ≡ refused) ↔ (Acceptable outputs number → ⊥)
  -- "the number of one, from 0": the output behind as many others makes the command
  pub hands : (before after : List ℕ) (port value number : ℕ) → length before ≡ output_size * number
      → Acceptable (before ++ (port ∷ value ∷ after)) number → answer_of (before ++ (port ∷ value ∷ after)) number ≡ Ok (command_of port value)
  -- "A command is blocked exactly if the port is 3 to 7, the value is not a number, or it lies outside the gate"; a port above 7 is refused with its list
  pub blocks : (port value : ℕ) → (command_of port value ≡ Blocked port) ↔ ((gates ≤ port) ⊎ ((is_nan (of_bits binary32 value) ≡ true) ⊎ (Between port (of_bits binary32 value) → ⊥)))
  -- what holds of a rate that is handed on, the value being a word of 32 bits
  pub carries : (port value : ℕ) → value < 2 ^ 32 → (rate : Float) → rates_of (command_of port value) ≡ rate ∷ [] → Carries port value rate
  -- which values pass, with no float: by their bits alone
  pub passes_by_bits : (port value : ℕ) → port < gates → value < 2 ^ 32 → blocked port value ≡ not (passes_by_bits port value)
