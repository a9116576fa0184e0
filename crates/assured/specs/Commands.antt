-- Damper commands beside demand 3 (02, L7): while the checker reports nothing, each output makes the same command on the bare machine.
-- `equal-commands` in proofs/Commands.antt is the proof, from `Together` of the crate `soundness`, which `Claim` has at every moment before the first report.
use Rattle.std.specs.Prelude.{ℕ, ◌*◌, ◌≡◌, List, [], ◌∷◌, ◌++◌, take}
use Rattle.machine.specs.Machine.{World}
use Rattle.machine.specs.Instructions.{Output}
use Rattle.machine.specs.Lists.{output_size, output_words}
use Rattle.machine.specs.Bare.{Bare}
use Rattle.soundness.specs.Claim.{Together}
use Rattle.commands.specs.Answers.{answer_of}

-- the words of outputs, one after the other
unfoldable pub list_of : List Output → List ℕ
list_of [] = []
list_of (o ∷ os) = output_words o ++ list_of os

-- the outputs made, as `command` takes them: the first places of the checker's list
abbrev pub outputs_made : World → List ℕ
outputs_made w = take (output_size * w.counts.outputs) w.output_list

-- the outputs made are the same words; so, whichever is asked for, they have the same command, or the same refusal
pub record SameCommands (w : World) (c : Bare) : Type 0 where
  pub words : outputs_made w ≡ list_of c.outputs
  pub commands : (number : ℕ) → answer_of (outputs_made w) number ≡ answer_of (list_of c.outputs) number

-- wherever the two machines are together
unfoldable pub EqualCommands : Type 0
EqualCommands = (w : World) (c : Bare) → Together w c → SameCommands w c
