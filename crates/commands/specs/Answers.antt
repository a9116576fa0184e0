-- The answer for one of the outputs made (02, L7): its command, or refusal 13. The list holds the outputs made and nothing else.
use Rattle.std.specs.Prelude.{ℕ, ◌+◌, ◌*◌, ◌≡◌, Bool, false, cond, ◌&&◌, List, [], ◌∷◌, get_or, ltb, Float, Result, Ok, Err}
use Rattle.std.specs.Float.Ieee.{is_nan}
use Rattle.image.specs.Tests.{every}
use Rattle.image.specs.Format.{ports}
use Rattle.machine.specs.Lists.{output_size, output_places}
use Rattle.machine.specs.Calls.{most_outputs, list_ok}
use Rattle.commands.specs.Gates.{blocked, command_of, rates_of, words_of}
use Rattle.commands.specs.declared.Command.{Command}
use Rattle.commands.specs.declared.refusals.WrongOutputs.{WrongOutputs}

abbrev pub wrong_outputs : ℕ
wrong_outputs = 13

-- ---- output number k, from 0
abbrev pub port_at : List ℕ → ℕ → ℕ
port_at outputs k = get_or outputs (output_size * k) 0

abbrev pub value_at : List ℕ → ℕ → ℕ
value_at outputs k = get_or outputs (output_size * k + 1) 0

-- ---- the test
-- "port words at most 7": each of them, whichever output is asked for
abbrev pub has_port : List ℕ → ℕ → Bool
has_port outputs k = ltb (port_at outputs k) ports

unfoldable pub ports_ok : List ℕ → Bool
ports_ok outputs = every (has_port outputs) (output_places outputs)

-- "The list must hold an even number of words, at most 512, and port words at most 7, and the number must lie within it"
unfoldable pub accepts : List ℕ → (number : ℕ) → Bool
accepts outputs number = list_ok output_size most_outputs outputs && ports_ok outputs && ltb number (output_places outputs)

-- ---- the answer
abbrev pub Answer : Type 0
Answer = Result Command WrongOutputs

abbrev pub refused : Answer
refused = Err (record {})

unfoldable pub answer_of : List ℕ → (number : ℕ) → Answer
answer_of outputs number = cond (accepts outputs number) (Ok (command_of (port_at outputs number) (value_at outputs number))) refused

-- ---- 02's numbers of each case
-- the refusal's number, 0 if there is none; its index is always 0, and is not handed over
abbrev pub refusal_number : Answer → ℕ
refusal_number (Ok command) = 0
refusal_number (Err refusal) = wrong_outputs

-- and then the words of the command
abbrev pub words_handed : Answer → List ℕ
words_handed (Ok command) = words_of command
words_handed (Err refusal) = []

abbrev pub numbers_of : Answer → List ℕ
numbers_of answer = refusal_number answer ∷ words_handed answer

-- what these numbers come to: the list's own words
abbrev pub numbers_for : (port value : ℕ) → List ℕ
numbers_for port value = 0 ∷ port ∷ cond (blocked port value) [] (value ∷ [])

unfoldable pub numbers_at : List ℕ → (number : ℕ) → List ℕ
numbers_at outputs number = cond (accepts outputs number) (numbers_for (port_at outputs number) (value_at outputs number)) (wrong_outputs ∷ [])

-- ---- the rate that is handed on, one or none: it is a number, so that its bits can be asked for
abbrev pub rates_handed : Answer → List Float
rates_handed (Ok command) = rates_of command
rates_handed (Err refusal) = []

abbrev pub RateIsNumber : Answer → Type 0
RateIsNumber answer = (rate : Float) → rates_handed answer ≡ rate ∷ [] → is_nan rate ≡ false
