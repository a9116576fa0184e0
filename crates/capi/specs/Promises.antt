-- What the calls promise, for every input: what they answer and leave is what the definitions of `image`, `machine`, `writer` and `commands` give.
use Rattle.std.specs.Prelude.{ℕ, ◌≡◌, List, [], ◌∷◌}
use Rattle.image.specs.Refusals.{header_of}
use Rattle.machine.specs.Calls.{begin_answer, run_answer}
use Rattle.writer.specs.Writing.{write_answer}
use Rattle.commands.specs.Answers.{answer_of}
use Rattle.capi.specs.Words.{world_in, header_in, began_in, ran_in, written_in, code_range}
use Rattle.capi.specs.Commands.{answer_words}

abbrev pub ReadPromise : (image : List ℕ) (number : ℕ) (header code : List ℕ) (fault : ℕ) → Type 0
ReadPromise image number header code fault = (header_in number fault header ≡ header_of image) × (code ≡ code_range (header_of image))

-- the primed buffers are left
abbrev pub BeginPromise : (image regs mem mem_v mem_a : List ℕ) (number : ℕ) (mem' mem_v' mem_a' state' : List ℕ) (fault : ℕ) → Type 0
BeginPromise image regs mem mem_v mem_a number mem' mem_v' mem_a' state' fault = began_in number fault state' mem' mem_v' mem_a' ≡ begin_answer image regs mem mem_v mem_a

abbrev pub RunPromise : (image state mem mem_v mem_a reports outputs : List ℕ) (budget number : ℕ) (state' mem' mem_v' mem_a' reports' outputs' : List ℕ) (reason fault : ℕ) → Type 0
RunPromise image state mem mem_v mem_a reports outputs budget number state' mem' mem_v' mem_a' reports' outputs' reason fault =
    ran_in number fault reason state' mem' mem_v' mem_a' reports' outputs' ≡ run_answer image (world_in state mem mem_v mem_a reports outputs) budget

abbrev pub WritePromise : ℕ → (instructions regions held out : List ℕ) (number : ℕ) (out' : List ℕ) (size fault : ℕ) → Type 0
WritePromise m instructions regions held out number out' size fault = written_in number fault size out' ≡ write_answer m instructions regions held out

abbrev pub CommandPromise : (outputs : List ℕ) (number refusal kind bits : ℕ) → Type 0
CommandPromise outputs number refusal kind bits = refusal ∷ kind ∷ bits ∷ [] ≡ answer_words (answer_of outputs number)
