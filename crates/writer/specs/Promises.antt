-- What the public call promises, for every input: one equation, in which the answer and all that is left in the buffer stand.
use Rattle.std.specs.Prelude.{ℕ, ◌≡◌, List, Result}
use Rattle.writer.specs.Writing.{write_answer}
use Rattle.writer.specs.Refusals.{written_of}
use Rattle.writer.specs.declared.refusals.Refusal.{Refusal}

-- r is answered, and the primed buffer is left
abbrev pub WritePromise : ℕ → (instructions regions held out : List ℕ) → Result ℕ Refusal → (out' : List ℕ) → Type 0
WritePromise m instructions regions held out r out' = written_of r out' ≡ write_answer m instructions regions held out
