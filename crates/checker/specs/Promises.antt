-- What the two public calls promise, for every input: one equation each, in which the answer and all that is left in buffers and lists stand.
-- The contracts in src/calls.rt say it of what `begin` and `run` return; the crate `assured` draws demand 3 from it.
use Rattle.std.specs.Prelude.{ℕ, ◌≡◌, List, Result}
use Rattle.rules.specs.declared.Data.{Data}
use Rattle.machine.specs.Calls.{begin_answer, run_answer}
use Rattle.checker.specs.declared.State.{State}
use Rattle.checker.specs.declared.Ran.{Ran}
use Rattle.checker.specs.declared.refusals.Refusal.{Refusal}
use Rattle.flat.specs.Registers.{data_words}
use Rattle.checker.specs.Views.{world_of, began_of, ran_of}

-- r is answered, and the primed buffers are left
abbrev pub BeginPromise : (image : List ℕ) (regs : List Data) (mem mem_v mem_a : List ℕ) → Result State Refusal → (mem' mem_v' mem_a' : List ℕ) → Type 0
BeginPromise image regs mem mem_v mem_a r mem' mem_v' mem_a' = began_of r mem' mem_v' mem_a' ≡ begin_answer image (data_words regs) mem mem_v mem_a

-- r is answered, and the primed buffers and lists are left
abbrev pub RunPromise : (image : List ℕ) → State → (mem mem_v mem_a reports outputs : List ℕ) (budget : ℕ) → Result Ran Refusal → (mem' mem_v' mem_a' reports' outputs' : List ℕ) → Type 0
RunPromise image state mem mem_v mem_a reports outputs budget r mem' mem_v' mem_a' reports' outputs' =
    ran_of state r mem' mem_v' mem_a' reports' outputs' ≡ run_answer image (world_of state mem mem_v mem_a reports outputs) budget
