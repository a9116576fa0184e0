-- The calls of the crate `checker`: `begin` and `run`, by the contracts in its src/calls.rt.
use Rattle.std.specs.Prelude.{ℕ, ◌≡◌, List, Result, Ok, Err}
use Rattle.rules.specs.declared.Data.{Data}
use Rattle.machine.specs.Machine.{World}
use Rattle.checker.specs.declared.State.{State}
use Rattle.checker.specs.declared.Ran.{Ran}
use Rattle.checker.specs.declared.refusals.Refusal.{Refusal}
use Rattle.flat.specs.Registers.{data_words}
use Rattle.checker.specs.Refusals.{number_of}
use Rattle.checker.specs.Views.{world_of, state_begun}
use Rattle.checker.specs.Promises.{BeginPromise, RunPromise}
use Rattle.assured.specs.Assured.{Held, Interface}

abbrev pub held_world : Held State → World
held_world h = world_of h.state h.mem h.vbits h.abits h.reports h.outputs

-- what a beginning told: 0, or its refusal's number
abbrev pub number_told : Result State Refusal → ℕ
number_told (Ok state) = 0
number_told (Err e) = number_of e

-- the state after a run: the one that it answered, or the one that it was given, where it was refused
abbrev pub state_after : State → Result Ran Refusal → State
state_after given (Ok ran) = ran.state
state_after given (Err e) = given

-- `begin` was given registers with these values; the state that goes on is the one after it
pub record BeginCall (s regs mem mem_v mem_a : List ℕ) (number : ℕ) (h : Held State) : Type 0 where
  pub given : List Data
  pub values : data_words given ≡ regs
  pub answer : Result State Refusal
  pub contract : BeginPromise s given mem mem_v mem_a answer h.mem h.vbits h.abits
  pub told : number_told answer ≡ number
  pub goes_on : h.state ≡ state_begun answer

-- `run`, likewise
pub record RunCall (s : List ℕ) (h : Held State) (budget : ℕ) (h' : Held State) : Type 0 where
  pub answer : Result Ran Refusal
  pub contract :
      RunPromise s h.state h.mem h.vbits h.abits h.reports h.outputs budget answer h'.mem h'.vbits h'.abits h'.reports h'.outputs
  pub goes_on : h'.state ≡ state_after h.state answer

abbrev pub library : Interface
library = record { State = State; world = held_world; Begins = BeginCall; Runs = RunCall }
