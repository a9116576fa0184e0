-- The calls for C (include/uviktalik.h), by the contracts in the crate `capi`, its src/lib.rt: the state is words in a buffer, which a run takes
-- and leaves there.
use Rattle.std.specs.Prelude.{ℕ, List}
use Rattle.machine.specs.Machine.{World}
use Rattle.capi.specs.Words.{world_in}
use Rattle.capi.specs.Promises.{BeginPromise, RunPromise}
use Rattle.assured.specs.Assured.{Held, Interface}

abbrev pub held_world : Held (List ℕ) → World
held_world h = world_in h.state h.mem h.vbits h.abits h.reports h.outputs

pub record BeginCall (s regs mem mem_v mem_a : List ℕ) (number : ℕ) (h : Held (List ℕ)) : Type 0 where
  pub fault : ℕ
  pub contract : BeginPromise s regs mem mem_v mem_a number h.mem h.vbits h.abits h.state fault

pub record RunCall (s : List ℕ) (h : Held (List ℕ)) (budget : ℕ) (h' : Held (List ℕ)) : Type 0 where
  pub number : ℕ
  pub reason : ℕ
  pub fault : ℕ
  pub contract :
      RunPromise s h.state h.mem h.vbits h.abits h.reports h.outputs budget number
      h'.state h'.mem h'.vbits h'.abits h'.reports h'.outputs reason fault

abbrev pub for_c : Interface
for_c = record { State = List ℕ; world = held_world; Begins = BeginCall; Runs = RunCall }
