-- What the calls of `checker` answer, with the state's words in a buffer.
use Prim.Native.Nat.{ℕ}
use mathlib.Core.Path.{◌≡◌, sym}
use mathlib.Core.List.{List}
use lib.ListN.{replicate}
use Rattle.std.specs.Prelude.{Ok, Err}
use Rattle.rules.specs.declared.Data.{Data}
use Rattle.machine.specs.Calls.{begin_answer, run_answer}
use Rattle.checker.specs.declared.State.{State}
use Rattle.checker.specs.declared.Ran.{Ran}
use Rattle.checker.specs.declared.refusals.Refusal.{Refusal}
use Rattle.flat.specs.Registers.{data_words}
use Rattle.checker.specs.Refusals.{number_of, index_of}
use Rattle.checker.specs.Reasons.{reason_number}
use Rattle.checker.specs.Promises.{BeginPromise, RunPromise}
use Rattle.capi.specs.Words.{state_size, world_in, began_in, ran_in}
use Rattle.capi.specs.Pieces.{Holds}

module _ (image regs mem mem_v mem_a mem' mem_v' mem_a' : List ℕ) (given : List Data) (e : data_words given ≡ regs) where
  pub begun-words : (words : List ℕ) (s : State) → BeginPromise image given mem mem_v mem_a (Ok s) mem' mem_v' mem_a' → Holds words s
      → began_in 0 0 words mem' mem_v' mem_a' ≡ begin_answer image regs mem mem_v mem_a
  begun-words words s p h = rw (h.regs, h.regs_v, h.counts, sym e) p

  pub refused-words : (why : Refusal) → BeginPromise image given mem mem_v mem_a (Err why) mem' mem_v' mem_a'
      → began_in (number_of why) (index_of why) (replicate state_size 0) mem' mem_v' mem_a' ≡ begin_answer image regs mem mem_v mem_a
  refused-words why p = rw (sym e) p

module _ (image given mem mem_v mem_a reports outputs : List ℕ) (budget : ℕ) (mem' mem_v' mem_a' reports' outputs' : List ℕ) (s : State) (g : Holds given s) where
  pub ran-words : (words : List ℕ) (r : Ran) → RunPromise image s mem mem_v mem_a reports outputs budget (Ok r) mem' mem_v' mem_a' reports' outputs' → Holds words r.state
      → ran_in 0 0 (reason_number r.reason) words mem' mem_v' mem_a' reports' outputs' ≡ run_answer image (world_in given mem mem_v mem_a reports outputs) budget
  ran-words words r p h = rw (h.regs, h.regs_v, h.counts, g.regs, g.regs_v, g.counts) p

  pub not-run-words : (why : Refusal) → RunPromise image s mem mem_v mem_a reports outputs budget (Err why) mem' mem_v' mem_a' reports' outputs'
      → ran_in (number_of why) (index_of why) 0 given mem' mem_v' mem_a' reports' outputs' ≡ run_answer image (world_in given mem mem_v mem_a reports outputs) budget
  not-run-words why p = rw (g.regs, g.regs_v, g.counts) p
