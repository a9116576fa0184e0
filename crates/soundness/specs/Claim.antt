-- Demand 3: while the checker reports nothing, the bare machine, whatever was left in its memory and in its registers but for register 15, does the same.
-- Words in quotation marks are document 01's, "The bare machine". `demand-3` in proofs/Theorem.antt is the proof.
use Rattle.std.specs.Prelude.{ℕ, ◌≤◌, ◌≡◌, ◌≢◌, List, length, get_or}
use Rattle.rules.specs.Agreement.{Agree}
use Rattle.image.specs.Words.{Bytes}
use Rattle.image.specs.Format.{field_m}
use Rattle.machine.specs.Machine.{World, program_of}
use Rattle.machine.specs.Beginning.{Registers, Memory}
use Rattle.machine.specs.Lists.{output_places, outputs_in}
use Rattle.machine.specs.Runs.{trapped}
use Rattle.machine.specs.Checker.{run_of}
use Rattle.machine.specs.Bare.{Bare, bare_begun, bare_run}
use Rattle.machine.specs.Calls.{begin_answer, run_answer}
use Rattle.machine.specs.Frame.{frame_of}
use Rattle.soundness.specs.Series.{started_with, checker_after, accepted_budgets, bare_after}

-- the checker's machine and the bare one, at one moment
pub record Together (w : World) (c : Bare) : Type 0 where
  -- "the bare machine has taken as many steps"
  pub steps : c.steps ≡ w.counts.steps
  -- "Index is equal on both"
  pub index : c.index ≡ w.counts.index
  -- "a byte's mark is open exactly when its A is 1": a mark is 1 where it is set, and mark for mark they are the A bytes
  pub marks : c.parts.marks ≡ w.parts.mem_a
  -- "the outputs made are equal in number, order, port and value"
  pub number : length c.outputs ≡ w.counts.outputs
  pub outputs : c.outputs ≡ outputs_in w.counts.outputs w.output_list
  pub placed : w.counts.outputs ≤ output_places w.output_list
  -- "each bit with V 0 in a register or an open byte is equal"
  pub registers : (i : ℕ) → Agree (get_or w.parts.regs_v i 0) (get_or w.parts.regs i 0) (get_or c.parts.regs i 0)
  pub memory : (i : ℕ) → get_or w.parts.mem_a i 0 ≡ 1 → Agree (get_or w.parts.mem_v i 0) (get_or w.parts.mem i 0) (get_or c.parts.mem i 0)

-- where a series has come to w on the checker and to c on the bare machine
pub record Claim (s : List ℕ) (places : ℕ) (w : World) (c : Bare) : Type 0 where
  -- "At the start", and between two runs; that no earlier run trapped is `within` of the series up to it
  pub now : w.counts.reports ≡ 0 → Together w c
  -- "after every step that leaves reports made at 0 .. and not seized": after j steps of a run that is accepted, or where it ended before
  pub within : (budget j : ℕ) → (run_answer s w budget).refusal.number ≡ 0 → j ≤ budget → (run_of (program_of s) j w).state.counts.reports ≡ 0
      → Together (run_of (program_of s) j w).state (bare_run (program_of s) places j c).state × ((bare_run (program_of s) places j c).reason ≢ trapped)
  -- "After an accepted run that leaves reports made at 0, steps taken and stop reason are equal too"
  pub ended : (budget : ℕ) → (run_answer s w budget).refusal.number ≡ 0 → (run_answer s w budget).world.counts.reports ≡ 0
      → ((bare_run (program_of s) places budget c).state.steps ≡ (run_answer s w budget).world.counts.steps)
      × ((bare_run (program_of s) places budget c).reason ≡ (run_answer s w budget).reason)

-- Demand 3, of the bytes of an image. Every beginning part of a series is a series, so that the claim for all of them is the claim at every moment.
unfoldable pub Demand3 : Type 0
Demand3 =
    -- any image; any register values and buffers with which a beginning is accepted
    (s : List ℕ) → Bytes s
    → (regs mem mem_v mem_a : List ℕ) → Registers regs → Bytes mem
    → (begin_answer s regs mem mem_v mem_a).refusal.number ≡ 0
    -- the bare machine's "register values (15 as on the bench) and M memory bytes of its own"
    → (regs' mem' : List ℕ) → Registers regs' → Memory (field_m s) mem'
    → frame_of regs' ≡ frame_of regs
    -- "any report and output list", "and then any number of runs, none too, accepted or refused"
    → (reports outputs budgets : List ℕ)
    → let w = started_with reports outputs (begin_answer s regs mem mem_v mem_a) in
    Claim s (output_places outputs) (checker_after s w budgets) (bare_after (program_of s) (output_places outputs) (bare_begun s regs' mem') (accepted_budgets s w budgets))
