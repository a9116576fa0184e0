-- Register 15, the frame register, is not written (02, L9): over every series of runs it keeps what it holds, on both machines. `frame-kept` in proofs/Frame.antt is the proof.
use Rattle.std.specs.Prelude.{ℕ, ◌≡◌, List}
use Rattle.image.specs.Words.{Bytes}
use Rattle.image.specs.Refusals.{refusal_of}
use Rattle.machine.specs.Machine.{World, program_of}
use Rattle.machine.specs.Bare.{Bare}
use Rattle.machine.specs.Calls.{begin_answer}
use Rattle.machine.specs.Frame.{frame_of, FrameKept, FrameAsGiven}
use Rattle.soundness.specs.Series.{started_with, checker_after, bare_after}

pub record FrameStays : Type 0 where
  -- on the checker: any bytes as an image, any state with its buffers and lists, runs with any budgets, accepted or refused. A run with budget j leaves the state after
  -- j steps, or where it ended before, so this is said of every step
  pub kept : (s : List ℕ) → Bytes s → (w : World) (budgets : List ℕ) → FrameKept w (checker_after s w budgets)
  -- so from an accepted beginning it has the value that was handed in, and is defined
  pub from_beginning : (s : List ℕ) → Bytes s → (regs mem mem_v mem_a : List ℕ) → (begin_answer s regs mem mem_v mem_a).refusal.number ≡ 0
      → (reports outputs budgets : List ℕ)
      → FrameAsGiven regs (checker_after s (started_with reports outputs (begin_answer s regs mem mem_v mem_a)) budgets)
  -- on the bare machine: an accepted image, any state, any number of output places, any budgets, whatever the checker reports
  pub bare : (s : List ℕ) → Bytes s → (refusal_of s).number ≡ 0 → (places : ℕ) (c : Bare) (budgets : List ℕ)
      → frame_of (bare_after (program_of s) places c budgets).parts.regs ≡ frame_of c.parts.regs
