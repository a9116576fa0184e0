-- Register 15, the frame register, from one moment to a later one. No instruction of an accepted image writes it (02, L9). A report that it was used undefined
-- sets its V to 0, as it does with every register: that is no write. `run-keeps-frame` and `bare-keeps-frame` in proofs/FrameLaws.antt say that every
-- run keeps it; the crate `soundness` says it of every series.
use Rattle.std.specs.Prelude.{ℕ, ◌<◌, ◌≡◌, ◌⊎◌, List, get_or}
use Rattle.image.specs.Format.{frame_register}
use Rattle.machine.specs.Machine.{World}

-- its entry in a list of registers or of their V words
abbrev pub frame_of : List ℕ → ℕ
frame_of l = get_or l frame_register 0

-- a V that was v is v': as it was; or 0, and the reports made have gone up
abbrev pub ShadowKept : (v v' reports reports' : ℕ) → Type 0
ShadowKept v v' reports reports' = (v' ≡ v) ⊎ ((v' ≡ 0) × (reports < reports'))

pub record FrameKept (before after : World) : Type 0 where
  pub value : frame_of after.parts.regs ≡ frame_of before.parts.regs
  pub shadow : ShadowKept (frame_of before.parts.regs_v) (frame_of after.parts.regs_v) before.counts.reports after.counts.reports

-- it holds what was handed in with these registers, and is defined
pub record FrameAsGiven (regs : List ℕ) (w : World) : Type 0 where
  pub value : frame_of w.parts.regs ≡ frame_of regs
  pub defined : frame_of w.parts.regs_v ≡ 0
