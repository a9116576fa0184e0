-- Register 15 is kept over every series, since every run keeps it.
use Prim.Native.Nat.{ℕ}
use mathlib.Core.Path.{◌≡◌, refl, ap, ◌∙◌}
use mathlib.Core.Logic.{inl, inr}
use mathlib.Core.List.{List, [], ◌∷◌}
use Rattle.image.specs.Words.{Bytes}
use Rattle.image.specs.Format.{field_m}
use Rattle.image.specs.Accepted.{Accepted}
use Rattle.image.proofs.AcceptedImage.{accepted-image}
use Rattle.machine.specs.Machine.{World, program_of}
use Rattle.machine.specs.Beginning.{begun_parts}
use Rattle.machine.specs.Bare.{Bare, bare_run}
use Rattle.machine.specs.Calls.{Began, begin_answer, run_answer}
use Rattle.machine.specs.Frame.{frame_of, ShadowKept}
use Rattle.machine.proofs.ProgramLaws.{program-fits}
use Rattle.machine.proofs.CallLaws.{begin-accepted}
use Rattle.machine.proofs.FrameLaws.{Later, at_once, and_then, call-later, bare-keeps-frame}
use Rattle.soundness.specs.Series.{started_with, checker_after, bare_after}
use Rattle.soundness.specs.Frame.{FrameStays}

series-later : (s : List ℕ) → Bytes s → (w : World) (budgets : List ℕ) → Later w (checker_after s w budgets)
unfolding checker_after
series-later s b w [] = at_once w
series-later s b w (budget ∷ budgets) = and_then (call-later s b w budget) (series-later s b (run_answer s w budget).world budgets)

-- what was defined stays defined
still-defined : {v v' i j : ℕ} → ShadowKept v v' i j → v ≡ 0 → v' ≡ 0
still-defined (inl same) e = same ∙ e
still-defined (inr (z, some)) e = z

bare-series : (s : List ℕ) → Bytes s → Accepted s → (places : ℕ) (c : Bare) (budgets : List ℕ) → frame_of (bare_after (program_of s) places c budgets).parts.regs ≡ frame_of c.parts.regs
unfolding bare_after
bare-series s b a places c [] = refl
bare-series s b a places c (budget ∷ budgets) =
    bare-series s b a places (bare_run (program_of s) places budget c).state budgets ∙ bare-keeps-frame (program_of s) (field_m s) (program-fits s b a) places budget c

pub frame-kept : FrameStays
unfolding begun_parts
frame-kept =
    record {
      kept = λ s b w budgets. (series-later s b w budgets).kept;
      from_beginning = λ s b regs mem mem_v mem_a e reports outputs budgets.
          let began = (begin-accepted s regs mem mem_v mem_a e).answer in
          let k = (series-later s b (started_with reports outputs (begin_answer s regs mem mem_v mem_a)) budgets).kept in
          record { value = k.value ∙ ap (λ (r : Began). frame_of r.parts.regs) began; defined = still-defined k.shadow (ap (λ (r : Began). frame_of r.parts.regs_v) began) };
      bare = λ s b e. bare-series s b (accepted-image s e);
    }
