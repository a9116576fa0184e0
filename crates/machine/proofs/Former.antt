-- Images that keep the limits of document 01 are answered as they were.
use mathlib.Core.Path.{ap, ◌∙◌}
use Rattle.image.specs.Refusals.{Verdict}
use Rattle.image.proofs.Former.{read-as-before, header-as-before, code-as-before, accepted-kept}
use Rattle.machine.specs.Calls.{begin_refusal_after, begin_refusal, run_refusal_after, run_refusal, begin_answer_with, begin_answer, run_answer_with, run_answer}
use Rattle.machine.specs.Former.{former_begin_answer, former_run_answer, AsBefore}

pub as_before : AsBefore
unfolding begin_refusal run_refusal begin_answer run_answer former_begin_answer former_run_answer
as_before =
    record {
      kept = accepted-kept;
      accepted = λ s h. ap (λ (r : Verdict). r.number) (read-as-before s (accepted-kept s h)) ∙ h;
      reads = header-as-before;
      hands = code-as-before;
      begins = λ s regs mem mem_v mem_a h.
          ap (λ (r : Verdict). begin_answer_with (begin_refusal_after r s mem mem_v mem_a) s regs mem mem_v mem_a) (read-as-before s h);
      runs = λ s w budget h. ap (λ (r : Verdict). run_answer_with (run_refusal_after r s w budget) s w budget) (read-as-before s h);
    }
