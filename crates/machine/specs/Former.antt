-- "Cards accepted before give the answers they gave" (02, L5). What the calls answered under the limits of document 01 is taken to differ from what they
-- answer in the refusal of reading alone. That beginning and running name no limit is to be read from the files: `most_m`, `most_n`, `most_r` and `most_d` stand in
-- `limits_ok` and `largest` (Format.antt of the crate `image`) and in `Limits` (Accepted.antt there), and no definition of this crate names one of these.
use Rattle.std.specs.Prelude.{ℕ, ◌≡◌, List}
use Rattle.image.specs.Refusals.{refusal_of, header_of, code_of}
use Rattle.image.specs.Former.{KeepsFormer, former_refusal, former_header, former_code}
use Rattle.machine.specs.Machine.{World}
use Rattle.machine.specs.Calls.{begin_refusal_after, run_refusal_after, Began, begin_answer_with, begin_answer, Ran, run_answer_with, run_answer}

unfoldable pub former_begin_answer : (s regs mem mem_v mem_a : List ℕ) → Began
former_begin_answer s regs mem mem_v mem_a = begin_answer_with (begin_refusal_after (former_refusal s) s mem mem_v mem_a) s regs mem mem_v mem_a

unfoldable pub former_run_answer : List ℕ → World → ℕ → Ran
former_run_answer s w budget = run_answer_with (run_refusal_after (former_refusal s) s w budget) s w budget

pub record AsBefore : Type 0 where
  -- whatever was accepted keeps the former limits, and is accepted
  pub kept : (s : List ℕ) → (former_refusal s).number ≡ 0 → KeepsFormer s
  pub accepted : (s : List ℕ) → (former_refusal s).number ≡ 0 → (refusal_of s).number ≡ 0
  -- whatever keeps them, accepted or refused, is read, begun and run from any state as it was
  pub reads : (s : List ℕ) → KeepsFormer s → header_of s ≡ former_header s
  pub hands : (s : List ℕ) → KeepsFormer s → code_of s ≡ former_code s
  pub begins : (s regs mem mem_v mem_a : List ℕ) → KeepsFormer s → begin_answer s regs mem mem_v mem_a ≡ former_begin_answer s regs mem mem_v mem_a
  pub runs : (s : List ℕ) (w : World) (budget : ℕ) → KeepsFormer s → run_answer s w budget ≡ former_run_answer s w budget
