-- The claim is not vacuous: the two series of specs/Samples.antt, computed.
use Prim.Native.Nat.{ℕ, ◌^◌, ◌<◌}
use mathlib.Core.Path.{◌≡◌, refl}
use mathlib.Core.Bool.{true}
use mathlib.Core.List.{List, [], ◌∷◌}
use lib.ListN.{length, get_or, replicate}
use lib.Dec.{ltb}
use borrow.Author.Tests.{ltb-true}
use Rattle.rules.specs.Bytes.{joined}
use Rattle.rules.specs.Operations.{action_of, shadow_of}
use Rattle.image.specs.Tests.{every}
use Rattle.image.specs.Words.{nth_word}
use Rattle.image.specs.Rows.{row_of, fields_ok, built, decoded, decode_at}
use Rattle.image.specs.Regions.{region_at, end_before, region_ok, filled_sum}
use Rattle.image.specs.Refusals.{first_fault, instruction_ok, code_refusal, region_refusal, refusal_of}
use Rattle.image.specs.Example.{example}
use Rattle.image.proofs.Tests.{every_element}
use Rattle.machine.specs.Machine.{program_of}
use Rattle.machine.specs.Ranges.{written, stored_where}
use Rattle.machine.specs.Beginning.{laid, begun_memory, begun_v, begun_a, begun_parts}
use Rattle.machine.specs.Instructions.{output, blocked, way_on, outputs_of}
use Rattle.machine.specs.Steps.{with_register, cleared, load_step, store_step, acted, undefined_output, if_undefined, if_blocked, reports_of}
use Rattle.machine.specs.Lists.{entered, reports_entered, outputs_entered}
use Rattle.machine.specs.Runs.{is_stop, is_emit, reason_at, run_on}
use Rattle.machine.specs.Checker.{counted, stepped, reason_of, next_of}
use Rattle.machine.specs.Bare.{bare_begun, bare_acted, bare_stepped, traps, or_trap, bare_reason, bare_next}
use Rattle.machine.specs.Calls.{marks_ok, begin_refusal, run_refusal, begin_answer, run_answer}
use Rattle.soundness.specs.Series.{checker_after, accepted_budgets, bare_after}
use Rattle.soundness.specs.Claim.{Claim, Demand3}
use Rattle.soundness.specs.Samples.{clean, clean_budgets, example_budgets, left_registers, left_memory, began, start, checker_side, bare_side}
use Rattle.soundness.proofs.Theorem.{demand-3}

pub record Computed : Type 0 where
  -- seven steps, an output and no report on the checker; the same steps and the same output on the bare machine
  pub clean_begins : (began clean).refusal.number ≡ 0
  pub clean_accepts : accepted_budgets clean (start clean) clean_budgets ≡ 3 ∷ 100 ∷ []
  pub clean_counts : (checker_side clean clean_budgets).counts ≡ record { index = 7; steps = 7; outputs = 1; reports = 0 }
  pub clean_outputs : (checker_side clean clean_budgets).output_list ≡ 3 ∷ 43 ∷ 0 ∷ 0 ∷ 0 ∷ 0 ∷ []
  pub clean_bare_index : (bare_side clean clean_budgets).index ≡ 7
  pub clean_bare_steps : (bare_side clean clean_budgets).steps ≡ 7
  pub clean_bare_outputs : (bare_side clean clean_budgets).outputs ≡ output 3 43 ∷ []
  -- the use of an undefined word is reported; and indeed the bare machine puts out what was left over, and not the checker's 0
  pub example_begins : (began example).refusal.number ≡ 0
  pub example_counts : (checker_side example example_budgets).counts ≡ record { index = 3; steps = 3; outputs = 1; reports = 1 }
  pub example_report : (checker_side example example_budgets).report_list ≡ 2 ∷ 2 ∷ undefined_output ∷ 0xFFFF_FFFF ∷ 0 ∷ 0 ∷ 0 ∷ 0 ∷ []
  pub example_outputs : (checker_side example example_budgets).output_list ≡ 2 ∷ 0 ∷ 0 ∷ 0 ∷ 0 ∷ 0 ∷ []
  pub example_bare_outputs : (bare_side example example_budgets).outputs ≡ output 2 0xEEEE_EEEE ∷ []

pub computed : Computed
unfolding joined action_of shadow_of nth_word row_of fields_ok built decoded decode_at region_at end_before region_ok filled_sum first_fault instruction_ok code_refusal region_refusal
    refusal_of program_of written stored_where laid begun_memory begun_v begun_a begun_parts blocked way_on outputs_of with_register cleared load_step store_step acted if_undefined
    if_blocked reports_of entered reports_entered outputs_entered is_stop is_emit reason_at run_on counted stepped reason_of next_of bare_begun bare_acted bare_stepped traps or_trap
    bare_reason bare_next marks_ok begin_refusal run_refusal begin_answer run_answer checker_after accepted_budgets bare_after
computed =
    record {
      clean_begins = refl;
      clean_accepts = refl;
      clean_counts = refl;
      clean_outputs = refl;
      clean_bare_index = refl;
      clean_bare_steps = refl;
      clean_bare_outputs = refl;
      example_begins = refl;
      example_counts = refl;
      example_report = refl;
      example_outputs = refl;
      example_bare_outputs = refl;
    }

-- ---- the theorem's premises can be met: it speaks of the clean series
-- every element of a list is below a bound, by a computed test
bounded : (bound : ℕ) (l : List ℕ) → ltb 0 bound ≡ true → every (λ k. ltb (get_or l k 0) bound) (length l) ≡ true → (i : ℕ) → get_or l i 0 < bound
bounded bound l z h i = ltb-true (get_or l i 0) bound (every_element (λ x. ltb x bound) l z h i)

pub clean-claimed : Claim clean 3 (checker_side clean clean_budgets) (bare_side clean clean_budgets)
unfolding joined nth_word Demand3
clean-claimed =
    demand-3 clean (bounded (2 ^ 8) clean refl refl)
    (left_registers clean 0) (left_memory clean 0) (left_memory clean 0) (left_memory clean 0)
    (record { sixteen = refl; words = bounded (2 ^ 32) (left_registers clean 0) refl refl })
    (bounded (2 ^ 8) (left_memory clean 0) refl refl)
    computed.clean_begins
    (left_registers clean 0xEEEE_EEEE) (left_memory clean 0xEE)
    (record { sixteen = refl; words = bounded (2 ^ 32) (left_registers clean 0xEEEE_EEEE) refl refl })
    (record { size = refl; bytes = bounded (2 ^ 8) (left_memory clean 0xEE) refl refl })
    refl (replicate 8 0) (replicate 6 0) clean_budgets
