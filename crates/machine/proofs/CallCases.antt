-- The cases of specs/CallCases.antt hold: the definitions compute to what was worked out by hand.
use mathlib.Core.Path.{◌≡◌, refl}
use mathlib.Core.List.{[], ◌∷◌, map}
use Rattle.rules.specs.Bytes.{joined}
use Rattle.image.specs.Words.{nth_word}
use Rattle.image.specs.Rows.{row_of, fields_ok, built, decoded, decode_at}
use Rattle.image.specs.Regions.{region_at, end_before, region_ok, filled_sum}
use Rattle.image.specs.Refusals.{refused, accepted, first_fault, instruction_ok, code_refusal, region_refusal, refusal_of}
use Rattle.machine.specs.Machine.{zero_counts}
use Rattle.machine.specs.Ranges.{written}
use Rattle.machine.specs.Beginning.{laid, begun_memory, begun_v, begun_a, begun_parts}
use Rattle.machine.specs.Instructions.{blocked, way_on, outputs_of}
use Rattle.machine.specs.Steps.{with_register, cleared, load_step, acted, if_undefined, if_blocked, reports_of}
use Rattle.machine.specs.Lists.{entered, reports_entered, outputs_entered}
use Rattle.machine.specs.Runs.{is_stop, is_emit, reason_at, run_on}
use Rattle.machine.specs.Checker.{counted, stepped}
use Rattle.machine.specs.Bare.{traps, or_trap, bare_reason, bare_run}
use Rattle.machine.specs.Calls.{marks_ok, begin_refusal, run_refusal, begin_answer}
use Rattle.machine.specs.CallCases.{StepCase, step_cases, small, handed_regs, handed_mem, handed_shadow, small_begun, small_refused, at_load, bare_there, TrapCase, trap_cases, RefusalCase, refusal_cases, refusal_given}

pub steps-hold : map (λ (c : StepCase). stepped c.does c.before) step_cases ≡ map (λ (c : StepCase). c.after) step_cases
unfolding joined blocked way_on outputs_of with_register cleared load_step acted if_undefined if_blocked reports_of written entered reports_entered outputs_entered counted stepped
steps-hold = refl

pub beginning-holds : begin_answer small handed_regs handed_mem handed_shadow handed_shadow ≡ record { refusal = accepted; parts = small_begun; counts = zero_counts }
unfolding joined nth_word row_of fields_ok built decoded decode_at region_at end_before region_ok filled_sum first_fault instruction_ok code_refusal region_refusal refusal_of written
    laid begun_memory begun_v begun_a begun_parts begin_refusal begin_answer
beginning-holds = refl

pub refused-beginning-holds : begin_answer small handed_regs (0x50 ∷ 0x51 ∷ []) handed_shadow handed_shadow ≡ record { refusal = refused 8 0; parts = small_refused; counts = zero_counts }
unfolding joined nth_word row_of fields_ok built decoded decode_at region_at end_before region_ok filled_sum first_fault instruction_ok code_refusal region_refusal refusal_of begin_refusal
    begin_answer
refused-beginning-holds = refl

pub traps-hold : map (λ (c : TrapCase). bare_run at_load 0 c.budget bare_there) trap_cases ≡ map (λ (c : TrapCase). c.end) trap_cases
unfolding blocked is_stop is_emit reason_at run_on traps or_trap bare_reason
traps-hold = refl

pub refusals-hold : map refusal_given refusal_cases ≡ map (λ (c : RefusalCase). c.refusal) refusal_cases
unfolding joined nth_word row_of fields_ok built decoded decode_at region_at end_before region_ok filled_sum first_fault instruction_ok code_refusal region_refusal refusal_of marks_ok
    run_refusal
refusals-hold = refl
