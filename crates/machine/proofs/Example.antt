-- Document 01's example (01, The program), run through the definitions: zeros everywhere, register 15 equal to M, 64 report places,
-- 256 output places, budget 1,000,000. What comes out are the numbers of its three lines.
use mathlib.Core.Path.{◌≡◌, refl}
use mathlib.Core.List.{List, ◌∷◌}
use Prim.Native.Nat.{ℕ, ◌*◌}
use lib.ListN.{replicate, set}
use Rattle.rules.specs.Bytes.{joined}
use Rattle.image.specs.Words.{nth_word}
use Rattle.image.specs.Format.{registers, frame_register, field_m}
use Rattle.image.specs.Rows.{row_of, fields_ok, built, decoded, decode_at}
use Rattle.image.specs.Regions.{region_at, end_before, region_ok, filled_sum}
use Rattle.image.specs.Refusals.{accepted, first_fault, instruction_ok, code_refusal, region_refusal, refusal_of}
use Rattle.image.specs.Example.{example}
use Rattle.machine.specs.Machine.{program_of}
use Rattle.machine.specs.Ranges.{written}
use Rattle.machine.specs.Beginning.{laid, begun_memory, begun_v, begun_a, begun_parts}
use Rattle.machine.specs.Instructions.{blocked, way_on, outputs_of}
use Rattle.machine.specs.Steps.{with_register, cleared, load_step, acted, if_undefined, if_blocked, undefined_output, reports_of}
use Rattle.machine.specs.Lists.{report_size, output_size, entered, reports_entered, outputs_entered}
use Rattle.machine.specs.Runs.{stopped, is_stop, is_emit, reason_at, run_on}
use Rattle.machine.specs.Checker.{counted, stepped, reason_of, next_of}
use Rattle.machine.specs.Calls.{most_reports, most_outputs, most_steps, marks_ok, begin_refusal, run_refusal, Began, begin_answer, Ran, run_answer}

abbrev zeros : ℕ → List ℕ
zeros n = replicate n 0

abbrev pub begun : Began
begun = begin_answer example (set (zeros registers) frame_register (field_m example)) (zeros (field_m example)) (zeros (field_m example)) (zeros (field_m example))

abbrev pub ran : Ran
ran =
    run_answer example
    (record { parts = begun.parts; counts = begun.counts; report_list = zeros (report_size * most_reports); output_list = zeros (output_size * most_outputs) })
    most_steps

pub record ThreeLines : Type 0 where
  pub accepted_run : ran.refusal ≡ accepted
  -- step 2 at 2 kind 5 detail 4294967295
  pub report : ran.world.report_list ≡ 2 ∷ 2 ∷ undefined_output ∷ 4294967295 ∷ zeros 252
  -- out port 2 value 0
  pub output : ran.world.output_list ≡ 2 ∷ 0 ∷ zeros 510
  -- end 1 steps 3 reports 1 outputs 1
  pub end : ran.reason ≡ stopped
  pub counts : ran.world.counts ≡ record { index = 3; steps = 3; outputs = 1; reports = 1 }

pub example-lines : ThreeLines
unfolding joined nth_word row_of fields_ok built decoded decode_at region_at end_before region_ok filled_sum first_fault instruction_ok code_refusal region_refusal refusal_of
    program_of written laid begun_memory begun_v begun_a begun_parts blocked way_on outputs_of with_register cleared load_step acted if_undefined if_blocked reports_of
    entered reports_entered outputs_entered is_stop is_emit reason_at run_on counted stepped reason_of next_of marks_ok begin_refusal run_refusal begin_answer run_answer
example-lines = record { accepted_run = refl; report = refl; output = refl; end = refl; counts = refl }
