-- A run may be continued from the state (01, A run, its lists and its end): what an accepted run leaves, the next run refuses at most for its
-- budget. What refusals 8, 10 and 11 ask for is kept by every step.
use Prim.Native.Nat.{ℕ, zero, suc, ◌+◌, ◌≤◌, ◌<◌}
use mathlib.Core.Path.{◌≡◌, sym, ap, subst, ◌∙◌}
use mathlib.Core.Bool.{Bool, true, false}
use mathlib.Core.List.{List, [], ◌∷◌}
use native.Mathlib.Omega.{arith}
use lib.ListN.{set, replicate}
use Rattle.image.specs.Words.{Bytes}
use Rattle.image.specs.Format.{field_m, field_n, field_r}
use Rattle.image.specs.Accepted.{Accepted, Fits}
use Rattle.image.specs.Refusals.{Verdict, accepted}
use Rattle.image.specs.declared.Instruction.{Instruction}
use Rattle.image.specs.declared.Instruction.TheVariants.{Stop, Move, Compute, Load, Store, Jump, Emit, Mark}
use Rattle.machine.specs.Machine.{addressable_mark, unaddressable_mark, Parts, zero_counts, World, Program, program_of}
use Rattle.machine.specs.Ranges.{written, filled}
use Rattle.machine.specs.Beginning.{lay_a, laid, regions_of, begun_a, begun_parts}
use Rattle.machine.specs.Instructions.{outputs_of}
use Rattle.machine.specs.Steps.{with_register, cleared, load_step, store_step, mark_of, mark_step, acted, reports_of}
use Rattle.machine.specs.Lists.{report_size, output_size, output_places}
use Rattle.machine.specs.Checker.{counted, stepped, reason_of, next_of, run_of}
use Rattle.machine.specs.Calls.{answered, most_reports, most_outputs, most_steps, run_refusal, begin_answer, Ran, run_answer}
use Rattle.machine.specs.Allowed.{ListFits, Marks, Runnable}
use Rattle.machine.proofs.ProgramLaws.{program-fits}
use Rattle.machine.proofs.RunLaws.{every-run}
use Rattle.machine.proofs.CheckerLaws.{Goes, reason-goes, run-continued, steps-within}
use Rattle.machine.proofs.ListLaws.{length-reports-entered, length-outputs-entered}
use Rattle.machine.proofs.StepBounds.{way-within, has_room, few-reports, SameLengths, same-lengths}
use Rattle.machine.proofs.BeginningBytes.{length-memory, length-V, length-A}
use Rattle.machine.proofs.CallLaws.{begin-accepted, accepted-refusal, run-accepted, not-refused}
use Rattle.machine.proofs.AllowedRuns.{allowed-run, run-allowed}

-- ---- A bytes
set-marks : (l : List ℕ) (i x : ℕ) → Marks l → x ≤ 1 → Marks (set l i x)
set-marks [] i x h q k = h k
set-marks (y ∷ l) zero x h q zero = q
set-marks (y ∷ l) zero x h q (suc k) = h (suc k)
set-marks (y ∷ l) (suc i) x h q zero = h zero
set-marks (y ∷ l) (suc i) x h q (suc k) = set-marks l i x (λ j. h (suc j)) q k

filled-marks : (x : ℕ) (l : List ℕ) (at n : ℕ) → Marks l → x ≤ 1 → Marks (filled x l at n)
unfolding written
filled-marks x l at zero h q = h
filled-marks x l at (suc n) h q = set-marks (filled x l at n) (at + n) x (filled-marks x l at n h q) q

mark-small : (addressable : Bool) → mark_of addressable ≤ 1
mark-small true = omega arith
mark-small false = omega arith

step-marks : (i : Instruction) (p : Parts) → Marks p.mem_a → Marks (acted i p).mem_a
unfolding acted with_register cleared load_step store_step mark_step
step-marks Stop p h = h
step-marks (Move d b) p h = h
step-marks (Compute op d a b) p h = h
step-marks (Load width widening d a imm) p h = h
step-marks (Store width d a imm) p h = h
step-marks (Jump a target) p h = h
step-marks (Emit a port) p h = h
step-marks (Mark addressable start size) p h = filled-marks (mark_of addressable) p.mem_a start size h (mark-small addressable)

-- ---- a step, and a run
module _ (program : Program) (m : ℕ) (fits : (i : ℕ) → i < program.count → Fits program.count m (program.at i)) where
  pub step-runnable : (left : ℕ) (w : World) → Runnable program.count m w → reason_of program left w ≡ 0 → Runnable program.count m (next_of program w)
  unfolding reason_of next_of stepped counted
  step-runnable left w r e =
      let i : Instruction = program.at w.counts.index in
      let g : Goes program (output_places w.output_list) left w.counts.index w.counts.outputs = reason-goes program _ left _ _ e in
      let l : SameLengths w.parts (acted i w.parts) = same-lengths i w.parts in
      let lr = length-reports-entered w.counts.steps w.counts.index w.counts.reports (reports_of i w.parts) w.report_list in
      let lo = length-outputs-entered w.counts.outputs (outputs_of i w.parts.regs) w.output_list in
      record {
        mem = l.mem ∙ r.mem;
        mem_v = l.mem_v ∙ r.mem_v;
        mem_a = l.mem_a ∙ r.mem_a;
        report_list = record { whole = rw lr r.report_list.whole; few = rw lr r.report_list.few };
        output_list = record { whole = rw lo r.output_list.whole; few = rw lo r.output_list.few };
        marks = step-marks i w.parts r.marks;
        index = way-within program.count m i w.parts.regs w.counts.index (fits w.counts.index g.before_end) g.before_end;
        outputs = rw lo (has_room i w.parts.regs (output_places w.output_list) w.counts.outputs r.outputs g.has_place);
        reports = omega (arith, few-reports i w.parts, r.reports);
      }

  pub run-runnable : (left : ℕ) (w : World) → Runnable program.count m w → Runnable program.count m (run_of program left w).state
  run-runnable =
      every-run (reason_of program) (next_of program) (λ left w x. Runnable program.count m w → Runnable program.count m x.state)
      (λ left r w e q. q)
      (λ w e q. q)
      (λ left w e rest q. rest (step-runnable (suc left) w q e))

-- what an accepted run leaves, the next run refuses at most for its budget
pub run-again : (s : List ℕ) → Bytes s → (w : World) (budget again : ℕ) → (run_answer s w budget).refusal.number ≡ 0
    → (run_answer s w budget).world.counts.steps + again ≤ most_steps
    → run_refusal s (run_answer s w budget).world again ≡ accepted
unfolding program_of
run-again s b w budget again e h =
    let a = allowed-run s w budget (accepted-refusal s w budget e) in
    run-allowed s (run_answer s w budget).world again
    (record {
      image = a.image;
      runnable = subst (Runnable (field_n s) (field_m s)) (sym (ap (λ (r : Ran). r.world) (run-accepted s w budget e))) (kept a.image a.runnable);
      within = h;
    })
  where
    kept : Accepted s → Runnable (field_n s) (field_m s) w → Runnable (field_n s) (field_m s) (run_of (program_of s) budget w).state
    kept a r = run-runnable (program_of s) (field_m s) (program-fits s b a) budget w r

-- a longer run, made as two: the second answers what the longer one does
pub answers-continued : (s : List ℕ) → Bytes s → (w : World) (j k : ℕ) → (run_answer s w (j + k)).refusal.number ≡ 0
    → run_answer s (run_answer s w j).world k ≡ run_answer s w (j + k)
answers-continued s b w j k e =
    let a = allowed-run s w (j + k) (accepted-refusal s w (j + k) e) in
    let program = program_of s in
    let first : run_refusal s w j ≡ accepted = run-allowed s w j (record { image = a.image; runnable = a.runnable; within = omega (arith, a.within) }) in
    let answer : run_answer s w j ≡ answered (run_of program j w) = not-refused s w j (number first) in
    let left : (run_answer s w j).world ≡ (run_of program j w).state = ap (λ (r : Ran). r.world) answer in
    let few : (run_answer s w j).world.counts.steps ≤ w.counts.steps + j = subst (λ (v : World). v.counts.steps ≤ w.counts.steps + j) (sym left) (steps-within program j w) in
    let second : run_refusal s (run_answer s w j).world k ≡ accepted = run-again s b w j k (ap (λ (r : Ran). r.refusal.number) answer) (omega (arith, few, a.within)) in
    not-refused s (run_answer s w j).world k (number second)
    ∙ ap (λ (v : World). answered (run_of program k v)) left
    ∙ ap answered (sym (run-continued program j k w))
    ∙ sym (run-accepted s w (j + k) e)
  where
    number : {r : Verdict} → r ≡ accepted → r.number ≡ 0
    number q = ap (λ (r : Verdict). r.number) q

-- and so it is with an accepted beginning, if the lists fit
zero-marks : (n : ℕ) → Marks (replicate n unaddressable_mark)
zero-marks zero i = omega arith
zero-marks (suc n) zero = omega arith
zero-marks (suc n) (suc i) = zero-marks n i

laid-marks : (regions : List ℕ) (count : ℕ) (l : List ℕ) → Marks l → Marks (laid (lay_a regions) count l)
unfolding laid
laid-marks regions zero l h = h
laid-marks regions (suc i) l h = filled-marks addressable_mark (laid (lay_a regions) i l) _ _ (laid-marks regions i l h) (omega arith)

begun-marks : (s : List ℕ) → Marks (begun_a s)
unfolding begun_a
begun-marks s = laid-marks (regions_of s) (field_r s) (replicate (field_m s) unaddressable_mark) (zero-marks (field_m s))

pub first_run : (s regs mem mem_v mem_a reports outputs : List ℕ) (budget : ℕ) → (begin_answer s regs mem mem_v mem_a).refusal.number ≡ 0
    → ListFits report_size most_reports reports → ListFits output_size most_outputs outputs → budget ≤ most_steps
    → run_refusal s (record { parts = begun_parts s regs mem; counts = zero_counts; report_list = reports; output_list = outputs }) budget ≡ accepted
unfolding begun_parts
first_run s regs mem mem_v mem_a reports outputs budget e fr fo h =
    let a = begin-accepted s regs mem mem_v mem_a e in
    run-allowed s _ budget
    (record {
      image = a.image;
      runnable =
          record {
            mem = length-memory s mem a.image a.size;
            mem_v = length-V s mem a.image a.size;
            mem_a = length-A s mem a.image a.size;
            report_list = fr;
            output_list = fo;
            marks = begun-marks s;
            index = omega arith;
            outputs = omega arith;
            reports = omega arith;
          };
      within = omega arith;
    })
