-- Laws of a run: the stop reason before an instruction, and the loop's invariant.
use Prim.Native.Nat.{ℕ, zero, suc, ◌+◌, ◌-◌, ◌/◌, ◌≤◌, ◌<◌}
use mathlib.Core.Path.{◌≡◌, refl, sym, ap, ◌∙◌, subst}
use mathlib.Core.Bool.{Bool, true, false, cond, not, ◌&&◌}
use mathlib.Core.List.{List}
use native.Mathlib.Omega.{arith}
use lib.ListN.{length}
use lib.Dec.{eqb, leb}
use borrow.Author.Tests.{lt-leb, le-leb}
use Rattle.image.specs.Format.{most_n}
use Rattle.image.specs.Rows.{row_of, built, Fields, fields_at, built_from}
use Rattle.image.specs.Encoding.{ops}
use Rattle.image.specs.Accepted.{Fits}
use Rattle.image.specs.declared.Instruction.{Instruction}
use Rattle.image.proofs.Tests.{every-below}
use Rattle.machine.specs.Machine.{World, Program, program_in}
use Rattle.machine.specs.Instructions.{outputs_of}
use Rattle.machine.specs.Steps.{reports_of}
use Rattle.machine.specs.Lists.{output_size, output_places}
use Rattle.machine.specs.Runs.{goes_on, stopped, past_end, no_budget, no_place, is_stop, is_emit, reason_at, ended}
use Rattle.machine.specs.Checker.{counted, stepped, reason_of, next_of, run_of}
use Rattle.machine.specs.Calls.{most_steps}
use Rattle.machine.specs.Allowed.{Runnable}
use Rattle.machine.proofs.RunLaws.{halts, goes-on as goes-on-by}
use Rattle.machine.proofs.CheckerLaws.{reason-goes}
use Rattle.machine.proofs.ListLaws.{length-reports-entered, length-outputs-entered}
use Rattle.machine.proofs.Continued.{step-runnable}
use Rattle.checker.specs.declared.Counts.{Counts}
use Rattle.checker.specs.declared.step.Machine.{Machine}
use Rattle.checker.specs.declared.reasons.Reason.{Reason}
use Rattle.checker.specs.declared.reasons.Reason.TheVariants.{Stopped, PastEnd, NoBudget, NoPlace}
use Rattle.checker.specs.Reasons.{reason_number}
use Rattle.checker.specs.Pieces.{world_in, MayStep, standing, ByteIs, CodeReads, MayTurn, reason_by, Reasons, Turned}

-- ---- the stop reasons, by the op
-- two answers of a test are the same
alike : Bool → Bool → Bool
alike true t = t
alike false t = not t

are-alike : (s t : Bool) → alike s t ≡ true → s ≡ t
unfolding alike
are-alike true t h = sym h
are-alike false true h = h
are-alike false false h = refl

module _ (f : Fields) where
  -- STOP is op 0 and EMIT is op 18, and no other: tried on each op
  stops : ℕ → Bool
  stops op = alike (is_stop (built (row_of op) f.d f.a f.b f.imm)) (eqb op 0)

  emits : ℕ → Bool
  emits op = alike (is_emit (built (row_of op) f.d f.a f.b f.imm)) (eqb op 18)

  stop-op : f.op < ops → is_stop (built_from f) ≡ eqb f.op 0
  unfolding alike stops row_of built is_stop
  stop-op l = are-alike _ _ (every-below stops ops refl f.op l)

  emit-op : f.op < ops → is_emit (built_from f) ≡ eqb f.op 18
  unfolding alike emits row_of built is_emit
  emit-op l = are-alike _ _ (every-below emits ops refl f.op l)

-- one test after the other, or both at once
tested : (s t : Bool) (x y : ℕ) → cond s (cond t x y) y ≡ cond (s && t) x y
tested true t x y = refl
tested false t x y = refl

reason-by : (program : Program) (places left index outputs : ℕ) (f : Fields) → index < program.count → program.at index ≡ built_from f → f.op < ops
    → reason_by f.op places outputs (cond (eqb left 0) no_budget goes_on) ≡ reason_at program places left index outputs
unfolding reason_at
reason-by program places left index outputs f below e known =
    rw (lt-leb program.count index below, e, stop-op f known, emit-op f known)
    (ap (λ (r : ℕ). cond (eqb f.op 0) stopped r) (tested (eqb f.op 18) (leb places outputs) no_place (cond (eqb left 0) no_budget goes_on)))

-- what is said of the budget: where there is none, no reason is 0
no-budget : (left : ℕ) → cond (eqb left 0) no_budget goes_on ≡ 0 → 0 < left
no-budget zero e = omega arith
no-budget (suc left) e = omega arith

budget-by : (stop emit full : Bool) (left : ℕ) → cond stop stopped (cond emit (cond full no_place (cond (eqb left 0) no_budget goes_on)) (cond (eqb left 0) no_budget goes_on)) ≡ 0
    → 0 < left
budget-by true emit full left e = omega arith
budget-by false true true left e = omega arith
budget-by false true false left e = no-budget left e
budget-by false false full left e = no-budget left e

-- by where the index is
module _ {code : List ℕ} {n places left : ℕ} {c : Counts} {r : ℕ} where
  pub at_end : n ≤ c.index → r ≡ past_end → Reasons code n places left c r
  unfolding reason_at
  at_end past e =
      record {
        told = λ m all. e ∙ rw (le-leb n c.index past) refl;
        budget = λ none. absurd (let z : ◌≡◌ {A = ℕ} past_end 0 = sym e ∙ none in omega arith);
      }

  pub before_end : c.index < n → {op : ℕ} → ByteIs code c.index 0 op → r ≡ reason_by op places c.outputs (cond (eqb left 0) no_budget goes_on)
      → Reasons code n places left c r
  unfolding standing
  before_end below {op} its e =
      record {
        told = λ m all.
            let reads = all c.index below in
            e
            ∙ ap (λ (k : ℕ). reason_by k places c.outputs (cond (eqb left 0) no_budget goes_on)) its.same
            ∙ reason-by (program_in code n m) places left c.index c.outputs (fields_at code c.index) below reads.same reads.known;
        budget = λ none. budget-by (eqb op 0) (eqb op 18) (leb places c.outputs) left (sym e ∙ none);
      }

-- ---- one step
next-stepped : (program : Program) (w : World) → stepped (program.at w.counts.index) w ≡ next_of program w
unfolding next_of
next-stepped program w = refl

step-steps : (i : Instruction) (w : World) → (stepped i w).counts.steps ≡ w.counts.steps + 1
unfolding stepped counted
step-steps i w = refl

step-reports : (i : Instruction) (w : World) → length (stepped i w).report_list ≡ length w.report_list
unfolding stepped
step-reports i w = length-reports-entered w.counts.steps w.counts.index w.counts.reports (reports_of i w.parts) w.report_list

step-outputs : (i : Instruction) (w : World) → length (stepped i w).output_list ≡ length w.output_list
unfolding stepped
step-outputs i w = length-outputs-entered w.counts.outputs (outputs_of i w.parts.regs) w.output_list

-- ---- the loop
-- the buffers and lists have the sizes that they had at the start
pub record SameSizes (start w : World) : Type 0 where
  pub mem : length w.parts.mem ≡ length start.parts.mem
  pub mem_v : length w.parts.mem_v ≡ length start.parts.mem_v
  pub mem_a : length w.parts.mem_a ≡ length start.parts.mem_a
  pub reports : length w.report_list ≡ length start.report_list
  pub outputs : length w.output_list ≡ length start.output_list

-- from the start to here is a part of the run, and the run may go on from here
pub record Going (program : Program) (m left₀ : ℕ) (start : World) (left : ℕ) (w : World) : Type 0 where
  pub same : run_of program left₀ start ≡ run_of program left w
  pub runnable : Runnable program.count m w
  pub within : w.counts.steps + left ≤ most_steps
  pub sizes : SameSizes start w

module _ (now : Machine) {code : List ℕ} {n m left₀ : ℕ} {start : World} {left : ℕ} (g : Going (program_in code n m) m left₀ start left (world_in now)) (all : CodeReads code n m) where
  abbrev program : Program
  program = program_in code n m

  abbrev here : Instruction
  here = standing code now.counts.index

  -- ---- what a turn asks for
  pub may_turn : n ≤ most_n → MayTurn code n now
  may_turn few = record { there = λ below. (all now.counts.index below).there; known = λ below. (all now.counts.index below).known; may = may-step }
    where
      may-step : now.counts.index < n → MayStep here now
      may-step below =
          record {
            room =
                record {
                  step =
                      record {
                        index = omega (arith, below, few);
                        steps = omega (arith, g.within);
                        outputs = omega (arith, g.runnable.outputs, g.runnable.output_list.few);
                      };
                  reports = omega (arith, g.runnable.reports, g.within);
                };
            count = n;
            fits = rw g.runnable.mem_a (all now.counts.index below).fits;
          }

  -- ---- what it leaves
  module _ {places found : ℕ} (place : places ≡ output_places start.output_list) (told : Reasons code n places left now.counts found)
      {w' : World} (turned : Turned here found (world_in now) w') where
    -- what the turn has looked at is the reason of the run
    looked : found ≡ reason_of program left (world_in now)
    unfolding reason_of
    looked =
        told.told m all
        ∙ ap (λ (k : ℕ). reason_at program k left now.counts.index now.counts.outputs) (place ∙ ap (λ (k : ℕ). k / output_size) (sym g.sizes.outputs))

    -- there is one: the run ends here, and nothing has changed
    pub ends : (found ≡ 0 → ⊥) → ended found w' ≡ run_of program left₀ start
    ends some = ap (ended found) (turned.stays some) ∙ sym (g.same ∙ go found looked some)
      where
        go : (r : ℕ) → r ≡ reason_of program left (world_in now) → (r ≡ 0 → ⊥) → run_of program left (world_in now) ≡ ended r (world_in now)
        go zero e n = absurd (n refl)
        go (suc r) e n = halts (reason_of program) (next_of program) left r _ (sym e)

    -- there is none: a step, and the run goes on
    module _ (none : found ≡ 0) where
      below : now.counts.index < n
      below = (reason-goes program places left now.counts.index now.counts.outputs (sym (told.told m all) ∙ none)).before_end

      next : w' ≡ next_of program (world_in now)
      next = turned.steps none ∙ ap (λ (j : Instruction). stepped j (world_in now)) (sym (all now.counts.index below).same) ∙ next-stepped program _

      pub goes_further : Going program m left₀ start (left - 1) w'
      goes_further =
          record {
            same = g.same ∙ goes-on-by (reason_of program) (next_of program) left _ w' (told.budget none) (sym looked ∙ none) next;
            runnable = runs;
            within = omega (arith, counts, told.budget none, g.within);
            sizes =
                record {
                  mem = runs.mem ∙ sym g.runnable.mem ∙ g.sizes.mem;
                  mem_v = runs.mem_v ∙ sym g.runnable.mem_v ∙ g.sizes.mem_v;
                  mem_a = runs.mem_a ∙ sym g.runnable.mem_a ∙ g.sizes.mem_a;
                  reports = ap (λ (v : World). length v.report_list) (turned.steps none) ∙ step-reports here _ ∙ g.sizes.reports;
                  outputs = ap (λ (v : World). length v.output_list) (turned.steps none) ∙ step-outputs here _ ∙ g.sizes.outputs;
                };
          }
        where
          fits : (i : ℕ) → i < n → Fits n m (program.at i)
          fits i l = subst (Fits n m) (sym (all i l).same) (all i l).fits

          runs : Runnable n m w'
          runs = subst (Runnable n m) (sym next) (step-runnable program m fits left _ g.runnable (sym looked ∙ none))

          counts : w'.counts.steps ≡ now.counts.steps + 1
          counts = ap (λ (v : World). v.counts.steps) (turned.steps none) ∙ step-steps here _

-- a reason to stop is not 0
pub some_reason : (reason : Reason) → reason_number reason ≡ 0 → ⊥
some_reason Stopped e = omega arith
some_reason PastEnd e = omega arith
some_reason NoBudget e = omega arith
some_reason NoPlace e = omega arith
