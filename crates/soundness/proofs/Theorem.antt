-- Demand 3, proved.
use Prim.Native.Nat.{ℕ}
use mathlib.Core.Path.{◌≡◌, refl, sym, ap, subst, ◌∙◌}
use mathlib.Core.Bool.{Bool, true, false, cond}
use mathlib.Core.List.{List, [], ◌∷◌}
use native.Mathlib.Omega.{arith}
use lib.ListN.{length, get_or}
use lib.Dec.{eqb}
use borrow.Author.Tests.{eqb-true, eqb-false, eq-eqb}
use Rattle.rules.specs.Agreement.{Agree}
use Rattle.image.specs.Words.{Bytes}
use Rattle.image.specs.Format.{field_m}
use Rattle.image.specs.Accepted.{Accepted}
use Rattle.machine.specs.Machine.{undefined_byte, World, program_of}
use Rattle.machine.specs.Beginning.{Memory}
use Rattle.machine.specs.Lists.{output_places}
use Rattle.machine.specs.Checker.{run_of}
use Rattle.machine.specs.Bare.{Bare, bare_begun, bare_run}
use Rattle.machine.specs.Calls.{Began, Ran, run_answer}
use Rattle.machine.proofs.ProgramLaws.{program-fits}
use Rattle.machine.proofs.CheckerLaws.{reports-grow, run-reason}
use Rattle.machine.proofs.ListLaws.{length-outputs}
use Rattle.machine.proofs.CallLaws.{begin-accepted, run-accepted, run-refused}
use Rattle.machine.proofs.Relation.{InStep, beside_at, word-past, byte_past}
use Rattle.machine.proofs.BeginningLaw.{begins-in-step}
use Rattle.soundness.specs.Series.{started_with, checker_after, accepted_budgets, bare_after}
use Rattle.soundness.specs.Claim.{Together, Claim, Demand3}
use Rattle.soundness.proofs.RunsAlike.{RunKept, run-kept}

-- what the relation says bit by bit
together : {places : ℕ} {w : World} {c : Bare} → InStep places w c → Together w c
together {places} {w} {c} r =
    record {
      steps = r.steps;
      index = r.index;
      marks = r.parts.marks;
      number = ap length r.outputs ∙ length-outputs w.counts.outputs w.output_list;
      outputs = r.outputs;
      placed = rw r.places_kept r.room;
      registers = λ i. (beside_at r.parts.regs word-past i).agree;
      memory = λ i e. subst (λ (t : Bool). Agree (cond t (get_or w.parts.mem_v i 0) undefined_byte) (get_or w.parts.mem i 0) (get_or c.parts.mem i 0)) (eq-eqb (get_or w.parts.mem_a i 0) 1 e) (beside_at r.parts.mem byte_past i).agree;
    }

-- in step, as long as nothing is reported
abbrev Quiet : ℕ → World → Bare → Type 0
Quiet places w c = w.counts.reports ≡ 0 → InStep places w c

module _ (s : List ℕ) (b : Bytes s) (a : Accepted s) where
  run-quiet : (left : ℕ) {places : ℕ} {w : World} {c : Bare} → Quiet places w c → (run_of (program_of s) left w).state.counts.reports ≡ 0
      → RunKept places (run_of (program_of s) left w) (bare_run (program_of s) places left c)
  run-quiet left {places} {w} {c} q none =
      run-kept (program_of s) (field_m s) (program-fits s b a) places left w c (q (let z : w.counts.reports ≡ 0 = omega (arith, reports-grow (program_of s) left w, none) in z)) none

  -- what a run of a series leaves
  world-accepted : (w : World) (budget : ℕ) → (run_answer s w budget).refusal.number ≡ 0 → (run_answer s w budget).world ≡ (run_of (program_of s) budget w).state
  world-accepted w budget e = ap (λ (r : Ran). r.world) (run-accepted s w budget e)

  world-refused : (w : World) (budget : ℕ) → ((run_answer s w budget).refusal.number ≡ 0 → ⊥) → (run_answer s w budget).world ≡ w
  world-refused w budget e = ap (λ (r : Ran). r.world) (run-refused s w budget e)

  -- every run of a series keeps it
  series-quiet : (budgets : List ℕ) {places : ℕ} {w : World} {c : Bare} → Quiet places w c
      → Quiet places (checker_after s w budgets) (bare_after (program_of s) places c (accepted_budgets s w budgets))
  unfolding checker_after accepted_budgets bare_after
  series-quiet [] q = q
  series-quiet (budget ∷ budgets) {places} {w} {c} q = go (λ v d. series-quiet budgets {places = places} {w = v} {c = d}) (eqb (run_answer s w budget).refusal.number 0) refl
    where
      go : ((v : World) (d : Bare) → Quiet places v d → Quiet places (checker_after s v budgets) (bare_after (program_of s) places d (accepted_budgets s v budgets)))
          → (t : Bool) → eqb (run_answer s w budget).refusal.number 0 ≡ t
          → Quiet places (checker_after s (run_answer s w budget).world budgets)
          (bare_after (program_of s) places c (cond t (budget ∷ accepted_budgets s (run_answer s w budget).world budgets) (accepted_budgets s (run_answer s w budget).world budgets)))
      go rest true e =
          rest _ _ (subst (λ (v : World). Quiet places v (bare_run (program_of s) places budget c).state) (sym (world-accepted w budget (eqb-true _ 0 e))) (λ none. (run-quiet budget q none).in_step))
      go rest false e = rest _ _ (subst (λ (v : World). Quiet places v c) (sym (world-refused w budget (eqb-false _ 0 e))) q)

  claimed : {places : ℕ} {w : World} {c : Bare} → Quiet places w c → Claim s places w c
  claimed {places} {w} {c} q =
      record {
        now = λ none. together (q none);
        within = λ budget j e l none.
            let k = run-quiet j q none in
            (together k.in_step, λ trap. omega (arith, (run-reason (program_of s) j w).most, k.reason, trap));
        ended = λ budget e none.
            let x = world-accepted w budget e in
            let k = run-quiet budget q (subst (λ (v : World). v.counts.reports ≡ 0) x none) in
            (k.in_step.steps ∙ ap (λ (v : World). v.counts.steps) (sym x), k.reason ∙ ap (λ (r : Ran). r.reason) (sym (run-accepted s w budget e)));
      }

pub demand-3 : Demand3
unfolding Demand3
demand-3 s b regs mem mem_v mem_a hr hm e regs' mem' hr' hm' frame reports outputs budgets =
    let begun = begin-accepted s regs mem mem_v mem_a e in
    let held : Memory (field_m s) mem = record { size = begun.size; bytes = hm } in
    let start = begins-in-step s regs mem regs' mem' reports outputs b hr hr' held hm' (sym frame) in
    claimed s b begun.image
    (series-quiet s b begun.image budgets
    (λ none. subst (λ (x : Began). InStep (output_places outputs) (started_with reports outputs x) (bare_begun s regs' mem')) (sym begun.answer) start))
