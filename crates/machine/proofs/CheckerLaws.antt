-- Laws of the checker's run: what it means that no reason to stop holds; a budget of one more is one step more; a run may be continued; reports
-- never go down, a run takes no more steps than its budget, and ends with one of four reasons.
use Prim.Native.Nat.{ℕ, zero, suc, ◌+◌, ◌≤◌, ◌<◌}
use mathlib.Core.Path.{◌≡◌, refl, subst}
use mathlib.Core.Bool.{Bool, true, false, cond, ◌&&◌}
use native.Mathlib.Omega.{arith}
use lib.Dec.{eqb, leb, eqb-suc-zero}
use borrow.Author.Tests.{leb-false}
use Rattle.machine.specs.Machine.{World, Program}
use Rattle.machine.specs.Lists.{output_places}
use Rattle.machine.specs.Runs.{goes_on, stopped, past_end, no_budget, no_place, is_stop, is_emit, reason_at}
use Rattle.machine.specs.Checker.{counted, stepped, reason_of, next_of, run_of}
use Rattle.machine.proofs.RunLaws.{every-run, Steady, one_more, stays, continued}

-- ---- no reason to stop
pub record Goes (program : Program) (places left index outputs : ℕ) : Type 0 where
  pub before_end : index < program.count
  pub no_stop : is_stop (program.at index) ≡ false
  pub has_place : is_emit (program.at index) && leb places outputs ≡ false
  pub has_budget : 0 < left

-- a test whose answer would be a reason has failed
not-this : (t : Bool) (r rest : ℕ) → cond t (suc r) rest ≡ 0 → (t ≡ false) × (rest ≡ 0)
not-this true r rest e = absurd (omega arith)
not-this false r rest e = (refl, e)

some_left : (left : ℕ) → eqb left 0 ≡ false → 0 < left
some_left zero e = absurd (let z : ◌≡◌ {A = ℕ} 0 1 = cc in omega arith)
some_left (suc left) e = omega arith

pub reason-goes : (program : Program) (places left index outputs : ℕ) → reason_at program places left index outputs ≡ 0 → Goes program places left index outputs
unfolding reason_at
reason-goes program places left index outputs e =
    let end = not-this (leb program.count index) 1 _ e in
    let stop = not-this (is_stop (program.at index)) 0 _ end.1 in
    let place = not-this (is_emit (program.at index) && leb places outputs) 3 _ stop.1 in
    let budget = not-this (eqb left 0) 2 _ place.1 in
    record {
      before_end = leb-false program.count index end.0;
      no_stop = stop.0;
      has_place = place.0;
      has_budget = some_left left budget.0;
    }

pub reason-steady : (program : Program) (places j k index outputs : ℕ) → reason_at program places (suc j) index outputs ≡ reason_at program places (suc k) index outputs
unfolding reason_at
reason-steady program places j k index outputs = rw (eqb-suc-zero j, eqb-suc-zero k)

pub checker-steady : (program : Program) → Steady (reason_of program) (next_of program)
unfolding reason_of
checker-steady program j k w = reason-steady program (output_places w.output_list) j k w.counts.index w.counts.outputs

-- ---- one step more
reason-firm : (program : Program) (places j r index outputs : ℕ) → reason_at program places (suc j) index outputs ≡ suc r → reason_at program places 0 index outputs ≡ suc r
unfolding reason_at
reason-firm program places j r index outputs e =
    go (leb program.count index) (is_stop (program.at index)) (is_emit (program.at index) && leb places outputs) (rw (eqb-suc-zero j) at e)
  where
    go : (end stop place : Bool) → cond end past_end (cond stop stopped (cond place no_place goes_on)) ≡ suc r → cond end past_end (cond stop stopped (cond place no_place no_budget)) ≡ suc r
    go true stop place h = h
    go false true place h = h
    go false false true h = h
    go false false false h = absurd (omega arith)

checker-firm : (program : Program) (j r : ℕ) (w : World) → reason_of program (suc j) w ≡ suc r → reason_of program 0 w ≡ suc r
unfolding reason_of
checker-firm program j r w e = reason-firm program (output_places w.output_list) j r w.counts.index w.counts.outputs e

module _ (program : Program) where
  -- budget j + 1 is one step more, where nothing stops the run after j steps
  pub one-step-more : (j : ℕ) (w : World) → reason_of program 1 (run_of program j w).state ≡ 0 → (run_of program (suc j) w).state ≡ next_of program (run_of program j w).state
  one-step-more = one_more (reason_of program) (next_of program) (checker-steady program)

  -- a run that has stopped stays
  pub stopped-stays : (j r : ℕ) (w : World) → reason_of program 1 (run_of program j w).state ≡ suc r → (run_of program (suc j) w).state ≡ (run_of program j w).state
  stopped-stays = stays (reason_of program) (next_of program) (checker-steady program)

  -- a run that is continued is one longer run
  pub run-continued : (j k : ℕ) (w : World) → run_of program (j + k) w ≡ run_of program k (run_of program j w).state
  run-continued = continued (reason_of program) (next_of program) (checker-steady program) (checker-firm program)

-- ---- reports never go down, and a run takes no more steps than its budget
pub step-reports : (program : Program) (w : World) → w.counts.reports ≤ (next_of program w).counts.reports
unfolding next_of stepped counted
step-reports program w = omega arith

step-counted : (program : Program) (w : World) → (next_of program w).counts.steps ≡ w.counts.steps + 1
unfolding next_of stepped counted
step-counted program w = refl

pub reports-grow : (program : Program) (left : ℕ) (w : World) → w.counts.reports ≤ (run_of program left w).state.counts.reports
reports-grow program =
    every-run (reason_of program) (next_of program) (λ left w x. w.counts.reports ≤ x.state.counts.reports)
    (λ left r w e. omega arith)
    (λ w e. omega arith)
    (λ left w e rest. omega (arith, step-reports program w, rest))

pub steps-within : (program : Program) (left : ℕ) (w : World) → (run_of program left w).state.counts.steps ≤ w.counts.steps + left
steps-within program =
    every-run (reason_of program) (next_of program) (λ left w x. x.state.counts.steps ≤ w.counts.steps + left)
    (λ left r w e. omega arith)
    (λ w e. omega arith)
    (λ left w e rest. omega (arith, step-counted program w, rest))

-- ---- a run ends with one of the four reasons
cond-most : (t : Bool) (a b n : ℕ) → a ≤ n → b ≤ n → cond t a b ≤ n
cond-most true a b n p q = p
cond-most false a b n p q = q

reason-most : (program : Program) (left : ℕ) (w : World) → reason_of program left w ≤ no_place
unfolding reason_of reason_at
reason-most program left w =
    cond-most (leb program.count w.counts.index) _ _ _ (omega arith)
    (cond-most (is_stop (program.at w.counts.index)) _ _ _ (omega arith)
    (cond-most (is_emit (program.at w.counts.index) && leb (output_places w.output_list) w.counts.outputs) _ _ _ (omega arith)
    (cond-most (eqb left 0) _ _ _ (omega arith) (omega arith))))

-- with no budget left some reason holds
pub reason-spent : (program : Program) (w : World) → reason_of program 0 w ≡ 0 → ⊥
unfolding reason_of
reason-spent program w e = let g = reason-goes program (output_places w.output_list) 0 w.counts.index w.counts.outputs e in omega (arith, g.has_budget)

pub record EndReason (reason : ℕ) : Type 0 where
  pub some : 1 ≤ reason
  pub most : reason ≤ no_place

pub run-reason : (program : Program) (left : ℕ) (w : World) → EndReason (run_of program left w).reason
run-reason program =
    every-run (reason_of program) (next_of program) (λ left w x. EndReason x.reason)
    (λ left r w e. record { some = omega arith; most = subst (λ (k : ℕ). k ≤ no_place) e (reason-most program left w) })
    (λ w e. absurd (reason-spent program w e))
    (λ left w e rest. rest)
