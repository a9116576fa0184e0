-- A run of the checker that leaves reports made at 0, beside the run of the bare machine with the same budget.
use Prim.Native.Nat.{ℕ, suc, ◌≤◌, ◌<◌}
use mathlib.Core.Path.{◌≡◌, refl, sym, subst}
use native.Mathlib.Omega.{arith}
use Rattle.image.specs.Accepted.{Fits}
use Rattle.machine.specs.Machine.{World, Program}
use Rattle.machine.specs.Runs.{Ended}
use Rattle.machine.specs.Checker.{reason_of, next_of, run_of}
use Rattle.machine.specs.Bare.{Bare, bare_reason, bare_next, bare_run}
use Rattle.machine.proofs.RunLaws.{halts, goes, every-run}
use Rattle.machine.proofs.CheckerLaws.{reason-spent, reports-grow}
use Rattle.machine.proofs.Relation.{InStep}
use Rattle.machine.proofs.StepLaw.{StepKept, one-step, halts-alike}

pub record RunKept (places : ℕ) (x : Ended World) (y : Ended Bare) : Type 0 where
  pub in_step : InStep places x.state y.state
  pub reason : y.reason ≡ x.reason

-- nothing was reported before, where nothing is in the end
none_before : {m n : ℕ} → m ≤ n → n ≡ 0 → m ≡ 0
none_before l e = omega arith

-- a run of the bare machine that is equal to such is such
bare-by : {places : ℕ} {x : Ended World} {y y' : Ended Bare} → y ≡ y' → RunKept places x y' → RunKept places x y
bare-by {places} {x} e k = subst (RunKept places x) (sym e) k

module _ (program : Program) (m : ℕ) (fits : (i : ℕ) → i < program.count → Fits program.count m (program.at i)) where
  pub run-kept : (places left : ℕ) (w : World) (c : Bare) → InStep places w c → (run_of program left w).state.counts.reports ≡ 0
      → RunKept places (run_of program left w) (bare_run program places left c)
  run-kept places =
      every-run (reason_of program) (next_of program)
      (λ left w x. (c : Bare) → InStep places w c → x.state.counts.reports ≡ 0 → RunKept places x (bare_run program places left c))
      (λ left r w e c i none. bare-by (halts (bare_reason program places) (bare_next program) left r c (halts-alike i program left r e)) (record { in_step = i; reason = refl }))
      (λ w e c i none. absurd (reason-spent program w e))
      (λ left w e rest c i none.
      let k : StepKept program places (suc left) w c = one-step program m fits i e (none_before (reports-grow program left (next_of program w)) none) in
      bare-by (goes (bare_reason program places) (bare_next program) left c k.no_trap) (rest (bare_next program c) k.in_step none))
