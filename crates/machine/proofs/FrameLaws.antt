-- Register 15 is kept by every step of an instruction whose fields fit, on both machines, and so by every run and by every call (02, L9).
use Prim.Native.Nat.{ℕ, suc, ◌+◌, ◌≤◌, ◌<◌}
use mathlib.Core.Path.{◌≡◌, refl, sym, ap, subst, ◌∙◌}
use mathlib.Core.Logic.{inl, inr, ◌≢◌}
use mathlib.Core.Bool.{Bool, true, false}
use mathlib.Core.List.{List, ◌++◌}
use native.Mathlib.Omega.{arith}
use lib.ListN.{length, get_or, set, length-append}
use lib.Dec.{eqb}
use lib.Seq.{get_or-set_other}
use borrow.Author.Tests.{eqb-true, eqb-false}
use Rattle.image.specs.Words.{Bytes}
use Rattle.image.specs.Format.{frame_register, field_m}
use Rattle.image.specs.Accepted.{Fits}
use Rattle.image.specs.declared.Instruction.{Instruction}
use Rattle.image.specs.declared.Instruction.TheVariants.{Stop, Move, Compute, Load, Store, Jump, Emit, Mark}
use Rattle.machine.specs.Machine.{Parts, World, Program, program_of}
use Rattle.machine.specs.Steps.{with_register, cleared, load_step, store_step, mark_step, acted, undefined_address, undefined_condition, unaddressable_load, unaddressable_store, undefined_output, if_undefined, if_blocked, reports_of}
use Rattle.machine.specs.Checker.{counted, stepped, reason_of, next_of, run_of}
use Rattle.machine.specs.Bare.{BareParts, Bare, bare_acted, bare_stepped, bare_reason, bare_next, bare_run}
use Rattle.machine.specs.Calls.{Ran, run_answer}
use Rattle.machine.specs.Frame.{frame_of, ShadowKept, FrameKept}
use Rattle.machine.proofs.ProgramLaws.{program-fits}
use Rattle.machine.proofs.RunLaws.{every-run}
use Rattle.machine.proofs.CheckerLaws.{reason-goes, step-reports, reports-grow}
use Rattle.machine.proofs.BareLaws.{bare-goes}
use Rattle.machine.proofs.Places.{set-zero}
use Rattle.machine.proofs.StepLaw.{kept-V}
use Rattle.machine.proofs.CallLaws.{run-accepted, run-refused, accepted-refusal}
use Rattle.machine.proofs.AllowedRuns.{allowed-run}

-- ---- one step
-- another register was written
other-set : (l : List ℕ) (d x : ℕ) → d ≢ frame_register → frame_of (set l d x) ≡ frame_of l
other-set l d x h = get_or-set_other l d _ x 0 (λ e. h (sym e))

-- V of a is used: it is 0, or reported and cleared
used : (kind a : ℕ) (vs : List ℕ) → ShadowKept (frame_of vs) (frame_of (set vs a 0)) 0 (length (if_undefined kind (get_or vs a 0)))
unfolding if_undefined
used kind a vs = go (eqb a frame_register) (eqb (get_or vs a 0) 0) refl refl
  where
    go : (t u : Bool) → eqb a frame_register ≡ t → eqb (get_or vs a 0) 0 ≡ u → ShadowKept (frame_of vs) (frame_of (set vs a 0)) 0 (length (if_undefined kind (get_or vs a 0)))
    go false u e z = inl (other-set vs a 0 (eqb-false _ _ e))
    go true true e z = inl (ap frame_of (kept-V a vs (eqb-true _ _ z)))
    go true false e z = inr (subst (λ (i : ℕ). get_or (set vs a 0) i 0 ≡ 0) (eqb-true _ _ e) (set-zero vs a), rw z (omega arith))

-- by an access, which may report its bytes, too
used-by-access : (kind at : ℕ) (b : Bool) (a : ℕ) (vs : List ℕ)
    → ShadowKept (frame_of vs) (frame_of (set vs a 0)) 0 (length (if_undefined undefined_address (get_or vs a 0) ++ if_blocked kind at b))
used-by-access kind at b a vs = go (used undefined_address a vs)
  where
    go : {v v' : ℕ} → ShadowKept v v' 0 (length (if_undefined undefined_address (get_or vs a 0)))
        → ShadowKept v v' 0 (length (if_undefined undefined_address (get_or vs a 0) ++ if_blocked kind at b))
    go (inl same) = inl same
    go (inr (z, some)) = inr (z, omega (arith, some, length-append (if_undefined undefined_address (get_or vs a 0)) (if_blocked kind at b)))

record StepKeeps (i : Instruction) (p : Parts) : Type 0 where
  value : frame_of (acted i p).regs ≡ frame_of p.regs
  shadow : ShadowKept (frame_of p.regs_v) (frame_of (acted i p).regs_v) 0 (length (reports_of i p))

step_keeps : (n m : ℕ) (i : Instruction) (p : Parts) → Fits n m i → StepKeeps i p
unfolding acted with_register cleared load_step store_step mark_step reports_of
step_keeps n m Stop p f = record { value = refl; shadow = inl refl }
step_keeps n m (Move d b) p f = record { value = other-set p.regs d _ f.0.1; shadow = inl (other-set p.regs_v d _ f.0.1) }
step_keeps n m (Compute op d a b) p f = record { value = other-set p.regs d _ f.0.1; shadow = inl (other-set p.regs_v d _ f.0.1) }
step_keeps n m (Load width widening d a imm) p f =
    record {
      value = other-set p.regs d _ f.0.1;
      shadow = rw (other-set (set p.regs_v a 0) d _ f.0.1) (used-by-access unaddressable_load _ _ a p.regs_v);
    }
step_keeps n m (Store width d a imm) p f = record { value = refl; shadow = used-by-access unaddressable_store _ _ a p.regs_v }
step_keeps n m (Jump a target) p f = record { value = refl; shadow = used undefined_condition a p.regs_v }
step_keeps n m (Emit a port) p f = record { value = refl; shadow = used undefined_output a p.regs_v }
step_keeps n m (Mark addressable start size) p f = record { value = refl; shadow = inl refl }

bare_step : (n m : ℕ) (i : Instruction) (p : BareParts) → Fits n m i → frame_of (bare_acted i p).regs ≡ frame_of p.regs
unfolding bare_acted
bare_step n m Stop p f = refl
bare_step n m (Move d b) p f = other-set p.regs d _ f.0.1
bare_step n m (Compute op d a b) p f = other-set p.regs d _ f.0.1
bare_step n m (Load width widening d a imm) p f = other-set p.regs d _ f.0.1
bare_step n m (Store width d a imm) p f = refl
bare_step n m (Jump a target) p f = refl
bare_step n m (Emit a port) p f = refl
bare_step n m (Mark addressable start size) p f = refl

-- ---- from one moment to another, and on to a third
pub record Later (u v : World) : Type 0 where
  pub kept : FrameKept u v
  pub reports : u.counts.reports ≤ v.counts.reports

pub at_once : (w : World) → Later w w
at_once w = record { kept = record { value = refl; shadow = inl refl }; reports = omega arith }

shadow-on : {x y z i j k : ℕ} → i ≤ j → j ≤ k → ShadowKept x y i j → ShadowKept y z j k → ShadowKept x z i k
shadow-on l l' (inl e) (inl e') = inl (e' ∙ e)
shadow-on l l' (inr (e, some)) (inl e') = inr (e' ∙ e, omega (arith, some, l'))
shadow-on l l' s (inr (e', some)) = inr (e', omega (arith, some, l))

pub and_then : {u v w : World} → Later u v → Later v w → Later u w
and_then f g =
    record {
      kept = record { value = g.kept.value ∙ f.kept.value; shadow = shadow-on f.reports g.reports f.kept.shadow g.kept.shadow };
      reports = omega (arith, f.reports, g.reports);
    }

-- ---- a run, and a call
-- the reports of a step are added to those that were made
counted-on : {v v' : ℕ} (made more : ℕ) → ShadowKept v v' 0 more → ShadowKept v v' made (made + more)
counted-on made more (inl same) = inl same
counted-on made more (inr (z, some)) = inr (z, omega (arith, some))

module _ (program : Program) (m : ℕ) (fits : (i : ℕ) → i < program.count → Fits program.count m (program.at i)) where
  next-later : (left : ℕ) (w : World) → reason_of program left w ≡ 0 → Later w (next_of program w)
  unfolding reason_of next_of stepped counted
  next-later left w e =
      let i : Instruction = program.at w.counts.index in
      let k : StepKeeps i w.parts = step_keeps program.count m i w.parts (fits w.counts.index (reason-goes program _ left _ _ e).before_end) in
      record { kept = record { value = k.value; shadow = counted-on w.counts.reports _ k.shadow }; reports = step-reports program w }

  pub run-keeps-frame : (left : ℕ) (w : World) → FrameKept w (run_of program left w).state
  run-keeps-frame =
      every-run (reason_of program) (next_of program) (λ left w x. FrameKept w x.state)
      (λ left r w e. (at_once w).kept)
      (λ w e. (at_once w).kept)
      (λ left w e rest. (and_then (next-later (suc left) w e) (record { kept = rest; reports = reports-grow program left (next_of program w) })).kept)

  run-later : (left : ℕ) (w : World) → Later w (run_of program left w).state
  run-later left w = record { kept = run-keeps-frame left w; reports = reports-grow program left w }

  -- the bare machine's
  bare-next : (places left : ℕ) (c : Bare) → bare_reason program places left c ≡ 0 → frame_of (bare_next program c).parts.regs ≡ frame_of c.parts.regs
  unfolding bare_next bare_stepped
  bare-next places left c e = bare_step program.count m (program.at c.index) c.parts (fits c.index (bare-goes program places left c e).before_end)

  pub bare-keeps-frame : (places left : ℕ) (c : Bare) → frame_of (bare_run program places left c).state.parts.regs ≡ frame_of c.parts.regs
  bare-keeps-frame places =
      every-run (bare_reason program places) (bare_next program) (λ left c x. frame_of x.state.parts.regs ≡ frame_of c.parts.regs)
      (λ left r c e. refl)
      (λ c e. refl)
      (λ left c e rest. rest ∙ bare-next places (suc left) c e)

-- any bytes, any state, any budget: a run of an accepted image, and a refused one, which changes nothing
pub call-later : (s : List ℕ) → Bytes s → (w : World) (budget : ℕ) → Later w (run_answer s w budget).world
call-later s b w budget = go (eqb (run_answer s w budget).refusal.number 0) refl
  where
    left_by : {r : Ran} → run_answer s w budget ≡ r → Later w r.world → Later w (run_answer s w budget).world
    left_by e k = subst (λ (r : Ran). Later w r.world) (sym e) k

    go : (t : Bool) → eqb (run_answer s w budget).refusal.number 0 ≡ t → Later w (run_answer s w budget).world
    go true e =
        let z = eqb-true _ 0 e in
        left_by (run-accepted s w budget z) (run-later (program_of s) (field_m s) (program-fits s b (allowed-run s w budget (accepted-refusal s w budget z)).image) budget w)
    go false e = left_by (run-refused s w budget (eqb-false _ 0 e)) (at_once w)
