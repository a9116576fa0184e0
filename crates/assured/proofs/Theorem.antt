-- What the calls leave, one after the other, is what the series of demand 3 speaks of; so the claim is about them, and so is what is said of register 15.
use Prim.Native.Nat.{ℕ}
use mathlib.Core.Path.{◌≡◌, refl, sym, ap, ◌∙◌, subst}
use mathlib.Core.List.{List, [], ◌∷◌}
use Rattle.std.specs.Prelude.{Result, Ok, Err}
use Rattle.machine.specs.Machine.{World, program_of}
use Rattle.machine.specs.Lists.{output_places}
use Rattle.machine.specs.Bare.{bare_begun}
use Rattle.machine.specs.Frame.{FrameKept, FrameAsGiven}
use Rattle.machine.specs.Calls.{Began as BeginAnswer, Ran as RunAnswer, begin_answer, run_answer}
use Rattle.soundness.specs.Series.{started_with, checker_after, accepted_budgets, bare_after}
use Rattle.soundness.specs.Claim.{Claim, Demand3}
use Rattle.soundness.proofs.Theorem.{demand-3}
use Rattle.soundness.proofs.Frame.{frame-kept}
use Rattle.checker.specs.declared.State.{State}
use Rattle.checker.specs.declared.Ran.{Ran}
use Rattle.checker.specs.declared.refusals.Refusal.{Refusal}
use Rattle.checker.specs.Views.{world_of, state_begun, began_of, ran_of}
use Rattle.assured.specs.Assured.{Held, Interface, RunCalls, Assured, FrameAssured}
use Rattle.assured.specs.Library as lib
use Rattle.assured.specs.ForC as c

-- ---- for any two calls: what each leaves is what the answers of the crate `machine` leave
pub record Answers (calls : Interface) : Type 1 where
  pub begins : (s regs mem mem_v mem_a : List ℕ) (number : ℕ) (h : Held calls.State) → calls.Begins s regs mem mem_v mem_a number h
      → ((begin_answer s regs mem mem_v mem_a).refusal.number ≡ number)
      × (calls.world h ≡ started_with (calls.world h).report_list (calls.world h).output_list (begin_answer s regs mem mem_v mem_a))
  pub runs : (s : List ℕ) (h : Held calls.State) (budget : ℕ) (h' : Held calls.State) → calls.Runs s h budget h' → calls.world h' ≡ (run_answer s (calls.world h) budget).world

module _ (calls : Interface) (answers : Answers calls) where
  -- after any number of runs
  calls-after : (s : List ℕ) (h : Held calls.State) (budgets : List ℕ) (h' : Held calls.State) → RunCalls calls s h budgets h'
      → calls.world h' ≡ checker_after s (calls.world h) budgets
  unfolding RunCalls checker_after
  calls-after s h [] h' e = sym (ap calls.world e)
  calls-after s h (budget ∷ budgets) h' made =
      calls-after s made.0 budgets h' made.2
      ∙ ap (λ (w : World). checker_after s w budgets) (answers.runs s h budget made.0 made.1)

  pub assured-by : Assured calls
  unfolding Assured Demand3
  assured-by s b regs mem mem_v mem_a hr hm h call regs' mem' hr' hm' frame budgets h' made =
      let begun = answers.begins s regs mem mem_v mem_a 0 h call in
      let reports = (calls.world h).report_list in
      let outputs = (calls.world h).output_list in
      let places = output_places outputs in
      let bare = bare_begun s regs' mem' in
      let claim = demand-3 s b regs mem mem_v mem_a hr hm begun.0 regs' mem' hr' hm' frame reports outputs budgets in
      subst (λ (w : World). Claim s places w (bare_after (program_of s) places bare (accepted_budgets s (calls.world h) budgets))) (sym (calls-after s h budgets h' made))
      (subst (λ (w : World). Claim s places (checker_after s w budgets) (bare_after (program_of s) places bare (accepted_budgets s w budgets))) (sym begun.1) claim)

  pub frame-by : FrameAssured calls
  frame-by =
      record {
        kept = λ s b h budgets h' made. subst (FrameKept (calls.world h)) (sym (calls-after s h budgets h' made)) (frame-kept.kept s b (calls.world h) budgets);
        from_beginning = λ s b regs mem mem_v mem_a h call budgets h' made.
            let begun = answers.begins s regs mem mem_v mem_a 0 h call in
            let started = ap (λ (w : World). checker_after s w budgets) begun.1 in
            let given = frame-kept.from_beginning s b regs mem mem_v mem_a begun.0 (calls.world h).report_list (calls.world h).output_list budgets in
            subst (FrameAsGiven regs) (sym (calls-after s h budgets h' made ∙ started)) given;
      }

-- ---- the calls of the crate `checker`
-- a beginning told the number, and leaves the state that goes on
told-by : (r : Result State Refusal) (mem mem_v mem_a : List ℕ) → lib.number_told r ≡ (began_of r mem mem_v mem_a).refusal.number
told-by (Ok state) mem mem_v mem_a = refl
told-by (Err e) mem mem_v mem_a = refl

begun-by : (r : Result State Refusal) (mem mem_v mem_a reports outputs : List ℕ)
    → world_of (state_begun r) mem mem_v mem_a reports outputs ≡ started_with reports outputs (began_of r mem mem_v mem_a)
begun-by (Ok state) mem mem_v mem_a reports outputs = refl
begun-by (Err e) mem mem_v mem_a reports outputs = refl

-- a run leaves the state that goes on
left-by : (given : State) (r : Result Ran Refusal) (mem mem_v mem_a reports outputs : List ℕ)
    → world_of (lib.state_after given r) mem mem_v mem_a reports outputs ≡ (ran_of given r mem mem_v mem_a reports outputs).world
left-by given (Ok ran) mem mem_v mem_a reports outputs = refl
left-by given (Err e) mem mem_v mem_a reports outputs = refl

answers-of-library : Answers lib.library
answers-of-library =
    record {
      begins = λ s regs mem mem_v mem_a number h call.
          let answered = call.contract ∙ ap (λ (x : List ℕ). begin_answer s x mem mem_v mem_a) call.values in (
            ap (λ (x : BeginAnswer). x.refusal.number) (sym answered) ∙ sym (told-by call.answer h.mem h.vbits h.abits) ∙ call.told,
            ap (λ (x : State). world_of x h.mem h.vbits h.abits h.reports h.outputs) call.goes_on
                ∙ begun-by call.answer h.mem h.vbits h.abits h.reports h.outputs
                ∙ ap (started_with h.reports h.outputs) answered,
          );
      runs = λ s h budget h' call.
          ap (λ (x : State). world_of x h'.mem h'.vbits h'.abits h'.reports h'.outputs) call.goes_on
          ∙ left-by h.state call.answer h'.mem h'.vbits h'.abits h'.reports h'.outputs
          ∙ ap (λ (x : RunAnswer). x.world) call.contract;
    }

pub assured : Assured lib.library
assured = assured-by lib.library answers-of-library

pub frame-assured : FrameAssured lib.library
frame-assured = frame-by lib.library answers-of-library

-- ---- the calls for C
answers-for-c : Answers c.for_c
answers-for-c =
    record {
      begins = λ s regs mem mem_v mem_a number h call. (
        ap (λ (x : BeginAnswer). x.refusal.number) (sym call.contract),
        ap (started_with h.reports h.outputs) call.contract,
      );
      runs = λ s h budget h' call. ap (λ (x : RunAnswer). x.world) call.contract;
    }

pub assured-for-c : Assured c.for_c
assured-for-c = assured-by c.for_c answers-for-c

pub frame-assured-for-c : FrameAssured c.for_c
frame-assured-for-c = frame-by c.for_c answers-for-c
