-- Demand 3 of the functions themselves: of whoever begins a program by a call and then runs it by calls, time after time. Of each call its
-- contract is known and nothing else. The calls of the crate `checker` are in Library.antt, those for C in ForC.antt; the statement is one for both.
-- The claim is that of the crate `soundness`. `assured` and `assured-for-c` in proofs/Theorem.antt are the proofs. `FrameAssured`
-- says of the same calls that register 15 is not written (02, L9); `frame-assured` and `frame-assured-for-c` are its proofs.
use Rattle.std.specs.Prelude.{ℕ, ◌≡◌, List, [], ◌∷◌}
use Rattle.image.specs.Words.{Bytes}
use Rattle.image.specs.Format.{field_m}
use Rattle.machine.specs.Machine.{World, program_of}
use Rattle.machine.specs.Beginning.{Registers, Memory}
use Rattle.machine.specs.Lists.{output_places}
use Rattle.machine.specs.Bare.{bare_begun}
use Rattle.machine.specs.Frame.{frame_of, FrameKept, FrameAsGiven}
use Rattle.soundness.specs.Series.{accepted_budgets, bare_after}
use Rattle.soundness.specs.Claim.{Claim}

-- what a caller has in hand between two calls: a state, in the form that the calls give it, and the contents of buffers and lists
pub record Held (State : Type 0) : Type 0 where
  pub state : State
  pub mem : List ℕ
  pub vbits : List ℕ
  pub abits : List ℕ
  pub reports : List ℕ
  pub outputs : List ℕ

-- two calls, beginning and running, by what their contracts say
pub record Interface : Type 1 where
  pub State : Type 0
  -- what is in hand, as the machine's
  pub world : Held State → World
  -- beginning, given an image, register values and three buffers, answered a refusal's number or 0 and left this in hand
  pub Begins : (s regs mem mem_v mem_a : List ℕ) (number : ℕ) → Held State → Type 0
  -- a run, given an image, what is in hand and a budget, left that in hand
  pub Runs : List ℕ → Held State → (budget : ℕ) → Held State → Type 0

-- runs with these budgets, accepted or refused, lead from h to h'
unfoldable pub RunCalls : (calls : Interface) → List ℕ → Held calls.State → List ℕ → Held calls.State → Type 0
RunCalls calls s h [] h' = h ≡ h'
RunCalls calls s h (budget ∷ budgets) h' = (next : Held calls.State) × calls.Runs s h budget next × RunCalls calls s next budgets h'

-- after an accepted beginning and any such runs the claim holds of what is in hand, and of the bare machine with leftovers of its own
unfoldable pub Assured : Interface → Type 0
Assured calls =
    (s : List ℕ) → Bytes s
    → (regs mem mem_v mem_a : List ℕ) → Registers regs → Bytes mem
    → (h : Held calls.State) → calls.Begins s regs mem mem_v mem_a 0 h
    → (regs' mem' : List ℕ) → Registers regs' → Memory (field_m s) mem'
    → frame_of regs' ≡ frame_of regs
    → (budgets : List ℕ) (h' : Held calls.State) → RunCalls calls s h budgets h'
    → let places = output_places (calls.world h).output_list in
    Claim s places (calls.world h') (bare_after (program_of s) places (bare_begun s regs' mem') (accepted_budgets s (calls.world h) budgets))

-- register 15 (02, L9)
pub record FrameAssured (calls : Interface) : Type 0 where
  -- whatever is in hand, any such runs keep it
  pub kept : (s : List ℕ) → Bytes s → (h : Held calls.State) (budgets : List ℕ) (h' : Held calls.State) → RunCalls calls s h budgets h'
      → FrameKept (calls.world h) (calls.world h')
  -- after an accepted beginning and any such runs it has the value that was handed in, and is defined
  pub from_beginning : (s : List ℕ) → Bytes s → (regs mem mem_v mem_a : List ℕ) (h : Held calls.State) → calls.Begins s regs mem mem_v mem_a 0 h
      → (budgets : List ℕ) (h' : Held calls.State) → RunCalls calls s h budgets h'
      → FrameAsGiven regs (calls.world h')
