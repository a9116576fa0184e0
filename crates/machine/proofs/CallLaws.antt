-- What accepted calls answer, and that refused ones leave every buffer.
use Prim.Native.Nat.{ℕ}
use mathlib.Core.Path.{◌≡◌, refl, sym, ap, ◌∙◌}
use mathlib.Core.Bool.{Bool, true, false, cond}
use mathlib.Core.List.{List}
use lib.ListN.{length, replicate}
use lib.Dec.{eqb}
use borrow.Author.Tests.{eqb-true, ne_eqb}
use native.Mathlib.Omega.{arith}
use Rattle.image.specs.Format.{registers, field_m}
use Rattle.image.specs.Accepted.{Accepted}
use Rattle.image.specs.Refusals.{accepted, refusal_of}
use Rattle.image.proofs.Tests.{all_three}
use Rattle.image.proofs.Faults.{passed, both-passed}
use Rattle.image.proofs.AcceptedImage.{accepted-image}
use Rattle.machine.specs.Machine.{parts, World, zero_counts, program_of}
use Rattle.machine.specs.Beginning.{begun_parts}
use Rattle.machine.specs.Checker.{run_of}
use Rattle.machine.specs.Calls.{answered, buffers_ok, wrong_size, begin_refusal, run_refusal, Began, begin_answer, Ran, run_answer}

-- an answer that is the first of two where the refusal's number is 0, and has that number otherwise: with number 0, nothing was refused
told : {Answer : Type 0} (number_of : Answer → ℕ) (number : ℕ) (first second : Answer) → number_of second ≡ number
    → number_of (cond (eqb number 0) first second) ≡ 0 → number ≡ 0
told number_of number first second e h = go (eqb number 0) refl h
  where
    go : (t : Bool) → eqb number 0 ≡ t → number_of (cond t first second) ≡ 0 → number ≡ 0
    go true q r = eqb-true number 0 q
    go false q r = sym e ∙ r

-- ---- beginning
abbrev begun_answer : (s regs mem : List ℕ) → Began
begun_answer s regs mem = record { refusal = accepted; parts = begun_parts s regs mem; counts = zero_counts }

begin-passed : (s regs mem mem_v mem_a : List ℕ) → (begin_refusal s mem mem_v mem_a).number ≡ 0 → begin_answer s regs mem mem_v mem_a ≡ begun_answer s regs mem
unfolding begin_answer
begin-passed s regs mem mem_v mem_a e = rw e

-- nothing was refused: the image is accepted, and the buffers are of M bytes
pub record BeginAllowed (s mem mem_v mem_a : List ℕ) : Type 0 where
  pub image : Accepted s
  pub size : length mem ≡ field_m s
  pub size_v : length mem_v ≡ field_m s
  pub size_a : length mem_a ≡ field_m s

pub begin-allowed : (s mem mem_v mem_a : List ℕ) → (begin_refusal s mem mem_v mem_a).number ≡ 0 → BeginAllowed s mem mem_v mem_a
unfolding begin_refusal
begin-allowed s mem mem_v mem_a e =
    let rest = both-passed (refusal_of s) _ e in
    let sizes = (passed (buffers_ok (field_m s) mem mem_v mem_a) wrong_size 0 accepted (omega arith) rest.1).0 in
    let size = all_three (eqb (length mem) (field_m s)) (eqb (length mem_v) (field_m s)) (eqb (length mem_a) (field_m s)) sizes in
    record { image = accepted-image s rest.0; size = eqb-true _ _ size.0; size_v = eqb-true _ _ size.1; size_a = eqb-true _ _ size.2 }

pub record BeginAccepted (s regs mem mem_v mem_a : List ℕ) : Type 0 where
  pub image : Accepted s
  pub size : length mem ≡ field_m s
  pub answer : begin_answer s regs mem mem_v mem_a ≡ begun_answer s regs mem

pub begin-accepted : (s regs mem mem_v mem_a : List ℕ) → (begin_answer s regs mem mem_v mem_a).refusal.number ≡ 0 → BeginAccepted s regs mem mem_v mem_a
unfolding begin_answer
begin-accepted s regs mem mem_v mem_a e =
    let none : (begin_refusal s mem mem_v mem_a).number ≡ 0 = told (λ (r : Began). r.refusal.number) (begin_refusal s mem mem_v mem_a).number _ _ refl e in
    let allowed = begin-allowed s mem mem_v mem_a none in
    record { image = allowed.image; size = allowed.size; answer = begin-passed s regs mem mem_v mem_a none }

pub begin-refused : (s regs mem mem_v mem_a : List ℕ) → ((begin_answer s regs mem mem_v mem_a).refusal.number ≡ 0 → ⊥)
    → begin_answer s regs mem mem_v mem_a
    ≡ record { refusal = begin_refusal s mem mem_v mem_a; parts = parts (replicate registers 0) (replicate registers 0) mem mem_v mem_a; counts = zero_counts }
unfolding begin_answer
begin-refused s regs mem mem_v mem_a e =
    rw (ne_eqb (begin_refusal s mem mem_v mem_a).number 0 (λ q. e (ap (λ (r : Began). r.refusal.number) (begin-passed s regs mem mem_v mem_a q))))

-- ---- running
-- an accepted run answers what the definition of a run gives; a refused one leaves everything
pub not-refused : (s : List ℕ) (w : World) (budget : ℕ) → (run_refusal s w budget).number ≡ 0 → run_answer s w budget ≡ answered (run_of (program_of s) budget w)
unfolding run_answer
not-refused s w budget e = rw e

pub accepted-refusal : (s : List ℕ) (w : World) (budget : ℕ) → (run_answer s w budget).refusal.number ≡ 0 → (run_refusal s w budget).number ≡ 0
unfolding run_answer
accepted-refusal s w budget e = told (λ (r : Ran). r.refusal.number) (run_refusal s w budget).number _ _ refl e

pub run-accepted : (s : List ℕ) (w : World) (budget : ℕ) → (run_answer s w budget).refusal.number ≡ 0 → run_answer s w budget ≡ answered (run_of (program_of s) budget w)
run-accepted s w budget e = not-refused s w budget (accepted-refusal s w budget e)

pub run-refused : (s : List ℕ) (w : World) (budget : ℕ) → ((run_answer s w budget).refusal.number ≡ 0 → ⊥)
    → run_answer s w budget ≡ record { refusal = run_refusal s w budget; reason = 0; world = w }
unfolding run_answer
run-refused s w budget e = rw (ne_eqb (run_refusal s w budget).number 0 (λ q. e (ap (λ (r : Ran). r.refusal.number) (not-refused s w budget q))))
