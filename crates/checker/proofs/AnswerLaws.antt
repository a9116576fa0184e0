-- What the calls answer, from the refusal that was found.
use Prim.Native.Nat.{ℕ, ◌<◌, ◌≤◌}
use mathlib.Core.Path.{◌≡◌, refl, sym, ap, ◌∙◌, subst}
use mathlib.Core.List.{List}
use lib.ListN.{length}
use Rattle.std.specs.Prelude.{Result, Ok, Err, IsErrAnd}
use Rattle.image.specs.Words.{Bytes}
use Rattle.image.specs.Format.{most_n, field_m, field_n, code_part}
use Rattle.image.specs.Rows.{Fields}
use Rattle.image.specs.Encoding.{ops}
use Rattle.image.specs.Refusals.{Verdict, accepted, fields_of, header_with}
use Rattle.image.specs.declared.Header.{Header}
use Rattle.image.specs.Accepted.{Accepted, Fits}
use Rattle.machine.specs.Machine.{Parts, parts, zero_counts, World, program_in, program_of}
use Rattle.machine.specs.Beginning.{begun_regs_v, begun_memory, begun_v, begun_a, begun_parts}
use Rattle.machine.specs.Runs.{ended}
use Rattle.machine.specs.Checker.{run_of}
use Rattle.machine.specs.Calls.{begin_refusal, run_refusal, begin_answer, run_answer}
use Rattle.machine.specs.Allowed.{Allowed}
use Rattle.machine.proofs.ProgramLaws.{program-stands}
use Rattle.machine.proofs.CallLaws.{BeginAllowed, begin-allowed, not-refused}
use Rattle.machine.proofs.AllowedRuns.{allowed-run}
use Rattle.checker.specs.declared.Counts.{Counts}
use Rattle.checker.specs.declared.State.{State}
use Rattle.checker.specs.declared.Ran.{Ran}
use Rattle.checker.specs.declared.refusals.Refusal.{Refusal}
use Rattle.checker.specs.declared.step.Machine.{Machine}
use Rattle.checker.specs.Refusals.{verdict, reading_of}
use Rattle.checker.specs.Views.{parts_of, world, world_of, began_of, ran_of}
use Rattle.checker.specs.Pieces.{world_in, Sizes, standing, CodeReads, Ready}
use Rattle.checker.proofs.RefusalLaws.{refuses, is_refused, is_accepted}

-- ---- beginning
module _ (s mem mem_v mem_a : List ℕ) where
  pub begin-refused : (regs : List ℕ) (e : Refusal) → reading_of (Err e) ≡ header_with (begin_refusal s mem mem_v mem_a) s
      → (r : Result State Refusal) → IsErrAnd r (λ made. made ≡ e)
      → began_of r mem mem_v mem_a ≡ begin_answer s regs mem mem_v mem_a
  unfolding begin_answer
  begin-refused regs e h (Ok _) same = elim same [ ]
  begin-refused regs e h (Err made) same = rw (is_refused s _ e h, refuses e, same) refl

  module _ (found : Header) (h : reading_of (Ok found) ≡ header_with (begin_refusal s mem mem_v mem_a) s) where
    begin-passed : begin_refusal s mem mem_v mem_a ≡ accepted
    begin-passed = (is_accepted s _ found h).0

    allowed-begin : BeginAllowed s mem mem_v mem_a
    allowed-begin = begin-allowed s mem mem_v mem_a (ap (λ (t : Verdict). t.number) begin-passed)

    pub may-begin : (found ≡ fields_of s) × Accepted s × Sizes (field_m s) mem mem_v mem_a
    may-begin =
        let a = allowed-begin in ((is_accepted s _ found h).1, a.image, record { size = a.size; size_v = a.size_v; size_a = a.size_a })

    pub begins : (regs : List ℕ) {mem' mem_v' mem_a' : List ℕ} → (mem' ≡ begun_memory s mem) × ((mem_v' ≡ begun_v s) × (mem_a' ≡ begun_a s))
        → record { refusal = accepted; parts = parts regs begun_regs_v mem' mem_v' mem_a'; counts = zero_counts } ≡ begin_answer s regs mem mem_v mem_a
    unfolding begin_answer begun_parts
    begins regs l = rw (begin-passed, l.0, l.1.0, l.1.1) refl

-- ---- running
-- at each index of an accepted image's code there is an instruction
code_reads : (s : List ℕ) → Bytes s → Accepted s → CodeReads (code_part s (field_n s)) (field_n s) (field_m s)
unfolding program_of standing
code_reads s b a i l =
    let p = program-stands s b a i l in
    record {
      there = p.0.there;
      known = subst (λ (f : Fields). f.op < ops) (sym p.0.same) p.0.known;
      same = p.1;
      fits = subst (Fits (field_n s) (field_m s)) p.1 p.0.fits;
    }

module _ (s : List ℕ) (c : Counts) (p : Parts) (reports outputs : List ℕ) (budget : ℕ) where
  run-unmade : (e : Refusal) → reading_of (Err e) ≡ header_with (run_refusal s (world c p reports outputs) budget) s
      → record { refusal = verdict e; reason = 0; world = world c p reports outputs } ≡ run_answer s (world c p reports outputs) budget
  unfolding run_answer
  run-unmade e h = rw (is_refused s _ e h, refuses e) refl

  module _ (found : Header) (h : reading_of (Ok found) ≡ header_with (run_refusal s (world c p reports outputs) budget) s)
      {code : List ℕ} (ec : code ≡ code_part s found.n) where
    run-zero : (run_refusal s (world c p reports outputs) budget).number ≡ 0
    run-zero = ap (λ (t : Verdict). t.number) (is_accepted s _ found h).0

    its-header : found ≡ fields_of s
    its-header = (is_accepted s _ found h).1

    allowed : Allowed s (world c p reports outputs) budget
    allowed = allowed-run s _ budget run-zero

    its-program : program_in code found.n found.m ≡ program_of s
    unfolding program_of
    its-program = rw (ec, its-header) refl

    pub may-run : Bytes s → (found.n ≤ most_n) × CodeReads code found.n found.m × Ready found.n found.m (world c p reports outputs) budget
    may-run b =
        rw (ec, its-header)
        (allowed.image.limits.code, code_reads s b allowed.image, record { runnable = allowed.runnable; within = allowed.within })

    -- the three buffers have one size
    pub one-size : (length p.mem_v ≡ length p.mem) × (length p.mem_a ≡ length p.mem)
    one-size = let w = allowed.runnable in (w.mem_v ∙ sym w.mem, w.mem_a ∙ sym w.mem)

    ran : {reason : ℕ} {w : World} → ended reason w ≡ run_of (program_in code found.n found.m) budget (world c p reports outputs)
        → record { refusal = accepted; reason = reason; world = w } ≡ run_answer s (world c p reports outputs) budget
    ran {reason} {w} g =
        rw (not-refused s (world c p reports outputs) budget run-zero, sym its-program, sym g) refl

    -- the same, of what is left behind what was lent
    pub ran-left : {reason : ℕ} {last : Counts} (u : Machine) {regs regs_v mem mem_v mem_a reports' outputs' : List ℕ} → last ≡ u.counts
        → regs ≡ u.registers.now.data → regs_v ≡ u.registers.now.shadows → mem ≡ u.mem.now → mem_v ≡ u.vbits.now → mem_a ≡ u.abits.now
        → reports' ≡ u.reports.now → outputs' ≡ u.outputs.now
        → ended reason (world_in u) ≡ run_of (program_in code found.n found.m) budget (world c p reports outputs)
        → record { refusal = accepted; reason = reason; world = world last (parts regs regs_v mem mem_v mem_a) reports' outputs' } ≡ run_answer s (world c p reports outputs) budget
    ran-left u counts words shadow_words e₁ e₂ e₃ e₄ e₅ g = rw (counts, words, shadow_words, e₁, e₂, e₃, e₄, e₅) (ran g)

-- a run that is refused
pub run-refused : (s : List ℕ) (given : State) (mem mem_v mem_a reports outputs : List ℕ) (budget : ℕ) (e : Refusal)
    → reading_of (Err e) ≡ header_with (run_refusal s (world_of given mem mem_v mem_a reports outputs) budget) s
    → (r : Result Ran Refusal) → IsErrAnd r (λ made. made ≡ e)
    → ran_of given r mem mem_v mem_a reports outputs ≡ run_answer s (world_of given mem mem_v mem_a reports outputs) budget
run-refused s given mem mem_v mem_a reports outputs budget e h (Ok _) same = elim same [ ]
run-refused s given mem mem_v mem_a reports outputs budget e h (Err made) same =
    rw same (run-unmade s given.counts (parts_of given mem mem_v mem_a) reports outputs budget e h)
