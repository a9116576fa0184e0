-- What beginning and running answer, for every input (01, When the bench says no): the refusals 8 to 11 after the reader's 1 to 7, and
-- what an accepted and a refused call leave.
use Rattle.std.specs.Prelude.{ℕ, ◌+◌, ◌*◌, ◌%◌, Bool, cond, ◌&&◌, List, length, get_or, replicate, eqb, leb}
use Rattle.image.specs.Tests.{every}
use Rattle.image.specs.Format.{registers, field_m, field_n}
use Rattle.image.specs.Refusals.{Verdict, accepted, unless, or_else, refusal_of}
use Rattle.machine.specs.Machine.{Parts, parts, Counts, zero_counts, World, program_of}
use Rattle.machine.specs.Beginning.{begun_parts}
use Rattle.machine.specs.Lists.{report_size, output_size, output_places}
use Rattle.machine.specs.Runs.{Ended}
use Rattle.machine.specs.Checker.{run_of}

-- the numbers, in 01's order
abbrev pub wrong_size : ℕ
wrong_size = 8

abbrev pub too_many_steps : ℕ
too_many_steps = 9

abbrev pub wrong_mark : ℕ
wrong_mark = 10

abbrev pub wrong_count : ℕ
wrong_count = 11

-- the most places that the lists may have, and steps that a series of runs may take
abbrev pub most_reports : ℕ
most_reports = 64

abbrev pub most_outputs : ℕ
most_outputs = 256

abbrev pub most_steps : ℕ
most_steps = 1_000_000

-- ---- the tests
abbrev pub buffers_ok : ℕ → (mem mem_v mem_a : List ℕ) → Bool
buffers_ok m mem mem_v mem_a = eqb (length mem) m && eqb (length mem_v) m && eqb (length mem_a) m

-- a list of whole entries of so many words, at most so many
abbrev pub list_ok : (size most : ℕ) → List ℕ → Bool
list_ok size most l = eqb (length l % size) 0 && leb (length l) (size * most)

-- the three buffers and the two lists of a run
abbrev pub sizes_ok : ℕ → World → Bool
sizes_ok m w = buffers_ok m w.parts.mem w.parts.mem_v w.parts.mem_a && list_ok report_size most_reports w.report_list && list_ok output_size most_outputs w.output_list

-- the A bytes are 0 or 1
unfoldable pub marks_ok : List ℕ → Bool
marks_ok mem_a = every (λ k. leb (get_or mem_a k 0) 1) (length mem_a)

-- the index is at most N, the outputs at most the places, the reports at most twice the steps
abbrev pub counts_ok : (n places : ℕ) → Counts → Bool
counts_ok n places c = leb c.index n && leb c.outputs places && leb c.reports (2 * c.steps)

-- ---- the refusals, the first that applies in number order: after that of reading
abbrev pub begin_refusal_after : (reading : Verdict) (s mem mem_v mem_a : List ℕ) → Verdict
begin_refusal_after reading s mem mem_v mem_a = or_else reading (unless (buffers_ok (field_m s) mem mem_v mem_a) wrong_size accepted)

unfoldable pub begin_refusal : (s mem mem_v mem_a : List ℕ) → Verdict
begin_refusal s mem mem_v mem_a = begin_refusal_after (refusal_of s) s mem mem_v mem_a

abbrev pub run_refusal_after : (reading : Verdict) → List ℕ → World → ℕ → Verdict
run_refusal_after reading s w budget =
    or_else reading
    (unless (sizes_ok (field_m s) w) wrong_size
    (unless (leb (w.counts.steps + budget) most_steps) too_many_steps
    (unless (marks_ok w.parts.mem_a) wrong_mark
    (unless (counts_ok (field_n s) (output_places w.output_list) w.counts) wrong_count
    accepted))))

unfoldable pub run_refusal : List ℕ → World → ℕ → Verdict
run_refusal s w budget = run_refusal_after (refusal_of s) s w budget

-- ---- the answers
-- of a beginning: the refusal, the state and the three buffers
pub record Began : Type 0 where
  pub refusal : Verdict
  pub parts : Parts
  pub counts : Counts

-- refused: a state of all zeros, and the buffers as they were
abbrev pub begin_answer_with : Verdict → (s regs mem mem_v mem_a : List ℕ) → Began
begin_answer_with refusal s regs mem mem_v mem_a =
    cond (eqb refusal.number 0)
    (record { refusal = accepted; parts = begun_parts s regs mem; counts = zero_counts })
    (record {
      refusal = refusal;
      parts = parts (replicate registers 0) (replicate registers 0) mem mem_v mem_a;
      counts = zero_counts;
    })

unfoldable pub begin_answer : (s regs mem mem_v mem_a : List ℕ) → Began
begin_answer s regs mem mem_v mem_a = begin_answer_with (begin_refusal s mem mem_v mem_a) s regs mem mem_v mem_a

-- of a run: the refusal, the stop reason, and the state with buffers and lists
pub record Ran : Type 0 where
  pub refusal : Verdict
  pub reason : ℕ
  pub world : World

abbrev pub answered : Ended World → Ran
answered x = record { refusal = accepted; reason = x.reason; world = x.state }

-- refused: stop reason 0, and everything as it was
abbrev pub run_answer_with : Verdict → List ℕ → World → ℕ → Ran
run_answer_with refusal s w budget =
    cond (eqb refusal.number 0)
    (answered (run_of (program_of s) budget w))
    (record { refusal = refusal; reason = 0; world = w })

unfoldable pub run_answer : List ℕ → World → ℕ → Ran
run_answer s w budget = run_answer_with (run_refusal s w budget) s w budget
