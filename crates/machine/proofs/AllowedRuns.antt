-- Refusals 1 to 11 accept exactly the runs that `Allowed` describes.
use Prim.Native.Nat.{ℕ, ◌+◌, ◌*◌, ◌%◌}
use mathlib.Core.Path.{◌≡◌, refl}
use mathlib.Core.Bool.{true}
use mathlib.Core.List.{List}
use native.Mathlib.Omega.{arith}
use lib.ListN.{length, get_or}
use lib.Dec.{eqb, leb}
use borrow.Author.Tests.{eqb-true, leb-true, eq-eqb, le-leb}
use Rattle.image.specs.Format.{field_m, field_n}
use Rattle.image.specs.Refusals.{accepted, refusal_of}
use Rattle.image.proofs.Tests.{both, all_three, every_element, all-every}
use Rattle.image.proofs.Faults.{passed, both-passed}
use Rattle.image.proofs.AcceptedImage.{accepted-image, image-accepted}
use Rattle.machine.specs.Machine.{World}
use Rattle.machine.specs.Lists.{report_size, output_size, output_places}
use Rattle.machine.specs.Calls.{wrong_size, too_many_steps, wrong_mark, wrong_count, most_reports, most_outputs, most_steps, buffers_ok, list_ok, sizes_ok, marks_ok, counts_ok, run_refusal}
use Rattle.machine.specs.Allowed.{ListFits, Marks, Runnable, Allowed}

-- ---- the tests, as facts
list-holds : (size most : ℕ) (l : List ℕ) → list_ok size most l ≡ true → ListFits size most l
list-holds size most l h =
    let e = both (eqb (length l % size) 0) (leb (length l) (size * most)) h in
    record { whole = eqb-true _ _ e.0; few = leb-true _ _ e.1 }

marks-hold : (mem_a : List ℕ) → marks_ok mem_a ≡ true → Marks mem_a
unfolding marks_ok
marks-hold mem_a h i = leb-true (get_or mem_a i 0) 1 (every_element (λ x. leb x 1) mem_a refl h i)

pub allowed-run : (s : List ℕ) (w : World) (budget : ℕ) → (run_refusal s w budget).number ≡ 0 → Allowed s w budget
unfolding run_refusal
allowed-run s w budget h =
    let image = both-passed (refusal_of s) _ h in
    let sizes = passed (sizes_ok (field_m s) w) wrong_size 0 _ (omega arith) image.1 in
    let steps = passed (leb (w.counts.steps + budget) most_steps) too_many_steps 0 _ (omega arith) sizes.1 in
    let marks = passed (marks_ok w.parts.mem_a) wrong_mark 0 _ (omega arith) steps.1 in
    let counts = passed (counts_ok (field_n s) (output_places w.output_list) w.counts) wrong_count 0 accepted (omega arith) marks.1 in
    let size = all_three (buffers_ok (field_m s) w.parts.mem w.parts.mem_v w.parts.mem_a) (list_ok report_size most_reports w.report_list) (list_ok output_size most_outputs w.output_list) sizes.0 in
    let buffer = all_three (eqb (length w.parts.mem) (field_m s)) (eqb (length w.parts.mem_v) (field_m s)) (eqb (length w.parts.mem_a) (field_m s)) size.0 in
    let count = all_three (leb w.counts.index (field_n s)) (leb w.counts.outputs (output_places w.output_list)) (leb w.counts.reports (2 * w.counts.steps)) counts.0 in
    record {
      image = accepted-image s image.0;
      runnable =
          record {
            mem = eqb-true _ _ buffer.0;
            mem_v = eqb-true _ _ buffer.1;
            mem_a = eqb-true _ _ buffer.2;
            report_list = list-holds report_size most_reports w.report_list size.1;
            output_list = list-holds output_size most_outputs w.output_list size.2;
            marks = marks-hold w.parts.mem_a marks.0;
            index = leb-true _ _ count.0;
            outputs = leb-true _ _ count.1;
            reports = leb-true _ _ count.2;
          };
      within = leb-true _ _ steps.0;
    }

-- ---- and back
list-passes : (size most : ℕ) (l : List ℕ) → ListFits size most l → list_ok size most l ≡ true
list-passes size most l f = rw (eq-eqb _ _ f.whole, le-leb _ _ f.few)

sizes-pass : (n m : ℕ) (w : World) → Runnable n m w → sizes_ok m w ≡ true
sizes-pass n m w r =
    rw (
      eq-eqb _ _ r.mem,
      eq-eqb _ _ r.mem_v,
      eq-eqb _ _ r.mem_a,
      list-passes report_size most_reports w.report_list r.report_list,
      list-passes output_size most_outputs w.output_list r.output_list,
    )

marks-pass : (mem_a : List ℕ) → Marks mem_a → marks_ok mem_a ≡ true
unfolding marks_ok
marks-pass mem_a h = all-every (λ k. leb (get_or mem_a k 0) 1) (length mem_a) (λ k l. le-leb _ _ (h k))

counts-pass : (n m : ℕ) (w : World) → Runnable n m w → counts_ok n (output_places w.output_list) w.counts ≡ true
counts-pass n m w r = rw (le-leb _ _ r.index, le-leb _ _ r.outputs, le-leb _ _ r.reports)

pub run-allowed : (s : List ℕ) (w : World) (budget : ℕ) → Allowed s w budget → run_refusal s w budget ≡ accepted
unfolding run_refusal
run-allowed s w budget a =
    rw (
      image-accepted s a.image,
      sizes-pass (field_n s) (field_m s) w a.runnable,
      le-leb _ _ a.within,
      marks-pass w.parts.mem_a a.runnable.marks,
      counts-pass (field_n s) (field_m s) w a.runnable,
    )
