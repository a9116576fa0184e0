-- The refusals of the calls: what the reader hands back, and the tests after it.
use Prim.Native.Nat.{ℕ, zero, suc, ◌+◌, ◌≤◌}
use mathlib.Core.Path.{◌≡◌, refl, sym, ap, ◌∙◌}
use mathlib.Core.Bool.{Bool, true, false, cond, ◌&&◌}
use mathlib.Core.List.{List}
use native.Mathlib.Numerals.{add-one}
use native.Mathlib.Omega.{arith}
use lib.Dec.{eqb, leb}
use lib.ListN.{length, get_or, take}
use lib.Seq.{take_all}
use Rattle.std.specs.Prelude.{Result, Ok, Err, IsErrAnd}
use Rattle.std.specs.List.{list_all}
use Rattle.std.proofs.lemmas.List.Folds.{list_all_more}
use Rattle.image.specs.Tests.{every}
use Rattle.image.specs.Refusals.{Reading, Verdict, accepted, unless, or_else, refusal_of, reading, no_fields, fields_of, header_with, header_of, number_of as image_number, verdict as image_verdict, reading_of as image_reading}
use Rattle.image.specs.declared.Header.{Header}
use Rattle.image.specs.declared.refusals.Refusal.{Refusal as ImageRefusal}
use Rattle.image.specs.declared.refusals.Refusal.TheVariants.{TooShort, WrongMagic, OutOfLimits, WrongLayout, BadInstruction, BadRegion, WrongSum}
use Rattle.image.proofs.AcceptedImage.{header-refusal}
use Rattle.machine.specs.Machine.{World}
use Rattle.machine.specs.Lists.{output_places}
use Rattle.machine.specs.Calls.{wrong_size, too_many_steps, wrong_mark, wrong_count, most_steps, buffers_ok, sizes_ok, marks_ok, counts_ok, begin_refusal, run_refusal}
use Rattle.checker.specs.declared.refusals.Refusal.{Refusal}
use Rattle.checker.specs.declared.refusals.Refusal.TheVariants.{Image, WrongSize, TooManySteps, WrongMark, WrongCount}
use Rattle.checker.specs.Refusals.{number_of, verdict, reading_of}

-- ---- the marks
-- every one passes
pub all-marks : (l : List ℕ) → list_all (λ x. leb x 1) l ≡ marks_ok l
unfolding marks_ok
all-marks l = ap (list_all (λ x. leb x 1)) (sym (take_all (length l) l (omega arith))) ∙ go (length l) (omega arith)
  where
    go : (k : ℕ) → k ≤ length l → list_all (λ x. leb x 1) (take k l) ≡ every (λ i. leb (get_or l i 0) 1) k
    go zero h = refl
    go (suc k) h = ap (λ (n : ℕ). list_all (λ x. leb x 1) (take n l)) (sym (add-one k)) ∙ list_all_more (λ x. leb x 1) l k 0 (omega arith) ∙ ap (λ (t : Bool). t && leb (get_or l k 0) 1) (go k (omega arith))

-- ---- a refusal's number is not 0
refuses-image : (e : ImageRefusal) → eqb (image_number e) 0 ≡ false
refuses-image TooShort = refl
refuses-image WrongMagic = refl
refuses-image OutOfLimits = refl
refuses-image WrongLayout = refl
refuses-image (BadInstruction i) = refl
refuses-image (BadRegion i) = refl
refuses-image WrongSum = refl

pub refuses : (e : Refusal) → eqb (number_of e) 0 ≡ false
refuses (Image e) = refuses-image e
refuses WrongSize = refl
refuses TooManySteps = refl
refuses WrongMark = refl
refuses WrongCount = refl

-- ---- what a reading says, by the verdict that is said of an image and a call's arguments
module _ (s : List ℕ) (v : Verdict) where
  its-verdict : (header_with v s).refusal ≡ v
  its-verdict = go (eqb v.number 0)
    where
      go : (t : Bool) → (cond {A = Reading} t (reading (fields_of s) v) (reading no_fields v)).refusal ≡ v
      go true = refl
      go false = refl

  -- refused: the verdict is that of the refusal
  pub is_refused : (e : Refusal) → reading_of (Err e) ≡ header_with v s → v ≡ verdict e
  is_refused e h = sym its-verdict ∙ sym (ap (λ (t : Reading). t.refusal) h)

  -- accepted: so is the verdict, and the header is the image's
  pub is_accepted : (found : Header) → reading_of (Ok found) ≡ header_with v s → (v ≡ accepted) × (found ≡ fields_of s)
  is_accepted found h =
      let none : v ≡ accepted = sym its-verdict ∙ sym (ap (λ (t : Reading). t.refusal) h) in
      let same : reading found accepted ≡ reading (fields_of s) accepted = h ∙ rw none refl in
      (none, ap (λ (t : Reading). record { m = t.m; n = t.n; r = t.r; d = t.d }) same)

-- ---- the reader's refusal comes first, then those of the tests
module _ (s : List ℕ) (rest : Verdict) where
  unread : (e : ImageRefusal) → image_reading (Err e) ≡ header_of s → reading_of (Err (Image e)) ≡ header_with (or_else (refusal_of s) rest) s
  unread e h =
      let its : refusal_of s ≡ image_verdict e = sym (header-refusal s) ∙ sym (ap (λ (t : Reading). t.refusal) h) in
      rw (its, refuses-image e, refuses-image e) refl

  -- by the `?` that makes it a refusal of the call
  pub image-refuses : (e : ImageRefusal) → image_reading (Err e) ≡ header_of s → (r : Result Header Refusal) → IsErrAnd r (λ made. made ≡ Image e)
      → reading_of r ≡ header_with (or_else (refusal_of s) rest) s
  image-refuses e h (Ok _) same = elim same [ ]
  image-refuses e h (Err made) same = rw same (unread e h)

  module _ (found : Header) (h : image_reading (Ok found) ≡ header_of s) where
    none : refusal_of s ≡ accepted
    none = sym (header-refusal s) ∙ sym (ap (λ (t : Reading). t.refusal) h)

    its-fields : found ≡ fields_of s
    unfolding header_of
    its-fields = (is_accepted s (refusal_of s) found h).1

    fails : (e : Refusal) → rest ≡ verdict e → reading_of (Err e) ≡ header_with (or_else (refusal_of s) rest) s
    fails e g = rw (none, g, refuses e) refl

    passes : rest ≡ accepted → reading_of (Ok found) ≡ header_with (or_else (refusal_of s) rest) s
    passes g = rw (none, g, its-fields) refl

-- ---- what the tests answer together
abbrev begin_answered : (sizes : Bool) → Header → Result Header Refusal
begin_answered sizes found = cond sizes (Ok found) (Err WrongSize)

abbrev run_answered : (sizes steps marks counts : Bool) → Header → Result Header Refusal
run_answered sizes steps marks counts found =
    cond sizes (cond steps (cond marks (cond counts (Ok found) (Err WrongCount)) (Err WrongMark)) (Err TooManySteps)) (Err WrongSize)

module _ (s : List ℕ) (found : Header) (h : image_reading (Ok found) ≡ header_of s) where
  begin-told : (sizes : Bool) → reading_of (begin_answered sizes found) ≡ header_with (or_else (refusal_of s) (unless sizes wrong_size accepted)) s
  begin-told true = passes s _ found h refl
  begin-told false = fails s _ found h WrongSize refl

  pub begin-tests : (mem mem_v mem_a : List ℕ) (sizes : Bool) → sizes ≡ buffers_ok found.m mem mem_v mem_a
      → reading_of (begin_answered sizes found) ≡ header_with (begin_refusal s mem mem_v mem_a) s
  unfolding begin_refusal
  begin-tests mem mem_v mem_a sizes es = begin-told sizes ∙ rw (es, its-fields s accepted found h) refl

  run-told : (sizes steps marks counts : Bool)
      → reading_of (run_answered sizes steps marks counts found)
      ≡ header_with (or_else (refusal_of s) (unless sizes wrong_size (unless steps too_many_steps (unless marks wrong_mark (unless counts wrong_count accepted))))) s
  run-told true true true true = passes s _ found h refl
  run-told true true true false = fails s _ found h WrongCount refl
  run-told true true false counts = fails s _ found h WrongMark refl
  run-told true false marks counts = fails s _ found h TooManySteps refl
  run-told false steps marks counts = fails s _ found h WrongSize refl

  pub run-tests : (w : World) (budget : ℕ) (sizes steps marks counts : Bool)
      → sizes ≡ sizes_ok found.m w
      → steps ≡ leb (w.counts.steps + budget) most_steps
      → marks ≡ marks_ok w.parts.mem_a
      → counts ≡ counts_ok found.n (output_places w.output_list) w.counts
      → reading_of (run_answered sizes steps marks counts found) ≡ header_with (run_refusal s w budget) s
  unfolding run_refusal
  run-tests w budget sizes steps marks counts es et em ec = run-told sizes steps marks counts ∙ rw (es, et, em, ec, its-fields s accepted found h) refl
