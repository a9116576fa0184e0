-- What the writer's refusals say of the lists, and what it answers.
use Prim.Native.Nat.{ℕ, ◌%◌, ◌≤◌}
use mathlib.Core.Path.{◌≡◌, refl, sym, ap}
use mathlib.Core.Bool.{Bool, true, false, cond}
use mathlib.Core.List.{List}
use native.Mathlib.Omega.{arith}
use lib.ListN.{length}
use lib.Dec.{lit<, eqb}
use lib.Seq.{sets}
use borrow.Author.Tests.{leb-true, eqb-true, eq-eqb, ne_eqb}
use Rattle.std.specs.Prelude.{Result, Err}
use Rattle.image.specs.Format.{size_of, limits_ok}
use Rattle.image.specs.Refusals.{Verdict, accepted, unless, or_else, out_of_limits}
use Rattle.image.specs.declared.refusals.Refusal.TheVariants.{TooShort, WrongMagic, OutOfLimits, WrongLayout, BadInstruction, BadRegion, WrongSum}
use Rattle.image.proofs.Tests.{all_three}
use Rattle.image.proofs.Faults.{passed, both-passed}
use Rattle.image.proofs.AcceptedImage.{limits-hold}
use Rattle.writer.specs.Words.{instruction_words, region_words}
use Rattle.writer.specs.Writing.{no_room, instruction_count, region_count, image_of, whole_entries, counts_ok, entries_refusal, room_ok, write_refusal, written, not_written, write_answer}
use Rattle.writer.specs.Refusals.{number_of, verdict, written_of}
use Rattle.writer.specs.declared.refusals.Refusal.{Refusal}
use Rattle.writer.specs.declared.refusals.Refusal.TheVariants.{Image, NoRoom}
use Rattle.writer.specs.Pieces.{Counted}
use Rattle.writer.proofs.ImageLaws.{image-length, put_front}

module _ (m : ℕ) (instructions regions : List ℕ) (d : ℕ) where
  pub counts-hold : counts_ok m instructions regions d ≡ true → Counted m instructions regions d
  unfolding counts_ok
  counts-hold h =
      let e =
      all_three (whole_entries instruction_words instructions) (whole_entries region_words regions) (limits_ok m (instruction_count instructions) (region_count regions) d) h in
      let code : length instructions % 2 ≡ 0 = eqb-true _ _ e.0 in
      let places : length regions % 3 ≡ 0 = eqb-true _ _ e.1 in
      record { whole_code = omega arith; whole_regions = omega arith; limits = limits-hold _ _ _ _ e.2 }

  -- nothing refused
  pub record Allowed (room : ℕ) : Type 0 where
    pub counted : Counted m instructions regions d
    pub entries : (entries_refusal m instructions regions d).number ≡ 0
    pub fits : size_of (instruction_count instructions) (region_count regions) d ≤ room
    pub none : write_refusal m instructions regions d room ≡ accepted

  pub may_write : (room : ℕ) → (write_refusal m instructions regions d room).number ≡ 0 → Allowed room
  unfolding write_refusal
  may_write room h =
      let last = unless (room_ok instructions regions d room) no_room accepted in
      let p1 = passed (counts_ok m instructions regions d) out_of_limits 0 (or_else (entries_refusal m instructions regions d) last) (lit< tt) h in
      let p2 = both-passed (entries_refusal m instructions regions d) last p1.1 in
      let p3 = passed (room_ok instructions regions d room) no_room 0 accepted (lit< tt) p2.1 in
      record { counted = counts-hold p1.0; entries = p2.0; fits = leb-true _ _ p3.0; none = simp (p1.0, eq-eqb _ _ p2.0, p3.0) }

-- ---- the answer
-- no refusal has number 0
some_number : (e : Refusal) → number_of e ≡ 0 → ⊥
some_number (Image TooShort) h = omega arith
some_number (Image WrongMagic) h = omega arith
some_number (Image OutOfLimits) h = omega arith
some_number (Image WrongLayout) h = omega arith
some_number (Image (BadInstruction i)) h = omega arith
some_number (Image (BadRegion i)) h = omega arith
some_number (Image WrongSum) h = omega arith
some_number NoRoom h = omega arith

module _ (m : ℕ) (instructions regions held out : List ℕ) where
  abbrev made : List ℕ
  made = image_of m instructions regions held

  abbrev refusal : Verdict
  refusal = write_refusal m instructions regions (length held) (length out)

  -- of a refused call
  pub answer-refused : (e : Refusal) (r : Result ℕ Refusal) → verdict e ≡ refusal → r ≡ Err e → written_of r out ≡ write_answer m instructions regions held out
  unfolding write_answer
  answer-refused e r h h' = rw (h', ← h, ne_eqb _ _ (some_number e))

  pub answer-accepted : refusal.number ≡ 0 → write_answer m instructions regions held out ≡ written made out
  unfolding write_answer
  answer-accepted h = rw (eq-eqb _ _ h)

  -- the answer has the refusal's number
  pub answer-number : (write_answer m instructions regions held out).refusal.number ≡ 0 → refusal.number ≡ 0
  unfolding write_answer
  answer-number h = go (eqb refusal.number 0) refl h
    where
      go : (t : Bool) → eqb refusal.number 0 ≡ t → (cond t (written made out) (not_written refusal out)).refusal.number ≡ 0 → refusal.number ≡ 0
      go true e z = eqb-true _ _ e
      go false e z = z

  -- of one that put the image there
  pub answer-written : (size : ℕ) (out' : List ℕ) → accepted ≡ refusal → size ≡ length made → out' ≡ sets out 0 made
      → record { refusal = accepted; size = size; out = out' } ≡ write_answer m instructions regions held out
  answer-written size out' e l p =
      let z : refusal.number ≡ 0 = sym (ap (λ (v : Verdict). v.number) e) in
      let a = may_write m instructions regions (length held) (length out) z in
      let fits : length made ≤ length out = omega (arith, image-length m instructions regions held a.counted, a.fits) in
      rw (l, p, put_front out made fits) (sym (answer-accepted z))
