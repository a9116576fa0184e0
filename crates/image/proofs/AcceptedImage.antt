-- The reader accepts exactly the images that `Accepted` describes.
use Prim.Native.Nat.{ℕ, zero, suc, ◌*◌, ◌≤◌, ◌<◌}
use mathlib.Core.Path.{◌≡◌, refl, sym, ◌∙◌, ap}
use mathlib.Core.Logic.{◌⊎◌, inl, inr, ⊎_elim}
use mathlib.Core.Bool.{Bool, true, false, cond}
use mathlib.Core.List.{List}
use native.Mathlib.Nat.{eq-or-lt_of_le}
use native.Mathlib.Omega.{arith}
use lib.Dec.{leb, eqb, lit<}
use lib.ListN.{length, get_or, take}
use lib.Seq.{ext_get_or, get_or-take, length-take-le}
use borrow.Author.Tests.{leb-true, eqb-true, le-leb, eq-eqb}
use Rattle.image.specs.Format.{magic, largest, header_size, instruction_size, region_size, most_m, most_n, most_r, most_d, regions_at, data_at, size_of, field_m, field_n, field_r, field_d, code_offset, region_offset, data_offset, magic_ok, limits_within, limits_ok, layout_ok, code_part, region_part, data_part}
use Rattle.image.specs.Regions.{filled_kind, undefined_kind, is_kind, region_at, end_of, end_before, region_keeps, region_ok, filled_sum}
use Rattle.image.specs.Refusals.{Reading, too_short, wrong_magic, out_of_limits, wrong_layout, bad_instruction, bad_region, wrong_sum, accepted, or_else, instruction_ok, code_refusal, region_refusal, sum_refusal, content_refusal, refusal_with, refusal_of, header_of, code_of}
use Rattle.image.specs.Accepted.{Limits, Layout, Keeps, AcceptedWith, Accepted}
use Rattle.std.specs.Prelude.{Result, Ok, Err, is_ok}
use Rattle.image.specs.declared.Instruction.{Instruction}
use Rattle.image.specs.declared.kinds.Kind.{Kind}
use Rattle.image.specs.declared.kinds.Kind.TheVariants.{Filled, Undefined, Other}
use Rattle.image.specs.declared.Region.{Region}
use Rattle.image.proofs.Parts.{length_part}
use Rattle.image.proofs.Tests.{apart, both, all-four}
use Rattle.image.proofs.Faults.{passed, both-passed, no-fault, all_pass}

-- ---- the tests, as facts
pub within-holds : (top_m top_n top_r top_d m n r d : ℕ) → limits_within top_m top_n top_r top_d m n r d ≡ true
    → ((1 ≤ m) × (m ≤ top_m)) × ((1 ≤ n) × (n ≤ top_n)) × (r ≤ top_r) × (d ≤ top_d)
within-holds top_m top_n top_r top_d m n r d h =
    let e6 = both _ (leb d top_d) h in
    let e5 = both _ (leb r top_r) e6.0 in
    let e = all-four (leb 1 m) (leb m top_m) (leb 1 n) (leb n top_n) e5.0 in
    ((leb-true _ _ e.0, leb-true _ _ e.1), (leb-true _ _ e.2, leb-true _ _ e.3), leb-true _ _ e5.1, leb-true _ _ e6.1)

pub limits-hold : (m n r d : ℕ) → limits_ok m n r d ≡ true → Limits m n r d
limits-hold m n r d h =
    let w = within-holds most_m most_n most_r most_d m n r d h in
    record { some_memory = w.0.0; memory = w.0.1; some_code = w.1.0; code = w.1.1; regions = w.2; held = w.3 }

pub limits-pass : {m n r d : ℕ} → Limits m n r d → limits_ok m n r d ≡ true
limits-pass l =
    simp (le-leb _ _ l.some_memory, le-leb _ _ l.memory, le-leb _ _ l.some_code, le-leb _ _ l.code, le-leb _ _ l.regions, le-leb _ _ l.held)

layout-holds : (s : List ℕ) (n r d : ℕ) → layout_ok s n r d ≡ true → Layout s n r d
layout-holds s n r d h =
    let e = all-four (eqb (code_offset s) header_size) (eqb (region_offset s) (regions_at n)) (eqb (data_offset s) (data_at n r)) (eqb (length s) (size_of n r d)) h in
    record { code = eqb-true _ _ e.0; regions = eqb-true _ _ e.1; held = eqb-true _ _ e.2; size = eqb-true _ _ e.3 }

layout-passes : {s : List ℕ} {n r d : ℕ} → Layout s n r d → layout_ok s n r d ≡ true
layout-passes l = simp (eq-eqb _ _ l.code, eq-eqb _ _ l.regions, eq-eqb _ _ l.held, eq-eqb _ _ l.size)

-- each of the four bytes that are compared
same_byte : (s : List ℕ) → ℕ → Bool
same_byte s k = eqb (get_or s k 0) (get_or magic k 0)

four-bytes : (s : List ℕ) → magic_ok s ≡ true → (same_byte s 0 ≡ true) × (same_byte s 1 ≡ true) × (same_byte s 2 ≡ true) × (same_byte s 3 ≡ true)
unfolding same_byte
four-bytes s h = all-four (same_byte s 0) (same_byte s 1) (same_byte s 2) (same_byte s 3) h

magic-byte : (s : List ℕ) → magic_ok s ≡ true → (k : ℕ) → k < 4 → same_byte s k ≡ true
unfolding same_byte
magic-byte s h zero l = (four-bytes s h).0
magic-byte s h (suc zero) l = (four-bytes s h).1
magic-byte s h (suc (suc zero)) l = (four-bytes s h).2
magic-byte s h (suc (suc (suc zero))) l = (four-bytes s h).3
magic-byte s h (suc (suc (suc (suc k)))) l = absurd (omega arith)

magic-holds : (s : List ℕ) → header_size ≤ length s → magic_ok s ≡ true → take (length magic) s ≡ magic
unfolding same_byte
magic-holds s l h =
    let four : length (take 4 s) ≡ 4 = length-take-le 4 s (omega arith) in
    ext_get_or 0 (take 4 s) magic four (λ i k. let q : i < 4 = omega arith in get_or-take 4 s i 0 q ∙ eqb-true _ _ (magic-byte s h i q))

magic-passes : (s : List ℕ) → take (length magic) s ≡ magic → magic_ok s ≡ true
magic-passes s h = simp (at 0 (omega arith), at 1 (omega arith), at 2 (omega arith), at 3 (omega arith))
  where
    at : (i : ℕ) → i < 4 → eqb (get_or s i 0) (get_or magic i 0) ≡ true
    at i l = eq-eqb _ _ (sym (get_or-take 4 s i 0 l) ∙ ap (λ (t : List ℕ). get_or t i 0) h)

keeps-hold : (region : Region) (before m : ℕ) → region_keeps region before m ≡ true → Keeps region before m
keeps-hold region before m h =
    let e = all-four (leb 1 region.size) (leb before region.start) (leb (end_of region) m) (is_kind region.kind) h in
    record { some = leb-true _ _ e.0; follows = leb-true _ _ e.1; within = leb-true _ _ e.2; kind = either-kind region.kind e.3 }
  where
    either-kind : (kind : Kind) → is_kind kind ≡ true → (kind ≡ filled_kind) ⊎ (kind ≡ undefined_kind)
    either-kind Filled h = inl refl
    either-kind Undefined h = inr refl
    either-kind (Other word) h = apart (sym h)

keeps-pass : {region : Region} {before m : ℕ} → Keeps region before m → region_keeps region before m ≡ true
keeps-pass {region} k = simp (le-leb _ _ k.some, le-leb _ _ k.follows, le-leb _ _ k.within, of k.kind)
  where
    of : (region.kind ≡ filled_kind) ⊎ (region.kind ≡ undefined_kind) → is_kind region.kind ≡ true
    of (inl e) = rw e
    of (inr e) = rw e

valid-holds : (x : Result Instruction ℕ) → is_ok x ≡ true → (v : Instruction) × (x ≡ Ok v)
valid-holds (Ok v) h = (v, refl)
valid-holds (Err k) h = apart (sym h)

-- ---- the theorems
module _ (s : List ℕ) (m n r d : ℕ) where
  with-holds : (refusal_with s m n r d).number ≡ 0 → AcceptedWith s m n r d
  unfolding code_refusal region_refusal instruction_ok region_ok
  with-holds h =
      let p1 = passed (leb header_size (length s)) too_short 0 _ (lit< tt) h in
      let p2 = passed (magic_ok s) wrong_magic 0 _ (lit< tt) p1.1 in
      let p3 = passed (limits_ok m n r d) out_of_limits 0 _ (lit< tt) p2.1 in
      let p4 = passed (layout_ok s n r d) wrong_layout 0 (content_refusal (code_part s n) (region_part s n r) m n r d) (lit< tt) p3.1 in
      let p5 = both-passed (code_refusal (code_part s n) n m) (or_else (region_refusal (region_part s n r) r m) (sum_refusal (region_part s n r) r d)) p4.1 in
      let p6 = both-passed (region_refusal (region_part s n r) r m) (sum_refusal (region_part s n r) r d) p5.1 in
      let p7 = passed (eqb (filled_sum (region_part s n r) r) d) wrong_sum 0 accepted (lit< tt) p6.1 in
      let long = leb-true header_size (length s) p1.0 in
      record {
        long = long;
        starts = magic-holds s long p2.0;
        limits = limits-hold m n r d p3.0;
        layout = layout-holds s n r d p4.0;
        code = λ i l. valid-holds _ (no-fault bad_instruction _ 0 n (lit< tt) p5.0 i (omega arith) (omega arith));
        regions = λ i l. keeps-hold _ _ _ (no-fault bad_region _ 0 r (lit< tt) p6.0 i (omega arith) (omega arith));
        sum = eqb-true _ _ p7.0;
      }

  with-passes : AcceptedWith s m n r d → refusal_with s m n r d ≡ accepted
  unfolding code_refusal region_refusal instruction_ok region_ok
  with-passes a =
      let codes : code_refusal (code_part s n) n m ≡ accepted = all_pass bad_instruction _ 0 n (λ k lo hi. ap is_ok (a.code k (omega arith)).1) in
      let places : region_refusal (region_part s n r) r m ≡ accepted = all_pass bad_region _ 0 r (λ k lo hi. keeps-pass (a.regions k (omega arith))) in
      simp (le-leb _ _ a.long, magic-passes s a.starts, limits-pass a.limits, layout-passes a.layout, codes, places, eq-eqb _ _ a.sum)

-- what an accepted image is
pub accepted-image : (s : List ℕ) → (refusal_of s).number ≡ 0 → Accepted s
unfolding refusal_of
accepted-image s h = with-holds s (field_m s) (field_n s) (field_r s) (field_d s) h

-- and every such image is accepted
pub image-accepted : (s : List ℕ) → Accepted s → refusal_of s ≡ accepted
unfolding refusal_of
image-accepted s a = with-passes s (field_m s) (field_n s) (field_r s) (field_d s) a

-- the answer to an accepted image
pub accepted-header : (s : List ℕ) → Accepted s
    → header_of s ≡ record { m = field_m s; n = field_n s; r = field_r s; d = field_d s; refusal = accepted }
unfolding header_of
accepted-header s a = rw (image-accepted s a)

pub accepted-code : (s : List ℕ) → Accepted s → code_of s ≡ code_part s (field_n s)
unfolding code_of
accepted-code s a = rw (accepted-header s a)

-- ---- any header
-- it has the image's four numbers, or zeros where the image is refused: what is so of both is so of it
pub header-either : (s : List ℕ) (P : Reading → Type 0)
    → ((refusal_of s).number ≡ 0 → P (record { m = field_m s; n = field_n s; r = field_r s; d = field_d s; refusal = refusal_of s }))
    → (eqb (refusal_of s).number 0 ≡ false → P (record { m = 0; n = 0; r = 0; d = 0; refusal = refusal_of s }))
    → P (header_of s)
unfolding header_of
header-either s P numbers zeros = go (eqb (refusal_of s).number 0) refl
  where
    go : (t : Bool) → eqb (refusal_of s).number 0 ≡ t
        → P (cond {A = Reading} t (record { m = field_m s; n = field_n s; r = field_r s; d = field_d s; refusal = refusal_of s }) (record { m = 0; n = 0; r = 0; d = 0; refusal = refusal_of s }))
    go true e = numbers (eqb-true _ _ e)
    go false e = zeros e

pub header-refusal : (s : List ℕ) → (header_of s).refusal ≡ refusal_of s
header-refusal s = header-either s (λ (h : Reading). h.refusal ≡ refusal_of s) (λ e. refl) (λ e. refl)

-- M is never more than the most
pub header-memory : (s : List ℕ) → (header_of s).m ≤ most_m
header-memory s = header-either s (λ (h : Reading). h.m ≤ most_m) (λ e. (accepted-image s e).limits.memory) (λ e. omega arith)

-- a refused image has no instructions
pub header-empty : (s : List ℕ) → eqb (header_of s).refusal.number 0 ≡ false → (header_of s).n ≡ 0
header-empty s = header-either s (λ (h : Reading). eqb h.refusal.number 0 ≡ false → h.n ≡ 0) (λ e h. apart (sym (eq-eqb _ _ e) ∙ h)) (λ e h. refl)

-- ---- its size, and that of its parts
pub accepted-small : (s : List ℕ) → Accepted s → length s ≤ largest
accepted-small s a = omega (arith, a.layout.size, a.limits.code, a.limits.regions, a.limits.held)

module _ (s : List ℕ) (a : Accepted s) where
  pub code-length : length (code_part s (field_n s)) ≡ instruction_size * field_n s
  code-length = length_part s header_size (instruction_size * field_n s) (omega (arith, a.layout.size))

  pub region-length : length (region_part s (field_n s) (field_r s)) ≡ region_size * field_r s
  region-length = length_part s (regions_at (field_n s)) (region_size * field_r s) (omega (arith, a.layout.size))

  pub data-length : length (data_part s (field_n s) (field_r s) (field_d s)) ≡ field_d s
  data-length = length_part s (data_at (field_n s) (field_r s)) (field_d s) (omega (arith, a.layout.size))

  -- its regions lie apart, in their order
  pub regions-apart : (i j : ℕ) → i < j → j < field_r s
      → end_of (region_at (region_part s (field_n s) (field_r s)) i) ≤ (region_at (region_part s (field_n s) (field_r s)) j).start
  unfolding end_before
  regions-apart i zero l h = absurd (omega arith)
  regions-apart i (suc j) l h =
      let follows = (a.regions (suc j) h).follows in
      ⊎_elim (λ (e : i ≡ j). rw e follows) (λ (q : i < j). omega (arith, regions-apart i j q (omega arith), follows)) (eq-or-lt_of_le (let q : i ≤ j = omega arith in q))
