-- The regions of an image, laid one after the other.
use Prim.Native.Nat.{ℕ, ◌+◌, ◌≤◌, ◌<◌}
use mathlib.Core.Path.{◌≡◌, refl, sym, ap, ◌∙◌}
use mathlib.Core.Bool.{Bool, true, false, cond}
use mathlib.Core.List.{List}
use native.Mathlib.Numerals.{add-one}
use native.Mathlib.Omega.{arith}
use lib.ListN.{length, get_or, replicate, length-replicate, get_or-replicate}
use lib.Seq.{ext_get_or}
use Rattle.image.specs.Format.{field_m, region_part, data_part}
use Rattle.image.specs.Regions.{region_at, end_of, filled_of, filled_sum}
use Rattle.image.specs.Refusals.{fields_of}
use Rattle.image.specs.declared.Header.{Header}
use Rattle.image.specs.Accepted.{Accepted}
use Rattle.image.specs.declared.Region.{Region}
use Rattle.image.proofs.RegionLaws.{filled_next, filled-mono}
use Rattle.machine.specs.Machine.{undefined_byte, defined_byte, addressable_mark, unaddressable_mark}
use Rattle.machine.specs.Ranges.{written, filled}
use Rattle.machine.specs.Beginning.{is_filled, lay_data, lay_v, lay_a, laid, regions_of, data_of, begun_memory, begun_v, begun_a}
use Rattle.machine.proofs.Places.{length-written, written-there}
use Rattle.checker.specs.declared.beginning.Buffers.{Buffers}
use Rattle.checker.specs.Pieces.{Sizes}
use Rattle.checker.specs.Buffers.{BuffersLent}

-- a list that is filled whole
all-filled : (x m : ℕ) (l : List ℕ) → length l ≡ m → filled x l 0 m ≡ replicate m x
all-filled x m l e =
    ext_get_or 0 (filled x l 0 m) (replicate m x) (length-written _ l 0 m ∙ e ∙ sym (length-replicate m x))
    (λ i q.
    let h : i < m = omega (arith, length-written (λ k. x) l 0 m) in
    ap (λ (j : ℕ). get_or (filled x l 0 m) j 0) (let z : i ≡ 0 + i = omega arith in z) ∙ written-there _ l 0 m i h (omega arith) ∙ sym (get_or-replicate m i x 0 h))

-- the first i regions are laid, and the data of the next one begins at `from`
pub record Laying (regions held : List ℕ) (b : Buffers) (from : ℕ) (b' : Buffers) (i : ℕ) : Type 0 where
  pub begins : from ≡ filled_sum regions i
  pub lent : BuffersLent b b'
  pub size : length b'.mem.now ≡ length b.mem.now
  pub memory : b'.mem.now ≡ laid (lay_data regions held) i b.mem.now
  pub shadow : b'.vbits.now ≡ laid (lay_v regions) i b.vbits.now
  pub marks : b'.abits.now ≡ laid (lay_a regions) i b.abits.now

pub none-laid : (regions held : List ℕ) (b : Buffers) → Laying regions held b 0 b 0
unfolding laid filled_sum
none-laid regions held b = record { begins = refl; lent = record { mem = refl; vbits = refl; abits = refl }; size = refl; memory = refl; shadow = refl; marks = refl }

module _ {regions held : List ℕ} {b : Buffers} {from : ℕ} {b' : Buffers} {i : ℕ} (w : Laying regions held b from b' i) where
  module _ {r : ℕ} (h : i < r) {region : Region} (e : region ≡ region_at regions i) where
    -- the next region fits, if each of the r does
    pub next_fits : ((j : ℕ) → j < r → end_of (region_at regions j) ≤ length b.mem.now) → filled_sum regions r ≤ length held
        → (end_of region ≤ length b'.mem.now) × (from + filled_of region ≤ length held)
    next_fits ends sum = (
      rw (e, w.size) (ends i h),
      rw e (omega (arith, w.begins, filled_next regions i, filled-mono regions (i + 1) r (omega arith))),
    )

    pub one-laid : {from'' : ℕ} {b'' : Buffers}
        → from'' ≡ from + filled_of region
        → BuffersLent b' b''
        → b''.mem.now ≡ cond (is_filled region) (written (λ k. get_or held (from + k) 0) b'.mem.now region.start region.size) b'.mem.now
        → b''.vbits.now ≡ filled (cond (is_filled region) defined_byte undefined_byte) b'.vbits.now region.start region.size
        → b''.abits.now ≡ filled addressable_mark b'.abits.now region.start region.size
        → Laying regions held b from'' b'' (i + 1)
    unfolding laid
    one-laid ef el em ev ea =
        record {
          begins = ef ∙ rw (e, w.begins, filled_next regions i);
          lent = let l = w.lent in record { mem = el.mem ∙ l.mem; vbits = el.vbits ∙ l.vbits; abits = el.abits ∙ l.abits };
          size = ap length em ∙ copied (is_filled region) _ ∙ w.size;
          memory = em ∙ rw (add-one i, e, w.begins, w.memory);
          shadow = ev ∙ rw (add-one i, e, w.shadow);
          marks = ea ∙ rw (add-one i, e, w.marks);
        }
      where
        copied : (t : Bool) (f : ℕ → ℕ) → length (cond t (written f b'.mem.now region.start region.size) b'.mem.now) ≡ length b'.mem.now
        copied true f = length-written f b'.mem.now _ _
        copied false f = refl

-- ---- an accepted image, from its header
module _ (s : List ℕ) (a : Accepted s) (found : Header) (f : found ≡ fields_of s) (mem mem_v mem_a : List ℕ) (sizes : Sizes (field_m s) mem mem_v mem_a) where
  module _ {regions held mem_v' mem_a' : List ℕ} (er : regions ≡ region_part s found.n found.r) (eh : held ≡ data_part s found.n found.r found.d)
      (ev : mem_v' ≡ filled undefined_byte mem_v 0 found.m) (ea : mem_a' ≡ filled unaddressable_mark mem_a 0 found.m) where
    its-regions : regions ≡ regions_of s
    its-regions = er ∙ rw f

    its-data : held ≡ data_of s
    its-data = eh ∙ rw f

    pub begun : (b' : Buffers) {mem'' mem_v'' mem_a'' : List ℕ}
        → mem'' ≡ b'.mem.now → mem_v'' ≡ b'.vbits.now → mem_a'' ≡ b'.abits.now
        → (b'.mem.now ≡ laid (lay_data regions held) found.r mem) × ((b'.vbits.now ≡ laid (lay_v regions) found.r mem_v') × (b'.abits.now ≡ laid (lay_a regions) found.r mem_a'))
        → (mem'' ≡ begun_memory s mem) × ((mem_v'' ≡ begun_v s) × (mem_a'' ≡ begun_a s))
    unfolding begun_memory begun_v begun_a
    begun b' em ev' ea' l = (
      em ∙ l.0 ∙ rw (its-regions, its-data, f),
      (
        ev' ∙ l.1.0 ∙ rw (its-regions, ev, f, all-filled undefined_byte (field_m s) mem_v sizes.size_v),
        ea' ∙ l.1.1 ∙ rw (its-regions, ea, f, all-filled unaddressable_mark (field_m s) mem_a sizes.size_a),
      ),
    )
