-- A value passes a gate exactly if its word is minus zero's, or at most the word of the gate's highest rate. The law is `by_bits`, the last one here.
use Prim.Native.Nat.{ℕ, zero, suc, ◌*◌, ◌%◌, ◌^◌, ◌≤◌, ◌<◌, zero-le}
use mathlib.Core.Path.{◌≡◌, refl, ◌∙◌}
use mathlib.Core.Logic.{inl, inr}
use mathlib.Core.Bool.{Bool, true, false, not, false≢true}
use native.Mathlib.Nat.{mul-pos, lt_of_le_of_lt, eq-or-lt_of_le}
use native.Mathlib.Omega.{arith}
use borrow.Author.Tests.{ltb-true, ltb-false, leb-true, leb-false, eqb-true, eqb-false, lt-ltb, le-ltb, le-leb, lt-leb, ne_eqb}
use lib.Dec.{leb, ltb, eqb}
use lib.Ieee.{Float, nan, inf, fin, binary32, up, down, low, le, of_int, of_bits, nan_bits}
use lib.Ieee.Bits.{nan_bits_above}
use lib.Ieee.Fits.{down_pos}
use lib.Ieee.Exact.{HasValue}
use lib.Ieee.Positive.{first_pos}
use Rattle.commands.specs.Gates.{gates, float, lowest, highest_of, in_gate, blocked}
use Rattle.commands.specs.ByBits.{highest_bits, minus_zero, passes_by_bits}
use Rattle.commands.proofs.GateLaws.{lowest-bits, float-8000, float-40}
use Rattle.commands.proofs.WordOrder.{size_of, grows, word_value, in_order, out_of_order}

abbrev infinity : ℕ
infinity = 0x7F80_0000

abbrev minus_infinity : ℕ
minus_infinity = 0xFF80_0000

-- a word, its sign left off
abbrev unsigned : ℕ → ℕ
unsigned value = value % minus_zero

-- ---- the highest rate's word
highest-bits : (port : ℕ) → of_bits binary32 (highest_bits port) ≡ highest_of port
unfolding highest_of highest_bits
highest-bits zero = float-8000
highest-bits (suc zero) = float-8000
highest-bits (suc (suc port)) = float-40

highest-within : (port : ℕ) → (0 < highest_bits port) × (highest_bits port ≤ 0x45FA_0000)
unfolding highest_bits
highest-within zero = omega arith
highest-within (suc zero) = omega arith
highest-within (suc (suc port)) = omega arith

-- ---- words that compute
minus-zero-in : (port : ℕ) → in_gate port (of_bits binary32 minus_zero) ≡ true
unfolding in_gate highest_of float le of_int of_bits
minus-zero-in zero = refl
minus-zero-in (suc zero) = refl
minus-zero-in (suc (suc port)) = refl

infinity-out : (port : ℕ) → in_gate port (of_bits binary32 infinity) ≡ false
unfolding in_gate highest_of float le of_int of_bits
infinity-out zero = refl
infinity-out (suc zero) = refl
infinity-out (suc (suc port)) = refl

minus-infinity-out : (port : ℕ) → in_gate port (of_bits binary32 minus_infinity) ≡ false
unfolding in_gate float le of_int of_bits
minus-infinity-out port = refl

-- ---- a value below zero
below-lowest : (x : Float) (a c : ℕ) → HasValue x true a c → 0 < a → le lowest x ≡ false
unfolding float le of_int
below-lowest nan a c v p = absurd v
below-lowest (inf s) a c v p = absurd v
below-lowest (fin false m e) a c v p = absurd (false≢true v.0)
below-lowest (fin true m e) a c v p =
    let q : 0 < m * up e = first_pos (m * up e) c (rw v.1 (mul-pos p (down_pos e))) in
    rw (ne_eqb (0 * down e) (m * up e * 1) (omega arith))

module _ (port value : ℕ) (has : port < gates) where
  abbrev rate : Float
  rate = of_bits binary32 value

  number : unsigned value ≤ infinity → nan_bits binary32 value ≡ false
  number l = nan_bits_above binary32 value ∙ le-ltb infinity (unsigned value) l

  -- ---- from zero's word to the last before infinity's, the order is the words'
  module _ (finite : value < infinity) where
    least : le lowest rate ≡ true
    least = rw (← lowest-bits) (in_order binary32 0 value (omega arith) finite (omega arith))

    greatest : le rate (highest_of port) ≡ leb value (highest_bits port)
    greatest = rw (← highest-bits port) (go (leb value (highest_bits port)) refl)
      where
        top : highest_bits port < infinity
        top = omega (arith, highest-within port)

        go : (t : Bool) → leb value (highest_bits port) ≡ t → le rate (of_bits binary32 (highest_bits port)) ≡ t
        go true e = in_order binary32 value (highest_bits port) finite top (leb-true value (highest_bits port) e)
        go false e = out_of_order binary32 value (highest_bits port) finite top (highest-within port).0 (leb-false value (highest_bits port) e)

    by_order : blocked port value ≡ not (passes_by_bits port value)
    unfolding blocked in_gate passes_by_bits
    by_order = rw (lt-leb gates port has, number (omega arith), least, greatest, ne_eqb value minus_zero (omega arith))

  -- ---- of the others minus zero's passes
  minus-zero : value ≡ minus_zero → blocked port value ≡ not (passes_by_bits port value)
  unfolding blocked passes_by_bits nan_bits
  minus-zero e = rw (e, lt-leb gates port has, minus-zero-in port)

  -- ---- and no other: it is not a number, infinite, or below zero
  module _ (beyond : infinity ≤ value) (word : value < 2 ^ 32) (other : value ≡ minus_zero → ⊥) where
    not-number : infinity < unsigned value → blocked port value ≡ true
    unfolding blocked
    not-number l = rw (lt-leb gates port has, nan_bits_above binary32 value, lt-ltb infinity (unsigned value) l)

    infinite : unsigned value ≡ infinity → in_gate port rate ≡ false
    infinite e = go (ltb value minus_zero) refl
      where
        go : (t : Bool) → ltb value minus_zero ≡ t → in_gate port rate ≡ false
        go true h = let v : value ≡ infinity = omega (arith, ltb-true) in rw v (infinity-out port)
        go false h = let v : value ≡ minus_infinity = omega (arith, ltb-false) in rw v (minus-infinity-out port)

    negative : unsigned value < infinity → in_gate port rate ≡ false
    unfolding in_gate
    negative l = rw (below-lowest rate (size_of binary32 (unsigned value)) (2 ^ low binary32) signed (lt_of_le_of_lt zero-le (grows binary32 0 (unsigned value) (omega arith))))
      where
        signed : HasValue rate true (size_of binary32 (unsigned value)) (2 ^ low binary32)
        signed = rw (le-leb minus_zero value (omega arith)) at (word_value binary32 value l)

    out : in_gate port rate ≡ false → unsigned value ≤ infinity → blocked port value ≡ true
    unfolding blocked
    out g l = rw (lt-leb gates port has, number l, g)

    stops : blocked port value ≡ true
    stops = go (ltb infinity (unsigned value)) refl
      where
        go : (t : Bool) → ltb infinity (unsigned value) ≡ t → blocked port value ≡ true
        go true h = not-number (ltb-true infinity (unsigned value) h)
        go false h =
            let l = ltb-false infinity (unsigned value) h in
            elim (eq-or-lt_of_le l) [ inl e ↦ out (infinite e) l | inr k ↦ out (negative k) l ]

    no_other : blocked port value ≡ not (passes_by_bits port value)
    unfolding passes_by_bits
    no_other = rw (stops, ne_eqb value minus_zero other, lt-leb value (highest_bits port) (omega (arith, highest-within port)))

-- ---- the law
pub by_bits : (port value : ℕ) → port < gates → value < 2 ^ 32 → blocked port value ≡ not (passes_by_bits port value)
by_bits port value has word = go (ltb value infinity) (eqb value minus_zero) refl refl
  where
    go : (finite minus : Bool) → ltb value infinity ≡ finite → eqb value minus_zero ≡ minus → blocked port value ≡ not (passes_by_bits port value)
    go true minus f m = by_order port value has (ltb-true value infinity f)
    go false true f m = minus-zero port value has (eqb-true value minus_zero m)
    go false false f m = no_other port value has (ltb-false value infinity f) word (eqb-false value minus_zero m)
