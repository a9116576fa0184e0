-- The size of a float by the fields of its word, and the order of two that are finite and not negative: it is the order of their words. In either format.
use Prim.Native.Nat.{ℕ, zero, suc, ◌+◌, ◌-◌, ◌*◌, ◌/◌, ◌%◌, ◌^◌, ◌≤◌, ◌<◌, zero-le}
use mathlib.Core.Path.{◌≡◌, ap}
use mathlib.Core.Logic.{◌⊎◌, inl, inr}
use mathlib.Core.Bool.{Bool, true, false}
use native.Mathlib.Nat.{mul-one, mul-le-mul_right, mul-le-mul_left, mul-lt-mul_of_pos_right, pow-succ', le_of_eq, le_of_lt, lt_of_lt_of_le, lt_of_le_of_lt, eq-or-lt_of_le, not-le_of_lt}
use native.Mathlib.Nat.{div-add-mod', le-div_iff_mul-le, div-lt_iff_lt-mul, mod-lt, mod-eq_of_lt, mod-mod_of_dvd, dvd-mul_right}
use native.Mathlib.Omega.{arith}
use borrow.Author.Tests.{lt-leb, ne_eqb}
use lib.Dec.{T, leb, not_T}
use lib.Pow.{pow_pos, pow_mono}
use lib.Ieee.{Format, prec, low, hid, ones, top, of_fields, of_bits, le}
use lib.Ieee.Bits.{is_true, is_false}
use lib.Ieee.Exact.{HasValue, odd_sign}
use lib.Ieee.Order.{le_of_values}
use lib.Ieee.Positive.{positive, positive_of_value, values_of_le}

-- ---- a size in smallest values: h is the weight of the leading digit, x the exponent's field, t the digits below
abbrev pub steps : (h x t : ℕ) → ℕ
steps h zero t = t
steps h (suc x) t = (h + t) * 2 ^ x

-- it grows with the field, and at one field with the digits
module _ (h : ℕ) where
  under : (x t : ℕ) → t < h → steps h x t < h * 2 ^ x
  under zero t l = omega arith
  under (suc x) t l = let k : (h + t) * 2 ^ x < (h + h) * 2 ^ x = mul-lt-mul_of_pos_right (omega arith) (pow_pos x) in rw (pow-succ' 2 x) (omega arith)

  reaches : (x y u : ℕ) → x < y → h * 2 ^ x ≤ steps h y u
  reaches x zero u l = absurd (omega arith)
  reaches x (suc y) u l = let k : h * 2 ^ x ≤ h * 2 ^ y = mul-le-mul_left h (pow_mono (omega arith)) in omega arith

  same-field : (x t u : ℕ) → t < u → steps h x t < steps h x u
  same-field zero t u l = l
  same-field (suc x) t u l = mul-lt-mul_of_pos_right (omega arith) (pow_pos x)

  fields-grow : (x t y u : ℕ) → t < h → x ≤ y → (x ≡ y → t < u) → steps h x t < steps h y u
  fields-grow x t y u l m d = elim (eq-or-lt_of_le m) [ inl e ↦ rw (← e) (same-field x t u (d e)) | inr g ↦ lt_of_lt_of_le (under x t l) (reaches x y u g) ]

module _ (f : Format) where
  -- ---- of a word, its sign left off
  abbrev pub size_of : ℕ → ℕ
  size_of a = steps (hid f) (a / hid f) (a % hid f)

  hid-pos : 0 < hid f
  hid-pos = pow_pos (prec f - 1)

  pub grows : (a b : ℕ) → a < b → size_of a < size_of b
  grows a b l = fields-grow h (a / h) (a % h) (b / h) (b % h) (mod-lt a hid-pos) ((le-div_iff_mul-le hid-pos).1 (omega (arith, whole))) digits
    where
      h : ℕ
      h = hid f

      whole : (a / h * h + a % h ≡ a) × (b / h * h + b % h ≡ b)
      whole = (div-add-mod' a h, div-add-mod' b h)

      digits : a / h ≡ b / h → a % h < b % h
      digits e = let k : a / h * h ≡ b / h * h = rw e in omega (arith, whole)

  -- ---- what a word stands for
  fields_value : (s : Bool) (x t : ℕ) → x < ones f → HasValue (of_fields f s x t) s (steps (hid f) x t) (2 ^ low f)
  unfolding of_fields
  fields_value s zero t l = rw mul-one at (odd_sign (prec f) s t 0 (low f))
  fields_value s (suc x) t l = rw (ne_eqb (suc x) (ones f) (omega arith)) (odd_sign (prec f) s (hid f + t) x (low f))

  pub word_value : (n : ℕ) → n % top f < ones f * hid f → HasValue (of_bits f n) (leb (top f) n) (size_of (n % top f)) (2 ^ low f)
  unfolding of_bits
  word_value n l =
      rw (mod-mod_of_dvd (hid f) n (dvd-mul_right (hid f) (suc (ones f))))
      (fields_value (leb (top f) n) (n % top f / hid f) (n % hid f) ((div-lt_iff_lt-mul hid-pos).1 l))

  -- from zero's word to the last before infinity's
  clear-value : (a : ℕ) → a < ones f * hid f → HasValue (of_bits f a) false (size_of a) (2 ^ low f)
  clear-value a l =
      let m : a < top f = omega (arith, hid-pos) in
      rw (mod-eq_of_lt m, lt-leb (top f) a m) at (word_value a (rw (mod-eq_of_lt m) l))

  -- ---- two such words
  module _ (a b : ℕ) (A : a < ones f * hid f) (B : b < ones f * hid f) where
    pub in_order : a ≤ b → le (of_bits f a) (of_bits f b) ≡ true
    in_order l =
        is_true (le (of_bits f a) (of_bits f b))
        (le_of_values (of_bits f a) (of_bits f b) (size_of a) (2 ^ low f) (size_of b) (2 ^ low f) (pow_pos (low f)) (pow_pos (low f)) (clear-value a A) (clear-value b B)
        (mul-le-mul_right (2 ^ low f) (sizes (eq-or-lt_of_le l))))
      where
        sizes : (a ≡ b) ⊎ (a < b) → size_of a ≤ size_of b
        sizes (inl e) = le_of_eq (ap size_of e)
        sizes (inr g) = le_of_lt (grows a b g)

    pub out_of_order : 0 < b → b < a → le (of_bits f a) (of_bits f b) ≡ false
    out_of_order p l =
        is_false (le (of_bits f a) (of_bits f b))
        (not_T (le (of_bits f a) (of_bits f b))
        (λ t. not-le_of_lt (mul-lt-mul_of_pos_right (grows b a l) (pow_pos (low f)))
        (values_of_le (of_bits f a) (of_bits f b) (size_of a) (2 ^ low f) (size_of b) (2 ^ low f) (above_zero a A (omega arith)) (above_zero b B p) (clear-value a A) (clear-value b B) t)))
      where
        above_zero : (n : ℕ) → n < ones f * hid f → 0 < n → T (positive (of_bits f n))
        above_zero n N q = positive_of_value (of_bits f n) (size_of n) (2 ^ low f) (clear-value n N) (lt_of_le_of_lt zero-le (grows 0 n q))
