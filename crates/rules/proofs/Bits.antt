-- The bits of a number, and of what the operations on numbers give.
use Rattle.std.proofs.Common.{◌≡◌, ℕ, zero, suc, ◌+◌, ◌-◌, ◌*◌, ◌/◌, ◌%◌, ◌^◌, ◌<◌, ◌≤◌, min, max, Bool, true, false, cond, eqb, ◌⊎◌, sym, ap, ◌∙◌, subst, ap₂, inl, inr, ⊎_elim, lt_of_lt_of_le, mod-lt, mod-eq_of_lt, mul_assoc, eq-zero-or-pos, pow-suc, one-add, arith, pow_pos, pow_mono, pow-add, shr-shr}
use native.Mathlib.Nat.{div-eq_of_lt, zero-div, mul-mod_left, sub-zero}
use native.Mathlib.Decide.{dec_lt}
use lib.Arith.{digits_mod}
use lib.Pow.{shl-shr, field, mod-mod-pow, mod-pow-add}
use lib.Bits.{bit_and, bit_or, bit_xor, differ, and_shr, or_shr, xor_shr, and_step, or_step, xor_step}
use Rattle.rules.specs.Word.{bit, copies}

pub lt-or-ge : (a b : ℕ) → (a < b) ⊎ (b ≤ a)
lt-or-ge a b = go (dec_lt a b)
  where
    go : Dec (a < b) → (a < b) ⊎ (b ≤ a)
    go (yes h) = inl h
    go (no h) = inr (omega arith)

-- a choice of two small numbers is small
pub cond-lt : (t : Bool) {a b n : ℕ} → a < n → b < n → cond t a b < n
cond-lt true ha hb = ha
cond-lt false ha hb = hb

pub bit-lt : (i x : ℕ) → bit i x < 2
unfolding bit
bit-lt i x = omega arith

pub bit-zero : (i : ℕ) → bit i 0 ≡ 0
unfolding bit
bit-zero i = ap (λ (n : ℕ). n % 2) (zero-div (2 ^ i))

pub zero-or-one : (i x : ℕ) → (bit i x ≡ 0) ⊎ (bit i x ≡ 1)
zero-or-one i x = ⊎_elim (λ e. inl e) (λ (p : zero < bit i x). inr (omega (arith, bit-lt i x))) (eq-zero-or-pos (bit i x))

-- a number of n bits has none from n on
pub bit_high : (n i x : ℕ) → x < 2 ^ n → n ≤ i → bit i x ≡ 0
unfolding bit
bit_high n i x h l = ap (λ (m : ℕ). m % 2) (div-eq_of_lt (lt_of_lt_of_le h (pow_mono l)))

-- ---- an operation that works digit by digit
module _ (op f : ℕ → ℕ → ℕ)
    (shr : (a b k : ℕ) → op a b / 2 ^ k ≡ op (a / 2 ^ k) (b / 2 ^ k))
    (step : (a b : ℕ) → op a b ≡ op (a / 2) (b / 2) * 2 + f (a % 2) (b % 2))
    (small : (x y : ℕ) → x < 2 → y < 2 → f x y < 2) where
  bit-op : (i a b : ℕ) → bit i (op a b) ≡ f (bit i a) (bit i b)
  unfolding bit
  bit-op i a b =
      ap (λ (n : ℕ). n % 2) (shr a b i ∙ step (a / 2 ^ i) (b / 2 ^ i))
      ∙ digits_mod (op (a / 2 ^ i / 2) (b / 2 ^ i / 2)) (small (bit i a) (bit i b) (bit-lt i a) (bit-lt i b))

pub bit-and : (i a b : ℕ) → bit i (bit_and a b) ≡ min (bit i a) (bit i b)
bit-and = bit-op bit_and min and_shr and_step (λ x y hx hy. omega arith)

pub bit-or : (i a b : ℕ) → bit i (bit_or a b) ≡ max (bit i a) (bit i b)
bit-or = bit-op bit_or max or_shr or_step (λ x y hx hy. omega arith)

-- the difference of two numbers is their sum less twice the smaller
pub differ-sum : (a b : ℕ) → differ a b + min a b * 2 ≡ a + b
differ-sum zero b = omega arith
differ-sum (suc a) zero = omega arith
differ-sum (suc a) (suc b) = omega (arith, differ-sum a b)

pub bit-xor : (i a b : ℕ) → bit i (bit_xor a b) ≡ differ (bit i a) (bit i b)
bit-xor = bit-op bit_xor differ xor_shr xor_step (λ x y hx hy. omega (arith, differ-sum x y))

-- digits are equal exactly if they do not differ
pub differ_self : (b : ℕ) → differ b b ≡ 0
differ_self b = omega (arith, differ-sum b b)

pub differ-none : (a b : ℕ) → differ a b ≡ 0 → a ≡ b
differ-none a b e = omega (arith, differ-sum a b)

-- ---- the low digits
pub bit-mod : (i k x : ℕ) → i < k → bit i (x % 2 ^ k) ≡ bit i x
unfolding bit
bit-mod i k x h =
    subst (λ (n : ℕ). x % 2 ^ n / 2 ^ i % 2 ≡ x / 2 ^ i % 2) e
    (ap (λ (n : ℕ). n % 2) (field x (k - suc i + 1) i) ∙ mod-mod-pow (x / 2 ^ i) (k - suc i) 1)
  where
    e : k - suc i + 1 + i ≡ k
    e = omega arith

pub bit-same : (i x y : ℕ) → x % 2 ^ suc i ≡ y % 2 ^ suc i → bit i x ≡ bit i y
bit-same i x y e = sym (bit-mod i (suc i) x (omega arith)) ∙ ap (bit i) e ∙ bit-mod i (suc i) y (omega arith)

-- one digit more
pub low-suc : (k x : ℕ) → x % 2 ^ suc k ≡ bit k x * 2 ^ k + x % 2 ^ k
unfolding bit
low-suc k x = ap (λ (n : ℕ). x % 2 ^ n) (sym (one-add k)) ∙ mod-pow-add x 1 k

pub low_same : (k x y : ℕ) → ((i : ℕ) → i < k → bit i x ≡ bit i y) → x % 2 ^ k ≡ y % 2 ^ k
low_same zero x y h = omega (arith, mod-lt x (pow_pos 0), mod-lt y (pow_pos 0))
low_same (suc k) x y h =
    low-suc k x
    ∙ ap₂ (λ (a b : ℕ). a * 2 ^ k + b) (h k (omega arith)) (low_same k x y (λ i l. h i (omega arith)))
    ∙ sym (low-suc k y)

-- numbers of n bits with the same bits are equal
pub bits-equal : (n x y : ℕ) → x < 2 ^ n → y < 2 ^ n → ((i : ℕ) → i < n → bit i x ≡ bit i y) → x ≡ y
bits-equal n x y hx hy h = sym (mod-eq_of_lt hx) ∙ low_same n x y h ∙ mod-eq_of_lt hy

-- ---- shifts
pub bit-shr : (i k x : ℕ) → bit i (x / 2 ^ k) ≡ bit (k + i) x
unfolding bit
bit-shr i k x = ap (λ (n : ℕ). n % 2) (shr-shr x k i)

pub bit-shl-low : (i k x : ℕ) → i < k → bit i (x * 2 ^ k) ≡ 0
bit-shl-low i k x h = bit-same i (x * 2 ^ k) 0 (multiple ∙ sym (mod-eq_of_lt (pow_pos (suc i)))) ∙ bit-zero i
  where
    multiple : x * 2 ^ k % 2 ^ suc i ≡ 0
    multiple =
        ap (λ (n : ℕ). x * 2 ^ n % 2 ^ suc i) (omega arith)
        ∙ ap (λ (n : ℕ). x * n % 2 ^ suc i) (pow-add 2 (k - suc i) (suc i))
        ∙ ap (λ (n : ℕ). n % 2 ^ suc i) (sym (mul_assoc x (2 ^ (k - suc i)) (2 ^ suc i)))
        ∙ mul-mod_left (x * 2 ^ (k - suc i)) (2 ^ suc i)

pub bit-shl-high : (i k x : ℕ) → k ≤ i → bit i (x * 2 ^ k) ≡ bit (i - k) x
bit-shl-high i k x h =
    ap (λ (n : ℕ). bit n (x * 2 ^ k)) (omega arith) ∙ sym (bit-shr (i - k) k (x * 2 ^ k)) ∙ ap (bit (i - k)) (shl-shr x k)

-- ---- the complement, at any width
bit-suc : (i x : ℕ) → bit (suc i) x ≡ bit i (x / 2)
bit-suc i x = ap (λ (n : ℕ). bit n x) (sym (one-add i)) ∙ sym (bit-shr i 1 x)

pub bit_not : (n i x : ℕ) → i < n → x < 2 ^ n → bit i (2 ^ n - 1 - x) ≡ 1 - bit i x
unfolding bit
bit_not zero i x h l = absurd (omega arith)
bit_not (suc n) zero x h l = omega (arith, pow-suc 2 n)
bit_not (suc n) (suc i) x h l =
    bit-suc i (2 ^ suc n - 1 - x)
    ∙ ap (bit i) half
    ∙ bit_not n i (x / 2) (omega arith) (omega (arith, pow-suc 2 n))
    ∙ ap (λ (b : ℕ). 1 - b) (sym (bit-suc i x))
  where
    half : (2 ^ suc n - 1 - x) / 2 ≡ 2 ^ n - 1 - x / 2
    half = omega (arith, pow-suc 2 n, l)

pub bit-ones : (n i : ℕ) → i < n → bit i (2 ^ n - 1) ≡ 1
bit-ones n i h =
    ap (bit i) (sym (sub-zero (2 ^ n - 1))) ∙ bit_not n i 0 h (pow_pos n) ∙ ap (λ (b : ℕ). 1 - b) (bit-zero i)

-- ---- copies of a bit
pub bit-copies : (i j mask x : ℕ) → bit i (copies j mask x) ≡ min (bit j x) (bit i mask)
unfolding copies
bit-copies i j mask x = ⊎_elim (λ (z : bit j x ≡ 0). at 0 z ∙ bit-zero i ∙ omega arith) (λ (o : bit j x ≡ 1). at 1 o ∙ omega (arith, bit-lt i mask)) (zero-or-one j x)
  where
    at : (b : ℕ) → bit j x ≡ b → bit i (cond (eqb (bit j x) 1) mask 0) ≡ bit i (cond (eqb b 1) mask 0)
    at b e = ap (λ (n : ℕ). bit i (cond (eqb n 1) mask 0)) e

-- a number with copies of a bit laid over some places
pub bit-filled : (i j mask x z : ℕ) → bit i (bit_or z (copies j mask x)) ≡ max (bit i z) (min (bit j x) (bit i mask))
bit-filled i j mask x z = bit-or i z (copies j mask x) ∙ ap (max (bit i z)) (bit-copies i j mask x)

-- the bit of a place that has two names
pub bit_at : {r : ℕ} (i j x : ℕ) → j ≡ i → r ≡ bit j x → r ≡ bit i x
bit_at i j x e p = p ∙ ap (λ (k : ℕ). bit k x) e

pub copies-lt : (j x : ℕ) {mask n : ℕ} → mask < n → copies j mask x < n
unfolding copies
copies-lt j x h = cond-lt (eqb (bit j x) 1) h (omega arith)
