-- ADD and SUB: where neither operand's bit is undefined, and the sums of the least and of the greatest operands have the same bit, every sum between has it.
use Rattle.std.proofs.Common.{◌≡◌, ℕ, zero, suc, ◌+◌, ◌-◌, ◌*◌, ◌/◌, ◌%◌, ◌^◌, ◌<◌, ◌≤◌, max, Bool, sym, ap, ◌∙◌, subst, ap₂, subst₂, ⊎_elim, add-zero, mul-le-mul_right, mod-lt, div-lt_iff_lt-mul, arith, pow_pos}
use native.Mathlib.Nat.{mul-add-div_right}
use lib.Pow.{split, shr_mono}
use lib.Bits.{bit_or, bit_xor, differ, and_lt, or_lt, xor_lt}
use Rattle.rules.specs.Word.{bit, wrapped, inverted, negated}
use Rattle.rules.specs.Actions.{add_of, sub_of}
use Rattle.rules.specs.Shadows.{uifu, left_of, left_v, low, high, add_v, sub_v}
use Rattle.rules.specs.Agreement.{Agree, Alike, Sound, Within}
use Rattle.rules.proofs.Bits.{bit-lt, zero-or-one, bit-or, bit-xor, differ_self, differ-none, bit-mod, low-suc, bits-equal, bit_not}
use Rattle.rules.proofs.Agreement.{alike-below, alike_self, alike-swapped, alike-between, alike-inverted, bit-low, alike-low, alike-high}
use Rattle.rules.proofs.Congruence.{wrapped-lt}
use Rattle.rules.proofs.Carry.{Carries, add-carries, sub-carries, carries-alike, NoneMore, within_none}

-- ---- the carry into bit i, where c comes in at the bottom
carry : ℕ → ℕ → ℕ → ℕ → ℕ
carry c i x y = (x % 2 ^ i + y % 2 ^ i + c) / 2 ^ i

carry-lt : (c i x y : ℕ) → c < 2 → carry c i x y < 2
unfolding carry
carry-lt c i x y h = (div-lt_iff_lt-mul (pow_pos i)).1 (omega (arith, mod-lt x (pow_pos i), mod-lt y (pow_pos i)))

-- a bit of a sum
bit-sum : (c i x y : ℕ) → bit i (x + y + c) ≡ (bit i x + bit i y + carry c i x y) % 2
unfolding bit carry
bit-sum c i x y =
    ap (λ (n : ℕ). n / 2 ^ i % 2) parts
    ∙ ap (λ (n : ℕ). n % 2) (mul-add-div_right (pow_pos i) (x / 2 ^ i + y / 2 ^ i) (x % 2 ^ i + y % 2 ^ i + c))
    ∙ omega arith
  where
    parts : x + y + c ≡ (x / 2 ^ i + y / 2 ^ i) * 2 ^ i + (x % 2 ^ i + y % 2 ^ i + c)
    parts = omega (arith, split x i, split y i)

-- no bit of x is above that of x'; then no low part is, and no carry
record AtMost (x x' : ℕ) : Type 0 where
  at : (j : ℕ) → j < 32 → bit j x ≤ bit j x'

low-le : (k x x' : ℕ) → k ≤ 32 → AtMost x x' → x % 2 ^ k ≤ x' % 2 ^ k
low-le zero x x' hk h = omega (arith, mod-lt x (pow_pos 0))
low-le (suc k) x x' hk h =
    omega (arith, low-suc k x, low-suc k x', low-le k x x' (omega arith) h, mul-le-mul_right (2 ^ k) (h.at k hk))

carry-le : (c i : ℕ) {x x' y y' : ℕ} → i < 32 → AtMost x x' → AtMost y y' → carry c i x y ≤ carry c i x' y'
unfolding carry
carry-le c i {x} {x'} {y} {y'} l p q = shr_mono i (omega (arith, low-le i x x' (omega arith) p, low-le i y y' (omega arith) q))

-- ---- an operand lies between its least and its greatest word
above_low : {v x x' : ℕ} → Alike 32 v x x' → AtMost (low x v) x'
unfolding Agree
above_low {v} {x} {x'} a =
    record {
      at = λ j l.
          ⊎_elim
          (λ (z : bit j v ≡ 0). omega (arith, bit-low j x v l a.shadow, a.agree j z))
          (λ (o : bit j v ≡ 1). omega (arith, bit-low j x v l a.shadow))
          (zero-or-one j v);
    }

below-high : {v x x' : ℕ} → Alike 32 v x x' → AtMost x' (high x v)
unfolding Agree
below-high {v} {x} {x'} a =
    record {
      at = λ j l.
          ⊎_elim
          (λ (z : bit j v ≡ 0). omega (arith, bit-or j x v, a.agree j z))
          (λ (o : bit j v ≡ 1). omega (arith, bit-or j x v, bit-lt j x'))
          (zero-or-one j v);
    }

-- both agree with it in its defined bits, and so with one another
alike-ends : {v x : ℕ} → v < 2 ^ 32 → x < 2 ^ 32 → Alike 32 v (low x v) (high x v)
alike-ends hv hx = alike-between (alike-low hv hx) (alike-high hv hx)

-- words that agree in the defined bits have the same ends
same_ends : {v x x' : ℕ} → Alike 32 v x x' → (low x v ≡ low x' v) × (high x v ≡ high x' v)
unfolding Agree
same_ends {v} {x} {x'} a = (
  bits-equal 32 (low x v) (low x' v) (and_lt 32 x (inverted v) a.first (omega arith)) (and_lt 32 x' (inverted v) a.second (omega arith))
      (λ i l.
      ⊎_elim
      (λ (z : bit i v ≡ 0). omega (arith, bit-low i x v l a.shadow, bit-low i x' v l a.shadow, a.agree i z))
      (λ (o : bit i v ≡ 1). omega (arith, bit-low i x v l a.shadow, bit-low i x' v l a.shadow))
      (zero-or-one i v)),
  bits-equal 32 (high x v) (high x' v) (or_lt 32 x v a.first a.shadow) (or_lt 32 x' v a.second a.shadow)
      (λ i l.
      ⊎_elim
      (λ (z : bit i v ≡ 0). omega (arith, bit-or i x v, bit-or i x' v, a.agree i z))
      (λ (o : bit i v ≡ 1). omega (arith, bit-or i x v, bit-or i x' v, bit-lt i x, bit-lt i x'))
      (zero-or-one i v)),
)

-- so what the data have in undefined bits never changes V (02, L13)
pub add-sub-by-v : (same : Bool) {v x x' w y y' : ℕ} → Alike 32 v x x' → Alike 32 w y y' → (add_v same x v y w ≡ add_v same x' v y' w) × (sub_v same x v y w ≡ sub_v same x' v y' w)
add-sub-by-v same {v} {x} {x'} {w} {y} {y'} a b =
    let p : (low x v ≡ low x' v) × (high x v ≡ high x' v) = same_ends a in
    let q : (low y w ≡ low y' w) × (high y w ≡ high y' w) = same_ends b in (
      ap₂ (λ (k m : ℕ). bit_or (uifu v w) (bit_xor k m)) (ap₂ add_of p.0 q.0) (ap₂ add_of p.1 q.1),
      ap₂ (λ (k m : ℕ). bit_or (uifu v w) (bit_xor k m)) (ap₂ sub_of p.0 q.1) (ap₂ sub_of p.1 q.0),
    )

-- ---- sums with a carry that comes in: 0 for ADD, 1 for SUB
abbrev sum : ℕ → ℕ → ℕ → ℕ
sum c x y = wrapped (x + y + c)

abbrev sum_v : ℕ → ℕ → ℕ → ℕ → ℕ → ℕ
sum_v c x v y w = bit_or (uifu v w) (bit_xor (sum c (low x v) (low y w)) (sum c (high x v) (high y w)))

-- a carry between two that give a digit the same parity
squeezed : (s s' a m a' : ℕ) → s ≡ s' → a ≤ m → m ≤ a' → a' < 2 → (s + a) % 2 ≡ (s' + a') % 2 → m ≡ a
squeezed s s' a m a' e p q l h = omega arith

-- the operands' bits are the same at both ends; where the sum's bit is, too, so is the carry into it, and every carry between
between : (c i : ℕ) {x p x' y q y' : ℕ} → i < 32 → c < 2 → AtMost x p → AtMost p x' → AtMost y q → AtMost q y' → bit i x ≡ bit i x' → bit i y ≡ bit i y'
    → bit i (sum c x y) ≡ bit i (sum c x' y') → bit i (sum c p q) ≡ bit i (sum c x y)
between c i {x} {p} {x'} {y} {q} {y'} l hc xp px yq qy ex ey e = digit p q ∙ ap₂ (λ (s k : ℕ). (s + k) % 2) operands carries ∙ sym (digit x y)
  where
    digit : (a b : ℕ) → bit i (sum c a b) ≡ (bit i a + bit i b + carry c i a b) % 2
    digit a b = bit-mod i 32 (a + b + c) l ∙ bit-sum c i a b

    operands : bit i p + bit i q ≡ bit i x + bit i y
    operands = omega (arith, ex, ey, xp.at i l, px.at i l, yq.at i l, qy.at i l)

    carries : carry c i p q ≡ carry c i x y
    carries =
        squeezed (bit i x + bit i y) (bit i x' + bit i y') (carry c i x y) (carry c i p q) (carry c i x' y')
        (ap₂ ◌+◌ ex ey) (carry-le c i l xp yq) (carry-le c i l px qy) (carry-lt c i x' y' hc) (sym (digit x y) ∙ e ∙ digit x' y')

rule-lt : {v w a b : ℕ} → v < 2 ^ 32 → w < 2 ^ 32 → a < 2 ^ 32 → b < 2 ^ 32 → bit_or (uifu v w) (bit_xor a b) < 2 ^ 32
rule-lt {v} {w} {a} {b} hv hw ha hb = or_lt 32 (uifu v w) (bit_xor a b) (or_lt 32 v w hv hw) (xor_lt 32 a b ha hb)

-- a bit that such a rule calls defined
sum-defined : (i v w a b : ℕ) → bit i (bit_or (uifu v w) (bit_xor a b)) ≡ 0 → (bit i v ≡ 0) × (bit i w ≡ 0) × (bit i a ≡ bit i b)
sum-defined i v w a b z =
    let e : max (max (bit i v) (bit i w)) (differ (bit i a) (bit i b)) ≡ 0 = (simp (bit-or, bit-xor) at z) in
    (omega arith, omega arith, differ-none (bit i a) (bit i b) (omega arith))

sum-sound : {v x x' w y y' : ℕ} (c : ℕ) → c < 2 → Alike 32 v x x' → Alike 32 w y y' → Alike 32 (sum_v c x v y w) (sum c x y) (sum c x' y')
unfolding Agree
sum-sound {v} {x} {x'} {w} {y} {y'} c hc a b =
    alike-below 32 (rule-lt a.shadow b.shadow (wrapped-lt (low x v + low y w + c)) (wrapped-lt (high x v + high y w + c))) (wrapped-lt (x + y + c)) (wrapped-lt (x' + y' + c))
    (λ i l z. settled i l z (alike_self a.shadow a.first) (alike_self b.shadow b.first) ∙ sym (settled i l z a b))
  where
    settled : (i : ℕ) → i < 32 → bit i (sum_v c x v y w) ≡ 0 → {p q : ℕ} → Alike 32 v x p → Alike 32 w y q → bit i (sum c p q) ≡ bit i (sum c (low x v) (low y w))
    settled i l z {p} {q} s t =
        let d : (bit i v ≡ 0) × (bit i w ≡ 0) × (bit i (sum c (low x v) (low y w)) ≡ bit i (sum c (high x v) (high y w))) =
        sum-defined i v w (sum c (low x v) (low y w)) (sum c (high x v) (high y w)) z in
        between c i l hc (above_low s) (below-high s) (above_low t) (below-high t)
        ((alike-ends a.shadow a.first).agree i d.0) ((alike-ends b.shadow b.first).agree i d.1) d.2

-- ---- ADD
pub add-sound : Sound add_of add_v
unfolding Sound
add-sound same x v x' y w y' _ a b = (simp add-zero at (sum-sound 0 (omega arith) a b))

-- ---- SUB, by the sum with the inverted operand and 1
sub-by-sum : (x y : ℕ) → y < 2 ^ 32 → sub_of x y ≡ sum 1 x (inverted y)
sub-by-sum x y hy = ap wrapped (omega arith)

low-inverted : {y w : ℕ} → y < 2 ^ 32 → w < 2 ^ 32 → inverted (high y w) ≡ low (inverted y) w
low-inverted {y} {w} hy hw =
    bits-equal 32 (inverted (high y w)) (low (inverted y) w) (omega arith) (and_lt 32 (inverted y) (inverted w) (omega arith) (omega arith))
    (λ i l.
    bit_not 32 i (high y w) l (or_lt 32 y w hy hw)
    ∙ omega (arith, bit-or i y w, bit-low i (inverted y) w l hw, bit_not 32 i y l hy, bit-lt i y, bit-lt i w))

inverted-twice : {x : ℕ} → x < 2 ^ 32 → inverted (inverted x) ≡ x
inverted-twice hx = omega arith

high-inverted : {y w : ℕ} → y < 2 ^ 32 → w < 2 ^ 32 → inverted (low y w) ≡ high (inverted y) w
high-inverted {y} {w} hy hw =
    ap inverted (sym (low-inverted {y = inverted y} {w = w} (omega arith) hw ∙ ap (λ (n : ℕ). low n w) (inverted-twice hy)))
    ∙ inverted-twice (or_lt 32 (inverted y) w (omega arith) hw)

sub-rule : (same : Bool) (x v y w : ℕ) → y < 2 ^ 32 → w < 2 ^ 32 → sub_v same x v y w ≡ sum_v 1 x v (inverted y) w
sub-rule same x v y w hy hw =
    ap₂ (λ (a b : ℕ). bit_or (uifu v w) (bit_xor a b))
    (sub-by-sum (low x v) (high y w) (or_lt 32 y w hy hw) ∙ ap (sum 1 (low x v)) (low-inverted hy hw))
    (sub-by-sum (high x v) (low y w) (and_lt 32 y (inverted w) hy (omega arith)) ∙ ap (sum 1 (high x v)) (high-inverted hy hw))

pub sub-sound : Sound sub_of sub_v
unfolding Sound
sub-sound same x v x' y w y' _ a b =
    subst (λ (u : ℕ). Alike 32 u (sub_of x y) (sub_of x' y')) (sym (sub-rule same x v y w b.first b.shadow))
    (subst₂ (λ (z z' : ℕ). Alike 32 (sum_v 1 x v (inverted y) w) z z') (sym (sub-by-sum x y b.first)) (sym (sub-by-sum x' y' b.second))
    (sum-sound 1 (omega arith) a (alike-inverted b)))

-- ---- beside Left
-- an operand's undefined bit, and a bit in which two choices of the undefined bits give different results, are undefined under Left
within-left : (f : ℕ → ℕ → ℕ) → Carries f → ((x y : ℕ) → f x y < 2 ^ 32) → {v a a' w b b' : ℕ} (i : ℕ) → Alike 32 v a a' → Alike 32 w b b'
    → bit i (bit_or (uifu v w) (bit_xor (f a b) (f a' b'))) ≡ 1 → bit i (left_of (uifu v w)) ≡ 1
unfolding Agree
within-left f carries range {v} {a} {a'} {w} {b} {b'} i s t o =
    ⊎_elim
    (λ (z : bit i (left_of (uifu v w)) ≡ 0). absurd (omega (arith, sym o ∙ defined z)))
    (λ (l : bit i (left_of (uifu v w)) ≡ 1). l)
    (zero-or-one i (left_of (uifu v w)))
  where
    same : bit i (left_of (uifu v w)) ≡ 0 → bit i (f a b) ≡ bit i (f a' b')
    same z = (carries-alike f carries range s t).agree i z

    clear : bit i (left_of (uifu v w)) ≡ 0 → bit i (uifu v w) ≡ 0
    clear z = omega (arith, bit-or i (uifu v w) (negated (uifu v w)), z)

    defined : bit i (left_of (uifu v w)) ≡ 0 → bit i (bit_or (uifu v w) (bit_xor (f a b) (f a' b'))) ≡ 0
    defined z =
        bit-or i (uifu v w) (bit_xor (f a b) (f a' b'))
        ∙ ap₂ max (clear z) (bit-xor i (f a b) (f a' b') ∙ ap (λ (n : ℕ). differ n (bit i (f a' b'))) (same z) ∙ differ_self (bit i (f a' b')))

-- a bit that the rule of ADD or of SUB calls undefined is undefined under Left (02, L13)
pub add-sub-within : Within add_v left_v × Within sub_v left_v
unfolding Within
add-sub-within = (
  (λ same x v y w i hx hv hy hw. within-left add_of add-carries (λ a b. wrapped-lt (a + b)) i (alike-ends hv hx) (alike-ends hw hy)),
  (λ same x v y w i hx hv hy hw. within-left sub_of sub-carries (λ a b. wrapped-lt (a + (2 ^ 32 - b))) i (alike-ends hv hx) (alike-swapped (alike-ends hw hy))),
)

-- so the short cut is right (02, L3)
pub add_none : NoneMore add_v
add_none =
    within_none add_v add-sub-within.0 (λ same x v y w hv hw. rule-lt hv hw (wrapped-lt (low x v + low y w)) (wrapped-lt (high x v + high y w)))

pub sub-none : NoneMore sub_v
sub-none =
    within_none sub_v add-sub-within.1
    (λ same x v y w hv hw. rule-lt hv hw (wrapped-lt (low x v + (2 ^ 32 - high y w))) (wrapped-lt (high x v + (2 ^ 32 - low y w))))
