-- AND, OR and XOR, bit by bit: their rules are sound.
use Rattle.std.proofs.Common.{◌≡◌, ℕ, zero, suc, ◌^◌, ◌<◌, min, max, Bool, true, false, sym, refl, ap, ◌∙◌, ap₂, subst₂, arith}
use lib.Bits.{bit_and, bit_or, bit_xor, differ, and_lt, or_lt, xor_lt, xor_self}
use Rattle.rules.specs.Word.{bit, inverted}
use Rattle.rules.specs.Actions.{and_of, or_of, xor_of}
use Rattle.rules.specs.Shadows.{uifu, and_v, or_v, xor_v}
use Rattle.rules.specs.Agreement.{Agree, Alike, Sound}
use Rattle.rules.proofs.Bits.{bit-lt, bit-and, bit-or, bit-xor, bits-equal, bit_not}
use Rattle.rules.proofs.Agreement.{alike_self, alike-inverted, alike-bitwise}

-- ---- AND
-- a defined 0 settles the bit, whatever the other operand is
min-left : (x x' y y' : ℕ) → x ≡ 0 → x ≡ x' → min x y ≡ min x' y'
min-left x x' y y' z e = omega arith

min-right : (x x' y y' : ℕ) → y ≡ 0 → y ≡ y' → min x y ≡ min x' y'
min-right x x' y y' z e = omega arith

-- one bit: v and w are 1 where x and y are undefined
and-bit : (v w x x' y y' : ℕ) → (v ≡ 0 → x ≡ x') → (w ≡ 0 → y ≡ y') → min (min (max v w) (max x v)) (max y w) ≡ 0 → min x y ≡ min x' y'
and-bit zero zero x x' y y' p q z = ap₂ min (p refl) (q refl)
and-bit zero (suc w) x x' y y' p q z = min-left x x' y y' (omega arith) (p refl)
and-bit (suc v) zero x x' y y' p q z = min-right x x' y y' (omega arith) (q refl)
and-bit (suc v) (suc w) x x' y y' p q z = absurd (omega arith)

pub and-rule : (i x v y w : ℕ) (same : Bool) → bit i (and_v same x v y w) ≡ min (min (max (bit i v) (bit i w)) (max (bit i x) (bit i v))) (max (bit i y) (bit i w))
and-rule i x v y w same = simp (bit-and, bit-or)

and-rule-lt : (same : Bool) (x v y w : ℕ) → x < 2 ^ 32 → v < 2 ^ 32 → y < 2 ^ 32 → w < 2 ^ 32 → and_v same x v y w < 2 ^ 32
and-rule-lt same x v y w hx hv hy hw =
    and_lt 32 (bit_and (uifu v w) (bit_or x v)) (bit_or y w) (and_lt 32 (uifu v w) (bit_or x v) (or_lt 32 v w hv hw) (or_lt 32 x v hx hv)) (or_lt 32 y w hy hw)

pub and_sound : Sound and_of and_v
unfolding Sound Agree
and_sound same x v x' y w y' _ a b =
    record {
      shadow = and-rule-lt same x v y w a.first a.shadow b.first b.shadow;
      first = and_lt 32 x y a.first b.first;
      second = and_lt 32 x' y' a.second b.second;
      agree = λ i z.
          bit-and i x y
          ∙ and-bit (bit i v) (bit i w) (bit i x) (bit i x') (bit i y) (bit i y') (a.agree i) (b.agree i) (sym (and-rule i x v y w same) ∙ z)
          ∙ sym (bit-and i x' y');
    }

-- ---- OR, by AND
-- an OR is the inverse of the AND of the inverses
or-by-and : (x y : ℕ) → x < 2 ^ 32 → y < 2 ^ 32 → inverted (and_of (inverted x) (inverted y)) ≡ or_of x y
or-by-and x y hx hy =
    bits-equal 32 (inverted (and_of (inverted x) (inverted y))) (or_of x y) (omega arith) (or_lt 32 x y hx hy)
    (λ i l. bit_not 32 i (and_of (inverted x) (inverted y)) l (and_lt 32 (inverted x) (inverted y) (omega arith) (omega arith))
    ∙ simp (bit-and, bit-or, bit_not 32 i x l hx, bit_not 32 i y l hy) (omega (arith, bit-lt i x, bit-lt i y)))

pub or_sound : Sound or_of or_v
unfolding Sound
or_sound same x v x' y w y' one a b =
    subst₂ (λ (z z' : ℕ). Alike 32 (or_v same x v y w) z z') (or-by-and x y a.first b.first) (or-by-and x' y' a.second b.second)
    (alike-inverted
    (and_sound same (inverted x) v (inverted x') (inverted y) w (inverted y') (λ e. (ap inverted (one e).0, ap inverted (one e).1)) (alike-inverted a) (alike-inverted b)))

-- ---- XOR
pub xor_sound : Sound xor_of xor_v
unfolding Sound Agree
xor_sound true x v x' y w y' one a b =
    subst₂ (λ (z z' : ℕ). Alike 32 0 z z') (sym (cleared x y (one refl).0)) (sym (cleared x' y' (one refl).1)) (alike_self (omega arith) (omega arith))
  where
    cleared : (p q : ℕ) → p ≡ q → bit_xor p q ≡ 0
    cleared p q e = ap (bit_xor p) (sym e) ∙ xor_self p
xor_sound false x v x' y w y' _ a b = alike-bitwise bit_xor differ bit-xor xor_lt a b
