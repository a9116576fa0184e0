-- Laws of agreement: what is kept when both machines do the same to numbers that agree, and what a sound rule may call undefined besides.
use Rattle.std.proofs.Common.{◌≡◌, ℕ, ◌-◌, ◌^◌, ◌<◌, ◌≤◌, min, max, Bool, ◌⊎◌, sym, refl, ap, ◌∙◌, ap₂, ⊎_elim, lt_of_lt_of_le, arith, pow_mono}
use lib.Pow.{ones_lt}
use lib.Bits.{bit_or, and_lt, or_lt}
use Rattle.rules.specs.Word.{bit, inverted}
use Rattle.rules.specs.Shadows.{Rule, uifu, low, high}
use Rattle.rules.specs.Agreement.{Agree, Alike, Sound}
use Rattle.rules.proofs.Bits.{lt-or-ge, bit-lt, bit-zero, bit_high, bit-and, bit-or, bit_not, bit-ones, bits-equal}

-- it is enough to look at the n low bits
pub alike-below : (n : ℕ) {v x x' : ℕ} → v < 2 ^ n → x < 2 ^ n → x' < 2 ^ n → ((i : ℕ) → i < n → bit i v ≡ 0 → bit i x ≡ bit i x') → Alike n v x x'
unfolding Agree
alike-below n {v} {x} {x'} hv hx hx' same =
    record {
      shadow = hv;
      first = hx;
      second = hx';
      agree = λ i z. ⊎_elim (λ (l : i < n). same i l z) (λ (l : n ≤ i). bit_high n i x hx l ∙ sym (bit_high n i x' hx' l)) (lt-or-ge i n);
    }

-- a number agrees with itself, whatever its shadow
pub alike_self : {n v x : ℕ} → v < 2 ^ n → x < 2 ^ n → Alike n v x x
alike_self {n} hv hx = alike-below n hv hx hx (λ i l z. refl)

pub alike-swapped : {n v x x' : ℕ} → Alike n v x x' → Alike n v x' x
unfolding Agree
alike-swapped a = record { shadow = a.shadow; first = a.second; second = a.first; agree = λ i z. sym (a.agree i z) }

-- what agrees with the same number agrees
pub alike-between : {n v x y z : ℕ} → Alike n v x y → Alike n v x z → Alike n v y z
unfolding Agree
alike-between a b = record { shadow = a.shadow; first = a.second; second = b.second; agree = λ i z. sym (a.agree i z) ∙ b.agree i z }

-- wholly undefined numbers agree
pub alike-undefined : (n : ℕ) {x x' : ℕ} → x < 2 ^ n → x' < 2 ^ n → Alike n (2 ^ n - 1) x x'
alike-undefined n hx hx' = alike-below n (ones_lt n) hx hx' (λ i l z. absurd (omega (arith, bit-ones n i l)))

-- wholly defined numbers that agree are equal
pub alike-defined : {n v x x' : ℕ} → Alike n v x x' → v ≡ 0 → x ≡ x'
unfolding Agree
alike-defined {n} {v} {x} {x'} a e =
    bits-equal n x x' a.first a.second (λ i l. a.agree i (ap (bit i) e ∙ bit-zero i))

-- inverted words agree too
pub alike-inverted : {v x x' : ℕ} → Alike 32 v x x' → Alike 32 v (inverted x) (inverted x')
unfolding Agree
alike-inverted {v} {x} {x'} a =
    alike-below 32 a.shadow (omega arith) (omega arith)
    (λ i l z. bit_not 32 i x l a.first ∙ ap (λ (b : ℕ). 1 - b) (a.agree i z) ∙ sym (bit_not 32 i x' l a.second))

-- ZWiden: at a greater width
pub alike-wider : {n v x x' : ℕ} (m : ℕ) → n ≤ m → Alike n v x x' → Alike m v x x'
alike-wider m l a =
    record {
      shadow = lt_of_lt_of_le a.shadow (pow_mono l);
      first = lt_of_lt_of_le a.first (pow_mono l);
      second = lt_of_lt_of_le a.second (pow_mono l);
      agree = a.agree;
    }

-- a bit of the least word that an operand can be
pub bit-low : (i x v : ℕ) → i < 32 → v < 2 ^ 32 → bit i (low x v) ≡ min (bit i x) (1 - bit i v)
bit-low i x v l hv = bit-and i x (inverted v) ∙ ap (min (bit i x)) (bit_not 32 i v l hv)

-- it agrees with the operand, and so does the greatest
pub alike-low : {v x : ℕ} → v < 2 ^ 32 → x < 2 ^ 32 → Alike 32 v x (low x v)
alike-low {v} {x} hv hx = alike-below 32 hv hx (and_lt 32 x (inverted v) hx (omega arith)) (λ i l z. omega (arith, bit-low i x v l hv, bit-lt i x))

pub alike-high : {v x : ℕ} → v < 2 ^ 32 → x < 2 ^ 32 → Alike 32 v x (high x v)
alike-high {v} {x} hv hx = alike-below 32 hv hx (or_lt 32 x v hx hv) (λ i l z. omega (arith, bit-or i x v))

-- more bits may be called undefined
alike-more : {n v x x' : ℕ} (u : ℕ) → u < 2 ^ n → Alike n v x x' → Alike n (uifu v u) x x'
unfolding Agree
alike-more {n} {v} u h a =
    record {
      shadow = or_lt n v u a.shadow h;
      first = a.first;
      second = a.second;
      agree = λ i z. a.agree i (omega (arith, sym (bit-or i v u) ∙ z));
    }

-- so a sound rule stays sound if it calls more undefined: soundness does not shut false alarms out. In the operations of 02, L14, `real` does (proofs/Real.antt).
pub sound_more : (f : ℕ → ℕ → ℕ) (rule more : Rule) → ((same : Bool) (x v y w : ℕ) → more same x v y w < 2 ^ 32) → Sound f rule → Sound f (λ same x v y w. uifu (rule same x v y w) (more same x v y w))
unfolding Sound
sound_more f rule more range sound same x v x' y w y' one a b = alike-more (more same x v y w) (range same x v y w) (sound same x v x' y w y' one a b)

-- an operation that works bit by bit is sound under UifU
module _ (op f : ℕ → ℕ → ℕ)
    (bits : (i a b : ℕ) → bit i (op a b) ≡ f (bit i a) (bit i b))
    (range : (n a b : ℕ) → a < 2 ^ n → b < 2 ^ n → op a b < 2 ^ n) where
  pub alike-bitwise : {n v x x' w y y' : ℕ} → Alike n v x x' → Alike n w y y' → Alike n (bit_or v w) (op x y) (op x' y')
  unfolding Agree
  alike-bitwise {n} {v} {x} {x'} {w} {y} {y'} a b =
      record {
        shadow = or_lt n v w a.shadow b.shadow;
        first = range n x y a.first b.first;
        second = range n x' y' a.second b.second;
        agree = λ i z.
            let e : max (bit i v) (bit i w) ≡ 0 = sym (bit-or i v w) ∙ z in
            bits i x y ∙ ap₂ f (a.agree i (omega arith)) (b.agree i (omega arith)) ∙ sym (bits i x' y');
      }

pub alike-or : {n v x x' w y y' : ℕ} → Alike n v x x' → Alike n w y y' → Alike n (bit_or v w) (bit_or x y) (bit_or x' y')
alike-or = alike-bitwise bit_or max bit-or or_lt

-- ---- bits that move
-- bit i of what f makes of a number of n bits is one bit of that number, whichever number it is, or is always clear
unfoldable pub Moves : ℕ → (ℕ → ℕ) → Type 0
Moves n f = (i : ℕ) → ((j : ℕ) × ((x : ℕ) → x < 2 ^ n → bit i (f x) ≡ bit j x)) ⊎ ((x : ℕ) → x < 2 ^ n → bit i (f x) ≡ 0)

pub alike_moved : {n v x x' : ℕ} (m : ℕ) (f : ℕ → ℕ) → Moves n f → ((x : ℕ) → x < 2 ^ n → f x < 2 ^ m) → Alike n v x x' → Alike m (f v) (f x) (f x')
unfolding Agree Moves
alike_moved {n} {v} {x} {x'} m f moves range a =
    record {
      shadow = range v a.shadow;
      first = range x a.first;
      second = range x' a.second;
      agree = λ i z.
          ⊎_elim
          (λ t. t.1 x a.first ∙ a.agree t.0 (sym (t.1 v a.shadow) ∙ z) ∙ sym (t.1 x' a.second))
          (λ t. t x a.first ∙ sym (t x' a.second))
          (moves i);
    }
