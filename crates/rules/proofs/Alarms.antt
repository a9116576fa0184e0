-- Each rule's two choices (02, L14): for a bit that it calls undefined they give different values.
use Rattle.std.proofs.Common.{◌≡◌, ℕ, zero, ◌-◌, ◌^◌, ◌<◌, ◌≤◌, min, max, Bool, false, cond, eqb, sym, refl, ap, ◌∙◌, ap₂, ⊎_elim, eq-zero-or-pos, arith, eq-eqb, ne_eqb}
use lib.Bits.{bit_and, bit_or, bit_xor, differ, and_lt, or_lt, xor_lt}
use Rattle.rules.specs.Word.{bit, inverted, one_if, all_ones}
use Rattle.rules.specs.Actions.{mov_of, and_of, or_of, xor_of, shl_of, shr_of, sar_of, eq_of}
use Rattle.rules.specs.Shadows.{uifu, low, high, mov_v, and_v, or_v, xor_v, shift_v, eq_v}
use Rattle.rules.specs.Operations.{action_of, shadow_of}
use Rattle.rules.specs.Agreement.{Agree}
use Rattle.rules.specs.Alarms.{Choice, Varies, ResultVaries, Claimed, and, or, xor, eq, shl, shr, sar, operation_of, Covered}
use Rattle.rules.proofs.Bits.{lt-or-ge, bit-lt, bit-zero, bit_high, zero-or-one, bit-and, bit-or, bit-xor, differ-sum, bits-equal, bit_not}
use Rattle.rules.proofs.Agreement.{alike-below, alike_self, bit-low, alike-low, alike-high, Moves}
use Rattle.rules.proofs.Bitwise.{and-rule}
use Rattle.rules.proofs.Shift.{shl-moves, shr-moves, sar-moves}
use Rattle.rules.proofs.Compare.{Unsettled, eq-undefined}

-- ---- choices
itself : {x v : ℕ} → x < 2 ^ 32 → v < 2 ^ 32 → Choice x v
itself {x} hx hv = record { word = x; alike = alike_self hv hx }

-- every undefined bit 0
least : {x v : ℕ} → x < 2 ^ 32 → v < 2 ^ 32 → Choice x v
least {x} {v} hx hv = record { word = low x v; alike = alike-low hv hx }

-- every undefined bit 1
greatest : {x v : ℕ} → x < 2 ^ 32 → v < 2 ^ 32 → Choice x v
greatest {x} {v} hx hv = record { word = high x v; alike = alike-high hv hx }

-- a choice with every undefined bit flipped
flipped : {x v : ℕ} → Choice x v → Choice x v
unfolding Agree
flipped {x} {v} c =
    record {
      word = bit_xor c.word v;
      alike = record {
        shadow = c.alike.shadow;
        first = c.alike.first;
        second = xor_lt 32 c.word v c.alike.second c.alike.shadow;
        agree = λ i z. omega (arith, c.alike.agree i z, bit-xor i c.word v, differ-sum (bit i c.word) (bit i v));
      };
    }

flipped-bit : {x v : ℕ} (i : ℕ) (c : Choice x v) → bit i v ≡ 1 → bit i (flipped c).word ≡ 1 - bit i c.word
unfolding flipped
flipped-bit {x} {v} i c o = omega (arith, bit-xor i c.word v, differ-sum (bit i c.word) (bit i v), bit-lt i c.word)

flipped-other : {x v : ℕ} (c : Choice x v) → (v ≡ 0 → ⊥) → (flipped c).word ≡ c.word → ⊥
unfolding flipped
flipped-other {x} {v} c n e =
    n (bits-equal 32 v 0 c.alike.shadow (omega arith)
    (λ i l. omega (arith, ap (bit i) (sym e) ∙ bit-xor i c.word v, differ-sum (bit i c.word) (bit i v), bit-lt i v, bit-zero i)))

-- a number of 32 bits has a bit set only below 32
set_below : {x : ℕ} (i : ℕ) → x < 2 ^ 32 → bit i x ≡ 1 → i < 32
set_below {x} i h o = ⊎_elim (λ (l : i < 32). l) (λ (l : 32 ≤ i). absurd (omega (arith, o, bit_high 32 i x h l))) (lt-or-ge i 32)

-- ---- the two choices: the first operand's undefined bits are flipped, the second is held at a choice; or the other way round
module _ (f : ℕ → ℕ → ℕ) (i : ℕ) {x v y w : ℕ} where
  by_first : (c : Choice x v) (d : Choice y w) → (bit i (f c.word d.word) ≡ bit i (f (flipped c).word d.word) → ⊥) → ResultVaries f x v y w i
  by_first c d n = record { one = (c, d); other = (flipped c, d); differ = n }

  exchanged : ResultVaries (λ b a. f a b) y w x v i → ResultVaries f x v y w i
  exchanged t = record { one = (t.one.1, t.one.0); other = (t.other.1, t.other.0); differ = t.differ }

-- ---- AND, OR and XOR: an operand in which the bit is undefined is flipped, the other lets both values of the bit through
-- f, which the operation does to each two bits, lets both values through beside b
abbrev Passes : (ℕ → ℕ → ℕ) → ℕ → Type 0
Passes f b = (a : ℕ) → a < 2 → f a b ≡ f (1 - a) b → ⊥

passed : (op f : ℕ → ℕ → ℕ) → ((i a b : ℕ) → bit i (op a b) ≡ f (bit i a) (bit i b)) → (i : ℕ) {x v y w : ℕ} (c : Choice x v) (d : Choice y w)
    → bit i v ≡ 1 → Passes f (bit i d.word) → ResultVaries op x v y w i
passed op f bits i c d u n =
    by_first op i c d
    (λ s. n (bit i c.word) (bit-lt i c.word)
    (sym (bits i c.word d.word) ∙ s ∙ bits i (flipped c).word d.word ∙ ap (λ (b : ℕ). f b (bit i d.word)) (flipped-bit i c u)))

bitwise-varies : (op f : ℕ → ℕ → ℕ) → ((i a b : ℕ) → bit i (op a b) ≡ f (bit i a) (bit i b)) → (i : ℕ) {x v y w : ℕ} (c : Choice x v) (d : Choice y w)
    → max (bit i v) (bit i w) ≡ 1 → Passes f (bit i d.word) → Passes (λ b a. f a b) (bit i c.word) → ResultVaries op x v y w i
bitwise-varies op f bits i {x} {v} {y} {w} c d o n m =
    ⊎_elim
    (λ (z : bit i v ≡ 0). exchanged op i (passed (λ b a. op a b) (λ b a. f a b) (λ j b a. bits j a b) i d c (omega (arith, o, z)) m))
    (λ (u : bit i v ≡ 1). passed op f bits i c d u n)
    (zero-or-one i v)

-- what AND's rule says of a bit that it calls undefined: it is undefined in one of the operands, and each operand's is 1 or can be
and_parts : (i x v y w : ℕ) → bit i (and_v false x v y w) ≡ 1 → (max (bit i v) (bit i w) ≡ 1) × (bit i (high x v) ≡ 1) × (bit i (high y w) ≡ 1)
and_parts i x v y w o = parts (max (bit i v) (bit i w)) (bit i (high x v)) (bit i (high y w)) (omega (arith, bit-lt i v, bit-lt i w)) (bit-lt i (high x v)) (bit-lt i (high y w)) e
  where
    parts : (p q r : ℕ) → p < 2 → q < 2 → r < 2 → min (min p q) r ≡ 1 → (p ≡ 1) × (q ≡ 1) × (r ≡ 1)
    parts p q r hp hq hr e = (omega arith, omega arith, omega arith)

    e : min (min (max (bit i v) (bit i w)) (bit i (high x v))) (bit i (high y w)) ≡ 1
    e = ap₂ (λ (q r : ℕ). min (min (max (bit i v) (bit i w)) q) r) (bit-or i x v) (bit-or i y w) ∙ sym (and-rule i x v y w false) ∙ o

module _ (i : ℕ) {x v y w : ℕ} (hx : x < 2 ^ 32) (hv : v < 2 ^ 32) (hy : y < 2 ^ 32) (hw : w < 2 ^ 32) where
  and-varies : bit i (and_v false x v y w) ≡ 1 → ResultVaries and_of x v y w i
  unfolding greatest
  and-varies o =
      let t : (max (bit i v) (bit i w) ≡ 1) × (bit i (high x v) ≡ 1) × (bit i (high y w) ≡ 1) = and_parts i x v y w o in
      bitwise-varies and_of min bit-and i (greatest hx hv) (greatest hy hw) t.0 (λ b h s. omega (arith, s, t.2)) (λ b h s. omega (arith, s, t.1))

  or-varies : bit i (or_v false x v y w) ≡ 1 → ResultVaries or_of x v y w i
  unfolding least
  or-varies o =
      let t : (max (bit i v) (bit i w) ≡ 1) × (bit i (high (inverted x) v) ≡ 1) × (bit i (high (inverted y) w) ≡ 1) = and_parts i (inverted x) v (inverted y) w o in
      bitwise-varies or_of max bit-or i (least hx hv) (least hy hw) t.0 (λ b h s. omega (arith, s, low_clear y w hy hw t.2)) (λ b h s. omega (arith, s, low_clear x v hx hv t.1))
    where
      low_clear : (z u : ℕ) → z < 2 ^ 32 → u < 2 ^ 32 → bit i (high (inverted z) u) ≡ 1 → bit i (low z u) ≡ 0
      low_clear z u hz hu e =
          let l : i < 32 = set_below i (or_lt 32 (inverted z) u (omega arith) hu) e in
          omega (arith, e, bit-or i (inverted z) u, bit_not 32 i z l hz, bit-low i z u l hu, bit-lt i z)

  xor-varies : bit i (xor_v false x v y w) ≡ 1 → ResultVaries xor_of x v y w i
  unfolding itself
  xor-varies o =
      bitwise-varies xor_of differ bit-xor i (itself hx hv) (itself hy hw) (sym (bit-or i v w) ∙ o)
      (λ b h s. omega (arith, s, differ-sum b (bit i y), differ-sum (1 - b) (bit i y), bit-lt i y))
      (λ b h s. omega (arith, s, differ-sum (bit i x) b, differ-sum (bit i x) (1 - b), bit-lt i x))

-- ---- a shift by a defined amount: the first operand is flipped, and its bits move as V does
shift-varies : (f : ℕ → ℕ → ℕ) → ((y : ℕ) → Moves 32 (λ x. f x y)) → (i : ℕ) {x v y w : ℕ} → x < 2 ^ 32 → v < 2 ^ 32 → y < 2 ^ 32 → w ≡ 0 → bit i (shift_v f false x v y w) ≡ 1 → ResultVaries f x v y w i
unfolding Moves itself
shift-varies f moves i {x} {v} {y} {w} hx hv hy e o = ⊎_elim moved clear (moves y i)
  where
    here : bit i (f v y) ≡ 1
    here = ap (λ (n : ℕ). bit i (cond (eqb n 0) (f v y) all_ones)) (sym e) ∙ o

    c : Choice x v
    c = itself hx hv

    moved : (j : ℕ) × ((z : ℕ) → z < 2 ^ 32 → bit i (f z y) ≡ bit j z) → ResultVaries f x v y w i
    moved t =
        by_first f i c (itself hy (omega arith))
        (λ s. omega (arith, s, t.1 x hx, t.1 (flipped c).word (flipped c).alike.second, flipped-bit t.0 c (sym (t.1 v hv) ∙ here), bit-lt t.0 x))

    clear : ((z : ℕ) → z < 2 ^ 32 → bit i (f z y) ≡ 0) → ResultVaries f x v y w i
    clear t = absurd (omega (arith, here, t v hv))

-- ---- EQ
-- its two choices: one word for both operands, and then one of them flipped
module _ (i : ℕ) {x v y w : ℕ} (hx : x < 2 ^ 32) (hv : v < 2 ^ 32) (hy : y < 2 ^ 32) (hw : w < 2 ^ 32) where
  -- the word: what is defined in x, and y's bits elsewhere
  common : ℕ
  common = bit_or (low x v) (bit_and y v)

  common-bit : (j : ℕ) → j < 32 → bit j common ≡ max (min (bit j x) (1 - bit j v)) (min (bit j y) (bit j v))
  unfolding common
  common-bit j l = bit-or j (low x v) (bit_and y v) ∙ ap₂ max (bit-low j x v l hv) (bit-and j y v)

  common-lt : common < 2 ^ 32
  unfolding common
  common-lt = or_lt 32 (low x v) (bit_and y v) (and_lt 32 x (inverted v) hx (omega arith)) (and_lt 32 y v hy hv)

  first-common : Choice x v
  first-common = record { word = common; alike = alike-below 32 hv hx common-lt (λ j l z. omega (arith, common-bit j l, bit-lt j x)) }

  second-common : Agree (uifu v w) x y → Choice y w
  unfolding Agree
  second-common agree =
      record {
        word = common;
        alike =
            alike-below 32 hw hy common-lt
            (λ j l z.
            ⊎_elim
            (λ (d : bit j v ≡ 0). omega (arith, common-bit j l, agree j (bit-or j v w ∙ omega arith), bit-lt j x))
            (λ (u : bit j v ≡ 1). omega (arith, common-bit j l, bit-lt j y))
            (zero-or-one j v));
      }

  eq-varies : bit i (eq_v false x v y w) ≡ 1 → ResultVaries eq_of x v y w i
  unfolding first-common second-common
  eq-varies o =
      ⊎_elim
      (λ t. vary t.1 (ap (bit i) (sym t.0) ∙ o))
      (λ t. absurd (omega (arith, bit-zero i, ap (bit i) (sym t.0) ∙ o)))
      (eq-undefined false x v y w hx hv hy hw)
    where
      parted : {a b : ℕ} → bit i 1 ≡ 1 → (a ≡ b → ⊥) → bit i (eq_of common common) ≡ bit i (eq_of a b) → ⊥
      parted {a} {b} u n s =
          omega (arith, u, bit-zero i, ap (λ (t : Bool). bit i (one_if t)) (sym (eq-eqb common common refl)) ∙ s ∙ ap (λ (t : Bool). bit i (one_if t)) (ne_eqb a b n))

      vary : Unsettled x v y w → bit i 1 ≡ 1 → ResultVaries eq_of x v y w i
      vary t u =
          let d : Choice y w = second-common t.0 in
          ⊎_elim
          (λ (z : v ≡ 0). exchanged eq_of i (by_first (λ b a. eq_of a b) i d first-common (parted u (λ e. flipped-other d (λ m. t.1 (ap₂ bit_or z m)) (sym e)))))
          (λ (p : zero < v). by_first eq_of i first-common d (parted u (flipped-other first-common (λ z. omega arith))))
          (eq-zero-or-pos v)

-- ---- MOV: its operand, and the operand flipped
pub mov-varies : (i : ℕ) {y w : ℕ} → y < 2 ^ 32 → w < 2 ^ 32 → bit i (mov_v w) ≡ 1 → Varies (Choice y w) (λ c. mov_of c.word) i
unfolding itself
mov-varies i {y} hy hw o = record { one = itself hy hw; other = flipped (itself hy hw); differ = λ s. omega (arith, s, flipped-bit i (itself hy hw) o, bit-lt i y) }

-- ---- so in every operation of the claim
pub undefined-varies : (o : Claimed) (i : ℕ) {x v y w : ℕ} → x < 2 ^ 32 → v < 2 ^ 32 → y < 2 ^ 32 → w < 2 ^ 32 → Covered o w → bit i (shadow_of (operation_of o) false x v y w) ≡ 1 → ResultVaries (action_of (operation_of o)) x v y w i
unfolding Covered operation_of shadow_of action_of
undefined-varies and i hx hv hy hw k = and-varies i hx hv hy hw
undefined-varies or i hx hv hy hw k = or-varies i hx hv hy hw
undefined-varies xor i hx hv hy hw k = xor-varies i hx hv hy hw
undefined-varies eq i hx hv hy hw k = eq-varies i hx hv hy hw
undefined-varies shl i hx hv hy hw k = shift-varies shl_of shl-moves i hx hv hy k
undefined-varies shr i hx hv hy hw k = shift-varies shr_of shr-moves i hx hv hy k
undefined-varies sar i hx hv hy hw k = shift-varies sar_of sar-moves i hx hv hy k
