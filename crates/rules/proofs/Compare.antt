-- LTU and EQ: LTU's rule is sound for any test of two words; EQ's is the same, but where a defined difference tells the words apart.
use Rattle.std.proofs.Common.{◌≡◌, ℕ, ◌-◌, ◌^◌, ◌<◌, ◌≤◌, min, max, Bool, true, false, cond, not, ◌||◌, eqb, ◌⊎◌, ◌↔◌, sym, refl, ap, ◌∙◌, ap₂, subst₂, inl, inr, ⊎_elim, arith, ne_eqb, eqb-true}
use borrow.Author.Tests.{eqb-false}
use lib.Bits.{bit_or, bit_xor, differ, and_lt, or_lt, xor_lt}
use Rattle.rules.specs.Word.{bit, inverted, one_if}
use Rattle.rules.specs.Actions.{eq_of}
use Rattle.rules.specs.Shadows.{uifu, pcast, zwiden, apart, eq_v}
use Rattle.rules.specs.Agreement.{Agree, Alike, Sound}
use Rattle.rules.proofs.Bits.{lt-or-ge, cond-lt, bit-zero, bit_high, zero-or-one, bit-and, bit-or, bit-xor, differ_self, differ-none, bits-equal, bit_not}
use Rattle.rules.proofs.Agreement.{alike_self, alike-undefined, alike-defined, alike-wider}

-- where no bit of either is undefined, both are wholly defined
or-clear : {v w : ℕ} → bit_or v w ≡ 0 → v < 2 ^ 32 → w < 2 ^ 32 → (v ≡ 0) × (w ≡ 0)
or-clear {v} {w} e hv hw = (bits-equal 32 v 0 hv (omega arith) (λ i l. omega (arith, clear i, bit-zero i)), bits-equal 32 w 0 hw (omega arith) (λ i l. omega (arith, clear i, bit-zero i)))
  where
    clear : (i : ℕ) → max (bit i v) (bit i w) ≡ 0
    clear i = sym (bit-or i v w) ∙ ap (bit i) e ∙ bit-zero i

pub test-sound : (test : ℕ → ℕ → Bool) → Sound (λ x y. one_if (test x y)) (λ same x v y w. zwiden (pcast 1 (uifu v w)))
unfolding Sound
test-sound test same x v x' y w y' _ a b = alike-wider 32 (omega arith) (go (eqb (uifu v w) 0) refl)
  where
    small : (t : Bool) → one_if t < 2 ^ 1
    small t = cond-lt t (omega arith) (omega arith)

    go : (t : Bool) → eqb (uifu v w) 0 ≡ t → Alike 1 (cond t 0 1) (one_if (test x y)) (one_if (test x' y'))
    go true e =
        let z : (v ≡ 0) × (w ≡ 0) = or-clear (eqb-true (uifu v w) 0 e) a.shadow b.shadow in
        subst₂ (λ (p q : ℕ). Alike 1 0 (one_if (test x y)) (one_if (test p q))) (alike-defined a z.0) (alike-defined b z.1) (alike_self (omega arith) (small (test x y)))
    go false e = alike-undefined 1 (small (test x y)) (small (test x' y'))

-- ---- EQ
-- what `apart` means: it has no bit exactly if the words agree in each bit that is defined on both sides
pub apart_none : (x v y w : ℕ) → x < 2 ^ 32 → v < 2 ^ 32 → y < 2 ^ 32 → w < 2 ^ 32 → (apart x v y w ≡ 0) ↔ Agree (uifu v w) x y
unfolding Agree
apart_none x v y w hx hv hy hw = (agrees, none)
  where
    at : (i : ℕ) → i < 32 → bit i (apart x v y w) ≡ min (differ (bit i x) (bit i y)) (1 - bit i (uifu v w))
    at i l = bit-and i (bit_xor x y) (inverted (uifu v w)) ∙ ap₂ min (bit-xor i x y) (bit_not 32 i (uifu v w) l (or_lt 32 v w hv hw))

    agrees : apart x v y w ≡ 0 → (i : ℕ) → bit i (uifu v w) ≡ 0 → bit i x ≡ bit i y
    agrees e i z =
        ⊎_elim
        (λ (l : i < 32). differ-none (bit i x) (bit i y) (omega (arith, bit-differ l)))
        (λ (l : 32 ≤ i). bit_high 32 i x hx l ∙ sym (bit_high 32 i y hy l))
        (lt-or-ge i 32)
      where
        bit-differ : i < 32 → min (differ (bit i x) (bit i y)) (1 - bit i (uifu v w)) ≡ 0
        bit-differ l = sym (at i l) ∙ ap (bit i) e ∙ bit-zero i

    none : ((i : ℕ) → bit i (uifu v w) ≡ 0 → bit i x ≡ bit i y) → apart x v y w ≡ 0
    none same =
        bits-equal 32 (apart x v y w) 0 (and_lt 32 (bit_xor x y) (inverted (uifu v w)) (xor_lt 32 x y hx hy) (omega arith)) (omega arith)
        (λ i l.
        at i l
        ∙ ⊎_elim
        (λ (z : bit i (uifu v w) ≡ 0). omega (arith, ap (differ (bit i x)) (sym (same i z)), differ_self (bit i x)))
        (λ (o : bit i (uifu v w) ≡ 1). omega arith)
        (zero-or-one i (uifu v w))
        ∙ sym (bit-zero i))

-- words that are equal on one machine agree on the other in each bit that is defined on both sides
equal-agree : {v x x' w y y' : ℕ} → Alike 32 v x x' → Alike 32 w y y' → x' ≡ y' → Agree (uifu v w) x y
unfolding Agree
equal-agree {v} {x} {x'} {w} {y} {y'} a b e i z =
    let u : max (bit i v) (bit i w) ≡ 0 = sym (bit-or i v w) ∙ z in
    a.agree i (omega arith) ∙ ap (bit i) e ∙ sym (b.agree i (omega arith))

pub eq-sound : Sound eq_of eq_v
unfolding Sound
eq-sound same x v x' y w y' both a b = go (eqb (apart x v y w) 0) refl
  where
    unequal : {p q : ℕ} → Alike 32 v x p → Alike 32 w y q → eqb (apart x v y w) 0 ≡ false → eqb p q ≡ false
    unequal {p} {q} c d s = ne_eqb p q (λ e. eqb-false (apart x v y w) 0 s ((apart_none x v y w a.first a.shadow b.first b.shadow).1 (equal-agree c d e)))

    go : (t : Bool) → eqb (apart x v y w) 0 ≡ t → Alike 32 (cond (not t || eqb (uifu v w) 0) 0 1) (eq_of x y) (eq_of x' y')
    go true s = test-sound eqb same x v x' y w y' both a b
    go false s =
        subst₂ (λ (t t' : Bool). Alike 32 0 (one_if t) (one_if t'))
        (sym (unequal (alike_self a.shadow a.first) (alike_self b.shadow b.first) s))
        (sym (unequal a b s))
        (alike_self (omega arith) (omega arith))

-- ---- what EQ's rule comes to
-- the words agree in each bit that is defined on both sides, and some bit of either is undefined
abbrev pub Unsettled : ℕ → ℕ → ℕ → ℕ → Type 0
Unsettled x v y w = Agree (uifu v w) x y × (uifu v w ≡ 0 → ⊥)

-- what the rule comes to: V 1 exactly there, and V 0 elsewhere
pub eq-undefined : (same : Bool) (x v y w : ℕ) → x < 2 ^ 32 → v < 2 ^ 32 → y < 2 ^ 32 → w < 2 ^ 32 → ((eq_v same x v y w ≡ 1) × Unsettled x v y w) ⊎ ((eq_v same x v y w ≡ 0) × (Unsettled x v y w → ⊥))
eq-undefined same x v y w hx hv hy hw = go (eqb (apart x v y w) 0) (eqb (uifu v w) 0) refl refl
  where
    none : (apart x v y w ≡ 0) ↔ Agree (uifu v w) x y
    none = apart_none x v y w hx hv hy hw

    go : (s d : Bool) → eqb (apart x v y w) 0 ≡ s → eqb (uifu v w) 0 ≡ d → ((cond {A = ℕ} (not s || d) 0 1 ≡ 1) × Unsettled x v y w) ⊎ ((cond {A = ℕ} (not s || d) 0 1 ≡ 0) × (Unsettled x v y w → ⊥))
    go true false s d = inl (refl, (none.0 (eqb-true (apart x v y w) 0 s), eqb-false (uifu v w) 0 d))
    go true true s d = inr (refl, λ u. u.1 (eqb-true (uifu v w) 0 d))
    go false _ s d = inr (refl, λ u. eqb-false (apart x v y w) 0 s (none.1 u.0))
