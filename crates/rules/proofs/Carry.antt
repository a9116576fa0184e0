-- An operation whose low bits depend on the operands' low bits alone is sound under Left: so is MUL. ADD and SUB have finer rules (Sum.antt), which call nothing more undefined.
use Rattle.std.proofs.Common.{◌≡◌, ℕ, suc, ◌+◌, ◌-◌, ◌*◌, ◌%◌, ◌^◌, ◌<◌, ◌≤◌, max, Bool, true, eqb, ◌↔◌, sym, refl, ap, ◌∙◌, subst, ap₂, ⊎_elim, mod-lt, mod-eq_of_lt, pow-suc, arith, pow_pos, eqb-true}
use native.Mathlib.Nat.{add-mod}
use lib.Bits.{or_lt}
use Rattle.rules.specs.Word.{bit, wrapped, negated}
use Rattle.rules.specs.Actions.{add_of, sub_of, mul_of}
use Rattle.rules.specs.Shadows.{Rule, uifu, left_of, left_v, mul_v}
use Rattle.rules.specs.Agreement.{Agree, Alike, Sound, Within}
use Rattle.rules.proofs.Bits.{bit-zero, zero-or-one, bit-or, bit-mod, bit-same, low-suc, low_same, bits-equal}
use Rattle.rules.proofs.Agreement.{alike-below}
use Rattle.rules.proofs.Congruence.{wrapped-lt, add_same, mul-same, rest-same, wrapped-low}

-- the k low bits of the result depend on the operands' k low bits alone
unfoldable pub Carries : (ℕ → ℕ → ℕ) → Type 0
Carries f = (k x x' y y' : ℕ) → k ≤ 32 → y < 2 ^ 32 → y' < 2 ^ 32 → x % 2 ^ k ≡ x' % 2 ^ k → y % 2 ^ k ≡ y' % 2 ^ k → f x y % 2 ^ k ≡ f x' y' % 2 ^ k

pub add-carries : Carries add_of
unfolding Carries
add-carries k x x' y y' hk _ _ p q = wrapped-low k (x + y) hk ∙ add_same (2 ^ k) x x' y y' p q ∙ sym (wrapped-low k (x' + y') hk)

pub sub-carries : Carries sub_of
unfolding Carries
sub-carries k x x' y y' hk hy hy' p q =
    wrapped-low k (x + (2 ^ 32 - y)) hk
    ∙ add_same (2 ^ k) x x' (2 ^ 32 - y) (2 ^ 32 - y') p (rest-same (2 ^ k) (2 ^ 32) y y' (pow_pos k) (omega arith) (omega arith) q)
    ∙ sym (wrapped-low k (x' + (2 ^ 32 - y')) hk)

pub mul-carries : Carries mul_of
unfolding Carries
mul-carries k x x' y y' hk _ _ p q = wrapped-low k (x * y) hk ∙ mul-same (2 ^ k) x x' y y' p q ∙ sym (wrapped-low k (x' * y') hk)

-- where bit i of a number is clear, the number up to there is below 2 ^ i
top-clear : (i x : ℕ) → bit i x ≡ 0 → x % 2 ^ suc i < 2 ^ i
top-clear i x z = subst (λ (n : ℕ). n < 2 ^ i) (sym (low-suc i x ∙ ap (λ (b : ℕ). b * 2 ^ i + x % 2 ^ i) z ∙ omega arith)) (mod-lt x (pow_pos i))

-- what Left means: bit i of it is clear exactly if v has no bit set up to there
pub left-clear : (i v : ℕ) → i < 32 → v < 2 ^ 32 → (bit i (left_of v) ≡ 0) ↔ (v % 2 ^ suc i ≡ 0)
left-clear i v hi hv = (low, clear)
  where
    low : bit i (left_of v) ≡ 0 → v % 2 ^ suc i ≡ 0
    low z =
        let e : max (bit i v) (bit i (negated v)) ≡ 0 = sym (bit-or i v (negated v)) ∙ z in
        let total : wrapped (v + negated v) ≡ 0 = omega arith in
        let sum : (v % 2 ^ suc i + negated v % 2 ^ suc i) % 2 ^ suc i ≡ 0 =
        sym (add-mod v (negated v) (2 ^ suc i)) ∙ sym (wrapped-low (suc i) (v + negated v) hi) ∙ ap (λ (n : ℕ). n % 2 ^ suc i) total ∙ mod-eq_of_lt (pow_pos (suc i)) in
        let fits : v % 2 ^ suc i + negated v % 2 ^ suc i < 2 ^ suc i = omega (arith, top-clear i v (omega arith), top-clear i (negated v) (omega arith), pow-suc 2 i) in
        omega (arith, sym (mod-eq_of_lt fits) ∙ sum)

    clear : v % 2 ^ suc i ≡ 0 → bit i (left_of v) ≡ 0
    clear z =
        let none : 0 % 2 ^ suc i ≡ 0 = mod-eq_of_lt (pow_pos (suc i)) in
        let whole : wrapped (2 ^ 32) % 2 ^ suc i ≡ 2 ^ 32 % 2 ^ suc i = wrapped-low (suc i) (2 ^ 32) hi in
        let rest : (2 ^ 32 - v) % 2 ^ suc i ≡ 2 ^ 32 % 2 ^ suc i = rest-same (2 ^ suc i) (2 ^ 32) v 0 (pow_pos (suc i)) (omega arith) (omega arith) (z ∙ sym none) in
        bit-or i v (negated v)
        ∙ ap₂ max (bit-same i v 0 (z ∙ sym none) ∙ bit-zero i) (bit-same i (negated v) 0 (wrapped-low (suc i) (2 ^ 32 - v) hi ∙ rest ∙ sym whole) ∙ bit-zero i)

pub left_below : (i j v : ℕ) → i < 32 → j < suc i → v < 2 ^ 32 → bit i (left_of v) ≡ 0 → bit j v ≡ 0
left_below i j v hi hj hv z = sym (bit-mod j (suc i) v hj) ∙ ap (bit j) ((left-clear i v hi hv).0 z) ∙ bit-zero j

left_lt : {u : ℕ} → u < 2 ^ 32 → left_of u < 2 ^ 32
left_lt {u} h = or_lt 32 u (negated u) h (wrapped-lt (2 ^ 32 - u))

-- operands that are alike give results that are alike under Left
pub carries-alike : (f : ℕ → ℕ → ℕ) → Carries f → ((x y : ℕ) → f x y < 2 ^ 32) → {v x x' w y y' : ℕ} → Alike 32 v x x' → Alike 32 w y y' → Alike 32 (left_of (uifu v w)) (f x y) (f x' y')
unfolding Carries Agree
carries-alike f carries range {v} {x} {x'} {w} {y} {y'} a b =
    alike-below 32 (left_lt u-lt) (range x y) (range x' y')
    (λ i l z.
    bit-same i (f x y) (f x' y')
    (carries (suc i) x x' y y' l b.first b.second
    (low_same (suc i) x x' (λ j h. a.agree j (omega (arith, both i j l h z))))
    (low_same (suc i) y y' (λ j h. b.agree j (omega (arith, both i j l h z))))))
  where
    u-lt : uifu v w < 2 ^ 32
    u-lt = or_lt 32 v w a.shadow b.shadow

    both : (i j : ℕ) → i < 32 → j < suc i → bit i (left_of (uifu v w)) ≡ 0 → max (bit j v) (bit j w) ≡ 0
    both i j l h z = sym (bit-or j v w) ∙ left_below i j (uifu v w) l h u-lt z

pub carries-sound : (f : ℕ → ℕ → ℕ) → Carries f → ((x y : ℕ) → f x y < 2 ^ 32) → Sound f left_v
unfolding Sound
carries-sound f carries range same x v x' y w y' _ a b = carries-alike f carries range a b

-- ---- the short cut (02, L3)
left-none : left_of 0 ≡ 0
left-none = refl

-- where t, the test for it, finds no bit of either operand undefined, the rule gives V 0
abbrev pub NoneMore : Rule → Type 0
NoneMore rule =
    (same : Bool) (x v y w : ℕ) → x < 2 ^ 32 → v < 2 ^ 32 → y < 2 ^ 32 → w < 2 ^ 32 → (t : Bool) → t ≡ eqb (uifu v w) 0 → t ≡ true → 0 ≡ rule same x v y w

pub within_none : (rule : Rule) → Within rule left_v → ((same : Bool) (x v y w : ℕ) → v < 2 ^ 32 → w < 2 ^ 32 → rule same x v y w < 2 ^ 32) → NoneMore rule
unfolding Within
within_none rule within range same x v y w hx hv hy hw t d e =
    bits-equal 32 0 (rule same x v y w) (omega arith) (range same x v y w hv hw)
    (λ i l.
    ⊎_elim
    (λ (z : bit i (rule same x v y w) ≡ 0). bit-zero i ∙ sym z)
    (λ (o : bit i (rule same x v y w) ≡ 1). absurd (omega (arith, within same x v y w i hx hv hy hw o, clear i)))
    (zero-or-one i (rule same x v y w)))
  where
    clear : (i : ℕ) → bit i (left_of (uifu v w)) ≡ 0
    clear i = ap (λ (u : ℕ). bit i (left_of u)) (eqb-true (uifu v w) 0 (sym d ∙ e)) ∙ ap (bit i) left-none ∙ bit-zero i

pub mul-none : NoneMore mul_v
unfolding Within
mul-none = within_none mul_v (λ _ _ _ _ _ _ _ _ _ _ o. o) (λ same x v y w hv hw. left_lt (or_lt 32 v w hv hw))
