-- SHL, SHR and SAR: each moves bits, and so its rule is sound.
use Rattle.std.proofs.Common.{◌≡◌, ℕ, ◌+◌, ◌-◌, ◌*◌, ◌^◌, ◌<◌, ◌≤◌, min, max, Bool, true, false, cond, eqb, refl, ap, ◌∙◌, subst, ap₂, inl, inr, ⊎_elim, lt_of_le_of_lt, arith, eqb-true}
use lib.Pow.{shr_le}
use lib.Bits.{or_lt}
use Rattle.rules.specs.Word.{bit, all_ones, copies}
use Rattle.rules.specs.Actions.{amount_of, shl_of, shr_of, freed, sar_of}
use Rattle.rules.specs.Shadows.{shift_v}
use Rattle.rules.specs.Agreement.{Alike, Sound}
use Rattle.rules.proofs.Bits.{lt-or-ge, bit-lt, bit_high, bit-mod, bit-shr, bit-shl-low, bit-shl-high, bit_not, bit-ones, bit-filled, bit_at, copies-lt}
use Rattle.rules.proofs.Congruence.{wrapped-lt}
use Rattle.rules.proofs.Agreement.{alike-undefined, alike-defined, Moves, alike_moved}

pub shift-sound : (f : ℕ → ℕ → ℕ) → ((y : ℕ) → Moves 32 (λ x. f x y)) → ((x y : ℕ) → x < 2 ^ 32 → f x y < 2 ^ 32) → Sound f (shift_v f)
unfolding Sound
shift-sound f moves range same x v x' y w y' _ a b = go (eqb w 0) refl
  where
    go : (t : Bool) → eqb w 0 ≡ t → Alike 32 (cond t (f v y) all_ones) (f x y) (f x' y')
    go true e =
        subst (λ (n : ℕ). Alike 32 (f v y) (f x y) (f x' n)) (alike-defined b (eqb-true w 0 e))
        (alike_moved 32 (λ z. f z y) (moves y) (λ z h. range z y h) a)
    go false e = alike-undefined 32 (range x y a.first) (range x' y' a.second)

pub shl-moves : (y : ℕ) → Moves 32 (λ x. shl_of x y)
unfolding Moves
shl-moves y i =
    ⊎_elim
    (λ (l : i < 32).
    ⊎_elim
    (λ (m : i < amount_of y). inr (λ x h. bit-mod i 32 (x * 2 ^ amount_of y) l ∙ bit-shl-low i (amount_of y) x m))
    (λ (m : amount_of y ≤ i). inl (i - amount_of y, λ x h. bit-mod i 32 (x * 2 ^ amount_of y) l ∙ bit-shl-high i (amount_of y) x m))
    (lt-or-ge i (amount_of y)))
    (λ (l : 32 ≤ i). inr (λ x h. bit_high 32 i (shl_of x y) (wrapped-lt (x * 2 ^ amount_of y)) l))
    (lt-or-ge i 32)

pub shr-moves : (y : ℕ) → Moves 32 (λ x. shr_of x y)
unfolding Moves
shr-moves y i = inl (amount_of y + i, λ x h. bit-shr i (amount_of y) x)

pub shr_lt : (x y : ℕ) → x < 2 ^ 32 → shr_of x y < 2 ^ 32
shr_lt x y h = lt_of_le_of_lt (shr_le x (amount_of y)) h

pub sar-lt : (x y : ℕ) → x < 2 ^ 32 → sar_of x y < 2 ^ 32
sar-lt x y h = or_lt 32 (shr_of x y) (copies 31 (freed y) x) (shr_lt x y h) (copies-lt 31 x (omega arith))

-- the bit that a right shift brings, and the top bit where none is left
pub bit-sar : (i x y : ℕ) → i < 32 → x < 2 ^ 32 → bit i (sar_of x y) ≡ bit (min (amount_of y + i) 31) x
bit-sar i x y l h =
    bit-filled i 31 (freed y) x (shr_of x y)
    ∙ ap₂ (λ (b m : ℕ). max b (min (bit 31 x) m)) (bit-shr i k x)
    (bit_not 32 i (shr_of all_ones y) l (shr_lt all_ones y (omega arith)) ∙ ap (λ (b : ℕ). 1 - b) (bit-shr i k all_ones))
    ∙ ⊎_elim
    (λ (m : k + i < 32). bit_at (min (k + i) 31) (k + i) x (omega arith) (omega (arith, bit-ones 32 (k + i) m)))
    (λ (m : 32 ≤ k + i). bit_at (min (k + i) 31) 31 x (omega arith) (omega (arith, bit_high 32 (k + i) all_ones (omega arith) m, bit_high 32 (k + i) x h m, bit-lt 31 x)))
    (lt-or-ge (k + i) 32)
  where
    k : ℕ
    k = amount_of y

pub sar-moves : (y : ℕ) → Moves 32 (λ x. sar_of x y)
unfolding Moves
sar-moves y i =
    ⊎_elim
    (λ (l : i < 32). inl (min (amount_of y + i) 31, λ x h. bit-sar i x y l h))
    (λ (l : 32 ≤ i). inr (λ x h. bit_high 32 i (sar_of x y) (sar-lt x y h) l))
    (lt-or-ge i 32)
