-- Bytes of a number and the number of some bytes: each undoes the other, and both keep the agreement, over any number of bytes; and so does
-- widening by their sign.
use Rattle.std.proofs.Common.{◌≡◌, ℕ, zero, suc, ◌+◌, ◌-◌, ◌*◌, ◌/◌, ◌%◌, ◌^◌, ◌<◌, ◌≤◌, min, max, sym, ap, ◌∙◌, subst, inl, inr, ⊎_elim, lt_of_lt_of_le, mod-lt, mod-eq_of_lt, arith, pow_pos, pow_mono, shl_lt, shl_exact}
use native.Mathlib.Nat.{div-eq_of_lt}
use lib.Pow.{ones_lt, high, low, field, mod-mod-pow, mod-pow-add}
use lib.Bits.{bit_or, or_lt, or_shifted_r, or_zero_r}
use Rattle.rules.specs.Word.{bit, copies}
use Rattle.rules.specs.Shadows.{above, swiden}
use Rattle.rules.specs.Bytes.{byte_of, placed, joined}
use Rattle.rules.specs.Agreement.{Alike}
use Rattle.rules.proofs.Bits.{lt-or-ge, bit-lt, bit-mod, bit_high, bit-shr, bit-shl-low, bit-shl-high, bit_not, bit-ones, bit-filled, bit_at, copies-lt}
use Rattle.rules.proofs.Agreement.{alike_self, alike-wider, alike-or, Moves, alike_moved}

-- eight bits more
eight-more : (n : ℕ) → 8 + 8 * n ≡ 8 * suc n
eight-more n = omega arith

byte-lt : (k x : ℕ) → byte_of k x < 2 ^ 8
byte-lt k x = mod-lt (x / 2 ^ (8 * k)) (pow_pos 8)

placed-lt : (k b : ℕ) → b < 2 ^ 8 → placed k b < 2 ^ (8 * suc k)
placed-lt k b h = subst (λ (n : ℕ). placed k b < 2 ^ n) (eight-more k) (shl_lt 8 (8 * k) h)

-- a number of n bytes has none from n on
pub byte-none : (n k x : ℕ) → x < 2 ^ (8 * n) → n ≤ k → byte_of k x ≡ 0
byte-none n k x h l = ap (λ (a : ℕ). a % 2 ^ 8) (div-eq_of_lt (lt_of_lt_of_le h (pow_mono (omega arith))))

-- a byte that stands in a word is not cut
pub placed-word : (k b : ℕ) → k < 4 → b < 2 ^ 8 → placed k b % 2 ^ 32 ≡ placed k b
placed-word k b l h = shl_exact 8 (8 * k) 32 h (omega arith)

-- the highest byte stands above the others
joined-suc : (n : ℕ) (f : ℕ → ℕ) → joined n f < 2 ^ (8 * n) → joined (suc n) f ≡ f n * 2 ^ (8 * n) + joined n f
unfolding joined
joined-suc n f h = or_shifted_r (f n) (8 * n) (joined n f) h

-- n bytes make a number of 8 n bits: the places above are clear
pub joined-lt : (n : ℕ) (f : ℕ → ℕ) → ((k : ℕ) → k < n → f k < 2 ^ 8) → joined n f < 2 ^ (8 * n)
unfolding joined
joined-lt zero f h = omega arith
joined-lt (suc n) f h =
    or_lt (8 * suc n) (joined n f) (placed n (f n)) (lt_of_lt_of_le (joined-lt n f (λ k l. h k (omega arith))) (pow_mono (omega arith))) (placed-lt n (f n) (h n (omega arith)))

-- four bytes, by what each is worth
pub joined-four : (f : ℕ → ℕ) → f 0 < 2 ^ 8 → f 1 < 2 ^ 8 → f 2 < 2 ^ 8 → f 0 + f 1 * 2 ^ 8 + f 2 * 2 ^ 16 + f 3 * 2 ^ 24 ≡ joined 4 f
unfolding joined
joined-four f h0 h1 h2 = omega (arith, more 3 (omega arith), more 2 (omega arith), more 1 (omega arith), more 0 (omega arith))
  where
    byte : (k : ℕ) → k < 3 → f k < 2 ^ 8
    byte zero l = h0
    byte (suc zero) l = h1
    byte (suc (suc zero)) l = h2
    byte (suc (suc (suc k))) l = absurd (omega arith)

    more : (n : ℕ) → n < 4 → joined (suc n) f ≡ f n * 2 ^ (8 * n) + joined n f
    more n l = joined-suc n f (joined-lt n f (λ k m. byte k (omega arith)))

-- ---- SWiden
ones-word : (n : ℕ) → n ≤ 4 → 2 ^ (8 * n) - 1 < 2 ^ 32
ones-word n few = lt_of_lt_of_le (ones_lt (8 * n)) (pow_mono {j = 32} (omega arith))

swiden-lt : (n x : ℕ) → n ≤ 4 → x < 2 ^ (8 * n) → swiden n x < 2 ^ 32
swiden-lt n x few h = or_lt 32 x _ (lt_of_lt_of_le h (pow_mono {j = 32} (omega arith))) (copies-lt _ x (omega arith))

-- four bytes and more leave no new places
pub swiden-whole : (n x : ℕ) → 4 ≤ n → x ≡ swiden n x
swiden-whole n x l = sym (ap (bit_or x) none ∙ or_zero_r x)
  where
    none : copies (8 * n - 1) (above n) x ≡ 0
    none = omega (arith, copies-lt (8 * n - 1) x {mask = above n} {n = 1} (omega (arith, pow_mono {i = 32} {j = 8 * n} (omega arith))))

-- ---- each undoes the other
pub joined_bytes : (n x : ℕ) → joined n (λ k. byte_of k x) ≡ x % 2 ^ (8 * n)
unfolding joined
joined_bytes zero x = omega (arith, mod-lt x (pow_pos 0))
joined_bytes (suc n) x =
    joined-suc n (λ k. byte_of k x) (joined-lt n (λ k. byte_of k x) (λ k l. byte-lt k x))
    ∙ ap (λ (r : ℕ). byte_of n x * 2 ^ (8 * n) + r) (joined_bytes n x)
    ∙ sym (mod-pow-add x 8 (8 * n))
    ∙ ap (λ (m : ℕ). x % 2 ^ m) (eight-more n)

-- a byte below number n is one of the 8 n low bits
byte_low : (n k x : ℕ) → k < n → byte_of k (x % 2 ^ (8 * n)) ≡ byte_of k x
byte_low n k x h =
    subst (λ (m : ℕ). x % 2 ^ m / 2 ^ (8 * k) % 2 ^ 8 ≡ x / 2 ^ (8 * k) % 2 ^ 8) e
    (ap (λ (a : ℕ). a % 2 ^ 8) (field x (8 * n - (8 * k + 8) + 8) (8 * k)) ∙ mod-mod-pow (x / 2 ^ (8 * k)) (8 * n - (8 * k + 8)) 8)
  where
    e : 8 * n - (8 * k + 8) + 8 + 8 * k ≡ 8 * n
    e = omega arith

pub byte-joined : (n k : ℕ) (f : ℕ → ℕ) → ((j : ℕ) → j < n → f j < 2 ^ 8) → k < n → byte_of k (joined n f) ≡ f k
byte-joined zero k f h l = absurd (omega arith)
byte-joined (suc n) k f h l = ⊎_elim (below (byte-joined n k f (λ j i. h j (omega arith)))) top (lt-or-ge k n)
  where
    fits : joined n f < 2 ^ (8 * n)
    fits = joined-lt n f (λ j m. h j (omega arith))

    below : (k < n → byte_of k (joined n f) ≡ f k) → k < n → byte_of k (joined (suc n) f) ≡ f k
    below again m =
        sym (byte_low n k (joined (suc n) f) m)
        ∙ ap (byte_of k) (ap (λ (a : ℕ). a % 2 ^ (8 * n)) (joined-suc n f fits) ∙ low (f n) (8 * n) fits)
        ∙ again m

    top : n ≤ k → byte_of k (joined (suc n) f) ≡ f k
    top m =
        subst (λ (j : ℕ). byte_of j (joined (suc n) f) ≡ f j) (omega arith)
        (ap (λ (a : ℕ). a % 2 ^ 8) (ap (λ (a : ℕ). a / 2 ^ (8 * n)) (joined-suc n f fits) ∙ high (f n) (8 * n) fits) ∙ mod-eq_of_lt (h n (omega arith)))

-- ---- agreement
byte-moves : (n k : ℕ) → Moves n (byte_of k)
unfolding Moves
byte-moves n k i =
    ⊎_elim
    (λ (l : i < 8). inl (8 * k + i, λ x h. bit-mod i 8 (x / 2 ^ (8 * k)) l ∙ bit-shr i (8 * k) x))
    (λ (l : 8 ≤ i). inr (λ x h. bit_high 8 i (byte_of k x) (byte-lt k x) l))
    (lt-or-ge i 8)

placed_moves : (n k : ℕ) → Moves n (placed k)
unfolding Moves
placed_moves n k i =
    ⊎_elim
    (λ (l : i < 8 * k). inr (λ x h. bit-shl-low i (8 * k) x l))
    (λ (l : 8 * k ≤ i). inl (i - 8 * k, λ x h. bit-shl-high i (8 * k) x l))
    (lt-or-ge i (8 * k))

-- a bit of n bytes with their sign: its own, or above them their top one
bit-swiden : (n i x : ℕ) → n ≤ 4 → i < 32 → x < 2 ^ (8 * n) → bit i (swiden n x) ≡ bit (min i (8 * n - 1)) x
bit-swiden n i x few l h =
    bit-filled i (8 * n - 1) (above n) x x
    ∙ ap (λ (m : ℕ). max (bit i x) (min (bit (8 * n - 1) x) m)) (bit_not 32 i (2 ^ (8 * n) - 1) l (ones-word n few))
    ∙ ⊎_elim
    (λ (m : i < 8 * n). bit_at (min i (8 * n - 1)) i x (omega arith) (omega (arith, bit-ones (8 * n) i m)))
    (λ (m : 8 * n ≤ i). bit_at (min i (8 * n - 1)) (8 * n - 1) x (omega arith) (omega (arith, bit_high (8 * n) i (2 ^ (8 * n) - 1) (ones_lt (8 * n)) m, bit_high (8 * n) i x h m, bit-lt (8 * n - 1) x)))
    (lt-or-ge i (8 * n))

swiden-moves : (n : ℕ) → n ≤ 4 → Moves (8 * n) (swiden n)
unfolding Moves
swiden-moves n few i =
    ⊎_elim
    (λ (l : i < 32). inl (min i (8 * n - 1), λ x h. bit-swiden n i x few l h))
    (λ (l : 32 ≤ i). inr (λ x h. bit_high 32 i (swiden n x) (swiden-lt n x few h) l))
    (lt-or-ge i 32)

-- a store: byte k of numbers that agree
pub alike-byte : {n v x x' : ℕ} (k : ℕ) → Alike n v x x' → Alike 8 (byte_of k v) (byte_of k x) (byte_of k x')
alike-byte {n} k a = alike_moved 8 (byte_of k) (byte-moves n k) (λ x h. byte-lt k x) a

-- a signed load: n bytes with their sign
pub alike-swiden : {v x x' : ℕ} (n : ℕ) → n ≤ 4 → Alike (8 * n) v x x' → Alike 32 (swiden n v) (swiden n x) (swiden n x')
alike-swiden n few a = alike_moved 32 (swiden n) (swiden-moves n few) (λ x h. swiden-lt n x few h) a

-- a load: the number of n bytes that agree
pub alike-joined : (n : ℕ) (v x x' : ℕ → ℕ) → ((k : ℕ) → k < n → Alike 8 (v k) (x k) (x' k)) → Alike (8 * n) (joined n v) (joined n x) (joined n x')
unfolding joined
alike-joined zero v x x' h = alike_self (omega arith) (omega arith)
alike-joined (suc n) v x x' h =
    alike-or (alike-wider (8 * suc n) (omega arith) (alike-joined n v x x' (λ k l. h k (omega arith))))
    (alike_moved (8 * suc n) (placed n) (placed_moves 8 n) (placed-lt n) (h n (omega arith)))
