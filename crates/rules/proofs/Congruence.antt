-- Sums, differences and products of numbers that are equal modulo m are equal modulo m.
use Rattle.std.proofs.Common.{◌≡◌, ℕ, zero, suc, ◌+◌, ◌-◌, ◌*◌, ◌/◌, ◌%◌, ◌^◌, ◌<◌, ◌≤◌, sym, refl, ap, ◌∙◌, subst, ap₂, mod-lt, mul_comm, div-add-mod', arith, pow_pos}
use native.Mathlib.Nat.{add-mod, mod-add-mod, add-mul-mod_self_right, mul-add-mod_self_right}
use lib.Pow.{mod-mod-pow}
use Rattle.rules.specs.Word.{wrapped}

pub add_same : (m x x' y y' : ℕ) → x % m ≡ x' % m → y % m ≡ y' % m → (x + y) % m ≡ (x' + y') % m
add_same m x x' y y' p q = add-mod x y m ∙ ap₂ (λ (a b : ℕ). (a + b) % m) p q ∙ sym (add-mod x' y' m)

-- a factor may be replaced by its remainder
mul-rest : (m x y : ℕ) → x * y % m ≡ (x % m) * y % m
mul-rest m x y =
    ap (λ (n : ℕ). n * y % m) (sym (div-add-mod' x m))
    ∙ ap (λ (n : ℕ). n % m) (spread (x / m) (x % m))
    ∙ mul-add-mod_self_right (x / m * y) m ((x % m) * y)
  where
    spread : (q r : ℕ) → (q * m + r) * y ≡ q * y * m + r * y
    spread q r = omega arith

mul-first : (m x x' y : ℕ) → x % m ≡ x' % m → x * y % m ≡ x' * y % m
mul-first m x x' y p = mul-rest m x y ∙ ap (λ (n : ℕ). n * y % m) p ∙ sym (mul-rest m x' y)

pub mul-same : (m x x' y y' : ℕ) → x % m ≡ x' % m → y % m ≡ y' % m → x * y % m ≡ x' * y' % m
mul-same m x x' y y' p q =
    mul-first m x x' y p ∙ ap (λ (n : ℕ). n % m) (mul_comm x' y) ∙ mul-first m y y' x' q ∙ ap (λ (n : ℕ). n % m) (mul_comm y' x')

-- a summand is taken away again
add-cancel : (m a b y : ℕ) → zero < m → (a + y) % m ≡ (b + y) % m → a % m ≡ b % m
add-cancel m a b y pos e = around a ∙ ap (λ (n : ℕ). (n + y * (m - 1)) % m) e ∙ sym (around b)
  where
    grow : (c p : ℕ) → m ≡ suc p → c + y * m ≡ c + y + y * p
    grow c p h = ap (λ (n : ℕ). c + y * n) h ∙ omega arith

    around : (c : ℕ) → c % m ≡ ((c + y) % m + y * (m - 1)) % m
    around c =
        sym (add-mul-mod_self_right c y m) ∙ ap (λ (n : ℕ). n % m) (grow c (m - 1) (omega arith)) ∙ sym (mod-add-mod (c + y) m (y * (m - 1)))

-- what is left of n
pub rest-same : (m n y y' : ℕ) → zero < m → y ≤ n → y' ≤ n → y % m ≡ y' % m → (n - y) % m ≡ (n - y') % m
rest-same m n y y' pos h h' e =
    add-cancel m (n - y) (n - y') y pos (ap (λ (k : ℕ). k % m) (back y h ∙ sym (back y' h')) ∙ add_same m (n - y') (n - y') y' y refl (sym e))
  where
    back : (z : ℕ) → z ≤ n → n - z + z ≡ n
    back z l = omega arith

pub wrapped-lt : (n : ℕ) → wrapped n < 2 ^ 32
wrapped-lt n = mod-lt n (pow_pos 32)

-- the low digits of a wrapped number are the number's own
pub wrapped-low : (k n : ℕ) → k ≤ 32 → wrapped n % 2 ^ k ≡ n % 2 ^ k
wrapped-low k n h = subst (λ (w : ℕ). n % 2 ^ w % 2 ^ k ≡ n % 2 ^ k) e (mod-mod-pow n (32 - k) k)
  where
    e : 32 - k + k ≡ 32
    e = omega arith
