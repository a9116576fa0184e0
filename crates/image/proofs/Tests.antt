-- Bool tests and what they say.
use Prim.Native.Nat.{ℕ, zero, suc, ◌≤◌, ◌<◌}
use mathlib.Core.Path.{◌≡◌, refl, ap, ◌∙◌, sym}
use mathlib.Core.Logic.{◌⊎◌, inl, inr, ⊎_elim}
use mathlib.Core.Bool.{Bool, true, false, ◌&&◌, ◌||◌}
use mathlib.Core.List.{List}
use native.Mathlib.Nat.{eq-or-lt_of_le}
use native.Mathlib.Omega.{arith}
use lib.ListN.{length, get_or, get_or-eq_default}
use Rattle.rules.proofs.Bits.{lt-or-ge}
use Rattle.image.specs.Tests.{every}

-- true is not false
pub apart : {A : Type 0} → true ≡ false → A
apart h = absurd (let z : ◌≡◌ {A = ℕ} 0 1 = cc in omega arith)

pub both : (a b : Bool) → a && b ≡ true → (a ≡ true) × (b ≡ true)
both true b h = (refl, h)
both false b h = apart (cc)

pub all_three : (a b c : Bool) → a && b && c ≡ true → (a ≡ true) × (b ≡ true) × (c ≡ true)
all_three a b c h =
    let e2 = both (a && b) c h in
    let e1 = both a b e2.0 in
    (e1.0, e1.1, e2.1)

pub all-four : (a b c d : Bool) → a && b && c && d ≡ true → (a ≡ true) × (b ≡ true) × (c ≡ true) × (d ≡ true)
all-four a b c d h =
    let e3 = both (a && b && c) d h in
    let e = all_three a b c e3.0 in
    (e.0, e.1, e.2, e3.1)

pub either : (a b : Bool) → a || b ≡ true → (a ≡ true) ⊎ (b ≡ true)
either true b h = inl refl
either false b h = inr h

-- what every number below n passes, each does
pub every-below : (test : ℕ → Bool) (n : ℕ) → every test n ≡ true → (k : ℕ) → k < n → test k ≡ true
every-below test zero h k l = absurd (omega arith)
every-below test (suc n) h k l =
    let e = both (every test n) (test n) h in
    ⊎_elim (λ (q : k ≡ n). ap test q ∙ e.1) (λ (q : k < n). every-below test n e.0 k q) (eq-or-lt_of_le (let q : k ≤ n = omega arith in q))

-- and the other way round
pub all-every : (test : ℕ → Bool) (n : ℕ) → ((k : ℕ) → k < n → test k ≡ true) → every test n ≡ true
all-every test zero h = refl
all-every test (suc n) h = rw (all-every test n (λ k l. h k (omega arith)), h n (omega arith))

-- of a list: what each element passes, and 0, passes at every place, past the end too
pub every_element : (test : ℕ → Bool) (l : List ℕ) → test 0 ≡ true → every (λ k. test (get_or l k 0)) (length l) ≡ true → (i : ℕ) → test (get_or l i 0) ≡ true
every_element test l z h i =
    ⊎_elim
    (λ (q : i < length l). every-below (λ k. test (get_or l k 0)) (length l) h i q)
    (λ (q : length l ≤ i). ap test (get_or-eq_default l 0 q) ∙ z)
    (lt-or-ge i (length l))

-- one number that fails is enough
pub not-every : (test : ℕ → Bool) (n k : ℕ) → k < n → test k ≡ false → every test n ≡ false
not-every test n k l e = go (every test n) refl
  where
    go : (t : Bool) → every test n ≡ t → every test n ≡ false
    go true h = apart (sym (every-below test n h k l) ∙ e)
    go false h = h
