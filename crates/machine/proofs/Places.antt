-- What stands at each place of a list after an entry was set to 0, and after a range was written.
use Prim.Native.Nat.{ℕ, zero, suc, ◌+◌, ◌≤◌, ◌<◌}
use mathlib.Core.Path.{◌≡◌, refl, ◌∙◌}
use mathlib.Core.Logic.{◌⊎◌, inl, inr, ⊎_elim}
use mathlib.Core.List.{List, [], ◌∷◌}
use native.Mathlib.Omega.{arith}
use native.Mathlib.Nat.{eq-or-lt_of_le}
use lib.ListN.{length, get_or, set, length-set}
use lib.Seq.{get_or-set_same, get_or-set_other}
use Rattle.machine.specs.Ranges.{written}

-- an entry that is set to 0 is 0, past the end, too
pub set-zero : (l : List ℕ) (i : ℕ) → get_or (set l i 0) i 0 ≡ 0
set-zero [] i = refl
set-zero (x ∷ l) zero = refl
set-zero (x ∷ l) (suc i) = set-zero l i

pub length-written : (f : ℕ → ℕ) (l : List ℕ) (at n : ℕ) → length (written f l at n) ≡ length l
unfolding written
length-written f l at zero = refl
length-written f l at (suc n) = length-set (written f l at n) (at + n) (f n) ∙ length-written f l at n

pub written-there : (f : ℕ → ℕ) (l : List ℕ) (at n k : ℕ) → k < n → at + n ≤ length l → get_or (written f l at n) (at + k) 0 ≡ f k
unfolding written
written-there f l at zero k h fits = absurd (omega arith)
written-there f l at (suc n) k h fits =
    ⊎_elim
    (λ (e : k ≡ n). rw e (get_or-set_same (written f l at n) (at + n) (f n) 0 (omega (arith, length-written f l at n))))
    (λ (q : k < n). get_or-set_other (written f l at n) (at + n) (at + k) (f n) 0 (λ e. omega arith) ∙ written-there f l at n k q (omega arith))
    (eq-or-lt_of_le (let q : k ≤ n = omega arith in q))

pub written-elsewhere : (f : ℕ → ℕ) (l : List ℕ) (at n i : ℕ) → (i < at) ⊎ (at + n ≤ i) → get_or (written f l at n) i 0 ≡ get_or l i 0
unfolding written
written-elsewhere f l at zero i h = refl
written-elsewhere f l at (suc n) i h =
    get_or-set_other (written f l at n) (at + n) i (f n) 0 (λ e. ⊎_elim (λ (b : i < at). omega arith) (λ (b : at + suc n ≤ i). omega arith) h)
    ∙ written-elsewhere f l at n i (⊎_elim (λ (b : i < at). inl b) (λ (b : at + suc n ≤ i). inr (let q : at + n ≤ i = omega arith in q)) h)
