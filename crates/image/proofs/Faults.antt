-- The search for the lowest fault, as a loop that counts up meets it, and what its answer says.
use Prim.Native.Nat.{ℕ, zero, suc, ◌+◌, ◌-◌, ◌≤◌, ◌<◌}
use mathlib.Core.Path.{◌≡◌, refl, sym, ◌∙◌, ap}
use mathlib.Core.Logic.{⊎_elim}
use mathlib.Core.Bool.{Bool, true, false, cond}
use native.Mathlib.Numerals.{add-one}
use native.Mathlib.Nat.{sub-zero, eq-or-lt_of_le}
use native.Mathlib.Omega.{arith}
use lib.Dec.{eqb}
use borrow.Author.Tests.{eqb-true, eqb-false}
use Rattle.image.specs.Refusals.{Verdict, refused, accepted, or_else, first_fault}

-- ---- the loop
pub fault-start : (number : ℕ) (ok : ℕ → Bool) (n : ℕ) → first_fault number ok 0 (n - 0) ≡ first_fault number ok 0 n
fault-start number ok n = ap (first_fault number ok 0) (sub-zero n)

module _ (number : ℕ) (ok : ℕ → Bool) (i n : ℕ) where
  one_left : i < n → n - i ≡ suc (n - (i + 1))
  one_left h = (let e : n - i ≡ n - (i + 1) + 1 = omega arith in e) ∙ add-one _

  pub fault-step : i < n → ok i ≡ true → first_fault number ok i (n - i) ≡ first_fault number ok (i + 1) (n - (i + 1))
  unfolding first_fault
  fault-step h e = rw one_left (simp (e, add-one))

  pub fault-here : i < n → ok i ≡ false → first_fault number ok i (n - i) ≡ refused number i
  unfolding first_fault
  fault-here h e = rw one_left (simp e)

  pub fault-end : n ≤ i → first_fault number ok i (n - i) ≡ accepted
  unfolding first_fault
  fault-end h = rw (let e : n - i ≡ 0 = omega arith in e)

-- ---- the answer
-- a test that was passed, and the rest with it
pub passed : (ok : Bool) (number i : ℕ) (rest : Verdict) → 0 < number → (cond ok rest (refused number i)).number ≡ 0 → (ok ≡ true) × (rest.number ≡ 0)
passed true number i rest p h = (refl, h)
passed false number i rest p h = absurd (let z : number ≡ 0 = h in omega arith)

pub both-passed : (a b : Verdict) → (or_else a b).number ≡ 0 → (a.number ≡ 0) × (b.number ≡ 0)
both-passed a b h = go (eqb a.number 0) refl h
  where
    go : (t : Bool) → eqb a.number 0 ≡ t → (cond t b a).number ≡ 0 → (a.number ≡ 0) × (b.number ≡ 0)
    go true e h = (eqb-true _ _ e, h)
    go false e h = absurd (eqb-false _ _ e h)

-- nothing is refused: no index fails the test
pub no-fault : (number : ℕ) (ok : ℕ → Bool) (i count : ℕ) → 0 < number → (first_fault number ok i count).number ≡ 0
    → (k : ℕ) → i ≤ k → k < i + count → ok k ≡ true
unfolding first_fault
no-fault number ok i zero p h k lo hi = absurd (omega arith)
no-fault number ok i (suc count) p h k lo hi =
    let q = passed (ok i) number i (first_fault number ok (suc i) count) p h in
    ⊎_elim (λ e. ap ok (sym e) ∙ q.0) (λ l. no-fault number ok (suc i) count p q.1 k l (omega arith)) (eq-or-lt_of_le lo)

-- and the other way round
pub all_pass : (number : ℕ) (ok : ℕ → Bool) (i count : ℕ) → ((k : ℕ) → i ≤ k → k < i + count → ok k ≡ true) → first_fault number ok i count ≡ accepted
unfolding first_fault
all_pass number ok i zero h = refl
all_pass number ok i (suc count) h = rw (h i (omega arith) (omega arith)) (all_pass number ok (suc i) count (λ k lo hi. h k (omega arith) (omega arith)))

-- the index at fault is in range, fails the test, and is the lowest that does
pub record Lowest (ok : ℕ → Bool) (i count k : ℕ) : Type 0 where
  pub from : i ≤ k
  pub below : k < i + count
  pub fails : ok k ≡ false
  pub lower : (j : ℕ) → i ≤ j → j < k → ok j ≡ true

pub fault-lowest : (number : ℕ) (ok : ℕ → Bool) (i count : ℕ) → ((first_fault number ok i count).number ≡ 0 → ⊥)
    → Lowest ok i count (first_fault number ok i count).index
unfolding first_fault
fault-lowest number ok i zero h = absurd (h refl)
fault-lowest number ok i (suc count) h = go (ok i) refl h (fault-lowest number ok (suc i) count)
  where
    rest : Verdict
    rest = first_fault number ok (suc i) count

    go : (t : Bool) → ok i ≡ t → ((cond t rest (refused number i)).number ≡ 0 → ⊥) → ((rest.number ≡ 0 → ⊥) → Lowest ok (suc i) count rest.index)
        → Lowest ok i (suc count) (cond t rest (refused number i)).index
    go true e h again =
        let l = again h in
        record {
          from = omega (arith, l.from);
          below = omega (arith, l.below);
          fails = l.fails;
          lower = λ j lo hi. ⊎_elim (λ q. ap ok (sym q) ∙ e) (λ q. l.lower j q hi) (eq-or-lt_of_le lo);
        }
    go false e h again = record { from = omega arith; below = omega arith; fails = e; lower = λ j lo hi. absurd (omega arith) }
