-- The regions, as loops that count up meet them.
use Prim.Native.Nat.{ℕ, zero, suc, ◌+◌, ◌≤◌, ◌<◌}
use mathlib.Core.Path.{◌≡◌, sym, ◌∙◌, ap}
use mathlib.Core.Logic.{⊎_elim}
use mathlib.Core.Bool.{Bool}
use mathlib.Core.List.{List}
use native.Mathlib.Numerals.{add-one}
use native.Mathlib.Nat.{eq-or-lt_of_le}
use native.Mathlib.Omega.{arith}
use Rattle.image.specs.Regions.{region_at, end_of, end_before, region_keeps, region_ok, filled_of, filled_sum}
use Rattle.image.specs.declared.Region.{Region}

pub end-next : (regions : List ℕ) (i : ℕ) → end_before regions (i + 1) ≡ end_of (region_at regions i)
unfolding end_before
end-next regions i = rw (add-one i)

pub filled_next : (regions : List ℕ) (i : ℕ) → filled_sum regions (i + 1) ≡ filled_sum regions i + filled_of (region_at regions i)
unfolding filled_sum
filled_next regions i = rw (add-one i)

-- the rules for region number i, of the region and the end before it that a loop has in hand
pub region-kept : (regions : List ℕ) (m i : ℕ) {region : Region} {before : ℕ} {t : Bool} → region ≡ region_at regions i → before ≡ end_before regions i
    → t ≡ region_keeps region before m → region_ok regions m i ≡ t
unfolding region_ok
region-kept regions m i {region} {before} e f h =
    sym (h ∙ ap (λ (x : Region). region_keeps x before m) e ∙ ap (λ (b : ℕ). region_keeps (region_at regions i) b m) f)

-- the data of the first regions is no more than that of all
pub filled-mono : (regions : List ℕ) (i j : ℕ) → i ≤ j → filled_sum regions i ≤ filled_sum regions j
unfolding filled_sum
filled-mono regions i zero h = rw (let e : i ≡ 0 = omega arith in e) (omega arith)
filled-mono regions i (suc j) h = ⊎_elim (λ (e : i ≡ suc j). rw e (omega arith)) (λ (l : i < suc j). omega (arith, filled-mono regions i j (omega arith))) (eq-or-lt_of_le h)
