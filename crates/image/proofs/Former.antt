-- What keeps the limits of document 01 keeps those of Format.antt, and is read as it was.
use Prim.Native.Nat.{ℕ}
use mathlib.Core.Path.{◌≡◌, refl, ap}
use mathlib.Core.Bool.{true}
use mathlib.Core.List.{List}
use native.Mathlib.Omega.{arith}
use lib.ListN.{length}
use lib.Dec.{leb}
use Rattle.image.specs.Format.{header_size, field_m, field_n, field_r, field_d, magic_ok, limits_ok, code_part}
use Rattle.image.specs.Refusals.{Reading, Verdict, too_short, wrong_magic, out_of_limits, header_with, refusal_of, header_of, code_of}
use Rattle.image.specs.Former.{former_limits_ok, KeepsFormer, former_refusal, former_header, former_code}
use Rattle.image.proofs.Faults.{passed}
use Rattle.image.proofs.AcceptedImage.{within-holds, limits-pass}

limits-grow : (m n r d : ℕ) → former_limits_ok m n r d ≡ true → limits_ok m n r d ≡ true
limits-grow m n r d h =
    let w = within-holds _ _ _ _ m n r d h in
    limits-pass {m = m} {n = n} {r = r} {d = d}
    (record {
      some_memory = w.0.0;
      memory = omega (arith, w.0.1);
      some_code = w.1.0;
      code = omega (arith, w.1.1);
      regions = w.2;
      held = omega (arith, w.3);
    })

-- the same number and index
pub read-as-before : (s : List ℕ) → KeepsFormer s → refusal_of s ≡ former_refusal s
unfolding refusal_of former_refusal
read-as-before s h = rw (h, limits-grow (field_m s) (field_n s) (field_r s) (field_d s) h) refl

pub header-as-before : (s : List ℕ) → KeepsFormer s → header_of s ≡ former_header s
unfolding header_of former_header
header-as-before s h = ap (λ (r : Verdict). header_with r s) (read-as-before s h)

pub code-as-before : (s : List ℕ) → KeepsFormer s → code_of s ≡ former_code s
unfolding code_of former_code
code-as-before s h = ap (λ (found : Reading). code_part s found.n) (header-as-before s h)

-- what was accepted keeps the limits
pub accepted-kept : (s : List ℕ) → (former_refusal s).number ≡ 0 → KeepsFormer s
unfolding former_refusal
accepted-kept s h =
    let long = passed (leb header_size (length s)) too_short 0 _ (omega arith) h in
    let begins = passed (magic_ok s) wrong_magic 0 _ (omega arith) long.1 in
    (passed (former_limits_ok (field_m s) (field_n s) (field_r s) (field_d s)) out_of_limits 0 _ (omega arith) begins.1).0
