-- When two numbers agree in what a shadow calls defined, when a shadow rule is sound, which is the ground of demand 3, and when it is no coarser than another.
use Rattle.std.specs.Prelude.{◌≡◌, ℕ, ◌^◌, ◌<◌, Bool, true}
use Rattle.rules.specs.Word.{bit}
use Rattle.rules.specs.Shadows.{Rule}

-- each bit with V 0 is equal in x and x'
unfoldable pub Agree : ℕ → ℕ → ℕ → Type 0
Agree v x x' = (i : ℕ) → bit i v ≡ 0 → bit i x ≡ bit i x'

-- V bits and two machines' data, of n bits, that agree in the bits that are defined
pub record Alike (n v x x' : ℕ) : Type 0 where
  pub shadow : v < 2 ^ n
  pub first : x < 2 ^ n
  pub second : x' < 2 ^ n
  pub agree : Agree v x x'

-- A rule is sound for an action: where both operands are alike on two machines, so are the results, under the V word that the rule gives.
-- If a and B are the same register, each machine has one value for both.
unfoldable pub Sound : (ℕ → ℕ → ℕ) → Rule → Type 0
Sound f rule =
    (same : Bool) (x v x' y w y' : ℕ)
    → (same ≡ true → (x ≡ y) × (x' ≡ y'))
    → Alike 32 v x x'
    → Alike 32 w y y'
    → Alike 32 (rule same x v y w) (f x y) (f x' y')

-- a rule is no coarser than another: a bit that it calls undefined is undefined under the other
unfoldable pub Within : Rule → Rule → Type 0
Within rule other =
    (same : Bool) (x v y w i : ℕ)
    → x < 2 ^ 32
    → v < 2 ^ 32
    → y < 2 ^ 32
    → w < 2 ^ 32
    → bit i (rule same x v y w) ≡ 1
    → bit i (other same x v y w) ≡ 1
