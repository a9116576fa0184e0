-- The width of a load or store, by its op.
use Prim.Native.Nat.{ℕ, ◌*◌, ◌/◌, ◌%◌, ◌^◌, ◌<◌}
use mathlib.Core.Path.{◌≡◌, refl}
use mathlib.Core.Bool.{Bool}
use lib.Dec.{eqb}
use borrow.Author.Tests.{eqb-true}
use Rattle.image.specs.Encoding.{ops}
use Rattle.image.proofs.Tests.{every-below}
use Rattle.checker.specs.Pieces.{width_number}

-- ---- the widths: the two bits of each op, in the number that WIDTHS of src/fields.rt comes to
numbered : ℕ → Bool
numbered op = eqb (712488098201600 / 2 ^ (2 * op) % 4) (width_number op)

pub width-bits : (op : ℕ) → op < ops → 712488098201600 / 2 ^ (2 * op) % 4 ≡ width_number op
unfolding numbered
width-bits op l = eqb-true _ _ (every-below numbered ops refl op l)
