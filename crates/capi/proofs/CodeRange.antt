-- The range that reading hands back is the reader's code, as a part of the image.
use Prim.Native.Nat.{ℕ, zero, suc, ◌*◌}
use mathlib.Core.Path.{◌≡◌, refl}
use mathlib.Core.List.{List}
use mathlib.Core.Bool.{false, cond}
use native.Mathlib.Omega.{arith}
use lib.ListN.{get_or}
use lib.Dec.{eqb}
use borrow.Author.Tests.{ne_eqb}
use Rattle.image.specs.Format.{header_size, instruction_size, part_of}
use Rattle.image.specs.Refusals.{header_of, code_of}
use Rattle.image.proofs.AcceptedImage.{header-empty}
use Rattle.capi.specs.Words.{code_range}

pub code-range : (s : List ℕ) → part_of s (get_or (code_range (header_of s)) 0 0) (get_or (code_range (header_of s)) 1 0) ≡ code_of s
unfolding code_of
code-range s = go (header_of s).refusal.number (header_of s).n (header-empty s)
  where
    go : (number n : ℕ) → (eqb number 0 ≡ false → n ≡ 0) → part_of s (cond (eqb number 0) header_size 0) (instruction_size * n) ≡ part_of s header_size (instruction_size * n)
    go zero n h = refl
    go (suc number) n h = rw (h (ne_eqb (suc number) 0 (λ e. omega arith))) refl
