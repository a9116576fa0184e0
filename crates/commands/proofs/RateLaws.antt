-- What equals itself is a number, and what does not has the one pattern that the logic gives it.
use mathlib.Core.Path.{◌≡◌, ap, sym}
use mathlib.Core.Bool.{true, false, not}
use lib.Dec.{T}
use lib.Ieee.{Float, nan, inf, fin, eq, ne, is_nan, binary32, to_bits}
use lib.Ieee.Compare.{differs_from_itself}
use Rattle.image.proofs.Tests.{apart}

pub is_number : (x : Float) → eq x x ≡ true → T (not (is_nan x))
unfolding eq is_nan
is_number nan h = apart (cc)
is_number (inf s) h = tt
is_number (fin s m e) h = tt

pub no_number : (x : Float) → eq x x ≡ false → 0x7FC0_0000 ≡ to_bits binary32 x
unfolding ne to_bits
no_number x h = sym (ap (to_bits binary32) (differs_from_itself x (rw h tt)))
