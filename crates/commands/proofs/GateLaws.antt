-- The ends of the gates by their bits: 0, 8000 and 40.
use mathlib.Core.Path.{◌≡◌, refl}
use lib.Ieee.{binary32, of_int, of_bits}
use Rattle.commands.specs.Gates.{float, lowest}

pub lowest-bits : of_bits binary32 0 ≡ lowest
unfolding float of_bits of_int
lowest-bits = refl

pub float-8000 : of_bits binary32 0x45FA_0000 ≡ float 8000
unfolding float of_bits of_int
float-8000 = refl

pub float-40 : of_bits binary32 0x4220_0000 ≡ float 40
unfolding float of_bits of_int
float-40 = refl
