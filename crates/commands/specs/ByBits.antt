-- The gates by a value's bits alone (02, L7): which words pass, with no float. `by_bits` in proofs/ByBits.antt proves that `blocked` says the same.
use Rattle.std.specs.Prelude.{ℕ, zero, suc, Bool, ◌||◌, leb, eqb}

-- the word of each gate's highest rate: 8000, 8000 and 40
unfoldable pub highest_bits : (port : ℕ) → ℕ
highest_bits zero = 0x45FA_0000
highest_bits (suc zero) = 0x45FA_0000
highest_bits (suc (suc port)) = 0x4220_0000

abbrev pub minus_zero : ℕ
minus_zero = 0x8000_0000

-- the words that pass: minus zero's, and those from 0, which is zero's, to the highest rate's
unfoldable pub passes_by_bits : (port value : ℕ) → Bool
passes_by_bits port value = eqb value minus_zero || leb value (highest_bits port)
