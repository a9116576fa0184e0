-- Words of 32 bits as natural numbers; `bit_and`, `bit_or` and `bit_xor` are the library's, digit by digit.
use Rattle.std.specs.Prelude.{ℕ, ◌-◌, ◌/◌, ◌%◌, ◌^◌, Bool, cond, ◌==◌}

-- bit i of a number, 0 or 1; bit 0 is the lowest
unfoldable pub bit : ℕ → ℕ → ℕ
bit i x = x / 2 ^ i % 2

-- a number modulo 4,294,967,296
abbrev pub wrapped : ℕ → ℕ
wrapped n = n % 2 ^ 32

abbrev pub all_ones : ℕ
all_ones = 2 ^ 32 - 1

-- each bit of a word flipped
abbrev pub inverted : ℕ → ℕ
inverted x = all_ones - x

-- the wrapped negation: a word and its negation add up to 0
abbrev pub negated : ℕ → ℕ
negated v = wrapped (2 ^ 32 - v)

-- the answer of a test as a word
abbrev pub one_if : Bool → ℕ
one_if t = cond t 1 0

-- bit j of x laid over every place of the mask
unfoldable pub copies : ℕ → ℕ → ℕ → ℕ
copies j mask x = cond (bit j x == 1) mask 0
