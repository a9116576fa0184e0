-- The words of a list of bytes (01: all numbers are little-endian 32-bit words unless said).
use Rattle.std.specs.Prelude.{ℕ, ◌+◌, ◌*◌, ◌^◌, ◌<◌, List, get_or}
use Rattle.rules.specs.Bytes.{joined}

-- word number k: the four bytes from 4 k on
unfoldable pub nth_word : List ℕ → ℕ → ℕ
nth_word s k = joined 4 (λ j. get_or s (4 * k + j) 0)

-- what every slice of bytes holds
abbrev pub Bytes : List ℕ → Type 0
Bytes s = (k : ℕ) → get_or s k 0 < 2 ^ 8
