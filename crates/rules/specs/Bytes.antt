-- The bytes of a number, and the number of some bytes, over any number of them. Byte 0 is the lowest (01: little-endian).
use Rattle.std.specs.Prelude.{ℕ, zero, suc, ◌*◌, ◌/◌, ◌%◌, ◌^◌, List, length, bit_or, slice_index}

-- byte k of a number
abbrev pub byte_of : ℕ → ℕ → ℕ
byte_of k x = x / 2 ^ (8 * k) % 2 ^ 8

-- a byte at place k
abbrev pub placed : ℕ → ℕ → ℕ
placed k b = b * 2 ^ (8 * k)

-- the number of the n bytes f 0, f 1, .. ; the places above them are 0 (`joined-lt`), so that fewer than four bytes come out zero-widened
unfoldable pub joined : ℕ → (ℕ → ℕ) → ℕ
joined zero f = 0
joined (suc n) f = bit_or (joined n f) (placed n (f n))

-- the number of a list of bytes
abbrev pub join_of : List ℕ → ℕ
join_of bs = joined (length bs) (λ k. slice_index bs k)
