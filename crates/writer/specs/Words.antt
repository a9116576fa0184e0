-- Words as bytes, and bytes as words (01: all numbers are little-endian 32-bit words unless said).
use Rattle.std.specs.Prelude.{ℕ, zero, suc, ◌+◌, ◌*◌, ◌/◌, ◌^◌, ◌<◌, List, [], ◌∷◌, ◌++◌, length, get_or, drop}
use Rattle.rules.specs.Bytes.{byte_of}
use Rattle.image.specs.Words.{nth_word}
use Rattle.image.specs.Rows.{Fields}
use Rattle.image.specs.Encoding.{fields}

-- the four bytes of a word, the lowest first
abbrev pub word_bytes : ℕ → List ℕ
word_bytes w = byte_of 0 w ∷ byte_of 1 w ∷ byte_of 2 w ∷ byte_of 3 w ∷ []

unfoldable pub bytes_of : List ℕ → List ℕ
bytes_of [] = []
bytes_of (w ∷ ws) = word_bytes w ++ bytes_of ws

-- the first so many words of a list of bytes
unfoldable pub first_words : List ℕ → ℕ → List ℕ
first_words s zero = []
first_words s (suc count) = nth_word s 0 ∷ first_words (drop 4 s) count

-- all its whole words
abbrev pub words_of : List ℕ → List ℕ
words_of s = first_words s (length s / 4)

-- what every slice of words holds
abbrev pub Words : List ℕ → Type 0
Words ws = (k : ℕ) → get_or ws k 0 < 2 ^ 32

-- ---- the entries of the lists that are handed in (02, L2: instructions of two words each, regions of three words each)
abbrev pub instruction_words : ℕ
instruction_words = 2

abbrev pub region_words : ℕ
region_words = 3

-- instruction number i: the bytes op, d, a and b are the first word's, the lowest first, and imm is the second word
abbrev pub fields_in : List ℕ → ℕ → Fields
fields_in instructions i = fields (byte 0) (byte 1) (byte 2) (byte 3) (get_or instructions (instruction_words * i + 1) 0)
  where
    byte : ℕ → ℕ
    byte k = byte_of k (get_or instructions (instruction_words * i) 0)
