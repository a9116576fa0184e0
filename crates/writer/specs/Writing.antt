-- What the writer refuses, and what it writes (02, L2), for every input.
use Rattle.std.specs.Prelude.{ℕ, ◌/◌, ◌%◌, Bool, cond, ◌&&◌, List, [], ◌∷◌, ◌++◌, length, drop, leb, eqb}
use Rattle.image.specs.Format.{magic, header_size, regions_at, data_at, size_of, limits_ok}
use Rattle.image.specs.Refusals.{Verdict, accepted, unless, or_else, out_of_limits, content_refusal}
use Rattle.writer.specs.Words.{bytes_of, instruction_words, region_words}

-- the number of the refusal that is the writer's own: the buffer is shorter than the image
abbrev pub no_room : ℕ
no_room = 12

-- how many instructions and regions their lists hold
abbrev pub instruction_count : List ℕ → ℕ
instruction_count instructions = length instructions / instruction_words

abbrev pub region_count : List ℕ → ℕ
region_count regions = length regions / region_words

-- ---- the image
-- the header's words after the first four bytes: M, N and the code's offset, R and the regions' offset, D and the data's offset
abbrev pub header_words : (m n r d : ℕ) → List ℕ
header_words m n r d = m ∷ n ∷ header_size ∷ r ∷ regions_at n ∷ d ∷ data_at n r ∷ []

-- the header, the instructions, the regions, the data, one after the other
unfoldable pub image_of : ℕ → (instructions regions held : List ℕ) → List ℕ
image_of m instructions regions held =
    magic ++ bytes_of (header_words m (instruction_count instructions) (region_count regions) (length held)) ++ bytes_of instructions ++ bytes_of regions ++ held

-- ---- the refusals
-- a list of entries of so many words does not end in a part of one
abbrev pub whole_entries : ℕ → List ℕ → Bool
whole_entries size l = eqb (length l % size) 0

-- else 3: no part of an entry, and M, N, R and D within their limits
unfoldable pub counts_ok : ℕ → (instructions regions : List ℕ) (d : ℕ) → Bool
counts_ok m instructions regions d =
    whole_entries instruction_words instructions && whole_entries region_words regions && limits_ok m (instruction_count instructions) (region_count regions) d

-- 5, 6 and 7, as the reader finds them in the bytes
unfoldable pub entries_refusal : ℕ → (instructions regions : List ℕ) (d : ℕ) → Verdict
entries_refusal m instructions regions d =
    content_refusal (bytes_of instructions) (bytes_of regions) m (instruction_count instructions) (region_count regions) d

-- else 12: a buffer of so many bytes is not shorter than the image
abbrev pub room_ok : (instructions regions : List ℕ) (d room : ℕ) → Bool
room_ok instructions regions d room = leb (size_of (instruction_count instructions) (region_count regions) d) room

-- the first that applies, in number order; of the data and of the buffer how many bytes they have is enough
unfoldable pub write_refusal : ℕ → (instructions regions : List ℕ) (d room : ℕ) → Verdict
write_refusal m instructions regions d room =
    unless (counts_ok m instructions regions d) out_of_limits
    (or_else (entries_refusal m instructions regions d)
    (unless (room_ok instructions regions d room) no_room
    accepted))

-- ---- the answer
-- the refusal, how many bytes the image has, and the buffer
pub record Written : Type 0 where
  pub refusal : Verdict
  pub size : ℕ
  pub out : List ℕ

-- an image was written: it begins the buffer, and the bytes past it stay
abbrev pub written : (image out : List ℕ) → Written
written image out = record { refusal = accepted; size = length image; out = image ++ drop (length image) out }

-- refused: size 0, and the buffer as it was
abbrev pub not_written : Verdict → List ℕ → Written
not_written refusal out = record { refusal = refusal; size = 0; out = out }

unfoldable pub write_answer : ℕ → (instructions regions held out : List ℕ) → Written
write_answer m instructions regions held out =
    cond (eqb (write_refusal m instructions regions (length held) (length out)).number 0)
    (written (image_of m instructions regions held) out)
    (not_written (write_refusal m instructions regions (length held) (length out)) out)
