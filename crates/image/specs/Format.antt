-- What a program image holds (01, What a card holds): its fixed numbers, its header, its parts.
use Rattle.std.specs.Prelude.{ℕ, ◌+◌, ◌*◌, Bool, ◌&&◌, List, [], ◌∷◌, length, get_or, take, drop, leb, eqb}
use Rattle.image.specs.Words.{nth_word}

-- the first four bytes
abbrev pub magic : List ℕ
magic = 0x54 ∷ 0x55 ∷ 0x4E ∷ 0x31 ∷ []

-- the bytes of the header, of an instruction, of a region
abbrev pub header_size : ℕ
header_size = 32

abbrev pub instruction_size : ℕ
instruction_size = 8

abbrev pub region_size : ℕ
region_size = 12

-- the most that M, N, R and D may be (02, L5)
abbrev pub most_m : ℕ
most_m = 8192

abbrev pub most_n : ℕ
most_n = 2048

abbrev pub most_r : ℕ
most_r = 32

abbrev pub most_d : ℕ
most_d = 8192

-- how many registers an instruction can name
abbrev pub registers : ℕ
registers = 16

-- register 15, the frame register: an instruction may read it, and may not write it (02, L9)
abbrev pub frame_register : ℕ
frame_register = 15

-- how many output ports an instruction can name
abbrev pub ports : ℕ
ports = 8

-- where regions and data have to begin, and an image to end
abbrev pub regions_at : ℕ → ℕ
regions_at n = header_size + instruction_size * n

abbrev pub data_at : ℕ → ℕ → ℕ
data_at n r = regions_at n + region_size * r

abbrev pub size_of : ℕ → ℕ → ℕ → ℕ
size_of n r d = data_at n r + d

-- the most bytes that an image has
abbrev pub largest : ℕ
largest = size_of most_n most_r most_d

-- the bytes of memory; how many instructions, regions and bytes of data
abbrev pub field_m : List ℕ → ℕ
field_m s = nth_word s 1

abbrev pub field_n : List ℕ → ℕ
field_n s = nth_word s 2

abbrev pub field_r : List ℕ → ℕ
field_r s = nth_word s 4

abbrev pub field_d : List ℕ → ℕ
field_d s = nth_word s 6

-- where the header says that code, regions and data begin
abbrev pub code_offset : List ℕ → ℕ
code_offset s = nth_word s 3

abbrev pub region_offset : List ℕ → ℕ
region_offset s = nth_word s 5

abbrev pub data_offset : List ℕ → ℕ
data_offset s = nth_word s 7

-- ---- what the header has to keep
abbrev pub magic_ok : List ℕ → Bool
magic_ok s =
    eqb (get_or s 0 0) (get_or magic 0 0) && eqb (get_or s 1 0) (get_or magic 1 0) && eqb (get_or s 2 0) (get_or magic 2 0) && eqb (get_or s 3 0) (get_or magic 3 0)

-- M and N are at least 1; and the most that each may be
abbrev pub limits_within : (top_m top_n top_r top_d m n r d : ℕ) → Bool
limits_within top_m top_n top_r top_d m n r d = leb 1 m && leb m top_m && leb 1 n && leb n top_n && leb r top_r && leb d top_d

abbrev pub limits_ok : ℕ → ℕ → ℕ → ℕ → Bool
limits_ok = limits_within most_m most_n most_r most_d

-- the three offsets and the length are as computed
abbrev pub layout_ok : List ℕ → ℕ → ℕ → ℕ → Bool
layout_ok s n r d =
    eqb (code_offset s) header_size && eqb (region_offset s) (regions_at n) && eqb (data_offset s) (data_at n r) && eqb (length s) (size_of n r d)

-- ---- the parts
abbrev pub part_of : List ℕ → ℕ → ℕ → List ℕ
part_of s at size = take size (drop at s)

abbrev pub code_part : List ℕ → ℕ → List ℕ
code_part s n = part_of s header_size (instruction_size * n)

abbrev pub region_part : List ℕ → ℕ → ℕ → List ℕ
region_part s n r = part_of s (regions_at n) (region_size * r)

abbrev pub data_part : List ℕ → ℕ → ℕ → ℕ → List ℕ
data_part s n r d = part_of s (data_at n r) d
