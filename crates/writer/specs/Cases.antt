-- What the writer answers for small inputs, worked out by hand from documents 01 and 02, L2 and L5: images that are written, each refusal by itself, two
-- at once, the lowest of several indices, and the edges. proofs/Cases.antt says that the definitions give them.
use Rattle.std.specs.Prelude.{ℕ, List, [], ◌∷◌, ◌++◌, take, set, replicate}
use Rattle.image.specs.Refusals.{accepted, refused}
use Rattle.image.specs.Example.{example}
use Rattle.image.specs.AcceptanceCases.{base}
use Rattle.writer.specs.Writing.{Written}

pub record WriteCase : Type 0 where
  pub m : ℕ
  pub instructions : List ℕ
  pub regions : List ℕ
  pub held : List ℕ
  pub out : List ℕ
  pub answer : Written

-- a buffer of so many bytes, all EE
abbrev room : ℕ → List ℕ
room size = replicate size 0xEE

-- this image of so many bytes goes to the front of a buffer, of which so many bytes are left as they were
abbrev writes : (m : ℕ) (instructions regions held image : List ℕ) (size spare : ℕ) → WriteCase
writes m instructions regions held image size spare =
    record { m = m; instructions = instructions; regions = regions; held = held; out = room size ++ room spare; answer = record { refusal = accepted; size = size; out = image ++ room spare } }

-- refused with this number and index: size 0, and a buffer of so many bytes stays
abbrev refuses : (m : ℕ) (instructions regions held : List ℕ) (size number index : ℕ) → WriteCase
refuses m instructions regions held size number index =
    record { m = m; instructions = instructions; regions = regions; held = held; out = room size; answer = record { refusal = refused number index; size = 0; out = room size } }

-- ---- document 01's example: MOV 0,8; LD32 1,0,0; EMIT 1,2; STOP; bytes 8 to 11 undefined
abbrev example_code : List ℕ
example_code = 0xFF000001 ∷ 8 ∷ 0x0000010E ∷ 0 ∷ 0x00010012 ∷ 2 ∷ 0 ∷ 0 ∷ []

abbrev example_regions : List ℕ
example_regions = 8 ∷ 4 ∷ 2 ∷ []

-- ---- `base`, of 95 bytes: M 8; MOV 1,7; EMIT 1,2; STOP; three regions; three bytes of data
abbrev code : List ℕ
code = 0xFF000101 ∷ 7 ∷ 0x00010012 ∷ 2 ∷ 0 ∷ 0 ∷ []

abbrev regions : List ℕ
regions = 1 ∷ 2 ∷ 2 ∷ 4 ∷ 2 ∷ 1 ∷ 6 ∷ 1 ∷ 1 ∷ []

abbrev bytes : List ℕ
bytes = 0xA1 ∷ 0xA2 ∷ 0xB1 ∷ []

-- instruction 1 has op 25; region 1 begins before region 0 ends; a byte of data is missing
abbrev bad_code : List ℕ
bad_code = set code 2 0x00010019

abbrev bad_regions : List ℕ
bad_regions = set regions 3 2

abbrev few_bytes : List ℕ
few_bytes = take 2 bytes

-- ---- the smallest image: M 1 and STOP
abbrev smallest : List ℕ
smallest =
    0x54 ∷ 0x55 ∷ 0x4E ∷ 0x31 ∷ 1 ∷ 0 ∷ 0 ∷ 0 ∷ 1 ∷ 0 ∷ 0 ∷ 0 ∷ 32 ∷ 0 ∷ 0 ∷ 0
    ∷ 0 ∷ 0 ∷ 0 ∷ 0 ∷ 40 ∷ 0 ∷ 0 ∷ 0 ∷ 0 ∷ 0 ∷ 0 ∷ 0 ∷ 40 ∷ 0 ∷ 0 ∷ 0
    ∷ 0 ∷ 0 ∷ 0 ∷ 0 ∷ 0 ∷ 0 ∷ 0 ∷ 0 ∷ []

-- an image of M 4,096 with one instruction, these eight bytes, and no region
abbrev single : List ℕ → List ℕ
single row =
    0x54 ∷ 0x55 ∷ 0x4E ∷ 0x31 ∷ 0 ∷ 0x10 ∷ 0 ∷ 0 ∷ 1 ∷ 0 ∷ 0 ∷ 0 ∷ 32 ∷ 0 ∷ 0 ∷ 0
    ∷ 0 ∷ 0 ∷ 0 ∷ 0 ∷ 40 ∷ 0 ∷ 0 ∷ 0 ∷ 0 ∷ 0 ∷ 0 ∷ 0 ∷ 40 ∷ 0 ∷ 0 ∷ 0
    ∷ [] ++ row

abbrev stop : List ℕ
stop = 0 ∷ 0 ∷ []

-- ---- the cases
-- written: with room to the byte, and with bytes past the image; a region that ends at M; op is the low byte of the first word (MOV 2, 5), a word has its low byte first (MOV 14, 0x12345678);
-- register 15 may be stored (ST32 15, ST16 15 at register 1); JNZ to the last instruction; CLOSE 0 to 4,096, and with M 4,097 and 8,192 to 4,097 and 8,192
abbrev pub written_cases : List WriteCase
written_cases =
    writes 16 example_code example_regions [] example 76 0
    ∷ writes 16 example_code example_regions [] example 76 5
    ∷ writes 8 code regions bytes base 95 1
    ∷ writes 1 stop [] [] smallest 40 0
    ∷ writes 1 stop [] [] smallest 40 2
    ∷ writes 8 code (set regions 7 2) (bytes ++ (0xB2 ∷ [])) (set (set base 84 2) 24 4 ++ (0xB2 ∷ [])) 96 0
    ∷ writes 4096 (0xFF000201 ∷ 5 ∷ []) [] [] (single (1 ∷ 2 ∷ 0 ∷ 0xFF ∷ 5 ∷ 0 ∷ 0 ∷ 0 ∷ [])) 40 0
    ∷ writes 4096 (0xFF000E01 ∷ 0x12345678 ∷ []) [] [] (single (1 ∷ 14 ∷ 0 ∷ 0xFF ∷ 0x78 ∷ 0x56 ∷ 0x34 ∷ 0x12 ∷ [])) 40 0
    ∷ writes 4096 (0x00010F10 ∷ 0xFFFFFFFF ∷ []) [] [] (single (16 ∷ 15 ∷ 1 ∷ 0 ∷ 0xFF ∷ 0xFF ∷ 0xFF ∷ 0xFF ∷ [])) 40 0
    ∷ writes 4096 (0x00010F18 ∷ 6 ∷ []) [] [] (single (24 ∷ 15 ∷ 1 ∷ 0 ∷ 6 ∷ 0 ∷ 0 ∷ 0 ∷ [])) 40 0
    ∷ writes 4096 (0x00010011 ∷ 0 ∷ []) [] [] (single (17 ∷ 0 ∷ 1 ∷ 0 ∷ 0 ∷ 0 ∷ 0 ∷ 0 ∷ [])) 40 0
    ∷ writes 4096 (20 ∷ 0x10000000 ∷ []) [] [] (single (20 ∷ 0 ∷ 0 ∷ 0 ∷ 0 ∷ 0 ∷ 0 ∷ 0x10 ∷ [])) 40 0
    ∷ writes 4097 (20 ∷ 0x10010000 ∷ []) [] [] (set (single (20 ∷ 0 ∷ 0 ∷ 0 ∷ 0 ∷ 0 ∷ 1 ∷ 0x10 ∷ [])) 4 1) 40 0
    ∷ writes 8192 (20 ∷ 0x20000000 ∷ []) [] [] (set (single (20 ∷ 0 ∷ 0 ∷ 0 ∷ 0 ∷ 0 ∷ 0 ∷ 0x20 ∷ [])) 5 0x20) 40 0
    ∷ []

-- 12: one byte short, and nothing at all
abbrev pub room_cases : List WriteCase
room_cases =
    refuses 16 example_code example_regions [] 75 12 0
    ∷ refuses 8 code regions bytes 94 12 0
    ∷ refuses 8 code regions bytes 32 12 0
    ∷ refuses 1 stop [] [] 39 12 0
    ∷ refuses 1 stop [] [] 0 12 0
    ∷ []

-- 3: M, N, R and D out of limits. N 513 and 2,048 are within: 5, since the first instruction has op 25. So are D 4,097 and 8,192: 7, since no region takes the data
abbrev pub limit_cases : List WriteCase
limit_cases =
    refuses 0 stop [] [] 40 3 0
    ∷ refuses 8193 stop [] [] 40 3 0
    ∷ refuses 0xFFFFFFFF stop [] [] 40 3 0
    ∷ refuses 1 [] [] [] 40 3 0
    ∷ refuses 1 (replicate 4098 0) [] [] 40 3 0
    ∷ refuses 1 (25 ∷ replicate 1025 0) [] [] 40 5 0
    ∷ refuses 1 (25 ∷ replicate 4095 0) [] [] 40 5 0
    ∷ refuses 4096 stop (replicate 99 1) [] 40 3 0
    ∷ refuses 8192 stop [] (replicate 8193 0) 40 3 0
    ∷ refuses 4096 stop [] (replicate 4097 0) 40 7 0
    ∷ refuses 8192 stop [] (replicate 8192 0) 40 7 0
    ∷ []

-- 3: a list ends in a part of an entry
abbrev pub part_cases : List WriteCase
part_cases =
    refuses 1 (0 ∷ []) [] [] 40 3 0
    ∷ refuses 1 (0 ∷ 0 ∷ 0 ∷ []) [] [] 60 3 0
    ∷ refuses 16 example_code (8 ∷ []) [] 99 3 0
    ∷ refuses 16 example_code (8 ∷ 4 ∷ []) [] 99 3 0
    ∷ refuses 16 example_code (8 ∷ 4 ∷ 2 ∷ 12 ∷ []) [] 99 3 0
    ∷ refuses 8 (code ++ (25 ∷ [])) regions bytes 99 3 0
    ∷ refuses 16 (0 ∷ 0 ∷ 0 ∷ []) (8 ∷ 4 ∷ []) [] 99 3 0
    ∷ []

-- 5: an op that there is not, two of which the lower counts, STOP with d, register 15 as d (MOV, LDS16), JNZ past the last, OPEN past M (4,096 and 8,192), MOV with a
abbrev pub instruction_cases : List WriteCase
instruction_cases =
    refuses 8 bad_code regions bytes 95 5 1
    ∷ refuses 8 (set bad_code 4 25) regions bytes 95 5 1
    ∷ refuses 8 (set code 4 0x00000100) regions bytes 95 5 2
    ∷ refuses 8 (set code 0 0xFF000F01) regions bytes 95 5 0
    ∷ refuses 8 (set code 2 0x00010F17) regions bytes 95 5 1
    ∷ refuses 8 (set (set code 2 0x00010011) 3 3) regions bytes 95 5 1
    ∷ refuses 4096 (19 ∷ 0x10000001 ∷ []) [] [] 40 5 0
    ∷ refuses 8192 (19 ∷ 0x20000001 ∷ []) [] [] 40 5 0
    ∷ refuses 8 (set code 0 0xFF010101) regions bytes 95 5 0
    ∷ []

-- 6: a region that overlaps, of kind 3, of no bytes, past M, whose end would wrap; two of which the lower counts
abbrev pub region_cases : List WriteCase
region_cases =
    refuses 8 code bad_regions bytes 95 6 1
    ∷ refuses 8 code (set regions 8 3) bytes 95 6 2
    ∷ refuses 8 code (set regions 1 0) bytes 95 6 0
    ∷ refuses 8 code (set regions 7 3) bytes 95 6 2
    ∷ refuses 8 code (set regions 7 0xFFFFFFFA) bytes 95 6 2
    ∷ refuses 8 code (set bad_regions 8 3) bytes 95 6 1
    ∷ []

-- 7: a byte too few, a byte too many, a byte and no region
abbrev pub sum_cases : List WriteCase
sum_cases =
    refuses 8 code regions few_bytes 95 7 0
    ∷ refuses 8 code regions (0 ∷ bytes) 99 7 0
    ∷ refuses 1 stop [] (0 ∷ []) 41 7 0
    ∷ []

-- two and more at once: the lower number
abbrev pub pair_cases : List WriteCase
pair_cases =
    refuses 0 bad_code bad_regions few_bytes 0 3 0
    ∷ refuses 8 bad_code (regions ++ (7 ∷ [])) bytes 0 3 0
    ∷ refuses 8 bad_code bad_regions bytes 95 5 1
    ∷ refuses 8 bad_code regions few_bytes 95 5 1
    ∷ refuses 8 bad_code regions bytes 0 5 1
    ∷ refuses 8 code bad_regions few_bytes 95 6 1
    ∷ refuses 8 code bad_regions bytes 0 6 1
    ∷ refuses 8 code regions few_bytes 0 7 0
    ∷ []
