-- Which small images are accepted, and with which refusal the others are not, worked out by hand from document 01 (When the bench says
-- no) and 02, L1, L5 and L9: each number by itself, two at once, the lowest of several indices, and the edges; and register 15. proofs/AcceptanceCases.antt
-- says that the definitions give them.
use Rattle.std.specs.Prelude.{ℕ, ◌+◌, List, [], ◌∷◌, ◌++◌, map, take, set}
use Rattle.image.specs.Refusals.{Verdict, refused}

-- an image that is accepted: M 8; three instructions, three regions, three bytes of data; 95 bytes
abbrev pub base : List ℕ
base =
    -- 0: the first four bytes, M, N, the code's offset
    0x54 ∷ 0x55 ∷ 0x4E ∷ 0x31 ∷ 8 ∷ 0 ∷ 0 ∷ 0 ∷ 3 ∷ 0 ∷ 0 ∷ 0 ∷ 32 ∷ 0 ∷ 0 ∷ 0
    -- 16: R, the regions' offset, D, the data's offset
    ∷ 3 ∷ 0 ∷ 0 ∷ 0 ∷ 56 ∷ 0 ∷ 0 ∷ 0 ∷ 3 ∷ 0 ∷ 0 ∷ 0 ∷ 92 ∷ 0 ∷ 0 ∷ 0
    -- 32: MOV 1,7
    ∷ 1 ∷ 1 ∷ 0 ∷ 0xFF ∷ 7 ∷ 0 ∷ 0 ∷ 0
    -- 40: EMIT 1,2
    ∷ 18 ∷ 0 ∷ 1 ∷ 0 ∷ 2 ∷ 0 ∷ 0 ∷ 0
    -- 48: STOP
    ∷ 0 ∷ 0 ∷ 0 ∷ 0 ∷ 0 ∷ 0 ∷ 0 ∷ 0
    -- 56: from 1 on, 2 bytes of kind 2
    ∷ 1 ∷ 0 ∷ 0 ∷ 0 ∷ 2 ∷ 0 ∷ 0 ∷ 0 ∷ 2 ∷ 0 ∷ 0 ∷ 0
    -- 68: from 4 on, 2 bytes filled
    ∷ 4 ∷ 0 ∷ 0 ∷ 0 ∷ 2 ∷ 0 ∷ 0 ∷ 0 ∷ 1 ∷ 0 ∷ 0 ∷ 0
    -- 80: from 6 on, 1 byte filled
    ∷ 6 ∷ 0 ∷ 0 ∷ 0 ∷ 1 ∷ 0 ∷ 0 ∷ 0 ∷ 1 ∷ 0 ∷ 0 ∷ 0
    -- 92: the data
    ∷ 0xA1 ∷ 0xA2 ∷ 0xB1 ∷ []

-- ---- a fault for each number, which no other number sees, but that an image of 31 bytes has no right length either
-- 31 bytes
abbrev fault1 : List ℕ → List ℕ
fault1 s = take 31 s

-- the first byte
abbrev fault2 : List ℕ → List ℕ
fault2 s = set s 0 0x53

-- M 8,200
abbrev fault3 : List ℕ → List ℕ
fault3 s = set s 5 0x20

-- the data's offset is 93
abbrev fault4 : List ℕ → List ℕ
fault4 s = set s 28 93

-- instruction 1 has op 25
abbrev fault5 : List ℕ → List ℕ
fault5 s = set s 40 25

-- region 0 has kind 3
abbrev fault6 : List ℕ → List ℕ
fault6 s = set s 64 3

-- region 1 has 1 byte: the filled sum is 2
abbrev fault7 : List ℕ → List ℕ
fault7 s = set s 72 1

-- the instruction from this byte on has these fields, and the imm that was there
abbrev fields_from : (at op d a b : ℕ) → List ℕ → List ℕ
fields_from at op d a b s = set (set (set (set s at op) (at + 1) d) (at + 2) a) (at + 3) b

-- instruction 0, imm 7
abbrev first_fields : (op d a b : ℕ) → List ℕ
first_fields op d a b = fields_from 32 op d a b base

-- instruction 1, imm 2
abbrev with_fields : (op d a b : ℕ) → List ℕ
with_fields op d a b = fields_from 40 op d a b base

-- instruction 2, imm 0
abbrev last_fields : (op d a b : ℕ) → List ℕ
last_fields op d a b = fields_from 48 op d a b base

-- M 8,192, and in the place of instruction 2 OPEN or CLOSE with these four bytes: start and length
abbrev range_of_8192 : (op s₀ s₁ l₀ l₁ : ℕ) → List ℕ
range_of_8192 op s₀ s₁ l₀ l₁ = set (set (set (set (set (set (set base 4 0) 5 0x20) 48 op) 52 s₀) 53 s₁) 54 l₀) 55 l₁

-- M 8,192, and region 2 is one byte from the place with these two bytes on
abbrev region_of_8192 : (s₀ s₁ : ℕ) → List ℕ
region_of_8192 s₀ s₁ = set (set (set (set base 4 0) 5 0x20) 80 s₀) 81 s₁

-- ---- the cases
pub record RefusalCase : Type 0 where
  pub image : List ℕ
  pub refusal : Verdict

abbrev refusal_case : List ℕ → (number index : ℕ) → RefusalCase
refusal_case image number index = record { image = image; refusal = refused number index }

-- ---- register 15 is not written (02, L9)
-- ADD to LTU, and the loads
abbrev computations : List ℕ
computations = 2 ∷ 3 ∷ 4 ∷ 5 ∷ 6 ∷ 7 ∷ 8 ∷ 9 ∷ 10 ∷ 11 ∷ 12 ∷ []

abbrev loads : List ℕ
loads = 13 ∷ 14 ∷ 21 ∷ 22 ∷ 23 ∷ []

abbrev pub frame_cases : List RefusalCase
frame_cases =
    -- each op that writes a register, with d 15 at index 1
    map (λ op. refusal_case (with_fields op 15 1 255) 5 1) computations
    ++ map (λ op. refusal_case (with_fields op 15 1 0) 5 1) loads
    ++ refusal_case (with_fields 1 15 0 255) 5 1
    -- and with d 14
    ∷ map (λ op. refusal_case (with_fields op 14 1 255) 0 0) computations
    ++ map (λ op. refusal_case (with_fields op 14 1 0) 0 0) loads
    ++ refusal_case (with_fields 1 14 0 255) 0 0
    -- MOV, ADD, LD8 and LDS16 at index 0
    ∷ refusal_case (first_fields 1 15 0 255) 5 0
    ∷ refusal_case (first_fields 2 15 1 255) 5 0
    ∷ refusal_case (first_fields 13 15 1 0) 5 0
    ∷ refusal_case (first_fields 23 15 1 0) 5 0
    -- MOV 15,15, which would change nothing, and ADD 15,15,15 at index 2; MOV 14,15 and ADD 14,15,15
    ∷ refusal_case (last_fields 1 15 0 15) 5 2
    ∷ refusal_case (last_fields 2 15 15 15) 5 2
    ∷ refusal_case (last_fields 1 14 0 15) 0 0
    ∷ refusal_case (last_fields 2 14 15 15) 0 0
    -- ST8, ST32 and ST16 of register 15, also at the address that it holds
    ∷ refusal_case (with_fields 15 15 1 0) 0 0
    ∷ refusal_case (with_fields 16 15 1 0) 0 0
    ∷ refusal_case (with_fields 24 15 1 0) 0 0
    ∷ refusal_case (with_fields 15 15 15 0) 0 0
    ∷ refusal_case (with_fields 16 15 15 0) 0 0
    -- JNZ 15,2 and EMIT 15,2; LD8 and LDS16 at the address in register 15
    ∷ refusal_case (with_fields 17 0 15 0) 0 0
    ∷ refusal_case (with_fields 18 0 15 0) 0 0
    ∷ refusal_case (with_fields 13 14 15 0) 0 0
    ∷ refusal_case (with_fields 23 14 15 0) 0 0
    -- where d is not used, 15 is not 0: JNZ and EMIT
    ∷ refusal_case (with_fields 17 15 1 0) 5 1
    ∷ refusal_case (with_fields 18 15 1 0) 5 1
    -- two at once, the lower index: MOV 15 at 0 and op 25 at 1; op 25 at 1 and MOV 15,15 at 2; LD8 to 15 at 1 and STOP with d 1; ADD 15 at 0 and LDS16 to 15 at 1
    ∷ refusal_case (fault5 (first_fields 1 15 0 255)) 5 0
    ∷ refusal_case (fault5 (last_fields 1 15 0 15)) 5 1
    ∷ refusal_case (set (with_fields 13 15 1 0) 49 1) 5 1
    ∷ refusal_case (fields_from 32 2 15 1 255 (with_fields 23 15 1 0)) 5 0
    -- and another fault of the same instruction: ADD with a 16, LD8 with b 1, MOV with a 1
    ∷ refusal_case (with_fields 2 15 16 255) 5 1
    ∷ refusal_case (with_fields 13 15 1 1) 5 1
    ∷ refusal_case (with_fields 1 15 1 255) 5 1
    -- with another number: 4 goes before, 6 after
    ∷ refusal_case (fault4 (with_fields 1 15 0 255)) 4 0
    ∷ refusal_case (fault6 (with_fields 1 15 0 255)) 5 1
    ∷ []

-- ---- each number
abbrev pub refusal_cases : List RefusalCase
refusal_cases =
    -- each by itself, and none
    refusal_case base 0 0
    ∷ refusal_case (fault1 base) 1 0
    ∷ refusal_case (fault2 base) 2 0
    ∷ refusal_case (fault3 base) 3 0
    ∷ refusal_case (fault4 base) 4 0
    ∷ refusal_case (fault5 base) 5 1
    ∷ refusal_case (fault6 base) 6 0
    ∷ refusal_case (fault7 base) 7 0
    -- two at once: the lower number
    ∷ refusal_case (fault1 (fault2 base)) 1 0
    ∷ refusal_case (fault1 (fault3 base)) 1 0
    ∷ refusal_case (fault1 (fault4 base)) 1 0
    ∷ refusal_case (fault2 (fault3 base)) 2 0
    ∷ refusal_case (fault2 (fault4 base)) 2 0
    ∷ refusal_case (fault2 (fault5 base)) 2 0
    ∷ refusal_case (fault2 (fault6 base)) 2 0
    ∷ refusal_case (fault2 (fault7 base)) 2 0
    ∷ refusal_case (fault3 (fault4 base)) 3 0
    ∷ refusal_case (fault3 (fault5 base)) 3 0
    ∷ refusal_case (fault3 (fault6 base)) 3 0
    ∷ refusal_case (fault3 (fault7 base)) 3 0
    ∷ refusal_case (fault4 (fault5 base)) 4 0
    ∷ refusal_case (fault4 (fault6 base)) 4 0
    ∷ refusal_case (fault4 (fault7 base)) 4 0
    ∷ refusal_case (fault5 (fault6 base)) 5 1
    ∷ refusal_case (fault5 (fault7 base)) 5 1
    ∷ refusal_case (fault6 (fault7 base)) 6 0
    -- 1: no byte at all; of 32 bytes only the length is wrong
    ∷ refusal_case [] 1 0
    ∷ refusal_case (take 32 base) 4 0
    -- 2: each of the other three bytes
    ∷ refusal_case (set base 1 0) 2 0
    ∷ refusal_case (set base 2 0) 2 0
    ∷ refusal_case (set base 3 0x32) 2 0
    -- 3: M 0; M 4,096, 4,097 and 8,192, which are accepted, and 8,193
    ∷ refusal_case (set base 4 0) 3 0
    ∷ refusal_case (set (set base 5 0x10) 4 0) 0 0
    ∷ refusal_case (set (set base 5 0x10) 4 1) 0 0
    ∷ refusal_case (set (set base 5 0x20) 4 0) 0 0
    ∷ refusal_case (set (set base 5 0x20) 4 1) 3 0
    -- N 0; N 512, 513 and 2,048, which these offsets do not go with, and 2,049
    ∷ refusal_case (set base 8 0) 3 0
    ∷ refusal_case (set (set base 9 2) 8 0) 4 0
    ∷ refusal_case (set (set base 9 2) 8 1) 4 0
    ∷ refusal_case (set (set base 9 8) 8 0) 4 0
    ∷ refusal_case (set (set base 9 8) 8 1) 3 0
    -- R 32 and 33
    ∷ refusal_case (set base 16 32) 4 0
    ∷ refusal_case (set base 16 33) 3 0
    -- D 4,096, 4,097 and 8,192, and 8,193
    ∷ refusal_case (set (set base 25 0x10) 24 0) 4 0
    ∷ refusal_case (set (set base 25 0x10) 24 1) 4 0
    ∷ refusal_case (set (set base 25 0x20) 24 0) 4 0
    ∷ refusal_case (set (set base 25 0x20) 24 1) 3 0
    -- no regions and no data: R 0, D 0, and the data's offset is the image's end
    ∷ refusal_case (take 56 (set (set (set base 16 0) 24 0) 28 56)) 0 0
    -- 4: the code's offset, also in its highest byte; the regions' offset; one byte less, one more
    ∷ refusal_case (set base 12 33) 4 0
    ∷ refusal_case (set base 15 1) 4 0
    ∷ refusal_case (set base 20 57) 4 0
    ∷ refusal_case (take 94 base) 4 0
    ∷ refusal_case (base ++ 0 ∷ []) 4 0
    -- 5: instruction 0 with op 25; EMIT to port 8; STOP with d 1
    ∷ refusal_case (set base 32 25) 5 0
    ∷ refusal_case (set base 44 8) 5 1
    ∷ refusal_case (set base 49 1) 5 2
    -- two and three of these: the lowest index
    ∷ refusal_case (set (set base 44 8) 49 1) 5 1
    ∷ refusal_case (set (set (set base 32 25) 44 8) 49 1) 5 0
    -- JNZ 1,2, which is accepted, and JNZ 1,3: N is 3
    ∷ refusal_case (set base 40 17) 0 0
    ∷ refusal_case (set (set base 40 17) 44 3) 5 1
    -- OPEN from 6 on of 2 bytes, which is accepted, and of 3: M is 8
    ∷ refusal_case (set (set (set base 48 19) 52 6) 54 2) 0 0
    ∷ refusal_case (set (set (set base 48 19) 52 6) 54 3) 5 2
    -- with M 8,192: OPEN from 4,096 on of 4,096 bytes, which is accepted, and from 4,097 on; the last byte, which is accepted, and the one past it
    ∷ refusal_case (range_of_8192 19 0 0x10 0 0x10) 0 0
    ∷ refusal_case (range_of_8192 19 1 0x10 0 0x10) 5 2
    ∷ refusal_case (range_of_8192 19 0xFF 0x1F 1 0) 0 0
    ∷ refusal_case (range_of_8192 19 0 0x20 1 0) 5 2
    -- CLOSE of all 8,192 bytes, which is accepted, and of 8,193
    ∷ refusal_case (range_of_8192 20 0 0 0 0x20) 0 0
    ∷ refusal_case (range_of_8192 20 0 0 1 0x20) 5 2
    -- ops 21 to 24, LD16, LDS8, LDS16 and ST16, with d and a at the ends of what they may be, and any imm; op 25 has no row, nor has 255
    ∷ refusal_case (with_fields 21 0 1 0) 0 0
    ∷ refusal_case (with_fields 22 14 0 0) 0 0
    ∷ refusal_case (with_fields 23 0 15 0) 0 0
    ∷ refusal_case (with_fields 24 15 15 0) 0 0
    ∷ refusal_case (set (with_fields 24 2 1 0) 47 0xFF) 0 0
    ∷ refusal_case (with_fields 25 0 1 0) 5 1
    ∷ refusal_case (with_fields 255 0 1 0) 5 1
    -- each of the four with b 1, with b 255, which is no literal here, with d 16 and with a 16
    ∷ refusal_case (with_fields 21 0 1 1) 5 1
    ∷ refusal_case (with_fields 22 0 1 1) 5 1
    ∷ refusal_case (with_fields 23 0 1 1) 5 1
    ∷ refusal_case (with_fields 24 0 1 1) 5 1
    ∷ refusal_case (with_fields 21 0 1 255) 5 1
    ∷ refusal_case (with_fields 22 0 1 255) 5 1
    ∷ refusal_case (with_fields 23 0 1 255) 5 1
    ∷ refusal_case (with_fields 24 0 1 255) 5 1
    ∷ refusal_case (with_fields 21 16 1 0) 5 1
    ∷ refusal_case (with_fields 22 16 1 0) 5 1
    ∷ refusal_case (with_fields 23 16 1 0) 5 1
    ∷ refusal_case (with_fields 24 16 1 0) 5 1
    ∷ refusal_case (with_fields 21 0 16 0) 5 1
    ∷ refusal_case (with_fields 22 0 16 0) 5 1
    ∷ refusal_case (with_fields 23 0 16 0) 5 1
    ∷ refusal_case (with_fields 24 0 16 0) 5 1
    -- 6: region 0 of no bytes; of kind 0
    ∷ refusal_case (set base 60 0) 6 0
    ∷ refusal_case (set base 64 0) 6 0
    -- region 1 from 3 on, where region 0 ends, which is accepted, and from 2 on
    ∷ refusal_case (set base 68 3) 0 0
    ∷ refusal_case (set base 68 2) 6 1
    -- region 2 up to M, which is accepted, and one further
    ∷ refusal_case (set base 80 7) 0 0
    ∷ refusal_case (set base 80 8) 6 2
    -- with M 8,192: region 2 is the last byte, which is accepted, and the one past it
    ∷ refusal_case (region_of_8192 0xFF 0x1F) 0 0
    ∷ refusal_case (region_of_8192 0 0x20) 6 2
    -- region 2 from 4,294,967,295 on: its end does not wrap
    ∷ refusal_case (set (set (set (set base 80 0xFF) 81 0xFF) 82 0xFF) 83 0xFF) 6 2
    -- two and three of these: the lowest index
    ∷ refusal_case (set (set base 68 2) 80 8) 6 1
    ∷ refusal_case (set (set (set base 64 0) 68 2) 80 8) 6 0
    -- 7: region 0 is filled, too; D 2 and one byte less, D 4 and one more
    ∷ refusal_case (set base 64 1) 7 0
    ∷ refusal_case (take 94 (set base 24 2)) 7 0
    ∷ refusal_case (set base 24 4 ++ 0 ∷ []) 7 0
    ∷ []
