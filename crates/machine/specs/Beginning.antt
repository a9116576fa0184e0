-- Beginning (01, Beginning): what an accepted image makes of registers, memory, V bits and A bits.
-- Regions are laid one after the other; `begun-filled`, `begun-undefined` and `begun-outside` in proofs/BeginningBytes.antt say what each byte gets.
use Rattle.std.specs.Prelude.{ℕ, zero, suc, ◌+◌, ◌^◌, ◌<◌, ◌≡◌, Bool, cond, List, length, get_or, set, replicate, eqb}
use Rattle.rules.specs.Word.{all_ones}
use Rattle.image.specs.Words.{Bytes}
use Rattle.image.specs.Format.{registers, frame_register, field_m, field_n, field_r, field_d, region_part, data_part}
use Rattle.image.specs.Regions.{has_bytes, region_at, filled_sum}
use Rattle.image.specs.declared.Region.{Region}
use Rattle.machine.specs.Machine.{undefined_byte, defined_byte, addressable_mark, unaddressable_mark, Parts, parts}
use Rattle.machine.specs.Ranges.{written, filled}

-- what is handed in: sixteen words for the registers, M bytes for the memory
pub record Registers (regs : List ℕ) : Type 0 where
  pub sixteen : length regs ≡ registers
  pub words : (i : ℕ) → get_or regs i 0 < 2 ^ 32

pub record Memory (m : ℕ) (mem : List ℕ) : Type 0 where
  pub size : length mem ≡ m
  pub bytes : Bytes mem

abbrev pub is_filled : Region → Bool
is_filled region = has_bytes region.kind

-- ---- what region number i does to memory, to V bits and to A bits; its data follows that of the regions before it
abbrev pub lay_data : (regions held : List ℕ) (i : ℕ) → List ℕ → List ℕ
lay_data regions held i l =
    cond (is_filled (region_at regions i)) (written (λ k. get_or held (filled_sum regions i + k) 0) l (region_at regions i).start (region_at regions i).size) l

abbrev pub lay_v : (regions : List ℕ) (i : ℕ) → List ℕ → List ℕ
lay_v regions i l = filled (cond (is_filled (region_at regions i)) defined_byte undefined_byte) l (region_at regions i).start (region_at regions i).size

abbrev pub lay_a : (regions : List ℕ) (i : ℕ) → List ℕ → List ℕ
lay_a regions i l = filled addressable_mark l (region_at regions i).start (region_at regions i).size

-- the first so many regions, one after the other
unfoldable pub laid : (ℕ → List ℕ → List ℕ) → ℕ → List ℕ → List ℕ
laid lay zero l = l
laid lay (suc i) l = lay i (laid lay i l)

-- ---- of an image: memory keeps what no region fills; what no region covers is unaddressable and undefined
abbrev pub regions_of : List ℕ → List ℕ
regions_of s = region_part s (field_n s) (field_r s)

abbrev pub data_of : List ℕ → List ℕ
data_of s = data_part s (field_n s) (field_r s) (field_d s)

unfoldable pub begun_memory : (s mem : List ℕ) → List ℕ
begun_memory s mem = laid (lay_data (regions_of s) (data_of s)) (field_r s) mem

unfoldable pub begun_v : List ℕ → List ℕ
begun_v s = laid (lay_v (regions_of s)) (field_r s) (replicate (field_m s) undefined_byte)

unfoldable pub begun_a : List ℕ → List ℕ
begun_a s = laid (lay_a (regions_of s)) (field_r s) (replicate (field_m s) unaddressable_mark)

-- the frame register is the one that is defined
abbrev pub begun_regs_v : List ℕ
begun_regs_v = set (replicate registers all_ones) frame_register 0

unfoldable pub begun_parts : (s regs mem : List ℕ) → Parts
begun_parts s regs mem = parts regs begun_regs_v (begun_memory s mem) (begun_v s) (begun_a s)
