-- What an accepted image is, and how far the fields of its instructions reach: what the crates above use of an image.
-- `accepted-image` and `image-accepted` in proofs/AcceptedImage.antt say that the reader accepts these images and no others.
use Rattle.std.specs.Prelude.{ℕ, ◌+◌, ◌^◌, ◌≤◌, ◌<◌, ◌≡◌, ◌⊎◌, ◌≢◌, List, length, take, Ok}
use Rattle.image.specs.Format.{magic, header_size, most_m, most_n, most_r, most_d, registers, frame_register, ports, regions_at, data_at, size_of, field_m, field_n, field_r, field_d, code_offset, region_offset, data_offset, code_part, region_part}
use Rattle.image.specs.Rows.{decode_at}
use Rattle.image.specs.Regions.{filled_kind, undefined_kind, region_at, end_of, end_before, filled_sum}
use Rattle.image.specs.declared.Operand.{Operand}
use Rattle.image.specs.declared.Operand.TheVariants.{Register, Literal}
use Rattle.image.specs.declared.Instruction.{Instruction}
use Rattle.image.specs.declared.Instruction.TheVariants.{Stop, Move, Compute, Load, Store, Jump, Emit, Mark}
use Rattle.image.specs.declared.Region.{Region}

pub record Limits (m n r d : ℕ) : Type 0 where
  pub some_memory : 1 ≤ m
  pub memory : m ≤ most_m
  pub some_code : 1 ≤ n
  pub code : n ≤ most_n
  pub regions : r ≤ most_r
  pub held : d ≤ most_d

-- the offsets and the length
pub record Layout (s : List ℕ) (n r d : ℕ) : Type 0 where
  pub code : code_offset s ≡ header_size
  pub regions : region_offset s ≡ regions_at n
  pub held : data_offset s ≡ data_at n r
  pub size : length s ≡ size_of n r d

-- a region that follows the end of the previous one, in M bytes of memory
pub record Keeps (region : Region) (before m : ℕ) : Type 0 where
  pub some : 1 ≤ region.size
  pub follows : before ≤ region.start
  pub within : end_of region ≤ m
  pub kind : (region.kind ≡ filled_kind) ⊎ (region.kind ≡ undefined_kind)

-- of an image with these M, N, R and D
pub record AcceptedWith (s : List ℕ) (m n r d : ℕ) : Type 0 where
  pub long : header_size ≤ length s
  pub starts : take (length magic) s ≡ magic
  pub limits : Limits m n r d
  pub layout : Layout s n r d
  pub code : (i : ℕ) → i < n → (v : Instruction) × (decode_at (code_part s n) i n m ≡ Ok v)
  pub regions : (i : ℕ) → i < r → Keeps (region_at (region_part s n r) i) (end_before (region_part s n r) i) m
  pub sum : filled_sum (region_part s n r) r ≡ d

abbrev pub Accepted : List ℕ → Type 0
Accepted s = AcceptedWith s (field_m s) (field_n s) (field_r s) (field_d s)

-- ---- how far an instruction's fields reach, in an image of N instructions and M bytes of memory
abbrev pub OperandFits : Operand → Type 0
OperandFits (Register r) = r < registers
OperandFits (Literal x) = x.0 < 2 ^ 32

-- a register that an instruction may write (02, L9)
abbrev pub Writable : ℕ → Type 0
Writable d = (d < registers) × (d ≢ frame_register)

abbrev pub Fits : (n m : ℕ) → Instruction → Type 0
Fits n m Stop = Unit
Fits n m (Move d b) = Writable d × OperandFits b
Fits n m (Compute op d a b) = Writable d × (a < registers) × OperandFits b
Fits n m (Load width widening d a imm) = Writable d × (a < registers) × (imm < 2 ^ 32)
Fits n m (Store width d a imm) = (d < registers) × (a < registers) × (imm < 2 ^ 32)
Fits n m (Jump a target) = (a < registers) × (target < n)
Fits n m (Emit a port) = (a < registers) × (port < ports)
Fits n m (Mark addressable start size) = (1 ≤ size) × (start + size ≤ m)
