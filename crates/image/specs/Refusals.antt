-- When the reader refuses an image, with which number and index (01, When the bench says no), and what it hands back.
use Rattle.std.specs.Prelude.{ℕ, zero, suc, Bool, cond, List, length, leb, eqb, Result, Ok, Err, is_ok}
use Rattle.image.specs.Format.{header_size, field_m, field_n, field_r, field_d, magic_ok, limits_ok, layout_ok, code_part, region_part}
use Rattle.image.specs.Rows.{decode_at}
use Rattle.image.specs.Regions.{region_ok, filled_sum}
use Rattle.image.specs.declared.refusals.Refusal.{Refusal}
use Rattle.image.specs.declared.refusals.Refusal.TheVariants.{TooShort, WrongMagic, OutOfLimits, WrongLayout, BadInstruction, BadRegion, WrongSum}
use Rattle.image.specs.declared.Header.{Header}

-- the numbers, in 01's order
abbrev pub too_short : ℕ
too_short = 1

abbrev pub wrong_magic : ℕ
wrong_magic = 2

abbrev pub out_of_limits : ℕ
out_of_limits = 3

abbrev pub wrong_layout : ℕ
wrong_layout = 4

abbrev pub bad_instruction : ℕ
bad_instruction = 5

abbrev pub bad_region : ℕ
bad_region = 6

abbrev pub wrong_sum : ℕ
wrong_sum = 7

-- what is said of an image or a call: a refusal's number, 0 where nothing is refused, and the index at fault, 0 where none is named
pub record Verdict : Type 0 where
  pub number : ℕ
  pub index : ℕ

abbrev pub refused : ℕ → ℕ → Verdict
refused number index = record { number = number; index = index }

abbrev pub accepted : Verdict
accepted = refused 0 0

-- ---- how refusals follow each other
-- this refusal where the test fails, else what comes after
abbrev pub unless : Bool → ℕ → Verdict → Verdict
unless ok number rest = cond ok rest (refused number 0)

-- the first of two that refuses
abbrev pub or_else : Verdict → Verdict → Verdict
or_else first second = cond (eqb first.number 0) second first

-- this refusal with the lowest index at fault: the first of the indices from i on, as many as count says, that fails the test
unfoldable pub first_fault : ℕ → (ℕ → Bool) → ℕ → ℕ → Verdict
first_fault number ok i zero = accepted
first_fault number ok i (suc count) = cond (ok i) (first_fault number ok (suc i) count) (refused number i)

-- ---- the refusals of reading
unfoldable pub instruction_ok : List ℕ → ℕ → ℕ → ℕ → Bool
instruction_ok code n m i = is_ok (decode_at code i n m)

unfoldable pub code_refusal : List ℕ → ℕ → ℕ → Verdict
code_refusal code n m = first_fault bad_instruction (instruction_ok code n m) 0 n

unfoldable pub region_refusal : List ℕ → ℕ → ℕ → Verdict
region_refusal regions r m = first_fault bad_region (region_ok regions m) 0 r

abbrev pub sum_refusal : List ℕ → ℕ → ℕ → Verdict
sum_refusal regions r d = unless (eqb (filled_sum regions r) d) wrong_sum accepted

-- of an image that has its parts, with these M, N, R and D
abbrev pub content_refusal : (code regions : List ℕ) (m n r d : ℕ) → Verdict
content_refusal code regions m n r d = or_else (code_refusal code n m) (or_else (region_refusal regions r m) (sum_refusal regions r d))

-- the first that applies, in number order; `within` says whether M, N, R and D keep some limits
abbrev pub refusal_by : (within : Bool) (s : List ℕ) (m n r d : ℕ) → Verdict
refusal_by within s m n r d =
    unless (leb header_size (length s)) too_short
    (unless (magic_ok s) wrong_magic
    (unless within out_of_limits
    (unless (layout_ok s n r d) wrong_layout
    (content_refusal (code_part s n) (region_part s n r) m n r d))))

abbrev pub refusal_with : (s : List ℕ) (m n r d : ℕ) → Verdict
refusal_with s m n r d = refusal_by (limits_ok m n r d) s m n r d

unfoldable pub refusal_of : List ℕ → Verdict
refusal_of s = refusal_with s (field_m s) (field_n s) (field_r s) (field_d s)

-- ---- what the reader hands back
-- M, N, R and D, zeros when refused, and the verdict
pub record Reading : Type 0 where
  pub m : ℕ
  pub n : ℕ
  pub r : ℕ
  pub d : ℕ
  pub refusal : Verdict

abbrev pub reading : Header → Verdict → Reading
reading h refusal = record { m = h.m; n = h.n; r = h.r; d = h.d; refusal = refusal }

abbrev pub fields_of : List ℕ → Header
fields_of s = record { m = field_m s; n = field_n s; r = field_r s; d = field_d s }

abbrev pub no_fields : Header
no_fields = record { m = 0; n = 0; r = 0; d = 0 }

abbrev pub header_with : Verdict → List ℕ → Reading
header_with refusal s = cond (eqb refusal.number 0) (reading (fields_of s) refusal) (reading no_fields refusal)

unfoldable pub header_of : List ℕ → Reading
header_of s = header_with (refusal_of s) s

-- the code as a part of the image: N is 0 when refused, and the part empty
unfoldable pub code_of : List ℕ → List ℕ
code_of s = code_part s (header_of s).n

-- ---- how the code says it
-- the number of each refusal, and the index at fault, 0 where none is named
abbrev pub number_of : Refusal → ℕ
number_of TooShort = too_short
number_of WrongMagic = wrong_magic
number_of OutOfLimits = out_of_limits
number_of WrongLayout = wrong_layout
number_of (BadInstruction i) = bad_instruction
number_of (BadRegion i) = bad_region
number_of WrongSum = wrong_sum

abbrev pub index_of : Refusal → ℕ
index_of TooShort = 0
index_of WrongMagic = 0
index_of OutOfLimits = 0
index_of WrongLayout = 0
index_of (BadInstruction i) = i
index_of (BadRegion i) = i
index_of WrongSum = 0

abbrev pub verdict : Refusal → Verdict
verdict e = refused (number_of e) (index_of e)

-- the verdict of a check, and what a reading says
abbrev pub verdict_of : Result Unit Refusal → Verdict
verdict_of (Ok done) = accepted
verdict_of (Err e) = verdict e

abbrev pub reading_of : Result Header Refusal → Reading
reading_of (Ok found) = reading found accepted
reading_of (Err e) = reading no_fields (verdict e)
