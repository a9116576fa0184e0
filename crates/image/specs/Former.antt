-- The limits that document 01 gives, which request L5 of document 02 raises, and what reading answers under them. Only `AsBefore` of the crate
-- `machine` speaks of these definitions: no function reads them.
use Rattle.std.specs.Prelude.{ℕ, Bool, true, ◌≡◌, List}
use Rattle.image.specs.Format.{field_m, field_n, field_r, field_d, limits_within, code_part}
use Rattle.image.specs.Refusals.{Verdict, Reading, refusal_by, header_with}

-- M 1 to 4,096, N 1 to 512, R 0 to 32, D 0 to 4,096
abbrev pub former_limits_ok : ℕ → ℕ → ℕ → ℕ → Bool
former_limits_ok = limits_within 4096 512 32 4096

abbrev pub KeepsFormer : List ℕ → Type 0
KeepsFormer s = former_limits_ok (field_m s) (field_n s) (field_r s) (field_d s) ≡ true

-- the reader's refusal, its answer, and the code that it hands back
unfoldable pub former_refusal : List ℕ → Verdict
former_refusal s = refusal_by (former_limits_ok (field_m s) (field_n s) (field_r s) (field_d s)) s (field_m s) (field_n s) (field_r s) (field_d s)

unfoldable pub former_header : List ℕ → Reading
former_header s = header_with (former_refusal s) s

unfoldable pub former_code : List ℕ → List ℕ
former_code s = code_part s (former_header s).n
