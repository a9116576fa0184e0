-- The image that document 01 gives as an example (01, The program): M 16, four instructions, one region of kind 2.
use Rattle.std.specs.Prelude.{ℕ, List, [], ◌∷◌, ◌++◌}

abbrev header : List ℕ
header =
    0x54 ∷ 0x55 ∷ 0x4E ∷ 0x31 ∷ 0x10 ∷ 0 ∷ 0 ∷ 0 ∷ 4 ∷ 0 ∷ 0 ∷ 0 ∷ 0x20 ∷ 0 ∷ 0 ∷ 0
    ∷ 1 ∷ 0 ∷ 0 ∷ 0 ∷ 0x40 ∷ 0 ∷ 0 ∷ 0 ∷ 0 ∷ 0 ∷ 0 ∷ 0 ∷ 0x4C ∷ 0 ∷ 0 ∷ 0 ∷ []

-- MOV 0,8; LD32 1,0,0; EMIT 1,2; STOP
abbrev code : List ℕ
code =
    1 ∷ 0 ∷ 0 ∷ 0xFF ∷ 8 ∷ 0 ∷ 0 ∷ 0 ∷ 0x0E ∷ 1 ∷ 0 ∷ 0 ∷ 0 ∷ 0 ∷ 0 ∷ 0
    ∷ 0x12 ∷ 0 ∷ 1 ∷ 0 ∷ 2 ∷ 0 ∷ 0 ∷ 0 ∷ 0 ∷ 0 ∷ 0 ∷ 0 ∷ 0 ∷ 0 ∷ 0 ∷ 0 ∷ []

-- bytes 8 to 11
abbrev regions : List ℕ
regions = 8 ∷ 0 ∷ 0 ∷ 0 ∷ 4 ∷ 0 ∷ 0 ∷ 0 ∷ 2 ∷ 0 ∷ 0 ∷ 0 ∷ []

abbrev pub example : List ℕ
example = header ++ code ++ regions
