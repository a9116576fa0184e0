-- Cases worked out by hand from document 02, L7: a list, a number, and the numbers that are answered. The refusal's number comes first; then, if that
-- is 0, the port, and the value of what is not blocked. proofs/Cases.antt computes them.
use Rattle.std.specs.Prelude.{ℕ, Bool, true, false, cond, List, [], ◌∷◌, ◌++◌, replicate, pos, negsuc}
use Rattle.std.specs.Float.{fin}
use Rattle.commands.specs.declared.Command.{Command}
use Rattle.commands.specs.declared.Command.TheVariants.{Bump, Rebound, Preload, Blocked}

pub record Case : Type 0 where
  pub outputs : List ℕ
  pub number : ℕ
  pub numbers : List ℕ

abbrev answers : (outputs : List ℕ) (number : ℕ) (numbers : List ℕ) → Case
answers outputs number numbers = record { outputs = outputs; number = number; numbers = numbers }

-- ---- values
-- one output: it passes, or is blocked
abbrev output : (port value : ℕ) → Bool → Case
output port value passes = answers (port ∷ value ∷ []) 0 (0 ∷ port ∷ cond passes (value ∷ []) [])

-- a value at bump and rebound, whose gates are alike, and at preload: whether it passes these, and that
abbrev gated : (value : ℕ) (damping preload : Bool) → List Case
gated value damping preload = output 0 value damping ∷ output 1 value damping ∷ output 2 value preload ∷ []

abbrev pub end_cases : List Case
end_cases =
    -- 0, minus 0, the least subnormal number, the greatest, the least normal number, 1
    gated 0x0000_0000 true true
    ++ gated 0x8000_0000 true true
    ++ gated 0x0000_0001 true true
    ++ gated 0x007F_FFFF true true
    ++ gated 0x0080_0000 true true
    ++ gated 0x3F80_0000 true true
    -- next below 40, 40, next above it
    ++ gated 0x421F_FFFF true true
    ++ gated 0x4220_0000 true true
    ++ gated 0x4220_0001 true false
    -- next below 8000, 8000, next above it
    ++ gated 0x45F9_FFFF true false
    ++ gated 0x45FA_0000 true false
    ++ gated 0x45FA_0001 false false

abbrev pub outside_cases : List Case
outside_cases =
    -- the largest finite number, the infinities
    gated 0x7F7F_FFFF false false
    ++ gated 0x7F80_0000 false false
    ++ gated 0xFF80_0000 false false
    -- the first and last subnormal number below 0, the first normal one, -0.0000001, -1, -40, -8000
    ++ gated 0x8000_0001 false false
    ++ gated 0x807F_FFFF false false
    ++ gated 0x8080_0000 false false
    ++ gated 0xB3D6_BF95 false false
    ++ gated 0xBF80_0000 false false
    ++ gated 0xC220_0000 false false
    ++ gated 0xC5FA_0000 false false
    -- not a number: quiet and signalling, of either sign, at the ends of their patterns
    ++ gated 0x7FC0_0000 false false
    ++ gated 0x7F80_0001 false false
    ++ gated 0x7FBF_FFFF false false
    ++ gated 0x7FFF_FFFF false false
    ++ gated 0xFFC0_0000 false false
    ++ gated 0xFF80_0001 false false
    ++ gated 0xFFBF_FFFF false false
    ++ gated 0xFFFF_FFFF false false

-- ports that have no gate, with 0 and 1
abbrev pub port_cases : List Case
port_cases =
    output 3 0 false
    ∷ output 4 0 false
    ∷ output 5 0x3F80_0000 false
    ∷ output 6 0x3F80_0000 false
    ∷ output 7 0x3F80_0000 false
    ∷ []

-- ---- lists
abbrev refuses : (outputs : List ℕ) (number : ℕ) → Case
refuses outputs number = answers outputs number (13 ∷ [])

-- 1 at bump, and 0 at port 7, which is blocked
abbrev two : List ℕ
two = 0 ∷ 0x3F80_0000 ∷ 7 ∷ 0 ∷ []

abbrev pub number_cases : List Case
number_cases =
    -- each output, one past the last, the largest number that there is
    answers two 0 (0 ∷ 0 ∷ 0x3F80_0000 ∷ [])
    ∷ answers two 1 (0 ∷ 7 ∷ [])
    ∷ refuses two 2
    ∷ refuses two 256
    ∷ refuses two 0x1_0000_0000
    ∷ refuses two 0x8000_0000_0000_0000
    ∷ refuses two 0xFFFF_FFFF_FFFF_FFFF
    -- an empty list has none
    ∷ refuses [] 0
    ∷ []

abbrev pub list_cases : List Case
list_cases =
    -- an odd number of words
    refuses (0 ∷ []) 0
    ∷ refuses (0 ∷ 0 ∷ 1 ∷ []) 0
    ∷ refuses (0 ∷ 0 ∷ 1 ∷ []) 1
    -- a port word above 7: of the output asked for, of one before it, of one behind it
    ∷ refuses (8 ∷ 0 ∷ []) 0
    ∷ refuses (8 ∷ 0 ∷ 0 ∷ 0 ∷ []) 1
    ∷ refuses (0 ∷ 0x3F80_0000 ∷ 9 ∷ 0 ∷ []) 0
    ∷ answers (0 ∷ 0x3F80_0000 ∷ []) 0 (0 ∷ 0 ∷ 0x3F80_0000 ∷ [])
    ∷ refuses (0xFFFF_FFFF ∷ 0 ∷ []) 0
    -- a value above 7 is no port word
    ∷ answers (0 ∷ 8 ∷ 2 ∷ 9 ∷ []) 0 (0 ∷ 0 ∷ 8 ∷ [])
    ∷ answers (0 ∷ 8 ∷ 2 ∷ 9 ∷ []) 1 (0 ∷ 2 ∷ 9 ∷ [])
    -- 510, 511, 512, 513 and 514 words of 0: bump 0, if accepted
    ∷ answers (replicate 510 0) 254 (0 ∷ 0 ∷ 0 ∷ [])
    ∷ refuses (replicate 511 0) 0
    ∷ answers (replicate 512 0) 255 (0 ∷ 0 ∷ 0 ∷ [])
    ∷ refuses (replicate 512 0) 256
    ∷ refuses (replicate 513 0) 0
    ∷ refuses (replicate 514 0) 0
    -- the words of the last of 256 outputs, and of the one in the middle
    ∷ answers (replicate 510 0 ++ (2 ∷ 9 ∷ [])) 255 (0 ∷ 2 ∷ 9 ∷ [])
    ∷ answers (0 ∷ 8 ∷ 2 ∷ 9 ∷ 1 ∷ 10 ∷ 7 ∷ 0 ∷ []) 2 (0 ∷ 1 ∷ 10 ∷ [])
    ∷ refuses (256 ∷ 0 ∷ []) 0
    ∷ refuses (0x8000_0000 ∷ 0 ∷ []) 0
    -- port 8 in the last of 256 outputs
    ∷ refuses (replicate 510 0 ++ (8 ∷ 0 ∷ [])) 0
    ∷ []

-- ---- the floats that some commands carry: 8000 is 125 * 2 ^ 6; minus zero keeps its sign; the least subnormal number is 2 ^ -149; 40 is 5 * 2 ^ 3
pub record Carrying : Type 0 where
  pub port : ℕ
  pub value : ℕ
  pub command : Command

abbrev makes : (port value : ℕ) → Command → Carrying
makes port value command = record { port = port; value = value; command = command }

abbrev pub float_cases : List Carrying
float_cases =
    makes 0 0x45FA_0000 (Bump (fin false 125 (pos 6)))
    ∷ makes 1 0x8000_0000 (Rebound (fin true 0 (pos 0)))
    ∷ makes 2 0x0000_0001 (Preload (fin false 1 (negsuc 148)))
    ∷ makes 2 0x4220_0000 (Preload (fin false 5 (pos 3)))
    ∷ makes 2 0x4220_0001 (Blocked 2)
    ∷ []
