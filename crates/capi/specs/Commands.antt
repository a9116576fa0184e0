-- A damper command for C: its kind, 0 when refused, by numbers of our own (include/uviktalik.h), and the bits of its rate, or its port if it is blocked.
use Rattle.std.specs.Prelude.{ℕ, List, [], ◌∷◌, Ok, Err}
use Rattle.std.specs.Float.{binary32}
use Rattle.std.specs.Float.Ieee.{to_bits}
use Rattle.commands.specs.declared.Command.{Command}
use Rattle.commands.specs.declared.Command.TheVariants.{Bump, Rebound, Preload, Blocked}
use Rattle.commands.specs.Answers.{Answer, refusal_number}

abbrev pub command_kind : Command → ℕ
command_kind (Bump rate) = 1
command_kind (Rebound rate) = 2
command_kind (Preload rate) = 3
command_kind (Blocked port) = 4

abbrev pub kind_of : Answer → ℕ
kind_of (Ok command) = command_kind command
kind_of (Err refusal) = 0

abbrev pub command_bits : Command → ℕ
command_bits (Bump rate) = to_bits binary32 rate
command_bits (Rebound rate) = to_bits binary32 rate
command_bits (Preload rate) = to_bits binary32 rate
command_bits (Blocked port) = port

abbrev pub bits_of : Answer → ℕ
bits_of (Ok command) = command_bits command
bits_of (Err refusal) = 0

-- the number that the call returns, and what it leaves in its two places
abbrev pub answer_words : Answer → List ℕ
answer_words answer = refusal_number answer ∷ kind_of answer ∷ bits_of answer ∷ []

-- ---- cases worked out by hand: a list, the number of an output, and the words that are answered
pub record Case : Type 0 where
  pub outputs : List ℕ
  pub number : ℕ
  pub words : List ℕ

abbrev case : (port value : ℕ) (words : List ℕ) → Case
case port value words = record { outputs = port ∷ value ∷ []; number = 0; words = words }

-- 1 at bump, rebound and preload, 41 at preload, 1 at port 5, and a list that is refused
abbrev pub cases : List Case
cases =
    case 0 0x3F80_0000 (0 ∷ 1 ∷ 0x3F80_0000 ∷ [])
    ∷ case 1 0x3F80_0000 (0 ∷ 2 ∷ 0x3F80_0000 ∷ [])
    ∷ case 2 0x3F80_0000 (0 ∷ 3 ∷ 0x3F80_0000 ∷ [])
    ∷ case 2 0x4224_0000 (0 ∷ 4 ∷ 2 ∷ [])
    ∷ case 5 0x3F80_0000 (0 ∷ 4 ∷ 5 ∷ [])
    ∷ case 8 0x3F80_0000 (13 ∷ 0 ∷ 0 ∷ [])
    ∷ []
