-- The alarms are real (02, L14): in one of the operations named here a result bit is called undefined exactly if two choices of the operands' undefined bits give it different values.
use Rattle.std.specs.Prelude.{◌≡◌, ℕ, ◌^◌, ◌<◌, false, ◌↔◌}
use Rattle.rules.specs.Word.{bit}
use Rattle.rules.specs.Actions.{mov_of}
use Rattle.rules.specs.Shadows.{Rule, mov_v}
use Rattle.rules.specs.Operations.{action_of, shadow_of}
use Rattle.rules.specs.Agreement.{Alike}
use Rattle.rules.specs.declared.Operation.{Operation}
use Rattle.rules.specs.declared.Operation.TheVariants.{And, Or, Xor, Shl, Shr, Sar, Eq}

-- a choice of the undefined bits of x: a word of 32 bits that agrees with x in every defined bit, and may be anything in the others
pub record Choice (x v : ℕ) : Type 0 where
  pub word : ℕ
  pub alike : Alike 32 v x word

-- bit i of a result varies: two choices give it different values. C is all that can be chosen, `result` what comes of it.
pub record Varies (C : Type 0) (result : C → ℕ) (i : ℕ) : Type 0 where
  pub one : C
  pub other : C
  pub differ : bit i (result one) ≡ bit i (result other) → ⊥

-- the same of an operation on two operands, whose undefined bits are chosen independently
abbrev pub ResultVaries : (ℕ → ℕ → ℕ) → (x v y w i : ℕ) → Type 0
ResultVaries f x v y w i = Varies (Choice x v × Choice y w) (λ c. f c.0.word c.1.word) i

-- A rule is exact for an action: bit i of its V word is 1 exactly if bit i of the result varies. `false`: a and B are two different registers, or B is a literal, which has w 0.
-- W says which V words of B it is asked of.
unfoldable pub Exact : (ℕ → ℕ → ℕ) → Rule → (ℕ → Type 0) → Type 0
Exact f rule W =
    (x v y w i : ℕ)
    → x < 2 ^ 32
    → v < 2 ^ 32
    → y < 2 ^ 32
    → w < 2 ^ 32
    → W w
    → (bit i (rule false x v y w) ≡ 1) ↔ ResultVaries f x v y w i

-- the operations of the claim beside MOV: ADD, SUB, MUL and LTU are not among them
pub data Claimed : Type 0 where
  and : Claimed
  or : Claimed
  xor : Claimed
  eq : Claimed
  shl : Claimed
  shr : Claimed
  sar : Claimed

unfoldable pub operation_of : Claimed → Operation
operation_of and = And
operation_of or = Or
operation_of xor = Xor
operation_of eq = Eq
operation_of shl = Shl
operation_of shr = Shr
operation_of sar = Sar

abbrev pub AnyWord : ℕ → Type 0
AnyWord w = Unit {0}

-- the V word of a word without undefined bits
abbrev pub AllDefined : ℕ → Type 0
AllDefined w = w ≡ 0

-- the V words of B that the claim is about: any; of a shift 0 alone
unfoldable pub Covered : Claimed → ℕ → Type 0
Covered and = AnyWord
Covered or = AnyWord
Covered xor = AnyWord
Covered eq = AnyWord
Covered shl = AllDefined
Covered shr = AllDefined
Covered sar = AllDefined

-- the claim, of one operation
unfoldable pub Real : Claimed → Type 0
Real o = Exact (action_of (operation_of o)) (shadow_of (operation_of o)) (Covered o)

-- and of MOV, which has one operand, B: a register or a literal
unfoldable pub MovReal : Type 0
MovReal =
    (y w i : ℕ)
    → y < 2 ^ 32
    → w < 2 ^ 32
    → (bit i (mov_v w) ≡ 1) ↔ Varies (Choice y w) (λ c. mov_of c.word) i
