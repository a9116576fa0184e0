-- The theorem: every shadow rule is sound for the action of its operation.
use Rattle.std.proofs.Common.{ℕ, ◌*◌, ◌^◌, ltb}
use Rattle.rules.specs.Actions.{mov_of, mul_of, amount_of, shl_of, shr_of, sar_of}
use Rattle.rules.specs.Shadows.{mov_v}
use Rattle.rules.specs.Operations.{action_of, shadow_of}
use Rattle.rules.specs.Agreement.{Alike, Sound}
use Rattle.rules.specs.declared.Operation.{Operation}
use Rattle.rules.specs.declared.Operation.TheVariants.{Add, Sub, Mul, And, Or, Xor, Shl, Shr, Sar, Eq, Ltu}
use Rattle.rules.proofs.Congruence.{wrapped-lt}
use Rattle.rules.proofs.Carry.{carries-sound, mul-carries}
use Rattle.rules.proofs.Sum.{add-sound, sub-sound}
use Rattle.rules.proofs.Bitwise.{and_sound, or_sound, xor_sound}
use Rattle.rules.proofs.Shift.{shift-sound, shl-moves, shr-moves, sar-moves, shr_lt, sar-lt}
use Rattle.rules.proofs.Compare.{test-sound, eq-sound}

pub mov-sound : {v y y' : ℕ} → Alike 32 v y y' → Alike 32 (mov_v v) (mov_of y) (mov_of y')
mov-sound a = a

pub sound : (o : Operation) → Sound (action_of o) (shadow_of o)
unfolding action_of shadow_of
sound Add = add-sound
sound Sub = sub-sound
sound Mul = carries-sound mul_of mul-carries (λ x y. wrapped-lt (x * y))
sound And = and_sound
sound Or = or_sound
sound Xor = xor_sound
sound Shl = shift-sound shl_of shl-moves (λ x y h. wrapped-lt (x * 2 ^ amount_of y))
sound Shr = shift-sound shr_of shr-moves shr_lt
sound Sar = shift-sound sar_of sar-moves sar-lt
sound Eq = eq-sound
sound Ltu = test-sound ltb
