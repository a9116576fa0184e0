-- The eleven operations on two operands: what each does to data, and to V bits.
use Rattle.std.specs.Prelude.{ℕ}
use Rattle.rules.specs.Actions.{add_of, sub_of, mul_of, and_of, or_of, xor_of, shl_of, shr_of, sar_of, eq_of, ltu_of}
use Rattle.rules.specs.Shadows.{Rule, add_v, sub_v, mul_v, and_v, or_v, xor_v, shl_v, shr_v, sar_v, eq_v, ltu_v}
use Rattle.rules.specs.declared.Operation.{Operation}
use Rattle.rules.specs.declared.Operation.TheVariants.{Add, Sub, Mul, And, Or, Xor, Shl, Shr, Sar, Eq, Ltu}

unfoldable pub action_of : Operation → ℕ → ℕ → ℕ
action_of Add = add_of
action_of Sub = sub_of
action_of Mul = mul_of
action_of And = and_of
action_of Or = or_of
action_of Xor = xor_of
action_of Shl = shl_of
action_of Shr = shr_of
action_of Sar = sar_of
action_of Eq = eq_of
action_of Ltu = ltu_of

unfoldable pub shadow_of : Operation → Rule
shadow_of Add = add_v
shadow_of Sub = sub_v
shadow_of Mul = mul_v
shadow_of And = and_v
shadow_of Or = or_v
shadow_of Xor = xor_v
shadow_of Shl = shl_v
shadow_of Shr = shr_v
shadow_of Sar = sar_v
shadow_of Eq = eq_v
shadow_of Ltu = ltu_v
