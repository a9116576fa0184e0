-- What laying regions keeps of the buffers, besides what it says of their bytes. Private functions alone cite it.
use Rattle.std.specs.Prelude.{◌≡◌}
use Rattle.checker.specs.declared.beginning.Buffers.{Buffers}

-- what b was lent is still lent to b'
pub record BuffersLent (b b' : Buffers) : Type 0 where
  pub mem : b'.mem.ghost_name ≡ b.mem.ghost_name
  pub vbits : b'.vbits.ghost_name ≡ b.vbits.ghost_name
  pub abits : b'.abits.ghost_name ≡ b.abits.ghost_name
