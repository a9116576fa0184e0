-- A test of many numbers: the proofs use it for the rows of the table, the crate `machine` for ranges of bytes.
use Rattle.std.specs.Prelude.{ℕ, zero, suc, Bool, true, ◌&&◌}

-- every number below n passes
abbrev pub every : (ℕ → Bool) → ℕ → Bool
every test zero = true
every test (suc n) = every test n && test n
