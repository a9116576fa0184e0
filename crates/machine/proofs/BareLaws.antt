-- Laws of the bare machine's run: what it means that it goes on; a budget of one more is one step more; where it traps, it ends with the state before that step.
use Prim.Native.Nat.{ℕ, zero, suc}
use mathlib.Core.Path.{◌≡◌, refl, ap}
use mathlib.Core.Bool.{Bool, true}
use lib.ListN.{length}
use lib.Dec.{eqb-suc-zero}
use Rattle.machine.specs.Machine.{Program}
use Rattle.machine.specs.Runs.{trapped, reason_at, ended}
use Rattle.machine.specs.Bare.{Bare, traps, or_trap, bare_reason, bare_next, bare_run}
use Rattle.machine.proofs.RunLaws.{Steady, halts, one_more, stays}
use Rattle.machine.proofs.CheckerLaws.{Goes, reason-goes, reason-steady}

no-reason : (trap : Bool) (reason : ℕ) → or_trap trap reason ≡ 0 → reason ≡ 0
unfolding or_trap
no-reason trap zero e = refl
no-reason trap (suc r) e = rw (eqb-suc-zero r) at e

module _ (program : Program) (places : ℕ) where
  -- where it goes on, none of the reasons 2, 1, 4 and 3 holds
  pub bare-goes : (left : ℕ) (c : Bare) → bare_reason program places left c ≡ 0 → Goes program places left c.index (length c.outputs)
  unfolding bare_reason
  bare-goes left c e = reason-goes program places left c.index (length c.outputs) (no-reason (traps program c) _ e)

  pub bare-steady : Steady (bare_reason program places) (bare_next program)
  unfolding bare_reason
  bare-steady j k c = ap (or_trap (traps program c)) (reason-steady program places j k c.index (length c.outputs))

  pub bare-one-more : (j : ℕ) (c : Bare) → bare_reason program places 1 (bare_run program places j c).state ≡ 0
      → (bare_run program places (suc j) c).state ≡ bare_next program (bare_run program places j c).state
  bare-one-more = one_more (bare_reason program places) (bare_next program) bare-steady

  pub bare-stays : (j r : ℕ) (c : Bare) → bare_reason program places 1 (bare_run program places j c).state ≡ suc r
      → (bare_run program places (suc j) c).state ≡ (bare_run program places j c).state
  bare-stays = stays (bare_reason program places) (bare_next program) bare-steady

  -- none of the reasons 2, 1, 4 and 3 holds, and some byte of the next access is unaddressable
  pub bare-traps : (left : ℕ) (c : Bare) → reason_at program places left c.index (length c.outputs) ≡ 0 → traps program c ≡ true
      → bare_run program places left c ≡ ended trapped c
  unfolding bare_reason or_trap
  bare-traps left c e t = halts (bare_reason program places) (bare_next program) left 5 c (rw (t, e))
