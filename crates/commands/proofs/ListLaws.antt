-- The test of a list of outputs, place by place.
use Prim.Native.Nat.{ℕ, ◌+◌, ◌*◌, ◌≤◌, ◌<◌}
use mathlib.Core.Path.{◌≡◌, refl, sym}
use mathlib.Core.Bool.{Bool, true, false, ◌&&◌}
use mathlib.Core.List.{List}
use native.Mathlib.Omega.{arith}
use borrow.Author.Tests.{lt-ltb, le-ltb, ltb-true}
use lib.Dec.{ltb}
use lib.ListN.{get_or}
use Rattle.image.specs.Format.{ports}
use Rattle.image.proofs.Tests.{both, all-every, not-every}
use Rattle.machine.specs.Lists.{output_size, output_places}
use Rattle.machine.specs.Calls.{most_outputs, list_ok}
use Rattle.commands.specs.Answers.{port_at, has_port, ports_ok, accepts}

-- each output names a port if the test says so, and else one does not
pub ports-from : (outputs : List ℕ) (r : Bool) → (r ≡ true → (k : ℕ) → k < output_places outputs → get_or outputs (k * output_size + 0) 0 < ports)
    → (r ≡ false → (k : ℕ) × (k < output_places outputs) × (ports ≤ get_or outputs (k * output_size + 0) 0)) → r ≡ ports_ok outputs
unfolding ports_ok
ports-from outputs true each one =
    sym (all-every (has_port outputs) (output_places outputs) (λ k l. lt-ltb (port_at outputs k) ports (let e : output_size * k ≡ k * output_size + 0 = omega arith in rw e (each refl k l))))
ports-from outputs false each one =
    let f = one refl in
    sym (not-every (has_port outputs) (output_places outputs) f.0 f.1 (le-ltb (port_at outputs f.0) ports (let e : output_size * f.0 ≡ f.0 * output_size + 0 = omega arith in rw e f.2)))

-- an accepted number is that of an output
pub in_list : (outputs : List ℕ) (number : ℕ) → accepts outputs number ≡ true → number < output_places outputs
unfolding accepts
in_list outputs number h = ltb-true number (output_places outputs) (both (list_ok output_size most_outputs outputs && ports_ok outputs) (ltb number (output_places outputs)) h).1
