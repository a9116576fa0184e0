use Rattle.std.proofs.Common.{◌-◌, ◌≡◌}
use Rattle.image.specs.Refusals.{bad_instruction, first_fault, instruction_ok, code_refusal}
use Rattle.image.proofs.entries.check_code.Given as goal

-- what is still to come decides
abbrev pub invariant-loop-i : goal.invariant-loop-i
invariant-loop-i g l =
    first_fault bad_instruction (instruction_ok (g.E.Entries.bytes l.code) l.n l.m) l.i (l.n - l.i) ≡ code_refusal (g.E.Entries.bytes l.code) l.n l.m
