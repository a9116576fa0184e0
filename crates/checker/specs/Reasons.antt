-- The stop reasons, as the code names them.
use Rattle.std.specs.Prelude.{ℕ, Option, None, Some}
use Rattle.machine.specs.Runs.{goes_on, stopped, past_end, no_budget, no_place}
use Rattle.checker.specs.declared.reasons.Reason.{Reason}
use Rattle.checker.specs.declared.reasons.Reason.TheVariants.{Stopped, PastEnd, NoBudget, NoPlace}

-- the number of each
abbrev pub reason_number : Reason → ℕ
reason_number Stopped = stopped
reason_number PastEnd = past_end
reason_number NoBudget = no_budget
reason_number NoPlace = no_place

-- a reason that may be none
abbrev pub reason_in : Option Reason → ℕ
reason_in None = goes_on
reason_in (Some reason) = reason_number reason
