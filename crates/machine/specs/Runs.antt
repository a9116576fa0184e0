-- A run and its end (01, A run, its lists and its end), for both machines: the stop reasons in their order, and steps up to the first that holds.
use Rattle.std.specs.Prelude.{ℕ, zero, suc, Bool, true, false, cond, ◌&&◌, eqb, leb}
use Rattle.image.specs.declared.Instruction.{Instruction}
use Rattle.image.specs.declared.Instruction.TheVariants.{Stop, Move, Compute, Load, Store, Jump, Emit, Mark}
use Rattle.machine.specs.Machine.{Program}

-- the stop reasons; 0 where there is none
abbrev pub goes_on : ℕ
goes_on = 0

abbrev pub stopped : ℕ
stopped = 1

abbrev pub past_end : ℕ
past_end = 2

abbrev pub no_budget : ℕ
no_budget = 3

abbrev pub no_place : ℕ
no_place = 4

-- of the bare machine alone (01: it seizes)
abbrev pub trapped : ℕ
trapped = 6

unfoldable pub is_stop : Instruction → Bool
is_stop Stop = true
is_stop (Move d b) = false
is_stop (Compute op d a b) = false
is_stop (Load width widening d a imm) = false
is_stop (Store width d a imm) = false
is_stop (Jump a target) = false
is_stop (Emit a port) = false
is_stop (Mark addressable start size) = false

unfoldable pub is_emit : Instruction → Bool
is_emit Stop = false
is_emit (Move d b) = false
is_emit (Compute op d a b) = false
is_emit (Load width widening d a imm) = false
is_emit (Store width d a imm) = false
is_emit (Jump a target) = false
is_emit (Emit a port) = true
is_emit (Mark addressable start size) = false

-- before each step, in this order: index N; STOP; EMIT with no output place left; no budget left
unfoldable pub reason_at : Program → (places left index outputs : ℕ) → ℕ
reason_at program places left index outputs =
    cond (leb program.count index) past_end
    (cond (is_stop (program.at index)) stopped
    (cond (is_emit (program.at index) && leb places outputs) no_place
    (cond (eqb left 0) no_budget
    goes_on)))

-- how a run ended, and what it left
pub record Ended (State : Type 0) : Type 0 where
  pub reason : ℕ
  pub state : State

abbrev pub ended : {State : Type 0} → ℕ → State → Ended State
ended reason state = record { reason = reason; state = state }

-- A run of a machine of any kind, with a budget of so many steps. `reason` looks at what is left of the budget and at the state, `next` makes one step.
-- An ending takes no step.
unfoldable pub run_on : {State : Type 0} → (ℕ → State → ℕ) → (State → State) → ℕ → State → Ended State
run_on reason next zero s = ended (reason 0 s) s
run_on reason next (suc left) s = elim (reason (suc left) s) [ zero ↦ run_on reason next left (next s) | suc r ↦ ended (suc r) s ]
