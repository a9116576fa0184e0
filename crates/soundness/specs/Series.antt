-- A series (01, The bare machine): a beginning, and then any number of runs, accepted or refused. The checker's side is made of what
-- beginning and running answer; of it the bare machine is told the budgets of the runs that were accepted, and nothing else.
use Rattle.std.specs.Prelude.{ℕ, cond, List, [], ◌∷◌, eqb}
use Rattle.machine.specs.Machine.{World, Program}
use Rattle.machine.specs.Bare.{Bare, bare_run}
use Rattle.machine.specs.Calls.{Began, run_answer}

-- the checker after a beginning, with the lists that the first run gets
abbrev pub started_with : (reports outputs : List ℕ) → Began → World
started_with reports outputs began = record { parts = began.parts; counts = began.counts; report_list = reports; output_list = outputs }

-- the checker after runs with these budgets: each gets the state, buffers and lists that the one before returned or left
unfoldable pub checker_after : List ℕ → World → List ℕ → World
checker_after s w [] = w
checker_after s w (budget ∷ budgets) = checker_after s (run_answer s w budget).world budgets

-- the budgets of those runs that it accepts
unfoldable pub accepted_budgets : List ℕ → World → List ℕ → List ℕ
accepted_budgets s w [] = []
accepted_budgets s w (budget ∷ budgets) =
    cond (eqb (run_answer s w budget).refusal.number 0)
    (budget ∷ accepted_budgets s (run_answer s w budget).world budgets)
    (accepted_budgets s (run_answer s w budget).world budgets)

-- the bare machine after runs with these budgets
unfoldable pub bare_after : Program → (places : ℕ) → Bare → List ℕ → Bare
bare_after program places c [] = c
bare_after program places c (budget ∷ budgets) = bare_after program places (bare_run program places budget c).state budgets
