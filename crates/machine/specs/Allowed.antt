-- When a run is accepted, as facts without an order. `allowed-run` and `run-allowed` in proofs/AllowedRuns.antt say that refusals 1 to 11 accept
-- these runs and no others; `run-again` in proofs/Continued.antt, that what one run leaves the next refuses at most for its budget.
use Rattle.std.specs.Prelude.{ℕ, ◌+◌, ◌*◌, ◌%◌, ◌≤◌, ◌≡◌, List, length, get_or}
use Rattle.image.specs.Format.{field_m, field_n}
use Rattle.image.specs.Accepted.{Accepted}
use Rattle.machine.specs.Machine.{World}
use Rattle.machine.specs.Lists.{report_size, output_size, output_places}
use Rattle.machine.specs.Calls.{most_reports, most_outputs, most_steps}

-- whole entries of so many words, at most so many
pub record ListFits (size most : ℕ) (l : List ℕ) : Type 0 where
  pub whole : length l % size ≡ 0
  pub few : length l ≤ size * most

-- every A byte is 0 or 1
abbrev pub Marks : List ℕ → Type 0
Marks mem_a = (i : ℕ) → get_or mem_a i 0 ≤ 1

-- a state with its buffers and lists, in an image with N instructions and M bytes of memory
pub record Runnable (n m : ℕ) (w : World) : Type 0 where
  pub mem : length w.parts.mem ≡ m
  pub mem_v : length w.parts.mem_v ≡ m
  pub mem_a : length w.parts.mem_a ≡ m
  pub report_list : ListFits report_size most_reports w.report_list
  pub output_list : ListFits output_size most_outputs w.output_list
  pub marks : Marks w.parts.mem_a
  pub index : w.counts.index ≤ n
  pub outputs : w.counts.outputs ≤ output_places w.output_list
  pub reports : w.counts.reports ≤ 2 * w.counts.steps

pub record Allowed (s : List ℕ) (w : World) (budget : ℕ) : Type 0 where
  pub image : Accepted s
  pub runnable : Runnable (field_n s) (field_m s) w
  pub within : w.counts.steps + budget ≤ most_steps
